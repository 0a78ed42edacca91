-- The entries of a map of keys as versions.
use Rattle.std.proofs.Common.{◌≡◌, ℕ, Bool, true, false, not, ◌&&◌, ◌||◌, cond, List, [], ◌∷◌, Option, None, Some, Result, Ok, Err, refl, sym, ap, ◌∙◌}
use Rattle.std.specs.List.{list_any, AllByRecursion}
use Rattle.std.specs.List.Sorted.{IsStrictlySortedBy}
use Rattle.std.specs.Str.{bytes_eq}
use Rattle.std.specs.Option.{unwrap_or}
use Rattle.std.specs.Result.{IfOk, OnOk}
use Rattle.std.specs.Map.{keys_of, lookup, remove_entry, set_value}
use Rattle.std.specs.BTreeMap.{insert_entry, is_at}
use Rattle.std.specs.Ordering.{is_eq, is_lt, match_ordering, nat_cmp}
use Rattle.std.specs.declared.cmp.Ordering.{Ordering}
use Rattle.std.specs.declared.cmp.Ordering.TheVariants.{Less, Equal, Greater}
use Rattle.std.specs.Cmp.{eq_by_cmp_equiv}
use Rattle.std.specs.Cmp.Lexicographic.{slice_cmp}
use Rattle.std.proofs.lemmas.Bool.{true≢false, false≢true}
use Rattle.std.proofs.lemmas.Cmp.{nat_list_eq_equiv}
use Rattle.std.proofs.lemmas.Map.{NonePasses}
use Rattle.std.proofs.lemmas.Map.Entries.{none_past_head}
use Rattle.std.proofs.lemmas.Map.Keys.{IsDistinct-from_sorted}
use Rattle.ev_types.specs.Kinds.{kind_same, kind_decides}
use Rattle.ev_types.specs.declared.contents.Kind.{Kind}
use Rattle.ev_types.specs.declared.contents.Kind.TheVariants.{Cds, Eds, Lds, Rds, Sds, Ecds}
use Rattle.ev_types.specs.declared.rows.KeptVersion.{KeptVersion}
use Rattle.ev_lookups.specs.Keys.{key_decides, named}
use Rattle.ev_lookups.specs.declared.kind_keys.Key.{Key}
use Rattle.ev_model.specs.Versions.{is_before, is_bounded, is_kept, is_version_of, renewed, with_version, without_version}
use Rattle.ev_subscription.specs.declared.versions.Held.{Held}
use Rattle.ev_subscription.specs.Held.{Entries, bounded_in, key_order, version_at, versions_in}
use Rattle.ev_subscription.specs.KeyOrder.{keys_tie, keys_total}
use Rattle.ev_subscription.specs.Subscriptions.{kept_of}
use Rattle.ev_subscription.proofs.KindLemmas.{before_all, kind_symm}

-- the key of an entry is found exactly where the version is that of the name
here : (key : Key) (e : Key × Held) → is_at (key_order key) e.0 ≡ is_version_of key.kind key.name (version_at e)
here key e = sym (keys_tie key e.0) ∙ (λ i. kind_symm key.kind e.0.kind i && nat_list_eq_equiv.symm key.name e.0.name i)

-- an equal key is the same
same_key : (key other : Key) → is_at (key_order key) other ≡ true → key ≡ other
same_key key other is = (key_decides key other).0 (keys_tie key other ∙ is)

-- keys of one kind compare by their names
of_one_kind : (kind : Kind) (a b : List ℕ) → key_order (named kind a) (named kind b) ≡ slice_cmp nat_cmp a b
of_one_kind Cds a b = refl
of_one_kind Eds a b = refl
of_one_kind Lds a b = refl
of_one_kind Rds a b = refl
of_one_kind Sds a b = refl
of_one_kind Ecds a b = refl

by_name : (key other : Key) → kind_same other.kind key.kind ≡ true → key_order key other ≡ slice_cmp nat_cmp key.name other.name
by_name key other is = (λ i. key_order key (named ((kind_decides other.kind key.kind).0 is i) other.name)) ∙ of_one_kind key.kind key.name other.name

-- those of a kind that come behind a key come behind its name
behind : (key : Key) (es : Entries) → AllByRecursion (λ k. key_order key k ≡ Less) (keys_of es)
    → AllByRecursion (λ (other : KeptVersion). is_before key.name other.name ≡ true) (kept_of key.kind (versions_in es))
behind key [] all = tt
behind key (e ∷ es) all = by (kind_same e.0.kind key.kind) refl (behind key es all.1)
  where
    by : (t : Bool) → kind_same e.0.kind key.kind ≡ t → AllByRecursion (λ (other : KeptVersion). is_before key.name other.name ≡ true) (kept_of key.kind (versions_in es))
        → AllByRecursion (λ (other : KeptVersion). is_before key.name other.name ≡ true) (cond t (version_at e ∷ kept_of key.kind (versions_in es)) (kept_of key.kind (versions_in es)))
    by true is rest = (ap is_lt (sym (by_name key e.0 is) ∙ all.0), rest)
    by false is rest = rest

-- a key that comes before the first comes before all
before_first : (key : Key) (e : Key × Held) (es : Entries) → key_order key e.0 ≡ Less → AllByRecursion (λ k. key_order e.0 k ≡ Less) (keys_of es)
    → AllByRecursion (λ k. key_order key k ≡ Less) (keys_of es)
before_first key e [] less all = tt
before_first key e (f ∷ es) less all = (keys_total.trans key e.0 f.0 less all.0, before_first key e es less all.1)

first_kept : (k : Kind) (v : KeptVersion) (vs : List KeptVersion) → kind_same v.kind k ≡ true → kept_of k (v ∷ vs) ≡ v ∷ kept_of k vs
first_kept k v vs is = ap (λ t. cond t (v ∷ kept_of k vs) (kept_of k vs)) is

first_left : (k : Kind) (v : KeptVersion) (vs : List KeptVersion) → kind_same v.kind k ≡ false → kept_of k (v ∷ vs) ≡ kept_of k vs
first_left k v vs is = ap (λ t. cond t (v ∷ kept_of k vs) (kept_of k vs)) is

with_here : (new kept : KeptVersion) (others : List KeptVersion) → is_version_of new.kind new.name kept ≡ true → with_version new (kept ∷ others) ≡ new ∷ others
with_here new kept others is = ap (λ t. cond t (new ∷ others) (cond (is_before new.name kept.name) (new ∷ kept ∷ others) (kept ∷ with_version new others))) is

with_behind : (new kept : KeptVersion) (others : List KeptVersion) → is_version_of new.kind new.name kept ≡ false → is_before new.name kept.name ≡ false
    → with_version new (kept ∷ others) ≡ kept ∷ with_version new others
with_behind new kept others isnt later = λ i. cond (isnt i) (new ∷ others) (cond (later i) (new ∷ kept ∷ others) (kept ∷ with_version new others))

module _ (key : Key) (held : Held) where
  abbrev new : KeptVersion
  new = version_at (key, held)

  own : kind_same key.kind key.kind ≡ true
  own = (kind_decides key.kind key.kind).1 refl

  -- an entry that is put in holds its version among those of its kind
  held_of_kind : (es : Entries) → IsStrictlySortedBy key_order (keys_of es)
      → kept_of key.kind (versions_in (insert_entry key_order es key held)) ≡ with_version new (kept_of key.kind (versions_in es))
  unfolding IsStrictlySortedBy
  held_of_kind [] sorted = first_kept key.kind new [] own
  held_of_kind (e ∷ es) sorted = by (key_order key e.0) refl (held_of_kind es sorted.1)
    where
      equal : is_at (key_order key) e.0 ≡ true → kept_of key.kind (version_at (e.0, held) ∷ versions_in es) ≡ with_version new (kept_of key.kind (version_at e ∷ versions_in es))
      equal at =
          let same : key ≡ e.0 = same_key key e.0 at in
          let of : kind_same key.kind key.kind ≡ kind_same e.0.kind key.kind = (λ i. kind_same (same i).kind key.kind) in
          (λ i. kept_of key.kind (version_at (sym same i, held) ∷ versions_in es))
          ∙ first_kept key.kind new (versions_in es) own
          ∙ sym (ap (with_version new) (first_kept key.kind (version_at e) (versions_in es) (sym of ∙ own))
          ∙ with_here new (version_at e) (kept_of key.kind (versions_in es)) (sym (here key e) ∙ at))

      later : key_order key e.0 ≡ Greater → kept_of key.kind (versions_in (insert_entry key_order es key held)) ≡ with_version new (kept_of key.kind (versions_in es))
          → (t : Bool) → kind_same e.0.kind key.kind ≡ t
          → kept_of key.kind (version_at e ∷ versions_in (insert_entry key_order es key held)) ≡ with_version new (kept_of key.kind (version_at e ∷ versions_in es))
      later greater rest true is =
          first_kept key.kind (version_at e) (versions_in (insert_entry key_order es key held)) is
          ∙ ap (λ vs. version_at e ∷ vs) rest
          ∙ sym (ap (with_version new) (first_kept key.kind (version_at e) (versions_in es) is)
          ∙ with_behind new (version_at e) (kept_of key.kind (versions_in es)) (sym (here key e) ∙ ap is_eq greater) (ap is_lt (sym (by_name key e.0 is) ∙ greater)))
      later greater rest false is =
          first_left key.kind (version_at e) (versions_in (insert_entry key_order es key held)) is
          ∙ rest
          ∙ sym (ap (with_version new) (first_left key.kind (version_at e) (versions_in es) is))

      by : (r : Ordering) → key_order key e.0 ≡ r
          → kept_of key.kind (versions_in (insert_entry key_order es key held)) ≡ with_version new (kept_of key.kind (versions_in es))
          → kept_of key.kind (versions_in (match_ordering r ((key, held) ∷ e ∷ es) ((e.0, held) ∷ es) (e ∷ insert_entry key_order es key held)))
          ≡ with_version new (kept_of key.kind (versions_in (e ∷ es)))
      by Less less rest =
          first_kept key.kind new (versions_in (e ∷ es)) own
          ∙ sym (before_all new (kept_of key.kind (versions_in (e ∷ es))) (behind key (e ∷ es) (less, before_first key e es less sorted.0)))
      by Equal at rest = equal (ap is_eq at)
      by Greater greater rest = later greater rest (kind_same e.0.kind key.kind) refl

  -- and among those of another kind nothing changes
  held_of_other : (k : Kind) → kind_same key.kind k ≡ false → (es : Entries) → kept_of k (versions_in (insert_entry key_order es key held)) ≡ kept_of k (versions_in es)
  held_of_other k other [] = first_left k new [] other
  held_of_other k other (e ∷ es) = by (key_order key e.0) refl (held_of_other k other es)
    where
      by : (r : Ordering) → key_order key e.0 ≡ r → kept_of k (versions_in (insert_entry key_order es key held)) ≡ kept_of k (versions_in es)
          → kept_of k (versions_in (match_ordering r ((key, held) ∷ e ∷ es) ((e.0, held) ∷ es) (e ∷ insert_entry key_order es key held))) ≡ kept_of k (versions_in (e ∷ es))
      by Less less rest = first_left k new (versions_in (e ∷ es)) other
      by Equal at rest =
          let same : key ≡ e.0 = same_key key e.0 (ap is_eq at) in
          let far : kind_same e.0.kind k ≡ false = (λ i. kind_same (sym same i).kind k) ∙ other in
          first_left k (version_at (e.0, held)) (versions_in es) far ∙ sym (first_left k (version_at e) (versions_in es) far)
      by Greater greater rest = λ i. cond (kind_same e.0.kind k) (version_at e ∷ rest i) (rest i)

  pub held_more : (es : Entries) → IsStrictlySortedBy key_order (keys_of es) → (k : Kind)
      → kept_of k (versions_in (insert_entry key_order es key held)) ≡ cond (kind_same k key.kind) (with_version new (kept_of key.kind (versions_in es))) (kept_of k (versions_in es))
  held_more es sorted k = by (kind_same k key.kind) refl
    where
      by : (t : Bool) → kind_same k key.kind ≡ t
          → kept_of k (versions_in (insert_entry key_order es key held)) ≡ cond t (with_version new (kept_of key.kind (versions_in es))) (kept_of k (versions_in es))
      by true is = (λ i. kept_of ((kind_decides k key.kind).0 is i) (versions_in (insert_entry key_order es key held))) ∙ held_of_kind es sorted
      by false is = held_of_other k (kind_symm key.kind k ∙ is) es

-- where no key is found, what is left without the name is all
all_left : (key : Key) (es : Entries) → NonePasses (is_at (key_order key)) es → versions_in es ≡ without_version key.kind key.name (versions_in es)
all_left key [] none = refl
all_left key (e ∷ es) none = by (is_version_of key.kind key.name (version_at e)) (sym (here key e) ∙ none.0) (all_left key es none.1)
  where
    by : (t : Bool) → t ≡ false → versions_in es ≡ without_version key.kind key.name (versions_in es)
        → version_at e ∷ versions_in es ≡ cond (not t) (version_at e ∷ without_version key.kind key.name (versions_in es)) (without_version key.kind key.name (versions_in es))
    by true h rest = absurd (true≢false h)
    by false h rest = ap (λ vs. version_at e ∷ vs) rest

-- an entry that is taken out is a version forgotten
pub held_less : (key : Key) (es : Entries) → IsStrictlySortedBy key_order (keys_of es)
    → versions_in (remove_entry (is_at (key_order key)) es) ≡ without_version key.kind key.name (versions_in es)
unfolding IsStrictlySortedBy
held_less key [] sorted = refl
held_less key (e ∷ es) sorted = by (is_at (key_order key) e.0) (is_version_of key.kind key.name (version_at e)) refl (here key e) (held_less key es sorted.1)
  where
    by : (t u : Bool) → is_at (key_order key) e.0 ≡ t → t ≡ u
        → versions_in (remove_entry (is_at (key_order key)) es) ≡ without_version key.kind key.name (versions_in es)
        → versions_in (cond t es (e ∷ remove_entry (is_at (key_order key)) es))
        ≡ cond (not u) (version_at e ∷ without_version key.kind key.name (versions_in es)) (without_version key.kind key.name (versions_in es))
    by true true at h rest =
        all_left key es (none_past_head (eq_by_cmp_equiv keys_total) key e es (IsDistinct-from_sorted key_order (keys_of (e ∷ es)) sorted) at)
    by true false at h rest = absurd (true≢false h)
    by false true at h rest = absurd (false≢true h)
    by false false at h rest = ap (λ vs. version_at e ∷ vs) rest

-- an entry as bounded is a version as bounded
pub held_bounded : (key : Key) (es : Entries) → versions_in (bounded_in key es) ≡ renewed key.kind key.name (versions_in es)
held_bounded key [] = refl
held_bounded key (e ∷ es) = by (is_at (key_order key) e.0) (is_version_of key.kind key.name (version_at e)) (here key e) (held_bounded key es)
  where
    by : (t u : Bool) → t ≡ u → versions_in (bounded_in key es) ≡ renewed key.kind key.name (versions_in es)
        → version_at (cond t (e.0, record e.1 { bounded = true }) e) ∷ versions_in (bounded_in key es)
        ≡ cond u (record (version_at e) { bounded = true }) (version_at e) ∷ renewed key.kind key.name (versions_in es)
    by true true h rest = ap (λ vs. version_at (e.0, record e.1 { bounded = true }) ∷ vs) rest
    by true false h rest = absurd (true≢false h)
    by false true h rest = absurd (false≢true h)
    by false false h rest = ap (λ vs. version_at e ∷ vs) rest

-- what is said of what a look-up finds
abbrev pub told_of : (Held → Bool) → Option Held → Bool
told_of test None = false
told_of test (Some held) = test held

-- no key is found, so none of the name is reported
none_told : (key : Key) (test : KeptVersion → Bool) (es : Entries) → NonePasses (is_at (key_order key)) es
    → list_any (λ (kept : KeptVersion). is_version_of key.kind key.name kept && test kept) (versions_in es) ≡ false
none_told key test [] none = refl
none_told key test (e ∷ es) none = by (is_version_of key.kind key.name (version_at e)) (sym (here key e) ∙ none.0) (none_told key test es none.1)
  where
    by : (t : Bool) → t ≡ false → list_any (λ (kept : KeptVersion). is_version_of key.kind key.name kept && test kept) (versions_in es) ≡ false
        → ((t && test (version_at e)) || list_any (λ (kept : KeptVersion). is_version_of key.kind key.name kept && test kept) (versions_in es)) ≡ false
    by true h rest = absurd (true≢false h)
    by false h rest = rest

or_false : (a b : Bool) → b ≡ false → a ≡ (a || b)
or_false true b none = refl
or_false false b none = sym none

-- a look-up finds what a search of the versions does
pub held_found : (key : Key) (test : KeptVersion → Bool) (held_test : Held → Bool)
    → ((e : Key × Held) → held_test e.1 ≡ test (version_at e)) → (es : Entries) → IsStrictlySortedBy key_order (keys_of es)
    → told_of held_test (lookup (is_at (key_order key)) es) ≡ list_any (λ (kept : KeptVersion). is_version_of key.kind key.name kept && test kept) (versions_in es)
unfolding IsStrictlySortedBy
held_found key test held_test same [] sorted = refl
held_found key test held_test same (e ∷ es) sorted =
    by (is_at (key_order key) e.0) (is_version_of key.kind key.name (version_at e)) refl (here key e) (held_found key test held_test same es sorted.1)
  where
    by : (t u : Bool) → is_at (key_order key) e.0 ≡ t → t ≡ u
        → told_of held_test (lookup (is_at (key_order key)) es) ≡ list_any (λ (kept : KeptVersion). is_version_of key.kind key.name kept && test kept) (versions_in es)
        → told_of held_test (cond t (Some e.1) (lookup (is_at (key_order key)) es))
        ≡ ((u && test (version_at e)) || list_any (λ (kept : KeptVersion). is_version_of key.kind key.name kept && test kept) (versions_in es))
    by true true at h rest =
        same e ∙ or_false (test (version_at e)) (list_any (λ (kept : KeptVersion). is_version_of key.kind key.name kept && test kept) (versions_in es))
        (none_told key test es (none_past_head (eq_by_cmp_equiv keys_total) key e es (IsDistinct-from_sorted key_order (keys_of (e ∷ es)) sorted) at))
    by true false at h rest = absurd (true≢false h)
    by false true at h rest = absurd (false≢true h)
    by false false at h rest = rest

-- where no key is found nothing is written
all_unbounded : (key : Key) (es : Entries) → NonePasses (is_at (key_order key)) es → bounded_in key es ≡ es
all_unbounded key [] none = refl
all_unbounded key (e ∷ es) none = by (is_at (key_order key) e.0) none.0 (all_unbounded key es none.1)
  where
    by : (t : Bool) → t ≡ false → bounded_in key es ≡ es → cond t (e.0, record e.1 { bounded = true }) e ∷ bounded_in key es ≡ e ∷ es
    by true h rest = absurd (true≢false h)
    by false h rest = ap (λ vs. e ∷ vs) rest

-- a value written through a look-up
pub bound_written : (key : Key) (es : Entries) (held : Held) → IsStrictlySortedBy key_order (keys_of es) → lookup (is_at (key_order key)) es ≡ Some held
    → set_value (is_at (key_order key)) es (record held { bounded = true }) ≡ bounded_in key es
unfolding IsStrictlySortedBy
bound_written key [] held sorted found = cc
bound_written key (e ∷ es) held sorted found = by (is_at (key_order key) e.0) refl found (bound_written key es held sorted.1)
  where
    by : (t : Bool) → is_at (key_order key) e.0 ≡ t → cond t (Some e.1) (lookup (is_at (key_order key)) es) ≡ Some held
        → (lookup (is_at (key_order key)) es ≡ Some held → set_value (is_at (key_order key)) es (record held { bounded = true }) ≡ bounded_in key es)
        → cond t ((e.0, record held { bounded = true }) ∷ es) (e ∷ set_value (is_at (key_order key)) es (record held { bounded = true }))
        ≡ cond t (e.0, record e.1 { bounded = true }) e ∷ bounded_in key es
    by true at is rest =
        (λ i. (e.0, record (unwrap_or (sym is i) held) { bounded = true }) ∷ es)
        ∙ ap (λ vs. (e.0, record e.1 { bounded = true }) ∷ vs)
        (sym (all_unbounded key es (none_past_head (eq_by_cmp_equiv keys_total) key e es (IsDistinct-from_sorted key_order (keys_of (e ∷ es)) sorted) at)))
    by false at is rest = ap (λ vs. e ∷ vs) (rest is)

-- where nothing is found nothing changes
pub bound_missed : (key : Key) (es : Entries) → lookup (is_at (key_order key)) es ≡ None → es ≡ bounded_in key es
bound_missed key [] none = refl
bound_missed key (e ∷ es) none = by (is_at (key_order key) e.0) none (bound_missed key es)
  where
    by : (t : Bool) → cond t (Some e.1) (lookup (is_at (key_order key)) es) ≡ None → (lookup (is_at (key_order key)) es ≡ None → es ≡ bounded_in key es)
        → e ∷ es ≡ cond t (e.0, record e.1 { bounded = true }) e ∷ bounded_in key es
    by true is rest = cc
    by false is rest = ap (λ vs. e ∷ vs) (rest is)

-- the version of a name, where one is held
pub kept_found : (key : Key) (version : List ℕ) (es : Entries) → IsStrictlySortedBy key_order (keys_of es)
    → told_of (λ (held : Held). bytes_eq held.version version) (lookup (is_at (key_order key)) es) ≡ is_kept (versions_in es) key.kind key.name version
kept_found key version es sorted =
    held_found key (λ (kept : KeptVersion). bytes_eq kept.version version) (λ (held : Held). bytes_eq held.version version) (λ e. refl) es sorted

-- the mark of a name, where a version is held
pub bounded_found : (key : Key) (es : Entries) → IsStrictlySortedBy key_order (keys_of es)
    → told_of (λ (held : Held). held.bounded) (lookup (is_at (key_order key)) es) ≡ is_bounded (versions_in es) key.kind key.name
bounded_found key es sorted = held_found key (λ (kept : KeptVersion). kept.bounded) (λ (held : Held). held.bounded) (λ e. refl) es sorted

-- what is so of an answer where there is one
pub if_ok_more : {V E : Type 0} (P Q : V → Type 0) (r : Result V E) → ((v : V) → P v → Q v) → IfOk r P → IfOk r Q
if_ok_more P Q (Ok v) so p = so v p
if_ok_more P Q (Err e) so p = p

pub on_ok : {V E : Type 0} (P Q : Type 0) (r : Result V E) → (P → Q) → OnOk r P → OnOk r Q
on_ok P Q (Ok v) so p = so p
on_ok P Q (Err e) so p = p

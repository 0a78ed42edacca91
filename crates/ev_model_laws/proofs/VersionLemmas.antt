-- Of each kind and name at most one version is kept, and the versions are in the order
-- of their names: a new one takes the place of that of its kind and name,
-- or comes before the first whose name is greater.
use Rattle.std.proofs.Common.{◌≡◌, ℕ, ◌≤◌, Bool, true, false, cond, List, [], ◌∷◌, map, filter, refl, sym, ap, Ordering, Less, Equal, Greater, ◌∙◌, subst, le_trans, arith}
use Rattle.std.specs.Bool.{Decides}
use Rattle.std.specs.List.{AllByRecursion as ByRecursion}
use Rattle.std.specs.Ordering.{is_lt, nat_cmp, ordering_reverse}
use Rattle.std.specs.Cmp.Lexicographic.{slice_cmp}
use Rattle.std.proofs.lemmas.Bool.{false≢true, cond_both, false_from_ne_true}
use Rattle.std.proofs.lemmas.Cmp.{nat_list_cmp_total}
use Rattle.ev_types.specs.Kinds.{kind_decides}
use Rattle.ev_types.specs.Same.{bytes_decide, both_decide}
use Rattle.ev_types.specs.declared.contents.Kind.{Kind}
use Rattle.ev_types.specs.declared.rows.GenRow.{GenRow}
use Rattle.ev_types.specs.declared.rows.KeptVersion.{KeptVersion}
use Rattle.ev_types.specs.declared.rows.Phase.{Phase}
use Rattle.ev_model.specs.World.{opening}
use Rattle.ev_model.specs.Versions.{is_version_of, is_before, with_version, renewed}
use Rattle.ev_model_laws.specs.VersionsKept.{AreByName, AreKeptOnce, KeepsVersions}
use Rattle.ev_model_laws.proofs.CountLemmas.{count, fewer_by_one, one_more, fewer_left}
use Rattle.ev_model_laws.proofs.KeepLemmas.{KeepsAll, step-keeps-all, run-keeps-all}

pub is_less : (r : Ordering) → is_lt r ≡ true → r ≡ Less
is_less Less h = refl
is_less Equal h = absurd (false≢true h)
is_less Greater h = absurd (false≢true h)

less_once : (r : Ordering) → is_lt r ≡ true → is_lt (ordering_reverse r) ≡ false
less_once Less h = refl
less_once Equal h = refl
less_once Greater h = absurd (false≢true h)

-- of two texts at most one is before the other
pub before_once : (a b : List ℕ) → is_before a b ≡ true → is_before b a ≡ false
before_once a b before = ap is_lt (nat_list_cmp_total.antisymm b a) ∙ less_once (slice_cmp nat_cmp a b) before

pub not_before_itself : (a : List ℕ) → is_before a a ≡ false
not_before_itself a = false_from_ne_true (is_before a a) (λ before. false≢true (sym (before_once a a before) ∙ before))

-- what isn't before a text isn't before one that is before it
pub stays_behind : (a b c : List ℕ) → is_before a b ≡ true → is_before c b ≡ false → is_before c a ≡ false
stays_behind a b c before behind =
    false_from_ne_true (is_before c a)
    (λ h. false≢true (sym behind ∙ ap is_lt (nat_list_cmp_total.trans c a b (is_less (slice_cmp nat_cmp c a) h) (is_less (slice_cmp nat_cmp a b) before))))

-- a version of this kind and name has this kind and this name
pub version_decides : (kind : Kind) (name : List ℕ) (kept : KeptVersion)
    → Decides (is_version_of kind name kept) ((kept.kind ≡ kind) × (kept.name ≡ name))
version_decides kind name kept = both_decide (kind_decides kept.kind kind) (bytes_decide kept.name name)

all_so : (P Q : KeptVersion → Type 0) (versions : List KeptVersion) → ((kept : KeptVersion) → P kept → Q kept)
    → ByRecursion P versions → ByRecursion Q versions
all_so P Q [] so all = tt
all_so P Q (kept ∷ others) so all = (so kept all.0, all_so P Q others so all.1)

all_left : (P : KeptVersion → Type 0) (test : KeptVersion → Bool) (versions : List KeptVersion)
    → ByRecursion P versions → ByRecursion P (filter test versions)
all_left P test [] all = tt
all_left P test (kept ∷ others) all =
    cond_both (test kept) (kept ∷ filter test others) (filter test others) (ByRecursion P)
    (λ passes. (all.0, all_left P test others all.1))
    (λ fails. all_left P test others all.1)

left_by_name : (test : KeptVersion → Bool) (versions : List KeptVersion) → AreByName versions → AreByName (filter test versions)
left_by_name test [] by_name = tt
left_by_name test (kept ∷ others) by_name =
    cond_both (test kept) (kept ∷ filter test others) (filter test others) AreByName
    (λ passes. (all_left (λ (other : KeptVersion). is_before other.name kept.name ≡ false) test others by_name.0, left_by_name test others by_name.1))
    (λ fails. left_by_name test others by_name.1)

-- a new version takes the first one's place, or comes before it, or after it
module _ (P : List KeptVersion → Type 0) (new kept : KeptVersion) (others : List KeptVersion) where
  pub placed : (is_version_of new.kind new.name kept ≡ true → P (new ∷ others))
      → (is_before new.name kept.name ≡ true → P (new ∷ kept ∷ others))
      → (is_version_of new.kind new.name kept ≡ false → is_before new.name kept.name ≡ false → P (kept ∷ with_version new others))
      → P (with_version new (kept ∷ others))
  placed in_place in_front further =
      cond_both (is_version_of new.kind new.name kept) (new ∷ others)
      (cond (is_before new.name kept.name) (new ∷ kept ∷ others) (kept ∷ with_version new others)) P
      in_place
      (λ other.
      cond_both (is_before new.name kept.name) (new ∷ kept ∷ others) (kept ∷ with_version new others) P
      in_front (further other))

pub all_with : (P : KeptVersion → Type 0) (new : KeptVersion) (versions : List KeptVersion)
    → P new → ByRecursion P versions → ByRecursion P (with_version new versions)
all_with P new [] here all = (here, tt)
all_with P new (kept ∷ others) here all =
    placed (ByRecursion P) new kept others
    (λ same. (here, all.1))
    (λ before. (here, all))
    (λ other behind. (all.0, all_with P new others here all.1))

with_by_name : (new : KeptVersion) (versions : List KeptVersion) → AreByName versions → AreByName (with_version new versions)
with_by_name new [] by_name = (tt, tt)
with_by_name new (kept ∷ others) by_name =
    placed AreByName new kept others
    (λ same.
    let named : kept.name ≡ new.name = ((version_decides new.kind new.name kept).0 same).1 in
    (subst (λ name. ByRecursion (λ (other : KeptVersion). is_before other.name name ≡ false) others) named by_name.0, by_name.1))
    (λ before.
    let behind : ByRecursion (λ (other : KeptVersion). is_before other.name new.name ≡ false) others =
    all_so (λ (other : KeptVersion). is_before other.name kept.name ≡ false) (λ (other : KeptVersion). is_before other.name new.name ≡ false) others
    (λ other. stays_behind new.name kept.name other.name before) by_name.0 in
    ((before_once new.name kept.name before, behind), by_name))
    (λ other behind. (
      all_with (λ (other : KeptVersion). is_before other.name kept.name ≡ false) new others behind by_name.0,
      with_by_name new others by_name.1,
    ))

none_counted : (test : KeptVersion → Bool) (versions : List KeptVersion)
    → ByRecursion (λ (kept : KeptVersion). test kept ≡ false) versions → count test versions ≤ 0
none_counted test [] none = omega arith
none_counted test (kept ∷ others) none = simp none.0 (none_counted test others none.1)

-- a new version that doesn't pass makes no more pass
fewer_with : (test : KeptVersion → Bool) (new : KeptVersion) (versions : List KeptVersion) → test new ≡ false
    → count test (with_version new versions) ≤ count test versions
fewer_with test new [] fails = simp fails (omega arith)
fewer_with test new (kept ∷ others) fails =
    placed (λ versions. count test versions ≤ count test (kept ∷ others)) new kept others
    (λ same. simp fails (one_more (test kept) kept (filter test others)))
    (λ before. simp fails (omega arith))
    (λ other behind. fewer_by_one (test kept) (test kept) kept kept _ _ (λ passes. passes) (fewer_with test new others fails))

-- two versions of one kind and name
is_of_both : (kind : Kind) (name : List ℕ) (one other : KeptVersion) → is_version_of kind name one ≡ true → is_version_of kind name other ≡ true
    → is_version_of one.kind one.name other ≡ true
is_of_both kind name one other first second =
    let of_one : (one.kind ≡ kind) × (one.name ≡ name) = (version_decides kind name one).0 first in
    let of_other : (other.kind ≡ kind) × (other.name ≡ name) = (version_decides kind name other).0 second in
    (version_decides one.kind one.name other).1 (of_other.0 ∙ sym of_one.0, of_other.1 ∙ sym of_one.1)

-- a version of the kind and name of another one is what that is
is_of_same : (kind : Kind) (name : List ℕ) (one other : KeptVersion) → is_version_of kind name one ≡ true → is_version_of one.kind one.name other ≡ true
    → is_version_of kind name other ≡ true
is_of_same kind name one other first second =
    let of_one : (one.kind ≡ kind) × (one.name ≡ name) = (version_decides kind name one).0 first in
    let of_other : (other.kind ≡ one.kind) × (other.name ≡ one.name) = (version_decides one.kind one.name other).0 second in
    (version_decides kind name other).1 (of_other.0 ∙ of_one.0, of_other.1 ∙ of_one.1)

-- a version before which one of this kind and name goes is not of this kind and name, nor is one after it
not_of_both : (kind : Kind) (name : List ℕ) (new kept other : KeptVersion) → is_version_of kind name new ≡ true
    → is_before new.name kept.name ≡ true → is_before other.name kept.name ≡ false → is_version_of kind name other ≡ false
not_of_both kind name new kept other is before behind =
    false_from_ne_true (is_version_of kind name other)
    (λ also.
    let named : other.name ≡ new.name = ((version_decides new.kind new.name other).0 (is_of_both kind name new other is also)).1 in
    false≢true (sym behind ∙ ap (λ n. is_before n kept.name) named ∙ before))

-- a new version of this kind and name is the only one of them
one_with : (kind : Kind) (name : List ℕ) (new : KeptVersion) (versions : List KeptVersion) → is_version_of kind name new ≡ true
    → count (is_version_of kind name) versions ≤ 1 → AreByName versions → count (is_version_of kind name) (with_version new versions) ≤ 1
one_with kind name new [] is one by_name = simp is (omega arith)
one_with kind name new (kept ∷ others) is one by_name =
    placed (λ versions. count (is_version_of kind name) versions ≤ 1) new kept others
    (λ same.
    le_trans
    (fewer_by_one (is_version_of kind name new) (is_version_of kind name kept) new kept
    (filter (is_version_of kind name) others) (filter (is_version_of kind name) others)
    (λ passes. is_of_same kind name new kept is same) (omega arith))
    one)
    (λ before.
    let behind : ByRecursion (λ (other : KeptVersion). is_version_of kind name other ≡ false) others =
    all_so (λ (other : KeptVersion). is_before other.name kept.name ≡ false) (λ (other : KeptVersion). is_version_of kind name other ≡ false) others
    (λ other. not_of_both kind name new kept other is before) by_name.0 in
    let none : count (is_version_of kind name) (kept ∷ others) ≤ 0 =
    none_counted (is_version_of kind name) (kept ∷ others)
    (not_of_both kind name new kept kept is before (not_before_itself kept.name), behind) in
    simp is (omega (arith, none)))
    (λ other behind.
    let apart : is_version_of kind name kept ≡ false =
    false_from_ne_true (is_version_of kind name kept) (λ also. false≢true (sym other ∙ is_of_both kind name new kept is also)) in
    simp apart
    (one_with kind name new others is
    (le_trans (one_more (is_version_of kind name kept) kept (filter (is_version_of kind name) others)) one) by_name.1))

with_once : (kind : Kind) (name : List ℕ) (new : KeptVersion) (versions : List KeptVersion) (is : Bool) → is_version_of kind name new ≡ is
    → AreKeptOnce versions → count (is_version_of kind name) (with_version new versions) ≤ 1
with_once kind name new versions true is kept = one_with kind name new versions is (kept.once kind name) kept.by_name
with_once kind name new versions false is kept = le_trans (fewer_with (is_version_of kind name) new versions is) (kept.once kind name)

pub with_kept : (new : KeptVersion) (versions : List KeptVersion) → AreKeptOnce versions → AreKeptOnce (with_version new versions)
with_kept new versions kept = record {
  once = λ kind name. with_once kind name new versions (is_version_of kind name new) refl kept;
  by_name = with_by_name new versions kept.by_name;
}

pub left_kept : (test : KeptVersion → Bool) (versions : List KeptVersion) → AreKeptOnce versions → AreKeptOnce (filter test versions)
left_kept test versions kept = record {
  once = λ kind name. le_trans (fewer_left (is_version_of kind name) test versions) (kept.once kind name);
  by_name = left_by_name test versions kept.by_name;
}

mark_name : (marks : Bool) (kept : KeptVersion) → (cond marks (record kept { bounded = true }) kept).name ≡ kept.name
mark_name true kept = refl
mark_name false kept = refl

pub mark_same : (marks : Bool) (kind : Kind) (name : List ℕ) (kept : KeptVersion)
    → is_version_of kind name (cond marks (record kept { bounded = true }) kept) ≡ is_version_of kind name kept
mark_same true kind name kept = refl
mark_same false kind name kept = refl

-- the mark of a bounded life leaves the names of versions
all_marked : (marks : KeptVersion → Bool) (name : List ℕ) (versions : List KeptVersion)
    → ByRecursion (λ (other : KeptVersion). is_before other.name name ≡ false) versions
    → ByRecursion (λ (other : KeptVersion). is_before other.name name ≡ false)
    (map (λ (kept : KeptVersion). cond (marks kept) (record kept { bounded = true }) kept) versions)
all_marked marks name [] all = tt
all_marked marks name (kept ∷ others) all =
    (ap (λ n. is_before n name) (mark_name (marks kept) kept) ∙ all.0, all_marked marks name others all.1)

marked_by_name : (marks : KeptVersion → Bool) (versions : List KeptVersion)
    → AreByName versions → AreByName (map (λ (kept : KeptVersion). cond (marks kept) (record kept { bounded = true }) kept) versions)
marked_by_name marks [] by_name = tt
marked_by_name marks (kept ∷ others) by_name = (
  subst (λ name. ByRecursion (λ (other : KeptVersion). is_before other.name name ≡ false)
      (map (λ (kept : KeptVersion). cond (marks kept) (record kept { bounded = true }) kept) others))
      (sym (mark_name (marks kept) kept)) (all_marked marks kept.name others by_name.0),
  marked_by_name marks others by_name.1,
)

-- and how many are of a kind and name
marked_count : (marks : KeptVersion → Bool) (kind : Kind) (name : List ℕ) (versions : List KeptVersion)
    → count (is_version_of kind name) (map (λ (kept : KeptVersion). cond (marks kept) (record kept { bounded = true }) kept) versions)
    ≤ count (is_version_of kind name) versions
marked_count marks kind name [] = omega arith
marked_count marks kind name (kept ∷ others) =
    fewer_by_one (is_version_of kind name (cond (marks kept) (record kept { bounded = true }) kept)) (is_version_of kind name kept)
    (cond (marks kept) (record kept { bounded = true }) kept) kept _ _
    (λ passes. sym (mark_same (marks kept) kind name kept) ∙ passes)
    (marked_count marks kind name others)

pub renewed_kept : (kind : Kind) (name : List ℕ) (versions : List KeptVersion) → AreKeptOnce versions → AreKeptOnce (renewed kind name versions)
renewed_kept kind name versions kept = record {
  once = λ asked wanted. le_trans (marked_count (is_version_of kind name) asked wanted versions) (kept.once asked wanted);
  by_name = marked_by_name (is_version_of kind name) versions kept.by_name;
}

keeps_kept : KeepsAll (λ (rows : List GenRow) (made : ℕ) (phase : Phase) versions. AreKeptOnce versions)
keeps_kept = record {
  removed = λ goes rows made phase versions kept. kept;
  added = λ kind name content chains rows made phase versions kept. kept;
  left = λ test rows made phase versions kept. kept;
  version_added = λ new rows made phase versions kept. with_kept new versions kept;
  version_renewed = λ kind name rows made phase versions kept. renewed_kept kind name versions kept;
  versions_left = λ test rows made phase versions kept. left_kept test versions kept;
  tidied = λ world kept. left_kept _ world.versions kept;
}

opens_kept : AreKeptOnce []
opens_kept = record { once = λ kind name. omega arith; by_name = tt }

pub keeps_versions : KeepsVersions
keeps_versions = record {
  opens = λ workers node. opens_kept;
  steps = λ format world actor event kept. step-keeps-all _ keeps_kept format world actor event kept;
  runs = λ format workers node entries. run-keeps-all _ keeps_kept format (opening workers node) entries opens_kept;
}

-- The versions of one kind, among all.
use Rattle.std.proofs.Common.{◌≡◌, ℕ, Bool, true, false, not, ◌&&◌, ◌||◌, ◌+◌, ◌<◌, ◌≤◌, cond, List, [], ◌∷◌, ◌++◌, filter, length, take, get_or, refl, sym, ap, subst, ◌∙◌, arith}
use Rattle.std.specs.List.{list_any, AllByRecursion as ByRecursion}
use Rattle.std.specs.Str.{bytes_eq}
use Rattle.std.specs.Ordering.{is_lt, nat_cmp, ordering_reverse}
use Rattle.std.specs.declared.cmp.Ordering.{Ordering}
use Rattle.std.specs.declared.cmp.Ordering.TheVariants.{Less, Equal, Greater}
use Rattle.std.specs.Cmp.{both_ways}
use Rattle.std.specs.Cmp.Lexicographic.{nat_list_cmp_total, slice_cmp}
use Rattle.std.proofs.lemmas.Bool.{false≢true, true≢false}
use Rattle.ev_types.specs.Items.{ResponseParts}
use Rattle.ev_types.specs.Kinds.{kind_same, kind_decides}
use Rattle.ev_types.specs.declared.contents.Kind.{Kind}
use Rattle.ev_types.specs.declared.rows.KeptVersion.{KeptVersion}
use Rattle.ev_model.specs.World.{World}
use Rattle.std.specs.Prelude.{nat_le}
use Rattle.std.proofs.lemmas.Grind.{common_steps}
use Rattle.std.proofs.lemmas.Cmp.{nat_list_eq_equiv}
use Rattle.std.proofs.lemmas.List.{take_all}
use Rattle.std.proofs.lemmas.List.Folds.{list_any-append}
use Rattle.std.proofs.lemmas.Slice.Eq.{bytes_eq-Decides}
use Rattle.std.proofs.Math.Bool.{or-false}
use Rattle.ev_model.specs.Rows.{is_version_left, versions_left}
use Rattle.ev_model.specs.Verdicts.{is_among, is_removed, items_named}
use Rattle.ev_model.specs.Versions.{is_before, is_bounded, is_kept, is_version_of, bounded_as, renewed, with_version, without_version}
use Rattle.ev_model_laws.specs.VersionsKept.{AreByName}
use Rattle.ev_model_laws.proofs.VersionLemmas.{is_less, placed, version_decides, not_before_itself, with_kept, left_kept, renewed_kept}
use Rattle.ev_subscription.specs.Subscriptions.{Accepts, SubscriptionParts, HasVersions, held_of, kept_of}

-- a version of the kind and name of a new one has its kind
has_kind : (new kept : KeptVersion) (k : Kind) → is_version_of new.kind new.name kept ≡ true → kind_same kept.kind k ≡ kind_same new.kind k
has_kind new kept k same = ap (λ kind. kind_same kind k) ((version_decides new.kind new.name kept).0 same).0

-- a version of another kind is none of this kind
kept_with_other : (new : KeptVersion) (k : Kind) → kind_same new.kind k ≡ false → (versions : List KeptVersion) → kept_of k (with_version new versions) ≡ kept_of k versions
kept_with_other new k other [] = simp (other) refl
kept_with_other new k other (kept ∷ others) =
    placed (λ vs. kept_of k vs ≡ kept_of k (kept ∷ others)) new kept others
    (λ same. simp (other, has_kind new kept k same ∙ other) refl)
    (λ before. simp (other) refl)
    (λ isnt behind. further (kind_same kept.kind k) refl (kept_with_other new k other others))
  where
    further : (t : Bool) → kind_same kept.kind k ≡ t → kept_of k (with_version new others) ≡ kept_of k others
        → kept_of k (kept ∷ with_version new others) ≡ kept_of k (kept ∷ others)
    further true is rest = simp (is) (ap (λ vs. kept ∷ vs) rest)
    further false is rest = simp (is) rest

-- a version that comes before all others is put first
pub before_all : (new : KeptVersion) (versions : List KeptVersion) → ByRecursion (λ (other : KeptVersion). is_before new.name other.name ≡ true) versions
    → with_version new versions ≡ new ∷ versions
before_all new [] all = refl
before_all new (kept ∷ others) all =
    placed (λ vs. vs ≡ new ∷ kept ∷ others) new kept others
    (λ same.
    absurd (false≢true (sym (not_before_itself new.name)
    ∙ ap (is_before new.name) (sym ((version_decides new.kind new.name kept).0 same).1) ∙ all.0)))
    (λ before. refl)
    (λ isnt behind. absurd (false≢true (sym behind ∙ all.0)))

-- a name that is before another is before each that isn't before that one
goes_before : (a b c : List ℕ) → is_before a b ≡ true → is_before c b ≡ false → is_before a c ≡ true
goes_before a b c before behind = ap is_lt (by (slice_cmp nat_cmp c b) refl)
  where
    by : (r : Ordering) → slice_cmp nat_cmp c b ≡ r → slice_cmp nat_cmp a c ≡ Less
    by Less is = absurd (true≢false (sym (ap is_lt is) ∙ behind))
    by Equal is =
        nat_list_cmp_total.antisymm a c ∙ ap ordering_reverse (nat_list_cmp_total.congr c b a is) ∙ sym (nat_list_cmp_total.antisymm a b) ∙ is_less (slice_cmp nat_cmp a b) before
    by Greater is =
        nat_list_cmp_total.trans a b c (is_less (slice_cmp nat_cmp a b) before) (nat_list_cmp_total.antisymm b c ∙ ap ordering_reverse is)

kept_behind : (new kept : KeptVersion) (k : Kind) (versions : List KeptVersion) → is_before new.name kept.name ≡ true
    → ByRecursion (λ (other : KeptVersion). is_before other.name kept.name ≡ false) versions
    → ByRecursion (λ (other : KeptVersion). is_before new.name other.name ≡ true) (kept_of k versions)
kept_behind new kept k [] before all = tt
kept_behind new kept k (v ∷ vs) before all = by (kind_same v.kind k) (goes_before new.name kept.name v.name before all.0) (kept_behind new kept k vs before all.1)
  where
    by : (t : Bool) → is_before new.name v.name ≡ true → ByRecursion (λ (other : KeptVersion). is_before new.name other.name ≡ true) (kept_of k vs)
        → ByRecursion (λ (other : KeptVersion). is_before new.name other.name ≡ true) (cond t (v ∷ kept_of k vs) (kept_of k vs))
    by true first rest = (first, rest)
    by false first rest = rest

-- a new version of the kind is among those of the kind where it is among all
kept_with_same : (new : KeptVersion) (k : Kind) → kind_same new.kind k ≡ true → (versions : List KeptVersion) → AreByName versions
    → kept_of k (with_version new versions) ≡ with_version new (kept_of k versions)
kept_with_same new k is [] by_name = simp (is) refl
kept_with_same new k is (kept ∷ others) by_name =
    placed (λ vs. kept_of k vs ≡ with_version new (kept_of k (kept ∷ others))) new kept others
    (λ same. simp (is, has_kind new kept k same ∙ is, same) refl)
    (λ before. in_front (kind_same kept.kind k) refl before)
    (λ isnt behind. further (kind_same kept.kind k) refl isnt behind (kept_with_same new k is others by_name.1))
  where
    in_front : (t : Bool) → kind_same kept.kind k ≡ t → is_before new.name kept.name ≡ true
        → kept_of k (new ∷ kept ∷ others) ≡ with_version new (kept_of k (kept ∷ others))
    in_front true of before =
        simp (is, of) (sym (before_all new (kept ∷ kept_of k others) (before, kept_behind new kept k others before by_name.0)))
    in_front false of before =
        simp (is, of) (sym (before_all new (kept_of k others) (kept_behind new kept k others before by_name.0)))

    further : (t : Bool) → kind_same kept.kind k ≡ t → is_version_of new.kind new.name kept ≡ false → is_before new.name kept.name ≡ false
        → kept_of k (with_version new others) ≡ with_version new (kept_of k others)
        → kept_of k (kept ∷ with_version new others) ≡ with_version new (kept_of k (kept ∷ others))
    further true of isnt behind rest = simp (of, isnt, behind) (ap (λ vs. kept ∷ vs) rest)
    further false of isnt behind rest = simp (of) rest

pub kind_symm : (a b : Kind) → kind_same a b ≡ kind_same b a
kind_symm a b =
    both_ways (kind_same a b) (kind_same b a) (λ h. (kind_decides b a).1 (sym ((kind_decides a b).0 h))) (λ h. (kind_decides a b).1 (sym ((kind_decides b a).0 h)))

same_by : (k kind : Kind) (t : Bool) → kind_same k kind ≡ t → kind_same kind k ≡ t
same_by k kind t is = kind_symm kind k ∙ is

-- of each kind, the versions with a new one
pub kept_with : (new : KeptVersion) (versions : List KeptVersion) → AreByName versions → (k : Kind)
    → kept_of k (with_version new versions) ≡ (cond (kind_same k new.kind) (with_version new (kept_of new.kind versions)) (kept_of k versions))
kept_with new versions by_name k = by (kind_same k new.kind) refl
  where
    by : (t : Bool) → kind_same k new.kind ≡ t → kept_of k (with_version new versions) ≡ cond t (with_version new (kept_of new.kind versions)) (kept_of k versions)
    by true is =
        subst (λ kind. kept_of k (with_version new versions) ≡ with_version new (kept_of kind versions)) ((kind_decides k new.kind).0 is)
        (kept_with_same new k (same_by k new.kind true is) versions by_name)
    by false is = kept_with_other new k (same_by k new.kind false is) versions

filters_swap : (p q : KeptVersion → Bool) (versions : List KeptVersion) → filter p (filter q versions) ≡ filter q (filter p versions)
filters_swap p q [] = refl
filters_swap p q (v ∷ vs) = by (p v) (q v) refl refl (filters_swap p q vs)
  where
    by : (t u : Bool) → p v ≡ t → q v ≡ u → filter p (filter q vs) ≡ filter q (filter p vs) → filter p (filter q (v ∷ vs)) ≡ filter q (filter p (v ∷ vs))
    by true true is also rest = simp (is, also) (ap (λ ws. v ∷ ws) rest)
    by true false is also rest = simp (is, also) rest
    by false true is also rest = simp (is, also) rest
    by false false is also rest = simp (is, also) rest

marks_by : (kind k : Kind) (name : List ℕ) (v : KeptVersion) → kind_same (bounded_as kind name v).kind k ≡ kind_same v.kind k
marks_by kind k name v = by (is_version_of kind name v)
  where
    by : (t : Bool) → kind_same (cond t (record v { bounded = true }) v).kind k ≡ kind_same v.kind k
    by true = refl
    by false = refl

renewed_of : (kind k : Kind) (name : List ℕ) (versions : List KeptVersion) → kept_of k (renewed kind name versions) ≡ renewed kind name (kept_of k versions)
renewed_of kind k name [] = refl
renewed_of kind k name (v ∷ vs) = by (kind_same v.kind k) refl (renewed_of kind k name vs)
  where
    by : (t : Bool) → kind_same v.kind k ≡ t → kept_of k (renewed kind name vs) ≡ renewed kind name (kept_of k vs)
        → kept_of k (renewed kind name (v ∷ vs)) ≡ renewed kind name (kept_of k (v ∷ vs))
    by true is rest = simp (is, marks_by kind k name v ∙ is) (ap (λ ws. bounded_as kind name v ∷ ws) rest)
    by false is rest = simp (is, marks_by kind k name v ∙ is) rest

-- what is said of one kind and name is said of the versions of the kind
any_of_kind : (kind : Kind) (name : List ℕ) (test : KeptVersion → Bool) (versions : List KeptVersion)
    → list_any (λ (kept : KeptVersion). is_version_of kind name kept && test kept) (kept_of kind versions) ≡ list_any (λ (kept : KeptVersion). is_version_of kind name kept && test kept) versions
any_of_kind kind name test [] = refl
any_of_kind kind name test (v ∷ vs) = by (kind_same v.kind kind) refl (any_of_kind kind name test vs)
  where
    by : (t : Bool) → kind_same v.kind kind ≡ t
        → list_any (λ (kept : KeptVersion). is_version_of kind name kept && test kept) (kept_of kind vs) ≡ list_any (λ (kept : KeptVersion). is_version_of kind name kept && test kept) vs
        → list_any (λ (kept : KeptVersion). is_version_of kind name kept && test kept) (kept_of kind (v ∷ vs)) ≡ list_any (λ (kept : KeptVersion). is_version_of kind name kept && test kept) (v ∷ vs)
    by true is rest = simp (is) (ap (λ b. (bytes_eq v.name name && test v) || b) rest)
    by false is rest = simp (is) rest

-- after the change, the subscription represents the world with the change
pub stands_with : (old new : SubscriptionParts) (version : KeptVersion) → Accepts version old new
    → (world : World) → HasVersions old world → HasVersions new (record world { versions = with_version version world.versions })
stands_with old new version accepts world was = record {
  node = ap (λ (s : SubscriptionParts). s.node) accepts.others ∙ was.node;
  stream = ap (λ (s : SubscriptionParts). s.stream) accepts.others ∙ was.stream;
  versions = λ k.
      accepts.held k
      ∙ (λ i. cond (kind_same k version.kind) (with_version version (was.versions version.kind i)) (was.versions k i))
      ∙ sym (kept_with version world.versions was.kept_once.by_name k);
  kept_once = with_kept version world.versions was.kept_once;
}

pub stands_without : (old new : SubscriptionParts) (kind : Kind) (name : List ℕ) → new ≡ record old { versions = without_version kind name old.versions }
    → (world : World) → HasVersions old world → HasVersions new (record world { versions = without_version kind name world.versions })
stands_without old new kind name is world was = record {
  node = ap (λ (s : SubscriptionParts). s.node) is ∙ was.node;
  stream = ap (λ (s : SubscriptionParts). s.stream) is ∙ was.stream;
  versions = λ k. ap (λ (s : SubscriptionParts). held_of s k) is ∙ swapped k old.versions ∙ ap (without_version kind name) (was.versions k) ∙ sym (swapped k world.versions);
  kept_once = left_kept (λ (kept : KeptVersion). not (is_version_of kind name kept)) world.versions was.kept_once;
}
  where
    swapped : (k : Kind) (versions : List KeptVersion) → kept_of k (without_version kind name versions) ≡ without_version kind name (kept_of k versions)
    swapped k versions = filters_swap (λ (kept : KeptVersion). kind_same kept.kind k) (λ (kept : KeptVersion). not (is_version_of kind name kept)) versions

pub stands_renewed : (old new : SubscriptionParts) (kind : Kind) (name : List ℕ) → new ≡ record old { versions = renewed kind name old.versions }
    → (world : World) → HasVersions old world → HasVersions new (record world { versions = renewed kind name world.versions })
stands_renewed old new kind name is world was = record {
  node = ap (λ (s : SubscriptionParts). s.node) is ∙ was.node;
  stream = ap (λ (s : SubscriptionParts). s.stream) is ∙ was.stream;
  versions = λ k.
      ap (λ (s : SubscriptionParts). held_of s k) is
      ∙ renewed_of kind k name old.versions ∙ ap (renewed kind name) (was.versions k) ∙ sym (renewed_of kind k name world.versions);
  kept_once = renewed_kept kind name world.versions was.kept_once;
}

pub kept_is : (subscription : SubscriptionParts) (world : World) (kind : Kind) (name version : List ℕ) → HasVersions subscription world
    → is_kept subscription.versions kind name version ≡ is_kept world.versions kind name version
kept_is subscription world kind name version stands =
    sym (any_of_kind kind name (λ (kept : KeptVersion). bytes_eq kept.version version) subscription.versions)
    ∙ ap (λ vs. is_kept vs kind name version) (stands.versions kind) ∙ any_of_kind kind name (λ (kept : KeptVersion). bytes_eq kept.version version) world.versions

pub bounded_is : (subscription : SubscriptionParts) (world : World) (kind : Kind) (name : List ℕ) → HasVersions subscription world
    → is_bounded subscription.versions kind name ≡ is_bounded world.versions kind name
bounded_is subscription world kind name stands =
    sym (any_of_kind kind name (λ (kept : KeptVersion). kept.bounded) subscription.versions)
    ∙ ap (λ vs. is_bounded vs kind name) (stands.versions kind) ∙ any_of_kind kind name (λ (kept : KeptVersion). kept.bounded) world.versions

-- the versions that are left once these of the removed names were forgotten
abbrev pub is_left : Kind → ResponseParts → List (List ℕ) → KeptVersion → Bool
is_left kind response names kept = not (kind_same kept.kind kind && (is_removed response kept.name && is_among kept.name names))

pub both_filters : (p q : KeptVersion → Bool) (versions : List KeptVersion) → filter p (filter q versions) ≡ filter (λ kept. q kept && p kept) versions
both_filters p q [] = refl
both_filters p q (v ∷ vs) = by (q v) refl (both_filters p q vs)
  where
    by : (t : Bool) → q v ≡ t → filter p (filter q vs) ≡ filter (λ kept. q kept && p kept) vs → filter p (filter q (v ∷ vs)) ≡ filter (λ kept. q kept && p kept) (v ∷ vs)
    by true is rest = simp (is) (ap (λ ws. cond (p v) (v ∷ ws) ws) rest)
    by false is rest = simp (is) rest

pub same_filter : (p q : KeptVersion → Bool) → ((kept : KeptVersion) → p kept ≡ q kept) → (versions : List KeptVersion) → filter p versions ≡ filter q versions
same_filter p q same [] = refl
same_filter p q same (v ∷ vs) = λ i. cond (same v i) (v ∷ same_filter p q same vs i) (same_filter p q same vs i)

pub all_kept : (p : KeptVersion → Bool) → ((kept : KeptVersion) → p kept ≡ true) → (versions : List KeptVersion) → filter p versions ≡ versions
all_kept p lets [] = refl
all_kept p lets (v ∷ vs) = (λ i. cond (lets v i) (v ∷ all_kept p lets vs i) (all_kept p lets vs i))

none_left : (k r : Bool) → not (k && (r && false)) ≡ true
none_left true true = refl
none_left true false = refl
none_left false r = refl

-- before the first name all are left
pub left_first : (kind : Kind) (response : ResponseParts) (versions : List KeptVersion) → filter (is_left kind response []) versions ≡ versions
left_first kind response versions = all_kept (is_left kind response []) (λ kept. none_left (kind_same kept.kind kind) (is_removed response kept.name)) versions

pub among_more : (names : List (List ℕ)) (name q : List ℕ) → is_among q (names ++ name ∷ []) ≡ (is_among q names || bytes_eq q name)
among_more names name q =
    list_any-append (λ n. bytes_eq n q) names (name ∷ []) ∙ ap (λ b. is_among q names || b) (or-false (bytes_eq name q) ∙ nat_list_eq_equiv.symm name q)

-- a removed name is forgotten
pub left_removed : (kind : Kind) (response : ResponseParts) (names : List (List ℕ)) (name : List ℕ) (versions : List KeptVersion) → is_removed response name ≡ true
    → without_version kind name (filter (is_left kind response names) versions) ≡ filter (is_left kind response (names ++ name ∷ [])) versions
left_removed kind response names name versions goes =
    both_filters (λ (kept : KeptVersion). not (is_version_of kind name kept)) (is_left kind response names) versions
    ∙ same_filter (λ (kept : KeptVersion). is_left kind response names kept && not (is_version_of kind name kept)) (is_left kind response (names ++ name ∷ [])) one versions
  where
    by : (k r m b : Bool) → (b ≡ true → r ≡ true) → (not (k && (r && m)) && not (k && b)) ≡ not (k && (r && (m || b)))
    by true true true b so = refl
    by true true false true so = refl
    by true true false false so = refl
    by true false m true so = absurd (false≢true (so refl))
    by true false m false so = refl
    by false r m b so = refl

    one : (kept : KeptVersion) → (is_left kind response names kept && not (is_version_of kind name kept)) ≡ is_left kind response (names ++ name ∷ []) kept
    one kept =
        by (kind_same kept.kind kind) (is_removed response kept.name) (is_among kept.name names) (bytes_eq kept.name name)
        (λ same. ap (is_removed response) ((bytes_eq-Decides kept.name name).0 same) ∙ goes)
        ∙ ap (λ m. not (kind_same kept.kind kind && (is_removed response kept.name && m))) (sym (among_more names name kept.name))

-- a name that isn't removed leaves all
pub left_kept_name : (kind : Kind) (response : ResponseParts) (names : List (List ℕ)) (name : List ℕ) (versions : List KeptVersion) → is_removed response name ≡ false
    → filter (is_left kind response names) versions ≡ filter (is_left kind response (names ++ name ∷ [])) versions
left_kept_name kind response names name versions stays =
    same_filter (is_left kind response names) (is_left kind response (names ++ name ∷ [])) one versions
  where
    by : (k r m b : Bool) → (b ≡ true → r ≡ false) → not (k && (r && m)) ≡ not (k && (r && (m || b)))
    by true true true b so = refl
    by true true false true so = absurd (true≢false (so refl))
    by true true false false so = refl
    by true false m b so = refl
    by false r m b so = refl

    one : (kept : KeptVersion) → is_left kind response names kept ≡ is_left kind response (names ++ name ∷ []) kept
    one kept =
        by (kind_same kept.kind kind) (is_removed response kept.name) (is_among kept.name names) (bytes_eq kept.name name)
        (λ same. ap (is_removed response) ((bytes_eq-Decides kept.name name).0 same) ∙ stays)
        ∙ ap (λ m. not (kind_same kept.kind kind && (is_removed response kept.name && m))) (sym (among_more names name kept.name))

-- after the last name those are left that the response doesn't remove
pub left_all : (kind : Kind) (response : ResponseParts) (versions : List KeptVersion) → filter (is_left kind response response.removed) versions ≡ versions_left kind response versions
left_all kind response versions = same_filter (is_left kind response response.removed) (is_version_left kind response) one versions
  where
    by : (k m n : Bool) → not (k && ((m && n) && m)) ≡ not (k && (m && n))
    by true true true = refl
    by true true false = refl
    by true false n = refl
    by false m n = refl

    one : (kept : KeptVersion) → is_left kind response response.removed kept ≡ is_version_left kind response kept
    one kept = by (kind_same kept.kind kind) (is_among kept.name response.removed) (not (nat_le 1 (length (items_named kept.name response.items))))

pub names_more : (names : List (List ℕ)) (i : ℕ) (name : List ℕ) → i < length names → name ≡ get_or names i name → take (i + 1) names ≡ take i names ++ name ∷ []
names_more names i name within is = grind (arith, common_steps)

-- one name more was looked at
pub left_more : (kind : Kind) (response : ResponseParts) (names : List (List ℕ)) (i : ℕ) (name text : List ℕ) (versions : List KeptVersion)
    → i < length names → name ≡ get_or names i name → text ≡ name
    → (cond (is_removed response text) (without_version kind text (filter (is_left kind response (take i names)) versions)) (filter (is_left kind response (take i names)) versions))
    ≡ filter (is_left kind response (take (i + 1) names)) versions
left_more kind response names i name text versions within is same =
    ap (λ t. cond (is_removed response t) (without_version kind t (filter (is_left kind response (take i names)) versions)) (filter (is_left kind response (take i names)) versions)) same
    ∙ by (is_removed response name) refl
    ∙ sym (ap (λ ns. filter (is_left kind response ns) versions) (names_more names i name within is))
  where
    by : (t : Bool) → is_removed response name ≡ t
        → cond t (without_version kind name (filter (is_left kind response (take i names)) versions)) (filter (is_left kind response (take i names)) versions)
        ≡ filter (is_left kind response (take i names ++ name ∷ [])) versions
    by true goes = left_removed kind response (take i names) name versions goes
    by false stays = left_kept_name kind response (take i names) name versions stays

-- after the last name
pub left_end : (kind : Kind) (response : ResponseParts) (names : List (List ℕ)) (i : ℕ) (versions : List KeptVersion) → length names ≤ i → names ≡ response.removed
    → filter (is_left kind response (take i names)) versions ≡ versions_left kind response versions
left_end kind response names i versions past are =
    ap (λ ns. filter (is_left kind response ns) versions) (take_all i names past ∙ are) ∙ left_all kind response versions

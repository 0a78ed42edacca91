-- Lists of names, sorted and each once: what stands in them, that two with the same names are one,
-- and the names that are watched, as a list and by a test.
use Rattle.std.proofs.Common.{◌≡◌, ℕ, Bool, true, false, not, ◌||◌, ◌&&◌, cond, List, [], ◌∷◌, filter, map, refl, sym, ap, subst, ◌∙◌}
use Rattle.std.specs.Cmp.Lexicographic.{slice_cmp}
use Rattle.std.specs.List.{AllByRecursion, list_any, flat_map, dedup, dedup_from}
use Rattle.std.specs.List.Sorted.{IsStrictlySortedBy}
use Rattle.std.specs.Ordering.{nat_cmp}
use Rattle.std.specs.Str.{bytes_eq}
use Rattle.std.proofs.lemmas.Bool.{cond_both, false≢true}
use Rattle.std.proofs.lemmas.Cmp.{nat_list_cmp_total}
use Rattle.std.proofs.lemmas.List.Folds.{list_any-append}
use Rattle.std.proofs.lemmas.List.Kept.{IsStrictlySortedBy-filter}
use Rattle.std.proofs.lemmas.Map.Text.{is_eq-slice_cmp}
use Rattle.ev_types.specs.Kinds.{kind_same}
use Rattle.ev_types.specs.Same.{bytes_decide}
use Rattle.ev_types.specs.Statuses.{is_live}
use Rattle.ev_types.specs.declared.contents.Content.{Content}
use Rattle.ev_types.specs.declared.contents.Kind.{Kind}
use Rattle.ev_types.specs.declared.rows.GenRow.{GenRow}
use Rattle.ev_types.specs.declared.rows.Live.{Live}
use Rattle.ev_model.specs.Sorted.{put_by, sorted_by}
use Rattle.ev_model.specs.Versions.{is_before}
use Rattle.ev_model.specs.Verdicts.{is_among}
use Rattle.ev_model.specs.Watching.{Dependency, dependencies_of, is_dependency, is_watched, names_awaited, sorted_names, watched_by}
use Rattle.ev_model.specs.Requests.{other_than}
use Rattle.ev_lookups.specs.Keys.{named}
use Rattle.ev_indexes.specs.Indexes.{depends_on}
use Rattle.ev_indexes.specs.Needs.{is_on, is_needed, needs_of}
use Rattle.ev_indexes.specs.Reads.{live_rows, names_needed, names_watched}
use Rattle.ev_indexes.proofs.NeedLemmas.{any_needs}
use Rattle.ev_indexes.proofs.SortLemmas.{sorted-unique, sorted_by-dedup}

or_turn : (a b c : Bool) → (a || (b || c)) ≡ (b || (a || c))
or_turn true true c = refl
or_turn true false c = refl
or_turn false b c = refl

or_twice : (a b c : Bool) → a ≡ b → (a || c) ≡ (a || (b || c))
or_twice true b c same = refl
or_twice false b c same = ap (λ x. x || c) same

any_put : {X : Type 0} (p : X → Bool) (m : X → X → Bool) (x : X) (ys : List X) → list_any p (put_by m x ys) ≡ (p x || list_any p ys)
any_put p m x [] = refl
any_put p m x (y ∷ ys) =
    cond_both (m x y) (x ∷ y ∷ ys) (y ∷ put_by m x ys) (λ zs. list_any p zs ≡ (p x || (p y || list_any p ys)))
    (λ before. refl) (λ behind. ap (λ b. p y || b) (any_put p m x ys) ∙ or_turn (p y) (p x) (list_any p ys))

any_sorted : {X : Type 0} (p : X → Bool) (m : X → X → Bool) (xs : List X) → list_any p (sorted_by m xs) ≡ list_any p xs
any_sorted p m [] = refl
any_sorted p m (x ∷ xs) = any_put p m x (sorted_by m xs) ∙ ap (λ b. p x || b) (any_sorted p m xs)

module _ {X : Type 0} (p : X → Bool) (same : X → X → Bool) (alike : (x y : X) → same x y ≡ true → p y ≡ p x) where
  any_dedup_from : (k : X) (xs : List X) → list_any p (dedup_from same k xs) ≡ (p k || list_any p xs)
  any_dedup_from k [] = refl
  any_dedup_from k (x ∷ xs) =
      cond_both (same x k) (dedup_from same k xs) (k ∷ dedup_from same x xs) (λ zs. list_any p zs ≡ (p k || (p x || list_any p xs)))
      (λ is. any_dedup_from k xs ∙ or_twice (p k) (p x) (list_any p xs) (alike x k is))
      (λ isnt. ap (λ b. p k || b) (any_dedup_from x xs))

  any_dedup : (xs : List X) → list_any p (dedup same xs) ≡ list_any p xs
  any_dedup [] = refl
  any_dedup (x ∷ xs) = any_dedup_from x xs

or_same : (a b c d : Bool) → a ≡ b → c ≡ d → (a || c) ≡ (b || d)
or_same a b c d p q = λ i. p i || q i

awaited_is : (kind : Kind) (name : List ℕ) (ds : List Dependency) → is_among name (names_awaited kind ds) ≡ list_any (is_dependency kind name) ds
awaited_is kind name [] = refl
awaited_is kind name (d ∷ ds) = by (kind_same d.kind kind) (awaited_is kind name ds)
  where
    others : List Dependency
    others = filter (λ (d : Dependency). kind_same d.kind kind) ds

    by : (b : Bool) → is_among name (names_awaited kind ds) ≡ list_any (is_dependency kind name) ds
        → is_among name (map (λ (d : Dependency). d.name) (cond b (d ∷ others) others)) ≡ ((b && bytes_eq d.name name) || list_any (is_dependency kind name) ds)
    by true rest = ap (λ w. bytes_eq d.name name || w) rest
    by false rest = rest

any_awaited : (kind : Kind) (name : List ℕ) (lives : List Live)
    → is_among name (flat_map (λ (live : Live). names_awaited kind (dependencies_of live.content)) lives) ≡ is_watched lives kind name
any_awaited kind name [] = refl
any_awaited kind name (live ∷ lives) =
    list_any-append (λ n. bytes_eq n name) (names_awaited kind (dependencies_of live.content)) (flat_map (λ (live : Live). names_awaited kind (dependencies_of live.content)) lives)
    ∙ or_same _ _ _ _ (awaited_is kind name (dependencies_of live.content)) (any_awaited kind name lives)

-- a name is among sorted ones where it is among them
pub among_sorted : (names : List (List ℕ)) (name : List ℕ) → is_among name (sorted_names names) ≡ is_among name names
among_sorted names name =
    any_dedup (λ n. bytes_eq n name) bytes_eq (λ x y is. ap (λ n. bytes_eq n name) (sym ((bytes_decide x y).0 is))) (sorted_by is_before names)
    ∙ any_sorted (λ n. bytes_eq n name) is_before names

-- a name is among those that are watched where it is watched
pub among_watched : (lives : List Live) (kind : Kind) (name : List ℕ) → is_among name (watched_by lives kind) ≡ is_watched lives kind name
among_watched lives kind name =
    among_sorted (flat_map (λ (live : Live). names_awaited kind (dependencies_of live.content)) lives) name
    ∙ any_awaited kind name lives

-- a name that is among those that fail a test
pub among_failing : (test : List ℕ → Bool) (names : List (List ℕ)) (name : List ℕ) → is_among name (filter (λ n. not (test n)) names) ≡ (is_among name names && not (test name))
among_failing test [] name = refl
among_failing test (first ∷ names) name = by (bytes_eq first name) refl (test first) refl (among_failing test names name)
  where
    and_false : (b : Bool) → (b && false) ≡ false
    and_false true = refl
    and_false false = refl

    by : (b : Bool) → bytes_eq first name ≡ b → (t : Bool) → test first ≡ t
        → is_among name (filter (λ n. not (test n)) names) ≡ (is_among name names && not (test name))
        → is_among name (cond (not t) (first ∷ filter (λ n. not (test n)) names) (filter (λ n. not (test n)) names)) ≡ ((b || is_among name names) && not (test name))
    by true is true passes rest =
        let there : test name ≡ true = ap test (sym ((bytes_decide first name).0 is)) ∙ passes in
        rest ∙ (λ i. is_among name names && not (there i)) ∙ and_false (is_among name names) ∙ (λ i. not (sym there i))
    by true is false fails rest =
        let away : test name ≡ false = ap test (sym ((bytes_decide first name).0 is)) ∙ fails in
        ap (λ b. b || is_among name (filter (λ n. not (test n)) names)) is ∙ (λ i. not (sym away i))
    by false isnt true passes rest = rest
    by false isnt false fails rest = ap (λ b. b || is_among name (filter (λ n. not (test n)) names)) isnt ∙ rest

-- a name that is among those that aren't among the others
pub among_other : (others names : List (List ℕ)) (name : List ℕ) → is_among name (other_than others names) ≡ (is_among name names && not (is_among name others))
among_other others names name = among_failing (λ n. is_among n others) names name

-- in the order of their bytes, each once
abbrev pub IsInOrder : List (List ℕ) → Type 0
IsInOrder names = IsStrictlySortedBy (slice_cmp nat_cmp) names

pub sorted-in_order : (names : List (List ℕ)) → IsInOrder (sorted_names names)
sorted-in_order names =
    sorted_by-dedup (slice_cmp nat_cmp) nat_list_cmp_total bytes_eq (λ a b. sym (is_eq-slice_cmp a b)) (λ a b. (bytes_decide a b).0) names

pub other-in_order : (others names : List (List ℕ)) → IsInOrder names → IsInOrder (other_than others names)
other-in_order others names ordered = IsStrictlySortedBy-filter (slice_cmp nat_cmp) (λ n. not (is_among n others)) names ordered

-- what holds of each element holds of each name among them, and back
each_among : (P : List ℕ → Type 0) (names : List (List ℕ)) → AllByRecursion P names → (name : List ℕ) → is_among name names ≡ true → P name
each_among P [] all name there = absurd (false≢true there)
each_among P (first ∷ names) all name there = by (bytes_eq first name) refl there (each_among P names all.1 name)
  where
    by : (b : Bool) → bytes_eq first name ≡ b → (b || is_among name names) ≡ true → (is_among name names ≡ true → P name) → P name
    by true is there rest = subst P ((bytes_decide first name).0 is) all.0
    by false isnt there rest = rest there

or_true : (b : Bool) → (b || true) ≡ true
or_true true = refl
or_true false = refl

all_among : (P : List ℕ → Type 0) (names : List (List ℕ)) → ((name : List ℕ) → is_among name names ≡ true → P name) → AllByRecursion P names
all_among P [] each = tt
all_among P (first ∷ names) each = (
  each first (ap (λ b. b || is_among first names) ((bytes_decide first first).1 refl)),
  all_among P names (λ name there. each name (ap (λ b. bytes_eq first name || b) there ∙ or_true (bytes_eq first name))),
)

-- two ordered lists of the same names are one
pub same-names : (xs ys : List (List ℕ)) → IsInOrder xs → IsInOrder ys → ((name : List ℕ) → is_among name xs ≡ is_among name ys) → xs ≡ ys
same-names xs ys first second same =
    sorted-unique (slice_cmp nat_cmp) nat_list_cmp_total xs ys first second (record {
      there = λ P all. all_among P ys (λ name there. each_among P xs all name (same name ∙ there));
      back = λ P all. all_among P xs (λ name there. each_among P ys all name (sym (same name) ∙ there));
    })

-- a name among those that are gathered
pub among_flat : {X : Type 0} (f : X → List (List ℕ)) (xs : List X) (name : List ℕ) → is_among name (flat_map f xs) ≡ list_any (λ x. is_among name (f x)) xs
among_flat f [] name = refl
among_flat f (x ∷ xs) name = list_any-append (λ n. bytes_eq n name) (f x) (flat_map f xs) ∙ ap (λ b. is_among name (f x) || b) (among_flat f xs name)

-- a name stands among those of a kind that a content depends on at its places where it depends on it
pub among_places : (kind : Kind) (name : List ℕ) (content : Content)
    → is_among name (names_awaited kind (needs_of content)) ≡ is_needed (named kind name) (dependencies_of content)
among_places kind name content =
    awaited_is kind name (needs_of content) ∙ any_needs (is_on (named kind name)) content

-- and among those that live rows depend on where one of them does
pub among-watched : (kind : Kind) (rows : List GenRow) (name : List ℕ) → is_among name (names_watched kind rows) ≡ list_any (depends_on (named kind name)) rows
among-watched kind rows name = among_sorted (names_needed kind rows) name ∙ by rows
  where
    by : (rs : List GenRow) → is_among name (names_needed kind rs) ≡ list_any (depends_on (named kind name)) rs
    by [] = refl
    by (row ∷ rs) = over (is_live row.status) (by rs)
      where
        over : (b : Bool) → is_among name (names_needed kind rs) ≡ list_any (depends_on (named kind name)) rs
            → is_among name (flat_map (λ (r : GenRow). names_awaited kind (needs_of r.content)) (cond b (row ∷ live_rows rs) (live_rows rs)))
            ≡ ((b && is_needed (named kind name) (dependencies_of row.content)) || list_any (depends_on (named kind name)) rs)
        over true rest =
            list_any-append (λ n. bytes_eq n name) (names_awaited kind (needs_of row.content)) (names_needed kind rs)
            ∙ (λ i. among_places kind name row.content i || rest i)
        over false rest = rest

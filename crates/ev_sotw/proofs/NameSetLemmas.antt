-- Two lists of names in order with the same names are equal, and what is among them.
use Rattle.std.proofs.Common.{◌≡◌, ◌∙◌, ℕ, ◌+◌, ◌<◌, length, take, get_or, Bool, true, false, cond, not, ◌&&◌, ◌||◌, List, [], ◌∷◌, ◌++◌, map, filter, refl, sym, ap, subst}
use Rattle.std.specs.declared.alloc.Global.{Global}
use Rattle.std.specs.BTreeMap.{is_at}
use Rattle.std.specs.BTreeSet.{BTreeSet, contains_text, UpdatesBy}
use Rattle.std.specs.Cmp.{both_ways}
use Rattle.std.specs.Cmp.Lexicographic.{slice_cmp}
use Rattle.std.specs.List.{AllByRecursion, list_any, dedup, dedup_from}
use Rattle.std.specs.List.Sorted.{IsStrictlySortedBy}
use Rattle.std.specs.Ordering.{nat_cmp}
use Rattle.std.specs.Str.{bytes_eq}
use Rattle.std.specs.Prelude.{String, string_bytes}
use Rattle.std.specs.String.{string_cmp}
use Rattle.std.specs.declared.cmp.Ordering.TheVariants.{Less}
use Rattle.std.proofs.lemmas.Bool.{false≢true, cond_both}
use Rattle.std.proofs.lemmas.Cmp.{nat_list_cmp_total}
use Rattle.std.proofs.lemmas.List.{take_more}
use Rattle.std.proofs.lemmas.List.Folds.{list_any-append}
use Rattle.std.proofs.lemmas.List.Kept.{IsStrictlySortedBy-filter}
use Rattle.std.proofs.lemmas.Map.Text.{is_eq-slice_cmp, btree_set_updates_text}
use Rattle.ev_types.specs.Same.{bytes_decide}
use Rattle.ev_model.specs.Requests.{other_than}
use Rattle.ev_model.specs.Sorted.{put_by, sorted_by}
use Rattle.ev_model.specs.Verdicts.{is_among}
use Rattle.ev_model.specs.Versions.{is_before}
use Rattle.ev_model.specs.Watching.{sorted_names}
use Rattle.ev_indexes.proofs.SortLemmas.{sorted-unique, sorted_by-dedup}
use Rattle.ev_sotw.specs.Names.{IsInOrder, with_name, with_names, without_name}

-- ---- what is among sorted names

or_turn : (a b c : Bool) → (a || (b || c)) ≡ (b || (a || c))
or_turn true true c = refl
or_turn true false c = refl
or_turn false b c = refl

or_twice : (a b c : Bool) → a ≡ b → (a || c) ≡ (a || (b || c))
or_twice true b c same = refl
or_twice false b c same = ap (λ x. x || c) same

any_put : {X : Type 0} (p : X → Bool) (m : X → X → Bool) (x : X) (ys : List X) → list_any p (put_by m x ys) ≡ (p x || list_any p ys)
any_put p m x [] = refl
any_put p m x (y ∷ ys) =
    cond_both (m x y) (x ∷ y ∷ ys) (y ∷ put_by m x ys) (λ zs. list_any p zs ≡ (p x || (p y || list_any p ys)))
    (λ before. refl) (λ behind. ap (λ b. p y || b) (any_put p m x ys) ∙ or_turn (p y) (p x) (list_any p ys))

any_sorted : {X : Type 0} (p : X → Bool) (m : X → X → Bool) (xs : List X) → list_any p (sorted_by m xs) ≡ list_any p xs
any_sorted p m [] = refl
any_sorted p m (x ∷ xs) = any_put p m x (sorted_by m xs) ∙ ap (λ b. p x || b) (any_sorted p m xs)

module _ {X : Type 0} (p : X → Bool) (same : X → X → Bool) (alike : (x y : X) → same x y ≡ true → p y ≡ p x) where
  any_dedup_from : (k : X) (xs : List X) → list_any p (dedup_from same k xs) ≡ (p k || list_any p xs)
  any_dedup_from k [] = refl
  any_dedup_from k (x ∷ xs) =
      cond_both (same x k) (dedup_from same k xs) (k ∷ dedup_from same x xs) (λ zs. list_any p zs ≡ (p k || (p x || list_any p xs)))
      (λ is. any_dedup_from k xs ∙ or_twice (p k) (p x) (list_any p xs) (alike x k is))
      (λ isnt. ap (λ b. p k || b) (any_dedup_from x xs))

  any_dedup : (xs : List X) → list_any p (dedup same xs) ≡ list_any p xs
  any_dedup [] = refl
  any_dedup (x ∷ xs) = any_dedup_from x xs

-- a name is among sorted ones where it is among them
pub among_sorted : (names : List (List ℕ)) (name : List ℕ) → is_among name (sorted_names names) ≡ is_among name names
among_sorted names name =
    any_dedup (λ n. bytes_eq n name) bytes_eq (λ x y is. ap (λ n. bytes_eq n name) (sym ((bytes_decide x y).0 is))) (sorted_by is_before names)
    ∙ any_sorted (λ n. bytes_eq n name) is_before names

-- a name that is among those that fail a test
among_failing : (test : List ℕ → Bool) (names : List (List ℕ)) (name : List ℕ) → is_among name (filter (λ n. not (test n)) names) ≡ (is_among name names && not (test name))
among_failing test [] name = refl
among_failing test (first ∷ names) name = by (bytes_eq first name) refl (test first) refl (among_failing test names name)
  where
    and_false : (b : Bool) → (b && false) ≡ false
    and_false true = refl
    and_false false = refl

    by : (b : Bool) → bytes_eq first name ≡ b → (t : Bool) → test first ≡ t
        → is_among name (filter (λ n. not (test n)) names) ≡ (is_among name names && not (test name))
        → is_among name (cond (not t) (first ∷ filter (λ n. not (test n)) names) (filter (λ n. not (test n)) names)) ≡ ((b || is_among name names) && not (test name))
    by true is true passes rest =
        let there : test name ≡ true = ap test (sym ((bytes_decide first name).0 is)) ∙ passes in
        rest ∙ (λ i. is_among name names && not (there i)) ∙ and_false (is_among name names) ∙ (λ i. not (sym there i))
    by true is false fails rest =
        let away : test name ≡ false = ap test (sym ((bytes_decide first name).0 is)) ∙ fails in
        ap (λ b. b || is_among name (filter (λ n. not (test n)) names)) is ∙ (λ i. not (sym away i))
    by false isnt true passes rest = rest
    by false isnt false fails rest = ap (λ b. b || is_among name (filter (λ n. not (test n)) names)) isnt ∙ rest

-- a name that is among those that aren't among the others
pub among_other : (others names : List (List ℕ)) (name : List ℕ) → is_among name (other_than others names) ≡ (is_among name names && not (is_among name others))
among_other others names name = among_failing (λ n. is_among n others) names name

-- ---- lists in order

pub sorted-in_order : (names : List (List ℕ)) → IsInOrder (sorted_names names)
sorted-in_order names =
    sorted_by-dedup (slice_cmp nat_cmp) nat_list_cmp_total bytes_eq (λ a b. sym (is_eq-slice_cmp a b)) (λ a b. (bytes_decide a b).0) names

pub other-in_order : (others names : List (List ℕ)) → IsInOrder names → IsInOrder (other_than others names)
other-in_order others names ordered = IsStrictlySortedBy-filter (slice_cmp nat_cmp) (λ n. not (is_among n others)) names ordered

each_among : (P : List ℕ → Type 0) (names : List (List ℕ)) → AllByRecursion P names → (name : List ℕ) → is_among name names ≡ true → P name
each_among P [] all name there = absurd (false≢true there)
each_among P (first ∷ names) all name there = by (bytes_eq first name) refl there (each_among P names all.1 name)
  where
    by : (b : Bool) → bytes_eq first name ≡ b → (b || is_among name names) ≡ true → (is_among name names ≡ true → P name) → P name
    by true is there rest = subst P ((bytes_decide first name).0 is) all.0
    by false isnt there rest = rest there

or_true : (b : Bool) → (b || true) ≡ true
or_true true = refl
or_true false = refl

all_among : (P : List ℕ → Type 0) (names : List (List ℕ)) → ((name : List ℕ) → is_among name names ≡ true → P name) → AllByRecursion P names
all_among P [] each = tt
all_among P (first ∷ names) each = (
  each first (ap (λ b. b || is_among first names) ((bytes_decide first first).1 refl)),
  all_among P names (λ name there. each name (ap (λ b. bytes_eq first name || b) there ∙ or_true (bytes_eq first name))),
)

-- two lists in order of the same names are equal
pub same-names : (xs ys : List (List ℕ)) → IsInOrder xs → IsInOrder ys → ((name : List ℕ) → is_among name xs ≡ is_among name ys) → xs ≡ ys
same-names xs ys first second same =
    sorted-unique (slice_cmp nat_cmp) nat_list_cmp_total xs ys first second (record {
      there = λ P all. all_among P ys (λ name there. each_among P xs all name (same name ∙ there));
      back = λ P all. all_among P xs (λ name there. each_among P ys all name (sym (same name) ∙ there));
    })

-- ---- sets of strings

turned : (a b : List ℕ) → bytes_eq a b ≡ bytes_eq b a
turned a b = both_ways (bytes_eq a b) (bytes_eq b a) (λ h. (bytes_decide b a).1 (sym ((bytes_decide a b).0 h))) (λ h. (bytes_decide a b).1 (sym ((bytes_decide b a).0 h)))

-- a text that a set of strings has is among their texts
pub among_keys : (name : List ℕ) (keys : List (String Global)) → list_any (is_at (λ k. slice_cmp nat_cmp name (string_bytes k))) keys ≡ is_among name (map string_bytes keys)
among_keys name [] = refl
among_keys name (key ∷ keys) = λ i. (is_eq-slice_cmp name (string_bytes key) ∙ turned name (string_bytes key)) i || among_keys name keys i

all_texts : (P : List ℕ → Type 0) (keys : List (String Global)) → AllByRecursion (λ (k : String Global). P (string_bytes k)) keys → AllByRecursion P (map string_bytes keys)
all_texts P [] all = tt
all_texts P (key ∷ keys) all = (all.0, all_texts P keys all.1)

-- strings in order have texts in order
pub keys-in_order : (keys : List (String Global)) → IsStrictlySortedBy string_cmp keys → IsInOrder (map string_bytes keys)
unfolding IsStrictlySortedBy
keys-in_order [] ordered = tt
keys-in_order (key ∷ keys) ordered = (all_texts (λ n. slice_cmp nat_cmp (string_bytes key) n ≡ Less) keys ordered.0, keys-in_order keys ordered.1)

in_set : (set : BTreeSet (String Global)) (name : List ℕ) → contains_text set name ≡ is_among name (map string_bytes set.keys)
in_set set name = among_keys name set.keys

cond_or : (a b : Bool) → cond a true b ≡ (a || b)
cond_or true b = refl
cond_or false b = refl

cond_not : (a b : Bool) → cond a false b ≡ (b && not (a || false))
cond_not true true = refl
cond_not true false = refl
cond_not false true = refl
cond_not false false = refl

pub inserted : (name : List ℕ) (old new : BTreeSet (String Global)) → UpdatesBy string_cmp (λ k. slice_cmp nat_cmp name (string_bytes k)) old new true
    → IsStrictlySortedBy string_cmp new.keys → map string_bytes new.keys ≡ with_name name (map string_bytes old.keys)
inserted name old new updates ordered =
    same-names (map string_bytes new.keys) (with_name name (map string_bytes old.keys)) (keys-in_order new.keys ordered) (sorted-in_order (name ∷ map string_bytes old.keys))
    (λ n. sym (in_set new n) ∙ btree_set_updates_text name old new true updates n ∙ cond_or (bytes_eq name n) (contains_text old n) ∙ ap (λ b. bytes_eq name n || b) (in_set old n)
    ∙ sym (among_sorted (name ∷ map string_bytes old.keys) n))

pub removed : (name : List ℕ) (old new : BTreeSet (String Global)) → UpdatesBy string_cmp (λ k. slice_cmp nat_cmp name (string_bytes k)) old new false
    → IsStrictlySortedBy string_cmp new.keys → IsInOrder (map string_bytes old.keys) → map string_bytes new.keys ≡ without_name name (map string_bytes old.keys)
removed name old new updates ordered before =
    same-names (map string_bytes new.keys) (without_name name (map string_bytes old.keys)) (keys-in_order new.keys ordered) (other-in_order (name ∷ []) (map string_bytes old.keys) before)
    (λ n. sym (in_set new n) ∙ btree_set_updates_text name old new false updates n ∙ cond_not (bytes_eq name n) (contains_text old n) ∙ ap (λ b. b && not (bytes_eq name n || false)) (in_set old n)
    ∙ sym (among_other (name ∷ []) (map string_bytes old.keys) n))

-- ---- several names

-- names in order stay as they are
pub sorted_same : (names : List (List ℕ)) → IsInOrder names → sorted_names names ≡ names
sorted_same names ordered = same-names (sorted_names names) names (sorted-in_order names) ordered (among_sorted names)

among_append : (xs ys : List (List ℕ)) (name : List ℕ) → is_among name (xs ++ ys) ≡ (is_among name xs || is_among name ys)
among_append xs ys name = list_any-append (λ n. bytes_eq n name) xs ys

pub among_with : (new names : List (List ℕ)) (name : List ℕ) → is_among name (with_names new names) ≡ (is_among name new || is_among name names)
among_with new names name = among_sorted (new ++ names) name ∙ among_append new names name

push_turn : (a b c : Bool) → (a || (b || c)) ≡ ((b || (a || false)) || c)
push_turn true true c = refl
push_turn true false c = refl
push_turn false true c = refl
push_turn false false c = refl

-- a name more
pub with_push : (name : List ℕ) (new names : List (List ℕ)) → with_name name (with_names new names) ≡ with_names (new ++ name ∷ []) names
with_push name new names =
    same-names (with_name name (with_names new names)) (with_names (new ++ name ∷ []) names) (sorted-in_order (name ∷ with_names new names)) (sorted-in_order ((new ++ name ∷ []) ++ names))
    (λ n. among_sorted (name ∷ with_names new names) n ∙ ap (λ b. bytes_eq name n || b) (among_with new names n) ∙ push_turn (bytes_eq name n) (is_among n new) (is_among n names)
    ∙ sym (among_with (new ++ name ∷ []) names n ∙ ap (λ b. b || is_among n names) (among_append new (name ∷ []) n)))

-- several more
or_third : (a b c : Bool) → (a || (b || c)) ≡ ((b || a) || c)
or_third true true c = refl
or_third true false c = refl
or_third false true c = refl
or_third false false c = refl

pub with_more : (more new names : List (List ℕ)) → with_names more (with_names new names) ≡ with_names (new ++ more) names
with_more more new names =
    same-names (with_names more (with_names new names)) (with_names (new ++ more) names) (sorted-in_order (more ++ with_names new names)) (sorted-in_order ((new ++ more) ++ names))
    (λ n. among_with more (with_names new names) n ∙ ap (λ b. is_among n more || b) (among_with new names n) ∙ or_third (is_among n more) (is_among n new) (is_among n names)
    ∙ sym (among_with (new ++ more) names n ∙ ap (λ b. b || is_among n names) (among_append new more n)))

-- no name less
pub other_none : (names : List (List ℕ)) → other_than [] names ≡ names
other_none [] = refl
other_none (name ∷ names) = ap (λ ns. name ∷ ns) (other_none names)

-- several less
pub other_more : (more gone names : List (List ℕ)) → other_than more (other_than gone names) ≡ other_than (gone ++ more) names
other_more more gone [] = refl
other_more more gone (name ∷ names) =
    by (is_among name gone) refl (is_among name more) refl (other_more more gone names) ∙ sym (ap (λ b. cond (not b) (name ∷ other_than (gone ++ more) names) (other_than (gone ++ more) names)) (among_append gone more name))
  where
    by : (g : Bool) → is_among name gone ≡ g → (m : Bool) → is_among name more ≡ m → other_than more (other_than gone names) ≡ other_than (gone ++ more) names
        → other_than more (cond (not g) (name ∷ other_than gone names) (other_than gone names)) ≡ cond (not (g || m)) (name ∷ other_than (gone ++ more) names) (other_than (gone ++ more) names)
    by true e m f rest = rest
    by false e true f rest = ap (λ b. cond (not b) (name ∷ other_than more (other_than gone names)) (other_than more (other_than gone names))) f ∙ rest
    by false e false f rest = ap (λ b. cond (not b) (name ∷ other_than more (other_than gone names)) (other_than more (other_than gone names))) f ∙ ap (λ ns. name ∷ ns) rest

-- one more in a loop
pub with_next : (names old : List (List ℕ)) (i : ℕ) (name : List ℕ) → i < length names → name ≡ get_or names i name
    → with_name name (with_names (take i names) old) ≡ with_names (take (i + 1) names) old
with_next names old i name within is =
    with_push name (take i names) old ∙ ap (λ n. with_names (take i names ++ n ∷ []) old) is ∙ ap (λ ns. with_names ns old) (sym (take_more names i name within))

pub without_next : (names old : List (List ℕ)) (i : ℕ) (name : List ℕ) → i < length names → name ≡ get_or names i name
    → without_name name (other_than (take i names) old) ≡ other_than (take (i + 1) names) old
without_next names old i name within is =
    other_more (name ∷ []) (take i names) old ∙ ap (λ n. other_than (take i names ++ n ∷ []) old) is ∙ ap (λ ns. other_than ns old) (sym (take_more names i name within))

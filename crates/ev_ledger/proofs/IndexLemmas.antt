-- The index of the connections by their listener.
use Rattle.std.proofs.Common.{◌≡◌, ℕ, ◌+◌, Bool, true, false, not, ◌&&◌, ◌||◌, ◌==◌, cond, List, [], ◌∷◌, filter, map, Option, None, Some, refl, sym, ap, ◌∙◌, arith}
use Rattle.std.specs.List.{find, list_any, AllByRecursion}
use Rattle.std.specs.Option.{is_some, option_map, unwrap_or}
use Rattle.std.specs.List.Sorted.{IsStrictlySortedBy}
use Rattle.std.specs.Map.{keys_of, lookup}
use Rattle.std.specs.BTreeMap.{is_at}
use Rattle.std.specs.BTreeMap.Range.{range_contains}
use Rattle.std.specs.BTreeSet.{BTreeSet, contains, keys_between}
use Rattle.std.specs.Ordering.{is_eq, ordering_then, nat_cmp}
use Rattle.std.specs.declared.cmp.Ordering.{Ordering}
use Rattle.std.specs.declared.cmp.Ordering.TheVariants.{Less, Equal, Greater}
use Rattle.std.specs.declared.ops.Bound.TheVariants.{Included, Excluded}
use Rattle.std.proofs.Math.Bool.{and-true, or-false}
use Rattle.std.proofs.lemmas.Bool.{or_parts, true≢false}
use Rattle.std.proofs.lemmas.Bool.Decides.{nat_tests}
use Rattle.ev_types.specs.declared.origins.Origin.{Origin}
use Rattle.ev_model.specs.World.{OpenMember}
use Rattle.ev_model.specs.Connections.{is_member, is_open}
use Rattle.ev_ledger.specs.Members.{AreApart, AreInOrder, has_place, is_begun_at, is_open_at, is_open_from, on_of, place_order}
use Rattle.ev_ledger.specs.declared.open_on.On.{On}
use Rattle.ev_ledger.specs.Entries.{AreIndexed, EntersUnder, LeavesUnder, SameKeys, SetsAt, began_at, is_number, is_under, key_order, listener_of, member_of, members_of, place_of, place_on_order, stands_on}
use Rattle.ev_ledger.proofs.EntryLemmas.{apart_members, found_on}

-- a key is found exactly under its listener, at its place
then_equal : (r s : Ordering) → is_eq (ordering_then r s) ≡ (is_eq r && is_eq s)
then_equal Less s = refl
then_equal Equal s = refl
then_equal Greater s = refl

equal_numbers : (a b : ℕ) → is_eq (nat_cmp a b) ≡ (a == b)
equal_numbers a b = grind (arith, nat_tests)

same_key : (l m : ℕ) (k p : ℕ × ℕ) → is_at (place_on_order (l, k)) (m, p) ≡ ((l == m) && is_at (key_order k) p)
same_key l m k p = then_equal (nat_cmp l m) (key_order k p) ∙ ap (λ b. b && is_at (key_order k) p) (equal_numbers l m)

same_places : (a b x y : ℕ) → is_at (key_order (a, b)) (x, y) ≡ true → ◌≡◌ {A = ℕ × ℕ} (a, b) (x, y)
same_places a b x y h = let one : a ≡ x = grind (arith, nat_tests) in let two : b ≡ y = grind (arith, nat_tests) in cc

-- a connection that wasn't there enters
pub entered : (under : On → Option ℕ) (places after : BTreeSet (ℕ × (ℕ × ℕ))) (k : ℕ × ℕ) (v : On) (es left : List ((ℕ × ℕ) × On))
    → lookup (is_at (key_order k)) es ≡ None → EntersUnder (under v) k places after → SetsAt k (Some v) es left
    → AreIndexed under places es → AreIndexed under after left
entered under places after k v es left none enters puts was number place =
    enters number place ∙ by (is_at (key_order k) place) refl ∙ ap (is_under under number) (sym (puts place))
  where
    by : (t : Bool) → is_at (key_order k) place ≡ t
        → (contains place_on_order places (number, place) || (t && is_number number (under v))) ≡ is_under under number (cond t (Some v) (lookup (is_at (key_order place)) es))
    by true at =
        ap (λ b. b || is_number number (under v))
        (was number place ∙ ap (λ p. is_under under number (lookup (is_at (key_order p)) es)) (sym (same_places k.0 k.1 place.0 place.1 at)) ∙ ap (is_under under number) none)
    by false at = or-false (contains place_on_order places (number, place)) ∙ was number place

-- and leaves again
pub entered_left : (under : On → Option ℕ) (places between after : BTreeSet (ℕ × (ℕ × ℕ))) (k : ℕ × ℕ) (v : On) (es : List ((ℕ × ℕ) × On))
    → lookup (is_at (key_order k)) es ≡ None → EntersUnder (under v) k places between → LeavesUnder (under v) k between after
    → AreIndexed under places es → AreIndexed under after es
entered_left under places between after k v es none enters leaves was number place =
    leaves number place
    ∙ ap (λ b. b && not (is_at (key_order k) place && is_number number (under v))) (enters number place)
    ∙ by (is_at (key_order k) place) refl
  where
    none_and : (b : Bool) → (b && not b) ≡ false
    none_and true = refl
    none_and false = refl

    by : (t : Bool) → is_at (key_order k) place ≡ t
        → ((contains place_on_order places (number, place) || (t && is_number number (under v))) && not (t && is_number number (under v)))
        ≡ is_under under number (lookup (is_at (key_order place)) es)
    by true at =
        let gone : is_under under number (lookup (is_at (key_order place)) es) ≡ false =
        ap (λ p. is_under under number (lookup (is_at (key_order p)) es)) (sym (same_places k.0 k.1 place.0 place.1 at)) ∙ ap (is_under under number) none in
        ap (λ b. (b || is_number number (under v)) && not (is_number number (under v))) (was number place ∙ gone)
        ∙ none_and (is_number number (under v)) ∙ sym gone
    by false at = and-true (contains place_on_order places (number, place) || false) ∙ or-false (contains place_on_order places (number, place)) ∙ was number place

-- a connection that is taken out leaves
pub taken_left : (under : On → Option ℕ) (places after : BTreeSet (ℕ × (ℕ × ℕ))) (k : ℕ × ℕ) (v : On) (es left : List ((ℕ × ℕ) × On))
    → lookup (is_at (key_order k)) es ≡ Some v → LeavesUnder (under v) k places after → SetsAt k None es left
    → AreIndexed under places es → AreIndexed under after left
taken_left under places after k v es left some leaves takes was number place =
    leaves number place ∙ by (is_at (key_order k) place) refl ∙ ap (is_under under number) (sym (takes place))
  where
    none_and : (b : Bool) → (b && not b) ≡ false
    none_and true = refl
    none_and false = refl

    by : (t : Bool) → is_at (key_order k) place ≡ t
        → (contains place_on_order places (number, place) && not (t && is_number number (under v))) ≡ is_under under number (cond t None (lookup (is_at (key_order place)) es))
    by true at =
        ap (λ b. b && not (is_number number (under v)))
        (was number place ∙ ap (λ p. is_under under number (lookup (is_at (key_order p)) es)) (sym (same_places k.0 k.1 place.0 place.1 at)) ∙ ap (is_under under number) some)
        ∙ none_and (is_number number (under v))
    by false at = and-true (contains place_on_order places (number, place)) ∙ was number place

-- where a change failed, all are there as before
pub same_indexed : (under : On → Option ℕ) (places after : BTreeSet (ℕ × (ℕ × ℕ))) (es : List ((ℕ × ℕ) × On)) → SameKeys places after
    → AreIndexed under places es → AreIndexed under after es
same_indexed under places after es same was number place = same (number, place) ∙ was number place

-- nothing is there
pub none_there : (found : Option On) → is_some found ≡ false → found ≡ None
none_there None h = refl
none_there (Some on) h = absurd (true≢false h)

-- nothing was taken where nothing was there
pub none_taken : (under : On → Option ℕ) (places : BTreeSet (ℕ × (ℕ × ℕ))) (k : ℕ × ℕ) (es left : List ((ℕ × ℕ) × On)) → lookup (is_at (key_order k)) es ≡ None
    → SetsAt k None es left → AreIndexed under places es → AreIndexed under places left
none_taken under places k es left none takes was number q = was number q ∙ ap (is_under under number) (sym (takes q ∙ by (is_at (key_order k) q) refl))
  where
    by : (t : Bool) → is_at (key_order k) q ≡ t → cond t None (lookup (is_at (key_order q)) es) ≡ lookup (is_at (key_order q)) es
    by true at = sym none ∙ ap (λ p. lookup (is_at (key_order p)) es) (same_places k.0 k.1 q.0 q.1 at)
    by false at = refl

-- the keys from a number's first place on and before the next number's are the number's
range_is : (l : ℕ) (k : ℕ × (ℕ × ℕ)) → range_contains place_on_order (Included (l, (0, 0))) (Excluded (l + 1, (0, 0))) k ≡ (k.0 == l)
range_is l k = grind (arith, nat_tests)

pub range_of_listener : (l : ℕ) (places : BTreeSet (ℕ × (ℕ × ℕ)))
    → keys_between place_on_order (Included (l, (0, 0))) (Excluded (l + 1, (0, 0))) places ≡ filter (stands_on l) places.keys
range_of_listener l places = λ i. filter (λ k. range_is l k i) places.keys

-- a place is among a number's exactly where the index has it
turned_place : (w c a b : ℕ) → ((a == w) && (b == c)) ≡ is_at (key_order (w, c)) (a, b)
turned_place w c a b = grind (arith, nat_tests)

turned_numbers : (a b : ℕ) → (a == b) ≡ (b == a)
turned_numbers a b = grind (arith, nat_tests)

pub has_place_on : (l w c : ℕ) (keys : List (ℕ × (ℕ × ℕ)))
    → has_place w c (map place_of (filter (stands_on l) keys)) ≡ list_any (is_at (place_on_order (l, (w, c)))) keys
has_place_on l w c [] = refl
has_place_on l w c (k ∷ keys) =
    by (stands_on l k) (has_place_on l w c keys)
    ∙ ap (λ b. b || list_any (is_at (place_on_order (l, (w, c)))) keys)
    (sym (same_key l k.0 (w, c) k.1 ∙ ap (λ b. b && is_at (key_order (w, c)) k.1) (turned_numbers l k.0)))
  where
    by : (t : Bool) → has_place w c (map place_of (filter (stands_on l) keys)) ≡ list_any (is_at (place_on_order (l, (w, c)))) keys
        → has_place w c (map place_of (cond t (k ∷ filter (stands_on l) keys) (filter (stands_on l) keys)))
        ≡ ((t && is_at (key_order (w, c)) k.1) || list_any (is_at (place_on_order (l, (w, c)))) keys)
    by true rest = ap (λ b. b || has_place w c (map place_of (filter (stands_on l) keys))) (turned_place w c k.1.0 k.1.1) ∙ ap (λ b. is_at (key_order (w, c)) k.1 || b) rest
    by false rest = rest

-- the one connection of a worker and number passes a test where one does
same_member : (w c a b : ℕ) → ((a == w) && (b == c)) ≡ true → ◌≡◌ {A = ℕ × ℕ} (w, c) (a, b)
same_member w c a b h = let one : w ≡ a = grind (arith, nat_tests) in let two : c ≡ b = grind (arith, nat_tests) in cc

none_any : (q : OpenMember → Bool) (w c : ℕ) (ms : List OpenMember) → is_open ms w c ≡ false → list_any (λ m. is_member w c m && q m) ms ≡ false
none_any q w c [] none = refl
none_any q w c (m ∷ ms) none =
    let parts = or_parts (is_member w c m) (is_open ms w c) none in
    ap (λ b. (b && q m) || list_any (λ m. is_member w c m && q m) ms) parts.0 ∙ none_any q w c ms parts.1

pub found_any : (q : OpenMember → Bool) (w c : ℕ) (ms : List OpenMember) → AreApart ms
    → unwrap_or (option_map q (find (is_member w c) ms)) false ≡ list_any (λ m. is_member w c m && q m) ms
found_any q w c [] apart = refl
found_any q w c (m ∷ ms) apart = by (is_member w c m) refl (found_any q w c ms apart.1)
  where
    own : (b r : Bool) → r ≡ false → b ≡ (b || r)
    own true r none = refl
    own false r none = sym none

    by : (t : Bool) → is_member w c m ≡ t → unwrap_or (option_map q (find (is_member w c) ms)) false ≡ list_any (λ m. is_member w c m && q m) ms
        → unwrap_or (option_map q (cond t (Some m) (find (is_member w c) ms))) false ≡ ((t && q m) || list_any (λ m. is_member w c m && q m) ms)
    by true at rest =
        own (q m) (list_any (λ m. is_member w c m && q m) ms)
        (none_any q w c ms (ap (λ p. is_open ms p.0 p.1) (same_member w c m.worker m.connection at) ∙ apart.0))
    by false at rest = rest

-- what an index has under a number is open there
under_at : (under : On → Option ℕ) (number w c : ℕ) (es : List ((ℕ × ℕ) × On)) → IsStrictlySortedBy key_order (keys_of es)
    → is_under under number (lookup (is_at (key_order (w, c))) es) ≡ list_any (λ m. is_member w c m && is_number number (under (on_of m))) (members_of es)
under_at under number w c es sorted =
    ap (is_under under number) (found_on w c es) ∙ by (find (is_member w c) (members_of es))
    ∙ found_any (λ m. is_number number (under (on_of m))) w c (members_of es) (apart_members es sorted)
  where
    by : (found : Option OpenMember)
        → is_under under number (option_map on_of found) ≡ unwrap_or (option_map (λ (m : OpenMember). is_number number (under (on_of m))) found) false
    by None = refl
    by (Some m) = refl

pub open_at : (l w c : ℕ) (es : List ((ℕ × ℕ) × On)) → IsStrictlySortedBy key_order (keys_of es)
    → is_under listener_of l (lookup (is_at (key_order (w, c))) es) ≡ is_open_at l w c (members_of es)
open_at l w c es sorted = under_at listener_of l w c es sorted

pub open_from : (n w c : ℕ) (es : List ((ℕ × ℕ) × On)) → IsStrictlySortedBy key_order (keys_of es)
    → is_under began_at n (lookup (is_at (key_order (w, c))) es) ≡ is_open_from n w c (members_of es)
open_from n w c es sorted = under_at began_at n w c es sorted ∙ (λ i. list_any (λ m. is_member w c m && same m.origin i) (members_of es))
  where
    same : (origin : Option Origin) → is_number n (option_map (λ (o : Origin). o.listener) origin) ≡ is_begun_at n origin
    same None = refl
    same (Some origin) = refl

-- the connections of ordered entries are in order
later : (e : (ℕ × ℕ) × On) (es : List ((ℕ × ℕ) × On)) → AllByRecursion (λ y. key_order e.0 y ≡ Less) (keys_of es)
    → AllByRecursion (λ m. place_order (member_of e) m ≡ Less) (members_of es)
later e [] all = tt
later e (f ∷ es) all = (all.0, later e es all.1)

pub ordered_members : (es : List ((ℕ × ℕ) × On)) → IsStrictlySortedBy key_order (keys_of es) → AreInOrder (members_of es)
unfolding IsStrictlySortedBy
ordered_members [] sorted = tt
ordered_members (e ∷ es) sorted = (later e es sorted.0, ordered_members es sorted.1)

-- What is left of a tree when -1 represents each float.
use Rattle.std.proofs.Common.{◌≡◌, ℕ, suc, max, Bool, true, false, ◌||◌, List, [], ◌∷◌, map, Ordering, Less, Equal, Greater, refl, ap, ap₂, ◌∙◌}
use Rattle.std.specs.Ordering.{match_ordering, nat_cmp}
use Rattle.std.specs.Cmp.Lexicographic.{slice_cmp}
use Rattle.serde_json.specs.Data.{Num, unsigned, negative, float, Data, null, boolean, number, string, array, object, Items, no_items, item, Members, no_members, member, put, depth, items_depth, members_depth}
use Rattle.serde_json.specs.Find.{is_float}
use Rattle.serde_json.specs.View.{view, items_of, items_view}
use Rattle.serde_json.specs.Written.{has_float, items_have_float, members_have_float}
use Rattle.serde_json.specs.declared.value.Value.{Value}
use Rattle.ev_tree.specs.Floats.{whole_number, whole, whole_items, whole_members, MakesWhole}

-- ---- no float is left

number_none : (n : Num) → is_float (whole_number n) ≡ false
number_none (unsigned n) = refl
number_none (negative z) = refl
number_none (float x) = refl

mutual
  none_left : (d : Data) → has_float (whole d) ≡ false
  none_left null = refl
  none_left (boolean b) = refl
  none_left (number n) = number_none n
  none_left (string s) = refl
  none_left (array ds) = items_none ds
  none_left (object ms) = members_none ms

  items_none : (ds : Items) → items_have_float (whole_items ds) ≡ false
  items_none no_items = refl
  items_none (item d ds) = ap₂ (λ (a b : Bool). a || b) (none_left d) (items_none ds)

  members_none : (ms : Members) → members_have_float (whole_members ms) ≡ false
  members_none no_members = refl
  members_none (member k d ms) = ap₂ (λ (a b : Bool). a || b) (none_left d) (members_none ms)

-- ---- the depth stays

mutual
  same_depth : (d : Data) → depth (whole d) ≡ depth d
  same_depth null = refl
  same_depth (boolean b) = refl
  same_depth (number n) = refl
  same_depth (string s) = refl
  same_depth (array ds) = ap (λ (n : ℕ). suc n) (items_same_depth ds)
  same_depth (object ms) = ap (λ (n : ℕ). suc n) (members_same_depth ms)

  items_same_depth : (ds : Items) → items_depth (whole_items ds) ≡ items_depth ds
  items_same_depth no_items = refl
  items_same_depth (item d ds) = ap₂ (λ (a b : ℕ). max a b) (same_depth d) (items_same_depth ds)

  members_same_depth : (ms : Members) → members_depth (whole_members ms) ≡ members_depth ms
  members_same_depth no_members = refl
  members_same_depth (member k d ms) = ap₂ (λ (a b : ℕ). max a b) (same_depth d) (members_same_depth ms)

-- ---- a tree without floats stays as it is

first_false : (a b : Bool) → (a || b) ≡ false → a ≡ false
first_false true b h = h
first_false false b h = refl

second_false : (a b : Bool) → (a || b) ≡ false → b ≡ false
second_false true b h = absurd (cc)
second_false false b h = h

number_stays : (n : Num) → is_float n ≡ false → whole_number n ≡ n
number_stays (unsigned n) h = refl
number_stays (negative z) h = refl
number_stays (float x) h = absurd (cc)

mutual
  pub stays : (d : Data) → has_float d ≡ false → whole d ≡ d
  stays null h = refl
  stays (boolean b) h = refl
  stays (number n) h = ap number (number_stays n h)
  stays (string s) h = refl
  stays (array ds) h = ap array (items_stay ds h)
  stays (object ms) h = ap object (members_stay ms h)

  items_stay : (ds : Items) → items_have_float ds ≡ false → whole_items ds ≡ ds
  items_stay no_items h = refl
  items_stay (item d ds) h = ap₂ item (stays d (first_false _ _ h)) (items_stay ds (second_false (has_float d) _ h))

  members_stay : (ms : Members) → members_have_float ms ≡ false → whole_members ms ≡ ms
  members_stay no_members h = refl
  members_stay (member k d ms) h = ap₂ (member k) (stays d (first_false _ _ h)) (members_stay ms (second_false (has_float d) _ h))

pub made_whole : MakesWhole
made_whole tree = record { none = none_left tree; deep = same_depth tree; same = stays tree }

-- ---- copies

-- items that are copied one after another
pub items_copied : (vs : List Value) → items_of (map (λ (v : Value). whole (view v)) vs) ≡ whole_items (items_view vs)
items_copied [] = refl
items_copied (v ∷ vs) = ap (item (whole (view v))) (items_copied vs)

placed : (o : Ordering) (a b c : Members) → whole_members (match_ordering o a b c) ≡ match_ordering o (whole_members a) (whole_members b) (whole_members c)
placed Less a b c = refl
placed Equal a b c = refl
placed Greater a b c = refl

-- a member that is put among others
pub put_copied : (k : List ℕ) (d : Data) (ms : Members) → whole_members (put k d ms) ≡ put k (whole d) (whole_members ms)
put_copied k d no_members = refl
put_copied k d (member l e ms) =
    placed (slice_cmp nat_cmp k l) _ _ _
    ∙ ap (λ (ns : Members). match_ordering (slice_cmp nat_cmp k l) (member k (whole d) (member l (whole e) (whole_members ms))) (member l (whole d) (whole_members ms)) (member l (whole e) ns)) (put_copied k d ms)

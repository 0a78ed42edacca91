-- Where the elements of joined lists are, and which of two elements of a rising list comes first.
use Rattle.std.proofs.Common.{◌≡◌, ◌∙◌, ◌⊎◌, inl, inr, ℕ, zero, suc, ◌+◌, ◌<◌, ◌≤◌, Bool, true, false, cond, ◌||◌, List, [], ◌∷◌, ◌++◌, length, take, map, filter, filter_map, flat_map, Option, Some, None, refl, sym, ap, subst, arith, length-append}
use Rattle.std.specs.Prelude.{slice_get, Contains}
use Rattle.std.specs.Cmp.{first_so, second_so}
use Rattle.std.specs.List.{cons_option, list_any, list_all}
use Rattle.std.proofs.lemmas.Option.{slice_get_within, get_or_from_slice_get}
use Rattle.ev_model_laws.proofs.OperationLists.{IsIn}

pub some_same : {X : Type 0} {x y : X} → Some x ≡ Some y → x ≡ y
some_same e = cc

-- there is an element at each place
pub got : {X : Type 0} (xs : List X) (i : ℕ) → i < length xs → (x : X) × (slice_get xs i ≡ Some x)
got [] i h = absurd (omega (arith, h))
got (x ∷ xs) zero h = (x, refl)
got (x ∷ xs) (suc i) h = got xs i (omega (arith, h))

-- ---- joined lists

pub front_get : {X : Type 0} (xs ys : List X) (i : ℕ) (x : X) → slice_get xs i ≡ Some x → slice_get (xs ++ ys) i ≡ Some x
front_get [] ys i x h = absurd (cc)
front_get (y ∷ xs) ys zero x h = h
front_get (y ∷ xs) ys (suc i) x h = front_get xs ys i x h

pub back_get : {X : Type 0} (xs ys : List X) (i : ℕ) → slice_get (xs ++ ys) (length xs + i) ≡ slice_get ys i
back_get [] ys i = let none : 0 + i ≡ i = omega arith in ap (slice_get ys) none
back_get (y ∷ xs) ys i =
    let next : length (y ∷ xs) + i ≡ suc (length xs + i) = omega arith in
    ap (slice_get (y ∷ (xs ++ ys))) next ∙ back_get xs ys i

-- an element of joined lists is in the first, or in the second after it
pub record IsBehind {X : Type 0} (xs ys : List X) (i : ℕ) (x : X) : Type 0 where
  pub place : ℕ
  pub at : i ≡ length xs + place
  pub there : slice_get ys place ≡ Some x

pub split_get : {X : Type 0} (xs ys : List X) (i : ℕ) (x : X) → slice_get (xs ++ ys) i ≡ Some x → (slice_get xs i ≡ Some x) ⊎ IsBehind xs ys i x
split_get [] ys i x h = inr (record { place = i; at = omega arith; there = h })
split_get (y ∷ xs) ys zero x h = inl h
split_get (y ∷ xs) ys (suc i) x h = by (split_get xs ys i x h)
  where
    by : (slice_get xs i ≡ Some x) ⊎ IsBehind xs ys i x → (slice_get xs i ≡ Some x) ⊎ IsBehind (y ∷ xs) ys (suc i) x
    by (inl front) = inl front
    by (inr back) = inr (record { place = back.place; at = omega (arith, back.at); there = back.there })

-- of the first n
pub taken_get : {X : Type 0} (xs : List X) (n i : ℕ) (x : X) → slice_get (take n xs) i ≡ Some x → (i < n) × (slice_get xs i ≡ Some x)
taken_get [] zero i x h = absurd (cc)
taken_get [] (suc n) i x h = absurd (cc)
taken_get (y ∷ xs) zero i x h = absurd (cc)
taken_get (y ∷ xs) (suc n) zero x h = (omega arith, h)
taken_get (y ∷ xs) (suc n) (suc i) x h = let rest = taken_get xs n i x h in (omega (arith, rest.0), rest.1)

-- ---- joined pieces

-- the element is in one of the pieces, after all of those before it
pub record IsOfPiece {X Y : Type 0} (f : X → List Y) (xs : List X) (i : ℕ) (y : Y) : Type 0 where
  pub index : ℕ
  pub piece : X
  pub here : slice_get xs index ≡ Some piece
  pub inner : ℕ
  pub among : slice_get (f piece) inner ≡ Some y
  pub at : i ≡ length (flat_map f (take index xs)) + inner

pub of_piece : {X Y : Type 0} (f : X → List Y) (xs : List X) (i : ℕ) (y : Y) → slice_get (flat_map f xs) i ≡ Some y → IsOfPiece f xs i y
of_piece f [] i y h = absurd (cc)
of_piece f (x ∷ xs) i y h = by (split_get (f x) (flat_map f xs) i y h) (λ j there. of_piece f xs j y there)
  where
    by : (slice_get (f x) i ≡ Some y) ⊎ IsBehind (f x) (flat_map f xs) i y
        → ((j : ℕ) → slice_get (flat_map f xs) j ≡ Some y → IsOfPiece f xs j y) → IsOfPiece f (x ∷ xs) i y
    by (inl front) more = record { index = 0; piece = x; here = refl; inner = i; among = front; at = omega arith }
    by (inr back) more =
        let rest : IsOfPiece f xs back.place y = more back.place back.there in
        let joined : length (f x ++ flat_map f (take rest.index xs)) ≡ length (f x) + length (flat_map f (take rest.index xs)) =
        length-append (f x) (flat_map f (take rest.index xs)) in
        record {
          index = suc rest.index;
          piece = rest.piece;
          here = rest.here;
          inner = rest.inner;
          among = rest.among;
          at = omega (arith, back.at, rest.at, joined);
        }

pub piece_at : {X Y : Type 0} (f : X → List Y) (xs : List X) (index : ℕ) (piece : X) (inner : ℕ) (y : Y) → slice_get xs index ≡ Some piece → slice_get (f piece) inner ≡ Some y
    → slice_get (flat_map f xs) (length (flat_map f (take index xs)) + inner) ≡ Some y
piece_at f [] index piece inner y here among = absurd (cc)
piece_at f (x ∷ xs) zero piece inner y here among =
    let same : x ≡ piece = cc in
    let none : 0 + inner ≡ inner = omega arith in
    ap (slice_get (f x ++ flat_map f xs)) none
    ∙ front_get (f x) (flat_map f xs) inner y (subst (λ p. slice_get (f p) inner ≡ Some y) (sym same) among)
piece_at f (x ∷ xs) (suc index) piece inner y here among =
    let place : length (f x ++ flat_map f (take index xs)) + inner ≡ length (f x) + (length (flat_map f (take index xs)) + inner) =
    omega (arith, length-append (f x) (flat_map f (take index xs))) in
    ap (slice_get (f x ++ flat_map f xs)) place ∙ back_get (f x) (flat_map f xs) (length (flat_map f (take index xs)) + inner)
    ∙ piece_at f xs index piece inner y here among

-- the pieces before an earlier one are fewer
pub fewer_pieces : {X Y : Type 0} (f : X → List Y) (xs : List X) (i j : ℕ) (x : X) → i < j → slice_get xs i ≡ Some x
    → length (flat_map f (take i xs)) + length (f x) ≤ length (flat_map f (take j xs))
fewer_pieces f [] i j x less h = absurd (cc)
fewer_pieces f (y ∷ xs) i zero x less h = absurd (omega arith)
fewer_pieces f (y ∷ xs) zero (suc j) x less h =
    let same : y ≡ x = cc in
    let joined : length (f y ++ flat_map f (take j xs)) ≡ length (f y) + length (flat_map f (take j xs)) = length-append (f y) (flat_map f (take j xs)) in
    omega (arith, joined, ap (λ z. length (f z)) same)
fewer_pieces f (y ∷ xs) (suc i) (suc j) x less h =
    let rest : length (flat_map f (take i xs)) + length (f x) ≤ length (flat_map f (take j xs)) = fewer_pieces f xs i j x (omega arith) h in
    omega (arith, rest, length-append (f y) (flat_map f (take i xs)), length-append (f y) (flat_map f (take j xs)))

-- ---- elements

pub in_get : {X : Type 0} (xs : List X) (i : ℕ) (x : X) → slice_get xs i ≡ Some x → IsIn x xs
in_get [] i x h = absurd (cc)
in_get (y ∷ xs) zero x h = let same : y ≡ x = cc in inl same
in_get (y ∷ xs) (suc i) x h = inr (in_get xs i x h)

pub get_in : {X : Type 0} (xs : List X) (x : X) → IsIn x xs → (i : ℕ) × (slice_get xs i ≡ Some x)
get_in [] x is = absurd is
get_in (y ∷ xs) x (inl e) = (0, ap Some e)
get_in (y ∷ xs) x (inr is) = let rest = get_in xs x is in (suc rest.0, rest.1)

-- one of a list that joins the pieces is one of a piece
pub in_flat : {X Y : Type 0} (f : X → List Y) (xs : List X) (y : Y) → IsIn y (flat_map f xs) → (x : X) × IsIn x xs × IsIn y (f x)
in_flat f xs y is =
    let place = get_in (flat_map f xs) y is in
    let piece : IsOfPiece f xs place.0 y = of_piece f xs place.0 y place.1 in
    (piece.piece, in_get xs piece.index piece.piece piece.here, in_get (f piece.piece) piece.inner y piece.among)

pub flat_in : {X Y : Type 0} (f : X → List Y) (xs : List X) (x : X) (y : Y) → IsIn x xs → IsIn y (f x) → IsIn y (flat_map f xs)
flat_in f xs x y is among =
    let outer = get_in xs x is in
    let within = get_in (f x) y among in
    in_get (flat_map f xs) (length (flat_map f (take outer.0 xs)) + within.0) y (piece_at f xs outer.0 x within.0 y outer.1 within.1)

pub in_map : {X Y : Type 0} (f : X → Y) (xs : List X) (y : Y) → IsIn y (map f xs) → (x : X) × IsIn x xs × (f x ≡ y)
in_map f [] y is = absurd is
in_map f (x ∷ xs) y (inl e) = (x, inl refl, e)
in_map f (x ∷ xs) y (inr is) = let rest = in_map f xs y is in (rest.0, inr rest.1, rest.2)

pub map_in : {X Y : Type 0} (f : X → Y) (xs : List X) (x : X) → IsIn x xs → IsIn (f x) (map f xs)
map_in f [] x is = absurd is
map_in f (y ∷ xs) x (inl e) = inl (ap f e)
map_in f (y ∷ xs) x (inr is) = inr (map_in f xs x is)

pub in_found : {X Y : Type 0} (f : X → Option Y) (xs : List X) (y : Y) → IsIn y (filter_map f xs) → (x : X) × IsIn x xs × (f x ≡ Some y)
in_found f [] y is = absurd is
in_found f (x ∷ xs) y is = by f x xs y (f x) refl is (λ rest. in_found f xs y rest)
  where
    by : {X Y : Type 0} (f : X → Option Y) (x : X) (xs : List X) (y : Y) (found : Option Y) → f x ≡ found → IsIn y (cons_option found (filter_map f xs))
        → (IsIn y (filter_map f xs) → (z : X) × IsIn z xs × (f z ≡ Some y)) → (z : X) × IsIn z (x ∷ xs) × (f z ≡ Some y)
    by f x xs y None e is more = let rest = more is in (rest.0, inr rest.1, rest.2)
    by f x xs y (Some z) e (inl same) more = (x, inl refl, e ∙ ap Some same)
    by f x xs y (Some z) e (inr is) more = let rest = more is in (rest.0, inr rest.1, rest.2)

-- what passes is kept
pub in_kept : {X : Type 0} (p : X → Bool) (xs : List X) (x : X) → IsIn x xs → p x ≡ true → IsIn x (filter p xs)
in_kept p [] x is h = absurd is
in_kept p (y ∷ xs) x (inl e) h =
    let passes : p y ≡ true = ap p e ∙ h in
    subst (λ b. IsIn x (cond b (y ∷ filter p xs) (filter p xs))) (sym passes) (inl e)
in_kept p (y ∷ xs) x (inr is) h = by (p y) (in_kept p xs x is h)
  where
    by : (b : Bool) → IsIn x (filter p xs) → IsIn x (cond b (y ∷ filter p xs) (filter p xs))
    by true rest = inr rest
    by false rest = rest

pub in_any : {X : Type 0} (p : X → Bool) (xs : List X) → list_any p xs ≡ true → (x : X) × IsIn x xs × (p x ≡ true)
in_any p [] h = absurd (cc)
in_any p (x ∷ xs) h = by p x xs (p x) refl h (λ any. in_any p xs any)
  where
    by : {X : Type 0} (p : X → Bool) (x : X) (xs : List X) (b : Bool) → p x ≡ b → (b || list_any p xs) ≡ true
        → (list_any p xs ≡ true → (z : X) × IsIn z xs × (p z ≡ true)) → (z : X) × IsIn z (x ∷ xs) × (p z ≡ true)
    by p x xs true is any more = (x, inl refl, is)
    by p x xs false is any more = let rest = more any in (rest.0, inr rest.1, rest.2)

-- where all pass, each does
pub all_in : {X : Type 0} (p : X → Bool) (xs : List X) (x : X) → list_all p xs ≡ true → IsIn x xs → p x ≡ true
all_in p [] x all is = absurd is
all_in p (y ∷ xs) x all (inl e) = sym (ap p e) ∙ first_so (p y) (list_all p xs) all
all_in p (y ∷ xs) x all (inr is) = all_in p xs x (second_so (p y) (list_all p xs) all) is

pub in_contains : {X : Type 0} (xs : List X) (x : X) → IsIn x xs → Contains xs x
in_contains xs x is = let place = get_in xs x is in (place.0, slice_get_within xs place.0 x place.1, get_or_from_slice_get xs place.0 x x place.1)

pub contains_in : {X : Type 0} (xs : List X) (x : X) → Contains xs x → IsIn x xs
contains_in [] x has = absurd (omega (arith, has.1))
contains_in (y ∷ xs) x (zero, less, e) = inl e
contains_in (y ∷ xs) x (suc k, less, e) = inr (contains_in xs x (k, omega arith, e))

-- ---- what is found

further : {Y : Type 0} (found : Option Y) (y : Y) (ys : List Y) → IsIn y ys → IsIn y (cons_option found ys)
further None y ys is = is
further (Some w) y ys is = inr is

-- what is found of an element is one of all that are
pub found_in : {X Y : Type 0} (f : X → Option Y) (xs : List X) (x : X) (y : Y) → IsIn x xs → f x ≡ Some y → IsIn y (filter_map f xs)
found_in f [] x y is h = absurd is
found_in f (z ∷ xs) x y (inl e) h = subst (λ o. IsIn y (cons_option o (filter_map f xs))) (sym (ap f e ∙ h)) (inl refl)
found_in f (z ∷ xs) x y (inr is) h = further (f z) y (filter_map f xs) (found_in f xs x y is h)

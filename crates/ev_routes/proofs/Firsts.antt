-- Where the first route that takes a path is.
use Rattle.std.proofs.Common.{◌≡◌, ℕ, ◌+◌, ◌<◌, ◌≤◌, ◌==◌, ◌&&◌, ◌||◌, ◌++◌, Bool, true, false, not, min, cond, List, [], ◌∷◌, length, take, suc, zero, get_or, refl, sym, ap, ◌∙◌, arith, subst}
use Rattle.std.proofs.lemmas.Grind.{common_steps, take_at_read}
use Rattle.std.proofs.lemmas.Bool.Decides.{nat_tests}
use Rattle.std.proofs.lemmas.List.Elements.{All-head, All-more, All-tail, All-weaker}
use Rattle.std.proofs.lemmas.List.{take_all}
use Rattle.std.specs.List.{list_any, position_or_len}
use Rattle.std.specs.Cmp.Lexicographic.{nat_list_eq_equiv}
use Rattle.std.specs.Str.{bytes_eq}
use Rattle.ev_types.specs.declared.routes.PathMatch.{PathMatch}
use Rattle.ev_types.specs.declared.routes.PathMatch.TheVariants.{Prefix, Path, Separated}
use Rattle.ev_types.specs.declared.routes.Route.{Route}
use Rattle.ev_model.specs.Paths.{begins_with, is_path_taken, without_query}
use Rattle.ev_routes.specs.Paths.{AreCovered, KeepsLengths, first_taken, is_covered, is_part, is_prefix_taken, is_separated_taken, match_key, path_of}

-- tests that agree on each element have one first place
pub first_same : {X : Type 0} (p q : X → Bool) → ((x : X) → p x ≡ q x) → (xs : List X) → position_or_len p xs ≡ position_or_len q xs
first_same p q same [] = refl
first_same p q same (x ∷ xs) = λ i. cond (not (same x i)) (1 + first_same p q same xs i) 0

-- a test that nothing passes
pub first_never : {X : Type 0} (p : X → Bool) → ((x : X) → p x ≡ false) → (xs : List X) → position_or_len p xs ≡ length xs
first_never p never [] = refl
first_never p never (x ∷ xs) =
    let more : position_or_len p (x ∷ xs) ≡ 1 + length xs = λ i. cond (not (never x i)) (1 + first_never p never xs i) 0 in
    omega (arith, more)

-- the first place that passes one of two tests
pub first_either : {X : Type 0} (p q : X → Bool) (xs : List X) → min (position_or_len p xs) (position_or_len q xs) ≡ position_or_len (λ x. p x || q x) xs
first_either p q [] = refl
first_either p q (x ∷ xs) = by (p x) (q x) (first_either p q xs)
  where
    by : (a b : Bool) → min (position_or_len p xs) (position_or_len q xs) ≡ position_or_len (λ y. p y || q y) xs
        → min (cond (not a) (1 + position_or_len p xs) 0) (cond (not b) (1 + position_or_len q xs) 0) ≡ cond (not (a || b)) (1 + position_or_len (λ y. p y || q y) xs) 0
    by true true rest = refl
    by true false rest = omega arith
    by false true rest = omega arith
    by false false rest = omega (arith, rest)

-- a text of this length is the prefix of a longer one
front_same : (n : ℕ) (front path : List ℕ) → n ≤ length path → bytes_eq front (take n path) ≡ (length front == n) && begins_with path front
front_same zero [] path short = refl
front_same (suc n) [] [] short = absurd (omega arith)
front_same (suc n) [] (b ∷ path) short = grind (arith, common_steps, nat_tests)
front_same zero (f ∷ front) path short = grind (arith, common_steps, nat_tests)
front_same (suc n) (f ∷ front) [] short = absurd (omega arith)
front_same (suc n) (f ∷ front) (b ∷ path) short = grind (arith, common_steps, nat_tests, front_same n front path (omega arith))

front_long : (n : ℕ) (front path : List ℕ) → length path < n → (length front == n) && begins_with path front ≡ false
front_long n [] path long = grind (arith, common_steps, nat_tests)
front_long zero (f ∷ front) path long = absurd (omega arith)
front_long (suc n) (f ∷ front) [] long = grind (arith, common_steps, nat_tests)
front_long (suc n) (f ∷ front) (b ∷ path) long = grind (arith, common_steps, nat_tests, front_long n front path (omega arith))

-- a text of this length is the prefix of another before a `/`, or all of it
part_same : (n : ℕ) (front path : List ℕ)
    → is_part n path && bytes_eq front (take n path) ≡ (length front == n) && (bytes_eq path front || begins_with path (front ++ 47 ∷ []))
part_same zero [] [] = refl
part_same zero [] (b ∷ path) = grind (arith, common_steps, nat_tests)
part_same (suc n) [] [] = grind (arith, common_steps, nat_tests)
part_same (suc n) [] (b ∷ path) = grind (arith, common_steps, nat_tests)
part_same zero (f ∷ front) path = grind (arith, common_steps, nat_tests)
part_same (suc n) (f ∷ front) [] = grind (arith, common_steps, nat_tests)
part_same (suc n) (f ∷ front) (b ∷ path) = grind (arith, common_steps, nat_tests, part_same n front path)

-- keys of the three kinds
pub whole_key : (path : List ℕ) (m : PathMatch) → bytes_eq (match_key m) (1 ∷ without_query path) ≡ is_covered [] m && is_path_taken path m
whole_key path (Prefix front) = refl
whole_key path (Path whole) = nat_list_eq_equiv.symm whole (without_query path)
whole_key path (Separated front) = refl

pub prefix_key : (n : ℕ) (path : List ℕ) → n ≤ length path → (m : PathMatch) → bytes_eq (match_key m) (0 ∷ take n path) ≡ is_prefix_taken n path m
prefix_key n path short (Prefix front) = front_same n front path short
prefix_key n path short (Path whole) = refl
prefix_key n path short (Separated front) = refl

pub prefix_none : (n : ℕ) (path : List ℕ) → length path < n → (m : PathMatch) → is_prefix_taken n path m ≡ false
prefix_none n path long (Prefix front) = front_long n front path long
prefix_none n path long (Path whole) = refl
prefix_none n path long (Separated front) = refl

pub separated_key : (n : ℕ) (path : List ℕ) → is_part n (without_query path) ≡ true → (m : PathMatch)
    → bytes_eq (match_key m) (2 ∷ take n (without_query path)) ≡ is_separated_taken n path m
separated_key n path part (Prefix front) = refl
separated_key n path part (Path whole) = refl
separated_key n path part (Separated front) = ap (λ b. b && bytes_eq front (take n (without_query path))) (sym part) ∙ part_same n front (without_query path)

pub separated_none : (n : ℕ) (path : List ℕ) → is_part n (without_query path) ≡ false → (m : PathMatch) → is_separated_taken n path m ≡ false
separated_none n path part (Prefix front) = refl
separated_none n path part (Path whole) = refl
separated_none n path part (Separated front) =
    sym (part_same n front (without_query path)) ∙ ap (λ b. b && bytes_eq front (take n (without_query path))) part

-- one more length
any_last : (p : ℕ → Bool) (ns : List ℕ) (n : ℕ) → list_any p (ns ++ n ∷ []) ≡ list_any p ns || p n
any_last p [] n = by (p n)
  where
    by : (b : Bool) → b || false ≡ b
    by true = refl
    by false = refl
any_last p (m ∷ ns) n = by (p m) (any_last p ns n)
  where
    by : (b : Bool) → list_any p (ns ++ n ∷ []) ≡ list_any p ns || p n → b || list_any p (ns ++ n ∷ []) ≡ (b || list_any p ns) || p n
    by true rest = refl
    by false rest = rest

or_and : (a b t : Bool) → (a && t) || (b && t) ≡ (a || b) && t
or_and true true true = refl
or_and true true false = refl
or_and true false true = refl
or_and true false false = refl
or_and false true true = refl
or_and false true false = refl
or_and false false t = refl

or_false : (a : Bool) → a || false ≡ a
or_false true = refl
or_false false = refl

pub covered_last : (ns : List ℕ) (n : ℕ) (path : List ℕ) (m : PathMatch)
    → ((is_covered ns m && is_path_taken path m) || is_prefix_taken n path m) || is_separated_taken n path m ≡ is_covered (ns ++ n ∷ []) m && is_path_taken path m
covered_last ns n path (Prefix front) =
    or_false _ ∙ or_and (list_any (λ k. length front == k) ns) (length front == n) (is_path_taken path (Prefix front))
    ∙ ap (λ b. b && is_path_taken path (Prefix front)) (sym (any_last (λ k. length front == k) ns n))
covered_last ns n path (Path whole) = or_false _ ∙ or_false _
covered_last ns n path (Separated front) =
    ap (λ b. b || ((length front == n) && is_path_taken path (Separated front))) (or_false _)
    ∙ or_and (list_any (λ k. length front == k) ns) (length front == n) (is_path_taken path (Separated front))
    ∙ ap (λ b. b && is_path_taken path (Separated front)) (sym (any_last (λ k. length front == k) ns n))

-- where each match is covered, nothing is left out
pub first_covered : (lengths path : List ℕ) (routes : List Route) → AreCovered lengths routes
    → position_or_len (λ (r : Route). is_covered lengths (path_of r) && is_path_taken path (path_of r)) routes ≡ first_taken path routes
first_covered lengths path [] all = refl
first_covered lengths path (r ∷ routes) all =
    let P : Route → Type 0 = λ (x : Route). is_covered lengths (path_of x) ≡ true in
    let here : is_covered lengths (path_of r) ≡ true = All-head P r routes all in
    let rest = first_covered lengths path routes (All-tail P r routes all) in
    λ i. cond (not (here i && is_path_taken path (path_of r))) (1 + rest i) 0

take_more : (ns : List ℕ) (i d : ℕ) → i < length ns → take (i + 1) ns ≡ take i ns ++ get_or ns i d ∷ []
take_more ns i d less = (take_at_read ns i d less).1

-- one more length, as at a step over them
pub first_step : (lengths path : List ℕ) (routes : List Route) (i n : ℕ) → i < length lengths → n ≡ get_or lengths i 0
    → min (min (position_or_len (λ (r : Route). is_covered (take i lengths) (path_of r) && is_path_taken path (path_of r)) routes)
    (position_or_len (λ (r : Route). is_prefix_taken n path (path_of r)) routes))
    (position_or_len (λ (r : Route). is_separated_taken n path (path_of r)) routes)
    ≡ position_or_len (λ (r : Route). is_covered (take (i + 1) lengths) (path_of r) && is_path_taken path (path_of r)) routes
first_step lengths path routes i n less at =
    let A : Route → Bool = λ r. is_covered (take i lengths) (path_of r) && is_path_taken path (path_of r) in
    let B : Route → Bool = λ r. is_prefix_taken n path (path_of r) in
    let C : Route → Bool = λ r. is_separated_taken n path (path_of r) in
    let more : take i lengths ++ n ∷ [] ≡ take (i + 1) lengths = ap (λ k. take i lengths ++ k ∷ []) at ∙ sym (take_more lengths i 0 less) in
    ap (λ k. min k (position_or_len C routes)) (first_either A B routes)
    ∙ first_either (λ r. A r || B r) C routes
    ∙ first_same (λ r. (A r || B r) || C r) (λ r. is_covered (take i lengths ++ n ∷ []) (path_of r) && is_path_taken path (path_of r)) (λ r. covered_last (take i lengths) n path (path_of r)) routes
    ∙ ap (λ ns. position_or_len (λ (r : Route). is_covered ns (path_of r) && is_path_taken path (path_of r)) routes) more

-- more lengths cover what fewer do
pub covered_kept : (before after : List ℕ) → KeepsLengths before after → (m : PathMatch) → is_covered before m ≡ true → is_covered after m ≡ true
covered_kept before after keeps (Prefix front) was = keeps (length front) was
covered_kept before after keeps (Path whole) was = refl
covered_kept before after keeps (Separated front) was = keeps (length front) was

-- one more route whose match is covered
pub covered_more : (before after : List ℕ) (routes : List Route) (i : ℕ) (r : Route) → i < length routes → r ≡ get_or routes i r
    → KeepsLengths before after → is_covered after (path_of r) ≡ true → AreCovered before (take i routes) → AreCovered after (take (i + 1) routes)
covered_more before after routes i r less at keeps here all =
    let P : Route → Type 0 = λ (x : Route). is_covered before (path_of x) ≡ true in
    let Q : Route → Type 0 = λ (x : Route). is_covered after (path_of x) ≡ true in
    All-more Q routes i r less (All-weaker P Q (λ x was. covered_kept before after keeps (path_of x) was) (take i routes) all) (subst Q at here)

-- all of them
pub covered_all : (lengths : List ℕ) (routes : List Route) (i : ℕ) → length routes ≤ i → AreCovered lengths (take i routes) → AreCovered lengths routes
covered_all lengths routes i past all = subst (AreCovered lengths) (take_all i routes past) all

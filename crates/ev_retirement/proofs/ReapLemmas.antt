-- The dead go one after another, and then all are gone.
use Rattle.std.proofs.Common.{◌≡◌, ℕ, Bool, true, false, not, ◌&&◌, ◌||◌, ◌==◌, cond, nat_le, List, [], ◌∷◌, ◌++◌, filter, map, refl, sym, ap, ◌∙◌, arith}
use Rattle.std.specs.List.{list_any, AllByRecursion}
use Rattle.std.proofs.lemmas.Bool.{true≢false, false≢true, or_parts}
use Rattle.std.proofs.lemmas.Bool.Decides.{nat_tests}
use Rattle.std.proofs.lemmas.List.Folds.{list_any-append}
use Rattle.ev_types.specs.declared.journals.Format.{Format}
use Rattle.ev_types.specs.declared.rows.GenRow.{GenRow}
use Rattle.ev_model.specs.World.{World}
use Rattle.ev_model.specs.Picture.{has_number}
use Rattle.ev_model.specs.Dead.{is_dead}
use Rattle.ev_model.specs.Publishing.{dead_numbers, without_dead}
use Rattle.ev_ledger.proofs.OrderLemmas.{any_sorted}
use Rattle.ev_retirement.specs.Holders.{AreNumbered, without_generation, without_generations}

-- no number is taken out
all_kept : {X : Type 0} (xs : List X) → xs ≡ filter (λ x. true) xs
all_kept [] = refl
all_kept (x ∷ xs) = ap (λ ys. x ∷ ys) (all_kept xs)

pub none_taken : (world : World) → world ≡ without_generations [] world
none_taken world = λ i. record world { rows = all_kept world.rows i; expired = all_kept world.expired i }

-- one more is taken out
one_turned : (a b : ℕ) → (a == b) ≡ (b == a)
one_turned a b = grind (arith, nat_tests)

either : (had is : Bool) → (not had && not is) ≡ not (had || (is || false))
either true is = refl
either false true = refl
either false false = refl

module _ {X : Type 0} (f : X → ℕ) (number : ℕ) (numbers : List ℕ) where
  test : (x : X) → (not (has_number (f x) numbers) && not (f x == number)) ≡ not (has_number (f x) (numbers ++ number ∷ []))
  test x =
      ap (λ b. not (has_number (f x) numbers) && not b) (one_turned (f x) number)
      ∙ either (has_number (f x) numbers) (number == f x)
      ∙ ap not (sym (list_any-append (λ n. n == f x) numbers (number ∷ [])))

  one_more : (xs : List X) → filter (λ x. not (f x == number)) (filter (λ x. not (has_number (f x) numbers)) xs) ≡ filter (λ x. not (has_number (f x) (numbers ++ number ∷ []))) xs
  one_more [] = refl
  one_more (x ∷ xs) = by (not (has_number (f x) numbers)) (not (f x == number)) (not (has_number (f x) (numbers ++ number ∷ []))) (test x) refl (one_more xs)
    where
      by : (s t u : Bool) → (s && t) ≡ u → not (f x == number) ≡ t
          → filter (λ y. not (f y == number)) (filter (λ y. not (has_number (f y) numbers)) xs) ≡ filter (λ y. not (has_number (f y) (numbers ++ number ∷ []))) xs
          → filter (λ y. not (f y == number)) (cond s (x ∷ filter (λ y. not (has_number (f y) numbers)) xs) (filter (λ y. not (has_number (f y) numbers)) xs))
          ≡ cond u (x ∷ filter (λ y. not (has_number (f y) (numbers ++ number ∷ []))) xs) (filter (λ y. not (has_number (f y) (numbers ++ number ∷ []))) xs)
      by true true true h is rest =
          ap (λ b. cond b (x ∷ filter (λ y. not (f y == number)) (filter (λ y. not (has_number (f y) numbers)) xs)) (filter (λ y. not (f y == number)) (filter (λ y. not (has_number (f y) numbers)) xs))) is
          ∙ ap (λ l. x ∷ l) rest
      by true true false h is rest = absurd (true≢false h)
      by true false true h is rest = absurd (false≢true h)
      by true false false h is rest =
          ap (λ b. cond b (x ∷ filter (λ y. not (f y == number)) (filter (λ y. not (has_number (f y) numbers)) xs)) (filter (λ y. not (f y == number)) (filter (λ y. not (has_number (f y) numbers)) xs))) is
          ∙ rest
      by false t true h is rest = absurd (false≢true h)
      by false t false h is rest = rest

pub one_taken : (number : ℕ) (numbers : List ℕ) (world : World) → without_generation number (without_generations numbers world) ≡ without_generations (numbers ++ number ∷ []) world
one_taken number numbers world = λ i. record world {
  rows = one_more (λ (r : GenRow). r.number) number numbers world.rows i;
  expired = one_more (λ n. n) number numbers world.expired i;
}

-- a row's number is among the dead ones exactly where it is dead
number_own : (a : ℕ) → (a == a) ≡ true
number_own a = grind (arith, nat_tests)

module _ (dead : GenRow → Bool) where
  abbrev among : List GenRow → ℕ → Bool
  among rows number = list_any (λ (y : GenRow). y.number == number) (filter dead rows)

  none_left : (number : ℕ) (rows : List GenRow) → list_any (λ (y : GenRow). y.number == number) rows ≡ false → among rows number ≡ false
  none_left number [] none = refl
  none_left number (row ∷ rows) none =
      let parts = or_parts (row.number == number) (list_any (λ (y : GenRow). y.number == number) rows) none in
      by (dead row) parts.0 (none_left number rows parts.1)
    where
      by : (t : Bool) → (row.number == number) ≡ false → among rows number ≡ false
          → list_any (λ (y : GenRow). y.number == number) (cond t (row ∷ filter dead rows) (filter dead rows)) ≡ false
      by true here rest = ap (λ b. b || among rows number) here ∙ rest
      by false here rest = rest

  own_later : (row : GenRow) (rows others : List GenRow) → list_any (λ (y : GenRow). y.number == row.number) others ≡ false
      → AllByRecursion (λ (z : GenRow). among rows z.number ≡ dead z) others → AllByRecursion (λ (z : GenRow). among (row ∷ rows) z.number ≡ dead z) others
  own_later row rows [] none all = tt
  own_later row rows (z ∷ others) none all =
      let parts = or_parts (z.number == row.number) (list_any (λ (y : GenRow). y.number == row.number) others) none in
      (by (dead row) (one_turned row.number z.number ∙ parts.0) all.0, own_later row rows others parts.1 all.1)
    where
      by : (t : Bool) → (row.number == z.number) ≡ false → among rows z.number ≡ dead z
          → list_any (λ (y : GenRow). y.number == z.number) (cond t (row ∷ filter dead rows) (filter dead rows)) ≡ dead z
      by true apart rest = ap (λ b. b || among rows z.number) apart ∙ rest
      by false apart rest = rest

  own : (rows : List GenRow) → AreNumbered rows → AllByRecursion (λ (z : GenRow). among rows z.number ≡ dead z) rows
  own [] apart = tt
  own (row ∷ rows) apart = (by (dead row), own_later row rows rows apart.0 (own rows apart.1))
    where
      by : (t : Bool) → list_any (λ (y : GenRow). y.number == row.number) (cond t (row ∷ filter dead rows) (filter dead rows)) ≡ t
      by true = ap (λ b. b || among rows row.number) (number_own row.number)
      by false = none_left row.number rows apart.0

any_mapped : (rows : List GenRow) (number : ℕ) → has_number number (map (λ (r : GenRow). r.number) rows) ≡ list_any (λ (y : GenRow). y.number == number) rows
any_mapped [] number = refl
any_mapped (row ∷ rows) number = ap (λ b. (row.number == number) || b) (any_mapped rows number)

same_left : (numbers : List ℕ) (dead : GenRow → Bool) (rows : List GenRow) → AllByRecursion (λ (z : GenRow). has_number z.number numbers ≡ dead z) rows
    → filter (λ (row : GenRow). not (has_number row.number numbers)) rows ≡ filter (λ row. not (dead row)) rows
same_left numbers dead [] all = refl
same_left numbers dead (row ∷ rows) all = by (has_number row.number numbers) (dead row) all.0 (same_left numbers dead rows all.1)
  where
    by : (s t : Bool) → s ≡ t → filter (λ (r : GenRow). not (has_number r.number numbers)) rows ≡ filter (λ r. not (dead r)) rows
        → cond (not s) (row ∷ filter (λ (r : GenRow). not (has_number r.number numbers)) rows) (filter (λ (r : GenRow). not (has_number r.number numbers)) rows)
        ≡ cond (not t) (row ∷ filter (λ r. not (dead r)) rows) (filter (λ r. not (dead r)) rows)
    by true true h rest = rest
    by true false h rest = absurd (true≢false h)
    by false true h rest = absurd (false≢true h)
    by false false h rest = ap (λ l. row ∷ l) rest

all_so : (P Q : GenRow → Type 0) → ((z : GenRow) → P z → Q z) → (rows : List GenRow) → AllByRecursion P rows → AllByRecursion Q rows
all_so P Q so [] all = tt
all_so P Q so (row ∷ rows) all = (so row all.0, all_so P Q so rows all.1)

-- a row's number is among the dead ones exactly where the row is dead
pub dead_own : (format : Format) (world : World) → AreNumbered world.rows
    → AllByRecursion (λ (z : GenRow). has_number z.number (dead_numbers format world) ≡ is_dead format world z) world.rows
dead_own format world apart =
    let dead : GenRow → Bool = is_dead format world in
    let numbers : List ℕ = dead_numbers format world in
    all_so (λ (z : GenRow). among dead world.rows z.number ≡ dead z) (λ (z : GenRow). has_number z.number numbers ≡ dead z)
    (λ z is. any_sorted nat_le (λ n. n == z.number) (map (λ (r : GenRow). r.number) (filter dead world.rows)) ∙ any_mapped (filter dead world.rows) z.number ∙ is)
    world.rows (own dead world.rows apart)

pub all_taken : (format : Format) (world : World) → AreNumbered world.rows → without_generations (dead_numbers format world) world ≡ without_dead format world
all_taken format world apart =
    let numbers : List ℕ = dead_numbers format world in
    ap (λ (rows : List GenRow). record world { rows = rows; expired = filter (λ n. not (has_number n numbers)) world.expired })
    (same_left numbers (is_dead format world) world.rows (dead_own format world apart))

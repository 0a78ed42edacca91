-- The dead generations go one after another, and each row that goes is as it was at first.
use Rattle.std.proofs.Common.{◌≡◌, ℕ, Bool, true, false, not, ◌&&◌, ◌||◌, ◌==◌, cond, nat_eq, nat_le, List, [], ◌∷◌, ◌++◌, Option, None, Some, filter, map, refl, sym, ap, ◌∙◌, arith}
use Rattle.std.specs.Prelude.{option_to_list, ⊤}
use Rattle.std.specs.List.{list_any, AllByRecursion}
use Rattle.std.proofs.lemmas.Bool.{false≢true, or_parts, eqb-true}
use Rattle.std.proofs.lemmas.Bool.Decides.{nat_tests}
use Rattle.std.proofs.lemmas.List.{append_assoc, append-nil}
use Rattle.ev_types.specs.Statuses.{is_live}
use Rattle.ev_types.specs.declared.journals.Format.{Format}
use Rattle.ev_types.specs.declared.rows.GenRow.{GenRow}
use Rattle.ev_types.specs.declared.rows.RowStatus.{RowStatus}
use Rattle.ev_types.specs.declared.rows.RowStatus.TheVariants.{Warming, Active, Draining, Dropped}
use Rattle.ev_model.specs.Sorted.{put_by}
use Rattle.ev_model.specs.Picture.{has_number}
use Rattle.ev_model.specs.Publishing.{ascending, dead_numbers}
use Rattle.ev_model.specs.Dead.{is_dead, is_dead_at}
use Rattle.ev_model.specs.World.{World}
use Rattle.ev_indexes.specs.Tables.{row_in}
use Rattle.ev_ledger.proofs.OrderLemmas.{any_put, any_sorted}
use Rattle.ev_warming.specs.Changes.{is_over}
use Rattle.ev_state.specs.States.{over_in, where_over, without_over}
use Rattle.ev_retirement.specs.Holders.{AreNumbered}
use Rattle.ev_proxy.specs.Proxies.{AreRowsOf, rows_gone, without_each}

-- no number occurs twice
abbrev AreApart : List ℕ → Type 0
AreApart [] = ⊤
AreApart (number ∷ numbers) = (has_number number numbers ≡ false) × AreApart numbers

-- a number is found among the others where it is none of this one
goes_by : (n m : ℕ) (rows : List GenRow) → nat_eq m n ≡ false → row_in m (without_over n rows) ≡ row_in m rows
goes_by n m [] other = refl
goes_by n m (row ∷ rows) other = by (nat_eq n row.number) refl (is_live row.status) (nat_eq m row.number) refl (goes_by n m rows other)
  where
    by : (b : Bool) → nat_eq n row.number ≡ b → (l : Bool) → (d : Bool) → nat_eq m row.number ≡ d → row_in m (without_over n rows) ≡ row_in m rows
        → row_in m (cond (not (b && not l)) (row ∷ without_over n rows) (without_over n rows)) ≡ cond d (Some row) (row_in m rows)
    by true here true d at rest = (λ i. cond (at i) (Some row) (row_in m (without_over n rows))) ∙ (λ i. cond d (Some row) (rest i))
    by true here false true at rest = absurd (false≢true (sym other ∙ ap (λ k. nat_eq m k) (eqb-true n row.number here) ∙ at))
    by true here false false at rest = rest
    by false there l d at rest = (λ i. cond (at i) (Some row) (row_in m (without_over n rows))) ∙ (λ i. cond d (Some row) (rest i))

-- each of these numbers is of a row that drains or was dropped
abbrev pub AreOver : List GenRow → List ℕ → Type 0
AreOver rows numbers = AllByRecursion (λ number. is_over (row_in number rows) ≡ true) numbers

over_is : (found : Option GenRow) → is_over found ≡ true → map Some (option_to_list (where_over found)) ≡ found ∷ []
over_is None over = absurd (false≢true over)
over_is (Some row) over = by (is_live row.status) over
  where
    by : (l : Bool) → not l ≡ true → map Some (option_to_list (cond l None (Some row))) ≡ Some row ∷ []
    by true isnt = absurd (false≢true isnt)
    by false is = refl

some_behind : (one : Option GenRow) (rest : List GenRow) → map Some (option_to_list one ++ rest) ≡ map Some (option_to_list one) ++ map Some rest
some_behind None rest = refl
some_behind (Some row) rest = refl

turned : (a b : ℕ) → (a == b) ≡ (b == a)
turned a b = grind (arith, nat_tests)

-- those that are left are found as before
left : (n : ℕ) (rows : List GenRow) (numbers : List ℕ) → has_number n numbers ≡ false
    → map (λ m. row_in m (without_over n rows)) numbers ≡ map (λ m. row_in m rows) numbers
left n rows [] none = refl
left n rows (m ∷ numbers) none =
    let parts = or_parts (m == n) (has_number n numbers) none in
    λ i. goes_by n m rows parts.0 i ∷ left n rows numbers parts.1 i

left_over : (n : ℕ) (rows : List GenRow) (numbers : List ℕ) → has_number n numbers ≡ false → AreOver rows numbers → AreOver (without_over n rows) numbers
left_over n rows [] none over = tt
left_over n rows (m ∷ numbers) none over =
    let parts = or_parts (m == n) (has_number n numbers) none in
    (ap is_over (goes_by n m rows parts.0) ∙ over.0, left_over n rows numbers parts.1 over.1)

-- the rows that go are those of the numbers
gone_are : (numbers : List ℕ) (rows : List GenRow) → AreApart numbers → AreOver rows numbers
    → map Some (rows_gone numbers rows) ≡ map (λ n. row_in n rows) numbers
gone_are [] rows apart over = refl
gone_are (n ∷ numbers) rows apart over =
    some_behind (over_in n rows) (rows_gone numbers (without_over n rows))
    ∙ (λ i. over_is (row_in n rows) over.0 i ++ gone_are numbers (without_over n rows) apart.1 (left_over n rows numbers apart.0 over.1) i)
    ∙ ap (λ founds. row_in n rows ∷ founds) (left n rows numbers apart.0)

-- numbers in order are apart where they were
apart_put : (n : ℕ) (numbers : List ℕ) → has_number n numbers ≡ false → AreApart numbers → AreApart (put_by nat_le n numbers)
apart_put n [] none apart = (refl, tt)
apart_put n (m ∷ numbers) none apart = by (nat_le n m) (apart_put n numbers parts.1 apart.1)
  where
    parts : ((m == n) ≡ false) × (has_number n numbers ≡ false)
    parts = or_parts (m == n) (has_number n numbers) none

    by : (b : Bool) → AreApart (put_by nat_le n numbers) → AreApart (cond b (n ∷ m ∷ numbers) (m ∷ put_by nat_le n numbers))
    by true rest = (none, apart)
    by false rest =
        (any_put nat_le (λ k. k == m) n numbers ∙ ap (λ b. b || has_number m numbers) (turned n m ∙ parts.0) ∙ apart.0, rest)

apart_sorted : (numbers : List ℕ) → AreApart numbers → AreApart (ascending numbers)
apart_sorted [] apart = tt
apart_sorted (n ∷ numbers) apart =
    apart_put n (ascending numbers) (any_sorted nat_le (λ k. k == n) numbers ∙ apart.0) (apart_sorted numbers apart.1)

module _ (dead : GenRow → Bool) where
  abbrev numbers_left : List GenRow → List ℕ
  numbers_left rows = map (λ (row : GenRow). row.number) (filter dead rows)

  none_left : (number : ℕ) (rows : List GenRow) → list_any (λ (row : GenRow). row.number == number) rows ≡ false → has_number number (numbers_left rows) ≡ false
  none_left number [] none = refl
  none_left number (row ∷ rows) none =
      let parts = or_parts (row.number == number) (list_any (λ (y : GenRow). y.number == number) rows) none in
      by (dead row) parts.0 (none_left number rows parts.1)
    where
      by : (d : Bool) → (row.number == number) ≡ false → has_number number (numbers_left rows) ≡ false
          → has_number number (map (λ (r : GenRow). r.number) (cond d (row ∷ filter dead rows) (filter dead rows))) ≡ false
      by true here rest = ap (λ b. b || has_number number (numbers_left rows)) here ∙ rest
      by false here rest = rest

  apart_left : (rows : List GenRow) → AreNumbered rows → AreApart (numbers_left rows)
  apart_left [] apart = tt
  apart_left (row ∷ rows) apart = by (dead row) (apart_left rows apart.1)
    where
      by : (d : Bool) → AreApart (numbers_left rows) → AreApart (map (λ (r : GenRow). r.number) (cond d (row ∷ filter dead rows) (filter dead rows)))
      by true rest = (none_left row.number rows apart.0, rest)
      by false rest = rest

  -- what is dead is over, and is found
  found_over : ((row : GenRow) → dead row ≡ true → is_over (Some row) ≡ true) → (number : ℕ) (rows : List GenRow) → AreNumbered rows
      → has_number number (numbers_left rows) ≡ true → is_over (row_in number rows) ≡ true
  found_over over number [] apart there = absurd (false≢true there)
  found_over over number (row ∷ rows) apart there =
      by (dead row) refl (nat_eq number row.number) refl there (found_over over number rows apart.1)
    where
      by : (d : Bool) → dead row ≡ d → (b : Bool) → nat_eq number row.number ≡ b
          → has_number number (map (λ (r : GenRow). r.number) (cond d (row ∷ filter dead rows) (filter dead rows))) ≡ true
          → (has_number number (numbers_left rows) ≡ true → is_over (row_in number rows) ≡ true)
          → is_over (cond b (Some row) (row_in number rows)) ≡ true
      by true is true here there rest = over row is
      by true is false other there rest = rest (sym (ap (λ b. b || has_number number (numbers_left rows)) (turned row.number number ∙ other)) ∙ there)
      by false isnt true here there rest =
          absurd (false≢true (sym (none_left row.number rows apart.0) ∙ ap (λ k. has_number k (numbers_left rows)) (sym (eqb-true number row.number here)) ∙ there))
      by false isnt false other there rest = rest there

  all_found : ((row : GenRow) → dead row ≡ true → is_over (Some row) ≡ true) → (rows : List GenRow) → AreNumbered rows → (numbers : List ℕ)
      → AllByRecursion (λ n. has_number n (numbers_left rows) ≡ true) numbers → AreOver rows numbers
  all_found over rows apart [] all = tt
  all_found over rows apart (n ∷ numbers) all = (found_over over n rows apart all.0, all_found over rows apart numbers all.1)

-- each number of a list is in it
own : (n : ℕ) → (n == n) ≡ true
own n = grind (arith, nat_tests)

weaken : (m : ℕ) (numbers others : List ℕ) → AllByRecursion (λ n. has_number n numbers ≡ true) others → AllByRecursion (λ n. has_number n (m ∷ numbers) ≡ true) others
weaken m numbers [] all = tt
weaken m numbers (n ∷ others) all = (by (m == n) all.0, weaken m numbers others all.1)
  where
    by : (b : Bool) → has_number n numbers ≡ true → (b || has_number n numbers) ≡ true
    by true h = refl
    by false h = h

stand_in : (numbers : List ℕ) → AllByRecursion (λ n. has_number n numbers ≡ true) numbers
stand_in [] = tt
stand_in (m ∷ numbers) = (ap (λ b. b || has_number m numbers) (own m), weaken m numbers numbers (stand_in numbers))

sorted_in : (numbers others : List ℕ) → AllByRecursion (λ n. has_number n (ascending numbers) ≡ true) others → AllByRecursion (λ n. has_number n numbers ≡ true) others
sorted_in numbers [] all = tt
sorted_in numbers (n ∷ others) all = (sym (any_sorted nat_le (λ k. k == n) numbers) ∙ all.0, sorted_in numbers others all.1)

-- the rows of what is dead go as they are
rows_of_dead : (dead : GenRow → Bool) (rows : List GenRow) → ((row : GenRow) → dead row ≡ true → is_over (Some row) ≡ true) → AreNumbered rows
    → map Some (rows_gone (ascending (map (λ (row : GenRow). row.number) (filter dead rows))) rows)
    ≡ map (λ n. row_in n rows) (ascending (map (λ (row : GenRow). row.number) (filter dead rows)))
rows_of_dead dead rows over apart =
    let numbers : List ℕ = ascending (numbers_left dead rows) in
    gone_are numbers rows (apart_sorted (numbers_left dead rows) (apart_left dead rows apart))
    (all_found dead over rows apart numbers (sorted_in (numbers_left dead rows) numbers (stand_in numbers)))

-- one more goes
pub rows_more : (numbers : List ℕ) (number : ℕ) (rows : List GenRow)
    → rows_gone numbers rows ++ option_to_list (over_in number (without_each numbers rows)) ≡ rows_gone (numbers ++ number ∷ []) rows
rows_more [] number rows = sym (append-nil (option_to_list (over_in number rows)))
rows_more (n ∷ numbers) number rows =
    append_assoc (option_to_list (over_in n rows)) (rows_gone numbers (without_over n rows)) (option_to_list (over_in number (without_each numbers (without_over n rows))))
    ∙ ap (λ (rs : List GenRow). option_to_list (over_in n rows) ++ rs) (rows_more numbers number (without_over n rows))

dead_ended : (status : RowStatus) (held : Bool) → is_dead_at status held ≡ true → not (is_live status) ≡ true
dead_ended Warming held dead = absurd (false≢true dead)
dead_ended Active held dead = absurd (false≢true dead)
dead_ended Draining held dead = refl
dead_ended Dropped held dead = refl

-- the rows of the dead generations go as the world has them
pub dead_rows : (format : Format) (world : World) → AreNumbered world.rows
    → AreRowsOf (dead_numbers format world) world.rows (rows_gone (dead_numbers format world) world.rows)
dead_rows format world apart = rows_of_dead (is_dead format world) world.rows (λ row dead. dead_ended row.status _ dead) apart

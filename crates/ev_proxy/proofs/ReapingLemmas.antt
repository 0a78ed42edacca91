-- The dead generations go one after another, and then all are gone.
use Rattle.std.proofs.Common.{◌≡◌, ℕ, Bool, true, false, not, ◌&&◌, ◌||◌, ◌==◌, cond, List, [], ◌∷◌, ◌++◌, filter, refl, ap, ◌∙◌}
use Rattle.std.specs.List.{AllByRecursion}
use Rattle.ev_types.specs.Statuses.{is_live}
use Rattle.ev_types.specs.declared.journals.Format.{Format}
use Rattle.ev_types.specs.declared.rows.GenRow.{GenRow}
use Rattle.ev_types.specs.declared.rows.RowStatus.{RowStatus}
use Rattle.ev_types.specs.declared.rows.RowStatus.TheVariants.{Warming, Active, Draining, Dropped}
use Rattle.ev_model.specs.World.{World}
use Rattle.ev_model.specs.Picture.{has_number}
use Rattle.ev_model.specs.Dead.{is_dead, is_dead_at}
use Rattle.ev_model.specs.Publishing.{dead_numbers, without_dead}
use Rattle.ev_state.specs.States.{without_over}
use Rattle.ev_retirement.specs.Holders.{AreNumbered}
use Rattle.ev_retirement.proofs.ReapLemmas.{dead_own}
use Rattle.ev_proxy.specs.Proxies.{without_each}

-- one more
pub each_more : (numbers : List ℕ) (number : ℕ) (rows : List GenRow) → without_over number (without_each numbers rows) ≡ without_each (numbers ++ number ∷ []) rows
each_more [] number rows = refl
each_more (n ∷ numbers) number rows = each_more numbers number (without_over n rows)

-- it is of one of these numbers, and it is over
abbrev goes_with : List ℕ → GenRow → Bool
goes_with numbers row = has_number row.number numbers && not (is_live row.status)

all_kept : {X : Type 0} (xs : List X) → xs ≡ filter (λ x. true) xs
all_kept [] = refl
all_kept (x ∷ xs) = ap (λ ys. x ∷ ys) (all_kept xs)

-- two filters, one after the other
filter_twice : (p q r : GenRow → Bool) (rows : List GenRow) → ((row : GenRow) → (p row && q row) ≡ r row) → filter q (filter p rows) ≡ filter r rows
filter_twice p q r [] is = refl
filter_twice p q r (row ∷ rows) is = by (p row) (q row) (r row) refl (is row) (filter_twice p q r rows is)
  where
    by : (s t u : Bool) → q row ≡ t → (s && t) ≡ u → filter q (filter p rows) ≡ filter r rows
        → filter q (cond s (row ∷ filter p rows) (filter p rows)) ≡ cond u (row ∷ filter r rows) (filter r rows)
    by true true true at h rest = ap (λ b. cond b (row ∷ filter q (filter p rows)) (filter q (filter p rows))) at ∙ ap (λ l. row ∷ l) rest
    by true true false at h rest = cc
    by true false true at h rest = cc
    by true false false at h rest = ap (λ b. cond b (row ∷ filter q (filter p rows)) (filter q (filter p rows))) at ∙ rest
    by false t true at h rest = cc
    by false t false at h rest = rest

both_ways : (own had over : Bool) → (not (own && over) && not (had && over)) ≡ not ((own || had) && over)
both_ways true had true = refl
both_ways true true false = refl
both_ways true false false = refl
both_ways false had over = refl

all_gone : (numbers : List ℕ) (rows : List GenRow) → without_each numbers rows ≡ filter (λ (row : GenRow). not (goes_with numbers row)) rows
all_gone [] rows = all_kept rows
all_gone (number ∷ numbers) rows =
    all_gone numbers (without_over number rows)
    ∙ filter_twice (λ (row : GenRow). not ((number == row.number) && not (is_live row.status))) (λ (row : GenRow). not (goes_with numbers row))
    (λ (row : GenRow). not (goes_with (number ∷ numbers) row)) rows
    (λ row. both_ways (number == row.number) (has_number row.number numbers) (not (is_live row.status)))

-- what is dead is over
dead_over : (status : RowStatus) (held : Bool) → (is_dead_at status held && not (is_live status)) ≡ is_dead_at status held
dead_over Warming held = refl
dead_over Active held = refl
dead_over Draining true = refl
dead_over Draining false = refl
dead_over Dropped held = refl

same_left : (p q : GenRow → Bool) (rows : List GenRow) → AllByRecursion (λ row. p row ≡ q row) rows → filter p rows ≡ filter q rows
same_left p q [] all = refl
same_left p q (row ∷ rows) all = λ i. cond (all.0 i) (row ∷ same_left p q rows all.1 i) (same_left p q rows all.1 i)

module _ (format : Format) (world : World) where
  abbrev numbers : List ℕ
  numbers = dead_numbers format world

  one_gone : (row : GenRow) → has_number row.number numbers ≡ is_dead format world row → goes_with numbers row ≡ is_dead format world row
  one_gone row is = ap (λ b. b && not (is_live row.status)) is ∙ dead_over row.status _

  gone_each : (rows : List GenRow) → AllByRecursion (λ (row : GenRow). has_number row.number numbers ≡ is_dead format world row) rows
      → AllByRecursion (λ (row : GenRow). not (goes_with numbers row) ≡ not (is_dead format world row)) rows
  gone_each [] all = tt
  gone_each (row ∷ rows) all = (ap not (one_gone row all.0), gone_each rows all.1)

  -- then the rows are those that a reaping leaves
  pub dead_gone : AreNumbered world.rows → without_each numbers world.rows ≡ (without_dead format world).rows
  dead_gone apart =
      all_gone numbers world.rows
      ∙ same_left (λ (row : GenRow). not (goes_with numbers row)) (λ (row : GenRow). not (is_dead format world row)) world.rows
      (gone_each world.rows (dead_own format world apart))

use Rattle.std.proofs.Common.{◌≡◌, ◌∙◌, ◌++◌, ◌∷◌, [], Bool, true, false, cond, List, filter, refl, sym, append_assoc}
use Rattle.ev_types.specs.declared.rows.GenRow.{GenRow}
use Rattle.ev_indexes.specs.Tables.{numbers_of}
use Rattle.ev_indexes.specs.Indexes.{numbers_where}
use Rattle.ev_indexes.specs.Reads.{lives_as}
use Rattle.ev_indexes.proofs.reads.numbers.Goals as goal

-- the first row's number, where it passes, stands before the others'
first-apart : (test : GenRow → Bool) (row : GenRow) (rows : List GenRow) → numbers_where test (row ∷ rows) ≡ numbers_where test (row ∷ []) ++ numbers_where test rows
first-apart test row rows = by (test row)
  where
    by : (b : Bool) → numbers_of (cond b (row ∷ filter test rows) (filter test rows)) ≡ numbers_of (cond b (row ∷ []) []) ++ numbers_where test rows
    by true = refl
    by false = refl

pub loop-row-preserved : goal.loop-row-preserved
loop-row-preserved c =
    let test = lives_as c.args.kind in
    let row = c.in-Some.row.now in
    let rest = c.next.new.self in
    (λ i. c.in_ok-push_number.ensures i ++ numbers_where test rest)
    ∙ append_assoc c.loop-row.numbers.items (numbers_where test (row ∷ [])) (numbers_where test rest)
    ∙ (λ i. c.loop-row.numbers.items ++ sym (first-apart test row rest) i)
    ∙ (λ i. c.loop-row.numbers.items ++ numbers_where test (sym c.in-Some.ensures.steps i))
    ∙ c.loop-row.invariant

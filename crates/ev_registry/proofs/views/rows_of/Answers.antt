use Rattle.std.proofs.Common.{◌≡◌, ◌++◌, ℕ, option_map, option_to_list, map, ap, ◌∙◌, arith}
use Rattle.ev_indexes.specs.Tables.{row_in}
use Rattle.ev_model_laws.specs.ByNumber.{rows_numbered}
use Rattle.ev_model_laws.proofs.RowLemmas.{rows_by_number}
use Rattle.ev_registry.specs.Views.{view_row}
use Rattle.ev_registry.proofs.ViewLemmas.{shown_more}
use Rattle.ev_registry.proofs.views.rows_of.Goals as goal

pub loop-drawn-preserved : goal.loop-drawn-preserved
loop-drawn-preserved c = λ world at.
    shown_more world c.loop-drawn.drawn c.loop-drawn.rows c.put_row.new.rows (c.loop-drawn.invariant world at)
    (c.in_ok-put_row.ensures world at
    ∙ ap (λ (n : ℕ). c.loop-drawn.rows ++ option_to_list (option_map (view_row world) (row_in n world.rows))) c.new.ensures.number)

pub returns : goal.returns
returns c = λ world at numbered.
    let made : c.made-drawn-end.result ≡ world.made = c.made-drawn-end.ensures world at in
    let last : c.loop-drawn.drawn ≡ world.made = omega arith in
    c.loop-drawn.invariant world at
    ∙ ap (λ (n : ℕ). map (view_row world) (rows_numbered n world.rows)) last
    ∙ ap (map (view_row world)) (rows_by_number world numbered)

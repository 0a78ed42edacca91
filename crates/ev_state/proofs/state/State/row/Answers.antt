use Rattle.std.proofs.Common.{◌∙◌}
use Rattle.ev_indexes.specs.Tables.{row_in}
use Rattle.ev_state.proofs.state.State.row.Goals as goal

pub returns : goal.returns
returns c = λ world at. c.get.ensures ∙ (λ i. row_in c.args.number (at.follows.stands.managers.rows i))

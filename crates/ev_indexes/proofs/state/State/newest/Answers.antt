use Rattle.std.proofs.Common.{◌∙◌, sym, ap}
use Rattle.ev_indexes.specs.Newest.{later_number, found_in}
use Rattle.ev_lookups.specs.Keys.{named}
use Rattle.ev_indexes.proofs.NewestLemmas.{newest-found, newest-world}
use Rattle.ev_indexes.proofs.state.State.newest.Goals as goal

pub returns-clause-rows : goal.returns-clause-rows
returns-clause-rows c =
    c.live_row_of.ensures.row ∙ ap (found_in c.args.self.now.table.rows) (c.later.ensures ∙ ap later_number c.standing_of.ensures)
    ∙ sym (newest-found c.args.self.now (named c.args.kind c.args.name.now) c.requires.indexed)

pub returns-clause-world : goal.returns-clause-world
returns-clause-world c = λ world stands.
    c.live_row_of.ensures.row ∙ ap (found_in c.args.self.now.table.rows) (c.later.ensures ∙ ap later_number c.standing_of.ensures)
    ∙ sym (newest-found c.args.self.now (named c.args.kind c.args.name.now) c.requires.indexed) ∙ newest-world c.args.self.now world (named c.args.kind c.args.name.now) stands

use Rattle.std.proofs.Common.{◌∙◌, sym}
use Rattle.ev_types.specs.Statuses.{is_warming}
use Rattle.ev_indexes.specs.Standings.{standing_in}
use Rattle.ev_indexes.specs.Indexes.{status_in, key_in}
use Rattle.ev_warming.proofs.IndexLemmas.{named-live, live-warming, indexed-served}
use Rattle.ev_warming.proofs.changes.serve.Goals as goal

pub set-requires : goal.set-requires
set-requires g c =
    named-live c.args.state.now c.args.number c.in-Some.row.now c.requires.indexed (sym c.in-Some.ensures.row)
    (live-warming c.in-Some.row.now.status ((λ i. is_warming (status_in (c.in-Some.ensures.row i))) ∙ c.requires.warms))

pub returns-clause-indexed : goal.returns-clause-indexed
returns-clause-indexed g c =
    indexed-served c.args.state.now c.args.number c.in-Some.row.now c.requires.indexed (sym c.in-Some.ensures.row) c.warm.new.self c.warm.ensures.rows c.warm.ensures.made
    ((λ i. is_warming (status_in (c.in-Some.ensures.row i))) ∙ c.requires.warms)
    ((λ i. (standing_in c.args.state.now.names (key_in (c.in-Some.ensures.row i))).active) ∙ c.requires.alone)
    c.set.new.self c.leave.new.self c.set.ensures c.leave.ensures.left

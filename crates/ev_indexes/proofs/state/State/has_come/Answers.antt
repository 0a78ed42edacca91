use Rattle.std.proofs.Common.{◌∙◌}
use Rattle.ev_lookups.specs.Keys.{named}
use Rattle.ev_indexes.proofs.NewestLemmas.{come-found, come-world}
use Rattle.ev_indexes.proofs.state.State.has_come.Goals as goal

pub returns-clause-rows : goal.returns-clause-rows
returns-clause-rows c = c.is_settled.ensures ∙ come-found c.args.self.now (named c.args.kind c.args.name.now) c.requires.indexed c.standing_of.result c.standing_of.ensures

pub returns-clause-world : goal.returns-clause-world
returns-clause-world c = λ world stands.
    c.is_settled.ensures ∙ come-found c.args.self.now (named c.args.kind c.args.name.now) c.requires.indexed c.standing_of.result c.standing_of.ensures
    ∙ come-world c.args.self.now world (named c.args.kind c.args.name.now) c.requires.indexed stands

use Rattle.std.proofs.Common.{◌∙◌, ap}
use Rattle.ev_model.specs.Watching.{sorted_names}
use Rattle.ev_indexes.proofs.ReadLemmas.{names-world}
use Rattle.ev_indexes.proofs.state.State.watched.Goals as goal

pub returns-clause-world : goal.returns-clause-world
returns-clause-world c = λ world stands.
    c.from_vec.ensures.elements ∙ c.sort.ensures ∙ ap sorted_names c.in_ok-names.ensures
    ∙ names-world c.args.self.now world stands c.args.kind

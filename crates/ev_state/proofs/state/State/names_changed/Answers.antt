use Rattle.std.proofs.Common.{◌∙◌}
use Rattle.ev_model.specs.Requests.{other_than}
use Rattle.ev_state.proofs.MoveLemmas.{names-changed}
use Rattle.ev_state.proofs.state.State.names_changed.Goals as goal

pub returns : goal.returns
returns c =
    names-changed c.in_ok-change.change c.args.self.now.managers c.args.kind c.args.made c.args.retired.now c.requires.kept.indexed c.in_ok-change.ensures.kind
    (c.in_ok-change.ensures.begun ∙ (λ i. other_than (c.in_ok-lost.ensures i) (c.in_ok-gained.ensures i)))
    (c.in_ok-change.ensures.ended ∙ (λ i. other_than (c.in_ok-gained.ensures i) (c.in_ok-lost.ensures i)))

use Rattle.std.proofs.Common.{◌∙◌, ap}
use Rattle.std.proofs.lemmas.Result.{IfOk-weaker}
use Rattle.ev_indexes.specs.Shown.{listener_shown_in}
use Rattle.ev_indexes.proofs.FoundLemmas.{listener-found}
use Rattle.ev_indexes.proofs.state.State.listener.Goals as goal

pub returns-in-Some-clause-world : goal.returns-in-Some-clause-world
returns-in-Some-clause-world c =
    let s = c.args.self.now in
    IfOk-weaker c.active_listener.result _ _ (λ served e world stands.
    e ∙ ap (listener_shown_in s.watches) c.in-Some.ensures ∙ listener-found s world stands c.args.number) c.active_listener.ensures

pub returns-in-None-clause-world : goal.returns-in-None-clause-world
returns-in-None-clause-world c = λ world stands.
    let s = c.args.self.now in
    ap (listener_shown_in s.watches) c.in-None.ensures ∙ listener-found s world stands c.args.number

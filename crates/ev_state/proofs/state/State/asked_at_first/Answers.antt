use Rattle.std.proofs.Common.{not, ap, ◌∙◌}
use Rattle.ev_model.specs.Phase.{is_clusters}
use Rattle.ev_model.specs.Watching.{watched_of}
use Rattle.ev_model.specs.Requests.{connect_requests_by}
use Rattle.ev_subscription.specs.Asked.{names_by}
use Rattle.ev_state.proofs.state.State.asked_at_first.Goals as goal

pub returns : goal.returns
returns c = λ world stands.
    c.in_ok-requests.ensures world (watched_of world) stands.subscription
    (c.in_ok-before.ensures world stands.managers ∙ (λ i. names_by (c.kinds_before.ensures i) (watched_of world)))
    (c.in_ok-behind.ensures world stands.managers ∙ (λ i. names_by (c.kinds_behind.ensures i) (watched_of world)))
    ∙ (λ i. connect_requests_by world.node (watched_of world)
    (not ((c.awaits_clusters-asked.ensures ∙ ap is_clusters stands.targets.phase) i)) world.versions)

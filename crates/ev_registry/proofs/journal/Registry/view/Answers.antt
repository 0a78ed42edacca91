use Rattle.std.proofs.Common.{ap, ◌∙◌}
use Rattle.std.specs.Arc.{arc_value}
use Rattle.ev_model.specs.declared.pictures.Picture.{Picture}
use Rattle.ev_actors.specs.Journals.{JournalParts, world_now}
use Rattle.ev_proxy.specs.Proxies.{IsAt}
use Rattle.ev_registry.proofs.ViewLemmas.{numbered_now, viewed}
use Rattle.ev_registry.proofs.journal.Registry.view.Goals as goal

pub returns-clause-shown : goal.returns-clause-shown
returns-clause-shown c =
    let parts : JournalParts = record { format = c.self.inside.format; workers = c.self.inside.workers; node = c.self.inside.node; journal = c.self.inside.journal.items } in
    let led : IsAt c.self.inside.proxy (world_now parts) = c.self.invariant.at c.if-self.false in
    viewed parts c.args.self.now.journaled c.in_ok-rows.rows c.phase.result c.version.result (arc_value c.self.inside.latest)
    (ap (λ r. r.journaled) c.self.view_is)
    (c.in_ok-rows.ensures (world_now parts) led (numbered_now parts)) (c.phase.ensures (world_now parts) led)
    (c.version.ensures ∙ ap (λ (p : Picture). p.version) c.deref.ensures) c.self.invariant.latest

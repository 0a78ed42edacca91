use Rattle.std.proofs.Common.{sym, subst}
use Rattle.ev_types.specs.declared.events.Actor.{Actor}
use Rattle.ev_model.specs.Connections.{accept}
use Rattle.ev_model.specs.Step.{of_worker}
use Rattle.ev_warming.proofs.IndexLemmas.{on_ok}
use Rattle.ev_proxy.specs.Proxies.{IsAt}
use Rattle.ev_proxy.proofs.WorldLemmas.{worked_at}
use Rattle.ev_proxy.proofs.proxy.Proxy.accept.Goals as goal

pub returns-in-Worker-clause-at : goal.returns-in-Worker-clause-at
returns-in-Worker-clause-at g c =
    let p = c.args.self.now in
    let ask = c.args.ask.now in
    let worker = c.in-Worker.worker in
    let at = c.requires.0 in
    on_ok c.accept.result c.accept.ensures.world (λ after.
    subst (λ (actor : Actor). IsAt (record p { holders = c.accept.new.self }) (of_worker (accept ask) actor g.here).0) (sym c.in-Worker.is)
    (worked_at p c.accept.new.self g.here g.here.held (accept ask worker g.here).0.opened at (after g.here at.held)))

use Rattle.std.proofs.Common.{sym, subst}
use Rattle.ev_types.specs.declared.events.Actor.{Actor}
use Rattle.ev_model.specs.Connections.{close}
use Rattle.ev_model.specs.Step.{of_worker}
use Rattle.ev_warming.proofs.IndexLemmas.{on_ok}
use Rattle.ev_proxy.specs.Proxies.{IsAt}
use Rattle.ev_proxy.proofs.WorldLemmas.{worked_at}
use Rattle.ev_proxy.proofs.proxy.Proxy.close.Goals as goal

pub returns-in-Worker-clause-at : goal.returns-in-Worker-clause-at
returns-in-Worker-clause-at g c =
    let p = c.args.self.now in
    let worker = c.in-Worker.worker in
    on_ok c.close.result c.close.ensures.world (λ after.
    subst (λ (actor : Actor). IsAt (record p { holders = c.close.new.self }) (of_worker (close c.args.conn) actor g.here).0) (sym c.in-Worker.is)
    (worked_at p c.close.new.self g.here g.here.held (close c.args.conn worker g.here).0.opened c.requires (after g.here c.requires.held)))

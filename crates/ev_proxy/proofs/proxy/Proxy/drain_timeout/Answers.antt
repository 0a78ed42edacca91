use Rattle.std.proofs.Common.{◌≡◌, Bool, true, sym, ap, subst, ◌∙◌}
use Rattle.ev_model.specs.World.{World}
use Rattle.ev_model.specs.Tidy.{tidy}
use Rattle.ev_retirement.specs.Holders.{timed_out, with_expired}
use Rattle.ev_retirement.specs.Holders.{timeout_answer}
use Rattle.ev_state.proofs.FrameLemmas.{at-frame}
use Rattle.ev_proxy.specs.Proxies.{IsAt}
use Rattle.ev_proxy.proofs.StepLemmas.{noted_at}
use Rattle.ev_proxy.proofs.WorldLemmas.{same_but, tidy_same}
use Rattle.ev_proxy.proofs.proxy.Proxy.drain_timeout.Goals as goal

pub returns-clause-at : goal.returns-clause-at
returns-clause-at g c =
    let marked : World = with_expired c.args.listener.now g.here in
    let before = at-frame c.args.self.now.state g.here marked (same_but g.here g.here.pictures g.here.held g.here.opened marked.expired) c.requires.1.managed in
    let there : IsAt (record c.args.self.now { holders = c.drain_timeout.new.self }) marked = record {
      managed = before;
      held = c.in_ok-meant.ensures.world g.here c.requires.1.held;
      shown = record { clusters = c.requires.1.shown.clusters; listeners = c.requires.1.shown.listeners };
    } in
    let over : IsAt c.note.new.self (tidy marked) =
    noted_at (record c.args.self.now { holders = c.drain_timeout.new.self }) c.note.new.self c.tidy_up.new.self c.in_ok-moved.moved marked (tidy marked) there
    (c.in_ok-moved.ensures.at marked before) (tidy_same marked) (c.in_ok-moved.ensures.ceased marked before) (c.in_ok-moved.ensures.changed marked before) c.in_ok-answer.ensures.noted in
    let meant : c.in_ok-meant.meant ≡ true = c.if-not-meant.false in
    subst (IsAt c.note.new.self)
    (sym (c.in_ok-meant.ensures.machine g.here c.requires.1.held ∙ ap (λ (b : Bool). timed_out b c.args.listener.now g.here) meant)) over

pub returns-clause-deferred : goal.returns-clause-deferred
returns-clause-deferred g c = c.in_ok-answer.ensures.noted.deferred

pub returns-clause-answer : goal.returns-clause-answer
returns-clause-answer g c =
    c.in_ok-answer.ensures.answer ∙ sym (c.in_ok-meant.ensures.answer g.here c.requires.1.held ∙ ap timeout_answer c.if-not-meant.false)

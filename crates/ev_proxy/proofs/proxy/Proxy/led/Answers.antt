use Rattle.std.proofs.Common.{refl, subst}
use Rattle.ev_types.specs.Items.{ResponseParts}
use Rattle.ev_model.specs.Step.{respond}
use Rattle.ev_state.specs.States.{IsStep}
use Rattle.ev_proxy.proofs.StepLemmas.{step_answer, step_at, step_deferred}
use Rattle.ev_proxy.proofs.proxy.Proxy.led.Goals as goal

pub returns-in-Connect-clause-at : goal.returns-in-Connect-clause-at
returns-in-Connect-clause-at g c =
    step_at c.note.result c.args.format c.args.actor g.here c.args.event.now _ c.in-Connect.is refl refl c.args.self.now c.note.new.self c.connect.new.self c.in_ok-told-in-Connect.told.0 c.in_ok-told-in-Connect.told.1
    c.requires.1.1.1.1.0 (c.in_ok-told-in-Connect.ensures g.here c.requires.1.1.1.1.0.managed.follows) c.note.ensures.noted

pub returns-in-Connect-clause-answer : goal.returns-in-Connect-clause-answer
returns-in-Connect-clause-answer g c =
    step_answer c.note.result c.args.format c.args.actor g.here c.args.event.now _ c.in-Connect.is refl refl c.args.self.now c.note.new.self c.connect.new.self c.in_ok-told-in-Connect.told.0 c.in_ok-told-in-Connect.told.1
    c.requires.1.1.1.1.0 (c.in_ok-told-in-Connect.ensures g.here c.requires.1.1.1.1.0.managed.follows) c.note.ensures.answer

pub returns-in-Connect-clause-deferred : goal.returns-in-Connect-clause-deferred
returns-in-Connect-clause-deferred g c =
    step_deferred c.note.result c.args.format c.args.actor g.here c.args.event.now _ c.in-Connect.is refl refl c.args.self.now c.note.new.self c.connect.new.self c.in_ok-told-in-Connect.told.0 c.in_ok-told-in-Connect.told.1
    c.requires.1.1.1.1.0 (c.in_ok-told-in-Connect.ensures g.here c.requires.1.1.1.1.0.managed.follows)
    c.requires.1.1.1.1.1.1.1 refl c.note.ensures.noted

pub returns-in-Disconnect-clause-at : goal.returns-in-Disconnect-clause-at
returns-in-Disconnect-clause-at g c =
    step_at c.note-in-Disconnect.result c.args.format c.args.actor g.here c.args.event.now _ c.in-Disconnect.is refl refl c.args.self.now c.note-in-Disconnect.new.self c.disconnect.new.self c.in_ok-told-in-Disconnect.told.0 c.in_ok-told-in-Disconnect.told.1
    c.requires.1.1.1.1.0 (c.in_ok-told-in-Disconnect.ensures g.here c.requires.1.1.1.1.0.managed.follows) c.note-in-Disconnect.ensures.noted

pub returns-in-Disconnect-clause-answer : goal.returns-in-Disconnect-clause-answer
returns-in-Disconnect-clause-answer g c =
    step_answer c.note-in-Disconnect.result c.args.format c.args.actor g.here c.args.event.now _ c.in-Disconnect.is refl refl c.args.self.now c.note-in-Disconnect.new.self c.disconnect.new.self c.in_ok-told-in-Disconnect.told.0 c.in_ok-told-in-Disconnect.told.1
    c.requires.1.1.1.1.0 (c.in_ok-told-in-Disconnect.ensures g.here c.requires.1.1.1.1.0.managed.follows) c.note-in-Disconnect.ensures.answer

pub returns-in-Disconnect-clause-deferred : goal.returns-in-Disconnect-clause-deferred
returns-in-Disconnect-clause-deferred g c =
    step_deferred c.note-in-Disconnect.result c.args.format c.args.actor g.here c.args.event.now _ c.in-Disconnect.is refl refl c.args.self.now c.note-in-Disconnect.new.self c.disconnect.new.self c.in_ok-told-in-Disconnect.told.0 c.in_ok-told-in-Disconnect.told.1
    c.requires.1.1.1.1.0 (c.in_ok-told-in-Disconnect.ensures g.here c.requires.1.1.1.1.0.managed.follows)
    c.requires.1.1.1.1.1.1.1 refl c.note-in-Disconnect.ensures.noted

pub returns-in-Response-clause-at : goal.returns-in-Response-clause-at
returns-in-Response-clause-at g c =
    step_at c.note-in-Response.result c.args.format c.args.actor g.here c.args.event.now _ c.in-Response.is refl refl c.args.self.now c.note-in-Response.new.self c.respond.new.self c.in_ok-told-in-Response.told.0 c.in_ok-told-in-Response.told.1
    c.requires.1.1.1.1.0
    (subst (λ (r : ResponseParts). IsStep c.respond.new.self c.in_ok-told-in-Response.told.0 c.in_ok-told-in-Response.told.1 g.here (respond r g.here)) c.get.ensures.value c.in_ok-told-in-Response.ensures) c.note-in-Response.ensures.noted

pub returns-in-Response-clause-answer : goal.returns-in-Response-clause-answer
returns-in-Response-clause-answer g c =
    step_answer c.note-in-Response.result c.args.format c.args.actor g.here c.args.event.now _ c.in-Response.is refl refl c.args.self.now c.note-in-Response.new.self c.respond.new.self c.in_ok-told-in-Response.told.0 c.in_ok-told-in-Response.told.1
    c.requires.1.1.1.1.0
    (subst (λ (r : ResponseParts). IsStep c.respond.new.self c.in_ok-told-in-Response.told.0 c.in_ok-told-in-Response.told.1 g.here (respond r g.here)) c.get.ensures.value c.in_ok-told-in-Response.ensures) c.note-in-Response.ensures.answer

pub returns-in-Response-clause-deferred : goal.returns-in-Response-clause-deferred
returns-in-Response-clause-deferred g c =
    step_deferred c.note-in-Response.result c.args.format c.args.actor g.here c.args.event.now _ c.in-Response.is refl refl c.args.self.now c.note-in-Response.new.self c.respond.new.self c.in_ok-told-in-Response.told.0 c.in_ok-told-in-Response.told.1
    c.requires.1.1.1.1.0
    (subst (λ (r : ResponseParts). IsStep c.respond.new.self c.in_ok-told-in-Response.told.0 c.in_ok-told-in-Response.told.1 g.here (respond r g.here)) c.get.ensures.value c.in_ok-told-in-Response.ensures)
    c.requires.1.1.1.1.1.1.1 refl c.note-in-Response.ensures.noted

pub returns-in-Health-clause-at : goal.returns-in-Health-clause-at
returns-in-Health-clause-at g c =
    step_at c.note-in-Health.result c.args.format c.args.actor g.here c.args.event.now _ c.in-Health.is refl refl c.args.self.now c.note-in-Health.new.self c.health.new.self c.in_ok-told-in-Health.told.0 c.in_ok-told-in-Health.told.1
    c.requires.1.1.1.1.0 (c.in_ok-told-in-Health.ensures g.here c.requires.1.1.1.1.0.managed.follows) c.note-in-Health.ensures.noted

pub returns-in-Health-clause-answer : goal.returns-in-Health-clause-answer
returns-in-Health-clause-answer g c =
    step_answer c.note-in-Health.result c.args.format c.args.actor g.here c.args.event.now _ c.in-Health.is refl refl c.args.self.now c.note-in-Health.new.self c.health.new.self c.in_ok-told-in-Health.told.0 c.in_ok-told-in-Health.told.1
    c.requires.1.1.1.1.0 (c.in_ok-told-in-Health.ensures g.here c.requires.1.1.1.1.0.managed.follows) c.note-in-Health.ensures.answer

pub returns-in-Health-clause-deferred : goal.returns-in-Health-clause-deferred
returns-in-Health-clause-deferred g c =
    step_deferred c.note-in-Health.result c.args.format c.args.actor g.here c.args.event.now _ c.in-Health.is refl refl c.args.self.now c.note-in-Health.new.self c.health.new.self c.in_ok-told-in-Health.told.0 c.in_ok-told-in-Health.told.1
    c.requires.1.1.1.1.0 (c.in_ok-told-in-Health.ensures g.here c.requires.1.1.1.1.0.managed.follows)
    c.requires.1.1.1.1.1.1.1 refl c.note-in-Health.ensures.noted

pub returns-in-FetchTimeout-clause-at : goal.returns-in-FetchTimeout-clause-at
returns-in-FetchTimeout-clause-at g c =
    step_at c.note-in-FetchTimeout.result c.args.format c.args.actor g.here c.args.event.now _ c.in-FetchTimeout.is refl refl c.args.self.now c.note-in-FetchTimeout.new.self c.fetch_timeout.new.self c.in_ok-told-in-FetchTimeout.told.0 c.in_ok-told-in-FetchTimeout.told.1
    c.requires.1.1.1.1.0 (c.in_ok-told-in-FetchTimeout.ensures g.here c.requires.1.1.1.1.0.managed.follows) c.note-in-FetchTimeout.ensures.noted

pub returns-in-FetchTimeout-clause-answer : goal.returns-in-FetchTimeout-clause-answer
returns-in-FetchTimeout-clause-answer g c =
    step_answer c.note-in-FetchTimeout.result c.args.format c.args.actor g.here c.args.event.now _ c.in-FetchTimeout.is refl refl c.args.self.now c.note-in-FetchTimeout.new.self c.fetch_timeout.new.self c.in_ok-told-in-FetchTimeout.told.0 c.in_ok-told-in-FetchTimeout.told.1
    c.requires.1.1.1.1.0 (c.in_ok-told-in-FetchTimeout.ensures g.here c.requires.1.1.1.1.0.managed.follows) c.note-in-FetchTimeout.ensures.answer

pub returns-in-FetchTimeout-clause-deferred : goal.returns-in-FetchTimeout-clause-deferred
returns-in-FetchTimeout-clause-deferred g c =
    step_deferred c.note-in-FetchTimeout.result c.args.format c.args.actor g.here c.args.event.now _ c.in-FetchTimeout.is refl refl c.args.self.now c.note-in-FetchTimeout.new.self c.fetch_timeout.new.self c.in_ok-told-in-FetchTimeout.told.0 c.in_ok-told-in-FetchTimeout.told.1
    c.requires.1.1.1.1.0 (c.in_ok-told-in-FetchTimeout.ensures g.here c.requires.1.1.1.1.0.managed.follows)
    c.requires.1.1.1.1.1.1.1 refl c.note-in-FetchTimeout.ensures.noted

pub returns-in-TtlExpired-clause-at : goal.returns-in-TtlExpired-clause-at
returns-in-TtlExpired-clause-at g c =
    step_at c.note-in-TtlExpired.result c.args.format c.args.actor g.here c.args.event.now _ c.in-TtlExpired.is refl refl c.args.self.now c.note-in-TtlExpired.new.self c.ttl_expired.new.self c.in_ok-told-in-TtlExpired.told.0 c.in_ok-told-in-TtlExpired.told.1
    c.requires.1.1.1.1.0 (c.in_ok-told-in-TtlExpired.ensures g.here c.requires.1.1.1.1.0.managed.follows) c.note-in-TtlExpired.ensures.noted

pub returns-in-TtlExpired-clause-answer : goal.returns-in-TtlExpired-clause-answer
returns-in-TtlExpired-clause-answer g c =
    step_answer c.note-in-TtlExpired.result c.args.format c.args.actor g.here c.args.event.now _ c.in-TtlExpired.is refl refl c.args.self.now c.note-in-TtlExpired.new.self c.ttl_expired.new.self c.in_ok-told-in-TtlExpired.told.0 c.in_ok-told-in-TtlExpired.told.1
    c.requires.1.1.1.1.0 (c.in_ok-told-in-TtlExpired.ensures g.here c.requires.1.1.1.1.0.managed.follows) c.note-in-TtlExpired.ensures.answer

pub returns-in-TtlExpired-clause-deferred : goal.returns-in-TtlExpired-clause-deferred
returns-in-TtlExpired-clause-deferred g c =
    step_deferred c.note-in-TtlExpired.result c.args.format c.args.actor g.here c.args.event.now _ c.in-TtlExpired.is refl refl c.args.self.now c.note-in-TtlExpired.new.self c.ttl_expired.new.self c.in_ok-told-in-TtlExpired.told.0 c.in_ok-told-in-TtlExpired.told.1
    c.requires.1.1.1.1.0 (c.in_ok-told-in-TtlExpired.ensures g.here c.requires.1.1.1.1.0.managed.follows)
    c.requires.1.1.1.1.1.1.1 refl c.note-in-TtlExpired.ensures.noted

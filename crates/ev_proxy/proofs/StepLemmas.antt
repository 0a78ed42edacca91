-- What the managers make of an event of theirs, once it is noted, is what the machine makes of it.
use Rattle.std.proofs.Common.{◌≡◌, true, [], List, IfOk, OnOk, Result, refl, sym, subst, ◌∙◌}
use Rattle.std.proofs.lemmas.Result.{IfOk-weaker}
use Rattle.ev_types.specs.declared.events.Actor.{Actor}
use Rattle.ev_types.specs.declared.events.Answer.{Answer}
use Rattle.ev_types.specs.declared.events.Event.{Event}
use Rattle.ev_types.specs.declared.journals.Format.{Format}
use Rattle.ev_types.specs.declared.rows.GenRow.{GenRow}
use Rattle.ev_model.specs.World.{World}
use Rattle.ev_model.specs.Step.{step}
use Rattle.ev_model_laws.proofs.KeepLemmas.{is_moving, is_for_managers}
use Rattle.ev_managers.specs.declared.moved.Moved.{Moved}
use Rattle.ev_state.specs.declared.state.State.{State}
use Rattle.ev_state.specs.Changed.{HaveChanged}
use Rattle.ev_state.specs.Retirements.{HaveCeased}
use Rattle.ev_state.specs.States.{IsStep, ManagesAt}
use Rattle.ev_state.proofs.CeaseLemmas.{have-ceased}
use Rattle.ev_state.proofs.WholeLemmas.{step-whole}
use Rattle.ev_retirement.specs.Retiring.{HoldTheSame}
use Rattle.ev_proxy.specs.Proxies.{AreRowsOf, IsAt, Notes, numbers_reaped}
use Rattle.ev_proxy.specs.declared.proxy.Proxy.{Proxy}
use Rattle.ev_proxy.proofs.NotingLemmas.{at-numbered, noted_stand}
use Rattle.ev_proxy.proofs.ShownLemmas.{more_shown}
use Rattle.ev_proxy.proofs.WorldLemmas.{managed_same}

-- what a step moved is noted
pub noted_at : (old new : Proxy) (state : State) (moved : Moved) (before after : World) → IsAt old before → ManagesAt state after → HoldTheSame before after
    → HaveCeased moved.retired before after → HaveChanged moved.changed before after → Notes (record old { state = state }) new moved → IsAt new after
noted_at old new state moved before after at managed same ceased changes notes = record {
  managed = subst (λ (s : State). ManagesAt s after) (sym notes.state) managed;
  held = noted_stand old.holders new.holders moved.retired before after (notes.holders after managed) at.held
      (at-numbered old.state before at.managed) (at-numbered state after managed) same ceased;
  shown = more_shown old.changed moved.changed new.changed before after notes.changed same.pictures changes at.shown;
}

module _ {E : Type 0} (result : Result Answer E) (format : Format) (actor : Actor) (here : World) (event theirs : Event) (is : event ≡ theirs)
    (moving : is_moving theirs ≡ true) (managed : is_for_managers theirs ≡ true) (old new : Proxy) (state : State) (told : Answer) (moved : Moved)
    (at : IsAt old here) (led : IsStep state told moved here (step format here actor theirs)) where
  reached : ManagesAt state (step format here actor theirs).0
  reached = record { kept = led.kept; forgotten = led.forgotten; follows = led.follows; whole = step-whole format here actor theirs at.managed.whole }

  pub step_at : OnOk result (Notes (record old { state = state }) new moved) → OnOk result (IsAt new (step format here actor event).0)
  step_at =
      IfOk-weaker result (λ v. Notes (record old { state = state }) new moved) (λ v. IsAt new (step format here actor event).0)
      (λ v notes. subst (λ (e : Event). IsAt new (step format here actor e).0) (sym is)
      (noted_at old new state moved here (step format here actor theirs).0 at reached (managed_same format here actor theirs moving managed)
      (have-ceased moved.retired here (step format here actor theirs).0 led.later led.moved.retired)
      led.moved.changed notes))

  pub step_answer : IfOk result (λ answer. answer ≡ told) → IfOk result (λ answer. answer ≡ (step format here actor event).1)
  step_answer =
      IfOk-weaker result (λ answer. answer ≡ told) (λ answer. answer ≡ (step format here actor event).1)
      (λ answer same. subst (λ (e : Event). answer ≡ (step format here actor e).1) (sym is) (same ∙ led.answer))

  pub step_deferred : old.deferred.0 ≡ [] → numbers_reaped format here theirs ≡ [] → OnOk result (Notes (record old { state = state }) new moved)
      → OnOk result (AreRowsOf (numbers_reaped format here event) here.rows new.deferred.0)
  step_deferred none reaped =
      IfOk-weaker result (λ v. Notes (record old { state = state }) new moved) (λ v. AreRowsOf (numbers_reaped format here event) here.rows new.deferred.0)
      (λ v notes. subst (λ (e : Event). AreRowsOf (numbers_reaped format here e) here.rows new.deferred.0) (sym is)
      (subst (λ ns. AreRowsOf ns here.rows new.deferred.0) (sym reaped)
      (subst (λ (rows : List GenRow). AreRowsOf [] here.rows rows) (sym ((λ i. (notes.deferred i).0) ∙ none)) refl)))

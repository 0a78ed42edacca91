use Rattle.std.proofs.Common.{◌≡◌, ◌+◌, ◌<◌, length, Option, Some, Result, Ok, Err, IfOk, ap, sym, subst, ◌∙◌}
use Rattle.ev_types.specs.Items.{ResponseParts}
use Rattle.ev_types.specs.declared.contents.Kind.{Kind}
use Rattle.ev_types.specs.declared.events.Answer.TheVariants.{Ignored}
use Rattle.ev_model.specs.Step.{respond_by}
use Rattle.ev_state.specs.States.{IsStep}
use Rattle.ev_state.proofs.StepLemmas.{where_true}
use Rattle.ev_state.proofs.state.State.respond.Goals as goal

if_ok : {V E : Type 0} {P Q : V → Type 0} (r : Result V E) → ((v : V) → P v → Q v) → IfOk r P → IfOk r Q
if_ok (Ok v) so p = so v p
if_ok (Err e) so p = p

pub take-requires : goal.take-requires
take-requires g c κs within =
    let at = c.requires.1.0 in
    let kind = c.in-Some-true.kind in
    let own : c.args.response.now.kind ≡ Some kind = (λ i. (sym c.response.view_is i).kind) ∙ c.in-Some-true.is-0 in
    let typed : c.in_ok-mentions.mentions.kind ≡ Some kind = ap (λ (r : ResponseParts). r.kind) c.in_ok-mentions.ensures ∙ own in (
      within,
      (
        at,
        (
          c.in_ok-mentions.ensures,
          (
            typed,
            subst (λ (r : ResponseParts). 0 < length r.items → g.here.made + length r.items < 4294967296) (sym c.in_ok-mentions.ensures) c.requires.1.1,
          ),
        ),
      ),
    )

pub returns : goal.returns
returns g c =
    let kind = c.in-Some-true.kind in
    let response = c.args.response.now in
    let at = c.requires.1.0 in
    let own : response.kind ≡ Some kind = (λ i. (sym c.response.view_is i).kind) ∙ c.in-Some-true.is-0 in
    if_ok c.take.result (λ told step.
    where_true c.take.new.self told.0 told.1 g.here g.here.stream (respond_by response.kind response g.here) (g.here, Ignored)
    (sym at.follows.stands.subscription.stream ∙ sym c.in-Some-true.ensures)
    (subst (λ (k : Option Kind). IsStep c.take.new.self told.0 told.1 g.here (respond_by k response g.here)) (sym own) step))
    c.take.ensures

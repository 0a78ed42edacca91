use Rattle.std.proofs.Common.{◌∙◌, sym, subst}
use Rattle.ev_types.specs.declared.rows.Phase.{Phase}
use Rattle.ev_model.specs.Tidy.{with_phase}
use Rattle.ev_state.specs.InitTargets.{InitTargetsParts, HaveBooted}
use Rattle.ev_state.proofs.ComeLemmas.{phase-stands}
use Rattle.ev_state.proofs.init_targets.InitTargets.advance.Goals as goal

pub returns-clause-stands : goal.returns-clause-stands
returns-clause-stands c world stands known =
    let told = c.phase_after-self-inside.ensures in
    let next : Phase = c.phase_after-self-inside.result in
    subst (λ (t : InitTargetsParts). HaveBooted (record t { phase = next }) (with_phase world)) (sym (c.self-2.view_is ∙ told.same))
    (subst (λ (p : Phase). HaveBooted (record c.args.self.now { phase = p }) (with_phase world)) (sym told.phase)
    (phase-stands c.args.self.now c.args.known.now world c.requires.indexed stands known))

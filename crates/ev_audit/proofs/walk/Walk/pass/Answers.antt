use Rattle.std.proofs.Common.{◌≡◌, Some, None, slice_get, ap, sym, ◌∙◌, subst, refl}
use Rattle.std.specs.Option.{IsSome}
use Rattle.std.proofs.lemmas.Option.{slice_get-get_or}
use Rattle.ev_types.specs.Scripts.{IsScript}
use Rattle.ev_model.specs.Finding.{finding_at}
use Rattle.ev_model.specs.Step.{step}
use Rattle.ev_model.specs.World.{World}
use Rattle.ev_model_laws.specs.Drawing.{NumbersSuffice}
use Rattle.ev_proxy.specs.Proxies.{IsAt, IsKnown}
use Rattle.ev_model_laws.specs.Walks.{journal_before, world_behind}
use Rattle.ev_operations.specs.Courses.{IsFound}
use Rattle.ev_audit.specs.declared.walk.Walk.{Walk}
use Rattle.ev_audit.proofs.WalkLemmas.{found_behind, found_broken, found_differing, found_known, found_none, found_room}
use Rattle.ev_audit.proofs.walk.Walk.pass.Goals as goal

pub returns-then-breaks-clause-found : goal.returns-then-breaks-clause-found
returns-then-breaks-clause-found g c =
    let kept : IsScript c.args.script.now = subst IsScript c.script.view_is c.script.invariant in
    let there : slice_get c.args.rows.now c.args.place ≡ Some c.index-rows-place.result =
    slice_get-get_or c.args.rows.now c.args.place c.index-rows-place.result c.requires.0 ∙ ap Some (sym c.index-rows-place.is) in
    let is : IsFound c.args.script.now (journal_before c.args.script.now c.args.rows.now c.args.place) c.index-rows-place.result c.args.self.now.courses c.in-Some.found =
    c.in-Some.ensures.found (journal_before c.args.script.now c.args.rows.now c.args.place) c.requires.1.1.0.courses in
    sym (found_broken c.args.script.now kept c.args.rows.now c.args.place c.index-rows-place.result c.args.self.now there c.requires.1.1.0 c.in-Some.found is (sym c.breaks-breaks.ensures ∙ c.if-breaks.true))

pub step_due-requires : goal.step_due-requires
step_due-requires g c =
    let kept : IsScript c.args.script.now = subst IsScript c.script.view_is c.script.invariant in
    let there : slice_get c.args.rows.now c.args.place ≡ Some c.index-rows-place.result =
    slice_get-get_or c.args.rows.now c.args.place c.index-rows-place.result c.requires.0 ∙ ap Some (sym c.index-rows-place.is) in
    let is : IsFound c.args.script.now (journal_before c.args.script.now c.args.rows.now c.args.place) c.index-rows-place.result c.args.self.now.courses c.in-Some.found =
    c.in-Some.ensures.found (journal_before c.args.script.now c.args.rows.now c.args.place) c.requires.1.1.0.courses in (
      subst IsSome (sym is.is) refl,
      (
        subst (IsAt c.args.self.now.proxy) (sym c.requires.1.1.1) c.requires.1.1.0.proxy,
        (
          subst (IsKnown c.index-rows-place.result.actor) (sym c.requires.1.1.1) (found_known c.args.script.now kept c.args.rows.now c.args.place c.index-rows-place.result c.args.self.now there c.requires.1.1.0 c.in-Some.found is),
          (λ o e. subst (λ (w : World). NumbersSuffice w o.event) (sym c.requires.1.1.1) (found_room c.args.script.now kept c.args.rows.now c.args.place c.index-rows-place.result c.args.self.now there c.requires.1.1.0 c.in-Some.found is c.requires.0 o e)),
        ),
      ),
    )

pub returns-then-not-same-clause-found : goal.returns-then-not-same-clause-found
returns-then-not-same-clause-found g c =
    let kept : IsScript c.args.script.now = subst IsScript c.script.view_is c.script.invariant in
    let there : slice_get c.args.rows.now c.args.place ≡ Some c.index-rows-place.result =
    slice_get-get_or c.args.rows.now c.args.place c.index-rows-place.result c.requires.0 ∙ ap Some (sym c.index-rows-place.is) in
    let is : IsFound c.args.script.now (journal_before c.args.script.now c.args.rows.now c.args.place) c.index-rows-place.result c.args.self.now.courses c.in-Some.found =
    c.in-Some.ensures.found (journal_before c.args.script.now c.args.rows.now c.args.place) c.requires.1.1.0.courses in
    let told : c.in_ok-answer.answer ≡ (step c.args.self.now.courses.format (world_behind c.args.self.now.courses.format c.args.script.now (journal_before c.args.script.now c.args.rows.now c.args.place)) c.index-rows-place.result.actor is.operation.event).1 =
    c.in_ok-answer.ensures.answer is.operation is.is
    ∙ ap (λ (w : World). (step c.args.self.now.courses.format w c.index-rows-place.result.actor is.operation.event).1) c.requires.1.1.1 in
    sym (found_differing c.args.script.now kept c.args.rows.now c.args.place c.index-rows-place.result c.args.self.now there c.requires.1.1.0 c.in-Some.found is c.in_ok-answer.answer told (sym c.is_same_answer-same.ensures ∙ c.if-not-same.true))

pub returns-clause-found : goal.returns-clause-found
returns-clause-found g c =
    let kept : IsScript c.args.script.now = subst IsScript c.script.view_is c.script.invariant in
    let there : slice_get c.args.rows.now c.args.place ≡ Some c.index-rows-place.result =
    slice_get-get_or c.args.rows.now c.args.place c.index-rows-place.result c.requires.0 ∙ ap Some (sym c.index-rows-place.is) in
    let is : IsFound c.args.script.now (journal_before c.args.script.now c.args.rows.now c.args.place) c.index-rows-place.result c.args.self.now.courses c.in-Some.found =
    c.in-Some.ensures.found (journal_before c.args.script.now c.args.rows.now c.args.place) c.requires.1.1.0.courses in
    let told : c.in_ok-answer.answer ≡ (step c.args.self.now.courses.format (world_behind c.args.self.now.courses.format c.args.script.now (journal_before c.args.script.now c.args.rows.now c.args.place)) c.index-rows-place.result.actor is.operation.event).1 =
    c.in_ok-answer.ensures.answer is.operation is.is
    ∙ ap (λ (w : World). (step c.args.self.now.courses.format w c.index-rows-place.result.actor is.operation.event).1) c.requires.1.1.1 in
    let none : finding_at c.args.self.now.courses.format c.args.script.now c.args.rows.now c.args.place ≡ None =
    found_none c.args.script.now kept c.args.rows.now c.args.place c.index-rows-place.result c.args.self.now there c.requires.1.1.0 c.in-Some.found is c.in_ok-answer.answer told
    (sym c.is_same_answer-same.ensures ∙ c.if-not-same.false) (sym c.breaks-breaks.ensures ∙ c.if-breaks.false) in
    sym none

pub returns-clause-before : goal.returns-clause-before
returns-clause-before g c =
    let kept : IsScript c.args.script.now = subst IsScript c.script.view_is c.script.invariant in
    let there : slice_get c.args.rows.now c.args.place ≡ Some c.index-rows-place.result =
    slice_get-get_or c.args.rows.now c.args.place c.index-rows-place.result c.requires.0 ∙ ap Some (sym c.index-rows-place.is) in
    let is : IsFound c.args.script.now (journal_before c.args.script.now c.args.rows.now c.args.place) c.index-rows-place.result c.args.self.now.courses c.in-Some.found =
    c.in-Some.ensures.found (journal_before c.args.script.now c.args.rows.now c.args.place) c.requires.1.1.0.courses in
    let told : c.in_ok-answer.answer ≡ (step c.args.self.now.courses.format (world_behind c.args.self.now.courses.format c.args.script.now (journal_before c.args.script.now c.args.rows.now c.args.place)) c.index-rows-place.result.actor is.operation.event).1 =
    c.in_ok-answer.ensures.answer is.operation is.is
    ∙ ap (λ (w : World). (step c.args.self.now.courses.format w c.index-rows-place.result.actor is.operation.event).1) c.requires.1.1.1 in
    let none : finding_at c.args.self.now.courses.format c.args.script.now c.args.rows.now c.args.place ≡ None =
    found_none c.args.script.now kept c.args.rows.now c.args.place c.index-rows-place.result c.args.self.now there c.requires.1.1.0 c.in-Some.found is c.in_ok-answer.answer told
    (sym c.is_same_answer-same.ensures ∙ c.if-not-same.false) (sym c.breaks-breaks.ensures ∙ c.if-breaks.false) in
    let after : World =
    (step c.args.self.now.courses.format (world_behind c.args.self.now.courses.format c.args.script.now (journal_before c.args.script.now c.args.rows.now c.args.place)) c.index-rows-place.result.actor is.operation.event).0 in
    let at : IsAt c.step_due.new.proxy after =
    subst (λ (w : World). IsAt c.step_due.new.proxy (step c.args.self.now.courses.format w c.index-rows-place.result.actor is.operation.event).0) c.requires.1.1.1
    (c.in_ok-answer.ensures.at is.operation is.is) in
    let next : Walk = record { proxy = c.step_due.new.proxy; courses = c.move_on.new.self; batch = c.batch_after-self.result } in
    λ same.
    found_behind c.args.script.now kept c.args.rows.now c.args.place c.index-rows-place.result c.args.self.now there c.requires.1.1.0 c.in-Some.found is next c.rests-rests.result none at c.move_on.ensures
    (c.rests-rests.ensures after at) c.batch_after-self.ensures

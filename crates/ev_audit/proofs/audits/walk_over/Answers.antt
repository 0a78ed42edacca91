use Rattle.std.proofs.Common.{◌≡◌, ℕ, Some, length, ap, sym, ◌∙◌, subst, arith}
use Rattle.ev_types.specs.declared.journals.Format.{Format}
use Rattle.ev_model.specs.Finding.{end_finding, finding_at, finding_of}
use Rattle.ev_model_laws.specs.Walks.{NothingFound}
use Rattle.ev_model_laws.proofs.FirstLemmas.{first_found, none_found}
use Rattle.ev_audit.specs.Audits.{IsBefore}
use Rattle.ev_audit.proofs.audits.walk_over.Goals as goal

pub returns-in-Some : goal.returns-in-Some
returns-in-Some c =
    let format : c.loop-place.walk.courses.format ≡ c.args.walk.now.courses.format = c.loop-place.invariant.format in
    let none : NothingFound c.args.walk.now.courses.format c.args.script.now c.args.rows.now c.loop-place.place =
    subst (λ (f : Format). NothingFound f c.args.script.now c.args.rows.now c.loop-place.place) format c.loop-place.invariant.before.none in
    let here : finding_at c.args.walk.now.courses.format c.args.script.now c.args.rows.now c.loop-place.place ≡ Some c.in-Some.finding =
    ap (λ (f : Format). finding_at f c.args.script.now c.args.rows.now c.loop-place.place) (sym format) ∙ sym c.in_ok-found.ensures.found ∙ c.in-Some.is in
    let found : finding_of c.args.walk.now.courses.format c.args.script.now c.args.rows.now ≡ c.in-Some.finding =
    first_found c.args.walk.now.courses.format c.args.script.now c.args.rows.now c.loop-place.place c.in-Some.finding c.loop-place-test.true none here in
    sym found

pub end-requires-clause-before : goal.end-requires-clause-before
end-requires-clause-before c =
    let place : c.loop-place.place ≡ length c.args.rows.now = omega arith in
    subst (λ (n : ℕ). IsBefore c.args.script.now c.args.rows.now n c.loop-place.walk) place c.loop-place.invariant.before

pub returns : goal.returns
returns c =
    let format : c.loop-place.walk.courses.format ≡ c.args.walk.now.courses.format = c.loop-place.invariant.format in
    let place : c.loop-place.place ≡ length c.args.rows.now = omega arith in
    let none : NothingFound c.args.walk.now.courses.format c.args.script.now c.args.rows.now (length c.args.rows.now) =
    subst (λ (f : Format). NothingFound f c.args.script.now c.args.rows.now (length c.args.rows.now)) format
    (subst (λ (n : ℕ). NothingFound c.loop-place.walk.courses.format c.args.script.now c.args.rows.now n) place c.loop-place.invariant.before.none) in
    let found : finding_of c.args.walk.now.courses.format c.args.script.now c.args.rows.now ≡ c.end.result =
    none_found c.args.walk.now.courses.format c.args.script.now c.args.rows.now none
    ∙ ap (λ (f : Format). end_finding f c.args.script.now c.args.rows.now) (sym format) ∙ sym c.end.ensures in
    sym found

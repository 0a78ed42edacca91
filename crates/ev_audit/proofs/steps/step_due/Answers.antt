use Rattle.std.proofs.Common.{◌≡◌, ℕ, zero, suc, List, [], ◌∷◌, get_or, Some, Result, Ok, Err, slice_get, ap, sym, ◌∙◌, subst}
use Rattle.std.specs.Prelude.{IfOk, OnOk}
use Rattle.std.specs.Option.{IsSome}
use Rattle.ev_types.specs.Scripts.{ScriptParts}
use Rattle.ev_types.specs.declared.events.Line.{Line}
use Rattle.ev_model.specs.Operations.{Operation, line_operation}
use Rattle.ev_model.specs.Step.{step}
use Rattle.ev_operations.specs.Dues.{at_line, operation_due}
use Rattle.ev_proxy.specs.Proxies.{IsAt}
use Rattle.ev_audit.proofs.steps.step_due.Goals as goal

line_there : (lines : List Line) (place : ℕ) (line : Line) → IsSome (at_line line_operation (slice_get lines place)) → line ≡ get_or lines place line
    → at_line line_operation (slice_get lines place) ≡ Some (line_operation line)
line_there [] zero line some is = cc
line_there [] (suc place) line some is = cc
line_there (first ∷ lines) zero line some is = ap (λ (l : Line). Some (line_operation l)) (sym is)
line_there (first ∷ lines) (suc place) line some is = line_there lines place line some is

event_is : (o : Operation) (line : Line) → Some (line_operation line) ≡ Some o → line.event ≡ o.event
event_is o line e = let same : line_operation line ≡ o = cc in ap (λ (p : Operation). p.event) same

on_ok : {A E : Type 0} (r : Result A E) (P Q : Type 0) → (P → Q) → OnOk r P → OnOk r Q
on_ok (Ok a) P Q f p = f p
on_ok (Err e) P Q f p = tt

if_ok : {A E : Type 0} (r : Result A E) (P Q : A → Type 0) → ((a : A) → P a → Q a) → IfOk r P → IfOk r Q
if_ok (Ok a) P Q f p = f a p
if_ok (Err e) P Q f p = tt

pub step-requires : goal.step-requires
step-requires g c =
    let lines : c.as_slice.result.now ≡ c.args.script.now.lines = c.as_slice.ensures.elements ∙ ap (λ (s : ScriptParts). s.lines) c.script.view_is in
    let line : Line = c.index-as_slice-place.result in
    let due_is : operation_due c.args.script.now c.args.actor c.args.due ≡ at_line line_operation (slice_get c.args.script.now.lines c.in-Line.place) =
    ap (operation_due c.args.script.now c.args.actor) c.in-Line.is in
    let there : operation_due c.args.script.now c.args.actor c.args.due ≡ Some (line_operation line) =
    due_is
    ∙ line_there c.args.script.now.lines c.in-Line.place line (subst IsSome due_is c.requires.0)
    (c.index-as_slice-place.is ∙ ap (λ (ls : List Line). get_or ls c.in-Line.place line) lines) in
    (c.requires.1.0, (c.requires.1.1.0, c.requires.1.1.1 (line_operation line) there))

pub returns-in-Line-clause-at : goal.returns-in-Line-clause-at
returns-in-Line-clause-at g c =
    let lines : c.as_slice.result.now ≡ c.args.script.now.lines = c.as_slice.ensures.elements ∙ ap (λ (s : ScriptParts). s.lines) c.script.view_is in
    let line : Line = c.index-as_slice-place.result in
    let due_is : operation_due c.args.script.now c.args.actor c.args.due ≡ at_line line_operation (slice_get c.args.script.now.lines c.in-Line.place) =
    ap (operation_due c.args.script.now c.args.actor) c.in-Line.is in
    let there : operation_due c.args.script.now c.args.actor c.args.due ≡ Some (line_operation line) =
    due_is
    ∙ line_there c.args.script.now.lines c.in-Line.place line (subst IsSome due_is c.requires.0)
    (c.index-as_slice-place.is ∙ ap (λ (ls : List Line). get_or ls c.in-Line.place line) lines) in
    on_ok c.step.result _ _
    (λ at o e. subst (λ v. IsAt c.step.new.self (step c.args.format g.here c.args.actor v).0) (event_is o line (sym there ∙ e)) at) c.step.ensures.at

pub returns-in-Line-clause-answer : goal.returns-in-Line-clause-answer
returns-in-Line-clause-answer g c =
    let lines : c.as_slice.result.now ≡ c.args.script.now.lines = c.as_slice.ensures.elements ∙ ap (λ (s : ScriptParts). s.lines) c.script.view_is in
    let line : Line = c.index-as_slice-place.result in
    let due_is : operation_due c.args.script.now c.args.actor c.args.due ≡ at_line line_operation (slice_get c.args.script.now.lines c.in-Line.place) =
    ap (operation_due c.args.script.now c.args.actor) c.in-Line.is in
    let there : operation_due c.args.script.now c.args.actor c.args.due ≡ Some (line_operation line) =
    due_is
    ∙ line_there c.args.script.now.lines c.in-Line.place line (subst IsSome due_is c.requires.0)
    (c.index-as_slice-place.is ∙ ap (λ (ls : List Line). get_or ls c.in-Line.place line) lines) in
    if_ok c.step.result _ _
    (λ answer told o e. told ∙ ap (λ v. (step c.args.format g.here c.args.actor v).1) (event_is o line (sym there ∙ e))) c.step.ensures.answer

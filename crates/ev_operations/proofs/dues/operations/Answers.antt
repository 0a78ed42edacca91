use Rattle.std.proofs.Common.{◌≡◌, ◌<◌, ◌+◌, ◌++◌, ℕ, Bool, List, Some, length, take, slice_get, true, ap, sym, ◌∙◌, subst, arith}
use Rattle.std.proofs.lemmas.List.{take_all}
use Rattle.std.proofs.lemmas.Option.{slice_get-get_or}
use Rattle.ev_types.specs.Scripts.{ScriptParts, IsScript}
use Rattle.ev_types.specs.declared.events.Actor.{Actor}
use Rattle.ev_types.specs.declared.events.Line.{Line}
use Rattle.ev_model.specs.Operations.{actor_same, operations_of}
use Rattle.ev_operations.proofs.DueLemmas.{AreDueSoFar, all_due, few_lines, other_due, own_due}
use Rattle.ev_operations.specs.Dues.{AreDue, dues_at, last_dues, waiting_after}
use Rattle.ev_operations.specs.declared.due.Due.{Due}
use Rattle.ev_operations.proofs.dues.operations.Goals as goal
use Rattle.ev_operations.proofs.dues.operations.Goals.{then-own+in_ok-put_line, else-own}

pub overflow_cast-place : goal.overflow_cast-place
overflow_cast-place c =
    let few : length c.args.script.now.lines < 4294967296 = few_lines c.args.script.now (subst IsScript c.script.view_is c.script.invariant) in
    let same : length c.as_slice-lines.result.now ≡ length c.args.script.now.lines =
    ap length (c.as_slice-lines.ensures.elements ∙ ap (λ (s : ScriptParts). s.lines) c.script.view_is) in
    let below : c.loop-place.place < length c.as_slice-lines.result.now = c.loop-place-test.true in
    omega arith

-- a line of the actor's own, put after what is due
own_put : (script : ScriptParts) (actor : Actor) (dues put : List Due) (waiting left left_then place : ℕ) (line : Line) (auto : Bool)
    → IsScript script → slice_get script.lines place ≡ Some line → AreDueSoFar script actor dues waiting place → actor_same line.actor actor ≡ true
    → auto ≡ script.auto → put ≡ dues ++ dues_at auto place line waiting → left ≡ waiting_after line waiting → left < 256 → left_then ≡ left
    → AreDueSoFar script actor put left_then (place + 1)
own_put script actor dues put waiting left left_then place line auto kept there was same is_auto is_put is_left few is_then =
    subst (λ (ds : List Due). AreDueSoFar script actor ds left_then (place + 1))
    (ap (λ a. dues ++ dues_at a place line waiting) (sym is_auto) ∙ sym is_put)
    (subst (λ n. AreDueSoFar script actor (dues ++ dues_at script.auto place line waiting) n (place + 1)) (sym (is_then ∙ is_left))
    (own_due script kept actor dues waiting place line there was same (subst (λ n. n < 256) is_left few)))

pub loop-place-preserved : goal.loop-place-preserved
loop-place-preserved c =
    let kept : IsScript c.args.script.now = subst IsScript c.script.view_is c.script.invariant in
    let is : c.as_slice-lines.result.now ≡ c.args.script.now.lines = c.as_slice-lines.ensures.elements ∙ ap (λ (s : ScriptParts). s.lines) c.script.view_is in
    let there : slice_get c.args.script.now.lines c.loop-place.place ≡ Some c.index-lines-place.result =
    ap (λ (ls : List Line). slice_get ls c.loop-place.place) (sym is)
    ∙ slice_get-get_or c.as_slice-lines.result.now c.loop-place.place c.index-lines-place.result c.loop-place-test.true
    ∙ ap Some (sym c.index-lines-place.is) in
    elim c.if-own.branch [
      | then-own+in_ok-put_line w ↦
          subst (λ (ds : List Due). AreDueSoFar c.args.script.now c.args.actor ds c.if-own.waiting (c.loop-place.place + 1)) (sym w.dues-is)
          (own_put c.args.script.now c.args.actor c.loop-place.dues w.put_line.new.dues c.loop-place.waiting w.waiting_after-waiting.result c.if-own.waiting
          c.loop-place.place c.index-lines-place.result c.script.inside.auto kept there c.loop-place.invariant
          (sym c.is_same-own.ensures ∙ w.if-own.true) (ap (λ (s : ScriptParts). s.auto) c.script.view_is) w.in_ok-put_line.ensures
          w.waiting_after-waiting.ensures.after w.waiting_after-waiting.ensures.few w.waiting-is)
      | else-own w ↦
          subst (λ (ds : List Due). AreDueSoFar c.args.script.now c.args.actor ds c.if-own.waiting (c.loop-place.place + 1)) (sym w.dues-is)
          (subst (λ n. AreDueSoFar c.args.script.now c.args.actor c.loop-place.dues n (c.loop-place.place + 1)) (sym w.waiting-is)
          (other_due c.args.script.now kept c.args.actor c.loop-place.dues c.loop-place.waiting c.loop-place.place c.index-lines-place.result there
          c.loop-place.invariant (sym c.is_same-own.ensures ∙ w.if-own.false)))
    ]

pub returns : goal.returns
returns c =
    let is : c.as_slice-lines.result.now ≡ c.args.script.now.lines = c.as_slice-lines.ensures.elements ∙ ap (λ (s : ScriptParts). s.lines) c.script.view_is in
    subst (λ (ds : List Due). AreDue c.args.script.now c.args.actor ds (operations_of c.args.script.now c.args.actor))
    (ap (λ (s : ScriptParts). c.loop-place.dues ++ last_dues s.workers c.args.actor) (sym c.script.view_is) ∙ sym c.in_ok-put_last.ensures)
    (all_due c.args.script.now c.args.actor c.loop-place.dues c.loop-place.waiting c.loop-place.place
    (ap (take c.loop-place.place) (sym is) ∙ take_all c.loop-place.place c.as_slice-lines.result.now c.loop-place-test.false ∙ is)
    c.loop-place.invariant)

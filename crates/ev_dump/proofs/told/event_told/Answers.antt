use Rattle.std.proofs.Common.{◌≡◌, Some, None, sym, ap, subst, ◌∙◌}
use Rattle.std.proofs.lemmas.Result.{IfOk-weaker}
use Rattle.ev_types.specs.Scripts.{IsScript}
use Rattle.ev_types.specs.declared.events.Event.{Event}
use Rattle.ev_types.specs.declared.events.Line.{Line}
use Rattle.ev_model.specs.Finding.{entry_told}
use Rattle.ev_dump.specs.Told.{line_numbered}
use Rattle.ev_dump.proofs.ToldLemmas.{told_by_line, told_by_word, with_event}
use Rattle.ev_dump.proofs.told.event_told.Goals as goal

pub returns-in-Some : goal.returns-in-Some
returns-in-Some c =
    record { event = told_by_word c.args.script.now c.args.row.now c.in-Some.event c.requires.told (sym c.event_behind.ensures ∙ c.in-Some.is) }

pub unreachable-requires : goal.unreachable-requires
unreachable-requires c =
    let kept : IsScript c.args.script.now = subst IsScript c.script.view_is c.script.invariant in
    let there : (line : Line) × (line_numbered c.args.row.now.at c.args.script.now.lines ≡ Some line)
    × (entry_told c.args.script.now c.args.row.now ≡ Some (with_event c.args.row.now line.event)) =
    told_by_line c.args.script.now c.args.row.now kept c.requires.told (sym c.event_behind.ensures ∙ c.in_default.is) in
    let lines : c.as_slice.result.now ≡ c.args.script.now.lines = c.as_slice.ensures.elements ∙ ap (λ s. s.lines) c.script.view_is in
    let none : None ≡ Some there.0 =
    c.in_default-line_numbered.ensures ∙ ap (line_numbered c.args.row.now.at) lines ∙ there.1 in
    cc

pub returns : goal.returns
returns c =
    let kept : IsScript c.args.script.now = subst IsScript c.script.view_is c.script.invariant in
    let there : (line : Line) × (line_numbered c.args.row.now.at c.args.script.now.lines ≡ Some line)
    × (entry_told c.args.script.now c.args.row.now ≡ Some (with_event c.args.row.now line.event)) =
    told_by_line c.args.script.now c.args.row.now kept c.requires.told (sym c.event_behind.ensures ∙ c.in_default.is) in
    let lines : c.as_slice.result.now ≡ c.args.script.now.lines = c.as_slice.ensures.elements ∙ ap (λ s. s.lines) c.script.view_is in
    let found : Some c.in-Some-line_numbered.line.now ≡ Some there.0 =
    c.in-Some-line_numbered.ensures ∙ ap (line_numbered c.args.row.now.at) lines ∙ there.1 in
    let same : c.in-Some-line_numbered.line.now ≡ there.0 = cc in
    record {
      event = IfOk-weaker c.copy.result (λ event. event ≡ c.in-Some-line_numbered.line.now.event)
          (λ event. entry_told c.args.script.now c.args.row.now ≡ Some (with_event c.args.row.now event))
          (λ event is. there.2 ∙ ap (λ (e : Event). Some (with_event c.args.row.now e)) (ap (λ (l : Line). l.event) (sym same) ∙ sym is)) c.copy.ensures.equal;
    }

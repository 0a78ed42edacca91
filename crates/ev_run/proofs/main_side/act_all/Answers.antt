use Rattle.std.proofs.Common.{◌+◌, List, drop, get_or, sym, ◌∙◌, subst}
use Rattle.std.proofs.lemmas.List.{drop_all}
use Rattle.ev_actors.specs.Journals.{JournalParts}
use Rattle.ev_commits.specs.Seen.{seen_by}
use Rattle.ev_operations.specs.declared.due.Due.{Due}
use Rattle.ev_operations.specs.declared.due.Due.TheVariants.{Line as by_line}
use Rattle.ev_run.specs.Acting.{HasDone, IsActingOn}
use Rattle.ev_run.proofs.BeginLemmas.{acting_ended, acts_on, next_act}
use Rattle.ev_run.proofs.PlaceLemmas.{begins_with, ok_then}
use Rattle.ev_run.proofs.main_side.act_all.Goals as goal

pub act-back-requires-clause-next : goal.act-back-requires-clause-next
act-back-requires-clause-next g c κs within =
    let parts : JournalParts = seen_by g.J.Journaled.shows c.args.gate.now c.loop-due.pass in
    next_act c.args.script.now c.args.actor (get_or c.args.dues.now c.loop-due.due-index (by_line 0)) (drop (c.loop-due.due-index + 1) c.args.dues.now) parts
    (subst (λ (ds : List Due). IsActingOn c.args.script.now c.args.actor ds parts)
    (begins_with c.args.dues.now c.loop-due.due-index (by_line 0) c.loop-due-test.true) c.loop-due.invariant.acting)

pub loop-due-preserved : goal.loop-due-preserved
loop-due-preserved g c =
    let before : JournalParts = seen_by g.J.Journaled.shows c.args.gate.now c.loop-due.pass in
    let after : JournalParts = seen_by g.J.Journaled.shows c.args.gate.now c.act-back.result.0 in
    let due : Due = get_or c.args.dues.now c.loop-due.due-index (by_line 0) in
    record {
      at_gate = c.act-back.ensures.pass;
      acting =
          acts_on c.args.script.now c.args.actor due (drop (c.loop-due.due-index + 1) c.args.dues.now) before after
          (subst (λ (ds : List Due). IsActingOn c.args.script.now c.args.actor ds before)
          (begins_with c.args.dues.now c.loop-due.due-index (by_line 0) c.loop-due-test.true) c.loop-due.invariant.acting)
          (ok_then c.act-back.result.1 (HasDone c.args.script.now c.args.actor due before after) (sym c.is_err.ensures.value ∙ c.if-is_err.false) c.act-back.ensures.done);
    }

pub returns-clause-ended : goal.returns-clause-ended
returns-clause-ended g c = λ came.
    let parts : JournalParts = seen_by g.J.Journaled.shows c.args.gate.now c.loop-due.pass in
    acting_ended c.args.script.now c.args.actor parts c.requires.main
    (subst (λ (ds : List Due). IsActingOn c.args.script.now c.args.actor ds parts) (drop_all c.loop-due.due-index c.args.dues.now c.loop-due-test.false)
    c.loop-due.invariant.acting)

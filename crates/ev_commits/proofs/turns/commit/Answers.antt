use Rattle.std.proofs.Common.{◌+◌, ◌<◌, ◌≤◌, ap, sym, ◌∙◌, subst}
use Rattle.ev_gate.specs.History.{seen_of}
use Rattle.ev_gate.specs.Words.{pass_heard, pass_knows, turn_knows}
use Rattle.ev_actors.specs.Journals.{JournalParts}
use Rattle.ev_actors.specs.Taken.{HasSettled}
use Rattle.ev_commits.specs.Commits.{GrowsByOthers, commits_of}
use Rattle.ev_commits.specs.Seen.{began_as, began_at, heard_by, seen_by, version_after, version_shown}
use Rattle.ev_commits.proofs.TurnLemmas.{known_whole, turn_forward, turn_newer, turn_shows, works_on}
use Rattle.ev_commits.proofs.UseLemmas.{names_nothing_gone}
use Rattle.ev_commits.specs.declared.kept.Began.{Began}
use Rattle.ev_commits.proofs.turns.commit.Goals as goal

pub settle_in-requires-clause-works : goal.settle_in-requires-clause-works
settle_in-requires-clause-works g c sound =
    let parts : JournalParts = g.J.Journaled.shows c.value.result.now.journaled in
    works_on c.args.worker.now (seen_by g.J.Journaled.shows c.args.gate.now c.args.pass) parts
    (turn_shows parts (began_at g.J.Journaled.shows c.args.gate.now) (c.args.worker.now.number + 4) (pass_knows c.args.pass) (turn_knows c.turn-turn.result) sound
    (ap (λ v. began_as (g.J.Journaled.shows v.journaled)) c.value.ensures.value ∙ c.turn-turn.ensures.gate_opening)
    (ap (λ v. commits_of (g.J.Journaled.shows v.journaled).journal) c.value.ensures.value ∙ c.turn-turn.ensures.history)
    c.turn-turn.ensures.knows c.turn-turn.ensures.seen c.requires.seat)
    c.requires.works

pub done-requires-clause-version : goal.done-requires-clause-version
done-requires-clause-version g c =
    turn_forward (c.args.worker.now.number + 4) (g.J.Journaled.shows c.value.result.now.journaled) (g.J.Journaled.shows c.settle_in.new.kept.journaled)
    (seen_of (turn_knows c.turn-turn.result)) c.settle_in.ensures.sound c.settle_in.ensures.sound_then c.in-Ok.ensures.committed
    (ap (λ v. commits_of (g.J.Journaled.shows v.journaled).journal) c.value.ensures.value ∙ c.turn-turn.ensures.history)

pub returns-in-Ok-clause-settled : goal.returns-in-Ok-clause-settled
returns-in-Ok-clause-settled g c =
    let parts : JournalParts = g.J.Journaled.shows c.value.result.now.journaled in
    let after : JournalParts = g.J.Journaled.shows c.settle_in.new.kept.journaled in
    record {
      turn = parts;
      grows =
          turn_shows parts (began_at g.J.Journaled.shows c.args.gate.now) (c.args.worker.now.number + 4) (pass_knows c.args.pass) (turn_knows c.turn-turn.result) c.settle_in.ensures.sound
          (ap (λ v. began_as (g.J.Journaled.shows v.journaled)) c.value.ensures.value ∙ c.turn-turn.ensures.gate_opening)
          (ap (λ v. commits_of (g.J.Journaled.shows v.journaled).journal) c.value.ensures.value ∙ c.turn-turn.ensures.history)
          c.turn-turn.ensures.knows c.turn-turn.ensures.seen c.requires.seat;
      settled =
          subst (λ (p : JournalParts). HasSettled c.args.at c.args.step parts p c.args.worker.now c.settle_in.new.worker)
          (sym (known_whole after (began_at g.J.Journaled.shows c.args.gate.now) (seen_of (pass_knows c.done.result)) c.settle_in.ensures.sound_then
          (c.in-Ok.ensures.committed.began ∙ ap (λ v. began_as (g.J.Journaled.shows v.journaled)) c.value.ensures.value ∙ c.turn-turn.ensures.gate_opening)
          c.done.ensures.seen))
          c.in-Ok.ensures.settled;
      alive =
          names_nothing_gone parts after c.args.worker.now c.args.at c.args.step c.settle_in.ensures.sound_then
          (works_on c.args.worker.now (seen_by g.J.Journaled.shows c.args.gate.now c.args.pass) parts
          (turn_shows parts (began_at g.J.Journaled.shows c.args.gate.now) (c.args.worker.now.number + 4) (pass_knows c.args.pass) (turn_knows c.turn-turn.result) c.settle_in.ensures.sound
          (ap (λ v. began_as (g.J.Journaled.shows v.journaled)) c.value.ensures.value ∙ c.turn-turn.ensures.gate_opening)
          (ap (λ v. commits_of (g.J.Journaled.shows v.journaled).journal) c.value.ensures.value ∙ c.turn-turn.ensures.history)
          c.turn-turn.ensures.knows c.turn-turn.ensures.seen c.requires.seat)
          c.requires.works)
          (subst (λ (b : Began). c.args.worker.now.number < b.workers)
          (sym (ap (λ v. began_as (g.J.Journaled.shows v.journaled)) c.value.ensures.value ∙ c.turn-turn.ensures.gate_opening)) c.requires.within)
          c.in-Ok.ensures.settled.entered;
    }

pub returns-in-Err-clause-refused : goal.returns-in-Err-clause-refused
returns-in-Err-clause-refused g c =
    let parts : JournalParts = g.J.Journaled.shows c.value.result.now.journaled in
    subst (GrowsByOthers (c.args.worker.now.number + 4) (seen_by g.J.Journaled.shows c.args.gate.now c.args.pass))
    (sym (known_whole parts (began_at g.J.Journaled.shows c.args.gate.now) (seen_of (pass_knows c.quit.result)) c.settle_in.ensures.sound
    (ap (λ v. began_as (g.J.Journaled.shows v.journaled)) c.value.ensures.value ∙ c.turn-turn.ensures.gate_opening)
    (ap seen_of c.quit.ensures.knows ∙ sym (ap (λ v. commits_of (g.J.Journaled.shows v.journaled).journal) c.value.ensures.value ∙ c.turn-turn.ensures.history))))
    (turn_shows parts (began_at g.J.Journaled.shows c.args.gate.now) (c.args.worker.now.number + 4) (pass_knows c.args.pass) (turn_knows c.turn-turn.result) c.settle_in.ensures.sound
    (ap (λ v. began_as (g.J.Journaled.shows v.journaled)) c.value.ensures.value ∙ c.turn-turn.ensures.gate_opening)
    (ap (λ v. commits_of (g.J.Journaled.shows v.journaled).journal) c.value.ensures.value ∙ c.turn-turn.ensures.history)
    c.turn-turn.ensures.knows c.turn-turn.ensures.seen c.requires.seat)

pub returns-in-Ok-clause-newer : goal.returns-in-Ok-clause-newer
returns-in-Ok-clause-newer g c =
    let parts : JournalParts = g.J.Journaled.shows c.value.result.now.journaled in
    let after : JournalParts = g.J.Journaled.shows c.settle_in.new.kept.journaled in
    subst (λ (p : JournalParts). version_shown (heard_by g.J.Journaled.shows c.args.gate.now c.args.pass) ≤ version_shown p)
    (sym (known_whole after (began_at g.J.Journaled.shows c.args.gate.now) (seen_of (pass_knows c.done.result)) c.settle_in.ensures.sound_then
    (c.in-Ok.ensures.committed.began ∙ ap (λ v. began_as (g.J.Journaled.shows v.journaled)) c.value.ensures.value ∙ c.turn-turn.ensures.gate_opening)
    c.done.ensures.seen))
    (turn_newer (c.args.worker.now.number + 4) parts after (began_at g.J.Journaled.shows c.args.gate.now) (pass_heard c.args.pass) c.settle_in.ensures.sound
    c.in-Ok.ensures.committed
    (ap (λ v. began_as (g.J.Journaled.shows v.journaled)) c.value.ensures.value ∙ c.turn-turn.ensures.gate_opening)
    (subst (λ v. version_after (began_as (g.J.Journaled.shows v.journaled)) (pass_heard c.args.pass)
    ≤ version_after (began_as (g.J.Journaled.shows v.journaled)) (commits_of (g.J.Journaled.shows v.journaled).journal))
    (sym c.value.ensures.value) c.turn-turn.ensures.not_below))

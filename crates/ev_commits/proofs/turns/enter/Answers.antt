use Rattle.std.proofs.Common.{ap, sym, ◌∙◌, subst}
use Rattle.ev_gate.specs.History.{seen_of}
use Rattle.ev_gate.specs.Words.{pass_knows, turn_knows}
use Rattle.ev_actors.specs.Journals.{JournalParts}
use Rattle.ev_actors.specs.Taken.{HasEntered}
use Rattle.ev_commits.specs.Commits.{GrowsByOthers, commits_of, seat_of}
use Rattle.ev_commits.specs.Seen.{began_as, began_at, seen_by}
use Rattle.ev_commits.proofs.TurnLemmas.{known_whole, still_suffice, turn_forward, turn_shows}
use Rattle.ev_commits.proofs.turns.enter.Goals as goal

pub apply_in-requires-clause-numbered : goal.apply_in-requires-clause-numbered
apply_in-requires-clause-numbered g c sound =
    let parts : JournalParts = g.J.Journaled.shows c.value.result.now.journaled in
    still_suffice (began_at g.J.Journaled.shows c.args.gate.now).workers c.args.actor c.args.event.now (seen_by g.J.Journaled.shows c.args.gate.now c.args.pass) parts
    c.requires.allowed
    (turn_shows parts (began_at g.J.Journaled.shows c.args.gate.now) (seat_of c.args.actor) (pass_knows c.args.pass) (turn_knows c.turn-turn.result) sound
    (ap (λ v. began_as (g.J.Journaled.shows v.journaled)) c.value.ensures.value ∙ c.turn-turn.ensures.gate_opening)
    (ap (λ v. commits_of (g.J.Journaled.shows v.journaled).journal) c.value.ensures.value ∙ c.turn-turn.ensures.history)
    c.turn-turn.ensures.knows c.turn-turn.ensures.seen c.requires.seat)
    c.requires.numbered

pub done-pass-requires-clause-version : goal.done-pass-requires-clause-version
done-pass-requires-clause-version g c =
    turn_forward (seat_of c.args.actor) (g.J.Journaled.shows c.value.result.now.journaled) (g.J.Journaled.shows c.apply_in.new.kept.journaled)
    (seen_of (turn_knows c.turn-turn.result)) c.apply_in.ensures.sound c.apply_in.ensures.sound_then c.in-Ok.ensures.committed
    (ap (λ v. commits_of (g.J.Journaled.shows v.journaled).journal) c.value.ensures.value ∙ c.turn-turn.ensures.history)

pub returns-in-Ok-clause-entered : goal.returns-in-Ok-clause-entered
returns-in-Ok-clause-entered g c =
    let parts : JournalParts = g.J.Journaled.shows c.value.result.now.journaled in
    let after : JournalParts = g.J.Journaled.shows c.apply_in.new.kept.journaled in
    record {
      turn = parts;
      grows =
          turn_shows parts (began_at g.J.Journaled.shows c.args.gate.now) (seat_of c.args.actor) (pass_knows c.args.pass) (turn_knows c.turn-turn.result) c.apply_in.ensures.sound
          (ap (λ v. began_as (g.J.Journaled.shows v.journaled)) c.value.ensures.value ∙ c.turn-turn.ensures.gate_opening)
          (ap (λ v. commits_of (g.J.Journaled.shows v.journaled).journal) c.value.ensures.value ∙ c.turn-turn.ensures.history)
          c.turn-turn.ensures.knows c.turn-turn.ensures.seen c.requires.seat;
      entered =
          subst (HasEntered record { actor = c.args.actor; at = c.args.at; step = c.args.step; event = c.args.event.now } parts)
          (sym (known_whole after (began_at g.J.Journaled.shows c.args.gate.now) (seen_of (pass_knows c.done-pass.result)) c.apply_in.ensures.sound_then
          (c.in-Ok.ensures.committed.began ∙ ap (λ v. began_as (g.J.Journaled.shows v.journaled)) c.value.ensures.value ∙ c.turn-turn.ensures.gate_opening)
          c.done-pass.ensures.seen))
          c.in-Ok.ensures.entered;
    }

pub returns-in-Err-clause-refused : goal.returns-in-Err-clause-refused
returns-in-Err-clause-refused g c =
    let parts : JournalParts = g.J.Journaled.shows c.value.result.now.journaled in
    subst (GrowsByOthers (seat_of c.args.actor) (seen_by g.J.Journaled.shows c.args.gate.now c.args.pass))
    (sym (known_whole parts (began_at g.J.Journaled.shows c.args.gate.now) (seen_of (pass_knows c.quit.result)) c.apply_in.ensures.sound
    (ap (λ v. began_as (g.J.Journaled.shows v.journaled)) c.value.ensures.value ∙ c.turn-turn.ensures.gate_opening)
    (ap seen_of c.quit.ensures.knows ∙ sym (ap (λ v. commits_of (g.J.Journaled.shows v.journaled).journal) c.value.ensures.value ∙ c.turn-turn.ensures.history))))
    (turn_shows parts (began_at g.J.Journaled.shows c.args.gate.now) (seat_of c.args.actor) (pass_knows c.args.pass) (turn_knows c.turn-turn.result) c.apply_in.ensures.sound
    (ap (λ v. began_as (g.J.Journaled.shows v.journaled)) c.value.ensures.value ∙ c.turn-turn.ensures.gate_opening)
    (ap (λ v. commits_of (g.J.Journaled.shows v.journaled).journal) c.value.ensures.value ∙ c.turn-turn.ensures.history)
    c.turn-turn.ensures.knows c.turn-turn.ensures.seen c.requires.seat)

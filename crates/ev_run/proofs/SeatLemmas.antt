-- What the passes of a new gate know, and those of actors that are over.
use Rattle.std.proofs.Common.{◌≡◌, ℕ, Bool, true, List, [], ◌++◌, get_or, ap, sym, ◌∙◌, arith}
use Rattle.std.specs.Prelude.{Some, slice_get}
use Rattle.std.proofs.lemmas.Option.{slice_get-get_or}
use Rattle.ev_types.specs.Scripts.{ScriptParts}
use Rattle.ev_types.specs.declared.events.Entry.{Entry}
use Rattle.ev_gate.specs.History.{seen_of}
use Rattle.ev_gate.specs.Words.{AreNew, first_of, gate_id, pass_heard, pass_knows}
use Rattle.ev_gate.specs.declared.gate.Gate.{Gate}
use Rattle.ev_gate.specs.declared.gate.Pass.{Pass}
use Rattle.ev_gate.specs.declared.stands.Stands.{Ghosts}
use Rattle.ev_actors.specs.Journals.{JournalParts, nothing_done}
use Rattle.ev_commits.specs.Commits.{commits_of}
use Rattle.ev_commits.specs.Seen.{began_as, began_at, heard_by, journal_with, seen_by, version_shown}
use Rattle.ev_commits.specs.declared.kept.Began.{Began}
use Rattle.ev_commits.specs.declared.kept.Kept.{Kept}
use Rattle.ev_run.specs.Playing.{EachAt, IsNewPass, IsOverAt}

module _ {J : Type 0} (shows : J → JournalParts) {g : Ghosts (Kept J) Began (List Entry)} where
  -- where an actor isn't at its end, the whole isn't
  pub over_with : (script : ScriptParts) (gate : Gate (Kept J) Began (List Entry)) (pass : Pass (Kept J) Began (List Entry) g) (seat : ℕ) (ended all : Bool)
      → (all ≡ true → ended ≡ true) → IsOverAt shows script gate ended seat pass → IsOverAt shows script gate all seat pass
  over_with script gate pass seat ended all only over = record { at_gate = over.at_gate; over = λ so. over.over (only so) }

  -- the passes of a new gate have seen nothing done
  pub new_passes : (script : ScriptParts) (gate : Gate (Kept J) Began (List Entry)) (passes : List (Pass (Kept J) Began (List Entry) g)) (first : Kept J) (seats : ℕ)
      → shows first.journaled ≡ nothing_done script → first_of gate ≡ first
      → AreNew (gate_id gate) seats (began_as (shows first.journaled)) (commits_of (shows first.journaled).journal) passes
      → EachAt (IsNewPass shows script gate) passes
  new_passes script gate passes first seats begun made new k d below =
      by (get_or passes k d) (slice_get-get_or passes k d below)
    where
      none : commits_of (shows first.journaled).journal ≡ []
      none = ap (λ (p : JournalParts). commits_of p.journal) begun

      begins : began_at shows gate ≡ began_as (nothing_done script)
      begins = ap (λ (f : Kept J). began_as (shows f.journaled)) made ∙ ap began_as begun

      nothing : (commits : List (ℕ × List Entry)) → commits ≡ [] → journal_with (began_at shows gate) commits ≡ nothing_done script
      nothing commits is = ap (journal_with (began_at shows gate)) is ∙ ap (λ (b : Began). journal_with b []) begins

      by : (pass : Pass (Kept J) Began (List Entry) g) → slice_get passes k ≡ Some pass → IsNewPass shows script gate k pass
      by pass there =
          let seen : seen_by shows gate pass ≡ nothing_done script =
          nothing (seen_of (pass_knows pass)) (ap seen_of (new.knows k pass there) ∙ ap (λ (cs : List (ℕ × List Entry)). cs ++ []) none) in
          let heard : heard_by shows gate pass ≡ nothing_done script = nothing (pass_heard pass) (new.heard k pass there ∙ none) in
          let same : version_shown (seen_by shows gate pass) ≡ version_shown (heard_by shows gate pass) = ap version_shown (seen ∙ sym heard) in
          record {
            at_gate = record {
              here = new.gate_is k pass there;
              number = ap (λ (n : _). n.number) (new.knows k pass there);
              start = ap (λ (n : _). n.start) (new.knows k pass there) ∙ none;
              heard = omega arith;
            };
            seen = seen;
          }

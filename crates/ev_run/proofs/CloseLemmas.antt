-- At the close what a pass has seen is a beginning of the journal, and the rest has none of its actor's entries.
use Rattle.std.proofs.Common.{◌≡◌, ℕ, suc, ◌+◌, ◌<◌, ◌≤◌, ◌==◌, ◌⊎◌, inl, inr, true, List, [], ◌∷◌, ◌++◌, length, get_or, refl, ap, sym, ◌∙◌, subst, length-append, arith}
use Rattle.std.specs.Prelude.{Some, slice_get}
use Rattle.std.proofs.lemmas.Bool.{cases_lt}
use Rattle.std.proofs.lemmas.List.Elements.{filter-append}
use Rattle.std.proofs.lemmas.Option.{slice_get-get_or}
use Rattle.ev_types.specs.Events.{MayMake}
use Rattle.ev_types.specs.Scripts.{IsScript, ScriptParts}
use Rattle.ev_types.specs.declared.events.Actor.{Actor}
use Rattle.ev_types.specs.declared.events.Actor.TheVariants.{Stream, Health, Timer, Main, Worker}
use Rattle.ev_types.specs.declared.events.Entry.{Entry}
use Rattle.ev_types.specs.declared.events.Event.{Event}
use Rattle.ev_types.specs.declared.events.Event.TheVariants.{Connect, Disconnect, Response, Health as health, FetchTimeout, DrainTimeout, TtlExpired, Publish, Reap, Accept, Close, Settle}
use Rattle.ev_types.specs.declared.journals.Format.{Format}
use Rattle.ev_types.specs.declared.journals.Format.TheVariants.{Two}
use Rattle.ev_model.specs.World.{World, opening}
use Rattle.ev_model.specs.Step.{step}
use Rattle.ev_model.specs.Runs.{IsRun, RunsFrom}
use Rattle.ev_model.specs.Laws.{RunsHaveLaws}
use Rattle.ev_model.specs.Operations.{AreDone, Operation, deeds_from, operations_of}
use Rattle.ev_gate.specs.History.{Continues, GrowsWithout, Knowledge, commits_by, mine_of, seen_of}
use Rattle.ev_gate.specs.Words.{IsWhole, first_of, pass_knows}
use Rattle.ev_gate.specs.declared.gate.Gate.{Gate}
use Rattle.ev_gate.specs.declared.gate.Pass.{Pass}
use Rattle.ev_gate.specs.declared.stands.Stands.{Ghosts}
use Rattle.ev_actors.specs.Journals.{JournalParts, nothing_done}
use Rattle.ev_actors.specs.Resting.{SettlesForNews}
use Rattle.ev_commits.specs.Commits.{GrowsByOthers, commits_of, seat_of}
use Rattle.ev_commits.specs.Seen.{IsSound, began_as, journal_with}
use Rattle.ev_commits.specs.declared.kept.Began.{Began}
use Rattle.ev_commits.specs.declared.kept.Kept.{Kept}
use Rattle.ev_commits.proofs.TurnLemmas.{turned}
use Rattle.ev_run.specs.Left.{AreOwn, deeds_in}
use Rattle.ev_run.specs.Acting.{HasEnded}
use Rattle.ev_run.specs.Playing.{EachAt, HasRun, IsGateFor, IsOverAt}
use Rattle.ev_run.proofs.FitLemmas.{deeds_stay, not_same, own_deeds}
use Rattle.ev_run.proofs.NewsLemmas.{news_stays}
use Rattle.ev_run.proofs.OwnLemmas.{all_own}

no_more : {X : Type 0} (xs ys : List X) → xs ++ ys ≡ xs → ys ≡ []
no_more xs [] is = refl
no_more xs (y ∷ ys) is = absurd (longer (length xs) (length ys) (sym (length-append xs (y ∷ ys)) ∙ ap length is))
  where
    longer : (m n : ℕ) → m + suc n ≡ m → ⊥
    longer m n h = omega arith

-- what a pass has seen of the commits is a beginning, and the rest is not its own
rest_of_others : (number : ℕ) (since all : List (ℕ × List Entry)) → commits_by number all ≡ commits_by number since → Continues since all
    → GrowsWithout number since all
rest_of_others number since all own (more, goes_on) =
    let both : commits_by number since ++ commits_by number more ≡ commits_by number since =
    sym (filter-append (λ (c : ℕ × List Entry). c.0 == number) since more) ∙ ap (commits_by number) (sym goes_on) ∙ own in
    (more, goes_on, no_more (commits_by number since) (commits_by number more) both)

-- the operations are still done after it
pub ended_stays : (script : ScriptParts) (actor : Actor) (before after : JournalParts) → GrowsByOthers (seat_of actor) before after
    → HasEnded script actor before → HasEnded script actor after
ended_stays script actor before after grows ended = record {
  done = subst (AreDone true (operations_of script actor)) (sym (deeds_stay actor before after grows)) ended.done;
  news = news_stays actor before after grows ended.news;
}

pub ended_whole : (script : ScriptParts) (actor : Actor) (parts : JournalParts) (began : Began) (knows : Knowledge Began (List Entry))
    (all : List (ℕ × List Entry)) → IsSound parts → began_as parts ≡ began → commits_of parts.journal ≡ all → knows.start ≡ [] → knows.number ≡ seat_of actor
    → commits_by knows.number all ≡ mine_of knows → Continues (seen_of knows) all → HasEnded script actor (journal_with began (seen_of knows))
    → HasEnded script actor parts
ended_whole script actor parts began knows all sound is are start number own (more, goes_on) ended =
    let seen : seen_of knows ≡ knows.since = ap (λ (cs : List (ℕ × List Entry)). cs ++ knows.since) start in
    let grows : GrowsByOthers (seat_of actor) (journal_with (began_as parts) knows.since) parts =
    turned parts (seat_of actor) [] knows.since all sound are
    (subst (λ n. GrowsWithout n knows.since all) number
    (rest_of_others knows.number knows.since all own (more, goes_on ∙ ap (λ (cs : List (ℕ × List Entry)). cs ++ more) seen))) in
    ended_stays script actor (journal_with (began_as parts) knows.since) parts grows
    (subst (λ (cs : List (ℕ × List Entry)). HasEnded script actor (journal_with (began_as parts) cs)) seen
    (subst (λ (b : Began). HasEnded script actor (journal_with b (seen_of knows))) (sym is) ended))

-- an actor that isn't the script's
allowed_below : (workers worker : ℕ) (event : Event) → MayMake workers (Worker worker) event → worker < workers
allowed_below workers worker Connect may = absurd may
allowed_below workers worker Disconnect may = absurd may
allowed_below workers worker (Response response) may = absurd may
allowed_below workers worker (health cluster host healthy) may = absurd may
allowed_below workers worker (FetchTimeout timeout) may = absurd may
allowed_below workers worker (DrainTimeout listener) may = absurd may
allowed_below workers worker (TtlExpired kind name) may = absurd may
allowed_below workers worker Publish may = absurd may
allowed_below workers worker Reap may = absurd may
allowed_below workers worker (Accept ask) may = may
allowed_below workers worker (Close connection) may = may
allowed_below workers worker Settle may = may

none_to_do : (workers worker : ℕ) (os : List Operation) → workers ≤ worker → AreOwn workers (Worker worker) os → os ≡ []
none_to_do workers worker [] past own = refl
none_to_do workers worker (o ∷ os) past own =
    absurd (no workers worker past (allowed_below workers worker o.event (subst (λ a. MayMake workers a o.event) own.0.0 own.0.1)))
  where
    no : (a b : ℕ) → a ≤ b → b < a → ⊥
    no a b le less = omega arith

none_done : (format : Format) (workers worker : ℕ) (world : World) (entries : List Entry) → workers ≤ worker → RunsFrom format workers world entries
    → own_deeds (Worker worker) (deeds_from format world entries) ≡ []
none_done format workers worker world [] past runs = refl
none_done format workers worker world (entry ∷ entries) past runs =
    let no : _ =
    not_same entry.actor (Worker worker)
    (λ same. apart workers worker past (allowed_below workers worker entry.event (subst (λ a. MayMake workers a entry.event) same runs.0))) in
    simp no (none_done format workers worker (step format world entry.actor entry.event).0 entries past runs.2)
  where
    apart : (a b : ℕ) → a ≤ b → b < a → ⊥
    apart a b le less = omega arith

ended_past : (script : ScriptParts) (worker : ℕ) (parts : JournalParts) → IsScript script → IsSound parts → parts.workers ≡ script.workers → script.workers ≤ worker
    → AreDone true (operations_of script (Worker worker)) (deeds_in parts (Worker worker))
ended_past script worker parts kept sound same past =
    let none : deeds_in parts (Worker worker) ≡ [] =
    none_done parts.format parts.workers worker (opening parts.workers parts.node) parts.journal (subst (λ n. n ≤ worker) (sym same) past) sound.answers in
    subst (λ (os : List Operation). AreDone true os (deeds_in parts (Worker worker)))
    (sym (none_to_do script.workers worker (operations_of script (Worker worker)) past (all_own script (Worker worker) kept)))
    (subst (AreDone true []) (sym none) tt)

-- each actor has done its operations
all_ended : (script : ScriptParts) (parts : JournalParts) → IsScript script → IsSound parts → parts.workers ≡ script.workers
    → ((actor : Actor) → seat_of actor < 4 + script.workers → HasEnded script actor parts) → (actor : Actor)
    → AreDone true (operations_of script actor) (deeds_in parts actor)
all_ended script parts kept sound same each Stream = (each Stream (omega arith)).done
all_ended script parts kept sound same each Health = (each Health (omega arith)).done
all_ended script parts kept sound same each Timer = (each Timer (omega arith)).done
all_ended script parts kept sound same each Main = (each Main (omega arith)).done
all_ended script parts kept sound same each (Worker worker) = by (cases_lt worker script.workers)
  where
    by : (worker < script.workers) ⊎ (script.workers ≤ worker) → AreDone true (operations_of script (Worker worker)) (deeds_in parts (Worker worker))
    by (inl less) = (each (Worker worker) (omega arith)).done
    by (inr past) = ended_past script worker parts kept sound same past

-- so it is a run of the script
pub has_run : (script : ScriptParts) (parts : JournalParts) → IsScript script → RunsHaveLaws → IsSound parts → began_as parts ≡ began_as (nothing_done script)
    → ((actor : Actor) → seat_of actor < 4 + script.workers → HasEnded script actor parts) → HasRun script parts
has_run script parts kept laws sound is each =
    let run : IsRun Two script.workers script.node parts.journal =
    subst (λ (b : Began). IsRun b.format b.workers b.node parts.journal) is sound in
    record {
      format = ap (λ (b : Began). b.format) is;
      workers = ap (λ (b : Began). b.workers) is;
      node = ap (λ (b : Began). b.node) is;
      journal = record {
        run = run;
        fits = λ actor.
            subst (λ (b : Began). AreDone true (operations_of script actor) (own_deeds actor (deeds_from b.format (opening b.workers b.node) parts.journal))) is
            (all_ended script parts kept sound (ap (λ (b : Began). b.workers) is) each actor);
      };
      laws = laws Two script.workers script.node parts.journal run;
      news = λ worker below.
          subst (λ (b : Began). SettlesForNews b.format worker true (opening b.workers b.node) parts.journal) is
          (each (Worker worker) (omega arith)).news;
    }

-- what the passes know at the close
module _ {J : Type 0} (shows : J → JournalParts) {g : Ghosts (Kept J) Began (List Entry)} where
  pub closes : (script : ScriptParts) (gate : Gate (Kept J) Began (List Entry)) (passes : List (Pass (Kept J) Began (List Entry) g)) (parts : JournalParts)
      (start : List (ℕ × List Entry)) (seats : ℕ)
      → IsScript script → RunsHaveLaws → IsGateFor shows script gate → IsSound parts → began_as parts ≡ began_as (shows (first_of gate).journaled)
      → start ≡ commits_of (shows (first_of gate).journaled).journal → IsWhole start (commits_of parts.journal) passes
      → seats ≡ 4 + script.workers → length passes ≡ seats → EachAt (IsOverAt shows script gate true) passes → HasRun script parts
  closes script gate passes parts start seats kept laws made sound is begun whole few count over =
      has_run script parts kept laws sound (is ∙ ap began_as made) each
    where
      nothing : start ≡ []
      nothing = begun ∙ ap (λ (p : JournalParts). commits_of p.journal) made

      since_are : commits_of parts.journal ≡ whole.since
      since_are = whole.commits_are ∙ ap (λ (cs : List (ℕ × List Entry)). cs ++ whole.since) nothing

      by : (actor : Actor) (pass : Pass (Kept J) Began (List Entry) g) → slice_get passes (seat_of actor) ≡ Some pass → IsOverAt shows script gate true (seat_of actor) pass
          → HasEnded script actor parts
      by actor pass there one =
          ended_whole script actor parts (began_as (shows (first_of gate).journaled)) (pass_knows pass) whole.since sound is since_are
          one.at_gate.start one.at_gate.number (whole.own (seat_of actor) pass there)
          (subst (Continues (seen_of (pass_knows pass))) since_are (whole.seen (seat_of actor) pass there))
          (one.over refl actor refl)

      first : (ps : List (Pass (Kept J) Began (List Entry) g)) (n : ℕ) → n < length ps → Pass (Kept J) Began (List Entry) g
      first [] n below = absurd (none n below)
        where
          none : (n : ℕ) → n < 0 → ⊥
          none n h = omega arith
      first (p ∷ ps) n below = p

      each : (actor : Actor) → seat_of actor < 4 + script.workers → HasEnded script actor parts
      each actor below =
          let within : seat_of actor < length passes = omega arith in
          let d : Pass (Kept J) Began (List Entry) g = first passes (seat_of actor) within in
          by actor (get_or passes (seat_of actor) d) (slice_get-get_or passes (seat_of actor) d within) (over (seat_of actor) d within)

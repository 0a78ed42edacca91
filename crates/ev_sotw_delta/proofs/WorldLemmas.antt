-- A replay of the state of the world is the same world.
use Rattle.std.proofs.Common.{◌≡◌, ◌∙◌, ℕ, ◌+◌, Bool, true, false, cond, List, [], map, take, filter, Some, Ok, refl, sym, ap, subst}
use Rattle.std.proofs.lemmas.Bool.{false≢true}
use Rattle.ev_types.specs.Items.{ResponseParts}
use Rattle.ev_types.specs.Scripts.{IsScript, ScriptParts}
use Rattle.ev_types.specs.Kinds.{is_by_name}
use Rattle.ev_types.specs.declared.contents.Kind.{Kind}
use Rattle.ev_types.specs.declared.contents.Kind.TheVariants.{Cds, Lds}
use Rattle.ev_types.specs.declared.events.Actor.{Actor}
use Rattle.ev_types.specs.declared.events.Actor.TheVariants.{Stream}
use Rattle.ev_types.specs.declared.events.Answer.TheVariants.{Ignored}
use Rattle.ev_types.specs.declared.events.Entry.{Entry}
use Rattle.ev_types.specs.declared.events.Event.{Event}
use Rattle.ev_types.specs.declared.events.Event.TheVariants.{Response}
use Rattle.ev_types.specs.declared.journals.Format.{Format}
use Rattle.ev_model.specs.World.{World, opening}
use Rattle.ev_model.specs.Laws.{Told}
use Rattle.ev_model.specs.Live.{lives_of}
use Rattle.ev_model.specs.Operations.{Operation, IsRunOf, entries_of, operations_of}
use Rattle.ev_model.specs.Runs.{IsRun, world_at}
use Rattle.ev_model.specs.Step.{step, respond_by}
use Rattle.ev_model.specs.Warming.{value_of}
use Rattle.ev_model.specs.Watching.{is_watched, watched_of}
use Rattle.ev_model_laws.proofs.PlaceLemmas.{IsAnswered, entry_answered, world_next}
use Rattle.ev_script.specs.declared.trees.ScriptTrees.{ScriptTrees}
use Rattle.ev_script.specs.Faults.{Input}
use Rattle.ev_script.specs.Header.{settings_of}
use Rattle.ev_script.specs.ReadTrees.{IsTreesAnswer}
use Rattle.ev_model_laws.specs.Watches.{has_live, has_item}
use Rattle.ev_model_laws.proofs.HoldLemmas.{side_holds}
use Rattle.ev_model_laws.proofs.ToldLemmas.{told_stay}
use Rattle.ev_sotw.specs.declared.names_so_far.NamesSoFar.{NamesSoFar}
use Rattle.ev_sotw.specs.Lines.{sotw_lines}
use Rattle.ev_expand.specs.Said.{lines_in}
use Rattle.ev_expand.proofs.FormLemmas.{trees_have_forms}
use Rattle.ev_sotw.specs.Stated.{Stated, names_asked}
use Rattle.ev_sotw_delta.specs.DeltaText.{delta_script}
use Rattle.ev_sotw_delta.specs.SameWorld.{is_replied, AnswersAt, SameWorld}
use Rattle.ev_sotw_delta.specs.Watches.{entries_in}
use Rattle.ev_sotw_delta.proofs.EventLemmas.{Heard, nothing_heard, FitsKind, AllFit, is_told, told_fit, all_fit}
use Rattle.ev_sotw_delta.proofs.StripLemmas.{line_events, entry_events, told_script, told_entries}
use Rattle.ev_sotw_delta.proofs.RunLemmas.{nothing_lives, named_by, FitsHere, fits_here}
use Rattle.ev_sotw_delta.proofs.StayLemmas.{tells_nothing}
use Rattle.ev_sotw_delta.proofs.DeltaRunLemmas.{lines_fit}
use Rattle.ev_sotw_delta.proofs.WatchLemmas.{tell_watches}

-- ---- the events of a run

nothing_said : NamesSoFar
nothing_said = record { connected = false; clusters = []; listeners = [] }

script_fits : (input : Input) (trees : ScriptTrees) → IsTreesAnswer sotw_lines input (Ok trees) → AllFit nothing_heard (line_events (delta_script trees).lines)
unfolding nothing_said
script_fits input trees read =
    lines_fit (settings_of trees.header) 2 [] (lines_in trees) nothing_heard nothing_said (trees_have_forms sotw_lines input trees (λ tree. refl) read)
    (record { connected = refl; clusters = refl; listeners = refl }) (record { connected = refl; clusters = λ name. refl; listeners = λ name. refl })

-- the events of a run of a script are of the state of the world where those of its lines are
run_fits : (format : Format) (script : ScriptParts) (journal : List Entry) → IsScript script → IsRunOf format script journal
    → AllFit nothing_heard (line_events script.lines) → AllFit nothing_heard (entry_events journal)
run_fits format script journal proper run all =
    let held : entries_of journal Stream ≡ operations_of script Stream = side_holds format script journal Stream proper tt run in
    let same : filter is_told (line_events script.lines) ≡ filter is_told (entry_events journal) =
    sym (told_script script proper) ∙ ap (λ (os : List Operation). filter is_told (map (λ (o : Operation). o.event) os)) (sym held)
    ∙ told_entries format script.workers (opening script.workers script.node) journal run.run.answers in
    all_fit (entry_events journal) nothing_heard (subst (AllFit nothing_heard) same (told_fit (line_events script.lines) nothing_heard all))

-- ---- at an answered response

replied_streams : (format : Format) (world : World) (actor : Actor) (response : ResponseParts) → is_replied (step format world actor (Response response)).1 ≡ true → world.stream ≡ true
replied_streams format world actor response h = by world.stream refl h
  where
    by : (b : Bool) → world.stream ≡ b → is_replied (cond b (respond_by response.kind response world) (world, Ignored)).1 ≡ true → b ≡ true
    by true is k = refl
    by false is k = absurd (false≢true k)

-- what a place of a run with an answered response shows
record Shows (format : Format) (script : ScriptParts) (journal : List Entry) (k : ℕ) (kind : Kind) (response : ResponseParts) : Type 0 where
  actor : Actor
  here : FitsHere (world_at format script.workers script.node journal k) (Response response)
  next : world_at format script.workers script.node journal (k + 1) ≡ (step format (world_at format script.workers script.node journal k) actor (Response response)).0
  streams : (world_at format script.workers script.node journal k).stream ≡ true

shows : (format : Format) (script : ScriptParts) (journal : List Entry) → IsRunOf format script journal → AllFit nothing_heard (entry_events journal)
    → (k : ℕ) (kind : Kind) (response : ResponseParts) → AnswersAt journal k kind response → Shows format script journal k kind response
shows format script journal run all k kind response at =
    let told : Told = record { format = format; workers = script.workers; node = script.node; journal = journal } in
    let world : World = world_at format script.workers script.node journal k in
    let entry : Entry = at.entry in
    let answered : IsAnswered told k entry = entry_answered told k entry run.run.answers at.here in
    record {
      actor = entry.actor;
      here = subst (FitsHere world) at.event (fits_here format journal (opening script.workers script.node) nothing_heard (nothing_lives script.workers script.node) all k entry at.here);
      next = world_next told k entry at.here ∙ ap (λ (e : Event). (step format world entry.actor e).0) at.event;
      streams = replied_streams format world entry.actor response
          (ap is_replied (sym (answered.answer ∙ ap (λ (e : Event). (step format world entry.actor e).1) at.event)) ∙ at.answered);
    }

named_in : (format : Format) (script : ScriptParts) (journal : List Entry) (k : ℕ) (kind : Kind) (response : ResponseParts) (name : List ℕ)
    → Shows format script journal k kind response → response.kind ≡ Some kind → is_by_name kind ≡ false
    → has_live (world_at format script.workers script.node journal (k + 1)) kind name ≡ true → has_item response name ≡ true
named_in format script journal k Cds response name shown typed isnt live =
    named_by format (world_at format script.workers script.node journal k) shown.actor response Cds shown.here.heard.clusters shown.here.holds.clusters
    (subst (λ found. FitsKind found response shown.here.heard) typed shown.here.fits) shown.streams typed isnt name
    (subst (λ (w : World). has_live w Cds name ≡ true) shown.next live)
named_in format script journal k Lds response name shown typed isnt live =
    named_by format (world_at format script.workers script.node journal k) shown.actor response Lds shown.here.heard.listeners shown.here.holds.listeners
    (subst (λ found. FitsKind found response shown.here.heard) typed shown.here.fits) shown.streams typed isnt name
    (subst (λ (w : World). has_live w Lds name ≡ true) shown.next live)
named_in format script journal k kind response name shown typed isnt live = absurd (false≢true (sym isnt))

nothing_removed : (kind : Kind) (response : ResponseParts) (heard : Heard) → FitsKind (Some kind) response heard → is_by_name kind ≡ true → response.removed ≡ []
nothing_removed Cds response heard fits is = absurd (false≢true is)
nothing_removed Lds response heard fits is = absurd (false≢true is)
nothing_removed kind response heard fits is = fits

stays_in : (format : Format) (script : ScriptParts) (journal : List Entry) (k : ℕ) (kind : Kind) (response : ResponseParts) (name : List ℕ)
    → Shows format script journal k kind response → response.kind ≡ Some kind → is_by_name kind ≡ true
    → is_watched (lives_of (world_at format script.workers script.node journal (k + 1))) kind name ≡ true → has_item response name ≡ false
    → value_of (world_at format script.workers script.node journal (k + 1)) kind name ≡ value_of (world_at format script.workers script.node journal k) kind name
stays_in format script journal k kind response name shown typed is watched none =
    let world : World = world_at format script.workers script.node journal k in
    let removed : response.removed ≡ [] = nothing_removed kind response shown.here.heard (subst (λ found. FitsKind found response shown.here.heard) typed shown.here.fits) is in
    ap (λ (w : World). value_of w kind name) shown.next
    ∙ (told_stay format world shown.actor (Response response) kind name (subst (λ (w : World). is_watched (lives_of w) kind name ≡ true) shown.next watched)
    (tells_nothing kind name response (step format world shown.actor (Response response)).1 none removed) refl).value

asked_in : (format : Format) (script : ScriptParts) (journal : List Entry) (k : ℕ) (kind : Kind) (stated : List Stated) → IsRun format script.workers script.node journal
    → entries_in stated ≡ journal → is_by_name kind ≡ true → (world_at format script.workers script.node journal (k + 1)).stream ≡ true
    → names_asked kind (take (k + 1) stated) ≡ watched_of (world_at format script.workers script.node journal (k + 1)) kind
asked_in format script journal k kind stated run entries by_name streams =
    tell_watches format script.workers script.node stated kind (k + 1) (subst (IsRun format script.workers script.node) (sym entries) run) by_name
    (ap (λ (all : List Entry). (world_at format script.workers script.node all (k + 1)).stream) entries ∙ streams)
    ∙ ap (λ (all : List Entry). watched_of (world_at format script.workers script.node all (k + 1)) kind) entries

pub same_world : SameWorld
same_world input trees format journal read proper run =
    let script : ScriptParts = delta_script trees in
    let all : AllFit nothing_heard (entry_events journal) = run_fits format script journal proper run (script_fits input trees read) in
    record {
      named = λ k kind response name at isnt live. named_in format script journal k kind response name (shows format script journal run all k kind response at) at.typed isnt live;
      stays = λ k kind response name at is watched none. stays_in format script journal k kind response name (shows format script journal run all k kind response at) at.typed is watched none;
      asked = λ k kind stated entries by_name streams. asked_in format script journal k kind stated run.run entries by_name streams;
    }

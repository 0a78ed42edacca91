-- A registry's journal grows by entries of one step each, and what is known is made anew out of it.
use Rattle.std.proofs.Common.{◌≡◌, ℕ, zero, suc, ◌+◌, ◌<◌, ◌≤◌, false, List, [], ◌∷◌, ◌++◌, length, take, get_or, map, Some, sym, ap, subst, ◌∙◌, arith}
use Rattle.std.proofs.lemmas.Bool.{both_ways}
use Rattle.std.proofs.lemmas.List.{map-append}
use Rattle.ev_types.specs.Events.{IsMainSide, MayMake}
use Rattle.ev_types.specs.Scripts.{items_in}
use Rattle.ev_types.specs.declared.events.Actor.{Actor}
use Rattle.ev_types.specs.declared.events.Answer.{Answer}
use Rattle.ev_types.specs.declared.events.Entry.{Entry}
use Rattle.ev_types.specs.declared.events.Event.{Event}
use Rattle.ev_types.specs.declared.journals.Format.{Format}
use Rattle.ev_types.specs.declared.rows.GenRow.{GenRow}
use Rattle.ev_model.specs.World.{World, opening}
use Rattle.ev_model.specs.Runs.{world_after, is_batched, GoesOnWith, IsRun, IsUnbroken, RunsFrom}
use Rattle.ev_model.specs.Dead.{last_picture}
use Rattle.ev_model.specs.declared.pictures.Picture.{Picture}
use Rattle.ev_model.specs.Step.{step}
use Rattle.ev_actors.specs.Journals.{JournalParts, SufficeFor, answer_now, entry_made, with_entries, with_entry, world_now}
use Rattle.ev_actors.proofs.WorldLemmas.{after_append}
use Rattle.ev_proxy.specs.Proxies.{AreRowsOf, IsAt, numbers_reaped}
use Rattle.ev_proxy.specs.declared.proxy.Proxy.{Proxy}
use Rattle.ev_model_laws.proofs.RunNumberLemmas.{entry_draws}
use Rattle.ev_registry.proofs.EventLemmas.{main_alone}
use Rattle.ev_registry.specs.Registries.{DefersReaped, MayStep, HaveStepped, FollowsJournal}

-- a run, and one that goes on from the world after it
pub runs_append : (format : Format) (workers : ℕ) (world : World) (entries more : List Entry) → RunsFrom format workers world entries
    → RunsFrom format workers (world_after format world entries) more → RunsFrom format workers world (entries ++ more)
runs_append format workers world [] more run rest = rest
runs_append format workers world (entry ∷ entries) more run rest =
    (run.0, run.1, runs_append format workers (step format world entry.actor entry.event).0 entries more run.2 rest)

-- steps, and more from the world after them
pub stepped_append : (format : Format) (workers : ℕ) (world : World) (entries more : List Entry) → HaveStepped format workers world entries
    → HaveStepped format workers (world_after format world entries) more → HaveStepped format workers world (entries ++ more)
stepped_append format workers world [] more had rest = rest
stepped_append format workers world (entry ∷ entries) more had rest =
    (had.0, stepped_append format workers (step format world entry.actor entry.event).0 entries more had.1 rest)

goes_on_append : (actor : Actor) (entries more : List Entry) → GoesOnWith actor entries → GoesOnWith actor (entries ++ more)
goes_on_append actor [] more goes = absurd goes
goes_on_append actor (entry ∷ entries) more goes = goes

-- batches that are whole, and more that are
pub unbroken_append : (entries more : List Entry) → IsUnbroken entries → IsUnbroken more → IsUnbroken (entries ++ more)
unbroken_append [] more whole rest = rest
unbroken_append (entry ∷ entries) more whole rest =
    (λ h. goes_on_append entry.actor entries more (whole.0 h), unbroken_append entries more whole.1 rest)

-- the step at a place
pub stepped_at : (format : Format) (workers : ℕ) (world : World) (entries : List Entry) (k : ℕ) (d : Entry) → HaveStepped format workers world entries
    → k < length entries → MayStep workers (world_after format world (take k entries)) (get_or entries k d)
stepped_at format workers world [] k d had below = absurd (omega arith)
stepped_at format workers world (entry ∷ entries) zero d had below = had.0
stepped_at format workers world (entry ∷ entries) (suc k) d had below =
    stepped_at format workers (step format world entry.actor entry.event).0 entries k d had.1 (omega arith)

-- what was done before is what is known
pub starts : (picture : Picture) (proxy : Proxy) (format : Format) (workers : ℕ) (node kept : List ℕ) (journal given : List Entry) → IsRun format workers node journal
    → HaveStepped format workers (opening workers node) journal → kept ≡ node → given ≡ journal
    → picture ≡ last_picture (world_after format (opening workers node) given) → IsAt proxy (world_after format (opening workers node) given)
    → FollowsJournal false picture proxy (record { format = format; workers = workers; node = kept; journal = journal })
starts picture proxy format workers node kept journal given run stepped same is latest at =
    subst (λ (n : List ℕ). FollowsJournal false picture proxy (record { format = format; workers = workers; node = n; journal = journal })) (sym same)
    (record {
      run = run;
      stepped = stepped;
      latest = subst (λ (es : List Entry). picture ≡ last_picture (world_after format (opening workers node) es)) is latest;
      at = λ here. subst (λ (es : List Entry). IsAt proxy (world_after format (opening workers node) es)) is at;
    })

-- what is known but for the rows that were reaped
pub at_but : (p : Proxy) (deferred : List GenRow × ℕ) (world : World) → IsAt p world → IsAt (record p { deferred = deferred }) world
at_but p deferred world at = record { managed = at.managed; held = at.held; shown = at.shown }

-- more entries come after, and what is known is at their world
pub goes_on : (picture : Picture) (proxy : Proxy) (parts : JournalParts) (more : List Entry) → IsRun parts.format parts.workers parts.node parts.journal
    → HaveStepped parts.format parts.workers (opening parts.workers parts.node) parts.journal
    → RunsFrom parts.format parts.workers (world_now parts) more → IsUnbroken more → HaveStepped parts.format parts.workers (world_now parts) more
    → picture ≡ last_picture (world_after parts.format (world_now parts) more)
    → IsAt proxy (world_after parts.format (world_now parts) more)
    → FollowsJournal false picture proxy (with_entries more parts)
goes_on picture proxy parts more run stepped runs whole steps latest at =
    let begun : World = opening parts.workers parts.node in
    let there : world_after parts.format begun (parts.journal ++ more) ≡ world_after parts.format (world_now parts) more = after_append parts.format begun parts.journal more in
    record {
      run = record {
        answers = runs_append parts.format parts.workers begun parts.journal more run.answers runs;
        batches = unbroken_append parts.journal more run.batches whole;
      };
      stepped = stepped_append parts.format parts.workers begun parts.journal more stepped steps;
      latest = latest ∙ ap last_picture (sym there);
      at = λ here. subst (IsAt proxy) (sym there) at;
    }

-- an event of the main side that was made on what is known, and its entry
pub enters : (picture : Picture) (proxy : Proxy) (parts now given : JournalParts) (pushed : List Entry) (entry : Entry) (actor : Actor) (at n : ℕ) (event : Event) (answer : Answer)
    → IsRun parts.format parts.workers parts.node parts.journal
    → HaveStepped parts.format parts.workers (opening parts.workers parts.node) parts.journal
    → parts ≡ now → given ≡ parts → pushed ≡ parts.journal ++ entry ∷ []
    → entry ≡ record { actor = actor; at = at; step = n; event = event; answer = answer }
    → IsMainSide actor → MayMake now.workers actor event → SufficeFor event now
    → answer ≡ (step given.format (world_now given) actor event).1
    → picture ≡ last_picture (step given.format (world_now given) actor event).0
    → IsAt proxy (step given.format (world_now given) actor event).0
    → FollowsJournal false picture proxy (record parts { journal = pushed })
enters picture proxy parts now given pushed entry actor at n event answer run stepped view same pushes is main allowed room answered latest led =
    let made : Entry = record { actor = actor; at = at; step = n; event = event; answer = answer } in
    let enough : SufficeFor event parts = subst (SufficeFor event) (sym view) room in
    let may : MayMake parts.workers actor event = subst (λ (p : JournalParts). MayMake p.workers actor event) (sym view) allowed in
    let alone : is_batched event ≡ false = main_alone parts.workers actor event main may in
    let whole : FollowsJournal false picture proxy (with_entries (made ∷ []) parts) =
    goes_on picture proxy parts (made ∷ []) run stepped
    (may, subst (λ (p : JournalParts). answer ≡ (step p.format (world_now p) actor event).1) same answered, tt)
    (λ h. absurd (both_ways (is_batched event) alone h), tt)
    (record { allowed = may; room = enough }, tt)
    (subst (λ (p : JournalParts). picture ≡ last_picture (step p.format (world_now p) actor event).0) same latest)
    (subst (λ (p : JournalParts). IsAt proxy (step p.format (world_now p) actor event).0) same led) in
    subst (λ (es : List Entry). FollowsJournal false picture proxy (record parts { journal = es })) (sym pushes)
    (subst (λ (e : Entry). FollowsJournal false picture proxy (record parts { journal = parts.journal ++ e ∷ [] })) (sym is) whole)

-- so the journal has it, with the machine's answer
pub shows_entry : (parts now given : JournalParts) (pushed : List Entry) (entry : Entry) (actor : Actor) (at n : ℕ) (event : Event) (answer : Answer)
    → parts ≡ now → given ≡ parts → pushed ≡ parts.journal ++ entry ∷ []
    → entry ≡ record { actor = actor; at = at; step = n; event = event; answer = answer }
    → answer ≡ (step given.format (world_now given) actor event).1
    → record parts { journal = pushed } ≡ with_entry (entry_made actor at n event now) now
shows_entry parts now given pushed entry actor at n event answer view same pushes is answered =
    let told : answer ≡ answer_now actor event parts = answered ∙ ap (answer_now actor event) same in
    let made : entry ≡ entry_made actor at n event parts =
    is ∙ ap (λ (a : Answer). record { actor = actor; at = at; step = n; event = event; answer = a }) told in
    ap (λ (es : List Entry). record parts { journal = es }) (pushes ∙ ap (λ (e : Entry). parts.journal ++ e ∷ []) made)
    ∙ ap (λ (p : JournalParts). with_entry (entry_made actor at n event p) p) view

-- it drew at most one number for each of its resources
pub draws : (parts now : JournalParts) (pushed : List Entry) (entry : Entry) (event : Event) → parts ≡ now → pushed ≡ parts.journal ++ entry ∷ []
    → items_in entry.event ≡ items_in event
    → (world_after parts.format (opening parts.workers parts.node) pushed).made ≤ (world_now now).made + items_in event
draws parts now pushed entry event view pushes same =
    let begun : World = opening parts.workers parts.node in
    subst (λ (es : List Entry). (world_after parts.format begun es).made ≤ (world_now now).made + items_in event) (sym pushes)
    (subst (λ (p : JournalParts). (world_after parts.format begun (parts.journal ++ entry ∷ [])).made ≤ (world_now p).made + items_in event) view
    (subst (λ n. (world_after parts.format begun (parts.journal ++ entry ∷ [])).made ≤ (world_now parts).made + n) same
    (entry_draws parts.format begun parts.journal entry)))

-- the rows that it reaped wait after those that waited
pub defers : (parts now given : JournalParts) (event : Event) (waiting before taken after : List GenRow) → parts ≡ now → given ≡ parts → waiting ≡ before
    → after ≡ waiting ++ taken → AreRowsOf (numbers_reaped given.format (world_now given) event) (world_now given).rows taken → DefersReaped event now before after
defers parts now given event waiting before taken after view same was is told =
    let there : AreRowsOf (numbers_reaped now.format (world_now now) event) (world_now now).rows taken =
    subst (λ (p : JournalParts). AreRowsOf (numbers_reaped p.format (world_now p) event) (world_now p).rows taken) (same ∙ view) told in
    ap (λ (rows : List GenRow). map Some rows) is
    ∙ map-append Some waiting taken
    ∙ (λ i. map Some (was i) ++ there i)

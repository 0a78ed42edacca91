-- What a worker did and its settle go into the journal together.
use Rattle.std.proofs.Common.{◌≡◌, ℕ, ◌<◌, false, ap, List, [], ◌∷◌, ◌++◌, length, refl, sym, subst, ◌∙◌, arith}
use Rattle.std.proofs.lemmas.Bool.{both_ways}
use Rattle.ev_types.specs.Events.{MayMake}
use Rattle.ev_types.specs.Scripts.{items_in}
use Rattle.ev_types.specs.declared.events.Actor.{Actor}
use Rattle.ev_types.specs.declared.events.Actor.TheVariants.{Worker}
use Rattle.ev_types.specs.declared.events.Answer.{Answer}
use Rattle.ev_types.specs.declared.events.Answer.TheVariants.{Settled}
use Rattle.ev_types.specs.declared.events.Entry.{Entry}
use Rattle.ev_types.specs.declared.events.Event.TheVariants.{Settle}
use Rattle.ev_types.specs.declared.journals.Format.{Format}
use Rattle.ev_model.specs.Connections.{settle}
use Rattle.ev_model.specs.World.{World, opening}
use Rattle.ev_model.specs.Runs.{world_after, is_batched, GoesOnWith, IsRun, IsUnbroken, RunsFrom}
use Rattle.ev_model.specs.Dead.{last_picture}
use Rattle.ev_model.specs.Step.{step}
use Rattle.ev_model.specs.declared.pictures.Picture.{Picture}
use Rattle.ev_model.proofs.RunLemmas.{world_after-more}
use Rattle.ev_worker.specs.Batches.{entries_of}
use Rattle.ev_worker.specs.Workers.{AreAnswered, WorkerParts}
use Rattle.ev_worker.specs.declared.lines.BatchLine.{BatchLine}
use Rattle.ev_actors.specs.Journals.{JournalParts, WorksIn, entries_made, settle_made, with_settled, world_behind, world_now}
use Rattle.ev_actors.proofs.SettleLemmas.{held_now}
use Rattle.ev_proxy.specs.Proxies.{IsAt}
use Rattle.ev_proxy.specs.declared.proxy.Proxy.{Proxy}
use Rattle.ev_registry.proofs.EventLemmas.{worker_works}
use Rattle.ev_registry.proofs.RunSteps.{goes_on, runs_append}
use Rattle.ev_registry.specs.Registries.{MayStep, HaveStepped, FollowsJournal, settle_told}

-- a batch ends with the settle of its worker
batch_goes_on : (number : ℕ) (picture : Picture) (lines : List BatchLine) (last : Entry) → last.actor ≡ Worker number
    → GoesOnWith (Worker number) (entries_of number picture lines ++ last ∷ [])
batch_goes_on number picture [] last own = own
batch_goes_on number picture (line ∷ lines) last own = refl

batch_unbroken : (number : ℕ) (picture : Picture) (lines : List BatchLine) (last : Entry) → last.actor ≡ Worker number → is_batched last.event ≡ false
    → IsUnbroken (entries_of number picture lines ++ last ∷ [])
batch_unbroken number picture [] last own alone = (λ h. absurd (both_ways (is_batched last.event) alone h), tt)
batch_unbroken number picture (line ∷ lines) last own alone =
    (λ h. batch_goes_on number picture lines last own, batch_unbroken number picture lines last own alone)

-- a worker's entry brings no resource
worker_step : (workers number : ℕ) (world : World) (entry : Entry) → entry.actor ≡ Worker number → MayMake workers entry.actor entry.event → MayStep workers world entry
worker_step workers number world entry own may =
    let none : items_in entry.event ≡ 0 =
    (worker_works workers number entry.event (subst (λ (a : Actor). MayMake workers a entry.event) own may)).items in
    record { allowed = may; room = λ some. absurd (omega (arith, none, some)) }

batch_stepped : (format : Format) (workers number : ℕ) (picture : Picture) (lines : List BatchLine) (last : Entry) (world : World)
    → last.actor ≡ Worker number → RunsFrom format workers world (entries_of number picture lines ++ last ∷ [])
    → HaveStepped format workers world (entries_of number picture lines ++ last ∷ [])
batch_stepped format workers number picture [] last world own run = (worker_step workers number world last own run.0, tt)
batch_stepped format workers number picture (line ∷ lines) last world own run = (
  worker_step workers number world _ refl run.0,
  batch_stepped format workers number picture lines last (step format world (Worker number) line.event).0 own run.2,
)

-- the batch and the settle after it are a run from the world in which the worker works
batch_runs : (parts : JournalParts) (worker : WorkerParts) (at n : ℕ) → WorksIn worker (world_now parts) → worker.number < parts.workers
    → RunsFrom parts.format parts.workers (world_now parts) (entries_made worker ++ settle_made worker at n parts ∷ [])
batch_runs parts worker at n works below =
    runs_append parts.format parts.workers (world_now parts) (entries_made worker) (settle_made worker at n parts ∷ [])
    (works.made.answers parts.format parts.workers (world_now parts) below works.has) (below, refl, tt)

-- with them the registry is where the worker has settled
settles_in : (picture : Picture) (proxy : Proxy) (parts : JournalParts) (worker : WorkerParts) (at n : ℕ) → IsRun parts.format parts.workers parts.node parts.journal
    → HaveStepped parts.format parts.workers (opening parts.workers parts.node) parts.journal
    → WorksIn worker (world_now parts) → worker.number < parts.workers
    → picture ≡ last_picture (settle worker.number (world_behind worker parts)).0
    → IsAt proxy (settle worker.number (world_behind worker parts)).0
    → FollowsJournal false picture proxy (with_settled worker at n parts)
settles_in picture proxy parts worker at n run stepped works below latest led =
    let last : Entry = settle_made worker at n parts in
    let more : world_after parts.format (world_now parts) (entries_made worker ++ last ∷ []) ≡ (settle worker.number (world_behind worker parts)).0 =
    world_after-more parts.format (world_now parts) (entries_made worker) last in
    goes_on picture proxy parts (entries_made worker ++ last ∷ []) run stepped (batch_runs parts worker at n works below)
    (batch_unbroken worker.number worker.picture worker.lines last refl refl)
    (batch_stepped parts.format parts.workers worker.number worker.picture worker.lines last (world_now parts) refl (batch_runs parts worker at n works below))
    (latest ∙ ap last_picture (sym more))
    (subst (IsAt proxy) (sym more) led)

-- the settle that was reported is the machine's
pub is_entered : (parts given : JournalParts) (pushed : List Entry) (worker : WorkerParts) (at n : ℕ) (closed moved : List ℕ) (version : ℕ) → given ≡ parts
    → pushed ≡ parts.journal ++ (entries_made worker ++ settle_told worker.number at n closed moved version ∷ [])
    → (settle worker.number (world_behind worker given)).1 ≡ Settled closed moved version
    → pushed ≡ (with_settled worker at n parts).journal
is_entered parts given pushed worker at n closed moved version same pushes answered =
    let machine : (settle worker.number (world_behind worker parts)).1 ≡ Settled closed moved version =
    subst (λ (p : JournalParts). (settle worker.number (world_behind worker p)).1 ≡ Settled closed moved version) same answered in
    pushes
    ∙ ap (λ (answer : Answer). parts.journal ++ (entries_made worker ++ record { actor = Worker worker.number; at = at; step = n; event = Settle; answer = answer } ∷ [])) (sym machine)

-- a batch and a settle that were made on what is known
pub enters_batch : (latest : Picture) (proxy : Proxy) (parts now given : JournalParts) (pushed : List Entry) (worker : WorkerParts) (at n : ℕ) (closed moved : List ℕ) (version : ℕ)
    → IsRun parts.format parts.workers parts.node parts.journal
    → HaveStepped parts.format parts.workers (opening parts.workers parts.node) parts.journal
    → parts ≡ now → given ≡ parts
    → pushed ≡ parts.journal ++ (entries_made worker ++ settle_told worker.number at n closed moved version ∷ [])
    → WorksIn worker (world_now now) → worker.number < now.workers
    → (settle worker.number (world_behind worker given)).1 ≡ Settled closed moved version
    → latest ≡ last_picture (settle worker.number (world_behind worker given)).0
    → IsAt proxy (settle worker.number (world_behind worker given)).0
    → FollowsJournal false latest proxy (record parts { journal = pushed })
enters_batch latest proxy parts now given pushed worker at n closed moved version run stepped view same pushes works below answered last led =
    subst (λ (es : List Entry). FollowsJournal false latest proxy (record parts { journal = es }))
    (sym (is_entered parts given pushed worker at n closed moved version same pushes answered))
    (settles_in latest proxy parts worker at n run stepped
    (subst (λ (p : JournalParts). WorksIn worker (world_now p)) (sym view) works)
    (subst (λ (p : JournalParts). worker.number < p.workers) (sym view) below)
    (subst (λ (p : JournalParts). latest ≡ last_picture (settle worker.number (world_behind worker p)).0) same last)
    (subst (λ (p : JournalParts). IsAt proxy (settle worker.number (world_behind worker p)).0) same led))

-- so the journal has them
pub shows_batch : (parts now given : JournalParts) (pushed : List Entry) (worker : WorkerParts) (at n : ℕ) (closed moved : List ℕ) (version : ℕ)
    → parts ≡ now → given ≡ parts
    → pushed ≡ parts.journal ++ (entries_made worker ++ settle_told worker.number at n closed moved version ∷ [])
    → (settle worker.number (world_behind worker given)).1 ≡ Settled closed moved version
    → record parts { journal = pushed } ≡ with_settled worker at n now
shows_batch parts now given pushed worker at n closed moved version view same pushes answered =
    ap (λ (es : List Entry). record parts { journal = es }) (is_entered parts given pushed worker at n closed moved version same pushes answered)
    ∙ ap (with_settled worker at n) view

-- in the world after more entries there are as many workers as the journal's
pub known_after : (parts : JournalParts) (number : ℕ) (here : World) (entries : List Entry)
    → here ≡ world_after parts.format (world_now parts) entries → number < parts.workers → number < length here.held
known_after parts number here entries is below =
    subst (λ (w : World). number < length w.held) (sym is) (subst (λ n. number < n) (sym (held_now parts entries)) below)

-- what a batch leads to, where its worker works in the world before it
pub leads_behind : (proxy : Proxy) (parts : JournalParts) (worker : WorkerParts) (here behind : World) (number : ℕ) (lines : List BatchLine)
    → number ≡ worker.number → lines ≡ worker.lines → here ≡ world_now parts → behind ≡ world_behind worker parts → WorksIn worker here
    → ((format : Format) (picture : Picture) → AreAnswered format number here lines → IsAt proxy (world_after format here (entries_of number picture lines)))
    → IsAt proxy behind
leads_behind proxy parts worker here behind number lines own same is there works leads =
    let chosen : AreAnswered parts.format worker.number here worker.lines = works.made.chosen parts.format here works.has in
    let answered : AreAnswered parts.format number here lines =
    subst (λ (n : ℕ). AreAnswered parts.format n here lines) (sym own)
    (subst (λ (ls : List BatchLine). AreAnswered parts.format worker.number here ls) (sym same) chosen) in
    let path : world_after parts.format here (entries_of number worker.picture lines) ≡ world_behind worker parts =
    (λ i. world_after parts.format (is i) (entries_of (own i) worker.picture (same i))) in
    subst (IsAt proxy) (path ∙ sym there) (leads parts.format worker.picture answered)

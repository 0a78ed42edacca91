-- What is accepted at a cluster that waits for its secrets.
use Rattle.std.specs.Prelude.{◌≡◌, ℕ, ◌+◌, ◌<◌, true, false, List, [], ◌∷◌, ◌++◌, length, take, Contains, Some, None, option_and_then, slice_get, codes}
use Rattle.serde_json.specs.Data.{Data}
use Rattle.ev_types.specs.Scripts.{IsScript, ScriptParts}
use Rattle.ev_types.specs.declared.events.Actor.{Actor}
use Rattle.ev_types.specs.declared.events.Actor.TheVariants.{Stream}
use Rattle.ev_types.specs.declared.events.Answer.{Answer}
use Rattle.ev_types.specs.declared.events.Answer.TheVariants.{Replied}
use Rattle.ev_types.specs.declared.events.Entry.{Entry}
use Rattle.ev_types.specs.declared.events.Event.{Event}
use Rattle.ev_types.specs.declared.events.Profile.{Profile}
use Rattle.ev_types.specs.declared.journals.Format.{Format}
use Rattle.ev_types.specs.Profiles.{is_envoy}
use Rattle.ev_model.specs.Entries.{MadeRow, made_in, made_rows}
use Rattle.ev_model.specs.Laws.{Accepts}
use Rattle.ev_model.specs.Operations.{IsRunOf}
use Rattle.ev_script.specs.declared.trees.ScriptTrees.{ScriptTrees}
use Rattle.ev_expand.specs.Fronts.{event_of, stream_at}
use Rattle.ev_expand.specs.Guarding.{body_in, clusters_in}
use Rattle.ev_expand.specs.Private.{first_use}
use Rattle.ev_expand.specs.Said.{expanded_script, lines_in}
use Rattle.ev_expand.specs.Runs.{place_given, run_told}
use Rattle.ev_tls.specs.declared.awaited.Awaited.TheVariants.{Secret}
use Rattle.ev_tls.specs.References.{references_of}
use Rattle.ev_tls.specs.Sealing.{tls_rules}
use Rattle.ev_tls.specs.Told.{told_by}

-- the script that the command writes
abbrev pub sealed_script : ScriptTrees → ScriptParts
sealed_script trees = expanded_script (tls_rules trees.header.profile) trees

-- ---- the input. Its lines are counted from 0, after its header.

-- A resource of clusters, by its place among those of a line, names the secret. As Envoy reads a script its clusters
-- wait for their secrets by themselves, and stay as they are.
pub record NamesSecret (profile : Profile) (lines : List Data) (index item : ℕ) (secret : List ℕ) : Type 0 where
  pub line : Data
  pub there : slice_get lines index ≡ Some line
  pub resource : Data
  pub stands : slice_get (clusters_in profile line) item ≡ Some resource
  pub named : Contains (references_of (body_in resource)) secret
  pub guarded : is_envoy profile ≡ false

-- the secret comes with the line, where a stream is open
pub record TellsOf (profile : Profile) (lines : List Data) (index : ℕ) (secret : List ℕ) : Type 0 where
  pub line : Data
  pub there : slice_get lines index ≡ Some line
  pub connected : stream_at profile (take (index + 1) lines) ≡ true
  pub tells : Contains (told_by profile line) (Secret secret)

-- ---- the journal

-- the entry at a place of a journal is the stream's, by what a line of the input became in the text
pub record IsByLine (profile : Profile) (journal : List Entry) (place : ℕ) (lines : List Data) (index : ℕ) : Type 0 where
  pub entry : Entry
  pub there : slice_get journal place ≡ Some entry
  pub by : entry.actor ≡ Stream
  pub at : entry.at ≡ place_given (tls_rules profile) lines index
  pub own : entry.step ≡ 0

-- what an event makes by the verdicts on the first n of its resources
abbrev pub made_by_first : ℕ → Event → Answer → List MadeRow
made_by_first count event (Replied requests verdicts) = made_in event (Replied requests (take count verdicts))
made_by_first count event answer = []

-- A resource, by its place in a line of the input, made the generation of this number: the entry by what the line
-- became makes one more with the verdict on it, and the number is one above how many were made before, by earlier
-- entries and earlier resources.
pub record IsMadeOf (profile : Profile) (journal : List Entry) (number : ℕ) (lines : List Data) (index item : ℕ) : Type 0 where
  pub place : ℕ
  pub by : IsByLine profile journal place lines index
  pub row : MadeRow
  pub made : made_by_first (item + 1) by.entry.event by.entry.answer ≡ made_by_first item by.entry.event by.entry.answer ++ row ∷ []
  pub numbered : number ≡ length (made_rows (take place journal)) + length (made_by_first item by.entry.event by.entry.answer) + 1

-- what the line became comes before place k of the journal, with the line's event
pub record StandsBefore (profile : Profile) (journal : List Entry) (k : ℕ) (lines : List Data) (index : ℕ) : Type 0 where
  pub place : ℕ
  pub earlier : place < k
  pub by : IsByLine profile journal place lines index
  pub says : option_and_then (event_of profile) (slice_get lines index) ≡ Some by.entry.event

-- the secret has come before place k of the journal, by a line of the input
pub record WasTold (profile : Profile) (journal : List Entry) (k : ℕ) (lines : List Data) (secret : List ℕ) : Type 0 where
  pub index : ℕ
  pub told : TellsOf profile lines index secret
  pub before : StandsBefore profile journal k lines index

-- ---- the law

-- where a generation is accepted, each secret has come that the resource names which made it
abbrev pub IsSealed : Format → ScriptTrees → List Entry → Type 0
IsSealed format trees journal =
    (k : ℕ) (worker : Actor) (number index item : ℕ) (secret : List ℕ)
    → Accepts (run_told format (sealed_script trees) journal) k worker number
    → IsMadeOf trees.header.profile journal number (lines_in trees) index item
    → NamesSecret trees.header.profile (lines_in trees) index item secret
    → WasTold trees.header.profile journal k (lines_in trees) secret

-- so is every run of the script that is written, where no line of the input uses a private name
abbrev pub Sealed : Type 0
Sealed =
    (trees : ScriptTrees) (format : Format) (journal : List Entry)
    → first_use trees.header.profile (codes "tls/") (lines_in trees) ≡ None
    → IsScript (sealed_script trees)
    → IsRunOf format (sealed_script trees) journal
    → IsSealed format trees journal

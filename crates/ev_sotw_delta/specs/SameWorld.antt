-- A replay of the state of the world is the same world.
use Rattle.std.specs.Prelude.{◌≡◌, ℕ, ◌+◌, Bool, true, false, List, slice_get, take, Some, Ok}
use Rattle.ev_types.specs.Items.{ResponseParts}
use Rattle.ev_types.specs.Scripts.{IsScript, ScriptParts}
use Rattle.ev_types.specs.Kinds.{is_by_name}
use Rattle.ev_types.specs.declared.contents.Kind.{Kind}
use Rattle.ev_types.specs.declared.events.Answer.{Answer}
use Rattle.ev_types.specs.declared.events.Answer.TheVariants.{Replied}
use Rattle.ev_types.specs.declared.events.Entry.{Entry}
use Rattle.ev_types.specs.declared.events.Event.TheVariants.{Response}
use Rattle.ev_types.specs.declared.journals.Format.{Format}
use Rattle.ev_model.specs.Live.{lives_of}
use Rattle.ev_model.specs.Operations.{IsRunOf}
use Rattle.ev_model.specs.Runs.{world_at}
use Rattle.ev_model.specs.Warming.{value_of}
use Rattle.ev_model.specs.Watching.{is_watched, watched_of}
use Rattle.ev_script.specs.declared.trees.ScriptTrees.{ScriptTrees}
use Rattle.ev_script.specs.Faults.{Input}
use Rattle.ev_script.specs.ReadTrees.{IsTreesAnswer}
use Rattle.ev_model_laws.specs.Watches.{has_live, has_item}
use Rattle.ev_sotw.specs.Lines.{sotw_lines}
use Rattle.ev_sotw.specs.Stated.{Stated, names_asked}
use Rattle.ev_sotw_delta.specs.DeltaText.{delta_script}
use Rattle.ev_sotw_delta.specs.Watches.{entries_in}

-- it is the answer to a response that was replied to
abbrev pub is_replied : Answer → Bool
is_replied (Replied requests verdicts) = true
is_replied answer = false

-- the entry at this place of a journal answers a response of this kind
pub record AnswersAt (journal : List Entry) (k : ℕ) (kind : Kind) (response : ResponseParts) : Type 0 where
  pub entry : Entry
  pub here : slice_get journal k ≡ Some entry
  pub event : entry.event ≡ Response response
  pub typed : response.kind ≡ Some kind
  pub answered : is_replied entry.answer ≡ true

-- What a run of a script shows of its responses and requests. `named`: after an answered response of clusters or
-- listeners each live generation of that kind has a name that is in it. `stays`: one of a type that is asked for by
-- name leaves the value of each name that is watched after it, and that it doesn't name. `asked`: while a stream is
-- open, the names that a request lists are all that are watched after its entry, whatever versions the entries have.
pub record IsSameWorld (format : Format) (script : ScriptParts) (journal : List Entry) : Type 0 where
  pub named : (k : ℕ) (kind : Kind) (response : ResponseParts) (name : List ℕ) → AnswersAt journal k kind response → is_by_name kind ≡ false
      → has_live (world_at format script.workers script.node journal (k + 1)) kind name ≡ true → has_item response name ≡ true
  pub stays : (k : ℕ) (kind : Kind) (response : ResponseParts) (name : List ℕ) → AnswersAt journal k kind response → is_by_name kind ≡ true
      → is_watched (lives_of (world_at format script.workers script.node journal (k + 1))) kind name ≡ true → has_item response name ≡ false
      → value_of (world_at format script.workers script.node journal (k + 1)) kind name ≡ value_of (world_at format script.workers script.node journal k) kind name
  pub asked : (k : ℕ) (kind : Kind) (stated : List Stated) → entries_in stated ≡ journal → is_by_name kind ≡ true
      → (world_at format script.workers script.node journal (k + 1)).stream ≡ true
      → names_asked kind (take (k + 1) stated) ≡ watched_of (world_at format script.workers script.node journal (k + 1)) kind

-- so is every run of the script that is written for these trees
abbrev pub RunsAreSameWorld : ScriptTrees → Type 0
RunsAreSameWorld trees =
    (format : Format) (journal : List Entry) → IsScript (delta_script trees) → IsRunOf format (delta_script trees) journal
    → IsSameWorld format (delta_script trees) journal

-- every run of the script that is written for a script of the state of the world,
-- whose trees were read without a fault, is so
abbrev pub SameWorld : Type 0
SameWorld =
    (input : Input) (trees : ScriptTrees) (format : Format) (journal : List Entry)
    → IsTreesAnswer sotw_lines input (Ok trees) → IsScript (delta_script trees) → IsRunOf format (delta_script trees) journal
    → IsSameWorld format (delta_script trees) journal

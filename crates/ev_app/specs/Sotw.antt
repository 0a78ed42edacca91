-- The text that answers a script whose responses are those of the state of the world: the journal of the replay of the
-- incremental script that says the same, with the requests of the state of the world. Journals are of format 2.
use Rattle.std.specs.Prelude.{ℕ, ◌≡◌, false, List, map, ⊤, Some, Result, Ok, Err}
use Rattle.ev_io.specs.declared.faults.ScriptFault.{ScriptFault}
use Rattle.ev_io.specs.declared.faults.ScriptFault.TheVariants.{Bad, Read, OutOfMemory as lacks_memory}
use Rattle.ev_types.specs.Scripts.{IsScript, ScriptParts}
use Rattle.ev_types.specs.declared.events.Entry.{Entry}
use Rattle.ev_types.specs.declared.journals.Format.TheVariants.{Two}
use Rattle.ev_model.specs.Laws.{Laws}
use Rattle.ev_model.specs.Operations.{IsReplay}
use Rattle.ev_script.specs.Script.{script_of}
use Rattle.ev_script.specs.declared.trees.ScriptTrees.{ScriptTrees}
use Rattle.ev_sotw.specs.Lines.{sotw_lines}
use Rattle.ev_expand.specs.Said.{lines_in}
use Rattle.ev_sotw_delta.specs.DeltaText.{written_of, delta_script, FitsInput, IsFirstTooLarge}
use Rattle.ev_sotw_delta.specs.declared.writing.Delta.{Delta}
use Rattle.ev_sotw.specs.Text.{stated_in, sotw_text, versions_in}
use Rattle.ev_sotw_delta.specs.SameWorld.{IsSameWorld, RunsAreSameWorld}
use Rattle.ev_app.specs.declared.status.Status.TheVariants.{Done}
use Rattle.ev_app.specs.declared.made.Made.{Made}
use Rattle.ev_app.specs.Trees.{AreTreesOf}

-- the journal is that of the replay of the script that says the same,
-- which is within the bounds of scripts; it has the laws, and is the same world
pub record IsSotwJournal (script : ScriptParts) (journal : List Entry) : Type 0 where
  pub kept : IsScript script
  pub replay : IsReplay Two script journal
  pub laws : Laws record { format = Two; workers = script.workers; node = script.node; journal = journal }
  pub same : IsSameWorld Two script journal

-- the text is that of this journal, with the requests of the state of the world;
-- every run of the script is the same world
pub record IsSotwText (trees : ScriptTrees) (text : List ℕ) : Type 0 where
  pub journal : List Entry
  pub replayed : IsSotwJournal (delta_script trees) journal
  pub rendered : text ≡ sotw_text (delta_script trees).workers (map (stated_in trees.header.profile (lines_in trees)) journal)
  pub worlds : RunsAreSameWorld trees

-- the bytes are a script of the state of the world, and the text answers it
pub record IsSotw (bytes text : List ℕ) : Type 0 where
  pub trees : ScriptTrees
  pub reads : AreTreesOf sotw_lines bytes trees
  pub answers : IsSotwText trees text

-- the bytes are a script of the state of the world, and the incremental script
-- that says the same is too large to be an input: a fault at the first line with which it is, of kind 10
pub record GrowsTooLarge (bytes : List ℕ) (line number : ℕ) : Type 0 where
  pub trees : ScriptTrees
  pub reads : AreTreesOf sotw_lines bytes trees
  pub large : IsFirstTooLarge (written_of trees) line
  pub numbered : number ≡ 10

-- the text is that of the script that says the same, which is an input, with the versions of its responses
pub record IsDelta (trees : ScriptTrees) (delta : Delta) : Type 0 where
  pub fits : FitsInput (written_of trees)
  pub script : script_of false delta.text.items ≡ Some (delta_script trees)
  pub versions : delta.versions.items ≡ versions_in trees.header.profile (lines_in trees)

-- that text, or why there is none
abbrev pub IsDeltaAnswer : ScriptTrees → Result Delta ScriptFault → Type 0
IsDeltaAnswer trees (Ok delta) = IsDelta trees delta
IsDeltaAnswer trees (Err (Bad line number)) = IsFirstTooLarge (written_of trees) line × (number ≡ 10)
IsDeltaAnswer trees (Err Read) = ⊥
IsDeltaAnswer trees (Err lacks_memory) = ⊤

-- what is made of trees, or why nothing is
abbrev pub IsSotwAnswer : ScriptTrees → Result Made ScriptFault → Type 0
IsSotwAnswer trees (Ok made) = FitsInput (written_of trees) × (made.status ≡ Done) × IsSotwText trees made.text.items
IsSotwAnswer trees (Err (Bad line number)) = IsFirstTooLarge (written_of trees) line × (number ≡ 10)
IsSotwAnswer trees (Err Read) = ⊥
IsSotwAnswer trees (Err lacks_memory) = ⊤

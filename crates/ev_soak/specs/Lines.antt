-- The line that reports a soak: what the journal of its script's replay counts up to.
use Rattle.std.specs.Prelude.{ℕ, ◌≡◌, ◌+◌, List, [], ◌∷◌, ◌++◌, length, codes}
use Rattle.serde_json.specs.Data.{Data, number, unsigned, object, member, no_members}
use Rattle.serde_json.specs.Written.{compact_text}
use Rattle.ev_types.specs.Scripts.{IsScript, ScriptParts}
use Rattle.ev_types.specs.declared.events.Entry.{Entry}
use Rattle.ev_types.specs.declared.journals.Format.TheVariants.{Two}
use Rattle.ev_model.specs.Dead.{last_picture}
use Rattle.ev_model.specs.Laws.{Laws, Told}
use Rattle.ev_model.specs.Operations.{IsReplay}
use Rattle.ev_model.specs.Runs.{world_after}
use Rattle.ev_model.specs.World.{opening}
use Rattle.ev_tally.specs.Tallies.{tally_of}
use Rattle.ev_soak.specs.Soak.{soak_script}

-- a number as data
abbrev pub number_tree : ℕ → Data
number_tree n = number (unsigned n)

-- how many entries the journal has and how many lines its script,
-- how many numbers were reaped and connections served, and the version of the last picture
abbrev pub soak_tree : ℕ → List Entry → ℕ → Data
soak_tree lines journal version = object
    (member (codes "entries") (number_tree (length journal))
    (member (codes "lines") (number_tree lines)
    (member (codes "reaped") (number_tree (tally_of journal).reaped)
    (member (codes "served") (number_tree (tally_of journal).served)
    (member (codes "version") (number_tree version) no_members)))))

-- the line
unfoldable pub soak_line : ℕ → List Entry → ℕ → List ℕ
soak_line lines journal version = compact_text (soak_tree lines journal version) ++ 10 ∷ []

-- the version of the last picture after a script's journal, by the rules of format 2
abbrev pub version_behind : ScriptParts → List Entry → ℕ
version_behind script journal = (last_picture (world_after Two (opening script.workers script.node) journal)).version

-- a journal of the script's workers and node, by the rules of format 2, as the laws of runs speak of it
abbrev pub told_of : ScriptParts → List Entry → Told
told_of script journal = record { format = Two; workers = script.workers; node = script.node; journal = journal }

-- the text is the line of this seed's script, which has this many lines after its header
-- and is within the bounds of scripts; the journal that it counts up has the laws
pub record IsSoakText (seed count : ℕ) (text : List ℕ) : Type 0 where
  pub kept : IsScript (soak_script seed count)
  pub journal : List Entry
  pub replay : IsReplay Two (soak_script seed count) journal
  pub laws : Laws (told_of (soak_script seed count) journal)
  pub line : text ≡ soak_line (count + 1) journal (version_behind (soak_script seed count) journal)

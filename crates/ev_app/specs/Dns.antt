-- The text that answers a script with resolutions, whose clusters wait for the addresses of their hosts.
use Rattle.std.specs.Prelude.{◌≡◌, ℕ, List, Result, Ok, Err, ⊤}
use Rattle.ev_io.specs.declared.faults.ScriptFault.{ScriptFault}
use Rattle.ev_io.specs.declared.faults.ScriptFault.TheVariants.{Bad, Read, OutOfMemory as lacks_memory}
use Rattle.ev_script.specs.declared.trees.ScriptTrees.{ScriptTrees}
use Rattle.ev_types.specs.declared.events.Entry.{Entry}
use Rattle.ev_types.specs.declared.journals.Format.{Format}
use Rattle.ev_model.specs.Operations.{IsRunOf}
use Rattle.ev_dns.specs.Lines.{dns_lines}
use Rattle.ev_dns.specs.Resolving.{dns_rules}
use Rattle.ev_dns.specs.LastAnswers.{AreLastAnswers, answered_script}
use Rattle.ev_app.specs.declared.status.Status.TheVariants.{Done}
use Rattle.ev_app.specs.declared.made.Made.{Made}
use Rattle.ev_app.specs.Trees.{AreTreesOf}
use Rattle.ev_app.specs.Expansions.{HasText, IsTextBy, IsUnmade}

-- what is reported of endpoints in the runs of the script that is written is by the last answers
abbrev pub TellsLastAnswers : ScriptTrees → Type 0
TellsLastAnswers trees =
    (format : Format) (journal : List Entry) → IsRunOf format (answered_script trees) journal → AreLastAnswers format trees journal

-- the text is that of a script of these trees, and its runs report the last answers
pub record IsDnsText (trees : ScriptTrees) (text : List ℕ) : Type 0 where
  pub made : IsTextBy (dns_rules trees.header.profile) trees text
  pub last : TellsLastAnswers trees

-- the bytes are a script with resolutions, and the text answers it
pub record IsDns (bytes text : List ℕ) : Type 0 where
  pub trees : ScriptTrees
  pub reads : AreTreesOf dns_lines bytes trees
  pub answers : IsDnsText trees text

-- what is made of trees, or why nothing is
abbrev pub IsDnsAnswer : ScriptTrees → Result Made ScriptFault → Type 0
IsDnsAnswer trees (Ok made) = HasText (dns_rules trees.header.profile) trees × (made.status ≡ Done) × IsDnsText trees made.text.items
IsDnsAnswer trees (Err (Bad line number)) = IsUnmade (dns_rules trees.header.profile) trees line number
IsDnsAnswer trees (Err Read) = ⊥
IsDnsAnswer trees (Err lacks_memory) = ⊤

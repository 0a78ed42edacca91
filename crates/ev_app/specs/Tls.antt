-- The text that answers a script whose clusters wait for their secrets.
use Rattle.std.specs.Prelude.{◌≡◌, ℕ, List, Result, Ok, Err, ⊤}
use Rattle.ev_io.specs.declared.faults.ScriptFault.{ScriptFault}
use Rattle.ev_io.specs.declared.faults.ScriptFault.TheVariants.{Bad, Read, OutOfMemory as lacks_memory}
use Rattle.ev_script.specs.declared.trees.ScriptTrees.{ScriptTrees}
use Rattle.ev_script.specs.Faults.{plain_lines}
use Rattle.ev_types.specs.declared.events.Entry.{Entry}
use Rattle.ev_types.specs.declared.journals.Format.{Format}
use Rattle.ev_model.specs.Operations.{IsRunOf}
use Rattle.ev_tls.specs.Sealing.{tls_rules}
use Rattle.ev_tls.specs.Sealed.{IsSealed, sealed_script}
use Rattle.ev_app.specs.declared.status.Status.TheVariants.{Done}
use Rattle.ev_app.specs.declared.made.Made.{Made}
use Rattle.ev_app.specs.Trees.{AreTreesOf}
use Rattle.ev_app.specs.Expansions.{HasText, IsTextBy, IsUnmade}

-- what is accepted in the runs of the script that is written is sealed
abbrev pub AreSealed : ScriptTrees → Type 0
AreSealed trees =
    (format : Format) (journal : List Entry) → IsRunOf format (sealed_script trees) journal → IsSealed format trees journal

-- the text is that of a script of these trees, and what is accepted in its runs is sealed
pub record IsTlsText (trees : ScriptTrees) (text : List ℕ) : Type 0 where
  pub made : IsTextBy (tls_rules trees.header.profile) trees text
  pub sealed : AreSealed trees

-- the bytes are a script, and the text answers it
pub record IsTls (bytes text : List ℕ) : Type 0 where
  pub trees : ScriptTrees
  pub reads : AreTreesOf plain_lines bytes trees
  pub answers : IsTlsText trees text

-- what is made of trees, or why nothing is
abbrev pub IsTlsAnswer : ScriptTrees → Result Made ScriptFault → Type 0
IsTlsAnswer trees (Ok made) = HasText (tls_rules trees.header.profile) trees × (made.status ≡ Done) × IsTlsText trees made.text.items
IsTlsAnswer trees (Err (Bad line number)) = IsUnmade (tls_rules trees.header.profile) trees line number
IsTlsAnswer trees (Err Read) = ⊥
IsTlsAnswer trees (Err lacks_memory) = ⊤

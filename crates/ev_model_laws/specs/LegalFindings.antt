-- A finding is legal exactly where the rows are those of a run that holds each actor's operations in order.
use Rattle.std.specs.Prelude.{◌≡◌, ◌↔◌, List, map}
use Rattle.ev_types.specs.Scripts.{ScriptParts, IsScript}
use Rattle.ev_types.specs.declared.events.Entry.{Entry}
use Rattle.ev_types.specs.declared.journals.Format.{Format}
use Rattle.ev_types.specs.declared.journals.Row.{Row}
use Rattle.ev_types.specs.declared.journals.Finding.TheVariants.{Legal}
use Rattle.ev_model.specs.Operations.{IsRunOf}
use Rattle.ev_model.specs.Finding.{row_of, finding_of}

-- the rows are those of a run of the machine, which holds each actor's operations of the script,
-- by the rules of the format
pub record IsLegalJournal (format : Format) (script : ScriptParts) (rows : List Row) : Type 0 where
  pub journal : List Entry
  pub run_of : IsRunOf format script journal
  pub told : map row_of journal ≡ rows

-- rows are found legal exactly where they are those of such a run
abbrev pub LegalExactly : Type 0
LegalExactly =
    (format : Format) (script : ScriptParts) (rows : List Row)
    → IsScript script
    → (finding_of format script rows ≡ Legal) ↔ IsLegalJournal format script rows

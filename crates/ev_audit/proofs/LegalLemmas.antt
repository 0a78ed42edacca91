-- What a legal finding says.
use Rattle.std.proofs.Common.{◌≡◌, List}
use Rattle.ev_types.specs.Scripts.{ScriptParts, IsScript}
use Rattle.ev_types.specs.declared.journals.Format.{Format}
use Rattle.ev_types.specs.declared.journals.Row.{Row}
use Rattle.ev_types.specs.declared.journals.Finding.TheVariants.{Legal}
use Rattle.ev_model.specs.Finding.{finding_of}
use Rattle.ev_model_laws.specs.LegalFindings.{IsLegalJournal}
use Rattle.ev_model_laws.proofs.AllLaws.{all_laws}
use Rattle.ev_model_laws.proofs.FindingLemmas.{found_exactly}
use Rattle.ev_audit.specs.Audits.{HasLegalJournal}

pub has_legal : (format : Format) (script : ScriptParts) → IsScript script → (rows : List Row) → finding_of format script rows ≡ Legal
    → HasLegalJournal format script rows
has_legal format script kept rows found =
    let legal : IsLegalJournal format script rows = (found_exactly format script rows kept).0 found in
    record {
      legal = legal;
      laws = all_laws (record { format = format; workers = script.workers; node = script.node; journal = legal.journal }) legal.run_of.run.answers;
    }

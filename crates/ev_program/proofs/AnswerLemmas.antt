-- The status that goes with an answer.
use Rattle.std.proofs.Common.{◌≡◌, ℕ, List, ◌⊎◌, inl, inr, sym, subst}
use Rattle.std.specs.Io.KnownBytes.{append_known}
use Rattle.ev_types.specs.Scripts.{ScriptParts}
use Rattle.ev_types.specs.declared.journals.Finding.{Finding}
use Rattle.ev_types.specs.declared.journals.Finding.TheVariants.{Legal, IllegalAt, NotTheScript}
use Rattle.ev_types.specs.declared.journals.Format.{Format}
use Rattle.ev_types.specs.declared.journals.Row.{Row}
use Rattle.ev_model.specs.Finding.{finding_of}
use Rattle.ev_app.specs.Audits.{status_found}
use Rattle.ev_app.specs.Dumps.{IsDumpText}
use Rattle.ev_app.specs.declared.commands.Command.{Command}
use Rattle.ev_app.specs.declared.commands.Command.TheVariants.{Replay, Run, Audit, Soak, Tls, Dns, Chains, Sotw, Dump}
use Rattle.ev_app.specs.declared.status.Status.{Status}
use Rattle.ev_app.specs.declared.status.Status.TheVariants.{Done, Illegal, OutOfMemory}
use Rattle.ev_app.specs.Texts.{Answers, IsAnswered}
use Rattle.ev_program.specs.Status.{Outside, WritesWell, Makes, Ends}

-- what is found goes with one of both
by_finding : {status : Status} (finding : Finding) → status ≡ status_found finding → (status ≡ Done) ⊎ (status ≡ Illegal)
by_finding Legal e = inl e
by_finding (IllegalAt entry) e = inr e
by_finding (NotTheScript entry) e = inr e

by_dump : {format : Format} {script : ScriptParts} {rows : List Row} {entries : ℕ} {status : Status} {text : List ℕ} → IsDumpText format script rows entries status text → (status ≡ Done) ⊎ (status ≡ Illegal)
by_dump (inl dumped) = inl dumped.0
by_dump (inr wrong) = inr wrong.0

audit_answered : {status : Status} → (status ≡ Done) ⊎ (status ≡ Illegal) → (status ≡ Done) ⊎ ((status ≡ Illegal) ⊎ (status ≡ OutOfMemory))
audit_answered (inl e) = inl e
audit_answered (inr e) = inr (inl e)

-- it is Done or Illegal
done_or_illegal : (command : Command) (bytes : List ℕ) (status : Status) (text : List ℕ) → Answers command bytes status text → (status ≡ Done) ⊎ (status ≡ Illegal)
done_or_illegal Replay bytes status text is = inl is.0
done_or_illegal Run bytes status text is = inl is.0
done_or_illegal Audit bytes status text is = by_finding (finding_of is.format is.script is.rows) is.audited.goes
done_or_illegal Tls bytes status text is = inl is.0
done_or_illegal Dns bytes status text is = inl is.0
done_or_illegal Chains bytes status text is = inl is.0
done_or_illegal Sotw bytes status text is = inl is.0
done_or_illegal (Dump entries) bytes status text is = by_dump is.dumped
done_or_illegal (Soak seed count) bytes status text is = inl is.0

-- it is one of the command's own
pub answered : (command : Command) (bytes : List ℕ) (status : Status) (text : List ℕ) → Answers command bytes status text → IsAnswered command status
answered Replay bytes status text is = inl is.0
answered Run bytes status text is = inl is.0
answered Audit bytes status text is = audit_answered (by_finding (finding_of is.format is.script is.rows) is.audited.goes)
answered Tls bytes status text is = inl is.0
answered Dns bytes status text is = inl is.0
answered Chains bytes status text is = inl is.0
answered Sotw bytes status text is = inl is.0
answered (Dump entries) bytes status text is = audit_answered (by_dump is.dumped)
answered (Soak seed count) bytes status text is = inl is.0

-- the whole text was written
pub written_ends : (command : Command) (outside : Outside) (status : Status) (text : List ℕ) → Makes command outside status text
    → outside.written_after ≡ append_known outside.written_before text → WritesWell outside → Ends status command outside
written_ends command outside status text made appended writes = by_status (done_or_illegal command made.input.bytes status text made.is.answers)
  where
    by_status : (status ≡ Done) ⊎ (status ≡ Illegal) → Ends status command outside
    by_status (inl e) = subst (λ (s : Status). Ends s command outside) (sym e)
        (record { text = text; made = subst (λ (s : Status). Makes command outside s text) e made; appended = appended; writes = writes })
    by_status (inr e) = subst (λ (s : Status). Ends s command outside) (sym e)
        (record { text = text; made = subst (λ (s : Status). Makes command outside s text) e made; appended = appended; writes = writes })

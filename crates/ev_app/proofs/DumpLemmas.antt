-- What a dump makes of what was read.
use Rattle.std.proofs.Common.{◌≡◌, ℕ, Bool, true, false, IsTrue, not, List, Option, Result, Ok, Err, inl, inr, sym, subst}
use Rattle.ev_io.specs.declared.faults.ScriptFault.{ScriptFault}
use Rattle.ev_io.specs.declared.faults.ScriptFault.TheVariants.{Bad, Read, OutOfMemory as lacks_memory}
use Rattle.ev_types.specs.Scripts.{ScriptParts, IsScript}
use Rattle.ev_types.specs.declared.journals.Format.{Format}
use Rattle.ev_types.specs.declared.journals.Row.{Row}
use Rattle.ev_audit_input.specs.declared.audited.Audited.{Audited}
use Rattle.ev_audit_input.specs.Parts.{IsParts, ReadsAuditInput}
use Rattle.ev_dump.specs.Dumps.{DumpsByPrefix, IsNoCommit}
use Rattle.ev_dump.specs.Fronts.{ends_commit}
use Rattle.ev_app.specs.declared.commands.Command.TheVariants.{Dump}
use Rattle.ev_app.specs.declared.made.Made.{Made}
use Rattle.ev_app.specs.declared.status.Status.{Status}
use Rattle.ev_app.specs.declared.status.Status.TheVariants.{Done}
use Rattle.ev_app.specs.Dumps.{IsDumpText, IsDumpAnswer, IsDumpByPrefix, EndsNoCommit}
use Rattle.ev_app.specs.Texts.{IsMadeBy}
use Rattle.ev_app.proofs.AuditLemmas.{taken, dump_fault}
use Rattle.ev_app.proofs.PartsLemmas.{ArePartsOf, one_parts}

not_both : (b : Bool) → IsTrue b → IsTrue (not b) → ⊥
not_both true holds fails = let f : false ≡ true = fails in cc
not_both false holds fails = let f : false ≡ true = holds in cc

-- where a text answers this many entries, a commit ends with them, or the rows aren't legal
is_no_late : (format : Format) (script : ScriptParts) (rows : List Row) (entries line : ℕ) (status : Status) (text : List ℕ) → IsDumpText format script rows entries status text
    → IsNoCommit format script rows entries line → ⊥
is_no_late format script rows entries line status text (inl dumped) none = not_both (ends_commit rows entries) dumped.1.ends none.goes_on
is_no_late format script rows entries line status text (inr wrong) none = wrong.1.wrong none.legal

no_late : (bytes : List ℕ) (format : Format) (script : ScriptParts) (rows : List Row) (entries : ℕ) (status : Status) (text : List ℕ) → IsScript script → IsParts bytes format script rows
    → IsDumpText format script rows entries status text → (line number : ℕ) → EndsNoCommit entries bytes line number → ⊥
no_late bytes format script rows entries status text kept parts told line number late =
    let same : ArePartsOf format late.format script late.script rows late.rows = one_parts bytes format late.format script late.script rows late.rows kept parts late.parts in
    is_no_late format script rows entries line status text told
    (subst (λ (f : Format). IsNoCommit f script rows entries line) (sym same.formats)
    (subst (λ (s : ScriptParts). IsNoCommit late.format s rows entries line) (sym same.scripts)
    (subst (λ (rs : List Row). IsNoCommit late.format late.script rs entries line) (sym same.same) late.none)))

-- each legal journal that agrees in these entries has the dump
by_prefix : (format : Format) (script : ScriptParts) (rows : List Row) (entries : ℕ) (status : Status) (text : List ℕ) → DumpsByPrefix → IsScript script
    → IsDumpText format script rows entries status text → status ≡ Done → IsDumpByPrefix format script rows entries text
by_prefix format script rows entries status text law kept (inl dumped) done =
    λ other others another kept_there agree there. law format other script others rows entries another text kept_there kept agree there dumped.1
by_prefix format script rows entries status text law kept (inr wrong) done = absurd (cc (done, wrong.0))

-- the line answers what was read, or no commit ends there
pub dumped : (before after : Option (List ℕ)) (entries : ℕ) (audited : Audited) (result : Result Made ScriptFault) → DumpsByPrefix → IsScript audited.script → ReadsAuditInput before after (Ok audited)
    → IsDumpAnswer audited.format audited.script audited.rows.items entries result → IsMadeBy (Dump entries) before after result
dumped before after entries found (Ok made) law kept read told = record {
  input = read.input;
  takes = taken read;
  is = record {
    ended = read.is.ended;
    sound = record {
      early = read.is.sound;
      late = λ whole line number late. no_late read.input.bytes found.format found.script found.rows.items entries made.status made.text.items kept read.is.parts told line number late;
    };
    answers = record {
      format = found.format;
      script = found.script;
      rows = found.rows.items;
      parts = read.is.parts;
      kept = kept;
      prefix = by_prefix found.format found.script found.rows.items entries made.status made.text.items law kept told;
      dumped = told;
    };
  };
}
dumped before after entries found (Err (Bad line number)) law kept read told = record {
  input = read.input;
  takes = taken read;
  is = inr (read.is.ended, read.is.sound, record { format = found.format; script = found.script; rows = found.rows.items; parts = read.is.parts; none = told.0; numbered = told.1 });
}
dumped before after entries found (Err Read) law kept read told = absurd told
dumped before after entries found (Err lacks_memory) law kept read told = record { input = read.input; takes = taken read; is = tt }

-- nothing was read
pub not_dumped : (before after : Option (List ℕ)) (entries : ℕ) (fault : ScriptFault) → ReadsAuditInput before after (Err fault) → IsMadeBy (Dump entries) before after (Err fault)
not_dumped before after entries (Bad line number) read = record { input = read.input; takes = taken read; is = inl (dump_fault entries read.input line number read.is) }
not_dumped before after entries Read read = record { input = read.input; takes = taken read; is = record { goes_on = read.is.1; sound = read.is.0 } }
not_dumped before after entries lacks_memory read = record { input = read.input; takes = taken read; is = tt }

-- What docs/CLAIMS.md says of the program, out of the clauses of its call and public laws alone.
use Rattle.std.proofs.Common.{◌≡◌, ◌∙◌, ℕ, ◌^◌, ◌<◌, List, take, Some, inl, inr, refl, sym, subst, arith}
use Rattle.ev_types.specs.Scripts.{IsScript, ScriptParts}
use Rattle.ev_types.specs.declared.events.Actor.{Actor}
use Rattle.ev_types.specs.declared.events.Entry.{Entry}
use Rattle.ev_types.specs.declared.journals.Finding.{Finding}
use Rattle.ev_types.specs.declared.journals.Finding.TheVariants.{Legal, IllegalAt, NotTheScript}
use Rattle.ev_types.specs.declared.journals.Format.{Format}
use Rattle.ev_types.specs.declared.journals.Format.TheVariants.{Two}
use Rattle.ev_types.specs.declared.journals.Row.{Row}
use Rattle.ev_model.specs.Finding.{finding_of, journal_told}
use Rattle.ev_model.specs.Operations.{IsRunOf, entries_of, operations_of}
use Rattle.ev_model_laws.specs.LegalFindings.{IsLegalJournal}
use Rattle.ev_model_laws.specs.OneReplay.{HasOneReplay, HoldsOperations, ReplayIsRunOf}
use Rattle.ev_journal_read.specs.OneJournal.{ReadsAsJournal, RendersJournals, RunsHaveRows}
use Rattle.ev_soak.specs.Soak.{soak_script}
use Rattle.ev_soak.specs.Lines.{IsSoakText}
use Rattle.ev_dump.specs.Dumps.{IsDump}
use Rattle.ev_dns.specs.LastAnswers.{AreLastAnswers, answered_script}
use Rattle.ev_tls.specs.Sealed.{IsSealed, sealed_script}
use Rattle.ev_sotw_delta.specs.DeltaText.{delta_script}
use Rattle.ev_sotw_delta.specs.SameWorld.{IsSameWorld}
use Rattle.ev_app.specs.declared.status.Status.TheVariants.{Done, Illegal}
use Rattle.ev_app.specs.Audits.{IsAudited, status_found}
use Rattle.ev_app.specs.Dns.{IsDns}
use Rattle.ev_app.specs.Dumps.{IsDumped, IsDumpText}
use Rattle.ev_app.specs.Replay.{IsReplayOf, IsReplayText}
use Rattle.ev_app.specs.Runs.{IsRunText, IsTextOfRun}
use Rattle.ev_app.specs.Sotw.{IsSotw}
use Rattle.ev_app.specs.Tls.{IsTls}

-- ---- within the bounds of scripts

-- `replay`: the journal holds each actor's operations of the script, in its order
pub replay_holds : HoldsOperations → (bytes text : List ℕ) (is : IsReplayOf bytes text) (actor : Actor) → entries_of is.replayed.journal actor ≡ operations_of is.script actor
replay_holds law bytes text is actor = law Two is.script is.replayed.journal is.kept is.replayed.replay actor

-- so does the one that `soak` counts up
pub soak_holds : HoldsOperations → (seed count : ℕ) (text : List ℕ) (is : IsSoakText seed count text) (actor : Actor) → entries_of is.journal actor ≡ operations_of (soak_script seed count) actor
soak_holds law seed count text is actor = law Two (soak_script seed count) is.journal is.kept is.replay actor

-- and the one of `sotw`
pub sotw_holds : HoldsOperations → (bytes text : List ℕ) (is : IsSotw bytes text) (actor : Actor)
    → entries_of is.answers.journal actor ≡ operations_of (delta_script is.trees) actor
sotw_holds law bytes text is actor = law Two (delta_script is.trees) is.answers.journal is.answers.replayed.kept is.answers.replayed.replay actor

-- `sotw`: every run of the script is the same world
pub every_run_is_same : (bytes text : List ℕ) (is : IsSotw bytes text) (format : Format) (journal : List Entry) → IsRunOf format (delta_script is.trees) journal → IsSameWorld format (delta_script is.trees) journal
every_run_is_same bytes text is format journal run = is.answers.worlds format journal is.answers.replayed.kept run

-- `tls`: every run of the script that is written is sealed
pub every_run_is_sealed : (bytes text : List ℕ) (is : IsTls bytes text) (format : Format) (journal : List Entry) → IsRunOf format (sealed_script is.trees) journal → IsSealed format is.trees journal
every_run_is_sealed bytes text is format journal run = is.answers.sealed format journal run

-- `dns`: in every run of the script that is written endpoints are reported by the last answers
pub every_run_has_last : (bytes text : List ℕ) (is : IsDns bytes text) (format : Format) (journal : List Entry) → IsRunOf format (answered_script is.trees) journal → AreLastAnswers format is.trees journal
every_run_has_last bytes text is format journal run = is.answers.last format journal run

-- ---- findings

found_legal : (finding : Finding) → Done ≡ status_found finding → finding ≡ Legal
found_legal Legal e = refl
found_legal (IllegalAt entry) e = absurd (cc)
found_legal (NotTheScript entry) e = absurd (cc)

not_illegal : (finding : Finding) → Illegal ≡ status_found finding → finding ≡ Legal → ⊥
not_illegal Legal e same = cc
not_illegal (IllegalAt entry) e same = cc
not_illegal (NotTheScript entry) e same = cc

-- `audit` that ends as Done: the rows are those of a run of the script
pub done_is_a_run : (bytes text : List ℕ) (is : IsAudited bytes Done text) → IsLegalJournal is.format is.script is.rows
done_is_a_run bytes text is = is.exactly.0 (found_legal (finding_of is.format is.script is.rows) is.audited.goes)

-- and as Illegal: they are those of no run of it
pub illegal_is_no_run : (bytes text : List ℕ) (is : IsAudited bytes Illegal text) → IsLegalJournal is.format is.script is.rows → ⊥
illegal_is_no_run bytes text is run = not_illegal (finding_of is.format is.script is.rows) is.audited.goes (is.exactly.1 run)

-- ---- the only journal of a text

-- of two calls of `run` with one script and one text both journals are the same
pub one_journal : (script : ScriptParts) (text : List ℕ) (one two : IsRunText script text) → two.journal ≡ one.journal
one_journal script text one two = (one.only Two two.journal two.run two.bounded (sym two.rendered)).1

-- so are those of `run` and of `replay`
pub one_replayed : ReplayIsRunOf → (script : ScriptParts) (text : List ℕ) → IsScript script → (one : IsRunText script text) (two : IsReplayText script text) → two.journal ≡ one.journal
one_replayed law script text kept one two = (one.only Two two.journal (law Two script two.journal kept two.replay) two.bounded (sym two.rendered)).1

-- and those of two calls of `replay`, whatever their texts
pub one_replay : HasOneReplay → (script : ScriptParts) (text other : List ℕ) (one : IsReplayText script text) (two : IsReplayText script other) → one.journal ≡ two.journal
one_replay law script text other one two = law Two script one.journal one.replay ∙ sym (law Two script two.journal two.replay)

-- two calls with one input have one script
pub one_script : (bytes text other : List ℕ) (one : IsTextOfRun bytes text) (two : IsTextOfRun bytes other) → one.script ≡ two.script
one_script bytes text other one two = let e : Some one.script ≡ Some two.script = sym one.reads ∙ two.reads in cc

-- so what one input gave with one text is one journal
pub one_input : (bytes text : List ℕ) (one two : IsTextOfRun bytes text) → two.ran.journal ≡ one.ran.journal
one_input bytes text one two =
    let same : one.script ≡ two.script = one_script bytes text text one two in
    (subst (λ (s : ScriptParts). (ran : IsRunText s text) → ran.journal ≡ one.ran.journal) same (λ ran. one_journal one.script text one.ran ran)) two.ran

-- ---- what was written can be read

few_workers : (script : ScriptParts) → IsScript script → script.workers < 2 ^ 64
few_workers script kept = omega (arith, kept.few_workers)

-- the text of `run` reads as a journal with the rows of its entries
pub run_reads : RunsHaveRows → RendersJournals → (bytes text : List ℕ) (is : IsTextOfRun bytes text) → ReadsAsJournal Two is.script.workers is.ran.journal
run_reads rows renders bytes text is =
    renders Two is.script.workers is.ran.journal (few_workers is.script is.kept) (rows Two is.script.workers is.script.node is.ran.journal is.ran.run.run is.ran.bounded)

-- and so does that of `replay`
pub replay_reads : RunsHaveRows → RendersJournals → (bytes text : List ℕ) (is : IsReplayOf bytes text) → ReadsAsJournal Two is.script.workers is.replayed.journal
replay_reads rows renders bytes text is =
    renders Two is.script.workers is.replayed.journal (few_workers is.script is.kept) (rows Two is.script.workers is.script.node is.replayed.journal is.replayed.replay.run is.replayed.bounded)

-- ---- dumps

dump_told : (format : Format) (script : ScriptParts) (rows : List Row) (entries : ℕ) (text : List ℕ) → IsDumpText format script rows entries Done text → IsDump format script rows entries text
dump_told format script rows entries text (inl dumped) = dumped.1
dump_told format script rows entries text (inr wrong) = absurd (cc (wrong.0))

-- two legal journals of one format that agree in their first n entries give one line
pub one_dump : (entries : ℕ) (bytes others text another : List ℕ) (one : IsDumped entries bytes Done text) (two : IsDumped entries others Done another)
    → two.format ≡ one.format → take entries (journal_told two.script two.rows) ≡ take entries (journal_told one.script one.rows) → another ≡ text
one_dump entries bytes others text another one two same agree =
    one.prefix refl two.script two.rows another two.kept agree
    (subst (λ (f : Format). IsDump f two.script two.rows entries another) same (dump_told two.format two.script two.rows entries another two.dumped))

-- Two runs on one script whose rows record the same are equal: a row gives its operation, and the machine its answer.
use Rattle.std.proofs.Common.{◌≡◌, List, [], ◌∷◌, ◌++◌, map, Option, Some, None, option_map, true, refl, sym, ap, ap₂, ◌∙◌, subst}
use Rattle.ev_types.specs.Scripts.{ScriptParts, IsScript}
use Rattle.ev_types.specs.declared.events.Answer.{Answer}
use Rattle.ev_types.specs.declared.events.Entry.{Entry}
use Rattle.ev_types.specs.declared.journals.Format.{Format}
use Rattle.ev_types.specs.declared.journals.Row.{Row}
use Rattle.ev_model.specs.World.{World}
use Rattle.ev_model.specs.Step.{step}
use Rattle.ev_model.specs.Runs.{world_after}
use Rattle.ev_model.specs.Operations.{Operation, AreDone, operation_of, operations_of, entry_of, IsRunOf}
use Rattle.ev_model.specs.Finding.{row_of, operation_told, entry_told}
use Rattle.ev_model_laws.proofs.OperationLists.{filter_all}
use Rattle.ev_model_laws.proofs.FindingDeeds.{eased, marks, start, fits_done}
use Rattle.ev_model_laws.proofs.FindingRows.{IsAhead, ahead_entry, ahead_more}
use Rattle.ev_journal.specs.Rows.{chosen_row}

-- a run, from its start
all_ahead : (format : Format) (script : ScriptParts) (journal : List Entry) → IsRunOf format script journal → IsAhead format script [] journal
all_ahead format script journal is = record {
  run = is.run.answers;
  follows = tt;
  unbroken = is.run.batches;
  done = λ actor.
      subst (λ os. AreDone (eased format true) os (marks format (start script) journal actor))
      (sym (filter_all (λ (o : Operation). true) (operations_of script actor) (λ o is_in. refl)))
      (fits_done format script journal actor (is.fits actor));
}

abbrev the_operation : Operation → Option Entry → Operation
the_operation o None = o
the_operation o (Some entry) = operation_of entry

told_by : (told : Option Operation) (answer : Answer) (entry : Entry) → option_map (λ o. entry_of o answer) told ≡ Some entry → told ≡ Some (operation_of entry)
told_by None answer entry e = absurd (cc)
told_by (Some o) answer entry e = ap Some (ap (the_operation o) e)

abbrev operation_in : Operation → Option Operation → Operation
operation_in o None = o
operation_in o (Some found) = found

-- rows that are meant as one record one operation
same_operation : (script : ScriptParts) (entry other : Entry) → entry_told script (row_of entry) ≡ Some entry → entry_told script (row_of other) ≡ Some other
    → chosen_row (row_of entry) ≡ chosen_row (row_of other) → operation_of entry ≡ operation_of other
same_operation script entry other one another meant =
    let here : operation_told script (row_of entry) ≡ Some (operation_of entry) = told_by (operation_told script (row_of entry)) entry.answer entry one in
    let there : operation_told script (row_of other) ≡ Some (operation_of other) = told_by (operation_told script (row_of other)) other.answer other another in
    let same : operation_told script (row_of entry) ≡ operation_told script (row_of other) = ap (operation_told script) meant in
    ap (operation_in (operation_of entry)) (sym here ∙ same ∙ there)

-- the machine answers an operation in one way
same_entry : (format : Format) (world : World) (entry other : Entry) → operation_of entry ≡ operation_of other
    → entry.answer ≡ (step format world entry.actor entry.event).1 → other.answer ≡ (step format world other.actor other.event).1 → entry ≡ other
same_entry format world entry other same answered answered_too =
    let answer : entry.answer ≡ other.answer = answered ∙ ap (λ (o : Operation). (step format world o.actor o.event).1) same ∙ sym answered_too in
    ap₂ entry_of same answer

abbrev first_row : Row → List Row → Row
first_row row [] = row
first_row row (first ∷ rows) = first

abbrev other_rows : List Row → List Row
other_rows [] = []
other_rows (row ∷ rows) = rows

abbrev meant : Entry → Row
meant entry = chosen_row (row_of entry)

-- two runs, from a place on
same_ahead : (format : Format) (script : ScriptParts) → IsScript script → (before after other : List Entry) → IsAhead format script before after → IsAhead format script before other
    → map meant after ≡ map meant other → after ≡ other
same_ahead format script kept before [] [] one another rows = refl
same_ahead format script kept before [] (entry ∷ other) one another rows = absurd (cc)
same_ahead format script kept before (entry ∷ after) [] one another rows = absurd (cc)
same_ahead format script kept before (entry ∷ after) (next ∷ other) one another rows =
    let first : meant entry ≡ meant next = ap (first_row (meant entry)) rows in
    let same : entry ≡ next =
    same_entry format (world_after format (start script) before) entry next
    (same_operation script entry next (ahead_entry format script kept before entry after one) (ahead_entry format script kept before next other another) first)
    one.run.1 another.run.1 in
    let further : IsAhead format script (before ++ entry ∷ []) other =
    subst (λ (e : Entry). IsAhead format script (before ++ e ∷ []) other) (sym same) (ahead_more format script kept before next other another) in
    ap₂ (λ e es. e ∷ es) same
    (same_ahead format script kept (before ++ entry ∷ []) after other (ahead_more format script kept before entry after one) further (ap other_rows rows))

-- runs on one script by the rules of one format, whose rows are meant as the same, are equal
pub same_run : (format : Format) (script : ScriptParts) (journal other : List Entry) → IsScript script → IsRunOf format script journal → IsRunOf format script other
    → map meant journal ≡ map meant other → journal ≡ other
same_run format script journal other kept one another rows =
    same_ahead format script kept [] journal other (all_ahead format script journal one) (all_ahead format script other another) rows

-- One row more: what a row that may come next records, and that nothing is found of the rows of a run.
use Rattle.std.proofs.Common.{◌≡◌, inl, inr, ℕ, ◌==◌, Bool, true, false, not, ◌&&◌, ◌||◌, if◌then◌else◌, nat_lt, List, [], ◌∷◌, ◌++◌, map, Option, Some, None, refl, ap, sym, ◌∙◌, subst, append-nil}
use Rattle.std.specs.Prelude.{⊤, find, option_map, unwrap_or}
use Rattle.std.specs.List.{last_or, list_any, cons_option}
use Rattle.std.specs.Cmp.{first_so, second_so}
use Rattle.std.proofs.lemmas.List.{map-append}
use Rattle.std.proofs.lemmas.List.Elements.{filter_map-append, recursion_from_All}
use Rattle.std.proofs.lemmas.Bool.{both_ways}
use Rattle.ev_types.specs.Events.{op_of, op_same, op_decides}
use Rattle.ev_types.specs.Same.{numbers_decide}
use Rattle.ev_types.specs.SameAnswers.{answer_same, answer_decides}
use Rattle.ev_types.specs.Scripts.{ScriptParts, IsScript}
use Rattle.ev_types.specs.declared.events.Actor.{Actor}
use Rattle.ev_types.specs.declared.events.Entry.{Entry}
use Rattle.ev_types.specs.declared.journals.Format.{Format}
use Rattle.ev_types.specs.declared.journals.Row.{Row}
use Rattle.ev_types.specs.declared.journals.Finding.{Finding}
use Rattle.ev_types.specs.declared.journals.Finding.TheVariants.{IllegalAt, NotTheScript}
use Rattle.ev_model.specs.Step.{step}
use Rattle.ev_model.specs.Runs.{RunsFrom, world_after, is_batched, GoesOnWith, IsUnbroken}
use Rattle.ev_model.specs.Operations.{Operation, AreDone, actor_same, actor_decides, is_earlier, all_operations, operations_of, operation_of, entry_of}
use Rattle.ev_model.specs.Finding.{row_of, tells_of, entry_told, journal_told, next_operations, is_stray, breaks_batch, is_wrong, is_illegal, row_finding}
use Rattle.ev_model.proofs.RunLemmas.{world_after-more, RunsFrom-more}
use Rattle.ev_model_laws.proofs.OperationLists.{IsIn, at_in, in_filter, in_back}
use Rattle.ev_model_laws.proofs.ScriptOperations.{IsAllowed, all_allowed}
use Rattle.ev_model_laws.proofs.RisingOperations.{Earlier, IsRising, not_itself, operations_rise}
use Rattle.ev_model_laws.proofs.DeedLemmas.{ops, rest_after, left_by, next_by, IsNext, IsFound, IsDoneTo, one_more_done, others_done, done_next, next_found, found_next}
use Rattle.ev_model_laws.proofs.FindingDeeds.{eased, deed_at, marks, start, rests_at, left_at, marks_append, marks_own, marks_other, next_is}

-- what it is that a row records an operation
record IsTold (row : Row) (o : Operation) : Type 0 where
  at : row.at ≡ o.at
  step_same : row.step ≡ o.step
  word : row.op ≡ op_of o.event

told : (row : Row) (o : Operation) → tells_of row o ≡ true → IsTold row o
told row o h =
    let numbers : ((row.at == o.at) && (row.step == o.step)) ≡ true =
    first_so ((row.at == o.at) && (row.step == o.step)) (op_same row.op (op_of o.event)) h in
    record {
      at = (numbers_decide row.at o.at).0 (first_so (row.at == o.at) (row.step == o.step) numbers);
      step_same = (numbers_decide row.step o.step).0 (second_so (row.at == o.at) (row.step == o.step) numbers);
      word = (op_decides row.op (op_of o.event)).0 (second_so ((row.at == o.at) && (row.step == o.step)) (op_same row.op (op_of o.event)) h);
    }

tells_itself : (entry : Entry) → tells_of (row_of entry) (operation_of entry) ≡ true
tells_itself entry =
    let at : (entry.at == entry.at) ≡ true = (numbers_decide entry.at entry.at).1 refl in
    let steps : (entry.step == entry.step) ≡ true = (numbers_decide entry.step entry.step).1 refl in
    let word : op_same (op_of entry.event) (op_of entry.event) ≡ true = (op_decides (op_of entry.event) (op_of entry.event)).1 refl in
    simp (at, steps, word) refl

-- two that a row records are at one place
at_one_place : (row : Row) (a b : Operation) → tells_of row a ≡ true → tells_of row b ≡ true → is_earlier a b ≡ false
at_one_place row a b one other =
    let here : IsTold row a = told row a one in
    let there : IsTold row b = told row b other in
    let at : a.at ≡ b.at = sym here.at ∙ there.at in
    let steps : a.step ≡ b.step = sym here.step_same ∙ there.step_same in
    let same : is_earlier a b ≡ is_earlier b b =
    λ i. nat_lt (at i) b.at || ((at i == b.at) && nat_lt (steps i) b.step) in
    same ∙ not_itself b

find_by : (row : Row) (x o : Operation) (os : List Operation) (tells : Bool) → tells_of row x ≡ tells
    → (tells_of row x ≡ true → ⊥) → find (tells_of row) os ≡ Some o → (if tells then Some x else find (tells_of row) os) ≡ Some o
find_by row x o os true h never e = absurd (never h)
find_by row x o os false h never e = e

-- of rising operations a row records one alone
find_told : (row : Row) (o : Operation) (os : List Operation) → IsRising os → IsIn o os → tells_of row o ≡ true → find (tells_of row) os ≡ Some o
find_told row o [] rising is h = absurd is
find_told row o (x ∷ os) rising (inl e) h =
    ap (λ b. if b then Some x else find (tells_of row) os) (ap (tells_of row) e ∙ h) ∙ ap Some e
find_told row o (x ∷ os) rising (inr is) h =
    find_by row x o os (tells_of row x) refl
    (λ t. both_ways (is_earlier x o) (at_one_place row x o t h) (at_in (Earlier x) o os rising.0 is))
    (find_told row o os rising.1 is h)

-- the entry that a row is, by its operation
entry_is : (script : ScriptParts) → IsScript script → (row : Row) (o : Operation) → IsIn o (operations_of script row.actor) → tells_of row o ≡ true
    → entry_told script row ≡ Some (entry_of o row.answer)
entry_is script kept row o is h =
    ap (option_map (λ (p : Operation). entry_of p row.answer)) (find_told row o (operations_of script row.actor) (operations_rise script row.actor kept) is h)

-- what may come next is the script's
next_in : (rests : Bool) (os done : List Operation) (o : Operation) → IsNext rests (left_by os done) o → IsIn o os
next_in rests os done o next =
    (in_filter _ o os (subst (IsIn o) next.whole (in_back o next.skipped (o ∷ next.behind) (inl refl)))).0

-- no entry breaks into the batch of the one before it
abbrev Joins : Entry → List Entry → Type 0
Joins before [] = ⊤
Joins before (entry ∷ entries) = is_batched before.event ≡ true → entry.actor ≡ before.actor

abbrev pub AreJoined : List Entry → Type 0
AreJoined [] = ⊤
AreJoined (entry ∷ entries) = Joins entry entries × AreJoined entries

kept_by : (batched same : Bool) → (batched && not same) ≡ false → batched ≡ true → same ≡ true
kept_by true true h is = refl
kept_by true false h is = sym h
kept_by false same h is = cc

joined_more : (journal : List Entry) (entry : Entry) → AreJoined journal → breaks_batch (last_or None journal) entry ≡ false → AreJoined (journal ++ entry ∷ [])
joined_more [] entry joined h = (tt, tt)
joined_more (first ∷ []) entry joined h = (
  λ is. (actor_decides entry.actor first.actor).0 (kept_by (is_batched first.event) (actor_same entry.actor first.actor) h is),
  (tt, tt),
)
joined_more (first ∷ next ∷ journal) entry joined h = (joined.0, joined_more (next ∷ journal) entry joined.1 h)

-- the journal of these rows, so far: it is a run, breaks no batch, and each actor's deeds are done so far
pub record IsSoFar (format : Format) (script : ScriptParts) (rows : List Row) (journal : List Entry) : Type 0 where
  pub rows_are : map row_of journal ≡ rows
  pub run : RunsFrom format script.workers (start script) journal
  pub joined : AreJoined journal
  pub done : (actor : Actor) → IsDoneTo (eased format true) (operations_of script actor) (marks format (start script) journal actor)

none_parts : (stray illegal : Bool) (a b : Finding) → (if stray then Some a else (if illegal then Some b else None)) ≡ None → (stray ≡ false) × (illegal ≡ false)
none_parts true illegal a b h = cc
none_parts false true a b h = cc
none_parts false false a b h = (refl, refl)

legal_parts : (answered breaks : Bool) → (not answered || breaks) ≡ false → (answered ≡ true) × (breaks ≡ false)
legal_parts true breaks h = (refl, h)
legal_parts false breaks h = cc

is_so : (b : Bool) → not b ≡ false → b ≡ true
is_so true h = refl
is_so false h = sym h

-- a row of which nothing is found: its operation may come next, and its entry is answered as the machine answers it
record IsRight (format : Format) (script : ScriptParts) (journal : List Entry) (row : Row) : Type 0 where
  o : Operation
  tells : tells_of row o ≡ true
  next : IsNext (rests_at format script journal row.actor) (left_at format script journal row.actor) o
  is_entry : entry_told script row ≡ Some (entry_of o row.answer)
  answered : row.answer ≡ (step format (world_after format (start script) journal) o.actor o.event).1
  unbroken : breaks_batch (last_or None journal) (entry_of o row.answer) ≡ false

right : (format : Format) (script : ScriptParts) → IsScript script → (journal : List Entry) (number : ℕ) (row : Row)
    → row_finding format script journal number row ≡ None → IsRight format script journal row
right format script kept journal number row h =
    let parts : (is_stray format script journal row ≡ false) × (is_illegal format script journal row ≡ false) =
    none_parts (is_stray format script journal row) (is_illegal format script journal row) (NotTheScript number) (IllegalAt number) h in
    let any : list_any (tells_of row) (next_operations format script journal row.actor) ≡ true =
    is_so (list_any (tells_of row) (next_operations format script journal row.actor)) parts.0 in
    let found : IsFound (tells_of row) (rests_at format script journal row.actor) (left_at format script journal row.actor) =
    next_found (tells_of row) (rests_at format script journal row.actor) (left_at format script journal row.actor)
    (ap (list_any (tells_of row)) (sym (next_is format script journal row.actor)) ∙ any) in
    let there : IsIn found.found (operations_of script row.actor) =
    next_in (rests_at format script journal row.actor) (operations_of script row.actor) (ops (marks format (start script) journal row.actor)) found.found found.next in
    let is_entry : entry_told script row ≡ Some (entry_of found.found row.answer) = entry_is script kept row found.found there found.passes in
    let legal : is_wrong format script journal (entry_of found.found row.answer) ≡ false =
    ap (λ (e : Option Entry). unwrap_or (option_map (is_wrong format script journal) e) false) (sym is_entry) ∙ parts.1 in
    let both : (answer_same row.answer (step format (world_after format (start script) journal) found.found.actor found.found.event).1 ≡ true)
    × (breaks_batch (last_or None journal) (entry_of found.found row.answer) ≡ false) =
    legal_parts (answer_same row.answer (step format (world_after format (start script) journal) found.found.actor found.found.event).1)
    (breaks_batch (last_or None journal) (entry_of found.found row.answer)) legal in
    record {
      o = found.found;
      tells = found.passes;
      next = found.next;
      is_entry = is_entry;
      answered = (answer_decides row.answer (step format (world_after format (start script) journal) found.found.actor found.found.event).1).0 both.0;
      unbroken = both.1;
    }

-- the deeds so far of one actor, with one entry more
done_by : (format : Format) (script : ScriptParts) → IsScript script → (journal : List Entry) (entry : Entry) (actor : Actor) (same : Bool)
    → actor_same entry.actor actor ≡ same
    → IsNext (rests_at format script journal entry.actor) (left_at format script journal entry.actor) (operation_of entry)
    → IsDoneTo (eased format true) (operations_of script actor) (marks format (start script) journal actor)
    → IsDoneTo (eased format true) (operations_of script actor) (marks format (start script) (journal ++ entry ∷ []) actor)
done_by format script kept journal entry actor true h next done =
    let is : entry.actor ≡ actor = (actor_decides entry.actor actor).0 h in
    let here : IsNext (rests_at format script journal actor) (left_at format script journal actor) (operation_of entry) =
    subst (λ a. IsNext (rests_at format script journal a) (left_at format script journal a) (operation_of entry)) is next in
    subst (IsDoneTo (eased format true) (operations_of script actor))
    (sym
    (marks_append format (start script) journal (entry ∷ []) actor
    ∙ ap (λ ds. marks format (start script) journal actor ++ ds) (marks_own format (world_after format (start script) journal) entry [] actor h)))
    (one_more_done (eased format true) (operations_of script actor) (marks format (start script) journal actor)
    (deed_at format (world_after format (start script) journal) entry) (operations_rise script actor kept) done here)
done_by format script kept journal entry actor false h next done =
    subst (IsDoneTo (eased format true) (operations_of script actor))
    (sym
    (marks_append format (start script) journal (entry ∷ []) actor
    ∙ ap (λ ds. marks format (start script) journal actor ++ ds) (marks_other format (world_after format (start script) journal) entry [] actor h)
    ∙ append-nil (marks format (start script) journal actor)))
    done

-- the journal of rows and one row more
pub told_more : (script : ScriptParts) (rows : List Row) (row : Row) (journal : List Entry) (entry : Entry) → journal_told script rows ≡ journal
    → entry_told script row ≡ Some entry → journal_told script (rows ++ row ∷ []) ≡ journal ++ entry ∷ []
told_more script rows row journal entry told is =
    filter_map-append (entry_told script) rows (row ∷ [])
    ∙ ap (λ es. es ++ cons_option (entry_told script row) []) told
    ∙ ap (λ (e : Option Entry). journal ++ cons_option e []) is

-- so far, with a row of which nothing is found
pub more_so_far : (format : Format) (script : ScriptParts) → IsScript script → (rows : List Row) (number : ℕ) (row : Row)
    → IsSoFar format script rows (journal_told script rows) → row_finding format script (journal_told script rows) number row ≡ None
    → IsSoFar format script (rows ++ row ∷ []) (journal_told script (rows ++ row ∷ []))
more_so_far format script kept rows number row so_far none =
    let journal : List Entry = journal_told script rows in
    let r : IsRight format script (journal_told script rows) row = right format script kept (journal_told script rows) number row none in
    let there : IsIn r.o (operations_of script row.actor) =
    next_in (rests_at format script journal row.actor) (operations_of script row.actor) (ops (marks format (start script) journal row.actor)) r.o r.next in
    let parts : IsIn r.o (all_operations script) × (actor_same r.o.actor row.actor ≡ true) = in_filter (λ (o : Operation). actor_same o.actor row.actor) r.o (all_operations script) there in
    let actor : r.o.actor ≡ row.actor = (actor_decides r.o.actor row.actor).0 parts.1 in
    let t : IsTold row r.o = told row r.o r.tells in
    let same : row_of (entry_of r.o row.answer) ≡ row =
    λ i. record { actor = actor i; at = sym t.at i; step = sym t.step_same i; op = sym t.word i; answer = row.answer } in
    let more : IsSoFar format script (rows ++ row ∷ []) (journal ++ entry_of r.o row.answer ∷ []) = record {
      rows_are = map-append row_of journal (entry_of r.o row.answer ∷ []) ∙ ap (λ rs. rs ++ row_of (entry_of r.o row.answer) ∷ []) so_far.rows_are ∙ ap (λ x. rows ++ x ∷ []) same;
      run =
          RunsFrom-more format script.workers (start script) journal (entry_of r.o row.answer) so_far.run
          (at_in (IsAllowed script.workers) r.o (all_operations script) (recursion_from_All (IsAllowed script.workers) (all_operations script) (all_allowed script kept)) parts.0)
          r.answered;
      joined = joined_more journal (entry_of r.o row.answer) so_far.joined r.unbroken;
      done = λ a.
          done_by format script kept journal (entry_of r.o row.answer) a (actor_same r.o.actor a) refl
          (subst (λ b. IsNext (rests_at format script journal b) (left_at format script journal b) r.o) (sym actor) r.next)
          (so_far.done a);
    } in
    subst (IsSoFar format script (rows ++ row ∷ [])) (sym (told_more script rows row journal (entry_of r.o row.answer) refl r.is_entry)) more

-- after an accept or close goes an entry of its actor
abbrev pub Follows : Option Entry → List Entry → Type 0
Follows None entries = ⊤
Follows (Some before) entries = is_batched before.event ≡ true → GoesOnWith before.actor entries

breaks_by : (batched same : Bool) → (batched ≡ true → same ≡ true) → (batched && not same) ≡ false
breaks_by true same so = ap not (so refl)
breaks_by false same so = refl

breaks_none : (before : Option Entry) (entry : Entry) (entries : List Entry) → Follows before (entry ∷ entries) → breaks_batch before entry ≡ false
breaks_none None entry entries follows = refl
breaks_none (Some before) entry entries follows =
    breaks_by (is_batched before.event) (actor_same entry.actor before.actor) (λ h. (actor_decides entry.actor before.actor).1 (follows h))

-- what is left of a run after these entries: it goes on as the machine does,
-- and each actor's deeds are done of what is left
pub record IsAhead (format : Format) (script : ScriptParts) (before after : List Entry) : Type 0 where
  pub run : RunsFrom format script.workers (world_after format (start script) before) after
  pub follows : Follows (last_or None before) after
  pub unbroken : IsUnbroken after
  pub done : (actor : Actor)
      → AreDone (rests_at format script before actor) (left_at format script before actor)
      (marks format (world_after format (start script) before) after actor)

last_is : (before : Option Entry) (entries : List Entry) (entry : Entry) → last_or before (entries ++ entry ∷ []) ≡ Some entry
last_is before [] entry = refl
last_is before (first ∷ entries) entry = last_is (Some first) entries entry

-- the entry that comes next may come next
ahead_next : (format : Format) (script : ScriptParts) (before : List Entry) (entry : Entry) (after : List Entry) → IsAhead format script before (entry ∷ after)
    → IsNext (rests_at format script before entry.actor) (left_at format script before entry.actor) (operation_of entry)
ahead_next format script before entry after ahead =
    (done_next (rests_at format script before entry.actor) (left_at format script before entry.actor) (deed_at format (world_after format (start script) before) entry)
    (marks format (step format (world_after format (start script) before) entry.actor entry.event).0 after entry.actor)
    (subst (AreDone (rests_at format script before entry.actor) (left_at format script before entry.actor))
    (marks_own format (world_after format (start script) before) entry after entry.actor ((actor_decides entry.actor entry.actor).1 refl))
    (ahead.done entry.actor))).next

-- its row gives it
pub ahead_entry : (format : Format) (script : ScriptParts) → IsScript script → (before : List Entry) (entry : Entry) (after : List Entry)
    → IsAhead format script before (entry ∷ after) → entry_told script (row_of entry) ≡ Some entry
ahead_entry format script kept before entry after ahead =
    entry_is script kept (row_of entry) (operation_of entry)
    (next_in (rests_at format script before entry.actor) (operations_of script entry.actor) (ops (marks format (start script) before entry.actor))
    (operation_of entry) (ahead_next format script before entry after ahead))
    (tells_itself entry)

-- nothing is found of its row
pub ahead_none : (format : Format) (script : ScriptParts) → IsScript script → (before : List Entry) (entry : Entry) (after : List Entry) (number : ℕ)
    → IsAhead format script before (entry ∷ after) → row_finding format script before number (row_of entry) ≡ None
ahead_none format script kept before entry after number ahead =
    let next : IsNext (rests_at format script before entry.actor) (left_at format script before entry.actor) (operation_of entry) =
    ahead_next format script before entry after ahead in
    let any : list_any (tells_of (row_of entry)) (next_operations format script before entry.actor) ≡ true =
    ap (list_any (tells_of (row_of entry))) (next_is format script before entry.actor)
    ∙ ap (λ os. list_any (tells_of (row_of entry)) (next_by (rests_at format script before entry.actor) os)) (sym next.whole)
    ∙ found_next (tells_of (row_of entry)) (rests_at format script before entry.actor) next.skipped next.behind (operation_of entry) (tells_itself entry) next.passes in
    let stray : is_stray format script before (row_of entry) ≡ false = ap not any in
    let answered : answer_same entry.answer (step format (world_after format (start script) before) entry.actor entry.event).1 ≡ true =
    (answer_decides entry.answer (step format (world_after format (start script) before) entry.actor entry.event).1).1 ahead.run.1 in
    let legal : is_illegal format script before (row_of entry) ≡ false =
    ap (λ (e : Option Entry). unwrap_or (option_map (is_wrong format script before) e) false) (ahead_entry format script kept before entry after ahead)
    ∙ ap (λ b. not b || breaks_batch (last_or None before) entry) answered
    ∙ breaks_none (last_or None before) entry after ahead.follows in
    ap (λ b. if b then Some (NotTheScript number) else (if is_illegal format script before (row_of entry) then Some (IllegalAt number) else None)) stray
    ∙ ap (λ b. if b then Some (IllegalAt number) else None) legal

-- the deeds of one actor ahead, after the next entry
ahead_by : (format : Format) (script : ScriptParts) → IsScript script → (before : List Entry) (entry : Entry) (after : List Entry) (actor : Actor) (same : Bool)
    → actor_same entry.actor actor ≡ same
    → AreDone (rests_at format script before actor) (left_at format script before actor) (marks format (world_after format (start script) before) (entry ∷ after) actor)
    → AreDone (rests_at format script (before ++ entry ∷ []) actor) (left_at format script (before ++ entry ∷ []) actor)
    (marks format (step format (world_after format (start script) before) entry.actor entry.event).0 after actor)
ahead_by format script kept before entry after actor true h done =
    subst
    (λ ds.
    AreDone (rest_after (eased format true) ds) (left_by (operations_of script actor) (ops ds))
    (marks format (step format (world_after format (start script) before) entry.actor entry.event).0 after actor))
    (sym
    (marks_append format (start script) before (entry ∷ []) actor
    ∙ ap (λ ds. marks format (start script) before actor ++ ds) (marks_own format (world_after format (start script) before) entry [] actor h)))
    (others_done (eased format true) (operations_of script actor) (marks format (start script) before actor)
    (deed_at format (world_after format (start script) before) entry)
    (marks format (step format (world_after format (start script) before) entry.actor entry.event).0 after actor)
    (operations_rise script actor kept)
    (subst (AreDone (rests_at format script before actor) (left_at format script before actor))
    (marks_own format (world_after format (start script) before) entry after actor h) done))
ahead_by format script kept before entry after actor false h done =
    subst
    (λ ds.
    AreDone (rest_after (eased format true) ds) (left_by (operations_of script actor) (ops ds))
    (marks format (step format (world_after format (start script) before) entry.actor entry.event).0 after actor))
    (sym
    (marks_append format (start script) before (entry ∷ []) actor
    ∙ ap (λ ds. marks format (start script) before actor ++ ds) (marks_other format (world_after format (start script) before) entry [] actor h)
    ∙ append-nil (marks format (start script) before actor)))
    (subst (AreDone (rests_at format script before actor) (left_at format script before actor))
    (marks_other format (world_after format (start script) before) entry after actor h) done)

-- so the run goes on after it
pub ahead_more : (format : Format) (script : ScriptParts) → IsScript script → (before : List Entry) (entry : Entry) (after : List Entry)
    → IsAhead format script before (entry ∷ after) → IsAhead format script (before ++ entry ∷ []) after
ahead_more format script kept before entry after ahead =
    let moved : (step format (world_after format (start script) before) entry.actor entry.event).0 ≡ world_after format (start script) (before ++ entry ∷ []) =
    sym (world_after-more format (start script) before entry) in
    record {
      run = subst (λ world. RunsFrom format script.workers world after) moved ahead.run.2;
      follows = subst (λ last. Follows last after) (sym (last_is None before entry)) ahead.unbroken.0;
      unbroken = ahead.unbroken.1;
      done = λ actor.
          subst
          (λ world.
          AreDone (rests_at format script (before ++ entry ∷ []) actor) (left_at format script (before ++ entry ∷ []) actor) (marks format world after actor))
          moved (ahead_by format script kept before entry after actor (actor_same entry.actor actor) refl (ahead.done actor));
    }

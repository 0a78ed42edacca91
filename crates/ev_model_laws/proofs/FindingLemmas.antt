-- Why rows are found legal exactly where they are those of a run that holds each actor's operations
-- in order. Place by place:
-- a row of which nothing is found makes the journal so far one entry longer, and of the rows of a run nothing is found.
use Rattle.std.proofs.Common.{◌≡◌, ◌⊎◌, inl, inr, ℕ, ◌+◌, Bool, true, false, ◌||◌, if◌then◌else◌, List, [], ◌∷◌, ◌++◌, map, length, take, Option, Some, None, refl, ap, sym, ◌∙◌, subst, append-nil, append_assoc, length-append}
use Rattle.std.specs.Prelude.{filter_map, option_and_then, slice_get, unwrap_or}
use Rattle.std.specs.List.{AllByRecursion as ByRecursion, list_any, cons_option, range_with_len}
use Rattle.std.proofs.lemmas.List.{map-append}
use Rattle.std.proofs.lemmas.Bool.{both_ways}
use Rattle.std.proofs.Math.Seq.{take-append_seam}
use Rattle.ev_types.specs.Scripts.{ScriptParts, IsScript}
use Rattle.ev_types.specs.declared.events.Actor.{Actor}
use Rattle.ev_types.specs.declared.events.Entry.{Entry}
use Rattle.ev_types.specs.declared.journals.Format.{Format}
use Rattle.ev_types.specs.declared.journals.Row.{Row}
use Rattle.ev_types.specs.declared.journals.Finding.{Finding}
use Rattle.ev_types.specs.declared.journals.Finding.TheVariants.{Legal, IllegalAt, NotTheScript}
use Rattle.ev_model.specs.World.{World}
use Rattle.ev_model.specs.Step.{step}
use Rattle.ev_model.specs.Runs.{RunsFrom, is_batched, GoesOnWith, IsUnbroken}
use Rattle.ev_model.specs.Operations.{Operation, AreDone, actor_same, actor_decides, all_operations, operations_of, operation_of}
use Rattle.ev_model.specs.Finding.{row_of, journal_told, is_unfinished, is_stray, is_illegal, row_finding, finding_at, end_finding, finding_of}
use Rattle.ev_model_laws.specs.LegalFindings.{IsLegalJournal, LegalExactly}
use Rattle.ev_model_laws.proofs.OperationLists.{any_none, filter_all}
use Rattle.ev_model_laws.proofs.ScriptOperations.{IsAllowed, made_by, ends_batched, no_open_batch, worker_settles}
use Rattle.ev_model_laws.proofs.DeedLemmas.{ops, left_by, none_done, ended_done, done_ended}
use Rattle.ev_model_laws.proofs.FindingDeeds.{eased, marks, start, rests_at, left_at, unfinished_is, fits_done, done_fits, ends_as}
use Rattle.ev_model_laws.proofs.FindingRows.{AreJoined, IsSoFar, more_so_far, IsAhead, ahead_entry, ahead_none, ahead_more, told_more}

-- the element after a prefix
got_behind : {X : Type 0} (xs : List X) (x : X) (ys : List X) → slice_get (xs ++ x ∷ ys) (length xs) ≡ Some x
got_behind [] x ys = refl
got_behind (first ∷ xs) x ys = got_behind xs x ys

-- what is found at a place is found of its row, after the rows before it
at_place : (format : Format) (script : ScriptParts) (before : List Row) (row : Row) (after : List Row)
    → finding_at format script (before ++ row ∷ after) (length before) ≡ row_finding format script (journal_told script before) (length before + 1) row
at_place format script before row after =
    ap (λ rows. option_and_then (row_finding format script (journal_told script rows) (length before + 1)) (slice_get (before ++ row ∷ after) (length before)))
    (take-append_seam before (row ∷ after))
    ∙ ap (option_and_then (row_finding format script (journal_told script before) (length before + 1))) (got_behind before row after)

never_by : (stray illegal : Bool) (number : ℕ) → (if stray then Some (NotTheScript number) else (if illegal then Some (IllegalAt number) else None)) ≡ Some Legal → ⊥
never_by true illegal number h = cc
never_by false true number h = cc
never_by false false number h = cc

never_at : (format : Format) (script : ScriptParts) (journal : List Entry) (number : ℕ) (row : Option Row)
    → option_and_then (row_finding format script journal number) row ≡ Some Legal → ⊥
never_at format script journal number None h = cc
never_at format script journal number (Some row) h =
    never_by (is_stray format script journal row) (is_illegal format script journal row) number h

first_by : (found : Option Finding) (others : List Finding) (last : Finding) → (found ≡ Some Legal → ⊥)
    → (unwrap_or (slice_get others 0) last ≡ Legal → (others ≡ []) × (last ≡ Legal))
    → unwrap_or (slice_get (cons_option found others) 0) last ≡ Legal → (cons_option found others ≡ []) × (last ≡ Legal)
first_by None others last never more h = more h
first_by (Some found) others last never more h = absurd (never (ap Some h))

-- a first finding that is legal is the last of all
first_legal : (f : ℕ → Option Finding) (places : List ℕ) (last : Finding) → ((place : ℕ) → f place ≡ Some Legal → ⊥)
    → unwrap_or (slice_get (filter_map f places) 0) last ≡ Legal → (filter_map f places ≡ []) × (last ≡ Legal)
first_legal f [] last never h = (refl, h)
first_legal f (place ∷ places) last never h =
    first_by (f place) (filter_map f places) last (never place) (λ more. first_legal f places last never more) h

none_first : {X : Type 0} (x : Option X) (xs : List X) → cons_option x xs ≡ [] → (x ≡ None) × (xs ≡ [])
none_first None xs h = (refl, h)
none_first (Some x) xs h = cc

-- where nothing is found of the rows, their journal is so far to the end
all_so_far : (format : Format) (script : ScriptParts) → IsScript script → (rows before after : List Row) → before ++ after ≡ rows
    → IsSoFar format script before (journal_told script before)
    → filter_map (finding_at format script rows) (range_with_len (length before) (length after)) ≡ []
    → IsSoFar format script rows (journal_told script rows)
all_so_far format script kept rows before [] whole so_far none =
    subst (λ rs. IsSoFar format script rs (journal_told script rs)) (sym (append-nil before) ∙ whole) so_far
all_so_far format script kept rows before (row ∷ after) whole so_far none =
    let parts : (finding_at format script rows (length before) ≡ None)
    × (filter_map (finding_at format script rows) (range_with_len (length before + 1) (length after)) ≡ []) =
    none_first (finding_at format script rows (length before)) (filter_map (finding_at format script rows) (range_with_len (length before + 1) (length after))) none in
    let here : row_finding format script (journal_told script before) (length before + 1) row ≡ None =
    sym (at_place format script before row after) ∙ ap (λ rs. finding_at format script rs (length before)) whole ∙ parts.0 in
    all_so_far format script kept rows (before ++ row ∷ []) after (append_assoc before (row ∷ []) after ∙ whole)
    (more_so_far format script kept before (length before + 1) row so_far here)
    (ap (λ n. filter_map (finding_at format script rows) (range_with_len n (length after))) (length-append before (row ∷ [])) ∙ parts.1)

none_unfinished_by : (f : Actor → Bool) (o : Operation) (os : List Operation) (actor : Actor) (same : Bool) → actor_same o.actor actor ≡ same
    → f o.actor ≡ false → (made_by actor os ≡ []) ⊎ (f actor ≡ false) → (made_by actor (o ∷ os) ≡ []) ⊎ (f actor ≡ false)
none_unfinished_by f o os actor true h isnt more = inr (ap f (sym ((actor_decides o.actor actor).0 h)) ∙ isnt)
none_unfinished_by f o os actor false h isnt (inl none) = inl (ap (λ b. if b then o ∷ made_by actor os else made_by actor os) h ∙ none)
none_unfinished_by f o os actor false h isnt (inr more) = inr more

neither : (b c : Bool) → (b || c) ≡ false → (b ≡ false) × (c ≡ false)
neither true c h = cc
neither false c h = (refl, h)

-- where no actor of these operations is unfinished, an actor has none of them or is finished
none_unfinished : (f : Actor → Bool) (os : List Operation) → list_any (λ (o : Operation). f o.actor) os ≡ false
    → (actor : Actor) → (made_by actor os ≡ []) ⊎ (f actor ≡ false)
none_unfinished f [] none actor = inl refl
none_unfinished f (o ∷ os) none actor =
    let parts : (f o.actor ≡ false) × (list_any (λ (p : Operation). f p.actor) os ≡ false) =
    neither (f o.actor) (list_any (λ (p : Operation). f p.actor) os) none in
    none_unfinished_by f o os actor (actor_same o.actor actor) refl parts.0 (none_unfinished f os parts.1 actor)

finished : (format : Format) (script : ScriptParts) (journal : List Entry) (actor : Actor)
    → (operations_of script actor ≡ []) ⊎ (is_unfinished format script journal actor ≡ false)
    → AreDone (rests_at format script journal actor) (left_at format script journal actor) []
finished format script journal actor (inl none) =
    subst (λ os. AreDone (rests_at format script journal actor) (left_by os (ops (marks format (start script) journal actor))) []) (sym none) tt
finished format script journal actor (inr h) =
    ended_done (rests_at format script journal actor) (left_at format script journal actor) (sym (unfinished_is format script journal actor) ∙ h)

ended_by : (unfinished : Bool) (number : ℕ) → (if unfinished then NotTheScript number else Legal) ≡ Legal → unfinished ≡ false
ended_by true number h = cc
ended_by false number h = refl

goes_on : (entry : Entry) (entries : List Entry) → AreJoined (entry ∷ entries) → ends_batched (is_batched entry.event) (map operation_of entries) ≡ false
    → is_batched entry.event ≡ true → GoesOnWith entry.actor entries
goes_on entry [] joined ends is = cc
goes_on entry (next ∷ entries) joined ends is = joined.0 is

-- entries that are joined, and don't end with an accept or a close, break no batch
none_broken : (entries : List Entry) (batched : Bool) → AreJoined entries → ends_batched batched (map operation_of entries) ≡ false → IsUnbroken entries
none_broken [] batched joined ends = tt
none_broken (entry ∷ entries) batched joined ends =
    (goes_on entry entries joined ends, none_broken entries (is_batched entry.event) joined.1 ends)

allowed_run : (format : Format) (workers : ℕ) (world : World) (entries : List Entry) → RunsFrom format workers world entries
    → ByRecursion (IsAllowed workers) (map operation_of entries)
allowed_run format workers world [] run = tt
allowed_run format workers world (entry ∷ entries) run = (run.0, allowed_run format workers (step format world entry.actor entry.event).0 entries run.2)

-- rows that are found legal are those of a run that holds each actor's operations
legal_is_run : (format : Format) (script : ScriptParts) (rows : List Row) → IsScript script → finding_of format script rows ≡ Legal
    → IsLegalJournal format script rows
legal_is_run format script rows kept h =
    let journal : List Entry = journal_told script rows in
    let parts : (filter_map (finding_at format script rows) (range_with_len 0 (length rows)) ≡ []) × (end_finding format script rows ≡ Legal) =
    first_legal (finding_at format script rows) (range_with_len 0 (length rows)) (end_finding format script rows)
    (λ place e. never_at format script (journal_told script (take place rows)) (place + 1) (slice_get rows place) e) h in
    let so_far : IsSoFar format script rows journal =
    all_so_far format script kept rows [] rows refl
    (record { rows_are = refl; run = tt; joined = tt; done = λ actor. none_done (eased format true) (operations_of script actor) })
    parts.0 in
    let none : list_any (λ (o : Operation). is_unfinished format script journal o.actor) (all_operations script) ≡ false =
    ended_by (list_any (λ (o : Operation). is_unfinished format script journal o.actor) (all_operations script)) (length rows + 1) parts.1 in
    let done : (actor : Actor) → AreDone (eased format true) (operations_of script actor) (marks format (start script) journal actor) =
    λ actor.
    subst (AreDone (eased format true) (operations_of script actor)) (append-nil (marks format (start script) journal actor))
    (so_far.done actor []
    (finished format script journal actor
    (none_unfinished (λ a. is_unfinished format script journal a) (all_operations script) none actor))) in
    let ends : ends_batched false (map operation_of journal) ≡ false =
    no_open_batch script.workers (map operation_of journal)
    (λ actor worker open_batch.
    both_ways (ends_batched false (operations_of script actor)) (worker_settles script actor false worker)
    (ends_as format script journal actor (done actor) open_batch))
    (allowed_run format script.workers (start script) journal so_far.run) in
    record {
      journal = journal;
      run_of = record {
        run = record { answers = so_far.run; batches = none_broken journal false so_far.joined ends };
        fits = λ actor. done_fits format script journal actor (done actor);
      };
      told = so_far.rows_are;
    }

-- nothing is found of the rows ahead, their journal is the run's, and at its end each actor's deeds are done
record IsCleared (format : Format) (script : ScriptParts) (rows : List Row) (journal : List Entry) (first number : ℕ) : Type 0 where
  none : filter_map (finding_at format script rows) (range_with_len first number) ≡ []
  told : journal_told script rows ≡ journal
  done : (actor : Actor) → AreDone (rests_at format script journal actor) (left_at format script journal actor) []

-- the rows of a run, from a place on
cleared : (format : Format) (script : ScriptParts) → IsScript script → (rows : List Row) (journal before after : List Entry)
    → before ++ after ≡ journal → map row_of before ++ map row_of after ≡ rows
    → journal_told script (map row_of before) ≡ before → IsAhead format script before after
    → IsCleared format script rows journal (length (map row_of before)) (length (map row_of after))
cleared format script kept rows journal before [] whole are told ahead =
    let same : before ≡ journal = sym (append-nil before) ∙ whole in
    let rows_same : map row_of before ≡ rows = sym (append-nil (map row_of before)) ∙ are in
    record {
      none = refl;
      told = ap (journal_told script) (sym rows_same) ∙ told ∙ same;
      done = subst (λ j. (actor : Actor) → AreDone (rests_at format script j actor) (left_at format script j actor) []) same ahead.done;
    }
cleared format script kept rows journal before (entry ∷ after) whole are told ahead =
    let here : finding_at format script rows (length (map row_of before)) ≡ None =
    ap (λ rs. finding_at format script rs (length (map row_of before))) (sym are)
    ∙ at_place format script (map row_of before) (row_of entry) (map row_of after)
    ∙ ap (λ j. row_finding format script j (length (map row_of before) + 1) (row_of entry)) told
    ∙ ahead_none format script kept before entry after (length (map row_of before) + 1) ahead in
    let longer : map row_of (before ++ entry ∷ []) ≡ map row_of before ++ row_of entry ∷ [] = map-append row_of before (entry ∷ []) in
    let rest : IsCleared format script rows journal (length (map row_of (before ++ entry ∷ []))) (length (map row_of after)) =
    cleared format script kept rows journal (before ++ entry ∷ []) after (append_assoc before (entry ∷ []) after ∙ whole)
    (ap (λ rs. rs ++ map row_of after) longer ∙ append_assoc (map row_of before) (row_of entry ∷ []) (map row_of after) ∙ are)
    (ap (journal_told script) longer ∙ told_more script (map row_of before) (row_of entry) before entry told (ahead_entry format script kept before entry after ahead))
    (ahead_more format script kept before entry after ahead) in
    let further : length (map row_of (before ++ entry ∷ [])) ≡ length (map row_of before) + 1 =
    ap length longer ∙ length-append (map row_of before) (row_of entry ∷ []) in
    record {
      none =
          ap (λ found. cons_option found (filter_map (finding_at format script rows) (range_with_len (length (map row_of before) + 1) (length (map row_of after))))) here
          ∙ ap (λ n. filter_map (finding_at format script rows) (range_with_len n (length (map row_of after)))) (sym further)
          ∙ rest.none;
      told = rest.told;
      done = rest.done;
    }

-- the rows of a run that holds each actor's operations are found legal
run_is_legal : (format : Format) (script : ScriptParts) (rows : List Row) → IsScript script → IsLegalJournal format script rows
    → finding_of format script rows ≡ Legal
run_is_legal format script rows kept l =
    let all : IsCleared format script rows l.journal 0 (length (map row_of l.journal)) =
    cleared format script kept rows l.journal [] l.journal refl l.told refl
    (record {
      run = l.run_of.run.answers;
      follows = tt;
      unbroken = l.run_of.run.batches;
      done = λ actor.
          subst (λ os. AreDone (eased format true) os (marks format (start script) l.journal actor))
          (sym (filter_all (λ (o : Operation). true) (operations_of script actor) (λ o is. refl)))
          (fits_done format script l.journal actor (l.run_of.fits actor));
    }) in
    let none : filter_map (finding_at format script rows) (range_with_len 0 (length rows)) ≡ [] =
    ap (λ rs. filter_map (finding_at format script rows) (range_with_len 0 (length rs))) (sym l.told) ∙ all.none in
    let finished_all : list_any (λ (o : Operation). is_unfinished format script (journal_told script rows) o.actor) (all_operations script) ≡ false =
    any_none (λ (o : Operation). is_unfinished format script (journal_told script rows) o.actor) (all_operations script)
    (λ o is.
    ap (λ j. is_unfinished format script j o.actor) all.told
    ∙ unfinished_is format script l.journal o.actor
    ∙ done_ended (rests_at format script l.journal o.actor) (left_at format script l.journal o.actor) (all.done o.actor)) in
    ap (λ found. unwrap_or (slice_get found 0) (end_finding format script rows)) none
    ∙ ap (λ b. if b then NotTheScript (length rows + 1) else Legal) finished_all

pub found_exactly : LegalExactly
found_exactly format script rows kept = (legal_is_run format script rows kept, run_is_legal format script rows kept)

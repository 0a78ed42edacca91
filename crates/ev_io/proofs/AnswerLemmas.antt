-- What each answer of a call for the next line means.
use Rattle.std.proofs.Common.{◌≡◌, ℕ, ◌+◌, ◌<◌, ◌≤◌, ◌⊎◌, inl, inr, IsTrue, List, [], ◌++◌, length, take, drop, Option, None, Some, Result, Ok, Err, refl, sym, ap, subst, ◌∙◌, length-append, length-take, arith}
use Rattle.std.specs.Result.{IfErr}
use Rattle.std.proofs.lemmas.Result.{IfErr-at_err}
use Rattle.ev_io.specs.declared.limits.TheConstants.{MAX_PIECE_BYTES}
use Rattle.ev_io.specs.declared.faults.LineFault.{LineFault}
use Rattle.ev_io.specs.declared.faults.LineFault.TheVariants.{TooLong, TooMany, TooLarge, Failed, OutOfMemory}
use Rattle.ev_io.specs.declared.faults.LineEnd.{LineEnd}
use Rattle.ev_io.specs.declared.faults.LineEnd.TheVariants.{Line, End}
use Rattle.ev_io.specs.declared.found.Found.{Found}
use Rattle.ev_io.specs.declared.found.Found.TheVariants as found
use Rattle.ev_io.specs.Outside.{Takes}
use Rattle.ev_io.specs.Found.{IsOpen, IsLine}
use Rattle.ev_io.specs.Lines.{lines_of}
use Rattle.ev_io.specs.LinesState.{LinesState, FindsNext, HasTaken, Grows}
use Rattle.ev_io.specs.ReadLine.{IsUnfinished, Means, ReadsLine}
use Rattle.ev_io.proofs.ReadLemmas.{unfinished, taken_more, no_length, lines_kept, retold, line_given, gives_line, reaches_end, too_large, too_many, too_long}

-- what is to be shown of an answer, where `mid` is the state once it is known what comes next
pub record IsStep (old mid new : LinesState) (before after : List ℕ) (answer : Result LineEnd LineFault) : Type 0 where
  pub means : (all : List ℕ) → mid.given ≡ old.given → HasTaken mid all → HasTaken new all × Means old new all before after answer

-- a call is what it found, and its answer
pub reads_by : {S : Type 0} (a d : Option (List ℕ)) (source now : S) (old mid new : LinesState) (before after : List ℕ) (answer : Result LineEnd LineFault) → (more : List ℕ) × Grows a d old mid more → ((now ≡ source) × (mid ≡ old)) ⊎ FindsNext old None → IsStep old mid new before after answer → (more : List ℕ) × Takes a d more × ((bytes : List ℕ) → HasTaken old bytes → ReadsLine old new bytes more before after answer)
reads_by a d source now old mid new before after answer (more, grows) untouched step = (more, grows.takes, λ bytes h. reads bytes h (step.means (bytes ++ more) grows.given (mid_taken bytes h untouched)))
  where
    mid_taken : (bytes : List ℕ) → HasTaken old bytes → ((now ≡ source) × (mid ≡ old)) ⊎ FindsNext old None → HasTaken mid (bytes ++ more)
    mid_taken bytes h (inl (_, same)) = taken_more old mid bytes more h grows.pending grows.taken grows.given (inl same)
    mid_taken bytes h (inr (going, _)) = taken_more old mid bytes more h grows.pending grows.taken grows.given (inr going)

    going_on : (n : ℕ) → n < length more → ((now ≡ source) × (mid ≡ old)) ⊎ FindsNext old None → ¬ (IsTrue old.ended)
    going_on n below (inl (_, same)) = absurd (omega (arith, ap (λ (s : LinesState). length s.pending) same, ap length grows.pending, length-append old.pending more))
    going_on n below (inr (going, _)) = going

    piece : (bytes : List ℕ) → HasTaken old bytes → (more ≡ []) ⊎ ((n : ℕ) × (n < length more) × (length more ≤ n + MAX_PIECE_BYTES) × IsOpen (old.taken + n) old.given (old.pending ++ take n more)) → (more ≡ []) ⊎ ((n : ℕ) × (n < length more) × (length more ≤ n + MAX_PIECE_BYTES) × IsUnfinished old.given old.ended (bytes ++ take n more))
    piece bytes h (inl none) = inl none
    piece bytes h (inr (n, below, short, quiet)) =
        let going : ¬ (IsTrue old.ended) = going_on n below untouched in
        let before_it : HasTaken (record old { taken = old.taken + n; pending = old.pending ++ take n more }) (bytes ++ take n more) = taken_more old (record old { taken = old.taken + n; pending = old.pending ++ take n more }) bytes (take n more) h refl (omega (arith, length-take n more)) refl (inr going) in
        inr (n, below, short, unfinished (record old { taken = old.taken + n; pending = old.pending ++ take n more }) (bytes ++ take n more) before_it (going, quiet))

    nothing_more : IsTrue old.ended → ((now ≡ source) × (mid ≡ old)) ⊎ FindsNext old None → more ≡ []
    nothing_more ended (inl (_, same)) = no_length more (omega (arith, ap (λ (s : LinesState). length s.pending) same, ap length grows.pending, length-append old.pending more))
    nothing_more ended (inr (going, _)) = absurd (going ended)

    kept : (bytes : List ℕ) → HasTaken old bytes → take old.given (lines_of (bytes ++ more)) ≡ take old.given (lines_of bytes)
    kept bytes h = lines_kept old bytes more h (λ ended. nothing_more ended untouched)

    reads : (bytes : List ℕ) → HasTaken old bytes → HasTaken new (bytes ++ more) × Means old new (bytes ++ more) before after answer → ReadsLine old new bytes more before after answer
    reads bytes h (taken, means) = record { taken = taken; kept = kept bytes h; means = means; needed = piece bytes h grows.needed }

-- a line was given
pub step_line : (old mid new : LinesState) (before after : List ℕ) (next : Found) (n : ℕ) → next ≡ found.Line n → mid.told ≡ None → FindsNext mid (Some next) → new ≡ record mid { given = mid.given + 1; pending = drop (n + 1) mid.pending } → after ≡ take n mid.pending → IsStep old mid new before after (Ok Line)
step_line old mid new before after next n is untold finds same text =
    let line : IsLine mid.taken mid.given mid.pending mid.ended n = subst (λ (f : Found). FindsNext mid (Some f)) is finds in
    record {
      means = λ all given h. (
        line_given mid new all n h line same,
        subst (λ (xs : List ℕ). Means old new all before xs (Ok Line)) (sym text)
            (subst (λ (s : LinesState). Means old s all before (take n mid.pending) (Ok Line)) (sym same) (gives_line old mid all n h line given untold)),
      );
    }

-- there was no memory for it
pub step_no_memory : (old mid new : LinesState) (before after : List ℕ) → mid.told ≡ None → new ≡ mid → after ≡ before → IsStep old mid new before after (Err OutOfMemory)
step_no_memory old mid new before after untold same kept = record {
  means = λ all given h. subst (λ (s : LinesState). HasTaken s all × Means old s all before after (Err OutOfMemory)) (sym same) (h, (record { number = given; untold = untold }, kept));
}

-- the end
pub step_end : (old mid : LinesState) (before after : List ℕ) (next : Found) → next ≡ found.End → mid.told ≡ None → FindsNext mid (Some next) → after ≡ before → IsStep old mid mid before after (Ok End)
step_end old mid before after next is untold finds kept =
    let last : IsTrue mid.ended × (mid.pending ≡ []) = subst (λ (f : Found). FindsNext mid (Some f)) is finds in
    record { means = λ all given h. (h, (reaches_end old mid all h last.0 last.1 given untold, kept)) }

-- a failed read
pub step_failed : (old mid : LinesState) (before after : List ℕ) → mid.told ≡ Some Failed → FindsNext mid None → after ≡ before → IsStep old mid mid before after (Err Failed)
step_failed old mid before after told wanted kept = record { means = λ all given h. (h, (record { unfinished = unfinished mid all h wanted; number = given; told = told }, kept)) }

-- a fault
step_at : (old mid new : LinesState) (before after : List ℕ) (fault : LineFault) → FindsNext mid (Some (found.Fault fault)) → new ≡ record mid { told = Some fault } → after ≡ before → IsStep old mid new before after (Err fault)
step_at old mid new before after TooLarge large same kept = record {
  means = λ all given h. subst (λ (s : LinesState). HasTaken s all × Means old s all before after (Err TooLarge)) (sym same) (retold mid (Some TooLarge) all h, (record { first = too_large mid all h large; number = given; told = refl }, kept));
}
step_at old mid new before after TooMany many same kept = record {
  means = λ all given h. subst (λ (s : LinesState). HasTaken s all × Means old s all before after (Err TooMany)) (sym same) (retold mid (Some TooMany) all h, (record { first = too_many mid all h many; number = given; told = refl }, kept));
}
step_at old mid new before after TooLong long same kept = record {
  means = λ all given h. subst (λ (s : LinesState). HasTaken s all × Means old s all before after (Err TooLong)) (sym same) (retold mid (Some TooLong) all h, (record { first = too_long mid all h long; number = given; told = refl }, kept));
}
step_at old mid new before after Failed stands same kept = absurd stands
step_at old mid new before after OutOfMemory stands same kept = absurd stands

pub step_fault : (old mid new : LinesState) (before after : List ℕ) (next : Found) (fault : LineFault) → next ≡ found.Fault fault → FindsNext mid (Some next) → new ≡ record mid { told = Some fault } → after ≡ before → IsStep old mid new before after (Err fault)
step_fault old mid new before after next fault is finds same kept =
    step_at old mid new before after fault (subst (λ (f : Found). FindsNext mid (Some f)) is finds) same kept

-- an unfinished text, where more bytes were wanted
pub wanted : {S : Type 0} (source now : S) (old mid : LinesState) → ((now ≡ source) × (mid ≡ old)) ⊎ FindsNext old None → (bytes : List ℕ) → HasTaken old bytes → (now ≡ source) ⊎ IsUnfinished old.given old.ended bytes
wanted source now old mid (inl (same, _)) bytes h = inl same
wanted source now old mid (inr more) bytes h = inr (unfinished old bytes h more)

-- no memory, as the answer that a `?` gives
pub step_lacking : (old mid new : LinesState) (before after : List ℕ) (answer : Result LineEnd LineFault) → answer ≡ Err OutOfMemory → mid.told ≡ None → new ≡ mid → after ≡ before → IsStep old mid new before after answer
step_lacking old mid new before after answer lacking untold same kept =
    subst (λ (r : Result LineEnd LineFault). IsStep old mid new before after r) (sym lacking) (step_no_memory old mid new before after untold same kept)

-- what stopped the search, as the answer that a `?` gives
pub step_stopped : (old mid : LinesState) (before : List ℕ) (stopped : Result Found LineFault) (fault : LineFault) (answer : Result LineEnd LineFault) → answer ≡ Err fault → stopped ≡ Err fault → IfErr stopped (λ f. (f ≡ Failed) ⊎ (f ≡ OutOfMemory)) → (stopped ≡ Err Failed → mid.told ≡ Some Failed) → (stopped ≡ Err Failed → FindsNext mid None) → (stopped ≡ Err OutOfMemory → mid.told ≡ None) → IsStep old mid mid before before answer
step_stopped old mid before stopped fault answer answered was causes failed wanting lacking = subst (λ (r : Result LineEnd LineFault). IsStep old mid mid before before r) (sym answered) (by_cause (IfErr-at_err (λ f. (f ≡ Failed) ⊎ (f ≡ OutOfMemory)) was causes))
  where
    when_failed : fault ≡ Failed → IsStep old mid mid before before (Err fault)
    when_failed e = subst (λ (f : LineFault). IsStep old mid mid before before (Err f)) (sym e)
        (step_failed old mid before before (failed (was ∙ ap Err e)) (wanting (was ∙ ap Err e)) refl)

    when_lacking : fault ≡ OutOfMemory → IsStep old mid mid before before (Err fault)
    when_lacking e = subst (λ (f : LineFault). IsStep old mid mid before before (Err f)) (sym e)
        (step_no_memory old mid mid before before (lacking (was ∙ ap Err e)) refl refl)

    by_cause : (fault ≡ Failed) ⊎ (fault ≡ OutOfMemory) → IsStep old mid mid before before (Err fault)
    by_cause (inl e) = when_failed e
    by_cause (inr e) = when_lacking e

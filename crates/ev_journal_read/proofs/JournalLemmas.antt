-- The lines of a journal, as a reader of lines gives them one after another.
use Rattle.std.proofs.Common.{◌≡◌, ◌≢◌, ℕ, ◌+◌, ◌<◌, ◌≤◌, Bool, true, false, List, [], ◌∷◌, ◌++◌, length, map, take, drop, IsTrue, Option, None, Some, Vec, Result, Ok, Err, refl, sym, ap, subst, ◌∙◌, ◌⊎◌, inl, inr, arith, append_assoc, append-nil, length-drop, length-take-le}
use Rattle.std.proofs.Math.Seq.{take-add}
use Rattle.std.proofs.lemmas.List.{drop-append-le, drop_all, length-take}
use Rattle.std.proofs.lemmas.List.{map-append}
use Rattle.std.proofs.lemmas.List.Elements.{All-push}
use Rattle.std.specs.Io.KnownBytes.{prepend_known, IsAtEnd}
use Rattle.std.specs.declared.alloc.Global.{Global}
use Rattle.ev_io.specs.declared.limits.TheConstants.{MAX_PIECE_BYTES}
use Rattle.ev_io.specs.declared.faults.LineFault.{LineFault}
use Rattle.ev_io.specs.declared.faults.LineFault.TheVariants as limit
use Rattle.ev_io.specs.declared.faults.LineEnd.{LineEnd}
use Rattle.ev_io.specs.declared.faults.LineEnd.TheVariants.{Line, End}
use Rattle.ev_io.specs.declared.faults.ScriptFault.{ScriptFault}
use Rattle.ev_io.specs.declared.faults.ScriptFault.TheVariants.{Bad, OutOfMemory}
use Rattle.ev_io.specs.Lines.{lines_of}
use Rattle.ev_io.specs.Outside.{Takes}
use Rattle.ev_io.specs.LinesState.{LinesState, HasTaken}
use Rattle.ev_io.specs.ReadLine.{GivesLine, ReachesEnd, TellsFault, FailsToRead, IsUnfinished, Means, ReadsLine}
use Rattle.ev_types.specs.declared.journals.Format.{Format}
use Rattle.ev_types.specs.declared.journals.Row.{Row}
use Rattle.ev_script.specs.declared.fault_kinds.FaultKind.TheVariants.{NotJournal}
use Rattle.ev_script.specs.Faults.{fault_number}
use Rattle.ev_script.specs.ReadInput.{script_fault}
use Rattle.ev_script.proofs.StepLemmas.{few_lines}
use Rattle.ev_journal.specs.Rows.{IsTextOf, row_text}
use Rattle.ev_journal_read.specs.Journals.{first_text, texts_of, AreMeant, IsJournalTo, IsMisplaced, given_between, GoesOn, IsRead, IsRowsAnswer}

-- ---- bytes

prepend_known-append : (xs ys : List ℕ) (known : Option (List ℕ)) → prepend_known xs (prepend_known ys known) ≡ prepend_known (xs ++ ys) known
prepend_known-append xs ys None = refl
prepend_known-append xs ys (Some zs) = ap Some (sym (append_assoc xs ys zs))

-- what was taken before, and what the call took
takes_both : (before now after : Option (List ℕ)) (taken more : List ℕ) → Takes before now taken → Takes now after more → Takes before after (taken ++ more)
takes_both before now after taken more e f = e ∙ ap (prepend_known taken) f ∙ prepend_known-append taken more after

takes_nothing : (now : Option (List ℕ)) → Takes now now []
takes_nothing None = refl
takes_nothing (Some xs) = refl

-- ---- lines

-- a line more is given
line_more : (old_lines lines : List (List ℕ)) (k n m : ℕ) (text : List ℕ) → k ≤ n → take n lines ≡ take n old_lines → m ≡ n + 1 → drop n lines ≡ text ∷ drop m lines
    → drop k (take m lines) ≡ drop k (take n old_lines) ++ text ∷ []
line_more old_lines lines k n m text behind kept number line =
    let some : n < length lines = omega (arith, ap length line, length-drop n lines) in
    let long : length (take n lines) ≡ n = length-take-le n lines (omega arith) in
    ap (λ (i : ℕ). drop k (take i lines)) number
    ∙ ap (drop k) (take-add n 1 lines ∙ ap (λ (rest : List (List ℕ)). take n lines ++ take 1 rest) line)
    ∙ drop-append-le k (take n lines) (text ∷ []) (omega arith)
    ∙ ap (λ (front : List (List ℕ)). drop k front ++ text ∷ []) kept

-- no line is given
lines_same : (old_lines lines : List (List ℕ)) (k n m : ℕ) → take n lines ≡ take n old_lines → m ≡ n → drop k (take m lines) ≡ drop k (take n old_lines)
lines_same old_lines lines k n m kept number = ap (λ (i : ℕ). drop k (take i lines)) number ∙ ap (drop k) kept

nothing_between : (lines : List (List ℕ)) (n : ℕ) → drop n (take n lines) ≡ []
nothing_between lines n = drop_all n (take n lines) (omega (arith, length-take n lines))

-- ---- a line that is taken

abbrev MeansRow : Row → Type 0
MeansRow row = IsTextOf (row_text row) row

meant_row : (text : List ℕ) (row : Row) → IsTextOf text row → MeansRow row
meant_row text row h = record { is_row = h.is_row; chosen = h.chosen; same = refl }

-- a row joins those that were read
pub row_added : (rows more_rows : List Row) (ended : Bool) (row : Row) (text : List ℕ) → ended ≡ false → more_rows ≡ rows ++ row ∷ [] → IsTextOf text row
    → (AreMeant rows → AreMeant more_rows) × (texts_of more_rows ended ≡ texts_of rows ended ++ text ∷ [])
row_added rows more_rows ended row text unclosed more h = (
  λ meant. subst AreMeant (sym more) (All-push MeansRow rows row meant (meant_row text row h)),
  ap (texts_of more_rows) unclosed ∙ ap (map row_text) more ∙ map-append row_text rows (row ∷ [])
      ∙ ap (λ (t : List ℕ). map row_text rows ++ t ∷ []) h.same
      ∙ ap (λ (b : Bool). texts_of rows b ++ text ∷ []) (sym unclosed),
)

-- ---- reading

-- a call for a line took more bytes, and this is its answer
abbrev pub Reads : Option (List ℕ) → Option (List ℕ) → LinesState → LinesState → List ℕ → List ℕ → Result LineEnd LineFault → Type 0
Reads now after old new out text answer = (more : List ℕ) × Takes now after more × ((bytes : List ℕ) → HasTaken old bytes → ReadsLine old new bytes more out text answer)

-- rows were read, and the end line or not yet
pub record IsReading (before now : Option (List ℕ)) (start state : LinesState) (rows : List Row) (ended : Bool) : Type 0 where
  pub more : List ℕ
  pub takes : Takes before now more
  pub untold : state.told ≡ None
  pub later : start.given ≤ state.given
  pub meant : AreMeant rows
  pub taken : (bytes : List ℕ) → HasTaken start bytes → HasTaken state (bytes ++ more)
  pub lines : (bytes : List ℕ) → HasTaken start bytes → given_between start state (bytes ++ more) ≡ texts_of rows ended
  -- no line was given, where each was before
  pub still : (bytes : List ℕ) → HasTaken start bytes → IsTrue start.ended → length (lines_of bytes) ≤ start.given → (more ≡ []) × (state ≡ start)

-- what is ensured at the end
abbrev pub Exits : ℕ → List ℕ → Option (List ℕ) → Option (List ℕ) → LinesState → LinesState → Result (Format × Vec Row Global) ScriptFault → Type 0
Exits workers first before after start new answer =
    (more : List ℕ) × Takes before after more × ((bytes : List ℕ) → HasTaken start bytes → GoesOn start new bytes more × IsRowsAnswer workers first start new (bytes ++ more) answer)

pub reading_none : (now : Option (List ℕ)) (state : LinesState) (rows : List Row) → state.told ≡ None → rows ≡ [] → IsReading now now state state rows false
reading_none now state rows untold none = record {
  more = [];
  takes = takes_nothing now;
  untold = untold;
  later = omega arith;
  meant = subst AreMeant (sym none) (λ k d h. absurd (omega arith));
  taken = λ bytes h. subst (HasTaken state) (sym (append-nil bytes)) h;
  lines = λ bytes h. nothing_between (lines_of (bytes ++ [])) state.given ∙ ap (λ (rs : List Row). texts_of rs false) (sym none);
  still = λ bytes h end all. (refl, refl);
}

-- the call, after all that was taken before it
the_call : (before now after : Option (List ℕ)) (start old new : LinesState) (rows : List Row) (ended : Bool) (out text : List ℕ) (answer : Result LineEnd LineFault)
    → (r : IsReading before now start old rows ended) → (call : Reads now after old new out text answer) → (bytes : List ℕ) → HasTaken start bytes
    → ReadsLine old new (bytes ++ r.more) call.0 out text answer
the_call before now after start old new rows ended out text answer r call bytes h = call.2 (bytes ++ r.more) (r.taken bytes h)

-- after the call this was taken
taken_after : (before now after : Option (List ℕ)) (start old new : LinesState) (rows : List Row) (ended : Bool) (out text : List ℕ) (answer : Result LineEnd LineFault)
    → (r : IsReading before now start old rows ended) → (call : Reads now after old new out text answer) → (bytes : List ℕ) → HasTaken start bytes
    → HasTaken new (bytes ++ (r.more ++ call.0))
taken_after before now after start old new rows ended out text answer r call bytes h =
    subst (HasTaken new) (append_assoc bytes r.more call.0) (the_call before now after start old new rows ended out text answer r call bytes h).taken

-- no call gives fewer lines
line_onward : (old new : LinesState) (all out text : List ℕ) (answer : Result LineEnd LineFault) → Means old new all out text answer → old.given ≤ new.given
line_onward old new all out text (Ok Line) means = let number : new.given ≡ old.given + 1 = means.number in omega arith
line_onward old new all out text (Ok End) means = let number : new.given ≡ old.given = means.0.number in omega arith
line_onward old new all out text (Err limit.TooLong) means = let number : new.given ≡ old.given = means.0.number in omega arith
line_onward old new all out text (Err limit.TooMany) means = let number : new.given ≡ old.given = means.0.number in omega arith
line_onward old new all out text (Err limit.TooLarge) means = let number : new.given ≡ old.given = means.0.number in omega arith
line_onward old new all out text (Err limit.Failed) means = let number : new.given ≡ old.given = means.0.number in omega arith
line_onward old new all out text (Err limit.OutOfMemory) means = let number : new.given ≡ old.given = means.0.number in omega arith

-- where the source had given its end, a call takes nothing
takes_none : (old new : LinesState) (bytes more out text : List ℕ) (answer : Result LineEnd LineFault) → ReadsLine old new bytes more out text answer → IsTrue old.ended → more ≡ []
takes_none old new bytes more out text answer reads end = by_need reads.needed
  where
    by_need : (more ≡ []) ⊎ ((n : ℕ) × (n < length more) × (length more ≤ n + MAX_PIECE_BYTES) × IsUnfinished old.given old.ended (bytes ++ take n more)) → more ≡ []
    by_need (inl none) = none
    by_need (inr some) = absurd (some.3.goes_on end)

-- so nothing was taken at all, where each line was given before
nothing_more : (before now after : Option (List ℕ)) (start old new : LinesState) (rows : List Row) (ended : Bool) (out text : List ℕ) (answer : Result LineEnd LineFault)
    → (r : IsReading before now start old rows ended) → (call : Reads now after old new out text answer) → (bytes : List ℕ) → HasTaken start bytes
    → IsTrue start.ended → length (lines_of bytes) ≤ start.given → r.more ++ call.0 ≡ []
nothing_more before now after start old new rows ended out text answer r call bytes h end all =
    let still = r.still bytes h end all in
    let none : call.0 ≡ [] =
    takes_none old new (bytes ++ r.more) call.0 out text answer (the_call before now after start old new rows ended out text answer r call bytes h)
    (subst (λ (s : LinesState). IsTrue s.ended) (sym still.1) end) in
    λ i. still.0 i ++ none i

-- how it goes on after the call
goes_after : (before now after : Option (List ℕ)) (start old new : LinesState) (rows : List Row) (ended : Bool) (out text : List ℕ) (answer : Result LineEnd LineFault)
    → (r : IsReading before now start old rows ended) → (call : Reads now after old new out text answer) → (bytes : List ℕ) → HasTaken start bytes
    → GoesOn start new bytes (r.more ++ call.0)
goes_after before now after start old new rows ended out text answer r call bytes h =
    let reads : ReadsLine old new (bytes ++ r.more) call.0 out text answer = the_call before now after start old new rows ended out text answer r call bytes h in
    let onward : old.given ≤ new.given = line_onward old new ((bytes ++ r.more) ++ call.0) out text answer reads.means in
    let later : start.given ≤ old.given = r.later in
    record {
      taken = taken_after before now after start old new rows ended out text answer r call bytes h;
      onward = omega arith;
      still = λ end all. nothing_more before now after start old new rows ended out text answer r call bytes h end all;
    }

-- nothing was done
goes_not : (state : LinesState) (bytes : List ℕ) → HasTaken state bytes → GoesOn state state bytes []
goes_not state bytes h = record { taken = subst (HasTaken state) (sym (append-nil bytes)) h; onward = omega arith; still = λ end all. refl }

-- a line is given only where not each was given before
not_each : (before now after : Option (List ℕ)) (start old new : LinesState) (rows : List Row) (ended : Bool) (out text : List ℕ)
    → (r : IsReading before now start old rows ended) → (call : Reads now after old new out text (Ok Line)) → (bytes : List ℕ) → HasTaken start bytes
    → IsTrue start.ended → length (lines_of bytes) ≤ start.given → ⊥
not_each before now after start old new rows ended out text r call bytes h end all =
    let reads : ReadsLine old new (bytes ++ r.more) call.0 out text (Ok Line) = the_call before now after start old new rows ended out text (Ok Line) r call bytes h in
    let means : GivesLine old new ((bytes ++ r.more) ++ call.0) text = reads.means in
    let none : r.more ++ call.0 ≡ [] = nothing_more before now after start old new rows ended out text (Ok Line) r call bytes h end all in
    let same : (bytes ++ r.more) ++ call.0 ≡ bytes = append_assoc bytes r.more call.0 ∙ ap (λ (bs : List ℕ). bytes ++ bs) none ∙ append-nil bytes in
    let given : old.given ≡ start.given = ap (λ (s : LinesState). s.given) (r.still bytes h end all).1 in
    let lines : length (lines_of ((bytes ++ r.more) ++ call.0)) ≡ length (lines_of bytes) = ap (λ (bs : List ℕ). length (lines_of bs)) same in
    omega (arith, ap length means.line, length-drop old.given (lines_of ((bytes ++ r.more) ++ call.0)))

-- the lines given with the next one
lines_after : (before now after : Option (List ℕ)) (start old new : LinesState) (rows : List Row) (ended : Bool) (out text : List ℕ)
    → (r : IsReading before now start old rows ended) → (call : Reads now after old new out text (Ok Line)) → (bytes : List ℕ) → HasTaken start bytes
    → given_between start new (bytes ++ (r.more ++ call.0)) ≡ texts_of rows ended ++ text ∷ []
lines_after before now after start old new rows ended out text r call bytes h =
    let reads : ReadsLine old new (bytes ++ r.more) call.0 out text (Ok Line) = the_call before now after start old new rows ended out text (Ok Line) r call bytes h in
    let means : GivesLine old new ((bytes ++ r.more) ++ call.0) text = reads.means in
    ap (λ (all : List ℕ). given_between start new all) (sym (append_assoc bytes r.more call.0))
    ∙ line_more (lines_of (bytes ++ r.more)) (lines_of ((bytes ++ r.more) ++ call.0)) start.given old.given new.given text r.later reads.kept means.number means.line
    ∙ ap (λ (texts : List (List ℕ)). texts ++ text ∷ []) (r.lines bytes h)

-- the lines given, where the call gave none
lines_still : (before now after : Option (List ℕ)) (start old new : LinesState) (rows : List Row) (ended : Bool) (out text : List ℕ) (answer : Result LineEnd LineFault)
    → (r : IsReading before now start old rows ended) → (call : Reads now after old new out text answer) → (bytes : List ℕ) → HasTaken start bytes → new.given ≡ old.given
    → given_between start new (bytes ++ (r.more ++ call.0)) ≡ texts_of rows ended
lines_still before now after start old new rows ended out text answer r call bytes h number =
    let reads : ReadsLine old new (bytes ++ r.more) call.0 out text answer = the_call before now after start old new rows ended out text answer r call bytes h in
    ap (λ (all : List ℕ). given_between start new all) (sym (append_assoc bytes r.more call.0))
    ∙ lines_same (lines_of (bytes ++ r.more)) (lines_of ((bytes ++ r.more) ++ call.0)) start.given old.given new.given reads.kept number
    ∙ r.lines bytes h

-- how many lines were given
pub few_given : (before now : Option (List ℕ)) (start state : LinesState) (rows : List Row) (ended : Bool) → IsReading before now start state rows ended → (bytes : List ℕ) → HasTaken start bytes
    → state.given ≤ 200000
few_given before now start state rows ended r bytes h = few_lines state (bytes ++ r.more) (r.taken bytes h)

pub few_after : (before now after : Option (List ℕ)) (start old new : LinesState) (rows : List Row) (ended : Bool) (out text : List ℕ) (answer : Result LineEnd LineFault)
    → IsReading before now start old rows ended → Reads now after old new out text answer → (bytes : List ℕ) → HasTaken start bytes → new.given ≤ 200000
few_after before now after start old new rows ended out text answer r call bytes h =
    few_lines new (bytes ++ (r.more ++ call.0)) (taken_after before now after start old new rows ended out text answer r call bytes h)

pub one_more : (before now after : Option (List ℕ)) (start old new : LinesState) (rows : List Row) (ended : Bool) (out text : List ℕ)
    → IsReading before now start old rows ended → Reads now after old new out text (Ok Line) → (bytes : List ℕ) → HasTaken start bytes → new.given ≡ old.given + 1
one_more before now after start old new rows ended out text r call bytes h =
    let reads : ReadsLine old new (bytes ++ r.more) call.0 out text (Ok Line) = the_call before now after start old new rows ended out text (Ok Line) r call bytes h in
    let means : GivesLine old new ((bytes ++ r.more) ++ call.0) text = reads.means in
    means.number

-- a line that is in its place
pub reading_more : (before now after : Option (List ℕ)) (start old new : LinesState) (rows more_rows : List Row) (ended more_ended : Bool) (out text : List ℕ)
    → IsReading before now start old rows ended → Reads now after old new out text (Ok Line) → (bytes : List ℕ) → HasTaken start bytes
    → (AreMeant rows → AreMeant more_rows) → texts_of more_rows more_ended ≡ texts_of rows ended ++ text ∷ [] → IsReading before after start new more_rows more_ended
reading_more before now after start old new rows more_rows ended more_ended out text r call some taken meant texts =
    let reads : ReadsLine old new (some ++ r.more) call.0 out text (Ok Line) = the_call before now after start old new rows ended out text (Ok Line) r call some taken in
    let means : GivesLine old new ((some ++ r.more) ++ call.0) text = reads.means in
    let number : new.given ≡ old.given + 1 = means.number in
    let later : start.given ≤ old.given = r.later in
    record {
      more = r.more ++ call.0;
      takes = takes_both before now after r.more call.0 r.takes call.1;
      untold = means.untold;
      later = omega arith;
      meant = meant r.meant;
      taken = taken_after before now after start old new rows ended out text (Ok Line) r call;
      lines = λ bytes h. lines_after before now after start old new rows ended out text r call bytes h ∙ sym texts;
      still = λ bytes h end all. absurd (not_each before now after start old new rows ended out text r call bytes h end all);
    }

-- ---- ends

module _ (workers : ℕ) (first : List ℕ) where
  pub exit_first : (now : Option (List ℕ)) (state : LinesState) (line : ℕ) → ((format : Format) → first ≢ first_text format workers) → line ≡ state.given
      → Exits workers first now now state state (Err (Bad line (fault_number NotJournal)))
  exit_first now state line wrong here = (
    [],
    takes_nothing now,
    λ bytes h. (goes_not state bytes h, inl (record { wrong = wrong; nothing = refl; here = here; numbered = refl })),
  )

  pub exit_early : (now : Option (List ℕ)) (state : LinesState) → Exits workers first now now state state (Err OutOfMemory)
  exit_early now state = ([], takes_nothing now, λ bytes h. (goes_not state bytes h, tt))

  module _ (before now after : Option (List ℕ)) (start old new : LinesState) (format : Format) (rows : List Row) (ended : Bool) (out text : List ℕ)
      (head : first ≡ first_text format workers) (r : IsReading before now start old rows ended) where
    pub exit_memory : (answer : Result LineEnd LineFault) → Reads now after old new out text answer → Exits workers first before after start new (Err OutOfMemory)
    exit_memory answer call = (
      r.more ++ call.0,
      takes_both before now after r.more call.0 r.takes call.1,
      λ bytes h. (goes_after before now after start old new rows ended out text answer r call bytes h, tt),
    )

    pub exit_line : (line : ℕ) → Reads now after old new out text (Ok Line) → IsMisplaced rows ended text → line ≡ new.given
        → Exits workers first before after start new (Err (Bad line (fault_number NotJournal)))
    exit_line line call misplaced here = (
      r.more ++ call.0,
      takes_both before now after r.more call.0 r.takes call.1,
      λ bytes h. (
        goes_after before now after start old new rows ended out text (Ok Line) r call bytes h,
        inr (inl (record {
          format = format;
          rows = rows;
          ended = ended;
          before = texts_of rows ended;
          text = text;
          journal = record { head = head; meant = r.meant; lines = refl };
          lines = lines_after before now after start old new rows ended out text r call bytes h;
          misplaced = misplaced;
          here = here;
          numbered = refl;
        })),
      ),
    )

    -- the journal is as far as it was
    journal_still : (answer : Result LineEnd LineFault) (call : Reads now after old new out text answer) (bytes : List ℕ) → HasTaken start bytes → new.given ≡ old.given
        → IsJournalTo workers first (given_between start new (bytes ++ (r.more ++ call.0))) format rows ended
    journal_still answer call bytes h number =
        record { head = head; meant = r.meant; lines = lines_still before now after start old new rows ended out text answer r call bytes h number }

    pub fault_exit : (fault : LineFault) (call : Reads now after old new out text (Err fault)) (bytes : List ℕ) → HasTaken start bytes
        → IsRowsAnswer workers first start new (bytes ++ (r.more ++ call.0)) (Err (script_fault new.given fault))
    fault_exit limit.TooLong call bytes h =
        let all = append_assoc bytes r.more call.0 in
        let reads : ReadsLine old new (bytes ++ r.more) call.0 out text (Err limit.TooLong) = the_call before now after start old new rows ended out text (Err limit.TooLong) r call bytes h in
        let tells : TellsFault old new (bytes ++ (r.more ++ call.0)) limit.TooLong = subst (λ (b : List ℕ). TellsFault old new b limit.TooLong) all reads.means.0 in
        inr (inr (inr (record {
          format = format;
          rows = rows;
          end = ended;
          journal = journal_still (Err limit.TooLong) call bytes h tells.number;
          fault = limit.TooLong;
          place = tells.first.0;
          stands = tells.first.1;
          behind = tells.first.2;
          here = refl;
          numbered = refl;
        })))
    fault_exit limit.TooMany call bytes h =
        let all = append_assoc bytes r.more call.0 in
        let reads : ReadsLine old new (bytes ++ r.more) call.0 out text (Err limit.TooMany) = the_call before now after start old new rows ended out text (Err limit.TooMany) r call bytes h in
        let tells : TellsFault old new (bytes ++ (r.more ++ call.0)) limit.TooMany = subst (λ (b : List ℕ). TellsFault old new b limit.TooMany) all reads.means.0 in
        inr (inr (inr (record {
          format = format;
          rows = rows;
          end = ended;
          journal = journal_still (Err limit.TooMany) call bytes h tells.number;
          fault = limit.TooMany;
          place = tells.first.0;
          stands = tells.first.1;
          behind = tells.first.2;
          here = refl;
          numbered = refl;
        })))
    fault_exit limit.TooLarge call bytes h =
        let all = append_assoc bytes r.more call.0 in
        let reads : ReadsLine old new (bytes ++ r.more) call.0 out text (Err limit.TooLarge) = the_call before now after start old new rows ended out text (Err limit.TooLarge) r call bytes h in
        let tells : TellsFault old new (bytes ++ (r.more ++ call.0)) limit.TooLarge = subst (λ (b : List ℕ). TellsFault old new b limit.TooLarge) all reads.means.0 in
        inr (inr (inr (record {
          format = format;
          rows = rows;
          end = ended;
          journal = journal_still (Err limit.TooLarge) call bytes h tells.number;
          fault = limit.TooLarge;
          place = tells.first.0;
          stands = tells.first.1;
          behind = tells.first.2;
          here = refl;
          numbered = refl;
        })))
    fault_exit limit.Failed call bytes h =
        let all = append_assoc bytes r.more call.0 in
        let reads : ReadsLine old new (bytes ++ r.more) call.0 out text (Err limit.Failed) = the_call before now after start old new rows ended out text (Err limit.Failed) r call bytes h in
        let fails : FailsToRead old new (bytes ++ (r.more ++ call.0)) = subst (FailsToRead old new) all reads.means.0 in
        record { format = format; rows = rows; end = ended; journal = journal_still (Err limit.Failed) call bytes h fails.number; unfinished = fails.unfinished }
    fault_exit limit.OutOfMemory call bytes h = tt

    pub exit_fault : (fault : LineFault) → Reads now after old new out text (Err fault) → Exits workers first before after start new (Err (script_fault new.given fault))
    exit_fault fault call = (
      r.more ++ call.0,
      takes_both before now after r.more call.0 r.takes call.1,
      λ bytes h. (goes_after before now after start old new rows ended out text (Err fault) r call bytes h, fault_exit fault call bytes h),
    )

    end_reached : (call : Reads now after old new out text (Ok End)) (bytes : List ℕ) → HasTaken start bytes → ReachesEnd old new (bytes ++ (r.more ++ call.0))
    end_reached call bytes h =
        let reads : ReadsLine old new (bytes ++ r.more) call.0 out text (Ok End) = the_call before now after start old new rows ended out text (Ok End) r call bytes h in
        subst (ReachesEnd old new) (append_assoc bytes r.more call.0) reads.means.0

    pub exit_endless : (line : ℕ) → Reads now after old new out text (Ok End) → ended ≡ false → line ≡ new.given + 1 → Exits workers first before after start new (Err (Bad line (fault_number NotJournal)))
    exit_endless line call unclosed here = (
      r.more ++ call.0,
      takes_both before now after r.more call.0 r.takes call.1,
      λ bytes h. let end = end_reached call bytes h in (
        goes_after before now after start old new rows ended out text (Ok End) r call bytes h,
        inr (inr (inl (record {
          format = format;
          rows = rows;
          journal = subst (λ (b : Bool). IsJournalTo workers first (given_between start new (bytes ++ (r.more ++ call.0))) format rows b) unclosed (journal_still (Ok End) call bytes h end.number);
          ended = end.ended;
          all = end.lines;
          sound = end.sound;
          here = here;
          numbered = refl;
        }))),
      ),
    )

    pub end_read : (call : Reads now after old new out text (Ok End)) → ended ≡ true → (bytes : List ℕ) → HasTaken start bytes → IsRead workers first start new (bytes ++ (r.more ++ call.0)) format rows
    end_read call whole bytes h =
        let end = end_reached call bytes h in
        record {
          journal = subst (λ (b : Bool). IsJournalTo workers first (given_between start new (bytes ++ (r.more ++ call.0))) format rows b) whole (journal_still (Ok End) call bytes h end.number);
          ended = end.ended;
          all = end.lines;
          sound = end.sound;
        }

-- the journal was read to its end
pub exit_whole : (workers : ℕ) (first : List ℕ) (before now after : Option (List ℕ)) (start old new : LinesState) (format : Format) (rows : Vec Row Global) (ended : Bool) (out text : List ℕ)
    → first ≡ first_text format workers → IsReading before now start old rows.items ended → Reads now after old new out text (Ok End) → ended ≡ true
    → Exits workers first before after start new (Ok (format, rows))
exit_whole workers first before now after start old new format rows ended out text head r call whole = (
  r.more ++ call.0,
  takes_both before now after r.more call.0 r.takes call.1,
  λ bytes h. (
    goes_after before now after start old new rows.items ended out text (Ok End) r call bytes h,
    end_read workers first before now after start old new format rows.items ended out text head r call whole bytes h,
  ),
)

-- a source at its end stays there
pub still_at_end : {S : Type 0} (left : S → Option (List ℕ)) (source other : S) (old new : LinesState) (bytes : List ℕ) (P : Type 0) → (IsTrue old.ended → P ⊎ IsAtEnd (left source))
    → (IsTrue new.ended → IsTrue old.ended ⊎ IsAtEnd (left other)) → (other ≡ source) ⊎ IsUnfinished old.given old.ended bytes → IsTrue new.ended → P ⊎ IsAtEnd (left other)
still_at_end left source other old new bytes P before here touched ended = by_end (here ended) touched
  where
    same_end : other ≡ source → P ⊎ IsAtEnd (left source) → P ⊎ IsAtEnd (left other)
    same_end same (inl p) = inl p
    same_end same (inr end) = inr (subst (λ (s : _). IsAtEnd (left s)) (sym same) end)

    by_end : IsTrue old.ended ⊎ IsAtEnd (left other) → (other ≡ source) ⊎ IsUnfinished old.given old.ended bytes → P ⊎ IsAtEnd (left other)
    by_end (inr end) t = inr end
    by_end (inl was) (inl same) = same_end same (before was)
    by_end (inl was) (inr u) = absurd (u.goes_on was)

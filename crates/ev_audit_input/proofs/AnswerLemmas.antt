-- What is answered, by the answers of the readers of the script and of the rows.
use Rattle.std.proofs.Common.{◌≡◌, ℕ, ◌+◌, ◌<◌, ◌≤◌, Bool, true, false, List, [], ◌∷◌, ◌++◌, length, take, drop, IsTrue, Option, None, Some, Vec, Result, Ok, Err, refl, sym, ap, subst, ◌∙◌, ◌⊎◌, inl, inr, arith, length-append, length-drop, append-nil}
use Rattle.std.proofs.lemmas.List.{take_all, length-take}
use Rattle.std.specs.Io.KnownBytes.{IsAtEnd}
use Rattle.std.specs.declared.alloc.Global.{Global}
use Rattle.ev_keys.specs.declared.Keys.{Keys}
use Rattle.ev_io.specs.declared.limits.TheConstants.{MAX_INPUT_BYTES}
use Rattle.ev_io.specs.declared.faults.LineFault.{LineFault}
use Rattle.ev_io.specs.declared.faults.LineFault.TheVariants as limit
use Rattle.ev_io.specs.declared.faults.ScriptFault.{ScriptFault}
use Rattle.ev_io.specs.declared.faults.ScriptFault.TheVariants.{Bad, Read, OutOfMemory}
use Rattle.ev_io.specs.Lines.{lines_of, feeds_in}
use Rattle.ev_io.specs.Outside.{Takes}
use Rattle.ev_io.specs.ReadLine.{LeavesOpen}
use Rattle.ev_io.specs.LinesState.{LinesState, HasTaken, IsWithin}
use Rattle.ev_io.proofs.GrowLemmas.{open_both}
use Rattle.ev_io.proofs.Known.{takes_both}
use Rattle.ev_io.proofs.ReadLemmas.{no_length}
use Rattle.ev_types.specs.Scripts.{ScriptParts}
use Rattle.ev_types.specs.declared.journals.Format.{Format}
use Rattle.ev_types.specs.declared.journals.Row.{Row}
use Rattle.ev_script.specs.declared.fault_kinds.FaultKind.{FaultKind}
use Rattle.ev_script.specs.declared.fault_kinds.FaultKind.TheVariants.{TooLong, TooMany, TooLarge}
use Rattle.ev_script.specs.Faults.{Input, index_at, fault_number, plain_lines}
use Rattle.ev_script.specs.Script.{script_of}
use Rattle.ev_script.specs.ReadInput.{input_of, IsTold, IsUpToJournal}
use Rattle.ev_script.proofs.PlaceLemmas.{feeds_up_to}
use Rattle.ev_script.proofs.StepLemmas.{few_lines}
use Rattle.ev_script.proofs.LimitLemmas.{Tells}
use Rattle.ev_journal_read.specs.Journals.{texts_of, IsJournalTo, given_between, GoesOn, IsRead, IsWrongFirst, IsWrongLine, IsEndless, LimitNumber, IsPastLimit, IsCutOff, IsRowsAnswer}
use Rattle.ev_audit_input.specs.Faults.{IsToldWithJournal, IsFaultWithJournal, HasNoFaultWithJournal}
use Rattle.ev_audit_input.specs.Parts.{IsParts, ReadsAuditInput}
use Rattle.ev_audit_input.proofs.InPlace.{count_ended, wrong_next}
use Rattle.ev_audit_input.proofs.ScriptFaults.{script_fault, script_sound}
use Rattle.ev_audit_input.proofs.UpTo.{IsOpenEnd, IsJoined, joined}
use Rattle.ev_audit_input.proofs.Joined.{first_wrong, all_sound, goes_sound, end_missing, past_limit, next_wrong, parts_of}

-- ---- the script

bytes_within : (state : LinesState) (bytes : List ℕ) → HasTaken state bytes → IsWithin state → length bytes ≤ MAX_INPUT_BYTES + 1
bytes_within state bytes taken within = omega (arith, taken.count, within.taken)

-- the script has a fault, or a read failed
pub script_answer : (before after : Option (List ℕ)) (state : LinesState) (fault : ScriptFault) → IsWithin state → (IsTrue state.ended → IsAtEnd after)
    → (bytes : List ℕ) × Takes before after bytes × HasTaken state bytes × IsTold plain_lines (input_of true state bytes) fault → ReadsAuditInput before after (Err fault)
script_answer before after state (Bad line number) within ended read = record {
  input = input_of true state read.0;
  asked = refl;
  taken = read.1;
  at_most = bytes_within state read.0 read.2 within;
  ended = ended;
  is = script_fault (input_of true state read.0) line number read.3;
}
script_answer before after state Read within ended read = record {
  input = input_of true state read.0;
  asked = refl;
  taken = read.1;
  at_most = bytes_within state read.0 read.2 within;
  ended = ended;
  is = (script_sound (input_of true state read.0) read.3.0 read.3.1 read.3.2, read.3.1);
}
script_answer before after state OutOfMemory within ended read = record {
  input = input_of true state read.0;
  asked = refl;
  taken = read.1;
  at_most = bytes_within state read.0 read.2 within;
  ended = ended;
  is = tt;
}

no_byte : (left : Option (List ℕ)) → Takes left left []
no_byte None = refl
no_byte (Some xs) = refl

-- nothing was taken
pub nothing_read : (left : Option (List ℕ)) → ReadsAuditInput left left (Err OutOfMemory)
nothing_read left = record {
  input = record { bytes = []; ended = false; audit = true };
  asked = refl;
  taken = no_byte left;
  at_most = omega arith;
  ended = λ no_end. let f : false ≡ true = no_end in cc;
  is = tt;
}

-- ---- the rows

-- a source at its end stays there
pub stays_at_end : (now after : Option (List ℕ)) (more : List ℕ) → Takes now after more → IsAtEnd now → IsAtEnd after
stays_at_end now None more takes end = tt
stays_at_end None (Some rest) more takes end = absurd (cc)
stays_at_end (Some xs) (Some rest) more takes end =
    let same : xs ≡ more ++ rest = cc in
    let none : length xs ≡ 0 = ap length end in
    no_length rest (omega (arith, ap length same, length-append more rest))

-- the kind of a fault of the limits
kind_of : (fault : LineFault) (number : ℕ) → LimitNumber fault number
    → (kind : FaultKind) × Tells fault kind × (number ≡ fault_number kind) × ((input : Input) (place line : ℕ) → line ≡ index_at input place + 1 → IsToldWithJournal input place kind line)
kind_of limit.TooLong number is = (TooLong, refl, is, λ input place line e. e)
kind_of limit.TooMany number is = (TooMany, refl, is, λ input place line e. e)
kind_of limit.TooLarge number is = (TooLarge, refl, is, λ input place line e. e)
kind_of limit.Failed number is = absurd is
kind_of limit.OutOfMemory number is = absurd is

-- after some bytes, of which the last line given begins the journal, more were taken
module _ (bytes more : List ℕ) (old new : LinesState) (script : ScriptParts) (text : List ℕ) (taken : HasTaken old bytes) (given : old.given ≡ script.count + 1)
    (up : IsUpToJournal plain_lines (input_of true old bytes) script.count text) (reads : script_of true bytes ≡ Some script) (goes : GoesOn old new bytes more) where
  abbrev all : List ℕ
  all = bytes ++ more

  abbrev input : Input
  input = input_of true new all

  -- what was read after it
  read_lines : (texts : List (List ℕ)) → given_between old new all ≡ texts → drop (script.count + 1) (take new.given (lines_of all)) ≡ texts
  read_lines texts lines = ap (λ (n : ℕ). drop n (take new.given (lines_of all))) (sym given) ∙ lines

  -- where it is the last line and isn't closed, no line was given after it, nor a limit passed
  no_lines : IsOpenEnd bytes old script.count → more ≡ [] → length (given_between old new all) ≡ 0
  no_lines end none =
      let same : length (lines_of all) ≡ length (lines_of bytes) = ap (λ (bs : List ℕ). length (lines_of (bytes ++ bs))) none ∙ ap (λ (bs : List ℕ). length (lines_of bs)) (append-nil bytes) in
      omega (arith, end.all, length-drop old.given (take new.given (lines_of all)), length-take new.given (lines_of all))

  few_feeds : IsOpenEnd bytes old script.count → more ≡ [] → feeds_in all < new.given
  few_feeds end none =
      let same : feeds_in all ≡ feeds_in bytes = ap (λ (bs : List ℕ). feeds_in (bytes ++ bs)) none ∙ ap feeds_in (append-nil bytes) in
      omega (arith, end.feeds, goes.onward)

  ends_at : IsTrue new.ended → IsJoined bytes more new script.count text
  ends_at ended = joined bytes more old new script.count text taken given up goes (λ end none. ended)

  whole : IsJoined bytes more new script.count text → script_of true all ≡ Some script
  whole join = join.script ∙ reads

  first_answer : (line number : ℕ) → IsWrongFirst script.workers text old new line number → IsFaultWithJournal input line number
  first_answer line number w =
      let join : IsJoined bytes more new script.count text =
      joined bytes more old new script.count text taken given up goes (λ end none. subst (λ (s : LinesState). IsTrue s.ended) (sym w.nothing) end.ended) in
      subst (IsFaultWithJournal input line) (sym w.numbered) (first_wrong all new script text join.up (whole join) line w.wrong (w.here ∙ given))

  line_answer : (line number : ℕ) → IsWrongLine script.workers text old new all line number → IsFaultWithJournal input line number
  line_answer line number w =
      let join : IsJoined bytes more new script.count text =
      joined bytes more old new script.count text taken given up goes
      (λ end none. absurd (omega (arith, no_lines end none, ap length w.lines, length-append w.before (w.text ∷ [])))) in
      let lines : drop (script.count + 1) (take new.given (lines_of all)) ≡ texts_of w.rows w.ended ++ w.text ∷ [] =
      read_lines (texts_of w.rows w.ended ++ w.text ∷ []) (w.lines ∙ ap (λ (texts : List (List ℕ)). texts ++ w.text ∷ []) w.journal.lines) in
      subst (IsFaultWithJournal input line) (sym w.numbered)
      (next_wrong all new script text join.up (whole join) new.given w.format w.rows w.ended (w.text ∷ []) w.journal.head w.journal.meant lines line w.text refl
      (wrong_next (lines_of all) script.workers script.count new.given w.format w.rows w.ended (w.text ∷ []) (join.up.here ∙ w.journal.head) w.journal.meant lines w.text refl w.misplaced)
      goes.taken refl w.here)

  -- the lines of a journal, with nothing after them
  journal_lines : (format : Format) (rows : List Row) (ended : Bool) → IsJournalTo script.workers text (given_between old new all) format rows ended
      → drop (script.count + 1) (take new.given (lines_of all)) ≡ texts_of rows ended ++ []
  journal_lines format rows ended journal = read_lines (texts_of rows ended ++ []) (journal.lines ∙ sym (append-nil (texts_of rows ended)))

  end_answer : (line number : ℕ) → IsEndless script.workers text old new all line number → IsFaultWithJournal input line number
  end_answer line number e =
      let join : IsJoined bytes more new script.count text = ends_at e.ended in
      subst (IsFaultWithJournal input line) (sym e.numbered)
      (end_missing all new script text join.up (whole join) new.given e.format e.rows false [] e.journal.head e.journal.meant (journal_lines e.format e.rows false e.journal) line refl refl e.ended e.all e.sound e.here)

  limit_answer : (line number : ℕ) → IsPastLimit script.workers text old new all line number → IsFaultWithJournal input line number
  limit_answer line number p =
      let join : IsJoined bytes more new script.count text =
      joined bytes more old new script.count text taken given up goes
      (λ end none.
      let within : p.place < length all = p.stands.within in
      let up_to : feeds_in (take p.place all) ≤ feeds_in (take (length all) all) = feeds_up_to all p.place (length all) (omega arith) in
      let each : feeds_in (take (length all) all) ≡ feeds_in all = ap feeds_in (take_all (length all) all (omega arith)) in
      absurd (omega (arith, few_feeds end none, p.behind))) in
      let kind = kind_of p.fault number p.numbered in
      subst (IsFaultWithJournal input line) (sym kind.2)
      (past_limit all new script text join.up (whole join) new.given p.format p.rows p.end [] p.journal.head p.journal.meant (journal_lines p.format p.rows p.end p.journal) line p.place p.fault kind.0 refl p.stands.within p.stands.stands p.stands.first kind.1 p.behind p.here (kind.3 input p.place))

  pub bad_answer : (line number : ℕ)
      → IsWrongFirst script.workers text old new line number ⊎ (IsWrongLine script.workers text old new all line number
      ⊎ (IsEndless script.workers text old new all line number ⊎ IsPastLimit script.workers text old new all line number))
      → IsFaultWithJournal input line number
  bad_answer line number (inl w) = first_answer line number w
  bad_answer line number (inr (inl w)) = line_answer line number w
  bad_answer line number (inr (inr (inl e))) = end_answer line number e
  bad_answer line number (inr (inr (inr p))) = limit_answer line number p

  pub cut_answer : IsCutOff script.workers text old new all → HasNoFaultWithJournal input × (¬ (IsTrue new.ended))
  cut_answer c =
      let join : IsJoined bytes more new script.count text =
      joined bytes more old new script.count text taken given up goes (λ end none. absurd (omega (arith, few_feeds end none, c.unfinished.closed))) in (
        goes_sound all new script text join.up (whole join) new.given c.format c.rows c.end [] c.journal.head c.journal.meant (journal_lines c.format c.rows c.end c.journal) refl c.unfinished.goes_on c.unfinished.closed c.unfinished.sound,
        c.unfinished.goes_on,
      )

  pub whole_sound : (format : Format) (rows : List Row) → IsRead script.workers text old new all format rows → HasNoFaultWithJournal input
  whole_sound format rows r =
      let join : IsJoined bytes more new script.count text = ends_at r.ended in
      all_sound all new script text join.up (whole join) new.given format rows true [] r.journal.head r.journal.meant (journal_lines format rows true r.journal) refl refl r.all r.sound

  pub whole_parts : (format : Format) (rows : List Row) → IsRead script.workers text old new all format rows → IsParts all format script rows
  whole_parts format rows r =
      let join : IsJoined bytes more new script.count text = ends_at r.ended in
      parts_of all new script text join.up (whole join) new.given format rows true [] r.journal.head r.journal.meant (journal_lines format rows true r.journal) refl refl r.all

-- there are fewer rows than lines
few_rows : (workers : ℕ) (text : List ℕ) (old new : LinesState) (all : List ℕ) (format : Format) (rows : List Row) → IsRead workers text old new all format rows → HasTaken new all → length rows < 200000
few_rows workers text old new all format rows r taken =
    let few : new.given ≤ 200000 = few_lines new all taken in
    omega (arith, ap length r.journal.lines, count_ended rows, length-drop old.given (take new.given (lines_of all)), length-take new.given (lines_of all), r.all)

-- what the reader of the script ensures of a script followed by a journal
pub record IsBehind (before now : Option (List ℕ)) (old : LinesState) (script : ScriptParts) (text : List ℕ) : Type 0 where
  pub bytes : List ℕ
  pub takes : Takes before now bytes
  pub taken : HasTaken old bytes
  pub up : IsUpToJournal plain_lines (input_of true old bytes) script.count text
  pub reads : script_of true bytes ≡ Some script
  pub given : old.given ≡ script.count + 1

-- what the reader of the rows ensures
abbrev pub RowsRead : Option (List ℕ) → Option (List ℕ) → LinesState → LinesState → ℕ → List ℕ → Result (Format × Vec Row Global) ScriptFault → Type 0
RowsRead now after old new workers text answer =
    (more : List ℕ) × Takes now after more × ((bytes : List ℕ) → HasTaken old bytes → GoesOn old new bytes more × IsRowsAnswer workers text old new (bytes ++ more) answer)

-- a source that gave its end is at it
pub still_at_end : (now after : Option (List ℕ)) (old new : LinesState) (workers : ℕ) (text : List ℕ) (answer : Result (Format × Vec Row Global) ScriptFault)
    → RowsRead now after old new workers text answer → (IsTrue old.ended → IsAtEnd now) → (IsTrue new.ended → IsTrue old.ended ⊎ IsAtEnd after) → IsTrue new.ended → IsAtEnd after
still_at_end now after old new workers text answer read was is ended = by_end (is ended)
  where
    by_end : IsTrue old.ended ⊎ IsAtEnd after → IsAtEnd after
    by_end (inl before) = stays_at_end now after read.0 read.1 (was before)
    by_end (inr here) = here

module _ (before now after : Option (List ℕ)) (old new : LinesState) (script : ScriptParts) (text : List ℕ) (s : IsBehind before now old script text)
    (within : IsWithin new) (ended : IsTrue new.ended → IsAtEnd after) where
  pub rows_fault : (fault : ScriptFault) → RowsRead now after old new script.workers text (Err fault) → ReadsAuditInput before after (Err fault)
  rows_fault (Bad line number) read =
      let goes = (read.2 s.bytes s.taken).0 in
      record {
        input = input_of true new (s.bytes ++ read.0);
        asked = refl;
        taken = takes_both before now after s.bytes read.0 s.takes read.1;
        at_most = bytes_within new (s.bytes ++ read.0) goes.taken within;
        ended = ended;
        is = bad_answer s.bytes read.0 old new script text s.taken s.given s.up s.reads goes line number (read.2 s.bytes s.taken).1;
      }
  rows_fault Read read =
      let goes = (read.2 s.bytes s.taken).0 in
      record {
        input = input_of true new (s.bytes ++ read.0);
        asked = refl;
        taken = takes_both before now after s.bytes read.0 s.takes read.1;
        at_most = bytes_within new (s.bytes ++ read.0) goes.taken within;
        ended = ended;
        is = cut_answer s.bytes read.0 old new script text s.taken s.given s.up s.reads goes (read.2 s.bytes s.taken).1;
      }
  rows_fault OutOfMemory read =
      let goes = (read.2 s.bytes s.taken).0 in
      record {
        input = input_of true new (s.bytes ++ read.0);
        asked = refl;
        taken = takes_both before now after s.bytes read.0 s.takes read.1;
        at_most = bytes_within new (s.bytes ++ read.0) goes.taken within;
        ended = ended;
        is = tt;
      }

  pub rows_read : (format : Format) (rows : Vec Row Global) (keys : Keys) → RowsRead now after old new script.workers text (Ok (format, rows))
      → ReadsAuditInput before after (Ok record { format = format; script = script; rows = rows; keys = keys })
  rows_read format rows keys read =
      let goes = (read.2 s.bytes s.taken).0 in
      let r : IsRead script.workers text old new (s.bytes ++ read.0) format rows.items = (read.2 s.bytes s.taken).1 in
      record {
        input = input_of true new (s.bytes ++ read.0);
        asked = refl;
        taken = takes_both before now after s.bytes read.0 s.takes read.1;
        at_most = bytes_within new (s.bytes ++ read.0) goes.taken within;
        ended = ended;
        is = record {
          ended = r.ended;
          sound = whole_sound s.bytes read.0 old new script text s.taken s.given s.up s.reads goes format rows.items r;
          parts = whole_parts s.bytes read.0 old new script text s.taken s.given s.up s.reads goes format rows.items r;
        };
      }

  pub rows_few : (format : Format) (rows : Vec Row Global) → RowsRead now after old new script.workers text (Ok (format, rows)) → length rows.items < 200000
  rows_few format rows read =
      let both = read.2 s.bytes s.taken in
      few_rows script.workers text old new (s.bytes ++ read.0) format rows.items both.1 both.0.taken

-- a read of the rows failed: the source didn't give its end, nor where the script was read before
pub rows_open : {S : Type 0} (ended : S → Bool) (a b d : S) (old now new : LinesState) (workers : ℕ) (first bytes : List ℕ) (fault : ScriptFault)
    → fault ≡ Read → IsRowsAnswer workers first now new bytes (Err fault) → LeavesOpen ended a b old now → LeavesOpen ended b d now new → ended d ≡ ended a
rows_open ended a b d old now new workers first bytes fault same answer script rows =
    let cut : IsCutOff workers first now new bytes = subst (λ (f : ScriptFault). IsRowsAnswer workers first now new bytes (Err f)) same answer in
    (open_both ended a b d old now new script rows).unended cut.unfinished.goes_on

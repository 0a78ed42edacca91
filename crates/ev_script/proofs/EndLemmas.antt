-- How the reading of an input ends.
use Rattle.std.proofs.Common.{◌≡◌, ℕ, ◌+◌, ◌<◌, ◌≤◌, Bool, true, false, cond, List, [], ◌∷◌, ◌++◌, length, take, IsTrue, eqb, Ok, Err, refl, sym, ap, subst, ◌∙◌, ◌⊎◌, inl, inr, arith}
use Rattle.std.proofs.lemmas.List.{take_all}
use Rattle.ev_io.specs.declared.faults.LineFault.{LineFault}
use Rattle.ev_io.specs.declared.faults.LineFault.TheVariants as limit
use Rattle.ev_io.specs.declared.faults.LineEnd.TheVariants.{End}
use Rattle.ev_io.specs.Lines.{lines_of, onto_first, feeds_in}
use Rattle.ev_io.specs.LinesState.{LinesState}
use Rattle.ev_io.specs.ReadLine.{ReadsLine, ReachesEnd, TellsFault, FailsToRead, IsUnfinished}
use Rattle.ev_script.specs.declared.fault_kinds.FaultKind.{FaultKind}
use Rattle.ev_script.specs.declared.fault_kinds.FaultKind.TheVariants.{TooLong, TooMany, TooLarge, NotJson, NotHeader, NotLine, NoSuchWorker, NoByte, NotJournal}
use Rattle.ev_script.specs.declared.forms.Settings.{Settings}
use Rattle.ev_script.specs.Faults.{LineForms, index_at, EndsLine, BeginsJournal, fault_order, fault_line, fault_number, Stands, IsFaultOf, HasNoFault}
use Rattle.ev_script.specs.ReadLines.{AreRead}
use Rattle.ev_script.specs.ReadInput.{input_of, script_fault, IsTold, IsWhole}
use Rattle.ev_script.proofs.PlaceLemmas.{feeds_below, ends_within}
use Rattle.ev_script.proofs.SoundLemmas.{IsSoundAt, sound_at}
use Rattle.ev_script.proofs.FirstLemmas.{no_fault}
use Rattle.ev_script.proofs.LimitLemmas.{Tells, limit_first, sound_line}
use Rattle.ev_script.proofs.StepLemmas.{are_read_same}

-- ---- a fault of the limits, and a read that failed

limit_told : (forms : LineForms) (audit : Bool) (settings : Settings) (old new : LinesState) (all : List ℕ) (fault : LineFault) (kind : FaultKind) → TellsFault old new all fault → Tells fault kind → ((place : ℕ) → fault_line (input_of audit new all) place kind ≡ index_at (input_of audit new all) place + 1) → AreRead forms audit (lines_of all) settings old.given → IsFaultOf forms (input_of audit new all) (new.given + 1) (fault_number kind)
limit_told forms audit settings old new all fault kind means tells line read =
    let place : ℕ = means.first.0 in
    let index : index_at (input_of audit new all) place ≡ new.given = means.first.2 in
    let same : old.given ≡ index_at (input_of audit new all) place = sym means.number ∙ sym index in
    let before : AreRead forms audit (lines_of all) settings (index_at (input_of audit new all) place) = subst (AreRead forms audit (lines_of all) settings) same read in
    record {
      place = place;
      kind = kind;
      first = limit_first forms (input_of audit new all) settings place fault kind means.first.1 tells before;
      before = λ start h b. (sound_line forms (input_of audit new all) settings place start before means.first.1.within b.ends h).journal b;
      told = ap (λ (n : ℕ). n + 1) (sym index) ∙ sym (line place);
      numbered = refl;
    }

-- bytes that were all read to the last line's end, and go on
unfinished_told : (forms : LineForms) (audit : Bool) (settings : Settings) (new : LinesState) (all : List ℕ) (given : ℕ) → IsUnfinished new.given new.ended all → new.given ≡ given → AreRead forms audit (lines_of all) settings given → HasNoFault forms (input_of audit new all) × (¬ (IsTrue new.ended)) × ((start : ℕ) → ¬ (BeginsJournal (input_of audit new all) start))
unfinished_told forms audit settings new all given u number read = (
  no_fault forms (input_of audit new all) settings given read (λ place ends. within place ends) (λ other h. u.sound other h) (λ ended e. u.goes_on ended) (λ asked ended. u.goes_on ended),
  u.goes_on,
  λ start b. (sound_at forms (input_of audit new all) start given settings read (within start b.ends)).journal b,
)
  where
    within : (place : ℕ) → EndsLine (input_of audit new all) place → index_at (input_of audit new all) place < given
    within place (inl feed) =
        let below : feeds_in (take place all) < feeds_in (take (length all) all) = feeds_below all place (length all) feed.0 feed.0 feed.1 in
        let whole : feeds_in (take (length all) all) ≡ feeds_in all = ap feeds_in (take_all (length all) all (omega arith)) in
        let closed : feeds_in all ≡ new.given = u.closed in
        omega arith
    within place (inr end) = absurd (u.goes_on end.0)

pub fault_told : (forms : LineForms) (audit : Bool) (settings : Settings) (old new : LinesState) (bytes more before after : List ℕ) (fault : LineFault) → ReadsLine old new bytes more before after (Err fault) → AreRead forms audit (lines_of bytes) settings old.given → IsTold forms (input_of audit new (bytes ++ more)) (script_fault new.given fault)
fault_told forms audit settings old new bytes more before after limit.TooLong reads read =
    limit_told forms audit settings old new (bytes ++ more) limit.TooLong TooLong reads.means.0 refl (λ place. refl) (are_read_same forms audit (lines_of bytes) (lines_of (bytes ++ more)) settings old.given reads.kept read)
fault_told forms audit settings old new bytes more before after limit.TooMany reads read =
    limit_told forms audit settings old new (bytes ++ more) limit.TooMany TooMany reads.means.0 refl (λ place. refl) (are_read_same forms audit (lines_of bytes) (lines_of (bytes ++ more)) settings old.given reads.kept read)
fault_told forms audit settings old new bytes more before after limit.TooLarge reads read =
    limit_told forms audit settings old new (bytes ++ more) limit.TooLarge TooLarge reads.means.0 refl (λ place. refl) (are_read_same forms audit (lines_of bytes) (lines_of (bytes ++ more)) settings old.given reads.kept read)
fault_told forms audit settings old new bytes more before after limit.Failed reads read =
    let failed : FailsToRead old new (bytes ++ more) = reads.means.0 in
    unfinished_told forms audit settings new (bytes ++ more) old.given failed.unfinished failed.number (are_read_same forms audit (lines_of bytes) (lines_of (bytes ++ more)) settings old.given reads.kept read)
fault_told forms audit settings old new bytes more before after limit.OutOfMemory reads read = tt

-- ---- the end of the input

no_lines : (bs : List ℕ) → length (lines_of bs) ≡ 0 → bs ≡ []
no_lines [] e = refl
no_lines (b ∷ bs) e = by_test (eqb b 10) (lines_of bs) e
  where
    by_test : (t : Bool) (rest : List (List ℕ)) → length (cond t ([] ∷ rest) (onto_first b rest)) ≡ 0 → b ∷ bs ≡ []
    by_test true rest e = absurd (omega (arith, e))
    by_test false [] e = absurd (omega (arith, e))
    by_test false (line ∷ rest) e = absurd (omega (arith, e))

-- no byte at all
pub nothing_told : (forms : LineForms) (audit : Bool) (old new : LinesState) (bytes more before after : List ℕ) → ReadsLine old new bytes more before after (Ok End) → old.given ≡ 0 → IsFaultOf forms (input_of audit new (bytes ++ more)) 1 (fault_number NoByte)
nothing_told forms audit old new bytes more before after reads none =
    let end : ReachesEnd old new (bytes ++ more) = reads.means.0 in
    let empty : bytes ++ more ≡ [] = no_lines (bytes ++ more) (end.lines ∙ end.number ∙ none) in
    record {
      place = 0;
      kind = NoByte;
      first = record { stands = (end.ended, empty, refl); first = λ other kind s. least empty other kind s };
      before = λ start h. absurd (omega arith);
      told = refl;
      numbered = refl;
    }
  where
    nothing_ends : (bs : List ℕ) (ended : Bool) (place : ℕ) → bs ≡ [] → EndsLine record { bytes = bs; ended = ended; audit = audit } place → ⊥
    nothing_ends bs ended place e (inl feed) =
        let h : place < length bs = feed.0 in
        let none : length bs ≡ 0 = ap length e in
        omega arith
    nothing_ends bs ended place e (inr end) =
        let some : feeds_in bs < length (lines_of bs) = end.2 in
        let none : length (lines_of bs) ≡ 0 = ap (λ (xs : List ℕ). length (lines_of xs)) e in
        omega arith

    no_byte_at : (bs : List ℕ) (place : ℕ) → bs ≡ [] → place < length bs → ⊥
    no_byte_at bs place e h = let none : length bs ≡ 0 = ap length e in omega arith

    least : bytes ++ more ≡ [] → (other : ℕ) (kind : FaultKind) → Stands forms (input_of audit new (bytes ++ more)) other kind → (0 < other) ⊎ ((0 ≡ other) × (3 ≤ fault_order kind))
    least e other TooLong s = absurd (no_byte_at (bytes ++ more) other e s.0)
    least e other TooMany s = absurd (no_byte_at (bytes ++ more) other e s.0)
    least e other TooLarge s = absurd (no_byte_at (bytes ++ more) other e s.0)
    least e other NotJson s = absurd (nothing_ends (bytes ++ more) new.ended other e s.0.ends)
    least e other NotHeader s = absurd (nothing_ends (bytes ++ more) new.ended other e s.0.ends)
    least e other NotLine s = absurd (nothing_ends (bytes ++ more) new.ended other e s.0.ends)
    least e other NoSuchWorker s = absurd (nothing_ends (bytes ++ more) new.ended other e s.0.ends)
    least e other NoByte s = inr (sym s.2, omega arith)
    least e other NotJournal s =
        let here : other ≡ length (bytes ++ more) = s.2 in
        let none : length (bytes ++ more) ≡ 0 = ap length e in
        inr (omega arith, omega arith)

-- the last line is one of those that were read
ends_read : (audit : Bool) (new : LinesState) (all : List ℕ) (given : ℕ) → length (lines_of all) ≡ given → (place : ℕ) → EndsLine (input_of audit new all) place → index_at (input_of audit new all) place < given
ends_read audit new all given lines place ends =
    let within : index_at (input_of audit new all) place < length (lines_of all) = ends_within (input_of audit new all) place ends in
    omega (arith, lines)

some_byte : (bs : List ℕ) (given : ℕ) → length (lines_of bs) ≡ given → 0 < given → bs ≡ [] → ⊥
some_byte bs given lines some e =
    let none : length (lines_of bs) ≡ 0 = ap (λ (xs : List ℕ). length (lines_of xs)) e in
    omega (arith, lines)

-- the end of an input that is no audit's
pub whole_read : (forms : LineForms) (settings : Settings) (old new : LinesState) (bytes more before after : List ℕ) → ReadsLine old new bytes more before after (Ok End) → AreRead forms false (lines_of bytes) settings old.given → 0 < old.given → IsWhole forms (input_of false new (bytes ++ more)) old.given
whole_read forms settings old new bytes more before after reads read some =
    let end : ReachesEnd old new (bytes ++ more) = reads.means.0 in
    let lines : length (lines_of (bytes ++ more)) ≡ old.given = end.lines ∙ end.number in
    record {
      script = refl;
      ended = end.ended;
      sound = no_fault forms (input_of false new (bytes ++ more)) settings old.given
          (are_read_same forms false (lines_of bytes) (lines_of (bytes ++ more)) settings old.given reads.kept read)
          (ends_read false new (bytes ++ more) old.given lines)
          (λ other h. end.sound other h)
          (λ ended e. some_byte (bytes ++ more) old.given lines some e)
          (λ asked ended. let no : false ≡ true = asked in cc);
      lines = lines;
    }

-- the end of an audit's input, in which no journal began
pub journal_missing : (forms : LineForms) (settings : Settings) (old new : LinesState) (bytes more before after : List ℕ) → ReadsLine old new bytes more before after (Ok End) → AreRead forms true (lines_of bytes) settings old.given → 0 < old.given → IsFaultOf forms (input_of true new (bytes ++ more)) (new.given + 1) (fault_number NotJournal)
journal_missing forms settings old new bytes more before after reads read some =
    let end : ReachesEnd old new (bytes ++ more) = reads.means.0 in
    let lines : length (lines_of (bytes ++ more)) ≡ old.given = end.lines ∙ end.number in
    record {
      place = length (bytes ++ more);
      kind = NotJournal;
      first = record { stands = (refl, end.ended, refl, λ start b. (sound_there lines start b.ends).journal b); first = λ other kind s. least end lines other kind s };
      before = λ start h b. (sound_there lines start b.ends).journal b;
      told = ap (λ (n : ℕ). n + 1) (sym end.lines);
      numbered = refl;
    }
  where
    here : AreRead forms true (lines_of (bytes ++ more)) settings old.given
    here = are_read_same forms true (lines_of bytes) (lines_of (bytes ++ more)) settings old.given reads.kept read

    sound_there : length (lines_of (bytes ++ more)) ≡ old.given → (place : ℕ) → EndsLine (input_of true new (bytes ++ more)) place → IsSoundAt forms (input_of true new (bytes ++ more)) place
    sound_there lines place ends = sound_at forms (input_of true new (bytes ++ more)) place old.given settings here (ends_read true new (bytes ++ more) old.given lines place ends)

    least : ReachesEnd old new (bytes ++ more) → length (lines_of (bytes ++ more)) ≡ old.given → (other : ℕ) (kind : FaultKind) → Stands forms (input_of true new (bytes ++ more)) other kind → (length (bytes ++ more) < other) ⊎ ((length (bytes ++ more) ≡ other) × (8 ≤ fault_order kind))
    least end lines other TooLong s = absurd ((end.sound other s.0).2 s.1)
    least end lines other TooMany s = absurd ((end.sound other s.0).1 s.1)
    least end lines other TooLarge s = absurd ((end.sound other s.0).0 s.1)
    least end lines other NotJson s = absurd ((sound_there lines other s.0.ends).json s)
    least end lines other NotHeader s = absurd ((sound_there lines other s.0.ends).header s)
    least end lines other NotLine s = absurd ((sound_there lines other s.0.ends).line s)
    least end lines other NoSuchWorker s = absurd ((sound_there lines other s.0.ends).worker s)
    least end lines other NoByte s = absurd (some_byte (bytes ++ more) old.given lines some s.1)
    least end lines other NotJournal s = inr (sym s.2, omega arith)

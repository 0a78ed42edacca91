-- What the readers of the script and of the rows answer, joined: what is said of all bytes of the input.
use Rattle.std.proofs.Common.{◌≡◌, ◌≢◌, ℕ, ◌+◌, ◌<◌, ◌≤◌, Bool, true, false, List, [], ◌∷◌, ◌++◌, length, take, drop, get_or, IsTrue, Some, refl, sym, ap, subst, ◌∙◌, ◌⊎◌, inl, inr, arith, length-append, length-drop, append-nil, drop-cons, add-one}
use Rattle.std.proofs.lemmas.List.{take_all, length-take}
use Rattle.std.proofs.lemmas.Bool.{cases_lt}
use Rattle.ev_io.specs.declared.faults.LineFault.{LineFault}
use Rattle.ev_io.specs.Lines.{lines_of, feeds_in}
use Rattle.ev_io.specs.LineFaults.{StandsAt, HasNoLineFault, IsSoundUpTo}
use Rattle.ev_io.specs.LinesState.{LinesState, HasTaken}
use Rattle.ev_types.specs.Scripts.{ScriptParts}
use Rattle.ev_types.specs.declared.journals.Format.{Format}
use Rattle.ev_types.specs.declared.journals.Row.{Row}
use Rattle.ev_script.specs.declared.fault_kinds.FaultKind.{FaultKind}
use Rattle.ev_script.specs.declared.fault_kinds.FaultKind.TheVariants.{TooLong, TooMany, TooLarge, NotJson, NotHeader, NotLine, NoSuchWorker, NoByte, NotJournal}
use Rattle.ev_script.specs.declared.forms.Settings.{Settings}
use Rattle.ev_script.specs.Faults.{Input, index_at, EndsLine, Stands, fault_order, fault_number, plain_lines, settings_in}
use Rattle.ev_script.specs.Script.{script_of}
use Rattle.ev_script.specs.ReadInput.{input_of, IsUpToJournal}
use Rattle.ev_script.proofs.PlaceLemmas.{ends_within, feeds_up_to, feeds_below}
use Rattle.ev_script.proofs.FirstLemmas.{ends_up_to, index_below}
use Rattle.ev_script.proofs.SoundLemmas.{some_same}
use Rattle.ev_script.proofs.LimitLemmas.{Tells, last_end, IsLastEnd}
use Rattle.ev_journal_read.specs.Journals.{first_text, texts_of, AreMeant}
use Rattle.ev_audit_input.specs.Faults.{StartsJournal, HasEndBefore, IsMisplacedAt, IsIncompleteAt, StandsWithJournal, IsToldWithJournal, IsFaultWithJournal, HasNoFaultWithJournal}
use Rattle.ev_audit_input.specs.Parts.{IsParts}
use Rattle.ev_audit_input.proofs.InPlace.{Wrong, count_open, none_wrong, has_end, no_end, wrong_first}
use Rattle.ev_audit_input.proofs.ScriptFaults.{by_kind, least_limit, limit_stands, stands_so, not_before}
use Rattle.ev_audit_input.proofs.UpTo.{settings_in_script, heads_of}

-- ---- an input in which a journal begins after a script

module _ (all : List ℕ) (state : LinesState) (script : ScriptParts) (text : List ℕ)
    (up : IsUpToJournal plain_lines (input_of true state all) script.count text) (reads : script_of true all ≡ Some script) where
  abbrev input : Input
  input = input_of true state all

  abbrev texts : List (List ℕ)
  texts = lines_of all

  start_is : index_at input up.place ≡ script.count
  start_is = up.behind

  starts : StartsJournal input up.place
  starts = record { begins = up.begins; first = up.first }

  -- it begins in one place
  one_start : (start : ℕ) → StartsJournal input start → start ≡ up.place
  one_start start s = by_place (cases_lt start up.place) (cases_lt up.place start)
    where
      by_place : (start < up.place) ⊎ (up.place ≤ start) → (up.place < start) ⊎ (start ≤ up.place) → start ≡ up.place
      by_place (inl early) other = absurd (up.first start early s.begins)
      by_place (inr late) (inl later) = absurd (s.first up.place later up.begins)
      by_place (inr late) (inr here) = omega arith

  first_is : (start : ℕ) → StartsJournal input start → index_at input start ≡ script.count
  first_is start s = ap (index_at input) (one_start start s) ∙ start_is

  heads : settings_in plain_lines texts ≡ Some (settings_in_script script)
  heads = heads_of texts script reads

  -- what it says that a line is out of its place
  misplaced_is : (place : ℕ) → IsMisplacedAt input place → Wrong script.workers texts script.count (index_at input place)
  misplaced_is place m =
      subst (λ (first : ℕ). Wrong script.workers texts first (index_at input place)) (first_is m.start m.starts)
      (subst (λ (s : Settings). Wrong s.workers texts (index_at input m.start) (index_at input place)) (some_same m.settings (settings_in_script script) (settings_in plain_lines texts) m.heads heads) m.wrong)

  misplaced_late : (place : ℕ) → IsMisplacedAt input place → up.place ≤ place
  misplaced_late place m =
      let same : m.start ≡ up.place = one_start m.start m.starts in
      let behind : m.start ≤ place = m.behind in
      omega arith

  misplaced_so : (place : ℕ) → up.place ≤ place → EndsLine input place → Wrong script.workers texts script.count (index_at input place) → IsMisplacedAt input place
  misplaced_so place behind ends wrong = record {
    start = up.place;
    starts = starts;
    behind = behind;
    ends = ends;
    settings = settings_in_script script;
    heads = heads;
    wrong = subst (λ (first : ℕ). Wrong script.workers texts first (index_at input place)) (sym start_is) wrong;
  }

  index_late : (place : ℕ) → up.place ≤ place → script.count ≤ index_at input place
  index_late place late =
      let further : feeds_in (take up.place all) ≤ feeds_in (take place all) = feeds_up_to all up.place place late in
      omega (arith, start_is)

  -- a fault of the script that isn't one of the limits is nowhere
  only_limits : (place : ℕ) (kind : FaultKind) → Stands plain_lines input place kind → (place < length all) × (HasNoLineFault all place → ⊥)
  only_limits place TooLong s = (s.0, λ sound. sound.2 s.1)
  only_limits place TooMany s = (s.0, λ sound. sound.1 s.1)
  only_limits place TooLarge s = (s.0, λ sound. sound.0 s.1)
  only_limits place NotJson s = absurd (by_place (cases_lt place up.place))
    where
      by_place : (place < up.place) ⊎ (up.place ≤ place) → ⊥
      by_place (inl early) = up.sound place NotJson (omega arith) s
      by_place (inr late) = s.0.before up.place late up.begins
  only_limits place NotHeader s = absurd (by_place (cases_lt place up.place))
    where
      by_place : (place < up.place) ⊎ (up.place ≤ place) → ⊥
      by_place (inl early) = up.sound place NotHeader (omega arith) s
      by_place (inr late) = s.0.before up.place late up.begins
  only_limits place NotLine s = absurd (by_place (cases_lt place up.place))
    where
      by_place : (place < up.place) ⊎ (up.place ≤ place) → ⊥
      by_place (inl early) = up.sound place NotLine (omega arith) s
      by_place (inr late) = s.0.before up.place late up.begins
  only_limits place NoSuchWorker s = absurd (by_place (cases_lt place up.place))
    where
      by_place : (place < up.place) ⊎ (up.place ≤ place) → ⊥
      by_place (inl early) = up.sound place NoSuchWorker (omega arith) s
      by_place (inr late) = s.0.before up.place late up.begins
  only_limits place NoByte s = let here : place ≡ 0 = s.2 in absurd (up.sound place NoByte (omega arith) s)
  only_limits place NotJournal s = absurd (s.3 up.place up.begins)

  -- no limit is passed up to the journal's first line
  sound_up : (place : ℕ) → place < length all → place ≤ up.place → HasNoLineFault all place
  sound_up place h up_to = (λ large. up.sound place TooLarge up_to (h, large), λ many. up.sound place TooMany up_to (h, many), λ long. up.sound place TooLong up_to (h, long))

  -- a fault of the journal at a place is the first, where no limit is passed up to it
  -- and no line is out of its place before
  first_nine : (place : ℕ) → ((other : ℕ) → other < length all → other ≤ place → HasNoLineFault all other) → ((other : ℕ) → IsMisplacedAt input other → place ≤ other) → place ≤ length all
      → (other : ℕ) (kind_there : FaultKind) → StandsWithJournal input other kind_there → (place < other) ⊎ ((place ≡ other) × (8 ≤ fault_order kind_there))
  first_nine place sound placed within other kind_there s = by_fault (by_kind input other kind_there s)
    where
      by_place : Stands plain_lines input other kind_there → (place < other) ⊎ (other ≤ place) → (place < other) ⊎ ((place ≡ other) × (8 ≤ fault_order kind_there))
      by_place plain (inl later) = inl later
      by_place plain (inr early) = let limited = only_limits other kind_there plain in absurd (limited.1 (sound other limited.0 early))

      behind : IsMisplacedAt input other ⊎ IsIncompleteAt input other → place ≤ other
      behind (inl m) = placed other m
      behind (inr i) = let here : other ≡ length all = i.here in omega arith

      by_fault : Stands plain_lines input other kind_there ⊎ ((kind_there ≡ NotJournal) × (IsMisplacedAt input other ⊎ IsIncompleteAt input other))
          → (place < other) ⊎ ((place ≡ other) × (8 ≤ fault_order kind_there))
      by_fault (inl plain) = by_place plain (cases_lt place other)
      by_fault (inr journal) = not_before place other NotJournal kind_there journal.0 (behind journal.1)

  -- ---- a first line that is none

  pub first_wrong : (line : ℕ) → ((format : Format) → text ≢ first_text format script.workers) → line ≡ script.count + 1 → IsFaultWithJournal input line 9
  first_wrong line wrong here =
      let there : Wrong script.workers texts script.count (index_at input up.place) =
      subst (Wrong script.workers texts script.count) (sym start_is) (wrong_first texts script.workers script.count text up.here wrong) in
      let misplaced : IsMisplacedAt input up.place = misplaced_so up.place (omega arith) up.begins.ends there in
      record {
        place = up.place;
        kind = NotJournal;
        stands = inl misplaced;
        first = first_nine up.place (λ other h up_to. sound_up other h up_to) (λ other m. misplaced_late other m) (ends_up_to input up.place up.begins.ends);
        told = inl (misplaced, omega (arith, start_is));
        numbered = refl;
      }

  -- ---- some lines after it

  module _ (given : ℕ) (format : Format) (rows : List Row) (end : Bool) (rest : List (List ℕ))
      (head : text ≡ first_text format script.workers) (meant : AreMeant rows) (lines : drop (script.count + 1) (take given texts) ≡ texts_of rows end ++ rest) where
    headed : get_or texts script.count [] ≡ first_text format script.workers
    headed = up.here ∙ head

    -- this many lines are in their places
    placed : (place : ℕ) → index_at input place < script.count + 1 + length (texts_of rows end) → ¬ (IsMisplacedAt input place)
    placed place h m =
        none_wrong texts script.workers script.count given format rows end rest headed meant lines (index_at input place) (index_late place (misplaced_late place m)) h
        (misplaced_is place m)

    -- the lines that were given, where there is none more of them
    given_placed : rest ≡ [] → (place : ℕ) → EndsLine input place → index_at input place < given → ¬ (IsMisplacedAt input place)
    given_placed none place ends h =
        let within : index_at input place < length texts = ends_within input place ends in
        let long : length (texts_of rows end ++ rest) ≡ length (texts_of rows end) = ap (λ (ls : List (List ℕ)). length (texts_of rows end ++ ls)) none ∙ ap length (append-nil (texts_of rows end)) in
        placed place (omega (arith, ap length lines, length-drop (script.count + 1) (take given texts), length-take given texts))

    -- a whole journal
    pub all_sound : rest ≡ [] → end ≡ true → length texts ≡ given → IsSoundUpTo all (length all) → HasNoFaultWithJournal input
    all_sound none is count sound place kind s = by_fault (by_kind input place kind s)
      where
        by_journal : IsMisplacedAt input place ⊎ IsIncompleteAt input place → ⊥
        by_journal (inl m) =
            let within : index_at input place < length texts = ends_within input place m.ends in
            given_placed none place m.ends (omega arith) m
        by_journal (inr i) =
            i.missing up.place starts
            (subst (λ (first : ℕ). HasEndBefore texts first (length texts)) (sym start_is)
            (has_end texts script.workers script.count given format rows end rest headed meant lines is))

        by_fault : Stands plain_lines input place kind ⊎ ((kind ≡ NotJournal) × (IsMisplacedAt input place ⊎ IsIncompleteAt input place)) → ⊥
        by_fault (inl plain) = let limited = only_limits place kind plain in limited.1 (sound place limited.0)
        by_fault (inr journal) = by_journal journal.1

    -- the input goes on after the lines that were given
    pub goes_sound : rest ≡ [] → ¬ (IsTrue state.ended) → feeds_in all ≡ given → IsSoundUpTo all (length all) → HasNoFaultWithJournal input
    goes_sound none goes_on count sound place kind s = by_fault (by_kind input place kind s)
      where
        below : EndsLine input place → index_at input place < given
        below (inl feed) =
            let less : feeds_in (take place all) < feeds_in (take (length all) all) = feeds_below all place (length all) feed.0 feed.0 feed.1 in
            let whole : feeds_in (take (length all) all) ≡ feeds_in all = ap feeds_in (take_all (length all) all (omega arith)) in
            omega arith
        below (inr ended) = absurd (goes_on ended.0)

        by_journal : IsMisplacedAt input place ⊎ IsIncompleteAt input place → ⊥
        by_journal (inl m) = given_placed none place m.ends (below m.ends) m
        by_journal (inr i) = goes_on i.ended

        by_fault : Stands plain_lines input place kind ⊎ ((kind ≡ NotJournal) × (IsMisplacedAt input place ⊎ IsIncompleteAt input place)) → ⊥
        by_fault (inl plain) = let limited = only_limits place kind plain in limited.1 (sound place limited.0)
        by_fault (inr journal) = by_journal journal.1

    -- the end line is missing
    pub end_missing : (line : ℕ) → rest ≡ [] → end ≡ false → IsTrue state.ended → length texts ≡ given → IsSoundUpTo all (length all) → line ≡ given + 1 → IsFaultWithJournal input line 9
    end_missing line none is ended count sound here = record {
      place = length all;
      kind = NotJournal;
      stands = inr (record { audit = refl; ended = ended; here = refl; missing = missing });
      first = first_nine (length all) (λ other h up_to. sound other h) (λ other m. absurd (nowhere other m)) (omega arith);
      told = inr (nowhere (length all), omega arith);
      numbered = refl;
    }
      where
        nowhere : (place : ℕ) → ¬ (IsMisplacedAt input place)
        nowhere place m =
            let within : index_at input place < length texts = ends_within input place m.ends in
            given_placed none place m.ends (omega arith) m

        count_rows : length (texts_of rows end) ≡ length rows
        count_rows = ap (λ (b : Bool). length (texts_of rows b)) is ∙ count_open rows

        missing : (start : ℕ) → StartsJournal input start → ¬ (HasEndBefore texts (index_at input start) (length texts))
        missing start s h =
            let long : length (texts_of rows end ++ rest) ≡ length (texts_of rows end) = ap (λ (ls : List (List ℕ)). length (texts_of rows end ++ ls)) none ∙ ap length (append-nil (texts_of rows end)) in
            no_end texts script.workers script.count given format rows end rest headed meant lines is
            (omega (arith, count_rows, ap length lines, length-drop (script.count + 1) (take given texts), length-take given texts))
            (subst (λ (first : ℕ). HasEndBefore texts first (length texts)) (first_is start s) h)

    -- a limit is passed after the lines that were given
    pub past_limit : (line place : ℕ) (fault : LineFault) (kind : FaultKind) → rest ≡ [] → place < length all → StandsAt all place fault → IsSoundUpTo all place → Tells fault kind
        → feeds_in (take place all) ≡ given → line ≡ given + 1 → ((l : ℕ) → l ≡ index_at input place + 1 → IsToldWithJournal input place kind l) → IsFaultWithJournal input line (fault_number kind)
    past_limit line place fault kind none within stands sound tells behind here told = record {
      place = place;
      kind = kind;
      stands = stands_so input place kind (limit_stands input place fault kind within stands tells);
      first = λ other kind_there s. by_fault other kind_there (by_kind input other kind_there s);
      told = told line (omega (arith, behind));
      numbered = refl;
    }
      where
        late : (other : ℕ) → IsMisplacedAt input other ⊎ IsIncompleteAt input other → place ≤ other
        late other (inl m) = by_place (cases_lt other place)
          where
            by_place : (other < place) ⊎ (place ≤ other) → place ≤ other
            by_place (inr here_or_later) = here_or_later
            by_place (inl early) =
                let less : index_at input other < index_at input place = index_below input other place m.ends early (omega arith) in
                absurd (given_placed none other m.ends (omega (arith, behind)) m)
        late other (inr i) = let last : other ≡ length all = i.here in omega arith

        by_place : (other : ℕ) (kind_there : FaultKind) → Stands plain_lines input other kind_there → (other < place) ⊎ (place ≤ other) → (place < other) ⊎ (other ≤ place)
            → (place < other) ⊎ ((place ≡ other) × (fault_order kind ≤ fault_order kind_there))
        by_place other kind_there plain (inl early) later = let limited = only_limits other kind_there plain in absurd (limited.1 (sound other early))
        by_place other kind_there plain (inr here_or_later) (inl later) = inl later
        by_place other kind_there plain (inr here_or_later) (inr at_most) =
            let same : other ≡ place = omega arith in
            inr (sym same, least_limit input place fault kind kind_there stands tells (subst (λ (p : ℕ). Stands plain_lines input p kind_there) same plain))

        by_fault : (other : ℕ) (kind_there : FaultKind) → Stands plain_lines input other kind_there ⊎ ((kind_there ≡ NotJournal) × (IsMisplacedAt input other ⊎ IsIncompleteAt input other))
            → (place < other) ⊎ ((place ≡ other) × (fault_order kind ≤ fault_order kind_there))
        by_fault other kind_there (inl plain) = by_place other kind_there plain (cases_lt other place) (cases_lt place other)
        by_fault other kind_there (inr journal) = not_before place other kind kind_there journal.0 (late other journal.1)

    -- the last line that was given is out of its place
    pub next_wrong : (line : ℕ) (next : List ℕ) → rest ≡ next ∷ [] → Wrong script.workers texts script.count (script.count + 1 + length (texts_of rows end))
        → HasTaken state all → state.given ≡ given → line ≡ given → IsFaultWithJournal input line 9
    next_wrong line next one wrong taken same here = record {
      place = last.0;
      kind = NotJournal;
      stands = inl misplaced;
      first = first_nine last.0 (λ other h up_to. last.1.sound other h up_to) (λ other m. by_place other m (cases_lt other last.0)) (ends_up_to input last.0 last.1.ends);
      told = inl (misplaced, omega (arith, index_is, number));
      numbered = refl;
    }
      where
        some : script.count + 2 + length (texts_of rows end) ≤ given
        some = omega (arith, ap length lines, length-append (texts_of rows end) rest, ap length one, length-drop (script.count + 1) (take given texts), length-take given texts)

        last : (place : ℕ) × IsLastEnd input state.given place
        last = last_end true state all taken (omega (arith, some, same))

        number : index_at input last.0 + 1 ≡ given
        number = last.1.index ∙ same

        index_is : index_at input last.0 ≡ script.count + 1 + length (texts_of rows end)
        index_is =
            let within : index_at input last.0 < length texts = ends_within input last.0 last.1.ends in
            omega (arith, number, ap length lines, length-append (texts_of rows end) rest, ap length one, length-drop (script.count + 1) (take given texts), length-take given texts)

        behind : up.place ≤ last.0
        behind = by_start (cases_lt last.0 up.place)
          where
            by_start : (last.0 < up.place) ⊎ (up.place ≤ last.0) → up.place ≤ last.0
            by_start (inr late) = late
            by_start (inl early) =
                let less : index_at input last.0 < index_at input up.place = index_below input last.0 up.place last.1.ends early (ends_up_to input up.place up.begins.ends) in
                absurd (omega (arith, index_is, start_is))

        misplaced : IsMisplacedAt input last.0
        misplaced = misplaced_so last.0 behind last.1.ends (subst (Wrong script.workers texts script.count) (sym index_is) wrong)

        by_place : (other : ℕ) → IsMisplacedAt input other → (other < last.0) ⊎ (last.0 ≤ other) → last.0 ≤ other
        by_place other m (inr late) = late
        by_place other m (inl early) =
            let less : index_at input other < index_at input last.0 = index_below input other last.0 m.ends early (ends_up_to input last.0 last.1.ends) in
            absurd (placed other (omega (arith, index_is)) m)

    -- the parts of a whole journal
    pub parts_of : rest ≡ [] → end ≡ true → length texts ≡ given → IsParts all format script rows
    parts_of none is count =
        let within : index_at input up.place < length texts = ends_within input up.place up.begins.ends in
        let first : script.count < length texts = omega (arith, start_is) in
        let whole : take given texts ≡ texts = take_all given texts (omega arith) in
        let others : drop (script.count + 1) texts ≡ texts_of rows true =
        ap (drop (script.count + 1)) (sym whole)
        ∙ lines
        ∙ ap (λ (ls : List (List ℕ)). texts_of rows end ++ ls) none
        ∙ append-nil (texts_of rows end)
        ∙ ap (texts_of rows) is in
        record {
          reads = reads;
          lines =
              drop-cons texts script.count [] first
              ∙ (λ i. headed i ∷ (ap (λ (n : ℕ). drop n texts) (sym (add-one script.count)) ∙ others) i);
          meant = meant;
        }

-- Which fault is the first, where the lines before a place were read without one.
use Rattle.std.proofs.Common.{◌≡◌, ℕ, ◌+◌, ◌<◌, ◌≤◌, List, [], length, IsTrue, Option, None, Some, option_and_then, refl, ap, subst, ◌∙◌, ◌⊎◌, inl, inr, arith}
use Rattle.std.proofs.lemmas.Bool.{cases_lt}
use Rattle.serde_json.specs.Data.{Data}
use Rattle.ev_io.specs.Lines.{lines_of, feeds_in}
use Rattle.ev_io.specs.LineFaults.{HasNoLineFault}
use Rattle.ev_script.specs.declared.fault_kinds.FaultKind.{FaultKind}
use Rattle.ev_script.specs.declared.fault_kinds.FaultKind.TheVariants.{TooLong, TooMany, TooLarge, NotJson, NotHeader, NotLine, NoSuchWorker, NoByte, NotJournal}
use Rattle.ev_script.specs.declared.forms.Settings.{Settings}
use Rattle.ev_script.specs.Faults.{LineForms, Input, index_at, tree_at, named_at, EndsLine, BeginsJournal, EndsScriptLine, fault_order, Stands, IsFirstFault, HasNoFault}
use Rattle.ev_script.specs.ReadLines.{AreRead}
use Rattle.ev_script.proofs.PlaceLemmas.{feeds_below}
use Rattle.ev_script.proofs.SoundLemmas.{IsSoundAt, sound_at, head_is, profile_is, named_is}

-- the lines before the one that ends at the place were read, and no limit is passed up to it
pub record IsReadBefore (forms : LineForms) (input : Input) (settings : Settings) (place : ℕ) : Type 0 where
  pub ends : EndsLine input place
  pub read : AreRead forms input.audit (lines_of input.bytes) settings (index_at input place)
  pub sound : (other : ℕ) → other < length input.bytes → other ≤ place → HasNoLineFault input.bytes other

-- a line ends within the bytes or at their end
pub ends_up_to : (input : Input) (place : ℕ) → EndsLine input place → place ≤ length input.bytes
ends_up_to input place (inl feed) = let h : place < length input.bytes = feed.0 in omega arith
ends_up_to input place (inr end) = let h : place ≡ length input.bytes = end.1 in omega arith

-- a line that ends before is another one
pub index_below : (input : Input) (other place : ℕ) → EndsLine input other → other < place → place ≤ length input.bytes → index_at input other < index_at input place
index_below input other place (inl feed) h most = feeds_below input.bytes other place h feed.0 feed.1
index_below input other place (inr end) h most = let e : other ≡ length input.bytes = end.1 in absurd (omega arith)

sound_before : (forms : LineForms) (input : Input) (settings : Settings) (place other : ℕ) → IsReadBefore forms input settings place → EndsLine input other → other < place → IsSoundAt forms input other
sound_before forms input settings place other read ends h =
    sound_at forms input other (index_at input place) settings read.read (index_below input other place ends h (ends_up_to input place read.ends))

-- there is no fault before the place
pub nothing_before : (forms : LineForms) (input : Input) (settings : Settings) (place other : ℕ) (kind : FaultKind) → IsReadBefore forms input settings place → Stands forms input other kind → other < place → ⊥
nothing_before forms input settings place other TooLong read s h = (read.sound other s.0 (omega arith)).2 s.1
nothing_before forms input settings place other TooMany read s h = (read.sound other s.0 (omega arith)).1 s.1
nothing_before forms input settings place other TooLarge read s h = (read.sound other s.0 (omega arith)).0 s.1
nothing_before forms input settings place other NotJson read s h = (sound_before forms input settings place other read s.0.ends h).json s
nothing_before forms input settings place other NotHeader read s h = (sound_before forms input settings place other read s.0.ends h).header s
nothing_before forms input settings place other NotLine read s h = (sound_before forms input settings place other read s.0.ends h).line s
nothing_before forms input settings place other NoSuchWorker read s h = (sound_before forms input settings place other read s.0.ends h).worker s
nothing_before forms input settings place other NoByte read s h =
    let most : place ≤ length input.bytes = ends_up_to input place read.ends in
    let none : length input.bytes ≡ 0 = ap length s.1 in
    omega arith
nothing_before forms input settings place other NotJournal read s h =
    let most : place ≤ length input.bytes = ends_up_to input place read.ends in
    let here : other ≡ length input.bytes = s.2 in
    omega arith

-- no journal begins before the place
pub no_journal_before : (forms : LineForms) (input : Input) (settings : Settings) (place start : ℕ) → IsReadBefore forms input settings place → start < place → ¬ (BeginsJournal input start)
no_journal_before forms input settings place start read h = λ b. (sound_before forms input settings place start read b.ends h).journal b

-- a line ends at the place, so there is a byte
some_line : (input : Input) (place : ℕ) → EndsLine input place → input.bytes ≡ [] → ⊥
some_line input place (inl feed) e =
    let h : place < length input.bytes = feed.0 in
    let none : length input.bytes ≡ 0 = ap length e in
    omega arith
some_line input place (inr end) e =
    let some : feeds_in input.bytes < length (lines_of input.bytes) = end.2 in
    let none : length (lines_of input.bytes) ≡ 0 = ap (λ (bs : List ℕ). length (lines_of bs)) e in
    omega arith

-- at the place itself are faults of content alone
pub of_content : (forms : LineForms) (input : Input) (settings : Settings) (place : ℕ) (kind : FaultKind) → IsReadBefore forms input settings place → Stands forms input place kind → 4 ≤ fault_order kind
of_content forms input settings place TooLong read s = absurd ((read.sound place s.0 (omega arith)).2 s.1)
of_content forms input settings place TooMany read s = absurd ((read.sound place s.0 (omega arith)).1 s.1)
of_content forms input settings place TooLarge read s = absurd ((read.sound place s.0 (omega arith)).0 s.1)
of_content forms input settings place NotJson read s = omega arith
of_content forms input settings place NotHeader read s = omega arith
of_content forms input settings place NotLine read s = omega arith
of_content forms input settings place NoSuchWorker read s = omega arith
of_content forms input settings place NoByte read s = absurd (some_line input place read.ends s.1)
of_content forms input settings place NotJournal read s = omega arith

-- a fault at the place, where no kind that is looked at before is there
pub first_at : (forms : LineForms) (input : Input) (settings : Settings) (place : ℕ) (kind : FaultKind) → IsReadBefore forms input settings place → Stands forms input place kind → ((k : FaultKind) → Stands forms input place k → fault_order kind ≤ fault_order k) → IsFirstFault forms input place kind
first_at forms input settings place kind read stands least = record { stands = stands; first = λ other k s. by_place other k s (cases_lt other place) }
  where
    by_place : (other : ℕ) (k : FaultKind) → Stands forms input other k → (other < place) ⊎ (place ≤ other) → (place < other) ⊎ ((place ≡ other) × (fault_order kind ≤ fault_order k))
    by_place other k s (inl early) = absurd (nothing_before forms input settings place other k read s early)
    by_place other k s (inr late) = here_or_later other k s late (cases_lt place other)
      where
        here_or_later : (other : ℕ) (k : FaultKind) → Stands forms input other k → place ≤ other → (place < other) ⊎ (other ≤ place) → (place < other) ⊎ ((place ≡ other) × (fault_order kind ≤ fault_order k))
        here_or_later other k s late (inl later) = inl later
        here_or_later other k s late (inr here) =
            let same : other ≡ place = omega arith in
            inr (omega arith, least k (subst (λ (p : ℕ). Stands forms input p k) same s))

-- a line of the script ends at the place, where no journal begins
script_line : (forms : LineForms) (input : Input) (settings : Settings) (place : ℕ) → IsReadBefore forms input settings place → ¬ (BeginsJournal input place) → EndsScriptLine input place
script_line forms input settings place read not_here = record { ends = read.ends; before = λ start h. by_start start h (cases_lt start place) }
  where
    by_start : (start : ℕ) → start ≤ place → (start < place) ⊎ (place ≤ start) → ¬ (BeginsJournal input start)
    by_start start h (inl early) = no_journal_before forms input settings place start read early
    by_start start h (inr late) =
        let same : start ≡ place = omega arith in
        λ b. not_here (subst (BeginsJournal input) same b)

-- a line that isn't JSON
pub json_first : (forms : LineForms) (input : Input) (settings : Settings) (place : ℕ) → IsReadBefore forms input settings place → tree_at input place ≡ None → IsFirstFault forms input place NotJson
json_first forms input settings place read e =
    first_at forms input settings place NotJson read
    (script_line forms input settings place read (λ b. let f : tree_at input place ≡ Some b.format.0 = b.format.1 in cc), e)
    (λ k s. of_content forms input settings place k read s)

none_some : {A : Type 0} (x : A) (o : Option A) → o ≡ None → o ≡ Some x → ⊥
none_some x o e f = cc

-- where the line is JSON, there are other kinds
after_json : (forms : LineForms) (input : Input) (settings : Settings) (place : ℕ) (tree : Data) (k : FaultKind) → IsReadBefore forms input settings place → tree_at input place ≡ Some tree → Stands forms input place k → 5 ≤ fault_order k
after_json forms input settings place tree NotJson read e s = absurd (none_some tree (tree_at input place) s.1 e)
after_json forms input settings place tree TooLong read e s = let h : 4 ≤ 2 = of_content forms input settings place TooLong read s in omega arith
after_json forms input settings place tree TooMany read e s = let h : 4 ≤ 1 = of_content forms input settings place TooMany read s in omega arith
after_json forms input settings place tree TooLarge read e s = let h : 4 ≤ 0 = of_content forms input settings place TooLarge read s in omega arith
after_json forms input settings place tree NotHeader read e s = omega arith
after_json forms input settings place tree NotLine read e s = omega arith
after_json forms input settings place tree NoSuchWorker read e s = omega arith
after_json forms input settings place tree NoByte read e s = let h : 4 ≤ 3 = of_content forms input settings place NoByte read s in omega arith
after_json forms input settings place tree NotJournal read e s = omega arith

-- what a line is by the forms, by its tree
named_by : (forms : LineForms) (input : Input) (settings : Settings) (place : ℕ) (tree : Data) → IsReadBefore forms input settings place → 0 < index_at input place → tree_at input place ≡ Some tree → named_at forms input place ≡ forms.lines settings.profile (index_at input place + 1) tree
named_by forms input settings place tree read later e =
    named_is forms input place (index_at input place) settings.profile (profile_is forms input.audit (lines_of input.bytes) settings (index_at input place) read.read later) refl
    ∙ ap (option_and_then (forms.lines settings.profile (index_at input place + 1))) e

-- a first line that isn't a header
pub header_first : (forms : LineForms) (input : Input) (settings : Settings) (place : ℕ) (tree : Data) → IsReadBefore forms input settings place → index_at input place ≡ 0 → tree_at input place ≡ Some tree → forms.heads tree ≡ None → IsFirstFault forms input place NotHeader
header_first forms input settings place tree read first e f =
    first_at forms input settings place NotHeader read
    (script_line forms input settings place read (λ b. let h : 0 < index_at input place = b.later in omega arith), first, ap (option_and_then forms.heads) e ∙ f)
    (λ k s. after_json forms input settings place tree k read e s)

-- where the line isn't the first, there are other kinds
after_header : (forms : LineForms) (input : Input) (settings : Settings) (place : ℕ) (tree : Data) (k : FaultKind) → IsReadBefore forms input settings place → 0 < index_at input place → tree_at input place ≡ Some tree → Stands forms input place k → 6 ≤ fault_order k
after_header forms input settings place tree NotHeader read later e s = let h : index_at input place ≡ 0 = s.1 in omega arith
after_header forms input settings place tree TooLong read later e s = let h : 5 ≤ 2 = after_json forms input settings place tree TooLong read e s in omega arith
after_header forms input settings place tree TooMany read later e s = let h : 5 ≤ 1 = after_json forms input settings place tree TooMany read e s in omega arith
after_header forms input settings place tree TooLarge read later e s = let h : 5 ≤ 0 = after_json forms input settings place tree TooLarge read e s in omega arith
after_header forms input settings place tree NoByte read later e s = let h : 5 ≤ 3 = after_json forms input settings place tree NoByte read e s in omega arith
after_header forms input settings place tree NotJson read later e s = let h : 5 ≤ 4 = after_json forms input settings place tree NotJson read e s in omega arith
after_header forms input settings place tree NotLine read later e s = omega arith
after_header forms input settings place tree NoSuchWorker read later e s = omega arith
after_header forms input settings place tree NotJournal read later e s = omega arith

-- another line whose operation or member hasn't its form
pub line_first : (forms : LineForms) (input : Input) (settings : Settings) (place : ℕ) (tree : Data) → IsReadBefore forms input settings place → ¬ (BeginsJournal input place) → 0 < index_at input place → tree_at input place ≡ Some tree → forms.lines settings.profile (index_at input place + 1) tree ≡ None → IsFirstFault forms input place NotLine
line_first forms input settings place tree read no_journal later e f =
    first_at forms input settings place NotLine read
    (script_line forms input settings place read no_journal, later, named_by forms input settings place tree read later e ∙ f)
    (λ k s. after_header forms input settings place tree k read later e s)

-- where the line has its form, there are other kinds
after_line : (forms : LineForms) (input : Input) (settings : Settings) (place : ℕ) (tree : Data) (named : Option ℕ) (k : FaultKind) → IsReadBefore forms input settings place → 0 < index_at input place → tree_at input place ≡ Some tree → forms.lines settings.profile (index_at input place + 1) tree ≡ Some named → Stands forms input place k → 7 ≤ fault_order k
after_line forms input settings place tree named NotLine read later e f s =
    absurd (none_some named (named_at forms input place) s.2 (named_by forms input settings place tree read later e ∙ f))
after_line forms input settings place tree named TooLong read later e f s = let h : 6 ≤ 2 = after_header forms input settings place tree TooLong read later e s in omega arith
after_line forms input settings place tree named TooMany read later e f s = let h : 6 ≤ 1 = after_header forms input settings place tree TooMany read later e s in omega arith
after_line forms input settings place tree named TooLarge read later e f s = let h : 6 ≤ 0 = after_header forms input settings place tree TooLarge read later e s in omega arith
after_line forms input settings place tree named NoByte read later e f s = let h : 6 ≤ 3 = after_header forms input settings place tree NoByte read later e s in omega arith
after_line forms input settings place tree named NotJson read later e f s = let h : 6 ≤ 4 = after_header forms input settings place tree NotJson read later e s in omega arith
after_line forms input settings place tree named NotHeader read later e f s = let h : 6 ≤ 5 = after_header forms input settings place tree NotHeader read later e s in omega arith
after_line forms input settings place tree named NoSuchWorker read later e f s = omega arith
after_line forms input settings place tree named NotJournal read later e f s = omega arith

-- another line whose worker isn't below the count
pub worker_first : (forms : LineForms) (input : Input) (settings : Settings) (place : ℕ) (tree : Data) (worker : ℕ) → IsReadBefore forms input settings place → ¬ (BeginsJournal input place) → 0 < index_at input place → tree_at input place ≡ Some tree → forms.lines settings.profile (index_at input place + 1) tree ≡ Some (Some worker) → settings.workers ≤ worker → IsFirstFault forms input place NoSuchWorker
worker_first forms input settings place tree worker read no_journal later e f above =
    first_at forms input settings place NoSuchWorker read (
      script_line forms input settings place read no_journal,
      later,
      record {
        worker = worker;
        settings = settings;
        names = named_by forms input settings place tree read later e ∙ f;
        heads = head_is forms input.audit (lines_of input.bytes) settings (index_at input place) read.read later;
        above = above;
      },
    )
    (λ k s. after_line forms input settings place tree (Some worker) k read later e f s)

-- ---- whole inputs

-- there is no fault where every line that ends was read and no limit is passed
pub no_fault : (forms : LineForms) (input : Input) (settings : Settings) (n : ℕ) → AreRead forms input.audit (lines_of input.bytes) settings n → ((place : ℕ) → EndsLine input place → index_at input place < n) → ((other : ℕ) → other < length input.bytes → HasNoLineFault input.bytes other) → (IsTrue input.ended → input.bytes ≡ [] → ⊥) → (IsTrue input.audit → IsTrue input.ended → ⊥) → HasNoFault forms input
no_fault forms input settings n read all sound some goes_on = by_kind
  where
    by_kind : (place : ℕ) (kind : FaultKind) → ¬ (Stands forms input place kind)
    by_kind place TooLong = λ s. (sound place s.0).2 s.1
    by_kind place TooMany = λ s. (sound place s.0).1 s.1
    by_kind place TooLarge = λ s. (sound place s.0).0 s.1
    by_kind place NotJson = λ s. (sound_at forms input place n settings read (all place s.0.ends)).json s
    by_kind place NotHeader = λ s. (sound_at forms input place n settings read (all place s.0.ends)).header s
    by_kind place NotLine = λ s. (sound_at forms input place n settings read (all place s.0.ends)).line s
    by_kind place NoSuchWorker = λ s. (sound_at forms input place n settings read (all place s.0.ends)).worker s
    by_kind place NoByte = λ s. some s.0 s.1
    by_kind place NotJournal = λ s. goes_on s.0 s.1

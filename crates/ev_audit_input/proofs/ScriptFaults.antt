-- What the reader of the script before a journal answers, as faults of the whole input.
use Rattle.std.proofs.Common.{◌≡◌, ℕ, ◌<◌, ◌≤◌, length, IsTrue, refl, ap, ◌⊎◌, inl, inr, arith, sym, subst}
use Rattle.std.proofs.lemmas.Bool.{cases_lt}
use Rattle.ev_io.specs.declared.faults.LineFault.{LineFault}
use Rattle.ev_io.specs.declared.faults.LineFault.TheVariants as limit
use Rattle.ev_io.specs.LineFaults.{StandsAt}
use Rattle.ev_script.specs.declared.fault_kinds.FaultKind.{FaultKind}
use Rattle.ev_script.specs.declared.fault_kinds.FaultKind.TheVariants.{TooLong, TooMany, TooLarge, NotJson, NotHeader, NotLine, NoSuchWorker, NoByte, NotJournal}
use Rattle.ev_script.specs.Faults.{Input, BeginsJournal, Stands, IsFaultOf, HasNoFault, fault_order, fault_line, plain_lines}
use Rattle.ev_script.proofs.FirstLemmas.{ends_up_to}
use Rattle.ev_script.proofs.LimitLemmas.{Tells}
use Rattle.ev_audit_input.specs.Faults.{IsMisplacedAt, IsIncompleteAt, StandsWithJournal, IsToldWithJournal, IsFaultWithJournal, HasNoFaultWithJournal}

-- a fault is one of the script's lines and the limits, or of the journal
pub by_kind : (input : Input) (place : ℕ) (kind : FaultKind) → StandsWithJournal input place kind
    → Stands plain_lines input place kind ⊎ ((kind ≡ NotJournal) × (IsMisplacedAt input place ⊎ IsIncompleteAt input place))
by_kind input place TooLong s = inl s
by_kind input place TooMany s = inl s
by_kind input place TooLarge s = inl s
by_kind input place NotJson s = inl s
by_kind input place NotHeader s = inl s
by_kind input place NotLine s = inl s
by_kind input place NoSuchWorker s = inl s
by_kind input place NoByte s = inl s
by_kind input place NotJournal s = inr (refl, s)

-- where no journal begins, one is missing
missing_stands : (input : Input) (place : ℕ) → Stands plain_lines input place NotJournal → IsIncompleteAt input place
missing_stands input place s = record { audit = s.0; ended = s.1; here = s.2; missing = λ start starts. absurd (s.3 start starts.begins) }

pub stands_so : (input : Input) (place : ℕ) (kind : FaultKind) → Stands plain_lines input place kind → StandsWithJournal input place kind
stands_so input place TooLong s = s
stands_so input place TooMany s = s
stands_so input place TooLarge s = s
stands_so input place NotJson s = s
stands_so input place NotHeader s = s
stands_so input place NotLine s = s
stands_so input place NoSuchWorker s = s
stands_so input place NoByte s = s
stands_so input place NotJournal s = inr (missing_stands input place s)

pub told_so : (input : Input) (place : ℕ) (kind : FaultKind) (line : ℕ) → Stands plain_lines input place kind → line ≡ fault_line input place kind → IsToldWithJournal input place kind line
told_so input place TooLong line s told = told
told_so input place TooMany line s told = told
told_so input place TooLarge line s told = told
told_so input place NotJson line s told = told
told_so input place NotHeader line s told = told
told_so input place NotLine line s told = told
told_so input place NoSuchWorker line s told = told
told_so input place NoByte line s told = told
told_so input place NotJournal line s told = inr (λ m. s.3 m.start m.starts.begins, told)

-- a fault is within the bytes or at their end
pub stands_within : (input : Input) (place : ℕ) (kind : FaultKind) → Stands plain_lines input place kind → place ≤ length input.bytes
stands_within input place TooLong s = let h : place < length input.bytes = s.0 in omega arith
stands_within input place TooMany s = let h : place < length input.bytes = s.0 in omega arith
stands_within input place TooLarge s = let h : place < length input.bytes = s.0 in omega arith
stands_within input place NotJson s = ends_up_to input place s.0.ends
stands_within input place NotHeader s = ends_up_to input place s.0.ends
stands_within input place NotLine s = ends_up_to input place s.0.ends
stands_within input place NoSuchWorker s = ends_up_to input place s.0.ends
stands_within input place NoByte s = let h : place ≡ 0 = s.2 in omega arith
stands_within input place NotJournal s = let h : place ≡ length input.bytes = s.2 in omega arith

pub order_within : (kind : FaultKind) → fault_order kind ≤ 8
order_within TooLong = omega arith
order_within TooMany = omega arith
order_within TooLarge = omega arith
order_within NotJson = omega arith
order_within NotHeader = omega arith
order_within NotLine = omega arith
order_within NoSuchWorker = omega arith
order_within NoByte = omega arith
order_within NotJournal = omega arith

-- a fault of the journal at a place or after it doesn't go before one that is there
pub not_before : (place other : ℕ) (kind kind_there : FaultKind) → kind_there ≡ NotJournal → place ≤ other → (place < other) ⊎ ((place ≡ other) × (fault_order kind ≤ fault_order kind_there))
not_before place other kind kind_there is late = by_place (cases_lt place other)
  where
    by_place : (place < other) ⊎ (other ≤ place) → (place < other) ⊎ ((place ≡ other) × (fault_order kind ≤ fault_order kind_there))
    by_place (inl later) = inl later
    by_place (inr here) = inr (omega arith, omega (arith, order_within kind, ap fault_order is))

-- a fault of the script is the first, since no journal begins before it
pub script_fault : (input : Input) (line number : ℕ) → IsFaultOf plain_lines input line number → IsFaultWithJournal input line number
script_fault input line number f = record {
  place = f.place;
  kind = f.kind;
  stands = stands_so input f.place f.kind f.first.stands;
  first = λ other kind_there s. by_fault other kind_there (by_kind input other kind_there s);
  told = told_so input f.place f.kind line f.first.stands f.told;
  numbered = f.numbered;
}
  where
    behind : (other : ℕ) → IsMisplacedAt input other ⊎ IsIncompleteAt input other → f.place ≤ other
    behind other (inl m) = by_start (cases_lt m.start f.place)
      where
        by_start : (m.start < f.place) ⊎ (f.place ≤ m.start) → f.place ≤ other
        by_start (inl early) = absurd (f.before m.start early m.starts.begins)
        by_start (inr late) = let up_to : m.start ≤ other = m.behind in omega arith
    behind other (inr i) =
        let here : other ≡ length input.bytes = i.here in
        let within : f.place ≤ length input.bytes = stands_within input f.place f.kind f.first.stands in
        omega arith

    by_fault : (other : ℕ) (kind_there : FaultKind) → Stands plain_lines input other kind_there ⊎ ((kind_there ≡ NotJournal) × (IsMisplacedAt input other ⊎ IsIncompleteAt input other))
        → (f.place < other) ⊎ ((f.place ≡ other) × (fault_order f.kind ≤ fault_order kind_there))
    by_fault other kind_there (inl s) = f.first.first other kind_there s
    by_fault other kind_there (inr s) = not_before f.place other f.kind kind_there s.0 (behind other s.1)

-- bytes without a fault in which no journal begins, and which go on, have none
pub script_sound : (input : Input) → HasNoFault plain_lines input → ¬ (IsTrue input.ended) → ((start : ℕ) → ¬ (BeginsJournal input start)) → HasNoFaultWithJournal input
script_sound input sound goes_on none place kind s = by_fault (by_kind input place kind s)
  where
    by_journal : IsMisplacedAt input place ⊎ IsIncompleteAt input place → ⊥
    by_journal (inl m) = none m.start m.starts.begins
    by_journal (inr i) = goes_on i.ended

    by_fault : Stands plain_lines input place kind ⊎ ((kind ≡ NotJournal) × (IsMisplacedAt input place ⊎ IsIncompleteAt input place)) → ⊥
    by_fault (inl plain) = sound place kind plain
    by_fault (inr journal) = by_journal journal.1

-- ---- faults of the limits

-- a fault of the limits is one of its kind
pub limit_stands : (input : Input) (place : ℕ) (fault : LineFault) (kind : FaultKind) → place < length input.bytes → StandsAt input.bytes place fault → Tells fault kind
    → Stands plain_lines input place kind
limit_stands input place limit.TooLong kind within stands tells = subst (Stands plain_lines input place) (sym tells) (within, stands.2)
limit_stands input place limit.TooMany kind within stands tells = subst (Stands plain_lines input place) (sym tells) (within, stands.1)
limit_stands input place limit.TooLarge kind within stands tells = subst (Stands plain_lines input place) (sym tells) (within, stands)
limit_stands input place limit.Failed kind within stands tells = absurd tells
limit_stands input place limit.OutOfMemory kind within stands tells = absurd tells

-- at its place there is none of the kinds that are looked at before
pub least_limit : (input : Input) (place : ℕ) (fault : LineFault) (kind kind_there : FaultKind) → StandsAt input.bytes place fault → Tells fault kind
    → Stands plain_lines input place kind_there → fault_order kind ≤ fault_order kind_there
least_limit input place limit.TooLarge kind kind_there stands tells s = let same : fault_order kind ≡ 0 = ap fault_order tells in omega arith
least_limit input place limit.TooMany kind TooLarge stands tells s = absurd (stands.0 s.1)
least_limit input place limit.TooMany kind kind_there stands tells s = let same : fault_order kind ≡ 1 = ap fault_order tells in omega arith
least_limit input place limit.TooLong kind TooLarge stands tells s = absurd (stands.0 s.1)
least_limit input place limit.TooLong kind TooMany stands tells s = absurd (stands.1 s.1)
least_limit input place limit.TooLong kind kind_there stands tells s = let same : fault_order kind ≡ 2 = ap fault_order tells in omega arith
least_limit input place limit.Failed kind kind_there stands tells s = absurd stands
least_limit input place limit.OutOfMemory kind kind_there stands tells s = absurd stands

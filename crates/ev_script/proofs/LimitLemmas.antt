-- The first fault of the limits, after lines that were read, is the first of the input;
-- and where the last line given ends.
use Rattle.std.proofs.Common.{◌≡◌, ℕ, zero, suc, ◌+◌, ◌-◌, ◌<◌, ◌≤◌, Bool, true, false, cond, List, [], ◌∷◌, ◌++◌, length, take, get_or, eqb, eq-eqb, IsTrue, refl, sym, ap, subst, ◌∙◌, ◌⊎◌, inl, inr, arith, append-nil, length-append}
use Rattle.std.proofs.Math.ListN.{get_or-append}
use Rattle.std.proofs.lemmas.List.{take_all, take-append-le}
use Rattle.std.proofs.lemmas.Bool.{cases_lt, eqb-true}
use Rattle.ev_io.specs.declared.faults.LineFault.{LineFault}
use Rattle.ev_io.specs.declared.faults.LineFault.TheVariants as limit
use Rattle.ev_io.specs.Lines.{lines_of, onto_first, feeds_in, IsClosed}
use Rattle.ev_io.specs.LineFaults.{StandsAt, HasNoLineFault, IsFirstLineFault}
use Rattle.ev_io.specs.LinesState.{LinesState, HasTaken}
use Rattle.ev_io.proofs.LineLemmas.{feeds_in-closed}
use Rattle.ev_script.specs.declared.fault_kinds.FaultKind.{FaultKind}
use Rattle.ev_script.specs.declared.fault_kinds.FaultKind.TheVariants.{TooLong, TooMany, TooLarge, NotJson, NotHeader, NotLine, NoSuchWorker, NoByte, NotJournal}
use Rattle.ev_script.specs.declared.forms.Settings.{Settings}
use Rattle.ev_script.specs.Faults.{LineForms, Input, index_at, EndsLine, fault_order, Stands, IsFirstFault}
use Rattle.ev_script.specs.ReadLines.{AreRead}
use Rattle.ev_script.proofs.SoundLemmas.{IsSoundAt, sound_at}
use Rattle.ev_script.proofs.FirstLemmas.{index_below}

-- which kind a fault of the limits is
abbrev pub Tells : LineFault → FaultKind → Type 0
Tells limit.TooLong kind = kind ≡ TooLong
Tells limit.TooMany kind = kind ≡ TooMany
Tells limit.TooLarge kind = kind ≡ TooLarge
Tells limit.Failed kind = ⊥
Tells limit.OutOfMemory kind = ⊥

-- the lines before the one that the place belongs to were read
pub sound_line : (forms : LineForms) (input : Input) (settings : Settings) (place other : ℕ) → AreRead forms input.audit (lines_of input.bytes) settings (index_at input place) → place < length input.bytes → EndsLine input other → other < place → IsSoundAt forms input other
sound_line forms input settings place other read within ends h = sound_at forms input other (index_at input place) settings read (index_below input other place ends h (omega arith))

-- there is no fault before the first of the limits
pub nothing_before_limit : (forms : LineForms) (input : Input) (settings : Settings) (place other : ℕ) (kind : FaultKind) → ((p : ℕ) → p < place → HasNoLineFault input.bytes p) → place < length input.bytes → AreRead forms input.audit (lines_of input.bytes) settings (index_at input place) → Stands forms input other kind → other < place → ⊥
nothing_before_limit forms input settings place other TooLong sound within read s h = (sound other h).2 s.1
nothing_before_limit forms input settings place other TooMany sound within read s h = (sound other h).1 s.1
nothing_before_limit forms input settings place other TooLarge sound within read s h = (sound other h).0 s.1
nothing_before_limit forms input settings place other NotJson sound within read s h = (sound_line forms input settings place other read within s.0.ends h).json s
nothing_before_limit forms input settings place other NotHeader sound within read s h = (sound_line forms input settings place other read within s.0.ends h).header s
nothing_before_limit forms input settings place other NotLine sound within read s h = (sound_line forms input settings place other read within s.0.ends h).line s
nothing_before_limit forms input settings place other NoSuchWorker sound within read s h = (sound_line forms input settings place other read within s.0.ends h).worker s
nothing_before_limit forms input settings place other NoByte sound within read s h = let none : length input.bytes ≡ 0 = ap length s.1 in omega arith
nothing_before_limit forms input settings place other NotJournal sound within read s h = let here : other ≡ length input.bytes = s.2 in omega arith

-- at its place there is none of the kinds that are looked at before
least_limit : (forms : LineForms) (input : Input) (place : ℕ) (fault : LineFault) (kind k : FaultKind) → StandsAt input.bytes place fault → Tells fault kind → Stands forms input place k → fault_order kind ≤ fault_order k
least_limit forms input place limit.TooLarge kind k stands tells s = let same : fault_order kind ≡ 0 = ap fault_order tells in omega arith
least_limit forms input place limit.TooMany kind TooLarge stands tells s = absurd (stands.0 s.1)
least_limit forms input place limit.TooMany kind TooMany stands tells s = let same : fault_order kind ≡ 1 = ap fault_order tells in omega arith
least_limit forms input place limit.TooMany kind TooLong stands tells s = let same : fault_order kind ≡ 1 = ap fault_order tells in omega arith
least_limit forms input place limit.TooMany kind NoByte stands tells s = let same : fault_order kind ≡ 1 = ap fault_order tells in omega arith
least_limit forms input place limit.TooMany kind NotJson stands tells s = let same : fault_order kind ≡ 1 = ap fault_order tells in omega arith
least_limit forms input place limit.TooMany kind NotHeader stands tells s = let same : fault_order kind ≡ 1 = ap fault_order tells in omega arith
least_limit forms input place limit.TooMany kind NotLine stands tells s = let same : fault_order kind ≡ 1 = ap fault_order tells in omega arith
least_limit forms input place limit.TooMany kind NoSuchWorker stands tells s = let same : fault_order kind ≡ 1 = ap fault_order tells in omega arith
least_limit forms input place limit.TooMany kind NotJournal stands tells s = let same : fault_order kind ≡ 1 = ap fault_order tells in omega arith
least_limit forms input place limit.TooLong kind TooLarge stands tells s = absurd (stands.0 s.1)
least_limit forms input place limit.TooLong kind TooMany stands tells s = absurd (stands.1 s.1)
least_limit forms input place limit.TooLong kind TooLong stands tells s = let same : fault_order kind ≡ 2 = ap fault_order tells in omega arith
least_limit forms input place limit.TooLong kind NoByte stands tells s = let same : fault_order kind ≡ 2 = ap fault_order tells in omega arith
least_limit forms input place limit.TooLong kind NotJson stands tells s = let same : fault_order kind ≡ 2 = ap fault_order tells in omega arith
least_limit forms input place limit.TooLong kind NotHeader stands tells s = let same : fault_order kind ≡ 2 = ap fault_order tells in omega arith
least_limit forms input place limit.TooLong kind NotLine stands tells s = let same : fault_order kind ≡ 2 = ap fault_order tells in omega arith
least_limit forms input place limit.TooLong kind NoSuchWorker stands tells s = let same : fault_order kind ≡ 2 = ap fault_order tells in omega arith
least_limit forms input place limit.TooLong kind NotJournal stands tells s = let same : fault_order kind ≡ 2 = ap fault_order tells in omega arith
least_limit forms input place limit.Failed kind k stands tells s = absurd stands
least_limit forms input place limit.OutOfMemory kind k stands tells s = absurd stands

-- a fault of the limits is one of its kind
limit_stands : (forms : LineForms) (input : Input) (place : ℕ) (fault : LineFault) (kind : FaultKind) → place < length input.bytes → StandsAt input.bytes place fault → Tells fault kind → Stands forms input place kind
limit_stands forms input place limit.TooLong kind within stands tells = subst (Stands forms input place) (sym tells) (within, stands.2)
limit_stands forms input place limit.TooMany kind within stands tells = subst (Stands forms input place) (sym tells) (within, stands.1)
limit_stands forms input place limit.TooLarge kind within stands tells = subst (Stands forms input place) (sym tells) (within, stands)
limit_stands forms input place limit.Failed kind within stands tells = absurd tells
limit_stands forms input place limit.OutOfMemory kind within stands tells = absurd tells

-- the first fault of the limits is the first of the input, where the lines before were read
pub limit_first : (forms : LineForms) (input : Input) (settings : Settings) (place : ℕ) (fault : LineFault) (kind : FaultKind) → IsFirstLineFault input.bytes place fault → Tells fault kind → AreRead forms input.audit (lines_of input.bytes) settings (index_at input place) → IsFirstFault forms input place kind
limit_first forms input settings place fault kind h tells read = record { stands = limit_stands forms input place fault kind h.within h.stands tells; first = λ other k s. by_place other k s (cases_lt other place) (cases_lt place other) }
  where
    by_place : (other : ℕ) (k : FaultKind) → Stands forms input other k → (other < place) ⊎ (place ≤ other) → (place < other) ⊎ (other ≤ place) → (place < other) ⊎ ((place ≡ other) × (fault_order kind ≤ fault_order k))
    by_place other k s (inl early) later = absurd (nothing_before_limit forms input settings place other k h.first h.within read s early)
    by_place other k s (inr late) (inl later) = inl later
    by_place other k s (inr late) (inr here) =
        let same : other ≡ place = omega arith in
        inr (omega arith, least_limit forms input place fault kind k h.stands tells (subst (λ (p : ℕ). Stands forms input p k) same s))

-- ---- where the last line given ends

-- a line feed is counted
pub feeds_with : (bs : List ℕ) (p : ℕ) → p < length bs → get_or bs p 0 ≡ 10 → feeds_in (take (suc p) bs) ≡ suc (feeds_in (take p bs))
feeds_with [] p h e = absurd (omega arith)
feeds_with (b ∷ bs) zero h e = ap (λ (t : Bool). cond t (suc (feeds_in (take 0 bs))) (feeds_in (take 0 bs))) (eq-eqb b 10 e)
feeds_with (b ∷ bs) (suc p) h e = by_test (eqb b 10) (feeds_with bs p (omega arith) e)
  where
    by_test : (t : Bool) → feeds_in (take (suc p) bs) ≡ suc (feeds_in (take p bs)) → cond t (suc (feeds_in (take (suc p) bs))) (feeds_in (take (suc p) bs)) ≡ suc (cond t (suc (feeds_in (take p bs))) (feeds_in (take p bs)))
    by_test true k = ap suc k
    by_test false k = k

-- the last line is closed, or there is one more line than line feeds
closed_or_more : (bs : List ℕ) → IsClosed bs ⊎ (feeds_in bs + 1 ≡ length (lines_of bs))
closed_or_more [] = inl (λ k e. absurd (omega arith))
closed_or_more (b ∷ []) = by_test (eqb b 10) refl
  where
    by_test : (t : Bool) → eqb b 10 ≡ t → IsClosed (b ∷ []) ⊎ (cond (eqb b 10) 1 0 + 1 ≡ length (cond (eqb b 10) ([] ∷ []) ((b ∷ []) ∷ [])))
    by_test true e = inl (only b (eqb-true b 10 e))
      where
        only : (b : ℕ) → b ≡ 10 → IsClosed (b ∷ [])
        only b e zero h = e
        only b e (suc k) h = absurd (omega arith)
    by_test false e = inr (subst (λ (t : Bool). cond t 1 0 + 1 ≡ length (cond t ([] ∷ []) ((b ∷ []) ∷ []))) (sym e) refl)
closed_or_more (b ∷ c ∷ cs) = by_rest (closed_or_more (c ∷ cs))
  where
    by_test : (t : Bool) (rest : List (List ℕ)) → feeds_in (c ∷ cs) + 1 ≡ length rest → cond t (suc (feeds_in (c ∷ cs))) (feeds_in (c ∷ cs)) + 1 ≡ length (cond t ([] ∷ rest) (onto_first b rest))
    by_test true rest e = omega (arith, e)
    by_test false [] e = absurd (omega (arith, e))
    by_test false (line ∷ rest) e = e

    further : IsClosed (c ∷ cs) → IsClosed (b ∷ c ∷ cs)
    further closed zero h = absurd (omega arith)
    further closed (suc k) h = closed k (omega arith)

    by_rest : IsClosed (c ∷ cs) ⊎ (feeds_in (c ∷ cs) + 1 ≡ length (lines_of (c ∷ cs))) → IsClosed (b ∷ c ∷ cs) ⊎ (feeds_in (b ∷ c ∷ cs) + 1 ≡ length (lines_of (b ∷ c ∷ cs)))
    by_rest (inl closed) = inl (further closed)
    by_rest (inr more) = inr (by_test (eqb b 10) (lines_of (c ∷ cs)) more)

-- of the bytes taken the last line that was given ends at a place, up to which no limit is passed
pub record IsLastEnd (input : Input) (given place : ℕ) : Type 0 where
  pub ends : EndsLine input place
  pub index : index_at input place + 1 ≡ given
  pub sound : (other : ℕ) → other < length input.bytes → other ≤ place → HasNoLineFault input.bytes other

-- the bytes of the lines given are closed
closed_end : (audit : Bool) (state : LinesState) (bytes : List ℕ) → (h : HasTaken state bytes) → 0 < state.given → IsClosed h.front → (place : ℕ) × IsLastEnd record { bytes = bytes; ended = state.ended; audit = audit } state.given place
closed_end audit state bytes h some closed =
    let count : feeds_in h.front ≡ state.given = feeds_in-closed h.front closed ∙ sym h.lines in
    let long : 0 < length h.front = some_byte h.front (omega arith) in
    let place : ℕ = length h.front - 1 in
    let last : length h.front ≡ place + 1 = omega arith in
    let within : place < length h.front = omega arith in
    let here : get_or bytes place 0 ≡ 10 = ap (λ (bs : List ℕ). get_or bs place 0) h.parts ∙ get_or-append h.front state.pending 0 place within ∙ closed place last in
    let all : length bytes ≡ length h.front + length state.pending = ap length h.parts ∙ length-append h.front state.pending in
    let front : take (suc place) bytes ≡ h.front = ap (take (suc place)) h.parts ∙ take-append-le (suc place) h.front state.pending (omega arith) ∙ take_all (suc place) h.front (omega arith) in
    let feeds : feeds_in (take (suc place) bytes) ≡ suc (feeds_in (take place bytes)) = feeds_with bytes place (omega arith) here in
    let same : feeds_in (take (suc place) bytes) ≡ feeds_in h.front = ap feeds_in front in (
      place,
      record {
        ends = inl (omega arith, here);
        index = omega arith;
        sound = λ other below up_to. h.sound other (omega arith);
      },
    )
  where
    some_byte : (bs : List ℕ) → 0 < feeds_in bs → 0 < length bs
    some_byte [] k = absurd (omega arith)
    some_byte (b ∷ bs) k = omega arith

-- the last line has no line feed, and the source gave its end
open_end : (audit : Bool) (state : LinesState) (bytes : List ℕ) → (h : HasTaken state bytes) → IsTrue state.ended → state.pending ≡ [] → feeds_in bytes + 1 ≡ length (lines_of bytes) → (place : ℕ) × IsLastEnd record { bytes = bytes; ended = state.ended; audit = audit } state.given place
open_end audit state bytes h ended none more =
    let front : bytes ≡ h.front = h.parts ∙ ap (λ (bs : List ℕ). h.front ++ bs) none ∙ append-nil h.front in
    let lines : length (lines_of bytes) ≡ length (lines_of h.front) = ap (λ (bs : List ℕ). length (lines_of bs)) front in
    let whole : feeds_in (take (length bytes) bytes) ≡ feeds_in bytes = ap feeds_in (take_all (length bytes) bytes (omega arith)) in
    let long : length bytes ≡ length h.front = ap length front in
    let given : state.given ≡ length (lines_of h.front) = h.lines in (
      length bytes,
      record {
        ends = inr (ended, refl, omega arith);
        index = omega arith;
        sound = λ other below up_to. h.sound other (omega arith);
      },
    )

-- where the last line that was given ends
pub last_end : (audit : Bool) (state : LinesState) (bytes : List ℕ) → HasTaken state bytes → 0 < state.given → (place : ℕ) × IsLastEnd record { bytes = bytes; ended = state.ended; audit = audit } state.given place
last_end audit state bytes h some = by_closed h.closed
  where
    by_end : IsTrue state.ended → state.pending ≡ [] → IsClosed bytes ⊎ (feeds_in bytes + 1 ≡ length (lines_of bytes)) → (place : ℕ) × IsLastEnd record { bytes = bytes; ended = state.ended; audit = audit } state.given place
    by_end ended none (inl closed) =
        let front : bytes ≡ h.front = h.parts ∙ ap (λ (bs : List ℕ). h.front ++ bs) none ∙ append-nil h.front in
        closed_end audit state bytes h some (subst IsClosed front closed)
    by_end ended none (inr more) = open_end audit state bytes h ended none more

    by_closed : IsClosed h.front ⊎ (IsTrue state.ended × (state.pending ≡ [])) → (place : ℕ) × IsLastEnd record { bytes = bytes; ended = state.ended; audit = audit } state.given place
    by_closed (inl closed) = closed_end audit state bytes h some closed
    by_closed (inr end) = by_end end.0 end.1 (closed_or_more bytes)

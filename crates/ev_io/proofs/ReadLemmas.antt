-- What comes next among the pending bytes, said of all bytes taken.
use Rattle.std.proofs.Common.{◌≡◌, ℕ, ◌+◌, ◌-◌, ◌<◌, ◌≤◌, ◌⊎◌, inl, inr, Bool, IsTrue, List, [], ◌∷◌, ◌++◌, length, take, drop, get_or, Option, None, refl, sym, ap, subst, ◌∙◌, append_assoc, length-append, length-take, add-one, arith}
use Rattle.std.proofs.lemmas.List.{append-nil, take-append-drop, take_all, drop_all}
use Rattle.std.proofs.Math.Seq.{take-append-add, drop-append-add, drop-append_seam, take-append_seam, take-length}
use Rattle.ev_io.specs.declared.limits.TheConstants.{MAX_LINE_BYTES, MAX_LINES, MAX_INPUT_BYTES}
use Rattle.ev_io.specs.declared.faults.LineFault.{LineFault}
use Rattle.ev_io.specs.declared.faults.LineFault.TheVariants.{TooLong, TooMany, TooLarge}
use Rattle.ev_io.specs.Lines.{lines_of, feeds_in, HasNoFeed, IsClosed}
use Rattle.ev_io.specs.LineFaults.{IsSoundUpTo, IsFirstLineFault, StandsAt}
use Rattle.ev_io.specs.Found.{Ends, IsLine, IsLarge, IsMany, IsLong}
use Rattle.ev_io.specs.LinesState.{LinesState, FindsNext, HasTaken}
use Rattle.ev_io.specs.ReadLine.{IsUnfinished, GivesLine, ReachesEnd}
use Rattle.ev_io.proofs.LineLemmas.{cut_at, one_at, whole, lines_of-append, feeds_in-append, feeds_in-closed, closed-append}
use Rattle.ev_io.proofs.FaultLemmas.{sound-append, feeds_before, long_at_limit, sound_further, sound_with_feed}

-- how many bytes the lines given have
front_length : (state : LinesState) (bytes : List ℕ) (h : HasTaken state bytes) → length h.front + length state.pending ≡ state.taken
front_length state bytes h = omega (arith, h.count, ap length h.parts, length-append h.front state.pending)

-- the lines given are closed where a byte is pending
closed_front : (state : LinesState) (bytes : List ℕ) (h : HasTaken state bytes) → 0 < length state.pending → IsClosed h.front
closed_front state bytes h some = here h.closed
  where
    here : IsClosed h.front ⊎ (IsTrue state.ended × (state.pending ≡ [])) → IsClosed h.front
    here (inl closed) = closed
    here (inr (_, none)) = absurd (omega (arith, ap length none))

-- or where the source goes on
closed_going : (state : LinesState) (bytes : List ℕ) (h : HasTaken state bytes) → ¬ (IsTrue state.ended) → IsClosed h.front
closed_going state bytes h going = here h.closed
  where
    here : IsClosed h.front ⊎ (IsTrue state.ended × (state.pending ≡ [])) → IsClosed h.front
    here (inl closed) = closed
    here (inr (ended, _)) = absurd (going ended)

-- bytes with no line feed and no fault after the lines given
pub unfinished : (state : LinesState) (bytes : List ℕ) → HasTaken state bytes → FindsNext state None → IsUnfinished state.given state.ended bytes
unfinished state bytes h (going, quiet) =
    let closed : IsClosed h.front = closed_going state bytes h going in
    let sound : IsSoundUpTo (h.front ++ state.pending) (length h.front) = subst (λ (xs : List ℕ). IsSoundUpTo xs (length h.front)) h.parts h.sound in
    let places : length h.front + length state.pending ≡ state.taken = front_length state bytes h in
    let all : length (h.front ++ state.pending) ≡ length h.front + length state.pending = length-append h.front state.pending in
    record {
      goes_on = going;
      closed =
          ap feeds_in (h.parts ∙ ap (λ (xs : List ℕ). h.front ++ xs) (sym (take-length state.pending)) ∙ sym (take-append-add h.front state.pending (length state.pending)))
          ∙ feeds_before h.front state.pending (length state.pending) closed quiet.none
          ∙ sym h.lines;
      sound =
          subst (λ (xs : List ℕ). IsSoundUpTo xs (length xs)) (sym h.parts)
          (subst (λ (k : ℕ). IsSoundUpTo (h.front ++ state.pending) k) (sym all)
          (sound_further h.front state.pending (length state.pending) closed sound quiet.none quiet.long (λ some. omega (arith, quiet.many some, h.lines)) (omega (arith, quiet.large))));
    }

-- bytes that were taken and not given yet
pub taken_more : (old new : LinesState) (bytes more : List ℕ) → HasTaken old bytes → new.pending ≡ old.pending ++ more → new.taken ≡ old.taken + length more → new.given ≡ old.given → (new ≡ old) ⊎ (¬ (IsTrue old.ended)) → HasTaken new (bytes ++ more)
taken_more old new bytes more h pending count given first = record {
  front = h.front;
  parts = ap (λ (xs : List ℕ). xs ++ more) h.parts ∙ append_assoc h.front old.pending more ∙ ap (λ (xs : List ℕ). h.front ++ xs) (sym pending);
  count = omega (arith, count, h.count, length-append bytes more);
  lines = given ∙ h.lines;
  closed = here first h.closed;
  sound = sound-append bytes more (length h.front) (omega (arith, ap length h.parts, length-append h.front old.pending)) h.sound;
}
  where
    here : (new ≡ old) ⊎ (¬ (IsTrue old.ended)) → IsClosed h.front ⊎ (IsTrue old.ended × (old.pending ≡ [])) → IsClosed h.front ⊎ (IsTrue new.ended × (new.pending ≡ []))
    here first (inl closed) = inl closed
    here (inl same) (inr (ended, none)) = inr (subst (λ (s : LinesState). IsTrue s.ended × (s.pending ≡ [])) (sym same) (ended, none))
    here (inr going) (inr (ended, none)) = absurd (going ended)

-- the next line, and the lines after it
next_line : (taken given : ℕ) (pending : List ℕ) (ended : Bool) (n : ℕ) → IsLine taken given pending ended n → (lines_of pending ≡ take n pending ∷ lines_of (drop (n + 1) pending)) × (lines_of (take (n + 1) pending) ≡ take n pending ∷ [])
next_line taken given pending ended n line = here line.ends
  where
    here : Ends taken pending ended n → (lines_of pending ≡ take n pending ∷ lines_of (drop (n + 1) pending)) × (lines_of (take (n + 1) pending) ≡ take n pending ∷ [])
    here (inl (below, feed, _)) = (
      cut_at pending n below feed line.none ∙ ap (λ (k : ℕ). take n pending ∷ lines_of (drop k pending)) (sym (add-one n)),
      ap (λ (k : ℕ). lines_of (take k pending)) (add-one n) ∙ one_at pending n below feed line.none,
    )
    here (inr (_, last, some, _)) =
        let none : HasNoFeed pending (length pending) = λ k below. line.none k (omega arith) in
        let one : lines_of pending ≡ pending ∷ [] = whole pending (omega arith) none in
        let all : take n pending ≡ pending = take_all n pending (omega arith) in (
          one ∙ ap (λ (xs : List ℕ). xs ∷ []) (sym all) ∙ ap (λ (xs : List ℕ). take n pending ∷ lines_of xs) (sym (drop_all (n + 1) pending (omega arith))),
          ap lines_of (take_all (n + 1) pending (omega arith)) ∙ one ∙ ap (λ (xs : List ℕ). xs ∷ []) (sym all),
        )

-- a line has a byte or a line feed
some_pending : (taken : ℕ) (pending : List ℕ) (ended : Bool) (n : ℕ) → Ends taken pending ended n → 0 < length pending
some_pending taken pending ended n (inl (below, _, _)) = omega arith
some_pending taken pending ended n (inr (_, last, one, _)) = omega arith

-- after a line was given: `new` has it after it
pub line_given : (mid new : LinesState) (bytes : List ℕ) (n : ℕ) → (h : HasTaken mid bytes) → IsLine mid.taken mid.given mid.pending mid.ended n → new ≡ record mid { given = mid.given + 1; pending = drop (n + 1) mid.pending } → HasTaken new bytes
line_given mid new bytes n h line same = subst (λ (s : LinesState). HasTaken s bytes) (sym same) taken
  where
    closed : IsClosed h.front
    closed = closed_front mid bytes h (some_pending mid.taken mid.pending mid.ended n line.ends)

    places : length h.front + length mid.pending ≡ mid.taken
    places = front_length mid bytes h

    sound : IsSoundUpTo (h.front ++ mid.pending) (length h.front)
    sound = subst (λ (xs : List ℕ). IsSoundUpTo xs (length h.front)) h.parts h.sound

    parts : bytes ≡ (h.front ++ take (n + 1) mid.pending) ++ drop (n + 1) mid.pending
    parts = h.parts ∙ ap (λ (xs : List ℕ). h.front ++ xs) (sym (take-append-drop (n + 1) mid.pending)) ∙ sym (append_assoc h.front (take (n + 1) mid.pending) (drop (n + 1) mid.pending))

    closed_now : Ends mid.taken mid.pending mid.ended n → IsClosed (h.front ++ take (n + 1) mid.pending) ⊎ (IsTrue mid.ended × (drop (n + 1) mid.pending ≡ []))
    closed_now (inl (below, feed, _)) = inl (closed-append h.front mid.pending n below feed)
    closed_now (inr (ended, last, one, _)) = inr (ended, drop_all (n + 1) mid.pending (omega arith))

    sound_now : Ends mid.taken mid.pending mid.ended n → IsSoundUpTo (h.front ++ mid.pending) (length (h.front ++ take (n + 1) mid.pending))
    sound_now (inl (below, feed, small)) = λ place under.
        sound_with_feed h.front mid.pending n closed sound line.none feed line.long (omega (arith, line.many, h.lines)) (omega (arith, places)) place (omega (arith, length-append h.front (take (n + 1) mid.pending), length-take (n + 1) mid.pending))
    sound_now (inr (ended, last, one, small)) = λ place under.
        sound_further h.front mid.pending n closed sound line.none line.long (λ _. omega (arith, line.many, h.lines)) (omega (arith, places)) place (omega (arith, length-append h.front (take (n + 1) mid.pending), length-take (n + 1) mid.pending))

    taken : HasTaken (record mid { given = mid.given + 1; pending = drop (n + 1) mid.pending }) bytes
    taken = record {
      front = h.front ++ take (n + 1) mid.pending;
      parts = parts;
      count = h.count;
      lines = omega (arith, h.lines, ap length (lines_of-append h.front (take (n + 1) mid.pending) closed ∙ ap (λ (xs : List (List ℕ)). lines_of h.front ++ xs) (next_line mid.taken mid.given mid.pending mid.ended n line).1), length-append (lines_of h.front) (take n mid.pending ∷ []));
      closed = closed_now line.ends;
      sound = subst (λ (xs : List ℕ). IsSoundUpTo xs (length (h.front ++ take (n + 1) mid.pending))) (sym h.parts) (sound_now line.ends);
    }

-- what was reported changes nothing of what was taken
pub retold : (mid : LinesState) (fault : Option LineFault) (bytes : List ℕ) → HasTaken mid bytes → HasTaken (record mid { told = fault }) bytes
retold mid fault bytes h = record { front = h.front; parts = h.parts; count = h.count; lines = h.lines; closed = h.closed; sound = h.sound }

-- the line in all lines, and a line feed more, where one ends it
pub gives_line : (old mid : LinesState) (bytes : List ℕ) (n : ℕ) → (h : HasTaken mid bytes) → IsLine mid.taken mid.given mid.pending mid.ended n → mid.given ≡ old.given → mid.told ≡ None → GivesLine old (record mid { given = mid.given + 1; pending = drop (n + 1) mid.pending }) bytes (take n mid.pending)
gives_line old mid bytes n h line given untold = record {
  line = here;
  number = ap (λ (k : ℕ). k + 1) given;
  ends = by_end line.ends;
  untold = untold;
}
  where
    closed : IsClosed h.front
    closed = closed_front mid bytes h (some_pending mid.taken mid.pending mid.ended n line.ends)

    both : (lines_of mid.pending ≡ take n mid.pending ∷ lines_of (drop (n + 1) mid.pending)) × (lines_of (take (n + 1) mid.pending) ≡ take n mid.pending ∷ [])
    both = next_line mid.taken mid.given mid.pending mid.ended n line

    all_lines : lines_of bytes ≡ lines_of h.front ++ (take n mid.pending ∷ lines_of (drop (n + 1) mid.pending))
    all_lines = ap lines_of h.parts ∙ lines_of-append h.front mid.pending closed ∙ ap (λ (xs : List (List ℕ)). lines_of h.front ++ xs) both.0

    from_here : drop old.given (lines_of bytes) ≡ take n mid.pending ∷ lines_of (drop (n + 1) mid.pending)
    from_here =
        ap (λ (k : ℕ). drop k (lines_of bytes)) (sym given ∙ h.lines)
        ∙ ap (λ (xs : List (List ℕ)). drop (length (lines_of h.front)) xs) all_lines
        ∙ drop-append_seam (lines_of h.front) (take n mid.pending ∷ lines_of (drop (n + 1) mid.pending))

    from_next : drop (mid.given + 1) (lines_of bytes) ≡ lines_of (drop (n + 1) mid.pending)
    from_next =
        ap (λ (k : ℕ). drop (k + 1) (lines_of bytes)) h.lines
        ∙ ap (λ (xs : List (List ℕ)). drop (length (lines_of h.front) + 1) xs) all_lines
        ∙ drop-append-add (lines_of h.front) (take n mid.pending ∷ lines_of (drop (n + 1) mid.pending)) 1

    here : drop old.given (lines_of bytes) ≡ take n mid.pending ∷ drop (mid.given + 1) (lines_of bytes)
    here = from_here ∙ ap (λ (xs : List (List ℕ)). take n mid.pending ∷ xs) (sym from_next)

    feeds : get_or mid.pending n 0 ≡ 10 → n < length mid.pending → old.given < feeds_in bytes
    feeds feed below =
        let lines : lines_of (h.front ++ take (n + 1) mid.pending) ≡ lines_of h.front ++ (take n mid.pending ∷ []) = lines_of-append h.front (take (n + 1) mid.pending) closed ∙ ap (λ (xs : List (List ℕ)). lines_of h.front ++ xs) both.1 in
        let parts : bytes ≡ (h.front ++ take (n + 1) mid.pending) ++ drop (n + 1) mid.pending = h.parts ∙ ap (λ (xs : List ℕ). h.front ++ xs) (sym (take-append-drop (n + 1) mid.pending)) ∙ sym (append_assoc h.front (take (n + 1) mid.pending) (drop (n + 1) mid.pending)) in
        omega (arith, given, h.lines, ap length lines, length-append (lines_of h.front) (take n mid.pending ∷ []), feeds_in-closed (h.front ++ take (n + 1) mid.pending) (closed-append h.front mid.pending n below feed), ap feeds_in parts, feeds_in-append (h.front ++ take (n + 1) mid.pending) (drop (n + 1) mid.pending))

    by_end : Ends mid.taken mid.pending mid.ended n → (old.given < feeds_in bytes) ⊎ IsTrue mid.ended
    by_end (inl (below, feed, _)) = inl (feeds feed below)
    by_end (inr (ended, _, _, _)) = inr ended

-- the end, where no byte is pending
pub reaches_end : (old mid : LinesState) (bytes : List ℕ) → HasTaken mid bytes → IsTrue mid.ended → mid.pending ≡ [] → mid.given ≡ old.given → mid.told ≡ None → ReachesEnd old mid bytes
reaches_end old mid bytes h ended none given untold =
    let all : bytes ≡ h.front = h.parts ∙ ap (λ (xs : List ℕ). h.front ++ xs) none ∙ append-nil h.front in
    record {
      lines = ap (λ (xs : List ℕ). length (lines_of xs)) all ∙ sym h.lines;
      number = given;
      ended = ended;
      sound = subst (λ (k : ℕ). IsSoundUpTo bytes k) (sym (ap length all)) h.sound;
      untold = untold;
    }

-- a fault at a pending byte, with no line feed before it
first_at : (mid : LinesState) (bytes : List ℕ) (fault : LineFault) (n : ℕ) (h : HasTaken mid bytes) → IsClosed h.front → n < length mid.pending → HasNoFeed mid.pending n → n ≤ MAX_LINE_BYTES → (0 < n → mid.given < MAX_LINES) → length h.front + n ≤ MAX_INPUT_BYTES → (feeds_in (take (length h.front + n) (h.front ++ mid.pending)) ≡ mid.given → StandsAt (h.front ++ mid.pending) (length h.front + n) fault) → (place : ℕ) × IsFirstLineFault bytes place fault × (feeds_in (take place bytes) ≡ mid.given)
first_at mid bytes fault n h closed below none short few small stands =
    let feeds : feeds_in (take (length h.front + n) (h.front ++ mid.pending)) ≡ mid.given = feeds_before h.front mid.pending n closed none ∙ sym h.lines in
    let sound : IsSoundUpTo (h.front ++ mid.pending) (length h.front) = subst (λ (xs : List ℕ). IsSoundUpTo xs (length h.front)) h.parts h.sound in (
      length h.front + n,
      record {
        within = omega (arith, ap length h.parts, length-append h.front mid.pending);
        stands = subst (λ (xs : List ℕ). StandsAt xs (length h.front + n) fault) (sym h.parts) (stands feeds);
        first = subst (λ (xs : List ℕ). IsSoundUpTo xs (length h.front + n)) (sym h.parts) (sound_further h.front mid.pending n closed sound none short (λ some. omega (arith, few some, h.lines)) small);
      },
      ap (λ (xs : List ℕ). feeds_in (take (length h.front + n) xs)) h.parts ∙ feeds,
    )

pub too_large : (mid : LinesState) (bytes : List ℕ) → HasTaken mid bytes → IsLarge mid.taken mid.given mid.pending → (place : ℕ) × IsFirstLineFault bytes place TooLarge × (feeds_in (take place bytes) ≡ mid.given)
too_large mid bytes h large =
    let places : length h.front + length mid.pending ≡ mid.taken = front_length mid bytes h in
    first_at mid bytes TooLarge (MAX_INPUT_BYTES + length mid.pending - mid.taken) h
    (closed_front mid bytes h (omega (arith, large.here, large.within)))
    (omega (arith, large.here, large.within)) large.none (omega (arith, large.long)) (λ some. few some large.many) (omega (arith, places, large.within)) (λ _. omega (arith, places, large.within, large.here))
  where
    few : 0 < MAX_INPUT_BYTES + length mid.pending - mid.taken → (mid.given < MAX_LINES) ⊎ (mid.taken ≡ MAX_INPUT_BYTES + length mid.pending) → mid.given < MAX_LINES
    few some (inl below) = below
    few some (inr none) = absurd (omega arith)

pub too_many : (mid : LinesState) (bytes : List ℕ) → HasTaken mid bytes → IsMany mid.taken mid.given mid.pending → (place : ℕ) × IsFirstLineFault bytes place TooMany × (feeds_in (take place bytes) ≡ mid.given)
too_many mid bytes h many =
    let places : length h.front + length mid.pending ≡ mid.taken = front_length mid bytes h in
    first_at mid bytes TooMany 0 h
    (closed_front mid bytes h many.here)
    many.here (λ k below. absurd (omega arith)) (omega arith) (λ some. absurd (omega arith)) (omega (arith, places, many.small))
    (λ feeds. ((λ large. absurd (omega (arith, places, many.small, large))), omega (arith, feeds, many.many)))

pub too_long : (mid : LinesState) (bytes : List ℕ) → HasTaken mid bytes → IsLong mid.taken mid.given mid.pending → (place : ℕ) × IsFirstLineFault bytes place TooLong × (feeds_in (take place bytes) ≡ mid.given)
too_long mid bytes h long =
    let places : length h.front + length mid.pending ≡ mid.taken = front_length mid bytes h in
    first_at mid bytes TooLong MAX_LINE_BYTES h
    (closed_front mid bytes h (omega (arith, long.here)))
    long.here (λ k below. long.none k (omega arith)) (omega arith) (λ _. long.many) (omega (arith, places, long.small))
    (λ feeds. ((λ large. absurd (omega (arith, places, long.small, large))), (λ many. absurd (omega (arith, feeds, long.many, many))), long_at_limit h.front mid.pending long.none))

-- nothing was taken
pub nothing_taken : (state : LinesState) → state.taken ≡ 0 → state.given ≡ 0 → state.pending ≡ [] → HasTaken state []
nothing_taken state taken given pending = record {
  front = [];
  parts = sym pending;
  count = taken;
  lines = given;
  closed = inl (λ k e. absurd (omega arith));
  sound = λ place below. absurd (omega arith);
}

-- what has no length is empty
pub no_length : (xs : List ℕ) → length xs ≡ 0 → xs ≡ []
no_length [] e = refl
no_length (x ∷ xs) e = absurd (omega arith)

-- the lines given stay, where nothing is taken after the end
pub lines_kept : (old : LinesState) (bytes more : List ℕ) → HasTaken old bytes → (IsTrue old.ended → more ≡ []) → take old.given (lines_of (bytes ++ more)) ≡ take old.given (lines_of bytes)
lines_kept old bytes more h last = by_end h.closed
  where
    front_lines : (rest : List ℕ) → IsClosed h.front → take old.given (lines_of (h.front ++ rest)) ≡ lines_of h.front
    front_lines rest closed =
        ap (λ (xs : List (List ℕ)). take old.given xs) (lines_of-append h.front rest closed)
        ∙ ap (λ (k : ℕ). take k (lines_of h.front ++ lines_of rest)) h.lines
        ∙ take-append_seam (lines_of h.front) (lines_of rest)

    by_end : IsClosed h.front ⊎ (IsTrue old.ended × (old.pending ≡ [])) → take old.given (lines_of (bytes ++ more)) ≡ take old.given (lines_of bytes)
    by_end (inl closed) =
        ap (λ (xs : List ℕ). take old.given (lines_of (xs ++ more))) h.parts
        ∙ ap (λ (xs : List ℕ). take old.given (lines_of xs)) (append_assoc h.front old.pending more)
        ∙ front_lines (old.pending ++ more) closed
        ∙ sym (ap (λ (xs : List ℕ). take old.given (lines_of xs)) h.parts ∙ front_lines old.pending closed)
    by_end (inr (ended, _)) = ap (λ (xs : List ℕ). take old.given (lines_of xs)) (ap (λ (xs : List ℕ). bytes ++ xs) (last ended) ∙ append-nil bytes)

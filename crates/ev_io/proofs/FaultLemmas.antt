-- Faults in bytes of which the first are the lines given, `front`, and the others pending.
use Rattle.std.proofs.Common.{◌≡◌, ℕ, ◌+◌, ◌-◌, ◌<◌, ◌≤◌, List, ◌++◌, length, take, get_or, sym, ap, subst, ◌∙◌, ◌⊎◌, inl, inr, arith}
use Rattle.std.proofs.lemmas.List.{get_or_append_left, get_or-append-add, take-append-le}
use Rattle.std.proofs.Math.Seq.{take-append-add}
use Rattle.std.proofs.lemmas.Bool.{cases_lt}
use Rattle.ev_io.specs.declared.limits.TheConstants.{MAX_LINE_BYTES, MAX_LINES, MAX_INPUT_BYTES}
use Rattle.ev_io.specs.Lines.{lines_of, feeds_in, HasNoFeed, IsClosed}
use Rattle.ev_io.specs.LineFaults.{IsTooLong, HasNoLineFault, IsSoundUpTo}
use Rattle.ev_io.proofs.LineLemmas.{feeds_in-append, feeds_in-none, feeds_in-closed}

-- further bytes make no fault before them
pub sound-append : (bytes more : List ℕ) (n : ℕ) → n ≤ length bytes → IsSoundUpTo bytes n → IsSoundUpTo (bytes ++ more) n
sound-append bytes more n within sound = λ place below. here place below (sound place below)
  where
    here : (place : ℕ) → place < n → HasNoLineFault bytes place → HasNoLineFault (bytes ++ more) place
    here place below (small, few, short) = (
      small,
      (λ many. few (subst (λ (xs : List ℕ). MAX_LINES ≤ feeds_in xs) (take-append-le place bytes more (omega arith)) many)),
      (λ long. short (long.0, (λ k low high feed. long.1 k low high (get_or_append_left bytes more 0 k (omega arith) ∙ feed)))),
    )

-- the line feeds before a pending byte of the next line
pub feeds_before : (front pending : List ℕ) (n : ℕ) → IsClosed front → HasNoFeed pending n → feeds_in (take (length front + n) (front ++ pending)) ≡ length (lines_of front)
feeds_before front pending n closed none =
    ap feeds_in (take-append-add front pending n)
    ∙ feeds_in-append front (take n pending)
    ∙ ap (λ (k : ℕ). feeds_in front + k) (feeds_in-none pending n none)
    ∙ sum_zero (feeds_in front)
    ∙ feeds_in-closed front closed
  where
    sum_zero : (k : ℕ) → k + 0 ≡ k
    sum_zero k = omega arith

-- a pending byte isn't too long within the limit
short_within : (front pending : List ℕ) (n : ℕ) → IsClosed front → n < MAX_LINE_BYTES → ¬ (IsTooLong (front ++ pending) (length front + n))
short_within front pending n closed below long =
    let last : length front ≡ (length front - 1) + 1 = omega (arith, long.0) in
    let feed : get_or front (length front - 1) 0 ≡ 10 = closed (length front - 1) last in
    let early : length front - 1 < length front = omega (arith, long.0) in
    long.1 (length front - 1) (omega (arith, long.0)) (omega arith) (get_or_append_left front pending 0 (length front - 1) early ∙ feed)

-- nor where it is a line feed
short_at_feed : (front pending : List ℕ) (n : ℕ) → get_or pending n 0 ≡ 10 → ¬ (IsTooLong (front ++ pending) (length front + n))
short_at_feed front pending n feed long =
    long.1 (length front + n) (omega arith) (omega arith) (get_or-append-add front pending n 0 ∙ feed)

-- the byte above the limit is too long
pub long_at_limit : (front pending : List ℕ) → HasNoFeed pending (MAX_LINE_BYTES + 1) → IsTooLong (front ++ pending) (length front + MAX_LINE_BYTES)
long_at_limit front pending none = (
  omega arith,
  (λ k low high feed.
      let place : length front + (k - length front) ≡ k = omega arith in
      none (k - length front) (omega arith) (sym (get_or-append-add front pending (k - length front) 0) ∙ ap (λ (i : ℕ). get_or (front ++ pending) i 0) place ∙ feed)),
)

-- a pending byte of the next line without a fault
sound_at : (front pending : List ℕ) (n : ℕ) → IsClosed front → HasNoFeed pending n → length (lines_of front) < MAX_LINES → length front + n < MAX_INPUT_BYTES → ¬ (IsTooLong (front ++ pending) (length front + n)) → HasNoLineFault (front ++ pending) (length front + n)
sound_at front pending n closed none few small short = (
  (λ large. absurd (omega (arith, large))),
  (λ many. absurd (omega (arith, many, feeds_before front pending n closed none))),
  short,
)

-- no fault in the first n pending bytes, which have no line feed
pub sound_further : (front pending : List ℕ) (n : ℕ) → IsClosed front → IsSoundUpTo (front ++ pending) (length front) → HasNoFeed pending n → n ≤ MAX_LINE_BYTES → (0 < n → length (lines_of front) < MAX_LINES) → length front + n ≤ MAX_INPUT_BYTES → IsSoundUpTo (front ++ pending) (length front + n)
sound_further front pending n closed sound none short few small = λ place below. here place below (cases_lt place (length front))
  where
    here : (place : ℕ) → place < length front + n → (place < length front) ⊎ (length front ≤ place) → HasNoLineFault (front ++ pending) place
    here place below (inl early) = sound place early
    here place below (inr late) =
        let same : length front + (place - length front) ≡ place = omega arith in
        subst (λ (i : ℕ). HasNoLineFault (front ++ pending) i) same
        (sound_at front pending (place - length front) closed (λ k l. none k (omega arith)) (few (omega arith)) (omega arith) (short_within front pending (place - length front) closed (omega arith)))

-- and in the line feed after them
pub sound_with_feed : (front pending : List ℕ) (n : ℕ) → IsClosed front → IsSoundUpTo (front ++ pending) (length front) → HasNoFeed pending n → get_or pending n 0 ≡ 10 → n ≤ MAX_LINE_BYTES → length (lines_of front) < MAX_LINES → length front + n < MAX_INPUT_BYTES → IsSoundUpTo (front ++ pending) (length front + n + 1)
sound_with_feed front pending n closed sound none feed short few small = λ place below. here place below (cases_lt place (length front + n))
  where
    here : (place : ℕ) → place < length front + n + 1 → (place < length front + n) ⊎ (length front + n ≤ place) → HasNoLineFault (front ++ pending) place
    here place below (inl early) = sound_further front pending n closed sound none short (λ _. few) (omega arith) place early
    here place below (inr late) =
        let same : length front + n ≡ place = omega arith in
        subst (λ (i : ℕ). HasNoLineFault (front ++ pending) i) same
        (sound_at front pending n closed none few small (short_at_feed front pending n feed))

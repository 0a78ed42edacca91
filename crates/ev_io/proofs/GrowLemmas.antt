-- What two steps of taking bytes come to.
use Rattle.std.proofs.Common.{◌≡◌, ℕ, ◌+◌, ◌<◌, ◌≤◌, ◌⊎◌, inl, inr, Bool, List, [], ◌++◌, length, take, Option, None, Some, refl, sym, ap, subst, ◌∙◌, append_assoc, length-append, arith}
use Rattle.std.proofs.lemmas.List.{append-nil}
use Rattle.std.proofs.Math.Seq.{take-append-add}
use Rattle.ev_io.specs.declared.limits.TheConstants.{MAX_PIECE_BYTES}
use Rattle.ev_io.specs.Found.{IsOpen}
use Rattle.ev_io.specs.LinesState.{LinesState, FindsNext, Grows}
use Rattle.ev_io.specs.Outside.{Takes}
use Rattle.ev_io.specs.ReadLine.{LeavesOpen}
use Rattle.ev_io.proofs.Known.{takes_both}

-- bytes that were taken in two steps
pub grows_both : (a b d : Option (List ℕ)) (old now new : LinesState) → (more : List ℕ) × Grows a b old now more → (further : List ℕ) × Grows b d now new further → (all : List ℕ) × Grows a d old new all
grows_both a b d old now new (more, first) (further, then) = (
  more ++ further,
  record {
    takes = takes_both a b d more further first.takes then.takes;
    pending = then.pending ∙ ap (λ (xs : List ℕ). xs ++ further) first.pending ∙ append_assoc old.pending more further;
    taken = omega (arith, first.taken, then.taken, length-append more further);
    given = then.given ∙ first.given;
    needed = both first.needed then.needed;
  },
)
  where
    both : (more ≡ []) ⊎ ((n : ℕ) × (n < length more) × (length more ≤ n + MAX_PIECE_BYTES) × IsOpen (old.taken + n) old.given (old.pending ++ take n more)) → (further ≡ []) ⊎ ((n : ℕ) × (n < length further) × (length further ≤ n + MAX_PIECE_BYTES) × IsOpen (now.taken + n) now.given (now.pending ++ take n further)) → ((more ++ further) ≡ []) ⊎ ((n : ℕ) × (n < length (more ++ further)) × (length (more ++ further) ≤ n + MAX_PIECE_BYTES) × IsOpen (old.taken + n) old.given (old.pending ++ take n (more ++ further)))
    both needed (inl none) =
        subst (λ (xs : List ℕ). (xs ≡ []) ⊎ ((n : ℕ) × (n < length xs) × (length xs ≤ n + MAX_PIECE_BYTES) × IsOpen (old.taken + n) old.given (old.pending ++ take n xs))) (sym (ap (λ (xs : List ℕ). more ++ xs) none ∙ append-nil more)) needed
    both needed (inr (n, below, piece, quiet)) =
        let pending : now.pending ++ take n further ≡ old.pending ++ take (length more + n) (more ++ further) = ap (λ (xs : List ℕ). xs ++ take n further) first.pending ∙ append_assoc old.pending more (take n further) ∙ ap (λ (xs : List ℕ). old.pending ++ xs) (sym (take-append-add more further n)) in
        let count : now.taken + n ≡ old.taken + (length more + n) = omega (arith, first.taken) in
        inr (
          length more + n,
          omega (arith, length-append more further),
          omega (arith, length-append more further),
          subst (λ (xs : List ℕ). IsOpen (old.taken + (length more + n)) old.given xs) pending
              (subst (λ (k : ℕ). IsOpen k old.given (now.pending ++ take n further)) count
              (subst (λ (k : ℕ). IsOpen (now.taken + n) k (now.pending ++ take n further)) first.given quiet)),
        )

-- nothing was taken yet
pub grows_not : (a : Option (List ℕ)) (old : LinesState) → (more : List ℕ) × Grows a a old old more
grows_not a old = (
  [],
  record { takes = taken a; pending = sym (append-nil old.pending); taken = omega arith; given = refl; needed = inl refl },
)
  where
    taken : (b : Option (List ℕ)) → Takes b b []
    taken None = refl
    taken (Some xs) = refl

-- what is left open by two steps was so by each
pub open_both : {S : Type 0} (ended : S → Bool) (a b d : S) (old now new : LinesState) → LeavesOpen ended a b old now → LeavesOpen ended b d now new → LeavesOpen ended a d old new
open_both ended a b d old now new first then = record {
  before = λ goes_on. first.before (then.before goes_on);
  unended = λ goes_on. then.unended goes_on ∙ first.unended (then.before goes_on);
}

-- more bytes were wanted at first, where they are wanted now and nothing was done between
pub wanted_first : {S : Type 0} (source now : S) (old new : LinesState) → ((now ≡ source) × (new ≡ old)) ⊎ FindsNext old None → FindsNext new None → FindsNext old None
wanted_first source now old new (inl (_, same)) wanted = subst (λ (s : LinesState). FindsNext s None) same wanted
wanted_first source now old new (inr first) wanted = first

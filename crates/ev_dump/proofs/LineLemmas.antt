-- Lines, whose numbers rise, are found by their numbers.
use Rattle.std.proofs.Common.{◌≡◌, ◌<◌, ◌≤◌, ◌==◌, ◌⊎◌, inl, inr, ℕ, zero, suc, Bool, true, false, if◌then◌else◌, List, [], ◌∷◌, map, length, get_or, Some, None, refl, ap, sym, ◌∙◌, arith}
use Rattle.std.specs.List.{AllPairs, AllWithin, HoldsAt, AllByRecursion as ByRecursion}
use Rattle.std.specs.List.Sorted.{IsNonDecreasingBy, IsPartitionPoint, IsStrictlyIncreasing}
use Rattle.std.specs.Ordering.{nat_cmp, ordering_index}
use Rattle.std.specs.declared.cmp.Ordering.TheVariants.{Less, Equal, Greater}
use Rattle.std.proofs.lemmas.Bool.Decides.{nat_tests}
use Rattle.std.proofs.lemmas.List.Elements.{recursion_from_All}
use Rattle.std.proofs.lemmas.List.Kept.{AllPairs-from_increasing}
use Rattle.ev_types.specs.Same.{numbers_decide}
use Rattle.ev_types.specs.declared.events.Line.{Line}
use Rattle.ev_model_laws.proofs.OperationLists.{IsIn, Pairs, at_in}
use Rattle.ev_dump.specs.Told.{line_numbered}

-- each of two lines, in order
each_line : (P : ℕ → Type 0) (lines : List Line) → ByRecursion P (map (λ (line : Line). line.at) lines) → ByRecursion (λ (line : Line). P line.at) lines
each_line P [] all = tt
each_line P (line ∷ lines) all = (all.0, each_line P lines all.1)

rising_pairs : (lines : List Line) → AllPairs (λ (m n : ℕ). m < n) (map (λ (line : Line). line.at) lines) → Pairs (λ (l m : Line). l.at < m.at) lines
rising_pairs [] all = tt
rising_pairs (line ∷ lines) all = (
  each_line (λ n. line.at < n) lines
      (recursion_from_All (λ n. line.at < n) (map (λ (l : Line). l.at) lines) (λ k d within. all 0 (suc k) d (omega arith) (omega arith))),
  rising_pairs lines (λ i j d less within. all (suc i) (suc j) d (omega arith) (omega arith)),
)

pub pairs_rise : (lines : List Line) → IsStrictlyIncreasing (map (λ (line : Line). line.at) lines) → Pairs (λ (l m : Line). l.at < m.at) lines
pairs_rise lines rising = rising_pairs lines (AllPairs-from_increasing (map (λ (line : Line). line.at) lines) rising)

later_by : (at : ℕ) (x line : Line) (xs : List Line) (b : Bool) → (x.at == at) ≡ b → x.at < line.at → line.at ≡ at → line_numbered at xs ≡ Some line
    → (if b then Some x else line_numbered at xs) ≡ Some line
later_by at x line xs true here less is more = let same : x.at ≡ at = (numbers_decide x.at at).0 here in absurd (omega arith)
later_by at x line xs false here less is more = more

-- the line of its number
pub found_by : (at : ℕ) (line : Line) (lines : List Line) → Pairs (λ (l m : Line). l.at < m.at) lines → IsIn line lines → line.at ≡ at → line_numbered at lines ≡ Some line
found_by at line [] rise there is = absurd there
found_by at line (x ∷ xs) rise (inl e) is =
    ap (λ b. if b then Some x else line_numbered at xs) ((numbers_decide x.at at).1 (ap (λ (l : Line). l.at) e ∙ is)) ∙ ap Some e
found_by at line (x ∷ xs) rise (inr there) is =
    later_by at x line xs (x.at == at) refl (at_in (λ (m : Line). x.at < m.at) line xs rise.0 there) is (found_by at line xs rise.1 there is)

in_at : {X : Type 0} (xs : List X) (k : ℕ) (d : X) → k < length xs → IsIn (get_or xs k d) xs
in_at [] k d within = absurd (omega arith)
in_at (x ∷ xs) zero d within = inl refl
in_at (x ∷ xs) (suc k) d within = inr (in_at xs k d (omega arith))

other_by : (at : ℕ) (x : Line) (xs : List Line) (b : Bool) → (x.at == at) ≡ b → (x.at ≡ at → ⊥) → line_numbered at xs ≡ None
    → (if b then Some x else line_numbered at xs) ≡ None
other_by at x xs true here apart more = absurd (apart ((numbers_decide x.at at).0 here))
other_by at x xs false here apart more = more

-- where no line has the number
none_by : (at : ℕ) (lines : List Line) → ((k : ℕ) (d : Line) → k < length lines → (get_or lines k d).at ≡ at → ⊥) → line_numbered at lines ≡ None
none_by at [] none = refl
none_by at (x ∷ xs) none =
    other_by at x xs (x.at == at) refl (none 0 x (omega arith)) (none_by at xs (λ k d within. none (suc k) d (omega arith)))

ordered : (a b at : ℕ) → a ≤ b → ordering_index (nat_cmp a at) ≤ ordering_index (nat_cmp b at)
ordered a b at le = grind (arith, nat_tests)

equal_at : (a at : ℕ) → nat_cmp a at ≡ Equal → a ≡ at
equal_at a at h = grind (arith, nat_tests)

less_at : (a at : ℕ) → nat_cmp a at ≡ Less → a ≡ at → ⊥
less_at a at h is = grind (arith, nat_tests)

greater_at : (a at : ℕ) → nat_cmp a at ≡ Greater → a ≡ at → ⊥
greater_at a at h is = grind (arith, nat_tests)

at_most : (lines : List Line) → Pairs (λ (l m : Line). l.at < m.at) lines → (i j : ℕ) (d : Line) → i ≤ j → j < length lines → (get_or lines i d).at ≤ (get_or lines j d).at
at_most [] rise i j d le within = absurd (omega arith)
at_most (x ∷ xs) rise zero zero d le within = omega arith
at_most (x ∷ xs) rise zero (suc j) d le within =
    let less : x.at < (get_or xs j d).at = at_in (λ (m : Line). x.at < m.at) (get_or xs j d) xs rise.0 (in_at xs j d (omega arith)) in omega arith
at_most (x ∷ xs) rise (suc i) zero d le within = absurd (omega arith)
at_most (x ∷ xs) rise (suc i) (suc j) d le within = at_most xs rise.1 i j d (omega arith) (omega arith)

-- what a binary search for a number says of lines
pub found_place : (at : ℕ) (lines : List Line) (place : ℕ) (d : Line) → IsStrictlyIncreasing (map (λ (line : Line). line.at) lines) → place < length lines
    → HoldsAt (λ (y : Line). nat_cmp y.at at ≡ Equal) lines place → Some (get_or lines place d) ≡ line_numbered at lines
found_place at lines place d rising within holds =
    sym (found_by at (get_or lines place d) lines (pairs_rise lines rising) (in_at lines place d within) (equal_at (get_or lines place d).at at (holds d)))

side_by : (at : ℕ) (lines : List Line) (place : ℕ) → AllWithin (λ (y : Line). nat_cmp y.at at ≡ Less) lines 0 place
    → AllWithin (λ (y : Line). nat_cmp y.at at ≡ Greater) lines place (length lines) → (k : ℕ) (d : Line) → k < length lines → (k < place) ⊎ (place ≤ k)
    → (get_or lines k d).at ≡ at → ⊥
side_by at lines place below above k d within (inl low) = less_at (get_or lines k d).at at (below k d (omega arith) low)
side_by at lines place below above k d within (inr high) = greater_at (get_or lines k d).at at (above k d high within)

either_side : (k place : ℕ) → (k < place) ⊎ (place ≤ k)
either_side k zero = inr (omega arith)
either_side zero (suc place) = inl (omega arith)
either_side (suc k) (suc place) = next (either_side k place)
  where
    next : (k < place) ⊎ (place ≤ k) → (suc k < suc place) ⊎ (suc place ≤ suc k)
    next (inl low) = inl (omega arith)
    next (inr high) = inr (omega arith)

pub found_nowhere : (at : ℕ) (lines : List Line) (place : ℕ) → IsStrictlyIncreasing (map (λ (line : Line). line.at) lines)
    → (IsNonDecreasingBy (λ (y : Line). ordering_index (nat_cmp y.at at)) lines
    → IsPartitionPoint (λ (y : Line). nat_cmp y.at at ≡ Less) (λ (y : Line). nat_cmp y.at at ≡ Greater) lines place)
    → None ≡ line_numbered at lines
found_nowhere at lines place rising parts =
    let sides : IsPartitionPoint (λ (y : Line). nat_cmp y.at at ≡ Less) (λ (y : Line). nat_cmp y.at at ≡ Greater) lines place =
    parts (λ i j d le within. ordered (get_or lines i d).at (get_or lines j d).at at (at_most lines (pairs_rise lines rising) i j d le within)) in
    sym (none_by at lines (λ k d within. side_by at lines place sides.0 sides.1 k d within (either_side k place)))

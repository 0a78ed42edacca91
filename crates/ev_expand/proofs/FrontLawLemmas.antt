-- The lines of an input by their places, and the lines of the text that they give.
use Rattle.std.proofs.Common.{◌≡◌, ◌∙◌, ◌⊎◌, inl, inr, ℕ, zero, suc, ◌+◌, ◌<◌, ◌≤◌, List, [], ◌∷◌, ◌++◌, length, map, take, flat_map, Option, Some, None, option_map, refl, sym, ap, arith}
use Rattle.std.specs.Prelude.{slice_get}
use Rattle.std.proofs.lemmas.Bool.{cases_lt}
use Rattle.std.proofs.lemmas.List.{take-map}
use Rattle.std.proofs.lemmas.Option.{slice_get-map}
use Rattle.serde_json.specs.Data.{Data}
use Rattle.ev_model_laws.proofs.PlaceLemmas.{take_one}
use Rattle.ev_expand.specs.Expanding.{Rules, gives}
use Rattle.ev_expand.specs.Fronts.{Front, behind, fronts, up_to}
use Rattle.ev_expand.specs.Said.{given_lines}
use Rattle.ev_expand.proofs.ListLemmas.{IsOfPiece, fewer_pieces, of_piece, piece_at}

-- the prefix that ends at a line is that of its place
pub record IsFrontAt (lines : List Data) (index : ℕ) (front : Front) : Type 0 where
  pub here : slice_get lines index ≡ Some front.line
  pub before : front.before ≡ take index lines

pub front_at : (lines : List Data) (index : ℕ) (front : Front) → slice_get (fronts lines) index ≡ Some front → IsFrontAt lines index front
front_at [] index front there = absurd (cc)
front_at (first ∷ lines) zero front there =
    let same : record { before = []; line = first } ≡ front = cc in
    record { here = ap (λ (f : Front). Some f.line) same; before = sym (ap (λ (f : Front). f.before) same) }
front_at (first ∷ lines) (suc index) front there =
    by (slice_get (fronts lines) index) refl (sym (slice_get-map (behind first) (fronts lines) index) ∙ there) (λ f at. front_at lines index f at)
  where
    by : (found : Option Front) → slice_get (fronts lines) index ≡ found → option_map (behind first) found ≡ Some front
        → ((f : Front) → slice_get (fronts lines) index ≡ Some f → IsFrontAt lines index f) → IsFrontAt (first ∷ lines) (suc index) front
    by None at h more = absurd (cc)
    by (Some f) at h more =
        let same : behind first f ≡ front = cc in
        let rest : IsFrontAt lines index f = more f at in
        record {
          here = rest.here ∙ ap (λ (g : Front). Some g.line) same;
          before = sym (ap (λ (g : Front). g.before) same) ∙ ap (λ ls. first ∷ ls) rest.before;
        }

-- at each line a prefix ends
pub front_there : (lines : List Data) (index : ℕ) (line : Data) → slice_get lines index ≡ Some line → (front : Front) × (slice_get (fronts lines) index ≡ Some front)
front_there [] index line there = absurd (cc)
front_there (first ∷ lines) zero line there = (record { before = []; line = first }, refl)
front_there (first ∷ lines) (suc index) line there =
    let rest = front_there lines index line there in
    (behind first rest.0, slice_get-map (behind first) (fronts lines) index ∙ ap (option_map (behind first)) rest.1)

-- the prefixes of the first lines are the first prefixes
pub fronts_taken : (lines : List Data) (n : ℕ) → fronts (take n lines) ≡ take n (fronts lines)
fronts_taken [] zero = refl
fronts_taken [] (suc n) = refl
fronts_taken (first ∷ lines) zero = refl
fronts_taken (first ∷ lines) (suc n) =
    ap (λ fs. record { before = []; line = first } ∷ fs)
    (ap (map (behind first)) (fronts_taken lines n) ∙ sym (take-map (behind first) n (fronts lines)))

-- up to it come the lines of its place
pub up_to_at : (lines : List Data) (index : ℕ) (front : Front) → slice_get (fronts lines) index ≡ Some front → up_to front ≡ take (index + 1) lines
up_to_at lines index front there =
    let at : IsFrontAt lines index front = front_at lines index front there in
    ap (λ ls. ls ++ front.line ∷ []) at.before ∙ sym (take_one lines index front.line at.here)

-- ---- lines of the text

-- this many lines of the text are given by those of the input before this one
abbrev pub given_before : Rules → List Data → ℕ → ℕ
given_before rules lines index = length (given_lines rules (take index lines))

before_is : (rules : Rules) (lines : List Data) (index : ℕ) → given_before rules lines index ≡ length (flat_map (gives rules) (take index (fronts lines)))
before_is rules lines index = ap (λ fs. length (flat_map (gives rules) fs)) (fronts_taken lines index)

-- the tree is one of those that a line gives
pub record IsGivenAt (rules : Rules) (lines : List Data) (place : ℕ) (tree : Data) : Type 0 where
  pub index : ℕ
  pub front : Front
  pub there : slice_get (fronts lines) index ≡ Some front
  pub inner : ℕ
  pub among : slice_get (gives rules front) inner ≡ Some tree
  pub at : place ≡ given_before rules lines index + inner

pub given_from : (rules : Rules) (lines : List Data) (place : ℕ) (tree : Data) → slice_get (given_lines rules lines) place ≡ Some tree → IsGivenAt rules lines place tree
given_from rules lines place tree there =
    let piece : IsOfPiece (gives rules) (fronts lines) place tree = of_piece (gives rules) (fronts lines) place tree there in
    record {
      index = piece.index;
      front = piece.piece;
      there = piece.here;
      inner = piece.inner;
      among = piece.among;
      at = omega (arith, piece.at, before_is rules lines piece.index);
    }

pub given_at : (rules : Rules) (lines : List Data) (index inner : ℕ) (front : Front) (tree : Data) → slice_get (fronts lines) index ≡ Some front
    → slice_get (gives rules front) inner ≡ Some tree → slice_get (given_lines rules lines) (given_before rules lines index + inner) ≡ Some tree
given_at rules lines index inner front tree there among =
    ap (λ n. slice_get (given_lines rules lines) (n + inner)) (before_is rules lines index)
    ∙ piece_at (gives rules) (fronts lines) index front inner tree there among

pub given_rises : (rules : Rules) (lines : List Data) (i j : ℕ) (front : Front) → i < j + 1 → slice_get (fronts lines) i ≡ Some front
    → given_before rules lines i ≤ given_before rules lines j
given_rises rules lines i j front within there = by (cases_lt i j)
  where
    by : (i < j) ⊎ (j ≤ i) → given_before rules lines i ≤ given_before rules lines j
    by (inl less) =
        omega (arith, fewer_pieces (gives rules) (fronts lines) i j front less there, before_is rules lines i, before_is rules lines j)
    by (inr back) = let same : i ≡ j = omega (arith, within, back) in omega (arith, ap (given_before rules lines) same)

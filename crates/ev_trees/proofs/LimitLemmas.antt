-- No fault of the limits is in the text of trees within them.
use Rattle.std.proofs.Common.{◌≡◌, ℕ, zero, suc, ◌+◌, ◌≤◌, List, [], ◌∷◌, ◌++◌, length, take, get_or, refl, sym, ap, subst, ◌∙◌, arith, append_assoc, length-append}
use Rattle.std.specs.Prelude.{All}
use Rattle.std.proofs.lemmas.List.{append-nil, take_all}
use Rattle.serde_json.specs.Data.{Data}
use Rattle.serde_json.specs.Written.{compact_text}
use Rattle.ev_io.specs.declared.limits.TheConstants.{MAX_LINE_BYTES, MAX_LINES, MAX_INPUT_BYTES}
use Rattle.ev_io.specs.Lines.{lines_of, HasNoFeed, IsClosed}
use Rattle.ev_io.specs.LineFaults.{IsSoundUpTo}
use Rattle.ev_io.proofs.FaultLemmas.{sound_with_feed}
use Rattle.ev_io.proofs.LineLemmas.{lines_of-append, closed-append}
use Rattle.ev_journal.specs.Rendering.{line_text}
use Rattle.ev_trees.specs.Trees.{text_of_trees, StaysWithinLimits}
use Rattle.ev_trees.proofs.FeedLemmas.{NoFeed, NoFeed-compact_text}
use Rattle.ev_trees.proofs.LineLemmas.{line_alone}

-- no byte of the prefix is a line feed
none_in : (xs ys : List ℕ) → NoFeed xs → HasNoFeed (xs ++ ys) (length xs)
none_in [] ys none k h = absurd (omega arith)
none_in (x ∷ xs) ys none zero h = none.0
none_in (x ∷ xs) ys none (suc k) h = none_in xs ys none.1 k (omega arith)

-- the byte after it is one
feed_behind : (xs ys : List ℕ) → get_or (xs ++ 10 ∷ ys) (length xs) 0 ≡ 10
feed_behind [] ys = refl
feed_behind (x ∷ xs) ys = feed_behind xs ys

line_parts : (tree : Data) (rest : List ℕ) → line_text tree ++ rest ≡ compact_text tree ++ 10 ∷ rest
unfolding line_text
line_parts tree rest = append_assoc (compact_text tree) (10 ∷ []) rest

line_is : (tree : Data) → line_text tree ≡ compact_text tree ++ 10 ∷ []
unfolding line_text
line_is tree = refl

line_long : (tree : Data) → length (line_text tree) ≡ length (compact_text tree) + 1
line_long tree = ap length (line_is tree) ∙ length-append (compact_text tree) (10 ∷ [])

-- a text is closed after a tree's line
closed_line : (front : List ℕ) (tree : Data) → IsClosed (front ++ line_text tree)
closed_line front tree =
    let all : take (length (compact_text tree) + 1) (line_text tree) ≡ line_text tree = take_all (length (compact_text tree) + 1) (line_text tree) (omega (arith, line_long tree)) in
    let feed : get_or (line_text tree) (length (compact_text tree)) 0 ≡ 10 =
    ap (λ (xs : List ℕ). get_or xs (length (compact_text tree)) 0) (line_is tree) ∙ feed_behind (compact_text tree) [] in
    subst (λ (xs : List ℕ). IsClosed (front ++ xs)) all
    (closed-append front (line_text tree) (length (compact_text tree)) (omega (arith, line_long tree)) feed)

lines_with : (front : List ℕ) (tree : Data) → IsClosed front → length (lines_of (front ++ line_text tree)) ≡ length (lines_of front) + 1
lines_with front tree closed =
    ap length (lines_of-append front (line_text tree) closed)
    ∙ length-append (lines_of front) (lines_of (line_text tree))
    ∙ ap (λ (texts : List (List ℕ)). length (lines_of front) + length texts) (line_alone tree)

-- after a closed prefix without fault, trees within what is left of the limits
sound_from : (front : List ℕ) (trees : List Data) → IsClosed front → IsSoundUpTo (front ++ text_of_trees trees) (length front)
    → All (λ tree. length (compact_text tree) ≤ MAX_LINE_BYTES) trees
    → length (lines_of front) + length trees ≤ MAX_LINES → length front + length (text_of_trees trees) ≤ MAX_INPUT_BYTES
    → IsSoundUpTo (front ++ text_of_trees trees) (length (front ++ text_of_trees trees))
sound_from front [] closed sound short few small =
    subst (λ (xs : List ℕ). IsSoundUpTo xs (length xs)) (sym (append-nil front)) (subst (λ (xs : List ℕ). IsSoundUpTo xs (length front)) (append-nil front) sound)
sound_from front (tree ∷ trees) closed sound short few small =
    let line : List ℕ = compact_text tree in
    let rest : List ℕ = text_of_trees trees in
    let pending : List ℕ = line_text tree ++ rest in
    let parts : pending ≡ line ++ 10 ∷ rest = line_parts tree rest in
    let none : HasNoFeed pending (length line) =
    subst (λ (xs : List ℕ). HasNoFeed xs (length line)) (sym parts) (none_in line (10 ∷ rest) (NoFeed-compact_text tree)) in
    let feed : get_or pending (length line) 0 ≡ 10 = ap (λ (xs : List ℕ). get_or xs (length line) 0) parts ∙ feed_behind line rest in
    let here : length line ≤ MAX_LINE_BYTES = short 0 tree (omega arith) in
    let long : length (front ++ line_text tree) ≡ length front + length line + 1 = omega (arith, length-append front (line_text tree), line_long tree) in
    let all : length pending ≡ length line + 1 + length rest = omega (arith, length-append (line_text tree) rest, line_long tree) in
    let further : IsSoundUpTo (front ++ pending) (length front + length line + 1) =
    sound_with_feed front pending (length line) closed sound none feed here (omega arith) (omega arith) in
    let same : (front ++ line_text tree) ++ rest ≡ front ++ pending = append_assoc front (line_text tree) rest in
    subst (λ (xs : List ℕ). IsSoundUpTo xs (length xs)) same
    (sound_from (front ++ line_text tree) trees (closed_line front tree)
    (subst (λ (n : ℕ). IsSoundUpTo ((front ++ line_text tree) ++ rest) n) (sym long)
    (subst (λ (xs : List ℕ). IsSoundUpTo xs (length front + length line + 1)) (sym same) further))
    (λ i other h. short (suc i) other (omega arith))
    (omega (arith, lines_with front tree closed)) (omega arith))

pub limits_stay : StaysWithinLimits
limits_stay trees within =
    sound_from [] trees (λ k e. absurd (omega arith)) (λ place h. absurd (omega arith)) within.short (omega (arith, within.few)) (omega (arith, within.small))

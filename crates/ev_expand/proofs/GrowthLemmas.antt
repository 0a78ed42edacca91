-- Trees within the limits, and what a line gives after others.
use Rattle.std.proofs.Common.{◌≡◌, ℕ, suc, ◌+◌, ◌-◌, ◌<◌, ◌≤◌, Bool, true, false, List, [], ◌∷◌, ◌++◌, length, get_or, take, map, None, Result, Ok, decimal, refl, sym, ap, ◌∙◌, subst, append_assoc, arith, length-append}
use Rattle.std.specs.declared.alloc.AllocError.{AllocError}
use Rattle.std.specs.Prelude.{All}
use Rattle.std.proofs.lemmas.List.{map-append, take-map, length-map}
use Rattle.std.proofs.lemmas.List.Elements.{All-cons, All-append}
use Rattle.std.proofs.lemmas.Grind.{flat_map-append}
use Rattle.serde_json.specs.Data.{Data}
use Rattle.serde_json.specs.Written.{compact_text}
use Rattle.ev_io.specs.declared.limits.TheConstants.{MAX_LINE_BYTES}
use Rattle.ev_journal.specs.Rendering.{line_text}
use Rattle.ev_tree.specs.Floats.{whole}
use Rattle.ev_trees.specs.Trees.{text_of_trees, AreWithinLimits, IsReadable, ReadsBack}
use Rattle.ev_expand.specs.Expanding.{Rules, given_by, written_by, gives, lines_due, ReadBack, GrowsTooLarge, IsExpanded}
use Rattle.ev_expand.specs.Following.{DueParts, following_line}
use Rattle.ev_expand.specs.Room.{IsTextSoFar}
use Rattle.ev_expand.specs.declared.text_so_far.TextSoFar.{TextSoFar}
use Rattle.ev_expand.specs.Growing.{front_of, Pushes, IsGrown}
use Rattle.ev_expand.specs.Guarding.{Guarded, guarded_by}
use Rattle.ev_expand.specs.Private.{first_use}
use Rattle.ev_script.specs.Members.{tree_told}
use Rattle.ev_expand.proofs.NumberLemmas.{viewed_more}
use Rattle.ev_expand.proofs.FrontLemmas.{flat-push}

front_short : (P : Data → Type 0) (xs ys : List Data) → All P (xs ++ ys) → All P xs
front_short P [] ys each = λ i d h. absurd (omega arith)
front_short P (x ∷ xs) ys each = All-cons P x xs (each 0 x (omega arith)) (front_short P xs ys (λ i d h. each (suc i) d (omega arith)))

-- trees that are a prefix of others are within the limits where those are
pub within_front : (xs ys : List Data) → AreWithinLimits (xs ++ ys) → AreWithinLimits xs
within_front xs ys within =
    let small : length (text_of_trees (xs ++ ys)) ≡ length (text_of_trees xs) + length (text_of_trees ys) =
    ap length (flat_map-append line_text xs ys) ∙ length-append (text_of_trees xs) (text_of_trees ys) in
    record {
      short = front_short (λ (t : Data). length (compact_text t) ≤ MAX_LINE_BYTES) xs ys within.short;
      few = omega (arith, within.few, length-append xs ys);
      small = omega (arith, within.small, small);
    }

-- what the header and some lines give, and what one more gives
pub given-push : (rules : Rules) (head : Data) (lines : List Data) (line : Data) → given_by rules head (lines ++ line ∷ []) ≡ given_by rules head lines ++ gives rules (front_of lines line)
given-push rules head lines line = ap (λ xs. head ∷ xs) (flat-push (gives rules) lines line)

pub written-push : (rules : Rules) (head : Data) (lines : List Data) (line : Data)
    → written_by rules head (lines ++ line ∷ []) ≡ written_by rules head lines ++ map whole (gives rules (front_of lines line))
written-push rules head lines line = ap (map whole) (given-push rules head lines line) ∙ map-append whole (given_by rules head lines) (gives rules (front_of lines line))

-- ---- answers of calls that put trees after a text

pub read_one : (tree : Data) → (IsReadable tree → ReadsBack (whole tree)) → ReadBack (tree ∷ [])
read_one tree h = All-cons (λ (t : Data). IsReadable t → ReadsBack (whole t)) tree [] h (λ i d k. absurd (omega arith))

-- the first of some had no room
pub pushes_first : (old new : TextSoFar) (answer : Result Bool AllocError) (more rest : List Data) → Pushes old new answer more → answer ≡ Ok false → Pushes old new (Ok false) (more ++ rest)
pushes_first old new answer more rest pushes is = record {
  pushed = λ trees so_far h. absurd (cc);
  full = λ trees so_far h within. pushes.full trees so_far is
      (within_front (trees ++ map whole more) (map whole rest)
      (subst AreWithinLimits (ap (λ (xs : List Data). trees ++ xs) (map-append whole more rest) ∙ sym (append_assoc trees (map whole more) (map whole rest))) within));
  read_back = λ h. absurd (cc);
}

-- the first of some are there, and the others had room or not
pub pushes_then : (old mid new : TextSoFar) (first answer : Result Bool AllocError) (more rest : List Data) → Pushes old mid first more → first ≡ Ok true → Pushes mid new answer rest
    → Pushes old new answer (more ++ rest)
pushes_then old mid new first answer more rest one is two =
    let joined = λ (trees : List Data). append_assoc trees (map whole more) (map whole rest) ∙ ap (λ (xs : List Data). trees ++ xs) (sym (map-append whole more rest)) in
    record {
      pushed = λ trees so_far h. subst (λ (xs : List Data). IsTextSoFar xs new) (joined trees) (two.pushed (trees ++ map whole more) (one.pushed trees so_far is) h);
      full = λ trees so_far h within. two.full (trees ++ map whole more) (one.pushed trees so_far is) h (subst AreWithinLimits (sym (joined trees)) within);
      read_back = λ h. All-append (λ (t : Data). IsReadable t → ReadsBack (whole t)) more rest (one.read_back is) (two.read_back h);
    }

-- some are due
pub some_due : (prefix nonce : List ℕ) (at : ℕ) (due : List DueParts) → (length due ≡ 0 → ⊥) → lines_due prefix nonce at due ≡ following_line prefix nonce (decimal at) due ∷ []
some_due prefix nonce at [] h = absurd (h refl)
some_due prefix nonce at (first ∷ others) h = refl

-- ---- how the text grows

-- the header alone
pub grown_first : (rules : Rules) (head : Data) (old new : TextSoFar) (answer : Result Bool AllocError) (gs : List Guarded) → IsTextSoFar [] old → Pushes old new answer (head ∷ []) → answer ≡ Ok true → gs ≡ []
    → IsGrown rules head [] new gs
grown_first rules head old new answer gs empty pushes is none = record { written = pushes.pushed [] empty is; read_back = pushes.read_back is; kept = none }

-- one line more
pub grown_more : (rules : Rules) (head : Data) (before : List Data) (line : Data) (old new : TextSoFar) (gs more : List Guarded) (answer : Result Bool AllocError)
    → IsGrown rules head before old gs → Pushes old new answer (gives rules (front_of before line)) → answer ≡ Ok true → more ≡ guarded_by rules.guard (before ++ line ∷ [])
    → IsGrown rules head (before ++ line ∷ []) new more
grown_more rules head before line old new gs more answer grown pushes is kept = record {
  written = subst (λ (xs : List Data). IsTextSoFar xs new) (sym (written-push rules head before line)) (pushes.pushed (written_by rules head before) grown.written is);
  read_back = subst ReadBack (sym (given-push rules head before line))
      (All-append (λ (t : Data). IsReadable t → ReadsBack (whole t)) (given_by rules head before) (gives rules (front_of before line)) grown.read_back (pushes.read_back is));
  kept = kept;
}

-- the header alone is too large
pub large_first : (rules : Rules) (head : Data) (lines : List Data) (old new : TextSoFar) (answer : Result Bool AllocError) → IsTextSoFar [] old → Pushes old new answer (head ∷ []) → answer ≡ Ok false
    → GrowsTooLarge rules head lines 1
large_first rules head lines old new answer empty pushes is = record {
  first = omega arith;
  last = omega arith;
  before = λ h. absurd (omega arith);
  above = pushes.full [] empty is;
}

-- the text is too large with this line
pub large_at : (rules : Rules) (head : Data) (ls : List (List ℕ)) (i : ℕ) (entry : List ℕ) (old new : TextSoFar) (gs : List Guarded) (answer : Result Bool AllocError) → i < length ls → entry ≡ get_or ls i entry
    → IsGrown rules head (map tree_told (take i ls)) old gs → Pushes old new answer (gives rules (front_of (map tree_told (take i ls)) (tree_told entry))) → answer ≡ Ok false
    → GrowsTooLarge rules head (map tree_told ls) (i + 2)
large_at rules head ls i entry old new gs answer h there grown pushes is =
    let before : i + 2 - 2 ≡ i = omega arith in
    let here : i + 2 - 1 ≡ i + 1 = omega arith in
    let fronts_at : take (i + 2 - 2) (map tree_told ls) ≡ map tree_told (take i ls) = ap (λ (n : ℕ). take n (map tree_told ls)) before ∙ take-map tree_told i ls in
    let with_line : take (i + 2 - 1) (map tree_told ls) ≡ map tree_told (take i ls) ++ tree_told entry ∷ [] =
    ap (λ (n : ℕ). take n (map tree_told ls)) here ∙ take-map tree_told (i + 1) ls ∙ viewed_more tree_told ls i entry there h in
    let all : written_by rules head (take (i + 2 - 1) (map tree_told ls)) ≡ written_by rules head (map tree_told (take i ls)) ++ map whole (gives rules (front_of (map tree_told (take i ls)) (tree_told entry))) =
    ap (written_by rules head) with_line ∙ written-push rules head (map tree_told (take i ls)) (tree_told entry) in
    record {
      first = omega arith;
      last = omega (arith, h, length-map ls tree_told);
      before = λ k. subst (λ (xs : List Data). AreWithinLimits (written_by rules head xs)) (sym fronts_at) grown.written.limits;
      above = λ within. pushes.full (written_by rules head (map tree_told (take i ls))) grown.written is (subst AreWithinLimits all within);
    }

-- what was reported where no line was refused
pub all_grown : (rules : Rules) (head : Data) (lines : List Data) (text : TextSoFar) (gs : List Guarded) → first_use rules.guard.profile rules.prefix lines ≡ None → IsGrown rules head lines text gs
    → IsExpanded rules head lines (Ok text.bytes)
all_grown rules head lines text gs unused grown = (unused, grown.written.limits, grown.read_back, grown.written.bytes)

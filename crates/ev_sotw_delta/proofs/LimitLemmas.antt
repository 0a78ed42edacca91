-- Trees that make an input, and the first line with which they make none.
use Rattle.std.proofs.Common.{◌≡◌, ◌∙◌, ℕ, suc, ◌+◌, ◌≤◌, List, [], ◌∷◌, ◌++◌, length, take, drop, sym, ap, subst, arith, length-append}
use Rattle.std.specs.Prelude.{All}
use Rattle.std.proofs.Math.Seq.{take-append_seam}
use Rattle.std.proofs.lemmas.List.{length-take, take-append-drop, take-append-le}
use Rattle.std.proofs.lemmas.List.Elements.{All-take}
use Rattle.std.proofs.lemmas.Grind.{flat_map-append}
use Rattle.serde_json.specs.Data.{Data}
use Rattle.serde_json.specs.Written.{compact_text}
use Rattle.ev_io.specs.declared.limits.TheConstants.{MAX_LINE_BYTES}
use Rattle.ev_journal.specs.Rendering.{line_text}
use Rattle.ev_trees.specs.Trees.{text_of_trees, IsReadable}
use Rattle.ev_expand.specs.Room.{IsTextSoFar}
use Rattle.ev_expand.specs.declared.text_so_far.TextSoFar.{TextSoFar}
use Rattle.ev_sotw_delta.specs.declared.outcome.DeltaError.{DeltaError}
use Rattle.ev_sotw_delta.specs.declared.outcome.DeltaError.TheVariants.{Large, OutOfMemory}
use Rattle.ev_sotw_delta.specs.DeltaText.{FitsInput, IsRefusal, IsWritten, IsTooLarge}

-- what holds of each holds of the last
pub all_last : {X : Type 0} (P : X → Type 0) (xs : List X) (x : X) → All P (xs ++ x ∷ []) → P x
all_last P [] x each = each 0 x (omega arith)
all_last P (y ∷ xs) x each = all_last P xs x (λ k other h. each (suc k) other (omega arith))

front_small : (n : ℕ) (trees : List Data) → length (text_of_trees (take n trees)) ≤ length (text_of_trees trees)
front_small n trees =
    let parts : text_of_trees trees ≡ text_of_trees (take n trees) ++ text_of_trees (drop n trees) =
    ap text_of_trees (sym (take-append-drop n trees)) ∙ flat_map-append line_text (take n trees) (drop n trees) in
    omega (arith, ap length parts, length-append (text_of_trees (take n trees)) (text_of_trees (drop n trees)))

-- a prefix of trees that make an input makes one
pub fits_front : (n : ℕ) (trees : List Data) → FitsInput trees → FitsInput (take n trees)
fits_front n trees fits = record {
  readable = All-take IsReadable n trees fits.readable;
  limits = record {
    short = All-take (λ (t : Data). length (compact_text t) ≤ MAX_LINE_BYTES) n trees fits.limits.short;
    few = omega (arith, fits.limits.few, length-take n trees);
    small = omega (arith, fits.limits.small, front_small n trees);
  };
}

-- what was refused after a prefix
pub refused : (error : DeltaError) (all front : List Data) (tree : Data) (rest : List Data) → all ≡ (front ++ tree ∷ []) ++ rest
    → FitsInput front → IsTooLarge front tree error → IsRefusal all error
refused OutOfMemory all front tree rest is fits large = tt
refused (Large line) all front tree rest is fits large =
    let long : length (front ++ tree ∷ []) ≡ length front + 1 = length-append front (tree ∷ []) in
    let whole : length all ≡ length front + 1 + length rest = omega (arith, ap length is, length-append (front ++ tree ∷ []) rest, long) in
    let same : take line all ≡ front ++ tree ∷ [] =
    ap (λ n. take n all) (large.0 ∙ sym long) ∙ ap (take (length (front ++ tree ∷ []))) is ∙ take-append_seam (front ++ tree ∷ []) rest in
    record {
      within = omega (arith, large.0, whole);
      large = λ fits_all. large.1 (subst FitsInput same fits_all);
      before = λ other less.
          let here : other ≤ length front = omega (arith, less, large.0) in
          let there : other ≤ length (front ++ tree ∷ []) = omega (arith, here, long) in
          let cut : take other all ≡ take other front =
          ap (take other) is ∙ take-append-le other (front ++ tree ∷ []) rest there ∙ take-append-le other front (tree ∷ []) here in
          subst FitsInput (sym cut) (fits_front other front fits);
    }

-- a text without lines
pub nothing_written : (text : TextSoFar) → IsTextSoFar [] text → IsWritten [] text
nothing_written text is = record {
  text_is = is;
  fits = record { readable = λ i other h. absurd (omega arith); limits = is.limits };
  read_back = λ i other h. absurd (omega arith);
}

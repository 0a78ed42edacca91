-- The text that rules make, and that where there is one no line uses a private name and none makes it too large.
use Rattle.std.proofs.Common.{◌≡◌, ℕ, ◌-◌, false, List, [], ◌∷◌, ◌++◌, take, drop, map, flat_map, None, Some, Ok, Vec, inl, inr, refl, sym, ap, subst, ◌∙◌}
use Rattle.std.specs.declared.alloc.Global.{Global}
use Rattle.std.proofs.lemmas.List.{map-append, take-append-drop}
use Rattle.std.proofs.lemmas.Grind.{flat_map-append}
use Rattle.serde_json.specs.Data.{Data}
use Rattle.serde_json.specs.View.{view}
use Rattle.ev_types.specs.declared.events.Profile.{Profile}
use Rattle.ev_types.specs.Scripts.{IsScript}
use Rattle.ev_script.specs.declared.header.Header.{Header}
use Rattle.ev_script.specs.declared.trees.ScriptTrees.{ScriptTrees}
use Rattle.ev_script.specs.Faults.{LineForms, HasNoFault, plain_lines}
use Rattle.ev_script.specs.Script.{script_of}
use Rattle.ev_tree.specs.Floats.{whole}
use Rattle.ev_trees.specs.Trees.{AreWithinLimits}
use Rattle.ev_expand.specs.Expanding.{Rules, gives, given_by, written_by, IsExpanded}
use Rattle.ev_expand.specs.Fronts.{Front, fronts, behind}
use Rattle.ev_expand.specs.Growing.{front_of}
use Rattle.ev_expand.specs.Private.{first_use}
use Rattle.ev_expand.proofs.GrowthLemmas.{within_front}
use Rattle.ev_expand.specs.Said.{lines_in, input_of_text, expanded_script}
use Rattle.ev_app.specs.Expansions.{IsTextBy, HasText, IsUnmade, MakesNoText}
use Rattle.ev_app.specs.Trees.{AreTreesOf}
use Rattle.ev_app.proofs.TreeLemmas.{same_headers, same_heads, same_lines}

-- there is a text
pub has_made : (rules : Rules) (trees : ScriptTrees) (text : Vec ℕ Global) → IsExpanded rules (view trees.head) (lines_in trees) (Ok text) → HasText rules trees
has_made rules trees text told = record { unused = told.0; limits = told.1 }

-- it is that of the rules, and so is what is the same
pub text_made : (rules : Rules) (trees : ScriptTrees) (text same : Vec ℕ Global) → IsExpanded rules (view trees.head) (lines_in trees) (Ok text)
    → HasNoFault plain_lines (input_of_text text.items) → script_of false text.items ≡ Some (expanded_script rules trees) → IsScript (expanded_script rules trees)
    → same ≡ text → IsTextBy rules trees same.items
text_made rules trees text same told sound script kept is = record {
  is = ap (λ (t : Vec ℕ Global). t.items) is ∙ told.3;
  sound = subst (λ (t : Vec ℕ Global). HasNoFault plain_lines (input_of_text t.items)) (sym is) sound;
  script = ap (λ (t : Vec ℕ Global). script_of false t.items) is ∙ script;
  kept = kept;
}

-- what the first lines give is a prefix of what all give
fronts_before : (lines more : List Data) → (rest : List Front) × (fronts (lines ++ more) ≡ fronts lines ++ rest)
fronts_before [] more = (fronts more, refl)
fronts_before (first ∷ lines) more =
    let others : (rest : List Front) × (fronts (lines ++ more) ≡ fronts lines ++ rest) = fronts_before lines more in (
      map (behind first) others.0,
      ap (λ (fs : List Front). front_of [] first ∷ map (behind first) fs) others.1 ∙ ap (λ (fs : List Front). front_of [] first ∷ fs) (map-append (behind first) (fronts lines) others.0),
    )

written_before : (rules : Rules) (head : Data) (lines more : List Data) → (rest : List Data) × (written_by rules head (lines ++ more) ≡ written_by rules head lines ++ rest)
written_before rules head lines more =
    let parts : (rest : List Front) × (fronts (lines ++ more) ≡ fronts lines ++ rest) = fronts_before lines more in (
      map whole (flat_map (gives rules) parts.0),
      ap (λ (fs : List Front). map whole (head ∷ flat_map (gives rules) fs)) parts.1
          ∙ ap (λ (ds : List Data). map whole (head ∷ ds)) (flat_map-append (gives rules) (fronts lines) parts.0)
          ∙ map-append whole (given_by rules head lines) (flat_map (gives rules) parts.0),
    )

front_within : (rules : Rules) (head : Data) (lines : List Data) (n : ℕ) → AreWithinLimits (written_by rules head lines) → AreWithinLimits (written_by rules head (take n lines))
front_within rules head lines n within =
    let parts : (rest : List Data) × (written_by rules head (take n lines ++ drop n lines) ≡ written_by rules head (take n lines) ++ rest) =
    written_before rules head (take n lines) (drop n lines) in
    within_front (written_by rules head (take n lines)) parts.0
    (subst AreWithinLimits (ap (written_by rules head) (sym (take-append-drop n lines)) ∙ parts.1) within)

-- the same trees have a text too
has_text : (rules : Rules) (forms : LineForms) (bytes : List ℕ) (trees others : ScriptTrees) → AreTreesOf forms bytes trees → AreTreesOf forms bytes others → HasText rules trees → HasText rules others
has_text rules forms bytes trees others one two has =
    let heads : view trees.head ≡ view others.head = same_heads forms bytes trees others one two in
    let lines : lines_in trees ≡ lines_in others = same_lines forms bytes trees others one two in
    record {
      unused = ap (first_use rules.guard.profile rules.prefix) (sym lines) ∙ has.unused;
      limits = subst AreWithinLimits (λ i. written_by rules (heads i) (lines i)) has.limits;
    }

-- what has a text is not unmade
not_unmade : (rules : Rules) (trees : ScriptTrees) (line number : ℕ) → HasText rules trees → IsUnmade rules trees line number → ⊥
not_unmade rules trees line number has (inl private) = let e : None ≡ Some line = sym has.unused ∙ private.0 in cc
not_unmade rules trees line number has (inr large) = large.1.above (front_within rules (view trees.head) (lines_in trees) (line - 1) has.limits)

pub never_unmade : (rules : Profile → Rules) (forms : LineForms) (bytes : List ℕ) (trees : ScriptTrees) → AreTreesOf forms bytes trees → HasText (rules trees.header.profile) trees
    → (line number : ℕ) → MakesNoText rules forms bytes line number → ⊥
never_unmade rules forms bytes trees reads has line number late =
    let same : trees.header ≡ late.trees.header = same_headers forms bytes trees late.trees reads late.reads in
    let own : Rules = rules late.trees.header.profile in
    not_unmade own late.trees line number
    (has_text own forms bytes trees late.trees reads late.reads (subst (λ (h : Header). HasText (rules h.profile) trees) same has)) late.unmade

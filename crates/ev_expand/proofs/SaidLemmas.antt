-- The lines that trees are said to be, by their places.
use Rattle.std.proofs.Common.{◌≡◌, ◌∙◌, ℕ, zero, suc, ◌+◌, ◌<◌, false, List, [], ◌∷◌, ◌++◌, length, get_or, Some, option_map, option_to_list, refl, sym, ap, subst, arith}
use Rattle.std.specs.Prelude.{All}
use Rattle.std.proofs.lemmas.List.Elements.{All-nil, All-cons}
use Rattle.serde_json.specs.Data.{Data}
use Rattle.ev_types.specs.declared.events.Line.{Line}
use Rattle.ev_script.specs.Content.{is_above}
use Rattle.ev_script.specs.declared.forms.Settings.{Settings}
use Rattle.ev_script.specs.Faults.{worker_of}
use Rattle.ev_script.specs.Lines.{line_of}
use Rattle.ev_trees.specs.Scripts.{moved}
use Rattle.ev_trees.proofs.MoveLemmas.{line-moves}
use Rattle.ev_expand.specs.Said.{HasLine, AllAt, lines_said}

-- a line is one at any place
pub line_anywhere : (settings : Settings) (at other : ℕ) (tree : Data) → HasLine settings at tree → HasLine settings other tree
line_anywhere settings at other tree has =
    record { line = moved other has.line; is = line-moves settings.profile at other tree ∙ ap (option_map (moved other)) has.is; below = has.below }

pub said_first : (settings : Settings) (at : ℕ) (tree : Data) (trees : List Data) (has : HasLine settings at tree) → lines_said settings.profile at (tree ∷ trees) ≡ has.line ∷ lines_said settings.profile (at + 1) trees
said_first settings at tree trees has = ap (λ found. option_to_list found ++ lines_said settings.profile (at + 1) trees) has.is

pub said_count : (settings : Settings) (at : ℕ) (trees : List Data) → AllAt (HasLine settings) at trees → length (lines_said settings.profile at trees) ≡ length trees
said_count settings at [] all = refl
said_count settings at (tree ∷ trees) all =
    ap length (said_first settings at tree trees all.0) ∙ ap (λ n. suc n) (said_count settings (at + 1) trees all.1)

pub said_each : (settings : Settings) (at : ℕ) (trees : List Data) → AllAt (HasLine settings) at trees → (i : ℕ) (tree : Data) (line : Line) → i < length trees
    → line_of settings.profile (at + i) (get_or trees i tree) ≡ Some (get_or (lines_said settings.profile at trees) i line)
said_each settings at [] all i tree line h = absurd (omega arith)
said_each settings at (first ∷ trees) all zero tree line h =
    let place : at + 0 ≡ at = omega arith in
    ap (λ n. line_of settings.profile n first) place ∙ all.0.is ∙ sym (ap (λ ls. Some (get_or ls 0 line)) (said_first settings at first trees all.0))
said_each settings at (first ∷ trees) all (suc i) tree line h =
    let place : at + suc i ≡ at + 1 + i = omega arith in
    ap (λ n. line_of settings.profile n (get_or trees i tree)) place ∙ said_each settings (at + 1) trees all.1 i tree line (omega arith)
    ∙ sym (ap (λ ls. Some (get_or ls (suc i) line)) (said_first settings at first trees all.0))

pub said_below : (settings : Settings) (at : ℕ) (trees : List Data) → AllAt (HasLine settings) at trees → All (λ (line : Line). is_above settings.workers (worker_of line.actor) ≡ false) (lines_said settings.profile at trees)
said_below settings at [] all = All-nil (λ (line : Line). is_above settings.workers (worker_of line.actor) ≡ false)
said_below settings at (tree ∷ trees) all =
    subst (All (λ (line : Line). is_above settings.workers (worker_of line.actor) ≡ false)) (sym (said_first settings at tree trees all.0))
    (All-cons (λ (line : Line). is_above settings.workers (worker_of line.actor) ≡ false) _ _ all.0.below (said_below settings (at + 1) trees all.1))

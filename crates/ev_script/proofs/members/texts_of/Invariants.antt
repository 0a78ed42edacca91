use Rattle.std.proofs.Common.{◌≡◌, ℕ, ◌++◌, List, drop, option_map}
use Rattle.serde_json.specs.View.{items_view}
use Rattle.ev_script.specs.Members.{texts_of}
use Rattle.ev_script.proofs.members.texts_of.Given as goal

-- what was read, and what the rest reads as after it
abbrev pub invariant-loop-value : goal.invariant-loop-value
invariant-loop-value l =
    texts_of (items_view l.values)
    ≡ option_map (λ (rest : List (List ℕ)). l.texts.items ++ rest) (texts_of (items_view (drop l.value-index l.values)))

use Rattle.std.proofs.Common.{◌≡◌, ◌<◌, ◌^◌, ℕ, map, take, All}
use Rattle.serde_json.specs.View.{view}
use Rattle.ev_journal.specs.Rendering.{number_tree}
use Rattle.ev_journal.proofs.answers.number_values.Given as goal

abbrev pub invariant-loop-number : goal.invariant-loop-number
invariant-loop-number l = (map view l.values.items ≡ map number_tree (take l.number-index l.numbers))
    × All (λ (n : ℕ). n < 2 ^ 64) (take l.number-index l.numbers)

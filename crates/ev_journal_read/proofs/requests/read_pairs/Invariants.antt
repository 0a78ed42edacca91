use Rattle.std.proofs.Common.{◌≡◌, ℕ, ◌++◌, List, option_map}
use Rattle.serde_json.specs.View.{members_view}
use Rattle.ev_journal_read.specs.Trees.{pairs_of}
use Rattle.ev_journal_read.proofs.requests.read_pairs.Given as goal

-- what the rest reads as comes after what was read
abbrev pub invariant-loop-key : goal.invariant-loop-key
invariant-loop-key l =
    pairs_of (members_view l.members.entries)
    ≡ option_map (λ (rest : List (List ℕ × List ℕ)). l.pairs.items ++ rest) (pairs_of (members_view l.key-iterator))

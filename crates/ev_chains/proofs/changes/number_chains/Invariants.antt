use Rattle.std.proofs.Common.{◌≡◌, ◌+◌, ◌<◌, ◌≤◌, ◌^◌, ◌++◌, length}
use Rattle.std.specs.Vec.Iter.{into_iter_items}
use Rattle.ev_chains.specs.State.{numbered, made_by}
use Rattle.ev_chains.proofs.changes.number_chains.Given as goal

-- what is done, and the rest of the chains after it
abbrev pub invariant-loop-chain : goal.invariant-loop-chain
invariant-loop-chain l =
    let rest = into_iter_items l.chain-iterator in
    record {
      rows : l.rows.items ++ numbered l.made_now l.serving rest ≡ numbered l.fn.made l.serving l.fn.chains.items;
      made : made_by l.made_now l.serving rest ≡ made_by l.fn.made l.serving l.fn.chains.items;
      grows : l.fn.made ≤ l.made_now;
      room : l.made_now + length rest < 2 ^ 32;
    }

use Rattle.std.proofs.Common.{◌≡◌, take}
use Rattle.ev_chains.specs.State.{kept_in, gone_in}
use Rattle.ev_chains.proofs.changes.part_rows.Given as goal

abbrev pub invariant-loop-row : goal.invariant-loop-row
invariant-loop-row l =
    let seen = take l.row-index l.rows in
    record {
      kept : l.kept.items ≡ kept_in l.next seen;
      gone : l.gone.items ≡ gone_in l.next seen;
    }

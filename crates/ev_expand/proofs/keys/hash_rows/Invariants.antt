use Rattle.std.proofs.Common.{◌≡◌, fold, flat_map, drop}
use Rattle.ev_expand.specs.Keys.{row_hash_input}
use Rattle.ev_expand.proofs.keys.hash_rows.Given as goal

abbrev pub invariant-loop-row : goal.invariant-loop-row
invariant-loop-row g l =
    fold g.H.Hasher.write l.state (flat_map row_hash_input (drop l.row-index l.rows))
    ≡ fold g.H.Hasher.write l.initial.state (flat_map row_hash_input l.rows)

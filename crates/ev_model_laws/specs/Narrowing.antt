-- Which filter chains are left for a connection: one at most.
use Rattle.std.specs.Prelude.{◌≡◌, ◌≤◌, false, List, map, length}
use Rattle.ev_types.specs.FilterChains.{has_collision}
use Rattle.ev_model.specs.declared.pictures.ServedChain.{ServedChain}
use Rattle.ev_model.specs.Narrowing.{Incoming, chains_left, lacks_source}

-- where no two chains collide one is left at most, for a connection of which it is said who
-- connects, or where none that is left asks for that
abbrev pub NarrowsToOne : Type 0
NarrowsToOne =
    (incoming : Incoming) (chains : List ServedChain) → has_collision (map (λ (c : ServedChain). c.criteria) chains) ≡ false
    → lacks_source incoming (chains_left incoming chains) ≡ false
    → length (chains_left incoming chains) ≤ 1

-- Tidying has nothing left to do at a world that was tidied.
use Rattle.std.specs.Prelude.{◌≡◌}
use Rattle.ev_model.specs.World.{World}
use Rattle.ev_model.specs.Tidy.{tidy}

-- tidying twice is tidying once
abbrev pub TidiesOnce : Type 0
TidiesOnce = (world : World) → tidy (tidy world) ≡ tidy world

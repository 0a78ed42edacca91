-- Where a generation stands.
use Rattle.std.specs.Prelude.{Bool, true, false}
use Rattle.ev_types.specs.declared.rows.RowStatus.{RowStatus}
use Rattle.ev_types.specs.declared.rows.RowStatus.TheVariants.{Warming, Active, Draining, Dropped}

-- it waits
abbrev pub is_warming : RowStatus → Bool
is_warming Warming = true
is_warming Active = false
is_warming Draining = false
is_warming Dropped = false

-- it serves
abbrev pub is_active : RowStatus → Bool
is_active Warming = false
is_active Active = true
is_active Draining = false
is_active Dropped = false

-- it warms or serves
abbrev pub is_live : RowStatus → Bool
is_live Warming = true
is_live Active = true
is_live Draining = false
is_live Dropped = false

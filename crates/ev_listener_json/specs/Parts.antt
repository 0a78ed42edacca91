-- What the first of some parts serves that serves.
use Rattle.std.specs.Prelude.{List, Option, is_some}
use Rattle.std.specs.Option.{option_flatten}
use Rattle.std.specs.List.{find}
use Rattle.ev_types.specs.declared.listeners.Serve.{Serve}

-- the first that is there
abbrev pub first_of : List (Option Serve) → Option Serve
first_of serves = option_flatten (find is_some serves)

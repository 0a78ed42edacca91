-- What is shown of what is known.
use Rattle.std.specs.Prelude.{map}
use Rattle.ev_types.specs.declared.rows.GenRow.{GenRow}
use Rattle.ev_model.specs.World.{World}
use Rattle.ev_model.specs.Dead.{last_picture}
use Rattle.ev_ledger.specs.Members.{count_of}
use Rattle.ev_registry.specs.declared.views.View.{View}
use Rattle.ev_registry.specs.declared.views.ViewRow.{ViewRow}

-- a generation, and how many connections are open on it
abbrev pub view_row : World → GenRow → ViewRow
view_row world row =
    record { kind = row.kind; number = row.number; name = row.name; status = row.status; connections = count_of row.number world.opened }

-- each generation of the world, in order of their numbers, the phase, and the version of the last picture
abbrev pub view_of : World → View
view_of world = record { rows = map (view_row world) world.rows; phase = world.phase; version = (last_picture world).version }

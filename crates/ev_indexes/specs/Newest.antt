-- The newest live generation of a name, by searches of the rows.
use Rattle.std.specs.Prelude.{ℕ, Bool, ◌&&◌, nat_lt, if◌then◌else◌, List, Option, None, Some, filter, map, option_map}
use Rattle.std.specs.Option.{option_and_then}
use Rattle.ev_types.specs.Statuses.{is_live}
use Rattle.ev_types.specs.declared.rows.GenRow.{GenRow}
use Rattle.ev_types.specs.declared.rows.Live.{Live}
use Rattle.ev_model.specs.Live.{live_of, latest}
use Rattle.ev_indexes.specs.Tables.{row_in}
use Rattle.ev_lookups.specs.declared.kind_keys.Key.{Key}
use Rattle.ev_indexes.specs.declared.names.Standing.{Standing}
use Rattle.ev_indexes.specs.Indexes.{is_of}

-- the row is a live one of the name
abbrev pub is_live_as : Key → GenRow → Bool
is_live_as key row = is_live row.status && is_of key row

-- of the live rows of a name the one of the greatest number
abbrev pub newest_in : List GenRow → Key → Option Live
newest_in rows key = latest (map live_of (filter (is_live_as key) rows))

-- the greater of two numbers, where there are two
abbrev pub later_of_two : Option ℕ → Option ℕ → Option ℕ
later_of_two None second = second
later_of_two (Some first) None = Some first
later_of_two (Some first) (Some second) = if nat_lt first second then Some second else Some first

-- the greater of the live numbers of a name
abbrev pub later_number : Standing → Option ℕ
later_number standing = later_of_two standing.active standing.warming

-- what is seen of the row of a number, where there is a number
abbrev pub found_in : List GenRow → Option ℕ → Option Live
found_in rows number = option_map live_of (option_and_then (λ n. row_in n rows) number)

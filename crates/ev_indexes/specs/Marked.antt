-- Rows with a mark for each, whether its host may be chosen.
use Rattle.std.specs.Prelude.{◌≡◌, ℕ, Bool, true, false, ◌&&◌, ◌||◌, nat_eq, List, [], ◌∷◌, IfSome, map, slice_get, slice_set}
use Rattle.std.specs.Map.{lookup}
use Rattle.std.specs.Option.{option_map_or}
use Rattle.ev_types.specs.SameHosts.{has_host, place_of}
use Rattle.ev_types.specs.Hosts.{HostRowParts}
use Rattle.ev_types.specs.declared.hosts.Host.{Host}
use Rattle.ev_indexes.specs.Results.{HostResults, NotesAmong, is_eligible_among}
use Rattle.ev_indexes.specs.declared.marked.MarkedRows.{MarkedRows}

-- a host stands in two of these rows
abbrev pub has_repeats : List HostRowParts → Bool
has_repeats [] = false
has_repeats (row ∷ rows) = has_host row.host rows || has_repeats rows

-- the row at this place is usable, where there is one
abbrev pub usable_at : List HostRowParts → ℕ → Bool
usable_at rows place = option_map_or (λ (row : HostRowParts). row.usable) (slice_get rows place) false

-- the marks of these rows, with a result of a host
abbrev pub marks_with : Host → Bool → List HostRowParts → List Bool → List Bool
marks_with host healthy rows marks =
    option_map_or (λ place. slice_set marks place (usable_at rows place && healthy)) (place_of host rows) marks

-- the rows of each number without their marks
abbrev pub rows_marked : List (ℕ × MarkedRows) → List (ℕ × List HostRowParts)
rows_marked es = map (λ e. (e.0, e.1.rows)) es

-- each row is marked whose host may be chosen by the results of this number, and no host stands in two rows
pub record IsMarkedBy (results : HostResults) (number : ℕ) (m : MarkedRows) : Type 0 where
  pub marks : m.marks ≡ map (is_eligible_among results number true) m.rows
  pub apart : has_repeats m.rows ≡ false

-- the rows of each number are marked so
abbrev pub AreMarked : HostResults → List (ℕ × MarkedRows) → Type 0
AreMarked results es = (number : ℕ) → IfSome (lookup (nat_eq number) es) (IsMarkedBy results number)

-- with whatever result is noted, what was marked so is marked so; and the same rows are marked
pub record NotesMark (old new : List (ℕ × MarkedRows)) (number : ℕ) (host : Host) (healthy : Bool) : Type 0 where
  pub rows : rows_marked new ≡ rows_marked old
  pub marks : (results more : HostResults) → NotesAmong results more number host healthy → AreMarked results old → AreMarked more new

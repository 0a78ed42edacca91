-- Names that generations began or ceased to depend on since this many numbers were allocated,
-- by the numbers of the generations that were made and of those that retired.
use Rattle.std.specs.Prelude.{ℕ, zero, suc, ◌+◌, ◌-◌, Bool, not, ◌&&◌, nat_le, if◌then◌else◌, List, [], ◌∷◌, ◌++◌, Option, None, Some, filter}
use Rattle.std.specs.List.{list_any, flat_map}
use Rattle.ev_types.specs.Statuses.{is_live}
use Rattle.ev_types.specs.declared.contents.Content.{Content}
use Rattle.ev_types.specs.declared.contents.Kind.{Kind}
use Rattle.ev_types.specs.declared.rows.GenRow.{GenRow}
use Rattle.ev_model.specs.Watching.{names_awaited, sorted_names}
use Rattle.ev_indexes.specs.Tables.{row_in}
use Rattle.ev_lookups.specs.Keys.{named}
use Rattle.ev_lookups.specs.declared.kind_keys.Key.{Key}
use Rattle.ev_indexes.specs.Needs.{needs_of}
use Rattle.ev_indexes.specs.Indexes.{depends_on}

-- a live row up to this number depends on the name
abbrev pub is_held : ℕ → List GenRow → Key → Bool
is_held made rows key = list_any (λ (row : GenRow). nat_le row.number made && depends_on key row) rows

-- those of these names of a kind that aren't held
abbrev pub free_names : Kind → ℕ → List GenRow → List (List ℕ) → List (List ℕ)
free_names kind made rows names = filter (λ name. not (is_held made rows (named kind name))) names

-- the names of a kind that a generation of this content depends on at its places, and that aren't held
abbrev pub free_needs : Kind → ℕ → List GenRow → Content → List (List ℕ)
free_needs kind made rows content = free_names kind made rows (names_awaited kind (needs_of content))

-- the same of a row that is found
abbrev pub needs_found : Kind → ℕ → List GenRow → Option GenRow → List (List ℕ)
needs_found kind made rows None = []
needs_found kind made rows (Some row) = free_needs kind made rows row.content

-- the same of a row that is found and live
abbrev pub live_needs_found : Kind → ℕ → List GenRow → Option GenRow → List (List ℕ)
live_needs_found kind made rows None = []
live_needs_found kind made rows (Some row) = if is_live row.status then free_needs kind made rows row.content else []

-- what the row of a number leaves, where it is up to `made`
abbrev pub needs_lost : Kind → ℕ → List GenRow → ℕ → List (List ℕ)
needs_lost kind made rows number = if nat_le number made then needs_found kind made rows (row_in number rows) else []

-- what the row of a number brings, where it is live
abbrev pub needs_gained : Kind → ℕ → List GenRow → ℕ → List (List ℕ)
needs_gained kind made rows number = live_needs_found kind made rows (row_in number rows)

-- so many numbers after this one
abbrev pub numbers_after : ℕ → ℕ → List ℕ
numbers_after made zero = []
numbers_after made (suc count) = numbers_after made count ++ (made + suc count) ∷ []

-- the names of a kind that the rows of these numbers, up to `made`, depend on or did so before they retired,
-- and that aren't held; in the order of their bytes, each once
abbrev pub names_lost : Kind → ℕ → List GenRow → List ℕ → List (List ℕ)
names_lost kind made rows numbers = sorted_names (flat_map (needs_lost kind made rows) numbers)

-- the names of a kind that live rows after `made`, up to `allocated`, depend on, and that aren't held;
-- in the order of their bytes, each once
abbrev pub names_gained : Kind → ℕ → ℕ → List GenRow → List (List ℕ)
names_gained kind made drawn rows = sorted_names (flat_map (needs_gained kind made rows) (numbers_after made (drawn - made)))

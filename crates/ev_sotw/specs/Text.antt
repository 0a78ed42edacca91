-- The whole journal of a replay of a state-of-the-world script.
use Rattle.std.specs.Prelude.{ℕ, ◌-◌, List, [], ◌++◌, length, map, slice_get, Bool, true, false, if◌then◌else◌, unwrap_or}
use Rattle.std.specs.List.{flat_map}
use Rattle.serde_json.specs.Data.{Data}
use Rattle.ev_types.specs.declared.events.Entry.{Entry}
use Rattle.ev_types.specs.declared.events.Event.{Event}
use Rattle.ev_types.specs.declared.events.Event.TheVariants.{Response}
use Rattle.ev_types.specs.declared.events.Profile.{Profile}
use Rattle.ev_types.specs.declared.journals.Format.TheVariants.{Two}
use Rattle.ev_journal.specs.Rendering.{first_tree, end_tree, line_text}
use Rattle.ev_sotw.specs.Searches.{with_before}
use Rattle.ev_sotw.specs.Lines.{version_in}
use Rattle.ev_sotw.specs.Stated.{Stated, stated_with, sotw_line}

-- ---- versions, by the lines after the header

-- the versions of the responses that the lines of a script in a profile bring, and the empty text for each that brings
-- none
abbrev pub versions_in : Profile → List Data → List (List ℕ)
versions_in profile lines = map (version_in profile) lines

abbrev pub is_response : Event → Bool
is_response (Response response) = true
is_response event = false

-- the version of the response that an entry answers, which its line brings: the header's line is 1
abbrev pub version_at : List (List ℕ) → Entry → List ℕ
version_at versions entry = if is_response entry.event then unwrap_or (slice_get versions (entry.at - 2)) [] else []

-- an entry with the version of the response that it answers, by the versions that lines bring
abbrev pub stated_by : List (List ℕ) → Entry → Stated
stated_by versions entry = stated_with entry (version_at versions entry)

-- the same, by the lines
abbrev pub stated_in : Profile → List Data → Entry → Stated
stated_in profile lines entry = stated_by (versions_in profile lines) entry

-- ---- the text

-- the lines of entries, each after those before it
abbrev pub lines_told : List Stated → List ℕ
lines_told entries = flat_map (λ (placed : List Stated × Stated). sotw_line placed.0 placed.1) (with_before [] entries)

-- the rendering of these entries, in format 2, with requests of the state of the world
abbrev pub sotw_text : ℕ → List Stated → List ℕ
sotw_text workers entries = line_text (first_tree Two workers) ++ lines_told entries ++ line_text (end_tree (length entries))

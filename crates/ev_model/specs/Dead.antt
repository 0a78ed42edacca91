-- Which generations nothing holds any more. This project's own;
-- that an old generation stays while connections are open on it is draining of Envoy's documentation.
-- In format 2 a draining listener waits for its drain timeout too.
use Rattle.std.specs.Prelude.{ℕ, Bool, false, true, not, ◌&&◌, ◌||◌, ◌==◌, List, [], ◌∷◌, ◌++◌, map, Option, Some, None, slice_index_or}
use Rattle.std.specs.List.{list_any, flat_map}
use Rattle.ev_types.specs.declared.contents.Kind.{Kind}
use Rattle.ev_types.specs.declared.contents.Kind.TheVariants.{Cds, Eds, Lds, Rds, Sds, Ecds}
use Rattle.ev_types.specs.declared.journals.Format.{Format}
use Rattle.ev_types.specs.declared.journals.Format.TheVariants.{One, Two}
use Rattle.ev_types.specs.declared.rows.RowStatus.{RowStatus}
use Rattle.ev_types.specs.declared.rows.RowStatus.TheVariants.{Warming, Active, Draining, Dropped}
use Rattle.ev_types.specs.declared.rows.GenRow.{GenRow}
use Rattle.ev_model.specs.declared.pictures.Picture.{Picture}
use Rattle.ev_model.specs.declared.pictures.Shown.{Shown}
use Rattle.ev_model.specs.World.{World, OpenMember, nothing_shown, last_version}
use Rattle.ev_model.specs.Picture.{numbers_shown, has_number}

-- what the picture of this version shows
abbrev pub shown_at : World → ℕ → Shown
shown_at world version = slice_index_or world.pictures version nothing_shown

-- the picture of this version
abbrev pub picture_at : World → ℕ → Picture
picture_at world version = record { version = version; shown = shown_at world version }

-- the last picture
abbrev pub last_picture : World → Picture
last_picture world = picture_at world (last_version world)

-- the version that a worker holds
abbrev pub version_held : World → ℕ → ℕ
version_held world worker = slice_index_or world.held worker 0

-- the picture that a worker holds
abbrev pub picture_held : World → ℕ → Picture
picture_held world worker = picture_at world (version_held world worker)

-- what the pictures show that workers hold, and the last one
abbrev pub shown_in_use : World → List Shown
shown_in_use world = map (shown_at world) world.held ++ shown_at world (last_version world) ∷ []

-- the numbers of the generations that they show
abbrev pub numbers_in_use : World → List ℕ
numbers_in_use world = flat_map numbers_shown (shown_in_use world)

-- the connection was forwarded to the cluster of this number
abbrev pub is_forwarded_to : ℕ → Option ℕ → Bool
is_forwarded_to number None = false
is_forwarded_to number (Some cluster) = cluster == number

-- the connection is open on the generation of this number
abbrev pub is_open_on : ℕ → OpenMember → Bool
is_open_on number member = (member.listener == number) || is_forwarded_to number member.cluster

-- the generation of this number is one of these that are shown, or one of these connections is open on it
abbrev pub is_in_use_by : List ℕ → List OpenMember → ℕ → Bool
is_in_use_by shown opened number = has_number number shown || list_any (is_open_on number) opened

-- a picture in use shows the generation of this number, or a connection is open on it
abbrev pub is_in_use : World → ℕ → Bool
is_in_use world number = is_in_use_by (numbers_in_use world) world.opened number

-- a draining generation of this kind waits for its drain timeout
abbrev pub waits_for_timer : Format → Kind → Bool
waits_for_timer One kind = false
waits_for_timer Two Cds = false
waits_for_timer Two Eds = false
waits_for_timer Two Lds = true
waits_for_timer Two Rds = false
waits_for_timer Two Sds = false
waits_for_timer Two Ecds = false

-- a generation that was dropped is dead, and one that drains where nothing holds it
abbrev pub is_dead_at : RowStatus → Bool → Bool
is_dead_at Warming held = false
is_dead_at Active held = false
is_dead_at Draining held = not held
is_dead_at Dropped held = true

-- nothing holds the generation any more, by the numbers that are shown, the connections,
-- and the numbers whose drain timeout has passed
abbrev pub is_dead_by : Format → List ℕ → List OpenMember → List ℕ → GenRow → Bool
is_dead_by format shown opened expired row =
    is_dead_at row.status
    (is_in_use_by shown opened row.number || (waits_for_timer format row.kind && not (has_number row.number expired)))

-- nothing holds the generation any more
abbrev pub is_dead : Format → World → GenRow → Bool
is_dead format world row = is_dead_by format (numbers_in_use world) world.opened world.expired row

-- What a response does to generations, arrivals and versions:
-- removals first, then its resources in order. Source: the xDS transport protocol, incremental variant;
-- that an update is a whole new generation which warms is Envoy's cluster manager warming;
-- a time to live bounds a resource's life, and a heartbeat renews it.
use Rattle.std.specs.Prelude.{ℕ, Bool, true, false, not, ◌&&◌, ◌+◌, if◌then◌else◌, List, [], ◌∷◌, ◌++◌, filter, find, map, Option, Some, None}
use Rattle.std.specs.List.{fold, zip}
use Rattle.std.specs.Str.{bytes_eq}
use Rattle.ev_types.specs.Items.{ItemParts, ResponseParts}
use Rattle.ev_types.specs.declared.contents.Kind.{Kind}
use Rattle.ev_types.specs.declared.contents.Kind.TheVariants.{Cds, Eds, Lds, Rds, Sds, Ecds}
use Rattle.ev_types.specs.declared.contents.Body.{Body}
use Rattle.ev_types.specs.declared.contents.Body.TheVariants.{Good, Bad, Beat}
use Rattle.ev_types.specs.declared.contents.Content.{Content}
use Rattle.ev_types.specs.declared.events.Verdict.{Verdict}
use Rattle.ev_types.specs.declared.events.Verdict.TheVariants.{New, InPlace, Back, Same, Kept, Unasked, Renewed, Refused}
use Rattle.ev_types.specs.declared.rows.RowStatus.{RowStatus}
use Rattle.ev_types.specs.declared.rows.RowStatus.TheVariants.{Warming, Active, Draining, Dropped}
use Rattle.ev_types.specs.declared.rows.GenRow.{GenRow}
use Rattle.ev_types.specs.declared.rows.KeptVersion.{KeptVersion}
use Rattle.ev_types.specs.declared.rows.Arrival.{Arrival}
use Rattle.ev_types.specs.declared.rows.Arrival.TheVariants.{Value, Absent, Bad as bad}
use Rattle.ev_model.specs.World.{World, Arrived}
use Rattle.ev_model.specs.Live.{lives_of}
use Rattle.ev_model.specs.Watching.{is_watched}
use Rattle.ev_types.specs.Kinds.{kind_same}
use Rattle.ev_types.specs.Statuses.{is_warming, is_active}
use Rattle.ev_types.specs.declared.origins.KeptChain.{KeptChain}
use Rattle.ev_model.specs.Verdicts.{is_removed}
use Rattle.ev_model.specs.Versions.{with_version, renewed}
use Rattle.ev_model.specs.Origins.{kept_from}

-- the row is of this kind and name
abbrev pub is_row_of : Kind → List ℕ → GenRow → Bool
is_row_of kind name row = kind_same row.kind kind && bytes_eq row.name name

-- a removed generation drains where it served, and is dropped where it warmed
abbrev pub removed_status : RowStatus → RowStatus
removed_status Warming = Dropped
removed_status Active = Draining
removed_status Draining = Draining
removed_status Dropped = Dropped

-- each row with another status
abbrev pub with_statuses : (GenRow → RowStatus) → List GenRow → List GenRow
with_statuses status_of rows = map (λ (row : GenRow). record row { status = status_of row }) rows

-- a row's status after the removals of a response of this kind
abbrev pub status_left : Kind → ResponseParts → GenRow → RowStatus
status_left kind response row = if kind_same row.kind kind && is_removed response row.name then removed_status row.status else row.status

-- the rows after the removals of a response of this kind
abbrev pub rows_left : Kind → ResponseParts → List GenRow → List GenRow
rows_left kind response rows = with_statuses (status_left kind response) rows

-- the version stays after the removals of a response of this kind
abbrev pub is_version_left : Kind → ResponseParts → KeptVersion → Bool
is_version_left kind response kept = not (kind_same kept.kind kind && is_removed response kept.name)

-- the versions after the removals of a response of this kind
abbrev pub versions_left : Kind → ResponseParts → List KeptVersion → List KeptVersion
versions_left kind response versions = filter (is_version_left kind response) versions

-- something more was received for a name of this kind, when so many numbers were allocated
abbrev pub arrived : ℕ → Kind → Arrival → List ℕ → Arrived
arrived made kind arrival name = record { kind = kind; name = name; arrival = arrival; made = made }

-- clusters or listeners that a response of this kind removes drain or are dropped, and their versions go
abbrev pub without_rows : Kind → ResponseParts → World → World
without_rows kind response world = record world {
  rows = rows_left kind response world.rows;
  versions = versions_left kind response world.versions;
}

-- the removed names of a response of this kind that are watched
abbrev pub absent_names : Kind → ResponseParts → World → List (List ℕ)
absent_names kind response world =
    filter (λ name. is_removed response name && is_watched (lives_of world) kind name) response.removed

-- the versions of the secrets that a response removes are removed; nobody hears of it, and their values stay
abbrev pub without_versions : Kind → ResponseParts → World → World
without_versions kind response world = record world { versions = versions_left kind response world.versions }

-- a watched name of endpoints, routes or extensions that a response removes is reported;
-- its value stays, and its version is removed
abbrev pub with_absences : Kind → ResponseParts → World → World
with_absences kind response world = record world {
  arrivals = world.arrivals ++ map (arrived world.made kind Absent) (absent_names kind response world);
  versions = versions_left kind response world.versions;
}

-- the world after the removals of a response of this kind
abbrev pub with_removals : Kind → ResponseParts → World → World
with_removals Cds response world = without_rows Cds response world
with_removals Eds response world = with_absences Eds response world
with_removals Lds response world = without_rows Lds response world
with_removals Rds response world = with_absences Rds response world
with_removals Sds response world = without_versions Sds response world
with_removals Ecds response world = with_absences Ecds response world

-- a generation that warms under the name of a new one is dropped
abbrev pub replaced_status : Kind → List ℕ → GenRow → RowStatus
replaced_status kind name row = if is_row_of kind name row && is_warming row.status then Dropped else row.status

-- the rows once the one that warms under the name is dropped
abbrev pub rows_replaced : Kind → List ℕ → List GenRow → List GenRow
rows_replaced kind name rows = with_statuses (replaced_status kind name) rows

-- the next generation, with the chains that it keeps of the one before
abbrev pub new_row : Kind → ℕ → List ℕ → Content → List KeptChain → GenRow
new_row kind made name content kept =
    record { kind = kind; number = made + 1; name = name; content = content; status = Warming; kept = kept }

-- these rows with a new one; the one that warms under its name is dropped
abbrev pub rows_with_new : Kind → ℕ → List ℕ → Content → List KeptChain → List GenRow → List GenRow
rows_with_new kind made name content kept rows = rows_replaced kind name rows ++ new_row kind made name content kept ∷ []

-- the generation that serves the name
abbrev pub serving_row : Kind → List ℕ → List GenRow → Option GenRow
serving_row kind name rows = find (λ (row : GenRow). is_row_of kind name row && is_active row.status) rows

-- what is kept of a resource: its version, and whether its life is bounded
abbrev pub version_in : Kind → ItemParts → KeptVersion
version_in kind item = record { kind = kind; name = item.name; version = item.version; bounded = item.ttl }

-- the version of a resource is kept
abbrev pub keep_version : Kind → ItemParts → World → World
keep_version kind item world = record world { versions = with_version (version_in kind item) world.versions }

-- a new generation warms, with these chains of the one before, and its version is kept
abbrev pub add_row : Kind → ItemParts → Content → List KeptChain → World → World
add_row kind item content kept world = keep_version kind item (record world {
  rows = rows_with_new kind world.made item.name content kept world.rows;
  made = world.made + 1;
})

-- the same in place of the generation that serves: its chains that stay are kept
abbrev pub add_in_place : Kind → ItemParts → Content → World → World
add_in_place kind item content world =
    add_row kind item content (kept_from (serving_row kind item.name world.rows) content) world

-- the generation that warms under the name is dropped, and the version is kept:
-- the one that serves is the resource again
abbrev pub go_back : Kind → ItemParts → World → World
go_back kind item world = keep_version kind item (record world { rows = rows_replaced kind item.name world.rows })

-- the value of a watched name is kept with its version
abbrev pub keep_value : Kind → ItemParts → Content → World → World
keep_value kind item content world =
    keep_version kind item (record world { arrivals = world.arrivals ++ arrived world.made kind (Value content) item.name ∷ [] })

-- what is done with a good resource; with a bad one nothing is
abbrev pub with_content : (Content → World → World) → Body → World → World
with_content change (Good content) world = change content world
with_content change (Bad rule) world = world
with_content change Beat world = world

-- a watched name whose resource was refused is reported
abbrev pub told_of_refusal : Kind → List ℕ → World → World
told_of_refusal kind name world =
    if is_watched (lives_of world) kind name
    then record world { arrivals = world.arrivals ++ arrived world.made kind bad name ∷ [] }
    else world

-- the world after a refusal: one of a cluster or listener changes nothing
abbrev pub refuse : Kind → List ℕ → World → World
refuse Cds name world = world
refuse Eds name world = told_of_refusal Eds name world
refuse Lds name world = world
refuse Rds name world = told_of_refusal Rds name world
refuse Sds name world = told_of_refusal Sds name world
refuse Ecds name world = told_of_refusal Ecds name world

-- the life of a resource is bounded anew, by a heartbeat
abbrev pub renew : Kind → List ℕ → World → World
renew kind name world = record world { versions = renewed kind name world.versions }

-- the world after a resource with its verdict
abbrev pub add_item : Kind → Verdict → ItemParts → World → World
add_item kind New item world = with_content (λ content. add_row kind item content []) item.body world
add_item kind InPlace item world = with_content (add_in_place kind item) item.body world
add_item kind Back item world = with_content (λ content. go_back kind item) item.body world
add_item kind Same item world = with_content (λ content. keep_version kind item) item.body world
add_item kind Kept item world = with_content (keep_value kind item) item.body world
add_item kind Unasked item world = world
add_item kind Renewed item world = renew kind item.name world
add_item kind (Refused rule) item world = refuse kind item.name world

-- the world after these resources with their verdicts, in order
abbrev pub add_items : Kind → List Verdict → List ItemParts → World → World
add_items kind verdicts items world = fold (λ (w : World) (judged : Verdict × ItemParts). add_item kind judged.0 judged.1 w) world (zip verdicts items)

-- a generation is made of a resource that is new
abbrev pub is_new : Verdict → Bool
is_new New = true
is_new InPlace = false
is_new Back = false
is_new Same = false
is_new Kept = false
is_new Unasked = false
is_new Renewed = false
is_new (Refused rule) = false

-- the names of the resources that made a generation
abbrev pub made_names : List Verdict → List ItemParts → List (List ℕ)
made_names verdicts items =
    map (λ (judged : Verdict × ItemParts). judged.1.name) (filter (λ (judged : Verdict × ItemParts). is_new judged.0) (zip verdicts items))

-- what was noted stays
abbrev pub noted_once : Option (List (List ℕ)) → List (List ℕ) → Option (List (List ℕ))
noted_once None names = Some names
noted_once (Some first) names = Some first

-- the first response of clusters, and of listeners, is noted by the names that it made generations for
abbrev pub with_first : Kind → List (List ℕ) → World → World
with_first Cds names world = record world { first_clusters = noted_once world.first_clusters names }
with_first Eds names world = world
with_first Lds names world = record world { first_listeners = noted_once world.first_listeners names }
with_first Rds names world = world
with_first Sds names world = world
with_first Ecds names world = world

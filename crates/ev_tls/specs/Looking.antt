-- Which places are due at a line, found among some.
use Rattle.std.specs.Prelude.{◌≡◌, ℕ, Bool, true, not, ◌&&◌, ◌||◌, nat_eq, List, [], ◌∷◌, map, filter, Option, Some, None, if◌then◌else◌, slice_get}
use Rattle.std.specs.BTreeSet.{BTreeSet, contains as has_key}
use Rattle.std.specs.List.{list_any}
use Rattle.std.specs.Ordering.{nat_cmp}
use Rattle.std.specs.Str.{bytes_eq}
use Rattle.indexmap.specs.IndexSet.{contains}
use Rattle.serde_json.specs.Data.{Data}
use Rattle.ev_types.specs.declared.clusters.Discovery.{Discovery}
use Rattle.ev_types.specs.declared.clusters.Discovery.TheVariants.{Static, Eds, Elsewhere}
use Rattle.ev_expand.specs.declared.keys.Key.{Key}
use Rattle.ev_expand.specs.Following.{DueParts}
use Rattle.ev_expand.specs.Guarding.{Guarded}
use Rattle.ev_tls.specs.declared.awaited.Awaited.TheVariants.{Endpoints}
use Rattle.ev_tls.specs.declared.complete.Complete.{Complete}
use Rattle.ev_tls.specs.declared.known.Values.{Values}
use Rattle.ev_tls.specs.declared.looking.Marked.{Marked}
use Rattle.ev_tls.specs.Awaited.{services_of}
use Rattle.ev_tls.specs.Known.{shown_value}
use Rattle.ev_tls.specs.Marking.{is_marked}
use Rattle.ev_tls.specs.Places.{PlacesKept, stands_under}
use Rattle.ev_tls.specs.Waiting.{is_served}

-- the endpoints of something guarded, by these values
abbrev pub endpoints_with : Values → Discovery → Data → Option Data
endpoints_with values (Static rows) own = Some own
endpoints_with values (Eds service limited fresh) own = shown_value values service
endpoints_with values Elsewhere own = None

-- What is known at a line: whether a stream is open, and was opened by the line, which places were complete before
-- it, which are now, which have a guarded resource in it, and which names it gives a value.
pub record Marks : Type 0 where
  pub connected : Bool
  pub opened : Bool
  pub was : ℕ → Bool
  pub now : ℕ → Bool
  pub items : ℕ → Bool
  pub given : List ℕ → Bool

-- what these marks show, where these places were complete before the line
abbrev pub marks_of : Complete → Marked → Marks
marks_of complete marked = record {
  connected = marked.connected;
  opened = marked.opened;
  was = contains nat_eq complete.places;
  now = λ place. contains nat_eq complete.places place || contains nat_eq marked.finished place;
  items = contains nat_eq marked.items;
  given = contains bytes_eq marked.given;
}

-- the line gives a cause to send it
abbrev pub is_awake : Marks → ℕ → Key → Bool
is_awake marks place key =
    marks.opened || marks.items place || not (marks.was place) || list_any marks.given (services_of key.cluster.discovery)

-- something guarded is due, by its place
abbrev pub due_where : Marks → ℕ → Key → Bool
due_where marks place key = marks.connected && marks.now place && is_awake marks place key

abbrev pub due_by : Marks → ℕ × Guarded → Bool
due_by marks p = due_where marks p.0 p.1.key

-- it with its endpoints
abbrev pub due_parts : Values → ℕ × Guarded → DueParts
due_parts values p = record { place = p.0; endpoints = endpoints_with values p.1.key.cluster.discovery p.1.own }

-- what is due among these, in order
abbrev pub due_among : Marks → Values → List (ℕ × Guarded) → List DueParts
due_among marks values guarded = map (due_parts values) (filter (due_by marks) guarded)

-- what is due at a place, where something guarded is there
abbrev pub due_there : Marks → Values → ℕ → Option Guarded → List DueParts
due_there marks values place None = []
due_there marks values place (Some g) = if due_by marks (place, g) then due_parts values (place, g) ∷ [] else []

abbrev pub due_one : Marks → Values → List Guarded → ℕ → List DueParts
due_one marks values guarded place = due_there marks values place (slice_get guarded place)

-- a place is under the endpoints of one of these names
abbrev pub stands_under_any : PlacesKept → List (List ℕ) → ℕ → Bool
stands_under_any served names place = list_any (λ (name : List ℕ). stands_under served (Endpoints name) place) names

-- a place may be due: the line completes it, has a guarded resource of it, gives its endpoints a value or opens a
-- stream
abbrev pub may_be_due : Complete → Marked → ℕ → Bool
may_be_due complete marked place =
    contains nat_eq marked.finished place || contains nat_eq marked.items place
    || stands_under_any complete.served marked.given.keys place || (marked.opened && contains nat_eq complete.places place)

-- these places are among the others too
abbrev pub Gains : (ℕ → Bool) → BTreeSet ℕ → BTreeSet ℕ → Type 0
Gains more before after = (n : ℕ) → has_key nat_cmp after n ≡ (has_key nat_cmp before n || more n)

-- each place that was complete before is under its endpoints
abbrev pub WereServed : Complete → List Guarded → Type 0
WereServed complete guarded = (place : ℕ) (g : Guarded) → slice_get guarded place ≡ Some g
    → contains nat_eq complete.places place ≡ true → is_served complete.served place g.key.cluster.discovery ≡ true

-- these are the marks of a line, by whether a stream was open before it and is after it, the places of its guarded
-- resources and the names that it gives a value
pub record AreMarks (was_open connected : Bool) (places : List (Option ℕ)) (names : List ℕ → Bool) (marked : Marked)
    : Type 0 where
  pub stream : marked.connected ≡ connected
  pub opening : marked.opened ≡ (connected && not was_open)
  pub items : (n : ℕ) → contains nat_eq marked.items n ≡ is_marked places n
  pub values : (name : List ℕ) → contains bytes_eq marked.given name ≡ names name

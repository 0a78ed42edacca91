-- What is asked of the control plane. Source: the xDS transport protocol, incremental variant:
-- a stream's first request of a type names the whole subscription and the versions that are held,
-- an empty first one of clusters or listeners asks for all of them,
-- later ones name what is watched newly and no longer, and a reply carries the nonce of its response,
-- and an error where it refuses. The inner words look at names and versions alone;
-- those of an event compare two whole worlds.
use Rattle.std.specs.Prelude.{ℕ, Bool, not, ◌&&◌, if◌then◌else◌, List, [], ◌∷◌, ◌++◌, filter, filter_map, Option, Some, None, codes, decimal, option_to_list}
use Rattle.std.specs.List.{flat_map, zip}
use Rattle.ev_types.specs.Items.{ItemParts, ResponseParts}
use Rattle.ev_types.specs.declared.contents.Kind.{Kind}
use Rattle.ev_types.specs.declared.contents.Kind.TheVariants.{Cds, Lds}
use Rattle.ev_types.specs.declared.contents.Request.{Request}
use Rattle.ev_types.specs.declared.rows.KeptVersion.{KeptVersion}
use Rattle.ev_types.specs.declared.events.Verdict.{Verdict}
use Rattle.ev_types.specs.declared.events.Verdict.TheVariants.{New, InPlace, Back, Same, Kept, Unasked, Renewed, Refused}
use Rattle.ev_model.specs.World.{World}
use Rattle.ev_model.specs.Verdicts.{is_among}
use Rattle.ev_model.specs.Versions.{versions_of}
use Rattle.ev_model.specs.Watching.{watched_of, kinds_before, kinds_behind}
use Rattle.ev_model.specs.Phase.{is_clusters}

-- the first request of a stream: all clusters are asked for, and the node is named
abbrev pub clusters_request : List ℕ → List KeptVersion → Request
clusters_request node versions = record {
  kind = Cds;
  node = Some node;
  subscribe = [];
  unsubscribe = [];
  versions = versions_of Cds versions;
  nonce = None;
  error = None;
}

-- all listeners are asked for
abbrev pub listeners_request : List KeptVersion → Request
listeners_request versions = record {
  kind = Lds;
  node = None;
  subscribe = [];
  unsubscribe = [];
  versions = versions_of Lds versions;
  nonce = None;
  error = None;
}

-- a change of the names that are asked for, where there is one
abbrev pub names_request : Kind → List (List ℕ) → List (List ℕ) → List (List ℕ × List ℕ) → List Request
names_request kind [] [] versions = []
names_request kind subscribe unsubscribe versions = record {
  kind = kind;
  node = None;
  subscribe = subscribe;
  unsubscribe = unsubscribe;
  versions = versions;
  nonce = None;
  error = None;
} ∷ []

-- the names of each kind that are watched
abbrev pub Watched : Type 0
Watched = Kind → List (List ℕ)

-- all of these names of a kind are asked for, where there are some
abbrev pub whole_request : Kind → List (List ℕ) → List KeptVersion → List Request
whole_request kind names versions = names_request kind names [] (versions_of kind versions)

-- all watched names of these kinds are asked for, kind after kind
abbrev pub whole_requests : List Kind → Watched → List KeptVersion → List Request
whole_requests kinds watched versions = flat_map (λ kind. whole_request kind (watched kind) versions) kinds

-- all listeners are asked for, where they are to be
abbrev pub listeners_asked : Bool → List KeptVersion → List Request
listeners_asked asked versions = if asked then listeners_request versions ∷ [] else []

-- what is asked for when a stream opens, by the node, the watched names,
-- whether listeners are asked for, and the versions that are kept:
-- clusters, the names of the kinds before listeners, listeners, the names of the kinds behind them
abbrev pub connect_requests_by : List ℕ → Watched → Bool → List KeptVersion → List Request
connect_requests_by node watched asked versions =
    (clusters_request node versions ∷ [])
    ++ (whole_requests kinds_before watched versions
    ++ (listeners_asked asked versions
    ++ whole_requests kinds_behind watched versions))

-- what is asked for when a stream opens: listeners only once the first phase is left
abbrev pub connect_requests : World → List Request
connect_requests world = connect_requests_by world.node (watched_of world) (not (is_clusters world.phase)) world.versions

-- what is said of one refused resource: its outer name, as it was received, and the rule
abbrev pub refusal_text : List ℕ → ℕ → List ℕ
refusal_text name rule = name ++ (codes ": V" ++ decimal rule)

-- what is said of a resource with its verdict, where it is refused
abbrev pub refusal_of : Verdict → List ℕ → Option (List ℕ)
refusal_of New name = None
refusal_of InPlace name = None
refusal_of Back name = None
refusal_of Same name = None
refusal_of Kept name = None
refusal_of Unasked name = None
refusal_of Renewed name = None
refusal_of (Refused rule) name = Some (refusal_text name rule)

-- what is said of the refused resources, in order
abbrev pub refusals : List Verdict → List ItemParts → List (List ℕ)
refusals verdicts items = filter_map (λ (judged : Verdict × ItemParts). refusal_of judged.0 judged.1.name) (zip verdicts items)

-- the texts with a semicolon and a space between them
abbrev pub joined : List (List ℕ) → List ℕ
joined [] = []
joined (text ∷ []) = text
joined (text ∷ next ∷ texts) = text ++ (codes "; " ++ joined (next ∷ texts))

-- the message of a reply: there is none where nothing is refused
abbrev pub message_of : List (List ℕ) → Option (List ℕ)
message_of [] = None
message_of (text ∷ texts) = Some (joined (text ∷ texts))

-- the reply: it refuses exactly where some resource is refused
abbrev pub reply_of : Kind → ResponseParts → List Verdict → Request
reply_of kind response verdicts = record {
  kind = kind;
  node = None;
  subscribe = [];
  unsubscribe = [];
  versions = [];
  nonce = Some response.nonce;
  error = message_of (refusals verdicts response.items);
}

-- those names that aren't among the others
abbrev pub other_than : List (List ℕ) → List (List ℕ) → List (List ℕ)
other_than others names = filter (λ name. not (is_among name others)) names

-- of a kind the names that are watched newly are asked for, and those no longer watched are given up
abbrev pub watch_change : Kind → List (List ℕ) → List (List ℕ) → List Request
watch_change kind before after = names_request kind (other_than before after) (other_than after before) []

-- the same of each of these kinds, kind after kind
abbrev pub watch_changes : List Kind → Watched → Watched → List Request
watch_changes kinds before after = flat_map (λ kind. watch_change kind (before kind) (after kind)) kinds

-- what a change of the watched names asks for: the kinds before listeners,
-- listeners where they are to be asked for, the kinds behind
abbrev pub changes_asked : Watched → Watched → Bool → List KeptVersion → List Request
changes_asked before after asked versions =
    watch_changes kinds_before before after ++ (listeners_asked asked versions ++ watch_changes kinds_behind before after)

-- the requests of an event, by whether a stream is open after it: the reply first, where there is one
abbrev pub requests_by : Bool → Watched → Watched → Bool → List KeptVersion → Option Request → List Request
requests_by stream before after asked versions reply =
    option_to_list reply ++ (if stream then changes_asked before after asked versions else [])

-- the event has left the phase in which clusters are awaited
abbrev pub has_left_clusters : World → World → Bool
has_left_clusters before after = is_clusters before.phase && not (is_clusters after.phase)

-- the requests of an event that led from one world to the next:
-- listeners are asked for where it has left the first phase
abbrev pub requests_of : World → World → Option Request → List Request
requests_of before after reply =
    requests_by after.stream (watched_of before) (watched_of after) (has_left_clusters before after) after.versions reply

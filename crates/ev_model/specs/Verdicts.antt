-- What is said of each resource of a response. This project's profile:
-- removals come before additions, a resource is refused by the lowest rule that it breaks,
-- and an address that is taken is looked at only where no other rule applies.
-- A heartbeat renews the version that is kept; of another version it is stale, and refused where anybody would hear it.
use Rattle.std.specs.Prelude.{ℕ, Bool, true, false, not, ◌&&◌, ◌||◌, ◌+◌, nat_le, if◌then◌else◌, List, [], ◌∷◌, ◌++◌, filter, length, find, nat_lt, Option, Some, None}
use Rattle.std.specs.List.{list_any}
use Rattle.std.specs.Str.{bytes_eq}
use Rattle.ev_types.specs.Items.{ItemParts, ResponseParts}
use Rattle.ev_types.specs.SameHosts.{socket_same}
use Rattle.ev_types.specs.SameContents.{content_same}
use Rattle.ev_types.specs.SameListeners.{listener_same}
use Rattle.ev_types.specs.Kinds.{is_by_name}
use Rattle.ev_types.specs.declared.listeners.Listener.{Listener}
use Rattle.ev_types.specs.declared.hosts.SocketAddress.{SocketAddress}
use Rattle.ev_types.specs.declared.contents.Kind.{Kind}
use Rattle.ev_types.specs.declared.contents.Kind.TheVariants.{Cds, Eds, Lds, Rds, Sds, Ecds}
use Rattle.ev_types.specs.declared.contents.Body.{Body}
use Rattle.ev_types.specs.declared.contents.Body.TheVariants.{Good, Bad, Beat}
use Rattle.ev_types.specs.declared.contents.Content.{Content}
use Rattle.ev_types.specs.declared.contents.Content.TheVariants.{Cluster as a_cluster, Assignment as an_assignment, Listener as a_listener, Routes as routes, Secret as a_secret, Extension as an_extension}
use Rattle.ev_types.specs.declared.events.Verdict.{Verdict}
use Rattle.ev_types.specs.declared.events.Verdict.TheVariants.{New, InPlace, Back, Same, Kept, Unasked, Renewed, Refused}
use Rattle.ev_types.specs.declared.rows.Live.{Live}
use Rattle.ev_types.specs.declared.rows.KeptVersion.{KeptVersion}
use Rattle.ev_types.specs.Kinds.{kind_same}
use Rattle.ev_model.specs.Live.{is_named, latest, newest_of}
use Rattle.ev_model.specs.Versions.{is_kept}
use Rattle.ev_model.specs.Watching.{is_watched}

-- the items of this name
abbrev pub items_named : List ℕ → List ItemParts → List ItemParts
items_named name items = filter (λ (item : ItemParts). bytes_eq item.name name) items

-- the name is among these
abbrev pub is_among : List ℕ → List (List ℕ) → Bool
is_among name names = list_any (λ n. bytes_eq n name) names

-- the name is removed: it is in the list of removed names and no item has it
abbrev pub is_removed : ResponseParts → List ℕ → Bool
is_removed response name = is_among name response.removed && (not (nat_le 1 (length (items_named name response.items))))

-- the live rows that the removals of a response of this kind leave
abbrev pub lives_left : Kind → ResponseParts → List Live → List Live
lives_left kind response lives = filter (λ (live : Live). not (kind_same live.kind kind && is_removed response live.name)) lives

-- somebody hears a resource of this kind and name: of clusters and listeners all, of the kinds that are asked for
-- by name those that are watched
abbrev pub is_heard : Kind → List Live → List ℕ → Bool
is_heard kind lives name = not (is_by_name kind) || is_watched lives kind name

-- 1: it is a stale heartbeat: its version isn't the one that is kept, and somebody hears it
abbrev pub stale_rule : Kind → List Live → List KeptVersion → ItemParts → Body → Option ℕ
stale_rule kind lives versions item (Good content) = None
stale_rule kind lives versions item (Bad rule) = None
stale_rule kind lives versions item Beat =
    if not (is_kept versions kind item.name item.version) && is_heard kind lives item.name then Some 1 else None

-- 4: the name occurs twice in the response
abbrev pub twice_rule : ResponseParts → ItemParts → Option ℕ
twice_rule response item = if nat_le 2 (length (items_named item.name response.items)) then Some 4 else None

-- 5: the name is also removed
abbrev pub removed_rule : ResponseParts → ItemParts → Option ℕ
removed_rule response item = if is_among item.name response.removed then Some 5 else None

-- the form rule that the body breaks
abbrev pub form_rule : Body → Option ℕ
form_rule (Good content) = None
form_rule (Bad rule) = Some rule
form_rule Beat = None

-- the lesser of two rules, where there are any
abbrev pub lesser : Option ℕ → Option ℕ → Option ℕ
lesser None other = other
lesser (Some rule) None = Some rule
lesser (Some rule) (Some other) = if nat_le rule other then Some rule else Some other

-- the lowest-numbered rule that the resource breaks, the addresses that are taken left aside
abbrev pub rule_of : Kind → ResponseParts → List Live → List KeptVersion → ItemParts → Option ℕ
rule_of kind response lives versions item =
    lesser (stale_rule kind lives versions item item.body)
    (lesser (twice_rule response item) (lesser (removed_rule response item) (form_rule item.body)))

-- a content's listening address
abbrev pub listening_address : Content → Option SocketAddress
listening_address (a_cluster cluster) = None
listening_address (an_assignment rows) = None
listening_address (a_listener listener) = Some listener.address
listening_address (routes table) = None
listening_address a_secret = None
listening_address an_extension = None

-- both have an address, and it is the same, by the same protocol
abbrev pub shares_address : Option SocketAddress → Option SocketAddress → Bool
shares_address None other = false
shares_address (Some address) None = false
shares_address (Some address) (Some other) = socket_same address other

-- a live row of another name has the address of the content
abbrev pub is_taken : List Live → List ℕ → Content → Bool
is_taken lives name content =
    list_any (λ (live : Live). shares_address (listening_address live.content) (listening_address content) && not (bytes_eq live.name name)) lives

-- same where the newest generation's content is equal, new otherwise
abbrev pub against : Option Live → Content → Verdict
against None content = New
against (Some live) content = if content_same live.content content then Same else New

-- the text is given: where it isn't, only the fields that are read count
abbrev pub is_given : List ℕ → Bool
is_given text = nat_lt 0 (length text)

-- the generation that serves the name
abbrev pub serving_of : List Live → Kind → List ℕ → Option Live
serving_of lives kind name = find (λ (live : Live). is_named kind name live && not live.warming) lives

-- the update differs from the listener in its chains alone:
-- their frames are equal, it has chains, and it isn't for datagrams
abbrev pub changes_chains : Listener → Listener → Bool
changes_chains active update =
    is_given update.frame_text
    && not update.address.udp
    && bytes_eq active.frame_text update.frame_text
    && nat_lt 0 (length update.filter_chains)

-- the update is the listener again, by its whole body
abbrev pub returns_to : Listener → Listener → Bool
returns_to active update = is_given update.body_text && listener_same active update

-- what an update is to the listener that serves: it again, a change of its chains, or another one
abbrev pub update_verdict : Listener → Listener → Verdict
update_verdict active update = if returns_to active update then Back else (if changes_chains active update then InPlace else New)

-- what a content is to the one that serves
abbrev pub content_verdict : Content → Content → Verdict
content_verdict (a_listener active) (a_listener update) = update_verdict active update
content_verdict active update = New

-- what it is to the generation that serves, if there is one
abbrev pub serving_verdict : Option Live → Content → Verdict
serving_verdict None content = New
serving_verdict (Some live) content = content_verdict live.content content

-- same as the newest generation, or else by the one that serves
abbrev pub listener_verdict : Option Live → Option Live → Content → Verdict
listener_verdict None serving content = New
listener_verdict (Some newest) serving content = if content_same newest.content content then Same else serving_verdict serving content

-- a value is kept where its name is watched
abbrev pub value_verdict : Bool → Verdict
value_verdict watched = if watched then Kept else Unasked

-- the verdict on a good resource
abbrev pub good_verdict : Kind → List Live → List ℕ → Content → Verdict
good_verdict Cds lives name content = against (newest_of lives Cds name) content
good_verdict Lds lives name content =
    if is_taken lives name content
    then Refused 15
    else listener_verdict (newest_of lives Lds name) (serving_of lives Lds name) content
good_verdict Eds lives name content = value_verdict (is_watched lives Eds name)
good_verdict Rds lives name content = value_verdict (is_watched lives Rds name)
good_verdict Sds lives name content = value_verdict (is_watched lives Sds name)
good_verdict Ecds lives name content = value_verdict (is_watched lives Ecds name)

-- the verdict on a heartbeat that isn't refused: one of the version that is kept renews it,
-- and any other was asked for by no one
abbrev pub beat_verdict : Kind → List KeptVersion → ItemParts → Verdict
beat_verdict kind versions item = if is_kept versions kind item.name item.version then Renewed else Unasked

-- the verdict on a resource that breaks no rule, or no rule but the one of its body
abbrev pub body_verdict : Kind → List Live → List KeptVersion → ItemParts → Body → Verdict
body_verdict kind lives versions item (Good content) = good_verdict kind lives item.name content
body_verdict kind lives versions item (Bad rule) = Refused rule
body_verdict kind lives versions item Beat = beat_verdict kind versions item

-- the verdict on a resource, by the rule that it breaks
abbrev pub verdict_by : Option ℕ → Kind → List Live → List KeptVersion → ItemParts → Verdict
verdict_by (Some rule) kind lives versions item = Refused rule
verdict_by None kind lives versions item = body_verdict kind lives versions item item.body

-- the verdict on a resource of a response, over these live rows and the versions that are kept
abbrev pub verdict_of : Kind → ResponseParts → List Live → List KeptVersion → ItemParts → Verdict
verdict_of kind response lives versions item = verdict_by (rule_of kind response lives versions item) kind lives versions item

-- a number above those of these rows
abbrev pub number_after : Option Live → ℕ
number_after None = 1
number_after (Some live) = live.number + 1

-- the live rows without the one that warms under the name
abbrev pub without_warming : Kind → List ℕ → List Live → List Live
without_warming kind name lives = filter (λ (live : Live). not (is_named kind name live && live.warming)) lives

-- the live rows after a new generation: the one that warmed under its name is removed, and the new one warms
abbrev pub with_new : Kind → List ℕ → Content → List Live → List Live
with_new kind name content lives =
    without_warming kind name lives
    ++ record { kind = kind; number = number_after (latest lives); name = name; content = content; warming = true } ∷ []

-- the live rows after a verdict
abbrev pub lives_after : Kind → Verdict → List ℕ → Body → List Live → List Live
lives_after kind New name (Good content) lives = with_new kind name content lives
lives_after kind New name (Bad rule) lives = lives
lives_after kind New name Beat lives = lives
lives_after kind InPlace name (Good content) lives = with_new kind name content lives
lives_after kind InPlace name (Bad rule) lives = lives
lives_after kind InPlace name Beat lives = lives
lives_after kind Back name (Good content) lives = without_warming kind name lives
lives_after kind Back name (Bad rule) lives = lives
lives_after kind Back name Beat lives = lives
lives_after kind Same name body lives = lives
lives_after kind Kept name body lives = lives
lives_after kind Unasked name body lives = lives
lives_after kind Renewed name body lives = lives
lives_after kind (Refused rule) name body lives = lives

-- the verdicts on these items of a response, one after another
abbrev pub verdicts_from : Kind → ResponseParts → List KeptVersion → List Live → List ItemParts → List Verdict
verdicts_from kind response versions lives [] = []
verdicts_from kind response versions lives (item ∷ items) =
    let verdict = verdict_of kind response lives versions item in
    verdict ∷ verdicts_from kind response versions (lives_after kind verdict item.name item.body lives) items

-- the verdicts on a response whose type is read
abbrev pub verdicts_for : Kind → List Live → List KeptVersion → ResponseParts → List Verdict
verdicts_for kind lives versions response = verdicts_from kind response versions (lives_left kind response lives) response.items

-- the verdicts on a response; there are none where its type isn't read
abbrev pub verdicts_by : Option Kind → List Live → List KeptVersion → ResponseParts → List Verdict
verdicts_by None lives versions response = []
verdicts_by (Some kind) lives versions response = verdicts_for kind lives versions response

-- the verdicts on a response, over the live rows and the versions before it
abbrev pub verdicts_of : List Live → List KeptVersion → ResponseParts → List Verdict
verdicts_of lives versions response = verdicts_by response.kind lives versions response

-- The verdicts by the answers to look-ups, and by what the response itself made so far.
-- That they are the verdicts over the live rows and the versions is proved.
use Rattle.std.specs.Prelude.{◌≡◌, ℕ, Bool, false, not, ◌&&◌, ◌||◌, if◌then◌else◌, List, [], ◌∷◌, ◌++◌, map, filter, Option, Some, None}
use Rattle.std.specs.List.{list_any}
use Rattle.std.specs.Str.{bytes_eq}
use Rattle.ev_types.specs.Items.{ItemParts, ResponseParts}
use Rattle.ev_types.specs.Kinds.{kind_same, is_by_name}
use Rattle.ev_types.specs.declared.contents.Kind.{Kind}
use Rattle.ev_types.specs.declared.contents.Kind.TheVariants.{Cds, Eds, Lds, Rds, Sds, Ecds}
use Rattle.ev_types.specs.declared.contents.Body.{Body}
use Rattle.ev_types.specs.declared.contents.Body.TheVariants.{Good, Bad, Beat}
use Rattle.ev_types.specs.declared.contents.Content.{Content}
use Rattle.ev_types.specs.declared.events.Verdict.{Verdict}
use Rattle.ev_types.specs.declared.events.Verdict.TheVariants.{New, InPlace, Back, Same, Kept, Unasked, Renewed, Refused}
use Rattle.ev_types.specs.declared.hosts.SocketAddress.{SocketAddress}
use Rattle.ev_types.specs.declared.rows.KeptVersion.{KeptVersion}
use Rattle.ev_types.specs.declared.rows.Live.{Live}
use Rattle.ev_model.specs.Verdicts.{is_removed, twice_rule, removed_rule, form_rule, lesser, listening_address, shares_address, against, listener_verdict, value_verdict, verdicts_of}
use Rattle.ev_verdicts.specs.Known.{Answers, Tells}

-- what a response did so far: the names under which it made a generation or went back to the one
-- that serves, so that what warmed under it is removed, each with the address of the listener that it made
abbrev pub MadeKept : Type 0
MadeKept = List (List ℕ × Option SocketAddress)

-- it is among them
abbrev pub is_made : MadeKept → List ℕ → Bool
is_made made name = list_any (λ (m : List ℕ × Option SocketAddress). bytes_eq m.0 name) made

-- the names of those that listen at the address
abbrev pub names_at : SocketAddress → MadeKept → List (List ℕ)
names_at address made = map (λ (m : List ℕ × Option SocketAddress). m.0) (filter (λ (m : List ℕ × Option SocketAddress). shares_address m.1 (Some address)) made)

-- with this name and address, where it isn't among them
abbrev pub with_made : List ℕ → Option SocketAddress → MadeKept → MadeKept
with_made name address made = if is_made made name then made else made ++ (name, address) ∷ []

-- a row that was live before the response still is: it isn't removed, and no new one took its place
abbrev pub stays : Kind → ResponseParts → MadeKept → Live → Bool
stays kind response made live = not (kind_same live.kind kind && (is_removed response live.name || (live.warming && is_made made live.name)))

-- one of these names is another
abbrev pub has_other : List ℕ → List (List ℕ) → Bool
has_other name names = list_any (λ n. not (bytes_eq n name)) names

-- one of these live rows still is after the response, and has another name
abbrev pub has_another : Kind → ResponseParts → MadeKept → List ℕ → List Live → Bool
has_another kind response made name lives = list_any (λ (live : Live). stays kind response made live && not (bytes_eq live.name name)) lives

-- of those that hold the address one has another name
abbrev pub is_held : Kind → ResponseParts → Answers → MadeKept → List ℕ → SocketAddress → Bool
is_held kind response answers made name address =
    has_another kind response made name (answers.holders address) || has_other name (names_at address made)

-- a listener of another name has the address
abbrev pub is_taken_by : Kind → ResponseParts → Answers → MadeKept → List ℕ → Option SocketAddress → Bool
is_taken_by kind response answers made name None = false
is_taken_by kind response answers made name (Some address) = is_held kind response answers made name address

-- a listener of another name has the address that this content listens at
abbrev pub is_taken_for : ResponseParts → Answers → MadeKept → List ℕ → Content → Bool
is_taken_for response answers made name content = is_taken_by Lds response answers made name (listening_address content)

-- somebody hears a resource of this kind and name
abbrev pub is_heard_by : Answers → Kind → List ℕ → Bool
is_heard_by answers kind name = not (is_by_name kind) || answers.watched kind name

-- the version isn't the one that is kept, and somebody hears the resource
abbrev pub is_stale : Answers → Kind → ItemParts → Bool
is_stale answers kind item = not (answers.kept kind item.name item.version) && is_heard_by answers kind item.name

-- a heartbeat is stale
abbrev pub stale_by : Answers → Kind → ItemParts → Body → Option ℕ
stale_by answers kind item (Good content) = None
stale_by answers kind item (Bad rule) = None
stale_by answers kind item Beat = if is_stale answers kind item then Some 1 else None

-- the lowest-numbered rule that the resource breaks, the addresses that are taken left aside
abbrev pub rule_by : Answers → Kind → ResponseParts → ItemParts → Option ℕ
rule_by answers kind response item =
    lesser (stale_by answers kind item item.body) (lesser (twice_rule response item) (lesser (removed_rule response item) (form_rule item.body)))

-- the verdict on a good resource
abbrev pub good_by : Answers → ResponseParts → MadeKept → List ℕ → Content → Kind → Verdict
good_by answers response made name content Cds = against (answers.newest Cds name) content
good_by answers response made name content Lds =
    if is_taken_for response answers made name content
    then Refused 15
    else listener_verdict (answers.newest Lds name) (answers.serving Lds name) content
good_by answers response made name content Eds = value_verdict (answers.watched Eds name)
good_by answers response made name content Rds = value_verdict (answers.watched Rds name)
good_by answers response made name content Sds = value_verdict (answers.watched Sds name)
good_by answers response made name content Ecds = value_verdict (answers.watched Ecds name)

-- the verdict on a resource that breaks no rule, or no rule but the one of its body
abbrev pub body_by : Answers → Kind → ResponseParts → MadeKept → ItemParts → Body → Verdict
body_by answers kind response made item (Good content) = good_by answers response made item.name content kind
body_by answers kind response made item (Bad rule) = Refused rule
body_by answers kind response made item Beat = if answers.kept kind item.name item.version then Renewed else Unasked

-- the same by the item's own body
abbrev pub by_its_body : Answers → Kind → ResponseParts → MadeKept → ItemParts → Verdict
by_its_body answers kind response made item = body_by answers kind response made item item.body

-- the verdict by the rule that is broken
abbrev pub ruled : Answers → Kind → ResponseParts → MadeKept → ItemParts → Option ℕ → Verdict
ruled answers kind response made item (Some rule) = Refused rule
ruled answers kind response made item None = by_its_body answers kind response made item

-- the verdict on a resource
abbrev pub judged : Answers → Kind → ResponseParts → MadeKept → ItemParts → Verdict
judged answers kind response made item = ruled answers kind response made item (rule_by answers kind response item)

-- what the response made with this verdict
abbrev pub made_by : Verdict → List ℕ → Body → MadeKept → MadeKept
made_by New name (Good content) made = with_made name (listening_address content) made
made_by New name (Bad rule) made = made
made_by New name Beat made = made
made_by InPlace name (Good content) made = with_made name (listening_address content) made
made_by InPlace name (Bad rule) made = made
made_by InPlace name Beat made = made
made_by Back name (Good content) made = with_made name None made
made_by Back name (Bad rule) made = made
made_by Back name Beat made = made
made_by Same name body made = made
made_by Kept name body made = made
made_by Unasked name body made = made
made_by Renewed name body made = made
made_by (Refused rule) name body made = made

-- what the response made once the verdict on this resource is known
abbrev pub made_with : Answers → Kind → ResponseParts → MadeKept → ItemParts → MadeKept
made_with answers kind response made item = made_by (judged answers kind response made item) item.name item.body made

-- the verdicts on these resources, one after another
abbrev pub all_judged : Answers → Kind → ResponseParts → MadeKept → List ItemParts → List Verdict
all_judged answers kind response made [] = []
all_judged answers kind response made (item ∷ items) =
    let verdict = judged answers kind response made item in
    verdict ∷ all_judged answers kind response (made_by verdict item.name item.body made) items

-- the verdicts on these resources, before which the response made nothing
abbrev pub judged_first : Answers → Kind → ResponseParts → List ItemParts → List Verdict
judged_first answers kind response items = all_judged answers kind response [] items

-- the verdicts on a response's resources
abbrev pub response_judged : Answers → Kind → ResponseParts → List Verdict
response_judged answers kind response = judged_first answers kind response response.items

-- the verdicts are those over the live rows and the versions of which the answers speak
abbrev pub AreVerdicts : Answers → ResponseParts → List Verdict → Type 0
AreVerdicts answers response verdicts =
    (kind : Kind) (lives : List Live) (versions : List KeptVersion) → response.kind ≡ Some kind → Tells answers kind lives versions
    → verdicts ≡ verdicts_of lives versions response

-- What is known of host names and of places, found by look-ups.
use Rattle.std.specs.Prelude.{◌≡◌, ℕ, Bool, true, false, ◌&&◌, ◌||◌, nat_eq, List, [], ◌∷◌, ◌++◌, map, filter, Option, Some, None, is_some, option_map, unwrap_or, slice_get, if◌then◌else◌}
use Rattle.std.specs.List.{list_all, flat_map, enumerate_from}
use Rattle.std.specs.Str.{bytes_eq}
use Rattle.indexmap.specs.IndexMap.{get}
use Rattle.ev_types.specs.Hosts.{HostRowParts}
use Rattle.ev_expand.specs.declared.keys.Key.{Key}
use Rattle.ev_expand.specs.Following.{DueParts}
use Rattle.ev_expand.specs.Guarding.{Guarded}
use Rattle.ev_dns.specs.declared.answers.Answers.{Answers}
use Rattle.ev_dns.specs.declared.lines.Resolution.{Resolution}
use Rattle.ev_dns.specs.declared.places.Places.{Places}
use Rattle.ev_dns.specs.Answers.{is_of, names_once, success_of}
use Rattle.ev_dns.specs.Hosts.{hosts_with, endpoints_tree}
use Rattle.ev_dns.specs.Marking.{is_listed}
use Rattle.ev_dns.specs.Templates.{template_rows, has_name}

-- the name was answered
abbrev pub has_answer : Answers → List ℕ → Bool
has_answer answers name = is_some (get bytes_eq answers.by_name name)

-- the addresses of the name
abbrev pub known_addresses : Answers → List ℕ → List (List ℕ)
known_addresses answers name = unwrap_or (option_map (λ set. set.keys) (get bytes_eq answers.by_name name)) []

-- one name more is answered
abbrev pub AnswersOne : Answers → Answers → List ℕ → Type 0
AnswersOne old new name = (other : List ℕ) → has_answer new other ≡ (bytes_eq name other || has_answer old other)

-- one name has these addresses, and each other name those of before
abbrev pub GivesOne : Answers → Answers → List ℕ → List (List ℕ) → Type 0
GivesOne old new name addresses = (other : List ℕ) → known_addresses new other
    ≡ (if bytes_eq name other then addresses else known_addresses old other)

-- the addresses after what a resolution says: where it says nothing of them, those of before
abbrev pub later_addresses : List (List ℕ) → Option (List (List ℕ)) → List (List ℕ)
later_addresses before None = before
later_addresses before (Some addresses) = names_once addresses

-- these take a resolution
pub record Takes (old new : Answers) (resolution : Resolution) : Type 0 where
  pub answered : (name : List ℕ) → has_answer new name ≡ (is_of name resolution || has_answer old name)
  pub addresses : (name : List ℕ) → known_addresses new name
      ≡ later_addresses (known_addresses old name) (success_of name resolution)

-- the same of a resolution, where there is one
abbrev pub TakesGiven : Answers → Answers → Option Resolution → Type 0
TakesGiven old new None = new ≡ old
TakesGiven old new (Some resolution) = Takes old new resolution

-- the name of a host was answered
abbrev pub has_row : Answers → HostRowParts → Bool
has_row answers row = has_answer answers row.host.address

-- all host names of the template were answered
abbrev pub has_all : Answers → Key → Bool
has_all answers key = list_all (has_row answers) (template_rows key)

-- ---- what is due

-- what is due of a template at a place
abbrev pub due_parts : Answers → ℕ → Key → DueParts
due_parts answers place key = record {
  place = place;
  endpoints = Some (endpoints_tree (hosts_with (known_addresses answers) key));
}

-- the same of what is at a place, where it is to be sent
abbrev pub due_there : Answers → Bool → ℕ → Option Guarded → List DueParts
due_there answers is place None = []
due_there answers is place (Some g) = if is then due_parts answers place g.key ∷ [] else []

-- the same, of places in order
abbrev pub due_each : Answers → List Guarded → (ℕ → Bool) → List ℕ → List DueParts
due_each answers guarded is places =
    flat_map (λ place. due_there answers (is place) place (slice_get guarded place)) places

-- what is due of these places, in order
abbrev pub due_among : Answers → List Guarded → (ℕ → Bool) → List DueParts
due_among answers guarded is = map
    (λ (p : ℕ × Guarded). due_parts answers p.0 p.1.key)
    (filter (λ (p : ℕ × Guarded). is p.0) (enumerate_from 0 guarded))

-- the places that are complete among the touched ones, or where the stream was closed, all that are
abbrev pub is_sent : Bool → (ℕ → Bool) → (ℕ → Bool) → ℕ → Bool
is_sent was_open touched complete place = (if was_open then touched else complete) place && complete place

-- what is due where a stream is open
abbrev pub due_found : Answers → List Guarded → Bool → Bool → (ℕ → Bool) → (ℕ → Bool) → List DueParts
due_found answers guarded connected was_open touched complete =
    if connected then due_among answers guarded (is_sent was_open touched complete) else []

-- ---- places by host name

-- the places under a name
abbrev pub places_under : Places → List ℕ → List ℕ
places_under places name = unwrap_or (get bytes_eq places.by_name name) []

-- the place is under the name
abbrev pub stands_under : Places → List ℕ → ℕ → Bool
stands_under places name place = is_listed (places_under places name) place

-- there is a name, and the place is under it
abbrev pub stands_named : Places → Option (List ℕ) → ℕ → Bool
stands_named places None place = false
stands_named places (Some name) place = stands_under places name place

-- one place is put after the others under a name
abbrev pub Enters : Places → Places → List ℕ → ℕ → Type 0
Enters old new name place = (other : List ℕ) → places_under new other
    ≡ places_under old other ++ (if bytes_eq name other then place ∷ [] else [])

-- a place is put under all host names of a template
abbrev pub EntersAll : Places → Places → Key → ℕ → Type 0
EntersAll old new key place = (other : List ℕ) (n : ℕ) → stands_under new other n
    ≡ ((has_name other key && nat_eq place n) || stands_under old other n)

-- none is under this name, and the same as before under all others
abbrev pub Leaves : Places → Places → List ℕ → Type 0
Leaves old new name = (other : List ℕ) → places_under new other
    ≡ (if bytes_eq name other then [] else places_under old other)

-- what is under a name stays there
abbrev pub KeepsUnder : Places → Places → Type 0
KeepsUnder old new =
    (name : List ℕ) (place : ℕ) → stands_under old name place ≡ true → stands_under new name place ≡ true

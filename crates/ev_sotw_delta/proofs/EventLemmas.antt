-- What events say of the stream and of what lives, one after another, and what responses remove of it.
use Rattle.std.proofs.Common.{◌≡◌, ◌∙◌, ℕ, Bool, true, false, not, cond, ◌&&◌, ◌||◌, List, [], ◌∷◌, length, map, filter, Option, Some, None, refl, sym, ap, subst}
use Rattle.std.specs.Prelude.{⊤, nat_le}
use Rattle.std.specs.List.{list_any}
use Rattle.std.specs.Str.{bytes_eq}
use Rattle.std.proofs.lemmas.Bool.{false≢true}
use Rattle.ev_types.specs.Items.{ItemParts, ResponseParts}
use Rattle.ev_types.specs.declared.contents.Kind.{Kind}
use Rattle.ev_types.specs.declared.contents.Kind.TheVariants.{Cds, Lds}
use Rattle.ev_types.specs.declared.events.Event.{Event}
use Rattle.ev_types.specs.declared.events.Event.TheVariants.{Connect, Disconnect, Response, Health, FetchTimeout, DrainTimeout, TtlExpired, Publish, Reap, Accept, Close, Settle}
use Rattle.ev_model.specs.Verdicts.{is_among, is_removed}
use Rattle.ev_model_laws.specs.Watches.{has_item}

-- what is known after events: whether a stream is open, and the names of the last responses
-- of clusters and of listeners on one
pub record Heard : Type 0 where
  pub connected : Bool
  pub clusters : List (List ℕ)
  pub listeners : List (List ℕ)

abbrev pub nothing_heard : Heard
nothing_heard = record { connected = false; clusters = []; listeners = [] }

abbrev pub item_names : ResponseParts → List (List ℕ)
item_names response = map (λ (item : ItemParts). item.name) response.items

abbrev pub heard_of : Option Kind → ResponseParts → Heard → Heard
heard_of None response heard = heard
heard_of (Some Cds) response heard = record heard { clusters = cond heard.connected (item_names response) heard.clusters }
heard_of (Some Lds) response heard = record heard { listeners = cond heard.connected (item_names response) heard.listeners }
heard_of (Some kind) response heard = heard

abbrev pub heard_after : Event → Heard → Heard
heard_after Connect heard = record heard { connected = true }
heard_after Disconnect heard = record heard { connected = false }
heard_after (Response response) heard = heard_of response.kind response heard
heard_after (Health cluster host healthy) heard = heard
heard_after (FetchTimeout timeout) heard = heard
heard_after (DrainTimeout listener) heard = heard
heard_after (TtlExpired kind name) heard = heard
heard_after Publish heard = heard
heard_after Reap heard = heard
heard_after (Accept ask) heard = heard
heard_after (Close connection) heard = heard
heard_after Settle heard = heard

-- the response removes each of these names that it hasn't
abbrev pub RemovesOthers : List (List ℕ) → ResponseParts → Type 0
RemovesOthers names response = (name : List ℕ) → is_among name names ≡ true → has_item response name ≡ false → is_removed response name ≡ true

abbrev pub FitsKind : Option Kind → ResponseParts → Heard → Type 0
FitsKind None response heard = ⊤
FitsKind (Some Cds) response heard = RemovesOthers heard.clusters response
FitsKind (Some Lds) response heard = RemovesOthers heard.listeners response
FitsKind (Some kind) response heard = response.removed ≡ []

-- an event is one of the state of the world
abbrev pub FitsAt : Event → Heard → Type 0
FitsAt Connect heard = ⊤
FitsAt Disconnect heard = ⊤
FitsAt (Response response) heard = FitsKind response.kind response heard
FitsAt (Health cluster host healthy) heard = ⊤
FitsAt (FetchTimeout timeout) heard = ⊤
FitsAt (DrainTimeout listener) heard = ⊤
FitsAt (TtlExpired kind name) heard = ⊤
FitsAt Publish heard = ⊤
FitsAt Reap heard = ⊤
FitsAt (Accept ask) heard = ⊤
FitsAt (Close connection) heard = ⊤
FitsAt Settle heard = ⊤

abbrev pub AllFit : Heard → List Event → Type 0
AllFit heard [] = ⊤
AllFit heard (event ∷ events) = FitsAt event heard × AllFit (heard_after event heard) events

-- ---- events that say nothing

abbrev pub is_told : Event → Bool
is_told Connect = true
is_told Disconnect = true
is_told (Response response) = true
is_told (Health cluster host healthy) = false
is_told (FetchTimeout timeout) = false
is_told (DrainTimeout listener) = false
is_told (TtlExpired kind name) = false
is_told Publish = false
is_told Reap = false
is_told (Accept ask) = false
is_told (Close connection) = false
is_told Settle = false

pub untold_same : (event : Event) (heard : Heard) → is_told event ≡ false → heard_after event heard ≡ heard
untold_same Connect heard h = absurd (false≢true (sym h))
untold_same Disconnect heard h = absurd (false≢true (sym h))
untold_same (Response response) heard h = absurd (false≢true (sym h))
untold_same (Health cluster host healthy) heard h = refl
untold_same (FetchTimeout timeout) heard h = refl
untold_same (DrainTimeout listener) heard h = refl
untold_same (TtlExpired kind name) heard h = refl
untold_same Publish heard h = refl
untold_same Reap heard h = refl
untold_same (Accept ask) heard h = refl
untold_same (Close connection) heard h = refl
untold_same Settle heard h = refl

untold_fits : (event : Event) (heard : Heard) → is_told event ≡ false → FitsAt event heard
untold_fits Connect heard h = tt
untold_fits Disconnect heard h = tt
untold_fits (Response response) heard h = absurd (false≢true (sym h))
untold_fits (Health cluster host healthy) heard h = tt
untold_fits (FetchTimeout timeout) heard h = tt
untold_fits (DrainTimeout listener) heard h = tt
untold_fits (TtlExpired kind name) heard h = tt
untold_fits Publish heard h = tt
untold_fits Reap heard h = tt
untold_fits (Accept ask) heard h = tt
untold_fits (Close connection) heard h = tt
untold_fits Settle heard h = tt

-- so they may be left out
pub told_fit : (events : List Event) (heard : Heard) → AllFit heard events → AllFit heard (filter is_told events)
told_fit [] heard all = tt
told_fit (event ∷ events) heard all = by (is_told event) refl (told_fit events (heard_after event heard) all.1)
  where
    by : (b : Bool) → is_told event ≡ b → AllFit (heard_after event heard) (filter is_told events) → AllFit heard (cond b (event ∷ filter is_told events) (filter is_told events))
    by true is rest = (all.0, rest)
    by false is rest = subst (λ h. AllFit h (filter is_told events)) (untold_same event heard is) rest

pub all_fit : (events : List Event) (heard : Heard) → AllFit heard (filter is_told events) → AllFit heard events
all_fit [] heard told = tt
all_fit (event ∷ events) heard told = by (is_told event) refl told (λ h more. all_fit events h more)
  where
    by : (b : Bool) → is_told event ≡ b → AllFit heard (cond b (event ∷ filter is_told events) (filter is_told events))
        → ((h : Heard) → AllFit h (filter is_told events) → AllFit h events) → AllFit heard (event ∷ events)
    by true is more rest = (more.0, rest (heard_after event heard) more.1)
    by false is more rest = (untold_fits event heard is, rest (heard_after event heard) (subst (λ h. AllFit h (filter is_told events)) (sym (untold_same event heard is)) more))

-- ---- names of items

pub among_items : (response : ResponseParts) (name : List ℕ) → is_among name (item_names response) ≡ has_item response name
among_items response name = by response.items
  where
    by : (items : List ItemParts) → is_among name (map (λ (item : ItemParts). item.name) items) ≡ list_any (λ (item : ItemParts). bytes_eq item.name name) items
    by [] = refl
    by (item ∷ items) = ap (λ b. bytes_eq item.name name || b) (by items)

-- a name that is among the removed ones and that no item has is removed
pub removed_so : (response : ResponseParts) (name : List ℕ) → is_among name response.removed ≡ true → has_item response name ≡ false → is_removed response name ≡ true
removed_so response name there none =
    ap (λ b. b && not (nat_le 1 (length (filter (λ (item : ItemParts). bytes_eq item.name name) response.items)))) there
    ∙ ap (λ (items : List ItemParts). not (nat_le 1 (length items))) (nothing response.items none)
  where
    nothing : (items : List ItemParts) → list_any (λ (item : ItemParts). bytes_eq item.name name) items ≡ false → filter (λ (item : ItemParts). bytes_eq item.name name) items ≡ []
    nothing [] h = refl
    nothing (item ∷ items) h = by (bytes_eq item.name name) h (nothing items)
      where
        by : (b : Bool) → (b || list_any (λ (one : ItemParts). bytes_eq one.name name) items) ≡ false
            → (list_any (λ (one : ItemParts). bytes_eq one.name name) items ≡ false → filter (λ (one : ItemParts). bytes_eq one.name name) items ≡ [])
            → cond b (item ∷ filter (λ (one : ItemParts). bytes_eq one.name name) items) (filter (λ (one : ItemParts). bytes_eq one.name name) items) ≡ []
        by true k rest = absurd (false≢true (sym k))
        by false k rest = rest k

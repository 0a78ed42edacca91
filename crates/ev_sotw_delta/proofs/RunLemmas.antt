-- What lives in a run whose events are those of the state of the world.
use Rattle.std.proofs.Common.{◌≡◌, ◌∙◌, ℕ, zero, suc, ◌⊎◌, inl, inr, Bool, true, false, cond, List, [], ◌∷◌, take, Option, Some, None, refl, sym, ap, subst}
use Rattle.std.specs.Prelude.{slice_get, unwrap_or}
use Rattle.std.specs.List.{last_or, cons_option}
use Rattle.std.proofs.lemmas.Bool.{false≢true}
use Rattle.ev_types.specs.Items.{ResponseParts}
use Rattle.ev_types.specs.Kinds.{kind_same, is_by_name}
use Rattle.ev_types.specs.declared.contents.Kind.{Kind}
use Rattle.ev_types.specs.declared.contents.Kind.TheVariants.{Cds, Lds}
use Rattle.ev_types.specs.declared.events.Actor.{Actor}
use Rattle.ev_types.specs.declared.events.Answer.TheVariants.{Ignored}
use Rattle.ev_types.specs.declared.events.Entry.{Entry}
use Rattle.ev_types.specs.declared.events.Event.{Event}
use Rattle.ev_types.specs.declared.events.Event.TheVariants.{Connect, Disconnect, Response, Health, FetchTimeout, DrainTimeout, TtlExpired, Publish, Reap, Accept, Close, Settle}
use Rattle.ev_types.specs.declared.journals.Format.{Format}
use Rattle.ev_model.specs.World.{World, opening}
use Rattle.ev_model.specs.Runs.{world_after}
use Rattle.ev_model.specs.Step.{step, respond_by}
use Rattle.ev_model.specs.Verdicts.{is_among, is_removed}
use Rattle.ev_model_laws.specs.MainSide.{stream_told}
use Rattle.ev_model_laws.specs.Watches.{has_live, has_item}
use Rattle.ev_model_laws.proofs.LiveLemmas.{live_named}
use Rattle.ev_model_laws.proofs.StreamLemmas.{stream_after}
use Rattle.ev_sotw_delta.proofs.LiveLemmas.{IsOther, lived_before}
use Rattle.ev_sotw_delta.proofs.EventLemmas.{Heard, nothing_heard, item_names, heard_of, heard_after, RemovesOthers, FitsKind, FitsAt, AllFit, among_items}
use Rattle.ev_sotw_delta.proofs.StripLemmas.{entry_events}

-- what lives has a name that was heard last
pub record Holds (world : World) (heard : Heard) : Type 0 where
  pub stream : world.stream ≡ heard.connected
  pub clusters : (name : List ℕ) → has_live world Cds name ≡ true → is_among name heard.clusters ≡ true
  pub listeners : (name : List ℕ) → has_live world Lds name ≡ true → is_among name heard.listeners ≡ true

pub nothing_lives : (workers : ℕ) (node : List ℕ) → Holds (opening workers node) nothing_heard
nothing_lives workers node = record {
  stream = refl;
  clusters = λ name h. absurd (false≢true h);
  listeners = λ name h. absurd (false≢true h);
}

-- ---- the stream

of_connected : (found : Option Kind) (response : ResponseParts) (heard : Heard) → (heard_of found response heard).connected ≡ heard.connected
of_connected None response heard = refl
of_connected (Some Cds) response heard = refl
of_connected (Some Lds) response heard = refl
of_connected (Some kind) response heard = refl

pub connected_after : (event : Event) (heard : Heard) → (heard_after event heard).connected ≡ unwrap_or (stream_told event) heard.connected
connected_after Connect heard = refl
connected_after Disconnect heard = refl
connected_after (Response response) heard = of_connected response.kind response heard
connected_after (Health cluster host healthy) heard = refl
connected_after (FetchTimeout timeout) heard = refl
connected_after (DrainTimeout listener) heard = refl
connected_after (TtlExpired kind name) heard = refl
connected_after Publish heard = refl
connected_after Reap heard = refl
connected_after (Accept ask) heard = refl
connected_after (Close connection) heard = refl
connected_after Settle heard = refl

last_alone : (told : Option Bool) (was : Bool) → unwrap_or (last_or None (cons_option told [])) was ≡ unwrap_or told was
last_alone None was = refl
last_alone (Some b) was = refl

stream_next : (format : Format) (world : World) (entry : Entry) (heard : Heard) → world.stream ≡ heard.connected
    → (step format world entry.actor entry.event).0.stream ≡ (heard_after entry.event heard).connected
stream_next format world entry heard is =
    stream_after format world (entry ∷ []) ∙ last_alone (stream_told entry.event) world.stream
    ∙ ap (unwrap_or (stream_told entry.event)) is ∙ sym (connected_after entry.event heard)

-- ---- what lives after a response

-- after an answered response of this kind each has a name that is in it
pub named_by : (format : Format) (world : World) (actor : Actor) (response : ResponseParts) (kind : Kind) (names : List (List ℕ))
    → ((name : List ℕ) → has_live world kind name ≡ true → is_among name names ≡ true) → RemovesOthers names response
    → world.stream ≡ true → response.kind ≡ Some kind → is_by_name kind ≡ false
    → (name : List ℕ) → has_live (step format world actor (Response response)).0 kind name ≡ true → has_item response name ≡ true
named_by format world actor response kind names held removes streams typed isnt name h = by (live_named format world actor response kind name streams typed isnt h)
  where
    by_item : (b : Bool) → has_item response name ≡ b → has_live world kind name ≡ true → is_removed response name ≡ false → has_item response name ≡ true
    by_item true is live stays = is
    by_item false is live stays = absurd (false≢true (sym stays ∙ removes name (held name live) is))

    by : (has_item response name ≡ true) ⊎ ((has_live world kind name ≡ true) × (is_removed response name ≡ false)) → has_item response name ≡ true
    by (inl has) = has
    by (inr left) = by_item (has_item response name) refl left.0 left.1

other_kind : (kind of : Kind) (response : ResponseParts) → response.kind ≡ Some of → kind_same of kind ≡ false → IsOther kind (Response response)
other_kind kind of response typed other = λ found same is named.
    let e : response ≡ same = cc in
    let f : Some of ≡ Some found = sym typed ∙ ap (λ (r : ResponseParts). r.kind) e ∙ named in
    let g : of ≡ found = cc in
    ap (λ k. kind_same k kind) (sym g) ∙ other

no_kind : (kind : Kind) (response : ResponseParts) → response.kind ≡ None → IsOther kind (Response response)
no_kind kind response typed = λ found same is named.
    let e : response ≡ same = cc in
    let f : None ≡ Some found = sym typed ∙ ap (λ (r : ResponseParts). r.kind) e ∙ named in
    absurd (cc)

-- where no stream is open nothing is done
closed_same : (format : Format) (world : World) (actor : Actor) (response : ResponseParts) → world.stream ≡ false → (step format world actor (Response response)).0 ≡ world
closed_same format world actor response closed = ap (λ b. (cond b (respond_by response.kind response world) (world, Ignored)).0) closed

-- ---- what is heard holds after an event

module _ (format : Format) (world : World) (actor : Actor) (heard : Heard) (holds : Holds world heard) where
  responded_clusters : (response : ResponseParts) (found : Option Kind) → response.kind ≡ found → FitsKind found response heard
      → (name : List ℕ) → has_live (step format world actor (Response response)).0 Cds name ≡ true → is_among name (heard_of found response heard).clusters ≡ true
  responded_clusters response None typed fits name h = holds.clusters name (lived_before Cds name format world actor (Response response) (no_kind Cds response typed) h)
  responded_clusters response (Some Cds) typed fits name h = by heard.connected holds.stream
    where
      by : (b : Bool) → world.stream ≡ b → is_among name (cond b (item_names response) heard.clusters) ≡ true
      by true streams = among_items response name ∙ named_by format world actor response Cds heard.clusters holds.clusters fits streams typed refl name h
      by false closed = holds.clusters name (subst (λ w. has_live w Cds name ≡ true) (closed_same format world actor response closed) h)
  responded_clusters response (Some kind) typed fits name h =
      holds.clusters name (lived_before Cds name format world actor (Response response) (other_kind Cds kind response typed refl) h)

  responded_listeners : (response : ResponseParts) (found : Option Kind) → response.kind ≡ found → FitsKind found response heard
      → (name : List ℕ) → has_live (step format world actor (Response response)).0 Lds name ≡ true → is_among name (heard_of found response heard).listeners ≡ true
  responded_listeners response None typed fits name h = holds.listeners name (lived_before Lds name format world actor (Response response) (no_kind Lds response typed) h)
  responded_listeners response (Some Lds) typed fits name h = by heard.connected holds.stream
    where
      by : (b : Bool) → world.stream ≡ b → is_among name (cond b (item_names response) heard.listeners) ≡ true
      by true streams = among_items response name ∙ named_by format world actor response Lds heard.listeners holds.listeners fits streams typed refl name h
      by false closed = holds.listeners name (subst (λ w. has_live w Lds name ≡ true) (closed_same format world actor response closed) h)
  responded_listeners response (Some kind) typed fits name h =
      holds.listeners name (lived_before Lds name format world actor (Response response) (other_kind Lds kind response typed refl) h)

  still_clusters : (event : Event) → IsOther Cds event → (name : List ℕ) → has_live (step format world actor event).0 Cds name ≡ true → is_among name heard.clusters ≡ true
  still_clusters event other name h = holds.clusters name (lived_before Cds name format world actor event other h)

  still_listeners : (event : Event) → IsOther Lds event → (name : List ℕ) → has_live (step format world actor event).0 Lds name ≡ true → is_among name heard.listeners ≡ true
  still_listeners event other name h = holds.listeners name (lived_before Lds name format world actor event other h)

  clusters_after : (event : Event) → FitsAt event heard → (name : List ℕ) → has_live (step format world actor event).0 Cds name ≡ true → is_among name (heard_after event heard).clusters ≡ true
  clusters_after Connect fits name h = still_clusters Connect (λ of response is typed. absurd (cc)) name h
  clusters_after Disconnect fits name h = still_clusters Disconnect (λ of response is typed. absurd (cc)) name h
  clusters_after (Response response) fits name h = responded_clusters response response.kind refl fits name h
  clusters_after (Health cluster host healthy) fits name h = still_clusters (Health cluster host healthy) (λ of response is typed. absurd (cc)) name h
  clusters_after (FetchTimeout timeout) fits name h = still_clusters (FetchTimeout timeout) (λ of response is typed. absurd (cc)) name h
  clusters_after (DrainTimeout listener) fits name h = still_clusters (DrainTimeout listener) (λ of response is typed. absurd (cc)) name h
  clusters_after (TtlExpired kind ends) fits name h = still_clusters (TtlExpired kind ends) (λ of response is typed. absurd (cc)) name h
  clusters_after Publish fits name h = still_clusters Publish (λ of response is typed. absurd (cc)) name h
  clusters_after Reap fits name h = still_clusters Reap (λ of response is typed. absurd (cc)) name h
  clusters_after (Accept ask) fits name h = still_clusters (Accept ask) (λ of response is typed. absurd (cc)) name h
  clusters_after (Close connection) fits name h = still_clusters (Close connection) (λ of response is typed. absurd (cc)) name h
  clusters_after Settle fits name h = still_clusters Settle (λ of response is typed. absurd (cc)) name h

  listeners_after : (event : Event) → FitsAt event heard → (name : List ℕ) → has_live (step format world actor event).0 Lds name ≡ true → is_among name (heard_after event heard).listeners ≡ true
  listeners_after Connect fits name h = still_listeners Connect (λ of response is typed. absurd (cc)) name h
  listeners_after Disconnect fits name h = still_listeners Disconnect (λ of response is typed. absurd (cc)) name h
  listeners_after (Response response) fits name h = responded_listeners response response.kind refl fits name h
  listeners_after (Health cluster host healthy) fits name h = still_listeners (Health cluster host healthy) (λ of response is typed. absurd (cc)) name h
  listeners_after (FetchTimeout timeout) fits name h = still_listeners (FetchTimeout timeout) (λ of response is typed. absurd (cc)) name h
  listeners_after (DrainTimeout listener) fits name h = still_listeners (DrainTimeout listener) (λ of response is typed. absurd (cc)) name h
  listeners_after (TtlExpired kind ends) fits name h = still_listeners (TtlExpired kind ends) (λ of response is typed. absurd (cc)) name h
  listeners_after Publish fits name h = still_listeners Publish (λ of response is typed. absurd (cc)) name h
  listeners_after Reap fits name h = still_listeners Reap (λ of response is typed. absurd (cc)) name h
  listeners_after (Accept ask) fits name h = still_listeners (Accept ask) (λ of response is typed. absurd (cc)) name h
  listeners_after (Close connection) fits name h = still_listeners (Close connection) (λ of response is typed. absurd (cc)) name h
  listeners_after Settle fits name h = still_listeners Settle (λ of response is typed. absurd (cc)) name h

holds_after : (format : Format) (world : World) (entry : Entry) (heard : Heard) → Holds world heard → FitsAt entry.event heard
    → Holds (step format world entry.actor entry.event).0 (heard_after entry.event heard)
holds_after format world entry heard holds fits = record {
  stream = stream_next format world entry heard holds.stream;
  clusters = clusters_after format world entry.actor heard holds entry.event fits;
  listeners = listeners_after format world entry.actor heard holds entry.event fits;
}

-- ---- at each entry

-- what is heard before an entry holds, and its event fits
pub record FitsHere (world : World) (event : Event) : Type 0 where
  pub heard : Heard
  pub holds : Holds world heard
  pub fits : FitsAt event heard

pub fits_here : (format : Format) (journal : List Entry) (world : World) (heard : Heard) → Holds world heard → AllFit heard (entry_events journal)
    → (k : ℕ) (entry : Entry) → slice_get journal k ≡ Some entry → FitsHere (world_after format world (take k journal)) entry.event
fits_here format [] world heard holds all k entry there = absurd (cc)
fits_here format (first ∷ journal) world heard holds all zero entry there =
    let same : first ≡ entry = cc in
    subst (λ (e : Entry). FitsHere world e.event) same (record { heard = heard; holds = holds; fits = all.0 })
fits_here format (first ∷ journal) world heard holds all (suc k) entry there =
    fits_here format journal (step format world first.actor first.event).0 (heard_after first.event heard) (holds_after format world first heard holds all.0) all.1 k entry there

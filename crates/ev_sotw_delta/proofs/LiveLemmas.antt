-- A generation that lives after an event which isn't an answered response of its kind lived before it.
use Rattle.std.proofs.Common.{◌≡◌, ◌∙◌, ℕ, Bool, true, false, List, [], ◌∷◌, ◌++◌, Some, sym}
use Rattle.std.specs.Cmp.{first_so}
use Rattle.std.proofs.lemmas.Bool.{false≢true}
use Rattle.std.specs.Str.{bytes_eq}
use Rattle.ev_types.specs.Items.{ResponseParts}
use Rattle.ev_types.specs.Kinds.{kind_same}
use Rattle.ev_types.specs.declared.contents.Kind.{Kind}
use Rattle.ev_types.specs.declared.events.Actor.{Actor}
use Rattle.ev_types.specs.declared.events.Answer.{Answer}
use Rattle.ev_types.specs.declared.events.Event.{Event}
use Rattle.ev_types.specs.declared.events.Event.TheVariants.{Response}
use Rattle.ev_types.specs.declared.journals.Format.{Format}
use Rattle.ev_types.specs.declared.rows.Arrival.TheVariants.{TimedOut}
use Rattle.ev_model.specs.World.{World}
use Rattle.ev_model.specs.Live.{lives_of}
use Rattle.ev_model.specs.Verdicts.{verdicts_for}
use Rattle.ev_model.specs.Rows.{arrived, is_row_of}
use Rattle.ev_model.specs.Tidy.{tidy}
use Rattle.ev_model.specs.Signals.{with_results, with_end, forget_version}
use Rattle.ev_model.specs.Step.{step, answered}
use Rattle.ev_model_laws.proofs.AnyLemmas.{any_left}
use Rattle.ev_model_laws.proofs.EventLemmas.{step-leads}
use Rattle.ev_model_laws.specs.Watches.{has_live}
use Rattle.ev_model_laws.proofs.LiveLemmas.{lives, has_one, tidied, left_by, ended_by, responded_follows, named_blind, live_is}

-- it is no response of this kind
abbrev pub IsOther : Kind → Event → Type 0
IsOther kind event = (of : Kind) (response : ResponseParts) → event ≡ Response response → response.kind ≡ Some of → kind_same of kind ≡ false

module _ (kind : Kind) (name : List ℕ) (format : Format) (world : World) (actor : Actor) (event : Event) (other : IsOther kind event) where
  abbrev one : World → Bool
  one w = has_one (is_row_of kind name) (named_blind kind name) w.rows

  abbrev Lived : World × Answer → Type 0
  Lived did = one did.0 ≡ true → one world ≡ true

  quiet : (after : World) → (one after ≡ true → one world ≡ true) → one (tidy after) ≡ true → one world ≡ true
  quiet after so h = so (tidied (is_row_of kind name) (named_blind kind name) after h)

  replied : (of : Kind) (response : ResponseParts) → event ≡ Response response → response.kind ≡ Some of
      → Lived (answered of response (verdicts_for of (lives_of world) world.versions response) world)
  replied of response is typed =
      responded_follows (is_row_of kind name) (named_blind kind name) (one world ≡ true) of response (verdicts_for of (lives_of world) world.versions response) world
      (λ judged there number content chains makes passes. absurd (false≢true (sym (other of response is typed) ∙ first_so (kind_same of kind) (bytes_eq judged.1.name name) passes)))
      (λ left. left_by (is_row_of kind name) (named_blind kind name) of response world left)

  lived : Lived (step format world actor event)
  lived = step-leads Lived format world actor event (record {
    ignored = λ h. h;
    connected = λ is. quiet (record world { stream = true }) (λ h. h);
    disconnected = λ is. quiet (record world { stream = false }) (λ h. h);
    replied = replied;
    resulted = λ cluster host healthy rows is. quiet (with_results host healthy rows world) (λ h. h);
    timed = λ timeout of is named. quiet (record world { arrivals = world.arrivals ++ arrived world.made timeout.kind TimedOut of ∷ [] }) (λ h. h);
    clusters_late = λ timeout is. quiet (record world { late_clusters = true }) (λ h. h);
    listeners_late = λ timeout is. quiet (record world { late_listeners = true }) (λ h. h);
    expired = λ of numbers is. quiet (record world { expired = world.expired ++ numbers }) (λ h. h);
    ended = λ of ends is bounded.
        quiet (with_end of ends (forget_version of ends world)) (λ h. ended_by (is_row_of kind name) (named_blind kind name) of ends (forget_version of ends world) h);
    unchanged = λ is h. h;
    published = λ is h. h;
    reaped = λ is h. any_left (lives (is_row_of kind name) (named_blind kind name)) _ world.rows h;
    accepted = λ ask worker is by h. h;
    closed = λ connection worker is by h. h;
    settled = λ worker is by h. h;
  })

-- this holds for what lives
pub lived_before : (kind : Kind) (name : List ℕ) (format : Format) (world : World) (actor : Actor) (event : Event) → IsOther kind event
    → has_live (step format world actor event).0 kind name ≡ true → has_live world kind name ≡ true
lived_before kind name format world actor event other h =
    live_is kind name world ∙ lived kind name format world actor event other (sym (live_is kind name (step format world actor event).0) ∙ h)

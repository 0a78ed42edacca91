-- What a response does to the parts together.
use Rattle.std.proofs.Common.{◌≡◌, ℕ, List, Some, sym, ap, ◌∙◌, subst}
use Rattle.std.specs.List.{All}
use Rattle.ev_types.specs.Items.{ResponseParts}
use Rattle.ev_types.specs.declared.contents.Kind.{Kind}
use Rattle.ev_types.specs.declared.events.Verdict.{Verdict}
use Rattle.ev_types.specs.declared.rows.KeptVersion.{KeptVersion}
use Rattle.ev_model.specs.World.{World}
use Rattle.ev_model.specs.Live.{lives_of}
use Rattle.ev_model.specs.Verdicts.{verdicts_of, verdicts_for, verdicts_by}
use Rattle.ev_model.specs.Rows.{with_removals, add_items, made_names, with_first}
use Rattle.ev_warming.specs.Arrivals.{AreOnRows, AreOnValues}
use Rattle.ev_indexes.proofs.SeenLemmas.{seen-stands}
use Rattle.ev_warming.proofs.JudgedLemmas.{rows-judged, values-judged}
use Rattle.ev_managers.specs.declared.managers.Managers.{Managers}
use Rattle.ev_managers.specs.Managers.{StandFor, MayBeGiven}
use Rattle.ev_managers.specs.Moved.{AreRetired}
use Rattle.ev_warming.specs.Changes.{has_retired}
use Rattle.ev_model_laws.specs.VersionsKept.{AreKeptOnce}
use Rattle.ev_subscription.specs.Subscriptions.{SubscriptionParts, HasVersions, kept_of}
use Rattle.ev_state.specs.InitTargets.{InitTargetsParts, HaveBooted}
use Rattle.ev_state.specs.declared.state.State.{State}
use Rattle.ev_state.specs.Ages.{AreLater}
use Rattle.ev_state.specs.Retirements.{HaveRetired}
use Rattle.ev_state.specs.States.{Follows}
use Rattle.ev_state.proofs.AgeLemmas.{response-later}
use Rattle.ev_state.proofs.MoveLemmas.{told-have}
use Rattle.ev_state.proofs.HeardLemmas.{IsDue, response_due}
use Rattle.ev_state.proofs.RestLemmas.{SameRest, response_rest, rest_boots, FirstLeaves, first_leaves}

-- the machine's verdicts may be given
pub may_be_given : (m : Managers) (kind : Kind) (response : ResponseParts) (verdicts : List Verdict) (world : World)
    → StandFor m world → response.kind ≡ Some kind → verdicts ≡ verdicts_of (lives_of world) world.versions response
    → MayBeGiven m kind verdicts response.items
may_be_given m kind response verdicts world stand of are = record {
  values = λ by_name.
      subst (λ (vs : List Verdict). AreOnValues kind m.core.state.table.rows vs response.items) (sym are)
      (values-judged m.core.state response world kind by_name of stand);
  rows = λ rows. subst AreOnRows (sym are) (rows-judged response world kind rows of);
}

-- the parts after a response represent the machine's world after it
pub taken : (s : State) (m : Managers) (subscription : SubscriptionParts) (targets : InitTargetsParts) (kind : Kind) (response : ResponseParts) (verdicts : List Verdict) (world : World)
    → Follows s world world → response.kind ≡ Some kind → verdicts ≡ verdicts_of (lives_of world) world.versions response
    → StandFor m (add_items kind verdicts response.items (with_removals kind response world))
    → HasVersions subscription (add_items kind verdicts response.items (with_removals kind response world))
    → ((w : World) → HaveBooted s.targets w → HaveBooted targets (with_first kind (made_names verdicts response.items) w))
    → Follows (record s { managers = m; subscription = subscription; targets = targets }) world
    (with_first kind (made_names verdicts response.items) (add_items kind verdicts response.items (with_removals kind response world)))
taken s m subscription targets kind response verdicts world follows of are stand held boots =
    let after : World = add_items kind verdicts response.items (with_removals kind response world) in
    let rest : SameRest world after = response_rest kind response verdicts world in
    let first : FirstLeaves after (with_first kind (made_names verdicts response.items) after) = first_leaves kind (made_names verdicts response.items) after in
    let judged : verdicts ≡ verdicts_for kind (lives_of world) world.versions response =
    are ∙ ap (λ k. verdicts_by k (lives_of world) world.versions response) of in
    record {
      stands = record {
        managers = seen-stands m.core.state after (with_first kind (made_names verdicts response.items) after) first.seen stand;
        subscription = record {
          node = held.node ∙ sym first.node;
          stream = held.stream ∙ sym first.stream;
          versions = λ k. held.versions k ∙ ap (λ (vs : List KeptVersion). kept_of k vs) (sym first.versions);
          kept_once = subst AreKeptOnce (sym first.versions) held.kept_once;
        };
        targets = boots after (rest_boots s.targets world after rest follows.stands.targets);
      };
      sound = follows.sound;
      later = subst (AreLater world.made world.rows) (sym first.seen.rows) (response-later kind response verdicts world);
      heard = subst (λ (vs : List KeptVersion). All (IsDue (lives_of world)) vs) (sym first.versions)
          (subst (λ (vs : List Verdict). All (IsDue (lives_of world)) (add_items kind vs response.items (with_removals kind response world)).versions) (sym judged)
          (response_due kind response (lives_of world) world.versions world follows.heard));
      phase = first.phase ∙ rest.phase;
    }

-- and what retired is said of that world
pub taken_retired : (retired : List ℕ) (m after : Managers) (kind : Kind) (response : ResponseParts) (verdicts : List Verdict) (world : World)
    → StandFor m world → StandFor after (add_items kind verdicts response.items (with_removals kind response world)) → AreRetired retired m after
    → HaveRetired retired world (with_first kind (made_names verdicts response.items) (add_items kind verdicts response.items (with_removals kind response world)))
taken_retired retired m after kind response verdicts world stand stand_after are n =
    let led : World = add_items kind verdicts response.items (with_removals kind response world) in
    let first : FirstLeaves led (with_first kind (made_names verdicts response.items) led) = first_leaves kind (made_names verdicts response.items) led in
    told-have retired m after world led stand stand_after are n ∙ (λ i. has_retired n world.rows (sym first.seen.rows i))

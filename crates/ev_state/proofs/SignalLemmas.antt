-- What signals do to the parts together.
use Rattle.std.proofs.Common.{◌≡◌, ℕ, Bool, true, false, not, ◌||◌, ◌&&◌, cond, List, [], ◌∷◌, ◌++◌, filter, refl, sym, ap, ◌∙◌, subst}
use Rattle.std.specs.List.{All, list_any}
use Rattle.std.proofs.lemmas.Bool.{false≢true}
use Rattle.ev_types.specs.declared.hosts.Host.{Host}
use Rattle.ev_types.specs.declared.events.Answer.{Answer}
use Rattle.ev_types.specs.declared.events.Answer.TheVariants.{Ignored}
use Rattle.ev_types.specs.declared.rows.GenRow.{GenRow}
use Rattle.ev_types.specs.declared.rows.KeptVersion.{KeptVersion}
use Rattle.ev_model.specs.Live.{lives_of}
use Rattle.ev_state.proofs.HeardLemmas.{IsDue}
use Rattle.ev_model.specs.World.{World}
use Rattle.ev_model.specs.Signals.{health_of, moved, with_results, with_end, forget_version}
use Rattle.ev_model.specs.Versions.{is_version_of, is_bounded}
use Rattle.ev_types.specs.Kinds.{is_by_name}
use Rattle.std.proofs.lemmas.List.Elements.{All-filter, recursion_from_All}
use Rattle.ev_types.specs.declared.contents.Kind.{Kind}
use Rattle.ev_types.specs.declared.contents.Kind.TheVariants.{Cds}
use Rattle.ev_lookups.specs.Keys.{named}
use Rattle.ev_lookups.specs.declared.kind_keys.Key.{Key}
use Rattle.ev_indexes.proofs.ReadLemmas.{watched-world, still-waits}
use Rattle.ev_indexes.proofs.WaitLemmas.{waits-depends}
use Rattle.ev_state.proofs.TidyLemmas.{found_watched}
use Rattle.ev_model_laws.proofs.AnyLemmas.{any_so}
use Rattle.ev_indexes.specs.Indexes.{depends_on}
use Rattle.ev_indexes.specs.declared.state.State.{State as Part}
use Rattle.ev_indexes.specs.Reads.{is_timeout_due, is_waiting_in}
use Rattle.ev_indexes.specs.Watched.{watch_in}
use Rattle.ev_managers.specs.declared.managers.Managers.{Managers}
use Rattle.ev_managers.specs.declared.moved.Moved.{Moved}
use Rattle.ev_managers.specs.Managers.{AreForgotten, AreManagersKept, StandFor, is_watched_in}
use Rattle.ev_model_laws.specs.VersionsKept.{AreKeptOnce}
use Rattle.ev_subscription.specs.Subscriptions.{SubscriptionParts, HasVersions, kept_of}
use Rattle.ev_state.specs.InitTargets.{InitTargetsParts, HaveBooted}
use Rattle.ev_state.specs.declared.state.State.{State}
use Rattle.ev_state.specs.Ages.{AreLater}
use Rattle.ev_state.specs.States.{Follows, IsStep}
use Rattle.ev_state.proofs.AgeLemmas.{later-same, end-later}
use Rattle.ev_state.proofs.MoveLemmas.{none-moved}
use Rattle.ev_state.proofs.RestLemmas.{SameRest, rest_boots}
use Rattle.ev_state.proofs.SameLemmas.{changed-none}

-- the managers alone have changed
pub managers_follow : (s : State) (m : Managers) (world after : World) → Follows s world world → StandFor m after
    → after.node ≡ world.node → after.stream ≡ world.stream → after.versions ≡ world.versions → SameRest world after → after.rows ≡ world.rows
    → Follows (record s { managers = m }) world after
managers_follow s m world after follows stand node stream versions rest rows =
    let had = follows.stands.subscription in
    record {
      stands = record {
        managers = stand;
        subscription = record {
          node = had.node ∙ sym node;
          stream = had.stream ∙ sym stream;
          versions = λ k. had.versions k ∙ ap (kept_of k) (sym versions);
          kept_once = subst AreKeptOnce (sym versions) had.kept_once;
        };
        targets = rest_boots s.targets world after rest follows.stands.targets;
      };
      sound = follows.sound;
      later = subst (AreLater world.made world.rows) (sym rows) (later-same world.made world.rows);
      heard = subst (λ (vs : List KeptVersion). All (IsDue (lives_of world)) vs) (sym versions) follows.heard;
      phase = rest.phase;
    }

-- the targets alone have changed
pub targets_follow : (s : State) (targets : InitTargetsParts) (world after : World) → Follows s world world → HaveBooted targets after
    → StandFor s.managers after → HasVersions s.subscription after → after.versions ≡ world.versions
    → after.phase ≡ world.phase → after.rows ≡ world.rows → Follows (record s { targets = targets }) world after
targets_follow s targets world after follows boots stand held versions phase rows = record {
  stands = record { managers = stand; subscription = held; targets = boots };
  sound = follows.sound;
  later = subst (AreLater world.made world.rows) (sym rows) (later-same world.made world.rows);
  heard = subst (λ (vs : List KeptVersion). All (IsDue (lives_of world)) vs) (sym versions) follows.heard;
  phase = phase;
}

-- nothing is done
pub ignores : (s : State) (these : Moved) (world : World) → these ≡ record { retired = []; changed = [] }
    → AreManagersKept s.managers → AreForgotten s.managers → Follows s world world → IsStep s Ignored these world (world, Ignored)
ignores s these world none kept forgotten follows = record {
  kept = kept;
  forgotten = forgotten;
  follows = follows;
  later = later-same world.made world.rows;
  answer = refl;
  moved = none-moved these world world none refl (changed-none these.changed world);
}

none_by : {X : Type 0} (p : X → Bool) (xs : List X) → list_any p xs ≡ false → filter p xs ≡ []
none_by p [] none = refl
none_by p (x ∷ xs) none = by (p x) none (none_by p xs)
  where
    by : (b : Bool) → (b || list_any p xs) ≡ false → (list_any p xs ≡ false → filter p xs ≡ []) → cond b (x ∷ filter p xs) (filter p xs) ≡ []
    by true h rest = absurd (false≢true (sym h))
    by false h rest = rest h

some_by : {X : Type 0} (p : X → Bool) (xs : List X) → list_any p xs ≡ true → filter p xs ≡ [] → ⊥
some_by p [] some none = false≢true some
some_by p (x ∷ xs) some none = by (p x) some none (some_by p xs)
  where
    by : (b : Bool) → (b || list_any p xs) ≡ true → cond b (x ∷ filter p xs) (filter p xs) ≡ [] → (list_any p xs ≡ true → filter p xs ≡ [] → ⊥) → ⊥
    by true h none rest = cc
    by false h none rest = rest h none

led_by : (s : State) (told : Answer) (these : Moved) (host : Host) (healthy : Bool) (rows : List GenRow) (world : World) → (rows ≡ [] → ⊥)
    → IsStep s told these world (moved world (with_results host healthy rows world)) → IsStep s told these world (health_of host healthy rows world)
led_by s told these host healthy [] world some steps = absurd (some refl)
led_by s told these host healthy (row ∷ rows) world some steps = steps

kept_by : (s : State) (told : Answer) (these : Moved) (host : Host) (healthy : Bool) (rows : List GenRow) (world : World) → rows ≡ []
    → IsStep s told these world (world, Ignored) → IsStep s told these world (health_of host healthy rows world)
kept_by s told these host healthy [] world none steps = steps
kept_by s told these host healthy (row ∷ rows) world none steps = absurd (cc)

-- a health result that is for a generation
pub health_led : (s : State) (told : Answer) (these : Moved) (host : Host) (healthy : Bool) (p : GenRow → Bool) (world : World) → list_any p world.rows ≡ true
    → IsStep s told these world (moved world (with_results host healthy (filter p world.rows) world)) → IsStep s told these world (health_of host healthy (filter p world.rows) world)
health_led s told these host healthy p world some steps = led_by s told these host healthy (filter p world.rows) world (some_by p world.rows some) steps

append_nil : {X : Type 0} (xs : List X) → xs ++ [] ≡ xs
append_nil [] = refl
append_nil (x ∷ xs) = ap (λ ys. x ∷ ys) (append_nil xs)

-- one that is for none
pub health_ignored : (s : State) (m : Managers) (these : Moved) (host : Host) (healthy : Bool) (p : GenRow → Bool) (world : World) → AreManagersKept m → AreForgotten m
    → Follows s world world → list_any p world.rows ≡ false → StandFor m (with_results host healthy (filter p world.rows) world)
    → these ≡ record { retired = []; changed = [] }
    → IsStep (record s { managers = m }) Ignored these world (health_of host healthy (filter p world.rows) world)
health_ignored s m these host healthy p world kept forgotten follows none stand are =
    let gone : filter p world.rows ≡ [] = none_by p world.rows none in
    let same : with_results host healthy (filter p world.rows) world ≡ world =
    (λ i. with_results host healthy (gone i) world) ∙ (λ i. record world { results = append_nil world.results i }) in
    kept_by (record s { managers = m }) Ignored these host healthy (filter p world.rows) world gone
    (ignores (record s { managers = m }) these world are kept forgotten
    (managers_follow s m world world follows (subst (λ (w : World). StandFor m w) same stand) refl refl refl
    (record { first_clusters = refl; first_listeners = refl; late_clusters = refl; late_listeners = refl; phase = refl }) refl))

both_first : (a b : Bool) → (a && b) ≡ true → a ≡ true
both_first true b h = refl
both_first false b h = h

-- a name whose timeout is due is watched
pub due_is_watched : (part : Part) (key : Key) → is_timeout_due part.watches part.table.rows key ≡ true → list_any (depends_on key) part.table.rows ≡ true
due_is_watched part key due =
    any_so (is_waiting_in key (watch_in part.watches key)) (depends_on key) part.table.rows
    (λ row h. waits-depends key true row (still-waits key (watch_in part.watches key) row h)) due

pub not_false : (b : Bool) → not b ≡ false → b ≡ true
not_false true h = refl
not_false false h = absurd (false≢true (sym h))

pub not_true : (b : Bool) → not b ≡ true → b ≡ false
not_true true h = sym h
not_true false h = refl

-- a resource has come to its end
pub ended_follows : (s : State) (m : Managers) (subscription : SubscriptionParts) (kind : Kind) (name : List ℕ) (world : World) → Follows s world world
    → StandFor m (with_end kind name (forget_version kind name world)) → HasVersions subscription (forget_version kind name world)
    → Follows (record s { managers = m; subscription = subscription }) world (with_end kind name (forget_version kind name world))
ended_follows s m subscription Cds name world follows stand held = record {
  stands = record {
    managers = stand;
    subscription = record { node = held.node; stream = held.stream; versions = held.versions; kept_once = held.kept_once };
    targets = rest_boots s.targets world (with_end Cds name (forget_version Cds name world)) (record { first_clusters = refl; first_listeners = refl; late_clusters = refl; late_listeners = refl; phase = refl }) follows.stands.targets;
  };
  sound = follows.sound;
  later = end-later world.made Cds name world;
  heard = All-filter (λ (kept : KeptVersion). not (is_version_of Cds name kept)) (IsDue (lives_of world)) world.versions follows.heard;
  phase = refl;
}
ended_follows s m subscription kind name world follows stand held = record {
  stands = record {
    managers = stand;
    subscription = record { node = held.node; stream = held.stream; versions = held.versions; kept_once = held.kept_once };
    targets = rest_boots s.targets world (with_end kind name (forget_version kind name world)) (record { first_clusters = refl; first_listeners = refl; late_clusters = refl; late_listeners = refl; phase = refl }) follows.stands.targets;
  };
  sound = follows.sound;
  later = end-later world.made kind name world;
  heard = All-filter (λ (kept : KeptVersion). not (is_version_of kind name kept)) (IsDue (lives_of world)) world.versions follows.heard;
  phase = refl;
}

-- it draws no number
pub end_draws : (kind : Kind) (name : List ℕ) (world : World) → (with_end kind name world).made ≡ world.made
end_draws Cds name world = refl
end_draws kind name world = refl

-- a name whose life is bounded is watched, where resources of its kind are asked for by name
pub bounded_is_watched : (m : Managers) (kind : Kind) (name : List ℕ) (world : World) → StandFor m world → All (IsDue (lives_of world)) world.versions
    → is_bounded world.versions kind name ≡ true → is_by_name kind ≡ true → is_watched_in m kind name ≡ true
bounded_is_watched m kind name world stand due bounded by_name =
    watched-world m.core.state world stand (named kind name)
    ∙ found_watched (lives_of world) kind name world.versions by_name (recursion_from_All (IsDue (lives_of world)) world.versions due)
    (any_so (λ (v : KeptVersion). is_version_of kind name v && v.bounded) (is_version_of kind name) world.versions (λ v h. both_first (is_version_of kind name v) v.bounded h) bounded)

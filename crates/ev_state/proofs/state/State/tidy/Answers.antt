use Rattle.std.proofs.Common.{ℕ, ◌&&◌, ◌++◌, not, refl, ap, ◌∙◌}
use Rattle.std.proofs.lemmas.List.Elements.{filter_passes}
use Rattle.ev_types.specs.declared.rows.GenRow.{GenRow}
use Rattle.ev_model.specs.World.{World}
use Rattle.ev_model.specs.Warming.{is_ready_by}
use Rattle.ev_indexes.specs.Due.{is_one_of}
use Rattle.ev_indexes.proofs.SeenLemmas.{seen-sound, seen-stands}
use Rattle.ev_model.specs.Live.{lives_of}
use Rattle.ev_model.specs.Phase.{is_clusters}
use Rattle.ev_model.specs.Tidy.{tidy, has_successor, promoted, without_unwatched, without_old_results, is_version_due}
use Rattle.ev_model.specs.Watching.{watched_of}
use Rattle.ev_subscription.specs.Asked.{changes_of}
use Rattle.ev_subscription.specs.Subscriptions.{HasVersions}
use Rattle.ev_state.specs.InitTargets.{HaveBooted}
use Rattle.ev_state.proofs.AgeLemmas.{later-same, later-then, later-promoted}
use Rattle.ev_state.specs.Changed.{listeners_begun}
use Rattle.ev_state.proofs.MoveLemmas.{promoted-have}
use Rattle.ev_state.proofs.TellLemmas.{tidied-changed}
use Rattle.ev_state.proofs.TidyLemmas.{are_ended}
use Rattle.ev_state.proofs.state.State.tidy.Goals as goal

pub returns-clause-over : goal.returns-clause-over
returns-clause-over g c = λ before world follows drawn have.
    let w1 : World = promoted world in
    let w3 : World = without_old_results (without_unwatched w1) in
    let first = c.in_ok-promote.ensures.stands world follows.stands.managers in
    let third = c.in_ok-forget.ensures.stands w1 first in
    let m = c.args.self.now.managers in
    let now_later = later-promoted before.made (λ (row : GenRow). has_successor world.arrivals world.results world.rows row) (λ (row : GenRow). is_ready_by world.arrivals world.results row) world.rows in
    let later = later-then before.made before.rows world.rows w1.rows follows.later now_later in
    let told = promoted-have c.args.moved.now.retired c.promote.new.moved.retired m c.promote.new.self before world follows.stands.managers first
    c.in_ok-promote.ensures.told.retired follows.later have.retired in
    let listed = λ (n : ℕ). ap (λ ns. is_one_of ns n) c.as_slice-retired.ensures.elements ∙ told n in
    let changed_before = c.in_ok-before.ensures before w1 first follows.sound later drawn listed ∙ (λ i. changes_of (c.kinds_before.ensures i) (watched_of before) (watched_of w1)) in
    let changed_behind = c.in_ok-behind.ensures before w1 first follows.sound later drawn listed
    ∙ (λ i. changes_of (c.kinds_behind.ensures i) (watched_of before) (watched_of w1)) in
    let had = follows.stands.subscription in
    let held1 : HasVersions c.args.self.now.subscription w1 = record { node = had.node; stream = had.stream; versions = had.versions; kept_once = had.kept_once } in
    let left2 = c.forget_unwatched.ensures w1 held1 (are_ended before w1 c.in_ok-before.before c.in_ok-behind.behind changed_before changed_behind follows.heard) in
    let booted = follows.stands.targets in
    let booted3 : HaveBooted c.args.self.now.targets w3 = record {
      phase = booted.phase;
      first_clusters = booted.first_clusters;
      first_listeners = booted.first_listeners;
      late_clusters = booted.late_clusters;
      late_listeners = booted.late_listeners;
    } in
    let moved = c.advance-left.ensures.stands w3 booted3 third in
    record {
      follows = record {
        stands = record {
          managers = seen-stands c.forget.new.self.core.state w3 (tidy world) (record { rows = refl; made = refl; arrivals = refl; results = refl }) third;
          subscription = record { node = left2.node; stream = left2.stream; versions = left2.versions; kept_once = left2.kept_once };
          targets = moved;
        };
        sound = seen-sound w3 (tidy world) (record { rows = refl; made = refl; arrivals = refl; results = refl }) third.sound;
        later = later-same world.made w1.rows;
        heard = filter_passes (is_version_due (lives_of w1)) world.versions;
        phase = refl;
      };
      later = later;
      changed_before = changed_before;
      changed_behind = changed_behind;
      left = c.advance-left.ensures.left ∙ (λ i. is_clusters ((booted.phase ∙ follows.phase) i) && not (is_clusters (moved.phase i)));
      moved = record {
        retired = told;
        changed = tidied-changed c.args.moved.now.changed c.promote.new.moved.changed c.put_listeners.new.changed m c.promote.new.self c.forget.new.self before world
            follows.stands.managers first third c.in_ok-promote.ensures.told.changed
            (c.in_ok-put_listeners.ensures
            ∙ (λ i. c.promote.new.moved.changed ++ listeners_begun ((c.phase-phase.ensures.value ∙ booted.phase) i) (moved.phase i) c.forget.new.self.core.state))
            have.changed;
      };
    }

-- A state that is at a world is at every one that differs only in what holds generations.
use Rattle.std.proofs.Common.{List, refl, sym, ap, subst, ◌∙◌}
use Rattle.std.specs.List.{All}
use Rattle.ev_types.specs.declared.rows.GenRow.{GenRow}
use Rattle.ev_types.specs.declared.rows.KeptVersion.{KeptVersion}
use Rattle.ev_model.specs.World.{World}
use Rattle.ev_model.specs.Live.{lives_of}
use Rattle.ev_model_laws.specs.VersionsKept.{AreKeptOnce}
use Rattle.ev_indexes.proofs.SeenLemmas.{SameSeen, seen-sound, seen-stands}
use Rattle.ev_subscription.specs.Subscriptions.{kept_of}
use Rattle.ev_state.specs.declared.state.State.{State}
use Rattle.ev_state.specs.States.{ManagesAt, SameManaged}
use Rattle.ev_state.proofs.AgeLemmas.{later-same}
use Rattle.ev_state.proofs.HeardLemmas.{IsDue}
use Rattle.ev_state.proofs.RestLemmas.{rest_boots}
use Rattle.ev_state.proofs.WholeLemmas.{AreWhole}

pub at-frame : (s : State) (world after : World) → SameManaged world after → ManagesAt s world → ManagesAt s after
at-frame s world after same at =
    let had = at.follows.stands.subscription in
    let seen : SameSeen world after = record { rows = same.rows; made = same.made; arrivals = same.arrivals; results = same.results } in
    record {
      kept = at.kept;
      forgotten = at.forgotten;
      follows = record {
        stands = record {
          managers = seen-stands s.managers.core.state world after seen at.follows.stands.managers;
          subscription = record {
            node = had.node ∙ sym same.node;
            stream = had.stream ∙ sym same.stream;
            versions = λ k. had.versions k ∙ ap (kept_of k) (sym same.versions);
            kept_once = subst AreKeptOnce (sym same.versions) had.kept_once;
          };
          targets = rest_boots s.targets world after
              (record { first_clusters = same.first_clusters; first_listeners = same.first_listeners; late_clusters = same.late_clusters; late_listeners = same.late_listeners; phase = same.phase })
              at.follows.stands.targets;
        };
        sound = seen-sound world after seen at.follows.sound;
        later = later-same after.made after.rows;
        heard = subst (λ (vs : List KeptVersion). All (IsDue (lives_of after)) vs) (sym same.versions)
            (subst (λ (rows : List GenRow). All (IsDue (lives_of (record world { rows = rows }))) world.versions) (sym same.rows) at.follows.heard);
        phase = refl;
      };
      whole = subst AreWhole (sym same.rows) at.whole;
    }

use Rattle.std.proofs.Common.{◌≡◌, ◌∙◌, ◌++◌, ◌⊎◌, inl, inr, ℕ, Bool, true, false, refl, sym}
use Rattle.std.proofs.lemmas.List.{append-nil}
use Rattle.ev_types.specs.declared.contents.Kind.TheVariants.{Cds}
use Rattle.ev_model.specs.World.{World}
use Rattle.ev_model.specs.Warming.{is_healthy}
use Rattle.ev_model.specs.Signals.{is_meant, with_results, rows_meant}
use Rattle.ev_lookups.specs.Keys.{named}
use Rattle.ev_indexes.specs.Due.{is_one_of}
use Rattle.ev_indexes.specs.Indexes.{serves, numbers_where}
use Rattle.ev_indexes.proofs.HealthyLemmas.{as-healthy-world}
use Rattle.ev_state.proofs.SignalLemmas.{managers_follow, health_led, health_ignored}
use Rattle.ev_state.proofs.MoveLemmas.{none-have}
use Rattle.ev_state.proofs.TellLemmas.{resulted-changed}
use Rattle.ev_state.proofs.state.State.health.Goals as goal
use Rattle.ev_state.proofs.state.State.health.Goals.{then-not-same+in_ok-put_active, else-not-same}

pub returns-then-not-branch : goal.returns-then-not-branch
returns-then-not-branch g c = λ world follows.
    health_ignored c.args.self.now c.health.new.self c.none.result c.args.host.now c.args.healthy (is_meant world.arrivals c.args.cluster.now c.args.host.now) world
    c.in_ok-health.ensures.kept (c.in_ok-health.ensures.forgotten c.requires.forgotten) follows
    (sym (c.in_ok-health.ensures.ignored world follows.stands.managers) ∙ c.if-not-branch.true)
    (c.in_ok-health.ensures.stands world follows.stands.managers) c.none.ensures

pub returns : goal.returns
returns g c = λ world follows.
    let after : World = with_results c.args.host.now c.args.healthy (rows_meant world.arrivals c.args.cluster.now c.args.host.now world.rows) world in
    let stand = c.in_ok-health.ensures.stands world follows.stands.managers in
    let old = c.args.self.now.managers in
    let numbers = numbers_where (serves (named Cds c.args.cluster.now)) c.health.new.self.core.state.table.rows in
    let told : (n : ℕ) → is_one_of c.in_ok-moved.moved.changed n ≡ false → (is_one_of numbers n ≡ false) ⊎ (is_healthy world.results n c.args.host.now ≡ c.args.healthy) =
    λ n other. elim c.if-not-same.branch [
      | then-not-same+in_ok-put_active w ↦
          let put = w.changed-is ∙ w.in_ok-put_active.ensures ∙ (λ i. c.new-changed.ensures.empty i ++ numbers) in
          let are = c.in_ok-moved.ensures.changed ∙ (λ i. put i ++ c.new.ensures.empty i) ∙ append-nil numbers in
          inl ((λ i. is_one_of (sym are i) n) ∙ other)
      | else-not-same w ↦
          let same = follows.stands.managers.rows ∙ sym stand.rows in
          either n (is_one_of numbers n) (is_healthy world.results n c.args.host.now) c.args.healthy refl
          (λ e. as-healthy-world old.core.state world follows.stands.managers c.requires.kept.indexed (named Cds c.args.cluster.now) c.args.host.now c.args.healthy
          (sym c.is_as_healthy-same.ensures ∙ w.if-not-same.false) n ((λ i. is_one_of (numbers_where (serves (named Cds c.args.cluster.now)) (same i)) n) ∙ e))
    ] in
    let changed = resulted-changed c.in_ok-moved.moved.changed c.health.new.self c.args.cluster.now c.args.host.now c.args.healthy world stand told in
    health_led c.finish.new.self c.in_ok-told.told.0 c.in_ok-told.told.1 c.args.host.now c.args.healthy (is_meant world.arrivals c.args.cluster.now c.args.host.now) world
    (sym (c.in_ok-health.ensures.ignored world follows.stands.managers) ∙ c.if-not-branch.false)
    (c.in_ok-told.ensures world after
    (managers_follow c.args.self.now c.health.new.self world after follows stand refl refl refl
    (record { first_clusters = refl; first_listeners = refl; late_clusters = refl; late_listeners = refl; phase = refl }) refl)
    refl (record { retired = none-have c.in_ok-moved.moved.retired world after (c.in_ok-moved.ensures.retired ∙ c.new.ensures.empty) refl; changed = changed }))
  where
    either : (n : ℕ) (b h healthy : Bool) → {c : Bool} → c ≡ b → (c ≡ true → h ≡ healthy) → (c ≡ false) ⊎ (h ≡ healthy)
    either n true h healthy e known = inr (known e)
    either n false h healthy e known = inl e

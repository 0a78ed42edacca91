use Rattle.std.proofs.Common.{ap, ◌∙◌, cond}
use Rattle.std.specs.Result.{OnOk}
use Rattle.std.specs.BTreeMap.{insert_entry}
use Rattle.ev_types.specs.Kinds.{kind_same}
use Rattle.ev_types.specs.declared.rows.KeptVersion.{KeptVersion}
use Rattle.ev_model.specs.World.{World}
use Rattle.ev_model.specs.Versions.{with_version}
use Rattle.ev_lookups.specs.Keys.{named}
use Rattle.ev_subscription.specs.Held.{key_order, versions_in}
use Rattle.ev_subscription.specs.Subscriptions.{Accepts, HasVersions, SubscriptionParts, held_of, kept_of, kept_version}
use Rattle.ev_subscription.proofs.HeldLemmas.{held_more, on_ok}
use Rattle.ev_subscription.proofs.KindLemmas.{stands_with}
use Rattle.ev_subscription.proofs.subscription.Subscription.accept.Goals as goal

-- the version that is accepted
abbrev version : (c : goal.After-hold) → KeptVersion
version c = kept_version c.args.kind c.args.name c.args.version c.args.bounded

-- the subscription with it
abbrev after : (c : goal.After-hold) → SubscriptionParts
after c = record { node = c.self.inside.node; stream = c.self.inside.stream; versions = versions_in c.hold.new.versions.entries }

held : (c : goal.After-hold) → OnOk c.hold.result (Accepts (version c) c.args.self.now (after c))
held c =
    on_ok _ (Accepts (version c) c.args.self.now (after c)) c.hold.result
    (λ entries. record {
      others = λ i. record (c.self.view_is i) { versions = versions_in c.hold.new.versions.entries };
      held = λ k.
          ap (λ es. kept_of k (versions_in es)) entries
          ∙ (λ i. kept_of k (versions_in (insert_entry key_order c.self.inside.versions.entries (c.in_ok-key.ensures i) (record { version = c.in_ok-new.ensures.value i; bounded = c.args.bounded }))))
          ∙ held_more (named c.args.kind c.args.name) (record { version = c.args.version; bounded = c.args.bounded }) c.self.inside.versions.entries c.hold.ensures.ordered k
          ∙ (λ i. cond (kind_same k c.args.kind) (with_version (version c) (held_of (c.self.view_is i) c.args.kind)) (held_of (c.self.view_is i) k));
    }) c.hold.ensures.entries

pub returns-clause-held : goal.returns-clause-held
returns-clause-held c = held c

pub returns-clause-stands : goal.returns-clause-stands
returns-clause-stands c =
    on_ok _ ((world : World) → HasVersions c.args.self.now world → HasVersions (after c) (record world { versions = with_version (version c) world.versions })) c.hold.result
    (stands_with c.args.self.now (after c) (version c)) (held c)

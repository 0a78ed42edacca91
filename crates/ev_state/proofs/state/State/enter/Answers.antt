use Rattle.std.proofs.Common.{ℕ, List, ◌++◌, ◌∙◌, refl, sym, subst}
use Rattle.ev_types.specs.Items.{ResponseParts}
use Rattle.ev_model.specs.Rows.{with_removals, add_items, made_names, with_first}
use Rattle.ev_state.specs.InitTargets.{HaveBooted}
use Rattle.ev_model.specs.World.{World}
use Rattle.ev_state.specs.Changed.{dependents_of}
use Rattle.ev_state.specs.Retirements.{HaveRetired}
use Rattle.ev_state.proofs.TellLemmas.{entered-changed}
use Rattle.ev_state.proofs.TakeLemmas.{may_be_given, taken, taken_retired}
use Rattle.ev_state.proofs.state.State.enter.Goals as goal

pub respond-requires-clause-given : goal.respond-requires-clause-given
respond-requires-clause-given g c =
    may_be_given c.args.self.now.managers c.args.kind c.args.mentions.now c.args.verdicts.now g.here
    c.requires.1.0.follows.stands.managers c.requires.1.1.0 c.requires.1.1.1.1.1

pub returns-clause-follows : goal.returns-clause-follows
returns-clause-follows g c =
    taken c.args.self.now c.respond.new.self c.respond-2.new.self c.note_first.new.self c.args.kind c.args.mentions.now c.args.verdicts.now g.here
    c.requires.1.0.follows c.requires.1.1.0 c.requires.1.1.1.1.1
    (c.in_ok-retired.ensures.stands g.here c.requires.1.0.follows.stands.managers)
    (c.in_ok-respond.ensures g.here c.requires.1.0.follows.stands.subscription)
    (λ w boots. subst (λ (r : ResponseParts). HaveBooted c.note_first.new.self (with_first c.args.kind (made_names c.args.verdicts.now r.items) w))
    c.response-response.ensures (c.in_ok-note_first.ensures.stands w boots))

pub returns-clause-moved : goal.returns-clause-moved
returns-clause-moved g c =
    let after : World = with_first c.args.kind (made_names c.args.verdicts.now c.args.mentions.now.items)
    (add_items c.args.kind c.args.verdicts.now c.args.mentions.now.items (with_removals c.args.kind c.args.mentions.now g.here)) in
    let have : HaveRetired c.in_ok-retired.retired g.here after =
    taken_retired c.in_ok-retired.retired c.args.self.now.managers c.respond.new.self c.args.kind c.args.mentions.now c.args.verdicts.now g.here
    c.requires.1.0.follows.stands.managers
    (c.in_ok-retired.ensures.stands g.here c.requires.1.0.follows.stands.managers)
    c.in_ok-retired.ensures.retired in
    record {
      retired = subst (λ (ns : List ℕ). HaveRetired ns g.here after) (sym c.in_ok-moved.ensures.retired) have;
      changed = entered-changed c.in_ok-moved.moved.changed c.put_all_dependents.new.changed c.in_ok-retired.retired c.args.self.now.managers g.here after
          c.in_ok-moved.ensures.changed c.requires.1.0.follows.stands.managers have
          c.args.kind c.args.verdicts.now c.args.mentions.now (made_names c.args.verdicts.now c.args.mentions.now.items) refl
          (c.in_ok-put_all_dependents.ensures
          ∙ (λ i. c.new-changed.ensures.empty i ++ dependents_of c.args.self.now.managers.core.state c.args.kind (c.response-response.ensures i).items));
    }

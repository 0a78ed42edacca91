use Rattle.std.proofs.Common.{◌∙◌, sym, subst}
use Rattle.ev_types.specs.Texts.{IsName}
use Rattle.ev_model.specs.Watching.{Dependency}
use Rattle.ev_indexes.specs.Needs.{HaveNames}
use Rattle.ev_warming.specs.Arrivals.{WatchesNeeds}
use Rattle.ev_indexes.proofs.NeedLemmas.{each_needs, first-none}
use Rattle.ev_warming.proofs.StepLemmas.{named-first, watched-first, watched-none, watched-once}
use Rattle.ev_warming.proofs.changes.watch.Goals as goal

pub loop-need-init : goal.loop-need-init
loop-need-init c = record {
  watched = λ final rest. subst (WatchesNeeds c.args.watches.now final c.args.number) c.of-needs.ensures rest;
  named = λ rest. subst HaveNames c.of-needs.ensures rest;
}

pub loop-need-preserved : goal.loop-need-preserved
loop-need-preserved c =
    let e = c.in_ok-watch_need.ensures in
    let i = c.loop-need.invariant in
    let is = sym c.next.ensures.first ∙ c.in-Some.is in
    record {
      watched = λ final rest.
          i.watched final
          (watched-first c.loop-need.needs c.in-Some.need is c.loop-need.watches c.watch_need.new.watches final c.args.number e.watched
          (subst (WatchesNeeds c.watch_need.new.watches final c.args.number) c.next.ensures.rest rest));
      named = λ rest. i.named (named-first c.loop-need.needs c.in-Some.need is e.named (subst HaveNames c.next.ensures.rest rest));
    }

pub returns-clause-watched : goal.returns-clause-watched
returns-clause-watched c =
    watched-once c.args.content.now c.args.watches.now c.loop-need.watches c.args.number
    (c.loop-need.invariant.watched c.loop-need.watches (watched-none c.loop-need.needs (sym c.next.ensures.first ∙ c.in_default.is) c.loop-need.watches c.args.number))

pub returns-clause-named : goal.returns-clause-named
returns-clause-named c =
    each_needs (λ (d : Dependency). IsName d.name) c.args.content.now
    (c.loop-need.invariant.named (subst HaveNames (sym (first-none c.loop-need.needs (sym c.next.ensures.first ∙ c.in_default.is))) tt))

use Rattle.std.proofs.Common.{List, sym, ap, ◌∙◌, subst}
use Rattle.ev_retirement.specs.Holders.{HoldersParts, HoldsFor, timed_out, timeout_answer}
use Rattle.ev_retirement.proofs.HoldLemmas.{timeout_answers, timeout_leaves, timeout_stands}
use Rattle.ev_drain.specs.Retired.{Retired}
use Rattle.ev_retirement.specs.Asking.{AreAskedInOrder}
use Rattle.ev_retirement.specs.Closing.{AreFound}
use Rattle.ev_retirement.proofs.AskLemmas.{expired_kept, more_kept}
use Rattle.ev_retirement.proofs.FoundLemmas.{found_more, timeout_found}
use Rattle.ev_retirement.proofs.holders.Holders.drain_timeout.Goals as goal

pub returns-clause-answer : goal.returns-clause-answer
returns-clause-answer c world stands =
    let here : HoldsFor _ world = subst (λ (v : HoldersParts). HoldsFor v world) (sym c.self.view_is) stands in
    timeout_answers c.args.name.now world ∙ ap timeout_answer (sym (c.expire.ensures.answer_by_world world.rows world.expired here.retired))

pub returns-clause-machine : goal.returns-clause-machine
returns-clause-machine c world stands =
    let here : HoldsFor _ world = subst (λ (v : HoldersParts). HoldsFor v world) (sym c.self.view_is) stands in
    timeout_leaves c.args.name.now world ∙ ap (λ meant. timed_out meant c.args.name.now world) (sym (c.expire.ensures.answer_by_world world.rows world.expired here.retired))

pub returns-clause-world : goal.returns-clause-world
returns-clause-world c world stands =
    let here : HoldsFor _ world = subst (λ (v : HoldersParts). HoldsFor v world) (sym c.self.view_is) stands in
    timeout_stands c.args.name.now _ c.expire.new.self world here c.expire.ensures.marked (c.expire.ensures.world world.rows world.expired here.retired)

pub invariant_of-self : goal.invariant_of-self
invariant_of-self c = record {
  asked = more_kept c.self.inside.asking c.ask_each.new.self _ c.ask_each.ensures.more c.self.invariant.asked;
  found = c.self.invariant.found;
}

pub invariant_of-self-in_default-enter_on_each : goal.invariant_of-self-in_default-enter_on_each
invariant_of-self-in_default-enter_on_each c = record {
  asked = more_kept c.self.inside.asking c.ask_each.new.self _ c.ask_each.ensures.more c.self.invariant.asked;
  found = found_more c.self.inside.closing c.enter_on_each.new.closing c.self.inside.drain c.self.inside.drain c.self.inside.pictures.last.shown c.self.inside.ledger c.enter_on_each.ensures.more (λ n h. h) c.self.invariant.found;
}

pub invariant_of-self-2 : goal.invariant_of-self-2
invariant_of-self-2 c =
    let holders : HoldersParts = record { pictures = c.self.inside.pictures; ledger = c.self.inside.ledger; drain = c.self.inside.drain } in
    record {
      asked = subst (λ (drain : List Retired). AreAskedInOrder c.ask_each.new.self (record holders { drain = drain })) (sym c.expire.ensures.marked)
          (expired_kept c.args.name.now c.ask_each.new.self holders (λ n h. c.in-Ok.ensures.asked n (c.waiting-waiting.ensures.waiting n h))
          (more_kept c.self.inside.asking c.ask_each.new.self holders c.ask_each.ensures.more c.self.invariant.asked));
      found = subst (λ (drain : List Retired). AreFound c.enter_on_each.new.closing drain c.self.inside.pictures.last.shown c.self.inside.ledger) (sym c.expire.ensures.marked)
          (timeout_found c.args.name.now c.self.inside.closing c.enter_on_each.new.closing c.self.inside.drain c.self.inside.pictures.last.shown c.self.inside.ledger c.enter_on_each.ensures.more
          (λ n h worker connection here. c.in-Ok-enter_on_each.ensures.entered n (c.waiting-waiting.ensures.waiting n h) worker connection here) c.self.invariant.found);
    }

use Rattle.std.proofs.Common.{◌∙◌, ◌≤◌, ◌+◌, List, ℕ, Some, None, length, sym, subst}
use Rattle.ev_lookups.specs.Keys.{named}
use Rattle.ev_indexes.proofs.ReadLemmas.{limited-found, timeout-found, timeout-world}
use Rattle.ev_indexes.proofs.state.State.timeout_due.Goals as goal

pub returns-in-Some-clause-rows : goal.returns-in-Some-clause-rows
returns-in-Some-clause-rows g c = c.is_awaited.ensures.value ∙ timeout-found c.args.self.now c.requires.indexed (named c.args.kind c.args.name.now) (Some c.in-Some.watch.now) (sym c.in-Some.ensures)

pub returns-in-Some-clause-steps : goal.returns-in-Some-clause-steps
returns-in-Some-clause-steps g c =
    subst (λ (ns : List ℕ). c.is_awaited.new.steps ≤ c.args.steps.now + length ns)
    (limited-found c.args.self.now c.requires.indexed (named c.args.kind c.args.name.now) (Some c.in-Some.watch.now) (sym c.in-Some.ensures)) c.is_awaited.ensures.steps

pub returns-in-Some-clause-world : goal.returns-in-Some-clause-world
returns-in-Some-clause-world g c = λ world stands.
    c.is_awaited.ensures.value ∙ timeout-found c.args.self.now c.requires.indexed (named c.args.kind c.args.name.now) (Some c.in-Some.watch.now) (sym c.in-Some.ensures)
    ∙ timeout-world c.args.self.now world stands (named c.args.kind c.args.name.now)

pub returns-in-None-clause-rows : goal.returns-in-None-clause-rows
returns-in-None-clause-rows g c = timeout-found c.args.self.now c.requires.indexed (named c.args.kind c.args.name.now) None (sym c.in-None.ensures)

pub returns-in-None-clause-world : goal.returns-in-None-clause-world
returns-in-None-clause-world g c = λ world stands.
    timeout-found c.args.self.now c.requires.indexed (named c.args.kind c.args.name.now) None (sym c.in-None.ensures) ∙ timeout-world c.args.self.now world stands (named c.args.kind c.args.name.now)

use Rattle.std.proofs.Common.{◌∙◌, ◌++◌, List, [], ℕ, ap, sym, subst}
use Rattle.ev_chains.specs.Closing.{closed_by, left_open}
use Rattle.ev_model.specs.World.{OpenMember}
use Rattle.ev_chains.specs.Closing.{closed_all}
use Rattle.ev_chains.specs.Kept.{AreKept, draining_in}
use Rattle.ev_chains.specs.Steps.{drain, drained_by}
use Rattle.ev_chains.proofs.KeptLemmas.{closed_same, drain_same, left_same, placed_drain}
use Rattle.ev_chains.proofs.chains.Chains.drain.Goals as goal

pub invariant_of-self : goal.invariant_of-self
invariant_of-self c =
    let self = c.self.inside in
    let kept = c.self.invariant in
    let left_is =
    c.close_all.ensures ∙ ap (λ conns. closed_all conns self.ledger) c.as_slice.ensures.value
    ∙ c.in_ok-closed.ensures.left ∙ ap (λ busy. left_open busy 0 self.ledger) c.busy_numbers.ensures.keys in
    subst (λ (idle : List ℕ). AreKept self.made self.serving self.began.items idle c.end_all.new.self.busy.keys c.close_all.new.ledger) (sym c.end_all.ensures.idle)
    (subst (λ (busy : List ℕ). AreKept self.made self.serving self.began.items (self.draining.idle.items ++ self.draining.busy.keys) busy c.close_all.new.ledger) (sym c.end_all.ensures.busy)
    (subst (λ (opened : List OpenMember). AreKept self.made self.serving self.began.items (self.draining.idle.items ++ self.draining.busy.keys) [] opened) (sym left_is)
    (record {
      numbered = kept.numbered;
      placed = placed_drain self.began.items self.draining.idle.items self.draining.busy.keys self.ledger kept.placed c.busy_numbers.ensures.unique;
    })))

pub returns-clause-answer : goal.returns-clause-answer
returns-clause-answer c =
    let self = c.self.inside in
    c.in_ok-closed.ensures.conns ∙ ap (λ busy. closed_by busy 0 self.ledger) c.busy_numbers.ensures.keys
    ∙ closed_same self.began.items self.draining.idle.items self.draining.busy.keys self.ledger c.self.invariant.placed ∙ ap drained_by c.self.view_is

pub returns-clause-state : goal.returns-clause-state
returns-clause-state c =
    let self = c.self.inside in
    let kept = c.self.invariant in
    let left_is =
    c.close_all.ensures ∙ ap (λ conns. closed_all conns self.ledger) c.as_slice.ensures.value
    ∙ c.in_ok-closed.ensures.left ∙ ap (λ busy. left_open busy 0 self.ledger) c.busy_numbers.ensures.keys in
    let draining =
    (λ i. draining_in self.began.items (c.end_all.ensures.idle i) (c.end_all.ensures.busy i))
    ∙ drain_same self.began.items self.draining.idle.items self.draining.busy.keys self.ledger kept.placed in
    let left = left_is ∙ left_same self.began.items self.draining.idle.items self.draining.busy.keys self.ledger kept.placed in
    (λ i. record { made = self.made; serving = self.serving; draining = draining i; opened = left i }) ∙ ap drain c.self.view_is

use Rattle.std.proofs.Common.{◌∙◌, ap, sym, subst, List, [], ℕ}
use Rattle.ev_model.specs.Publishing.{ascending}
use Rattle.ev_chains.specs.Kept.{AreKept, draining_in}
use Rattle.ev_chains.specs.Steps.{reap, reaped_by}
use Rattle.ev_chains.proofs.KeptLemmas.{placed_reap, reap_same, reaped_same}
use Rattle.ev_chains.proofs.chains.Chains.reap.Goals as goal

pub invariant_of-self : goal.invariant_of-self
invariant_of-self c =
    let self = c.self.inside in
    let kept = c.self.invariant in
    subst (λ (idle : List ℕ). AreKept self.made self.serving self.began.items idle c.go.new.self.busy.keys self.ledger) (sym c.go.ensures.idle)
    (subst (λ (busy : List ℕ). AreKept self.made self.serving self.began.items [] busy self.ledger) (sym c.go.ensures.busy)
    (record {
      numbered = kept.numbered;
      placed = placed_reap self.began.items self.draining.idle.items self.draining.busy.keys self.ledger kept.placed;
    }))

pub returns-clause-answer : goal.returns-clause-answer
returns-clause-answer c =
    let self = c.self.inside in
    let kept = c.self.invariant in
    c.into_vec.ensures.elements ∙ c.in_ok-reaped.ensures ∙ ap ascending (c.in_ok-plain_numbers.ensures ∙ c.as_slice.ensures.value)
    ∙ reaped_same self.began.items self.draining.idle.items self.draining.busy.keys self.ledger kept.placed kept.numbered.apart
    ∙ ap reaped_by c.self.view_is

pub returns-clause-state : goal.returns-clause-state
returns-clause-state c =
    let self = c.self.inside in
    let left =
    (λ i. draining_in self.began.items (c.go.ensures.idle i) (c.go.ensures.busy i))
    ∙ reap_same self.began.items self.draining.idle.items self.draining.busy.keys self.ledger c.self.invariant.placed in
    (λ i. record { made = self.made; serving = self.serving; draining = left i; opened = self.ledger }) ∙ ap reap c.self.view_is

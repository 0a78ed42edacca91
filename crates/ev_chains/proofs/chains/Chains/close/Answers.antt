use Rattle.std.proofs.Common.{◌∙◌, ◌++◌, ◌∷◌, [], List, ℕ, cond, ap, sym, subst}
use Rattle.std.proofs.lemmas.Bool.{false≢true}
use Rattle.ev_model.specs.World.{OpenMember}
use Rattle.ev_ledger.proofs.PlaceLemmas.{closed_leaves}
use Rattle.ev_chains.specs.Kept.{AreKept, is_in}
use Rattle.ev_chains.specs.State.{has_open}
use Rattle.ev_chains.proofs.ConnLemmas.{same}
use Rattle.ev_chains.proofs.KeptLemmas.{is_at, left, placed_close, placed_end}
use Rattle.ev_chains.proofs.chains.Chains.close.Goals as goal

-- the last connection of its chain
pub invariant_of-self : goal.invariant_of-self
invariant_of-self c =
    let self = c.self.inside in
    let kept = c.self.invariant in
    let began = self.began.items in
    let idle = self.draining.idle.items in
    let busy = self.draining.busy.keys in
    let number = c.in-Some.on.listener in
    let left_is = c.close-was_open.ensures.closed ∙ closed_leaves 0 c.args.conn self.ledger in
    subst (λ (idle_then : List ℕ). AreKept self.made self.serving began idle_then c.end.new.self.busy.keys c.close-was_open.new.self) (sym c.end.ensures.idle)
    (subst (λ (opened : List OpenMember). AreKept self.made self.serving began (cond (is_in busy number) (idle ++ number ∷ []) idle) c.end.new.self.busy.keys opened) (sym left_is)
    (record {
      numbered = kept.numbered;
      placed = placed_end began idle busy self.ledger kept.placed c.args.conn c.on-on.ensures.apart c.in-Some.on (sym c.on-on.ensures.on ∙ c.in-Some.is)
          (ap (λ (ms : List OpenMember). has_open ms number) (sym left_is) ∙ sym c.has_open.ensures ∙ c.if-not-has_open.true) c.end.new.self.busy.keys c.end.ensures.busy;
    }))

-- one of several
pub invariant_of-self-else-not-has_open : goal.invariant_of-self-else-not-has_open
invariant_of-self-else-not-has_open c =
    let self = c.self.inside in
    let kept = c.self.invariant in
    let began = self.began.items in
    let idle = self.draining.idle.items in
    let busy = self.draining.busy.keys in
    let number = c.in-Some.on.listener in
    let left_is = c.close-was_open.ensures.closed ∙ closed_leaves 0 c.args.conn self.ledger in
    let on = sym c.on-on.ensures.on ∙ c.in-Some.is in
    subst (λ (opened : List OpenMember). AreKept self.made self.serving began idle busy opened) (sym left_is)
    (record {
      numbered = kept.numbered;
      placed = placed_close began idle busy self.ledger kept.placed c.args.conn c.on-on.ensures.apart busy (λ n has. has)
          (λ n at has.
          ap (has_open (left began idle busy self.ledger kept.placed c.args.conn c.on-on.ensures.apart)) (sym (same number n (ap (is_at n) (sym on) ∙ at)))
          ∙ ap (λ (ms : List OpenMember). has_open ms number) (sym left_is) ∙ sym c.has_open.ensures ∙ c.if-not-has_open.false);
    })

-- none
pub invariant_of-self-in_default : goal.invariant_of-self-in_default
invariant_of-self-in_default c =
    let self = c.self.inside in
    let kept = c.self.invariant in
    let began = self.began.items in
    let idle = self.draining.idle.items in
    let busy = self.draining.busy.keys in
    subst (λ (opened : List OpenMember). AreKept self.made self.serving began idle busy opened)
    (sym (c.close-was_open.ensures.closed ∙ closed_leaves 0 c.args.conn self.ledger))
    (record {
      numbered = kept.numbered;
      placed = placed_close began idle busy self.ledger kept.placed c.args.conn c.on-on.ensures.apart busy (λ n has. has)
          (λ n at has. absurd (false≢true (ap (is_at n) (sym (sym c.on-on.ensures.on ∙ c.in_default.is)) ∙ at)));
    })

use Rattle.std.proofs.Common.{◌∙◌, None, cond, nat_eq}
use Rattle.ev_indexes.specs.Results.{result_among}
use Rattle.std.proofs.lemmas.Option.{none-some}
use Rattle.ev_indexes.proofs.ResultLemmas.{changed, still_no_empty}
use Rattle.ev_indexes.proofs.results.Results.forget.Goals as goal

pub returns : goal.returns
returns c = λ n h.
    changed c.self.inside.results.entries c.swap_remove.new.self.entries c.number.result None (λ q. c.swap_remove.ensures.updates.0 q) n h
    ∙ (λ i. cond (nat_eq (c.number.ensures.number i) n) None (result_among (c.self.view_is i) n h))

pub invariant_of-self : goal.invariant_of-self
invariant_of-self c =
    still_no_empty c.self.inside.results.entries c.swap_remove.new.self.entries c.number.result None (λ q. c.swap_remove.ensures.updates.0 q)
    (λ m e. absurd (none-some m e)) c.self.invariant

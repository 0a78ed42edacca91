use Rattle.std.proofs.Common.{◌∙◌, sym, ap, Some, None, length}
use Rattle.ev_indexes.specs.Results.{hosts_among}
use Rattle.ev_indexes.proofs.ResultLemmas.{hosts_found}
use Rattle.ev_indexes.proofs.results.Results.count.Goals as goal

pub returns-in-Some : goal.returns-in-Some
returns-in-Some c =
    c.len.ensures.len
    ∙ ap length (sym (hosts_found c.self.inside.results.entries c.number.result (Some c.in-Some.hosts.now) (sym c.in-Some.ensures.value)))
    ∙ (λ i. length (hosts_among (c.self.view_is i) (c.number.ensures.number i)))

pub returns-in-None : goal.returns-in-None
returns-in-None c =
    ap length (sym (hosts_found c.self.inside.results.entries c.number.result None (sym c.in-None.ensures.value)))
    ∙ (λ i. length (hosts_among (c.self.view_is i) (c.number.ensures.number i)))

use Rattle.std.proofs.Common.{◌≡◌, ◌∙◌, sym, Some, None}
use Rattle.ev_indexes.specs.Results.{result_among}
use Rattle.ev_indexes.proofs.ResultLemmas.{found, inner}
use Rattle.ev_indexes.proofs.results.Results.result.Goals as goal

pub returns-in-Some : goal.returns-in-Some
returns-in-Some c =
    let e : c.copied.result ≡ inner (Some c.in-Some.hosts.now) c.args.host.now = cc in
    e ∙ sym (found c.self.inside.results.entries c.number.result (Some c.in-Some.hosts.now) (sym c.in-Some.ensures.value) c.args.host.now)
    ∙ (λ i. result_among (c.self.view_is i) (c.number.ensures.number i) c.args.host.now)

pub returns-in-None : goal.returns-in-None
returns-in-None c =
    sym (found c.self.inside.results.entries c.number.result None (sym c.in-None.ensures.value) c.args.host.now)
    ∙ (λ i. result_among (c.self.view_is i) (c.number.ensures.number i) c.args.host.now)

use Rattle.std.proofs.Common.{◌∙◌, sym}
use Rattle.ev_types.specs.FilterChains.{has_value}
use Rattle.ev_model.specs.declared.pictures.ServedChain.{ServedChain}
use Rattle.ev_chain_match.specs.Wanted.{is_left}
use Rattle.ev_chain_match.proofs.Left.{any_left}
use Rattle.ev_chain_match.proofs.criteria.Criteria.is_asked.Goals as goal

pub returns : goal.returns
returns g c =
    c.any_asks.ensures
    ∙ sym (any_left (λ (x : ServedChain). is_left c.args.self.now x.criteria)
    (λ (x : ServedChain). has_value g.V.Criterion.same (g.V.Criterion.values x.criteria) c.args.value.now) c.args.chains.now)

use Rattle.std.proofs.Common.{◌∙◌, sym}
use Rattle.ev_types.specs.FilterChains.{has_value}
use Rattle.ev_types.specs.Ips.{cidr_range_same}
use Rattle.ev_model.specs.declared.pictures.ServedChain.{ServedChain}
use Rattle.ev_chain_match.specs.RangeCriteria.{ranges_by}
use Rattle.ev_chain_match.specs.Wanted.{is_left}
use Rattle.ev_chain_match.proofs.Left.{any_left}
use Rattle.ev_chain_match.proofs.criteria.Criteria.is_range_asked.Goals as goal

pub returns : goal.returns
returns c =
    c.any_asks_for.ensures
    ∙ sym (any_left (λ (x : ServedChain). is_left c.args.self.now x.criteria)
    (λ (x : ServedChain). has_value cidr_range_same (ranges_by c.args.by x.criteria) c.args.range.now) c.args.chains.now)

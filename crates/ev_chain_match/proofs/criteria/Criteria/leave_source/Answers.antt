use Rattle.std.proofs.Common.{◌∙◌, sym}
use Rattle.ev_types.specs.FilterChains.{asks_source}
use Rattle.ev_model.specs.declared.pictures.ServedChain.{ServedChain}
use Rattle.ev_chain_match.specs.Wanted.{is_left}
use Rattle.ev_chain_match.proofs.Left.{any_left}
use Rattle.ev_chain_match.proofs.criteria.Criteria.leave_source.Goals as goal

pub returns : goal.returns
returns c =
    c.any_leaves_source.ensures
    ∙ sym (any_left (λ (x : ServedChain). is_left c.args.self.now x.criteria) (λ (x : ServedChain). asks_source x.criteria) c.args.chains.now)

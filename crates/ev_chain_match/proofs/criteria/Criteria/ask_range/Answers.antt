use Rattle.std.proofs.Common.{◌∙◌, sym}
use Rattle.ev_model.specs.declared.pictures.ServedChain.{ServedChain}
use Rattle.ev_chain_match.specs.Wanted.{asks_range, is_left}
use Rattle.ev_chain_match.proofs.Left.{any_left}
use Rattle.ev_chain_match.proofs.criteria.Criteria.ask_range.Goals as goal

pub returns : goal.returns
returns c =
    c.any_asks_range.ensures
    ∙ sym (any_left (λ (x : ServedChain). is_left c.args.self.now x.criteria) (λ (x : ServedChain). asks_range c.args.by x.criteria) c.args.chains.now)

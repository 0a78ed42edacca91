use Rattle.std.proofs.Common.{◌∙◌, sym}
use Rattle.ev_model.specs.declared.pictures.ServedChain.{ServedChain}
use Rattle.ev_chain_match.specs.Wanted.{is_left}
use Rattle.ev_listeners.proofs.Grouped.{first_found}
use Rattle.ev_chain_match.proofs.criteria.Criteria.first_left.Goals as goal

pub returns : goal.returns
returns c = c.find_left.ensures ∙ sym (first_found (λ (x : ServedChain). is_left c.args.self.now x.criteria) c.args.chains.now)

use Rattle.std.proofs.Common.{◌∙◌, sym, ap}
use Rattle.ev_types.specs.Ips.{ranges_about}
use Rattle.ev_chain_match.specs.Wanted.{left_by, wanted_of}
use Rattle.ev_chain_match.proofs.Brought.{no_range_found}
use Rattle.ev_chain_match.proofs.criteria.Criteria.range_wanted.Goals as goal

pub returns-in_default : goal.returns-in_default
returns-in_default c =
    ap wanted_of
    (sym (no_range_found c.args.by (left_by c.args.self.now c.args.chains.now) (ranges_about c.args.ip) (sym c.ask_range.ensures ∙ c.if-ask_range.false)))

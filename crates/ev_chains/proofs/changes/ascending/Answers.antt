use Rattle.std.proofs.Common.{◌∙◌}
use Rattle.ev_chains.proofs.ListLemmas.{sorted_ascending}
use Rattle.ev_chains.proofs.changes.ascending.Goals as goal

pub returns : goal.returns
returns c = c.from_vec.ensures.elements ∙ sorted_ascending c.args.numbers.items c.sort.new.self.items c.in_ok-sort.ensures.permutation c.in_ok-sort.ensures.sorted

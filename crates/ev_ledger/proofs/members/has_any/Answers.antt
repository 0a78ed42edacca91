use Rattle.std.proofs.Common.{◌∙◌}
use Rattle.std.specs.Map.Iter.{deref_pair}
use Rattle.ev_ledger.specs.Entries.{is_at_worker}
use Rattle.ev_ledger.proofs.EntryLemmas.{range_of_worker}
use Rattle.ev_ledger.proofs.HasLemmas.{first_there}
use Rattle.ev_ledger.proofs.members.has_any.Goals as goal

pub returns : goal.returns
returns c =
    c.is_some.ensures
    ∙ first_there deref_pair (is_at_worker c.args.worker) c.args.members.now.entries _ _ c.next.result
    (c.range.ensures.between tt ∙ range_of_worker c.args.worker c.args.members.now.entries) c.next.ensures.steps

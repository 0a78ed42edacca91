use Rattle.std.proofs.Common.{ap, ◌∙◌}
use Rattle.ev_ledger.specs.Members.{count_of}
use Rattle.ev_ledger.proofs.EntryLemmas.{count_members}
use Rattle.ev_ledger.proofs.PlaceLemmas.{count_in_order}
use Rattle.ev_ledger.proofs.ledger.Ledger.count.Goals as goal

of_members : goal.returns-clause-count
of_members c =
    c.count_in.ensures ∙ c.self.invariant.counted c.number.result ∙ count_members c.number.result c.self.inside.members.entries
    ∙ ap (count_of c.number.result) c.self.view_is ∙ ap (λ n. count_of n c.args.self.now) c.number.ensures.number

pub returns-clause-count : goal.returns-clause-count
returns-clause-count c = of_members c

pub returns-clause-world : goal.returns-clause-world
returns-clause-world c opened stands = of_members c ∙ ap (count_of c.args.number) stands ∙ count_in_order c.args.number opened

use Rattle.std.proofs.Common.{ap, ◌∙◌}
use Rattle.ev_model.specs.Connections.{is_open}
use Rattle.ev_ledger.proofs.EntryLemmas.{found_open}
use Rattle.ev_ledger.proofs.PlaceLemmas.{answer_stands}
use Rattle.ev_ledger.proofs.ledger.Ledger.is_open.Goals as goal

there : goal.returns-clause-answer
there c =
    c.is_there.ensures ∙ found_open c.args.worker c.args.conn c.self.inside.members.entries
    ∙ ap (λ ms. is_open ms c.args.worker c.args.conn) c.self.view_is

pub returns-clause-answer : goal.returns-clause-answer
returns-clause-answer c = there c

pub returns-clause-world : goal.returns-clause-world
returns-clause-world c opened stands = there c ∙ answer_stands c.args.worker c.args.conn c.args.self.now opened stands

use Rattle.std.proofs.Common.{ap, ◌∙◌}
use Rattle.std.specs.List.{list_any}
use Rattle.ev_ledger.specs.Members.{is_of_worker}
use Rattle.ev_ledger.proofs.HasLemmas.{any_members, any_stands}
use Rattle.ev_ledger.proofs.ledger.Ledger.has_any.Goals as goal

any_of : goal.returns-clause-any
any_of c = c.has_any.ensures ∙ any_members c.args.worker c.self.inside.members.entries ∙ ap (list_any (is_of_worker c.args.worker)) c.self.view_is

pub returns-clause-any : goal.returns-clause-any
returns-clause-any c = any_of c

pub returns-clause-world : goal.returns-clause-world
returns-clause-world c opened stands = any_of c ∙ any_stands c.args.worker c.args.self.now opened stands

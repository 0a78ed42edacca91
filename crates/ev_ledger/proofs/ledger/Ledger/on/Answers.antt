use Rattle.std.proofs.Common.{ap, ◌∙◌, subst}
use Rattle.ev_ledger.specs.Members.{AreApart, AreInOrder, on_in}
use Rattle.ev_ledger.proofs.EntryLemmas.{apart_members, found_on}
use Rattle.ev_ledger.proofs.IndexLemmas.{ordered_members}
use Rattle.ev_ledger.proofs.ledger.Ledger.on.Goals as goal

pub returns : goal.returns
returns c = record {
  on = c.found.ensures.found ∙ found_on c.args.worker c.args.conn c.self.inside.members.entries ∙ ap (on_in c.args.worker c.args.conn) c.self.view_is;
  ordered = subst AreInOrder c.self.view_is (ordered_members c.self.inside.members.entries c.found.ensures.ordered);
  apart = subst AreApart c.self.view_is (apart_members c.self.inside.members.entries c.found.ensures.ordered);
}

use Rattle.std.proofs.Common.{sym, ◌∙◌}
use Rattle.ev_expand.specs.Keys.{key_same}
use Rattle.ev_expand.proofs.SeenLemmas.{seen_place, seen_any, length-seen, found_place, found_within, found_none, found_some}
use Rattle.ev_expand.proofs.numbers.Numbers.find.Goals as goal

pub returns-clause-some : goal.returns-clause-some
returns-clause-some c = found_place _ _ _ _ c.get_index_of.ensures.index (seen_place (key_same c.args.key.now) c.args.self.now.firsts.entries)

pub returns-clause-within : goal.returns-clause-within
returns-clause-within c = found_within _ _ _ c.get_index_of.ensures.within (length-seen c.args.self.now.firsts.entries)

pub returns-clause-none : goal.returns-clause-none
returns-clause-none c = found_none _ _ (seen_any (key_same c.args.key.now) c.args.self.now.firsts.entries ∙ sym c.get_index_of.ensures.found)

pub returns-clause-found : goal.returns-clause-found
returns-clause-found c = found_some _ _ (seen_any (key_same c.args.key.now) c.args.self.now.firsts.entries ∙ sym c.get_index_of.ensures.found)

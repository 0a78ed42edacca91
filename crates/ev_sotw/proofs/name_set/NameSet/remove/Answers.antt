use Rattle.std.proofs.Common.{◌∙◌, ap}
use Rattle.ev_sotw.specs.Names.{without_name}
use Rattle.ev_sotw.proofs.NameSetLemmas.{keys-in_order, removed}
use Rattle.ev_sotw.proofs.name_set.NameSet.remove.Goals as goal

pub invariant_of-self : goal.invariant_of-self
invariant_of-self c = keys-in_order c.remove.new.self.keys c.remove.ensures.ordered

pub returns : goal.returns
returns c =
    removed c.args.name.now c.self.inside.names c.remove.new.self c.remove.ensures.updates c.remove.ensures.ordered c.self.invariant
    ∙ ap (without_name c.args.name.now) c.self.view_is

use Rattle.std.proofs.Common.{◌∙◌, sym}
use Rattle.ev_sotw.specs.Names.{without_name}
use Rattle.ev_sotw.proofs.NameSetLemmas.{other_none, without_next}
use Rattle.ev_sotw.proofs.name_set.NameSet.remove_all.Goals as goal

pub loop-name-init : goal.loop-name-init
loop-name-init c = sym (other_none c.args.self.now)

pub loop-name-preserved : goal.loop-name-preserved
loop-name-preserved c =
    c.remove.ensures ∙ (λ i. without_name (c.as_str.ensures.bytes i) (c.loop-name.invariant i))
    ∙ without_next c.args.names.now c.args.self.now c.loop-name.name-index c.name-item.result c.loop-name-test.true c.name-item.is

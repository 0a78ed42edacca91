use Rattle.std.proofs.Common.{◌∙◌, sym}
use Rattle.ev_sotw.specs.Names.{with_name}
use Rattle.ev_sotw.proofs.NameSetLemmas.{sorted_same, with_next}
use Rattle.ev_sotw.proofs.name_set.NameSet.insert_all.Goals as goal

pub loop-name-init : goal.loop-name-init
loop-name-init c = sym (sorted_same c.args.self.now c.keeps_order.ensures)

pub loop-name-preserved : goal.loop-name-preserved
loop-name-preserved c =
    c.in_ok-insert.ensures.ok ∙ (λ i. with_name (c.as_str.ensures.bytes i) (c.loop-name.invariant i))
    ∙ with_next c.args.names.now c.args.self.now c.loop-name.name-index c.name-item.result c.loop-name-test.true c.name-item.is

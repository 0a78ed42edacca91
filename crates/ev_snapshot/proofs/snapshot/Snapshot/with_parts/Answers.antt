use Rattle.std.proofs.Common.{sym, subst}
use Rattle.ev_model.specs.declared.pictures.ServedCluster.{ServedCluster}
use Rattle.ev_model.specs.declared.pictures.ServedListener.{ServedListener}
use Rattle.ev_layers.specs.Rows.{IsInOrder}
use Rattle.ev_snapshot.proofs.snapshot.Snapshot.with_parts.Goals as goal

pub invariant_of-result : goal.invariant_of-result
invariant_of-result c = record {
  clusters = subst (IsInOrder (λ (x : ServedCluster). x.number) (λ (x : ServedCluster). x.name)) (sym c.settle.ensures.clusters) c.requires.clusters;
  listeners = subst (IsInOrder (λ (x : ServedListener). x.number) (λ (x : ServedListener). x.name)) (sym c.settle.ensures.listeners) c.requires.listeners;
}

pub returns : goal.returns
returns c = λ i. record {
  version = c.args.version;
  shown = record { clusters = c.settle.ensures.clusters i; listeners = c.settle.ensures.listeners i };
}

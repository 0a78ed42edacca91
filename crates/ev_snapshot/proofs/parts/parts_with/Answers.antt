use Rattle.std.proofs.Common.{◌∙◌, ap}
use Rattle.ev_snapshot.specs.Changes.{clusters_with, listeners_with}
use Rattle.ev_snapshot.proofs.parts.parts_with.Goals as goal

pub returns-clause-clusters : goal.returns-clause-clusters
returns-clause-clusters c = c.in_ok-clusters.ensures ∙ ap (λ changes. clusters_with changes c.args.clusters.now) c.as_slice.ensures.elements

pub returns-clause-listeners : goal.returns-clause-listeners
returns-clause-listeners c = c.in_ok-listeners.ensures ∙ ap (λ changes. listeners_with changes c.args.listeners.now) c.as_slice-2.ensures.elements

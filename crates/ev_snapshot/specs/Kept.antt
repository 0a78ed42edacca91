-- Whether changes leave all clusters and listeners as they were. It is enough to look under each name that they touch.
use Rattle.std.specs.Prelude.{Bool, ◌&&◌, List, Option}
use Rattle.std.specs.List.{list_all}
use Rattle.ev_model.specs.Picture.{served_cluster_same, served_listener_same}
use Rattle.ev_model.specs.declared.pictures.ServedCluster.{ServedCluster}
use Rattle.ev_model.specs.declared.pictures.ServedListener.{ServedListener}
use Rattle.ev_layers.specs.Kept.{keeps, keeps_served}
use Rattle.ev_snapshot.specs.declared.changes.Changes.{Changes}
use Rattle.ev_snapshot.specs.declared.changes.ClusterChange.{ClusterChange}
use Rattle.ev_snapshot.specs.declared.changes.ListenerChange.{ListenerChange}

-- the same cluster has the names that what serves now touches
abbrev pub served_cluster_keeps : List ServedCluster → List ServedCluster → Option ServedCluster → Bool
served_cluster_keeps before after served =
    keeps_served (λ (c : ServedCluster). c.number) (λ (c : ServedCluster). c.name) served_cluster_same before after served

-- the same listener has the names that what serves now touches
abbrev pub served_listener_keeps : List ServedListener → List ServedListener → Option ServedListener → Bool
served_listener_keeps before after served =
    keeps_served (λ (l : ServedListener). l.number) (λ (l : ServedListener). l.name) served_listener_same before after served

-- the same clusters have the names that a change touches
abbrev pub clusters_keep : List ServedCluster → List ServedCluster → ClusterChange → Bool
clusters_keep before after change =
    keeps (λ (c : ServedCluster). c.number) (λ (c : ServedCluster). c.name) served_cluster_same before after change.number change.served

-- the same listeners have the names that a change touches
abbrev pub listeners_keep : List ServedListener → List ServedListener → ListenerChange → Bool
listeners_keep before after change =
    keeps (λ (l : ServedListener). l.number) (λ (l : ServedListener). l.name) served_listener_same before after change.number change.served

-- the same clusters and listeners have the names that changes touch
abbrev pub all_keep : List ServedCluster → List ServedListener → List ServedCluster → List ServedListener → Changes → Bool
all_keep clusters listeners clusters_after listeners_after changes =
    list_all (clusters_keep clusters clusters_after) changes.clusters && list_all (listeners_keep listeners listeners_after) changes.listeners

-- What a publication changes. It names the generations of which a picture shows something else than the last one; of
-- all others it shows the same. So a publication costs what it changes, and not what it shows.
use Rattle.std.specs.Prelude.{ℕ, ◌≡◌, ◌+◌, not, if◌then◌else◌, List, [], ◌∷◌, filter, map, Option, Some, None}
use Rattle.std.specs.Arc.{arc_value}
use Rattle.std.specs.declared.sync.Arc.{Arc}
use Rattle.std.specs.Option.{option_map}
use Rattle.ev_model.specs.Picture.{has_number, shown_same}
use Rattle.ev_model.specs.World.{nothing_shown}
use Rattle.ev_model.specs.declared.pictures.Picture.{Picture}
use Rattle.ev_model.specs.declared.pictures.ServedCluster.{ServedCluster}
use Rattle.ev_model.specs.declared.pictures.ServedListener.{ServedListener}
use Rattle.ev_model.specs.declared.pictures.Shown.{Shown}
use Rattle.ev_layers.specs.Rows.{IsInOrder, put_in}
use Rattle.ev_snapshot.specs.declared.changes.Changes.{Changes}
use Rattle.ev_snapshot.specs.declared.changes.ClusterChange.{ClusterChange}
use Rattle.ev_snapshot.specs.declared.changes.ListenerChange.{ListenerChange}

-- the elements without those of these numbers
abbrev pub without : {X : Type 0} → (X → ℕ) → List ℕ → List X → List X
without number numbers xs = filter (λ x. not (has_number (number x) numbers)) xs

-- the clusters with this one, if there is one
abbrev pub put_cluster : Option ServedCluster → List ServedCluster → List ServedCluster
put_cluster None clusters = clusters
put_cluster (Some cluster) clusters = put_in (λ (c : ServedCluster). c.number) (λ (c : ServedCluster). c.name) cluster clusters

-- the listeners with this one, if there is one
abbrev pub put_listener : Option ServedListener → List ServedListener → List ServedListener
put_listener None listeners = listeners
put_listener (Some listener) listeners = put_in (λ (l : ServedListener). l.number) (λ (l : ServedListener). l.name) listener listeners

-- the clusters with those that changed and serve now, one after the other
abbrev pub put_clusters : List ClusterChange → List ServedCluster → List ServedCluster
put_clusters [] clusters = clusters
put_clusters (change ∷ changes) clusters = put_clusters changes (put_cluster change.served clusters)

-- the listeners with those that changed and serve now, one after the other
abbrev pub put_listeners : List ListenerChange → List ServedListener → List ServedListener
put_listeners [] listeners = listeners
put_listeners (change ∷ changes) listeners = put_listeners changes (put_listener change.served listeners)

-- the clusters without those of the numbers that changed
abbrev pub clusters_without : List ClusterChange → List ServedCluster → List ServedCluster
clusters_without changes clusters =
    without (λ (c : ServedCluster). c.number) (map (λ (change : ClusterChange). change.number) changes) clusters

-- the listeners without those of the numbers that changed
abbrev pub listeners_without : List ListenerChange → List ServedListener → List ServedListener
listeners_without changes listeners =
    without (λ (l : ServedListener). l.number) (map (λ (change : ListenerChange). change.number) changes) listeners

-- the clusters after these changes: first the numbers that changed go, then those that serve now are put in
abbrev pub clusters_with : List ClusterChange → List ServedCluster → List ServedCluster
clusters_with changes clusters = put_clusters changes (clusters_without changes clusters)

-- the listeners after these changes: first the numbers that changed go, then those that serve now are put in
abbrev pub listeners_with : List ListenerChange → List ServedListener → List ServedListener
listeners_with changes listeners = put_listeners changes (listeners_without changes listeners)

-- what is shown after these changes
abbrev pub shown_with : Changes → Shown → Shown
shown_with changes shown = record {
  clusters = clusters_with changes.clusters shown.clusters;
  listeners = listeners_with changes.listeners shown.listeners;
}

-- the picture before the first
abbrev pub empty_picture : Picture
empty_picture = record { version = 0; shown = nothing_shown }

-- the next picture after these changes
abbrev pub next_picture : Changes → Picture → Picture
next_picture changes picture = record { version = picture.version + 1; shown = shown_with changes picture.shown }

-- the next picture, where it shows something else
abbrev pub picture_after : Changes → Picture → Option Picture
picture_after changes picture =
    if shown_same (shown_with changes picture.shown) picture.shown then None else Some (next_picture changes picture)

-- these changes of the picture make this next one of it, which is shared, or none
abbrev pub IsNext : {Z : Type 0} → Changes → Picture → Option (Arc Picture Z) → Type 0
IsNext changes picture next = option_map arc_value next ≡ picture_after changes picture

-- clusters and listeners are in the order of their names, and no number occurs twice
pub record IsOrdered (shown : Shown) : Type 0 where
  pub clusters : IsInOrder (λ (c : ServedCluster). c.number) (λ (c : ServedCluster). c.name) shown.clusters
  pub listeners : IsInOrder (λ (l : ServedListener). l.number) (λ (l : ServedListener). l.name) shown.listeners

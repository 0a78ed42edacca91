-- Changes go one after the other, and whether they leave all as it was shows under the names that they touch.
use Rattle.std.proofs.Common.{◌≡◌, ◌∙◌, ℕ, ◌+◌, ◌&&◌, Bool, true, false, cond, List, [], ◌∷◌, map, Option, Some, None, refl, sym, ap, subst}
use Rattle.std.specs.Cmp.{both_ways}
use Rattle.std.specs.List.{list_all}
use lib.Pointwise.{pointwise, pointwise_decides}
use Rattle.ev_model.specs.Picture.{served_cluster_same, served_cluster_decides, served_listener_same, served_listener_decides, shown_same}
use Rattle.ev_model.specs.declared.pictures.Picture.{Picture}
use Rattle.ev_model.specs.declared.pictures.ServedCluster.{ServedCluster}
use Rattle.ev_model.specs.declared.pictures.ServedListener.{ServedListener}
use Rattle.ev_model.specs.declared.pictures.Shown.{Shown}
use Rattle.ev_layers.specs.Rows.{IsInOrder}
use Rattle.ev_snapshot.specs.Changes.{IsOrdered, clusters_with, listeners_with, next_picture, picture_after, put_cluster, put_clusters, put_listener, put_listeners, shown_with, without}
use Rattle.ev_snapshot.specs.Kept.{clusters_keep, listeners_keep}
use Rattle.ev_snapshot.specs.declared.changes.Changes.{Changes}
use Rattle.ev_snapshot.specs.declared.changes.ClusterChange.{ClusterChange}
use Rattle.ev_snapshot.specs.declared.changes.ListenerChange.{ListenerChange}
use Rattle.ev_snapshot.proofs.Touched.{changes_keep_order, kept_all, kept_only, put_all, put_one}

-- ---- clusters
abbrev pub number : ServedCluster → ℕ
number c = c.number

abbrev pub name : ServedCluster → List ℕ
name c = c.name

abbrev pub changed : ClusterChange → ℕ
changed change = change.number

abbrev pub served : ClusterChange → Option ServedCluster
served change = change.served

pub clusters_put : (changes : List ClusterChange) (xs : List ServedCluster) → put_clusters changes xs ≡ put_all number name changed served changes xs
clusters_put [] xs = refl
clusters_put (c ∷ cs) xs = clusters_put cs (put_cluster c.served xs) ∙ ap (put_all number name changed served cs) (by c.served)
  where
    by : (s : Option ServedCluster) → put_cluster s xs ≡ put_one number name changed served s xs
    by None = refl
    by (Some x) = refl

pub clusters_order : (changes : List ClusterChange) (xs ys : List ServedCluster) → IsInOrder number name xs → ys ≡ clusters_with changes xs → IsInOrder number name ys
clusters_order changes xs ys o e =
    subst (IsInOrder number name) (sym (clusters_put changes (without number (map changed changes) xs)) ∙ sym e) (changes_keep_order number name changed served changes xs o)

clusters_same : (changes : List ClusterChange) (xs ys : List ServedCluster) → IsInOrder number name xs → ys ≡ clusters_with changes xs
    → pointwise served_cluster_same ys xs ≡ list_all (clusters_keep xs ys) changes
clusters_same changes xs ys o e =
    both_ways (pointwise served_cluster_same ys xs) (list_all (clusters_keep xs ys) changes)
    (λ h. kept_only number name changed served served_cluster_same served_cluster_decides xs ys changes ((pointwise_decides served_cluster_decides ys xs).0 h))
    (λ k. (pointwise_decides served_cluster_decides ys xs).1
    (kept_all number name changed served served_cluster_same served_cluster_decides xs ys changes o (clusters_order changes xs ys o e)
    (e ∙ clusters_put changes (without number (map changed changes) xs)) k))

-- ---- listeners
abbrev pub l_number : ServedListener → ℕ
l_number l = l.number

abbrev pub l_name : ServedListener → List ℕ
l_name l = l.name

abbrev pub l_changed : ListenerChange → ℕ
l_changed change = change.number

abbrev pub l_served : ListenerChange → Option ServedListener
l_served change = change.served

pub listeners_put : (changes : List ListenerChange) (xs : List ServedListener) → put_listeners changes xs ≡ put_all l_number l_name l_changed l_served changes xs
listeners_put [] xs = refl
listeners_put (c ∷ cs) xs = listeners_put cs (put_listener c.served xs) ∙ ap (put_all l_number l_name l_changed l_served cs) (by c.served)
  where
    by : (s : Option ServedListener) → put_listener s xs ≡ put_one l_number l_name l_changed l_served s xs
    by None = refl
    by (Some x) = refl

pub listeners_order : (changes : List ListenerChange) (xs ys : List ServedListener) → IsInOrder l_number l_name xs → ys ≡ listeners_with changes xs → IsInOrder l_number l_name ys
listeners_order changes xs ys o e =
    subst (IsInOrder l_number l_name) (sym (listeners_put changes (without l_number (map l_changed changes) xs)) ∙ sym e) (changes_keep_order l_number l_name l_changed l_served changes xs o)

listeners_same : (changes : List ListenerChange) (xs ys : List ServedListener) → IsInOrder l_number l_name xs → ys ≡ listeners_with changes xs
    → pointwise served_listener_same ys xs ≡ list_all (listeners_keep xs ys) changes
listeners_same changes xs ys o e =
    both_ways (pointwise served_listener_same ys xs) (list_all (listeners_keep xs ys) changes)
    (λ h. kept_only l_number l_name l_changed l_served served_listener_same served_listener_decides xs ys changes ((pointwise_decides served_listener_decides ys xs).0 h))
    (λ k. (pointwise_decides served_listener_decides ys xs).1
    (kept_all l_number l_name l_changed l_served served_listener_same served_listener_decides xs ys changes o (listeners_order changes xs ys o e)
    (e ∙ listeners_put changes (without l_number (map l_changed changes) xs)) k))

-- ---- both
pub all_same : (changes : Changes) (shown : Shown) (clusters : List ServedCluster) (listeners : List ServedListener) → IsOrdered shown
    → clusters ≡ clusters_with changes.clusters shown.clusters → listeners ≡ listeners_with changes.listeners shown.listeners
    → shown_same (shown_with changes shown) shown ≡ (list_all (clusters_keep shown.clusters clusters) changes.clusters && list_all (listeners_keep shown.listeners listeners) changes.listeners)
all_same changes shown clusters listeners o c l =
    (λ i. shown_same (record { clusters = sym c i; listeners = sym l i }) shown)
    ∙ (λ i. clusters_same changes.clusters shown.clusters clusters o.clusters c i && listeners_same changes.listeners shown.listeners listeners o.listeners l i)

pub order_stays : (changes : Changes) (shown : Shown) (clusters : List ServedCluster) (listeners : List ServedListener) → IsOrdered shown
    → clusters ≡ clusters_with changes.clusters shown.clusters → listeners ≡ listeners_with changes.listeners shown.listeners
    → IsOrdered (record { clusters = clusters; listeners = listeners })
order_stays changes shown clusters listeners o c l = record {
  clusters = clusters_order changes.clusters shown.clusters clusters o.clusters c;
  listeners = listeners_order changes.listeners shown.listeners listeners o.listeners l;
}

-- ---- the next picture
pub next_none : (changes : Changes) (picture : Picture) (clusters : List ServedCluster) (listeners : List ServedListener) (kept : Bool) → IsOrdered picture.shown
    → clusters ≡ clusters_with changes.clusters picture.shown.clusters → listeners ≡ listeners_with changes.listeners picture.shown.listeners
    → kept ≡ (list_all (clusters_keep picture.shown.clusters clusters) changes.clusters && list_all (listeners_keep picture.shown.listeners listeners) changes.listeners)
    → kept ≡ true → None ≡ picture_after changes picture
next_none changes picture clusters listeners kept o c l is e =
    λ i. cond ((sym e ∙ is ∙ sym (all_same changes picture.shown clusters listeners o c l)) i) None (Some (next_picture changes picture))

pub next_some : (changes : Changes) (picture : Picture) (clusters : List ServedCluster) (listeners : List ServedListener) (kept : Bool) (new : Picture) → IsOrdered picture.shown
    → clusters ≡ clusters_with changes.clusters picture.shown.clusters → listeners ≡ listeners_with changes.listeners picture.shown.listeners
    → kept ≡ (list_all (clusters_keep picture.shown.clusters clusters) changes.clusters && list_all (listeners_keep picture.shown.listeners listeners) changes.listeners)
    → kept ≡ false → new.version ≡ picture.version + 1 → new.shown.clusters ≡ clusters → new.shown.listeners ≡ listeners
    → Some new ≡ picture_after changes picture
next_some changes picture clusters listeners kept new o c l is e v cs ls =
    let next : new ≡ next_picture changes picture = λ i. record { version = v i; shown = record { clusters = (cs ∙ c) i; listeners = (ls ∙ l) i } } in
    ap Some next ∙ (λ i. cond ((sym e ∙ is ∙ sym (all_same changes picture.shown clusters listeners o c l)) i) None (Some (next_picture changes picture)))

-- Keys: what is guarded. Guarded items of equal keys have one number. The text of a body and the secrets that a
-- cluster waits for are no part of a key, so two bodies that differ only there share one.
use Rattle.std.specs.Prelude.{◌≡◌, ℕ, Bool, ◌&&◌, List, ◌++◌, [], None}
use Rattle.std.specs.Bool.{Decides}
use Rattle.std.specs.List.{flat_map}
use Rattle.std.specs.Hash as fed
use Rattle.std.specs.Str.{bytes_eq}
use Rattle.std.proofs.Common.{ap}
use lib.Pointwise.{pointwise, pointwise_decides}
use Rattle.ev_types.specs.Hosts.{HostRowParts}
use Rattle.ev_types.specs.Same.{both_decide, decides_as, bytes_decide}
use Rattle.ev_types.specs.SameHosts.{host_hash_input}
use Rattle.ev_types.specs.SameClusters.{cluster_same, cluster_decides}
use Rattle.ev_types.specs.declared.clusters.Cluster.{Cluster}
use Rattle.ev_types.specs.declared.clusters.Discovery.{Discovery}
use Rattle.ev_types.specs.declared.clusters.Discovery.TheVariants.{Static, Eds, Elsewhere}
use Rattle.ev_expand.specs.declared.keys.Key.{Key}

-- the cluster without the text of its body and without its secrets
abbrev pub typed_cluster : Cluster → Cluster
typed_cluster cluster = record cluster { secrets = []; secrets_by_match = None; body_text = [] }

-- the key of a cluster that refers to these names
abbrev pub key_with : Cluster → List (List ℕ) → Key
key_with cluster names = record { cluster = typed_cluster cluster; names = names }

-- the same cluster, its name included, and the same names in the same order
abbrev pub key_same : Key → Key → Bool
key_same a b = cluster_same a.cluster b.cluster && pointwise bytes_eq a.names b.names

pub key_decides : (a b : Key) → Decides (key_same a b) (a ≡ b)
key_decides a b = decides_as
    (both_decide (cluster_decides a.cluster b.cluster) (pointwise_decides bytes_decide a.names b.names))
    (λ p. λ i. record { cluster = p.0 i; names = p.1 i })
    (λ e. (ap (λ (k : Key). k.cluster) e, ap (λ (k : Key). k.names) e))

-- what a hasher is fed of a host with its weight, of a discovery, and of a key
abbrev pub row_hash_input : HostRowParts → fed.HashWrites
row_hash_input row = host_hash_input row.host ++ (fed.u32 row.weight ++ (fed.u8 row.priority ++ fed.bool row.usable))

abbrev pub discovery_hash_input : Discovery → fed.HashWrites
discovery_hash_input (Static rows) = flat_map row_hash_input rows
discovery_hash_input (Eds service limited fresh) = fed.str service ++ fed.bool limited
discovery_hash_input Elsewhere = []

abbrev pub key_hash_input : Key → fed.HashWrites
key_hash_input key =
    fed.str key.cluster.name ++ (discovery_hash_input key.cluster.discovery ++ (fed.bool key.cluster.checked ++ flat_map fed.str key.names))

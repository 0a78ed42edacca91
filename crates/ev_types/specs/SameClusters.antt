-- When clusters are equal.
use Rattle.std.specs.Prelude.{Bool, true, false, ◌≡◌, ◌&&◌, refl}
use Rattle.std.specs.Bool.{Decides}
use Rattle.std.specs.Option.{option_eq}
use Rattle.std.specs.Str.{bytes_eq}
use Rattle.std.proofs.Common.{ap}
use Rattle.ev_types.specs.declared.clusters.Cluster.{Cluster}
use Rattle.ev_types.specs.declared.clusters.Discovery.{Discovery}
use Rattle.ev_types.specs.declared.clusters.Discovery.TheVariants.{Static, Eds, Elsewhere}
use Rattle.ev_types.specs.Same.{bool_same, bool_decides, both_decide, decides_as, bytes_decide, option_decides}
use Rattle.ev_types.specs.SameHosts.{rows_same, rows_decide}
use Rattle.ev_types.specs.SameReferences.{references_same, references_decide}

-- the same assignment, or the same service with the same marks
abbrev pub discovery_same : Discovery → Discovery → Bool
discovery_same (Static a) (Static b) = rows_same a b
discovery_same (Eds service limited fresh) (Eds service' limited' fresh') =
    bytes_eq service service' && bool_same limited limited' && bool_same fresh fresh'
discovery_same Elsewhere Elsewhere = true
discovery_same a b = false

-- the same name, discovery, health checking, secrets and text of the body
abbrev pub cluster_same : Cluster → Cluster → Bool
cluster_same a b =
    bytes_eq a.name b.name
    && discovery_same a.discovery b.discovery
    && bool_same a.checked b.checked
    && references_same a.secrets b.secrets
    && option_eq references_same a.secrets_by_match b.secrets_by_match
    && bytes_eq a.body_text b.body_text

pub discovery_decides : (a b : Discovery) → Decides (discovery_same a b) (a ≡ b)
discovery_decides (Static a) (Static b) = decides_as (rows_decide a b) (λ e. ap Static e) (λ e. cc)
discovery_decides (Eds service limited fresh) (Eds service' limited' fresh') =
    decides_as (both_decide (both_decide (bytes_decide service service') (bool_decides limited limited')) (bool_decides fresh fresh'))
    (λ p. λ i. Eds (p.0.0 i) (p.0.1 i) (p.1 i)) (λ e. ((cc, cc), cc))
discovery_decides Elsewhere Elsewhere = (λ h. refl, λ e. refl)
discovery_decides a b = (λ h. cc, λ e. cc)

pub cluster_decides : (a b : Cluster) → Decides (cluster_same a b) (a ≡ b)
cluster_decides a b = decides_as
    (both_decide (both_decide (both_decide (both_decide (both_decide
    (bytes_decide a.name b.name)
    (discovery_decides a.discovery b.discovery))
    (bool_decides a.checked b.checked))
    (references_decide a.secrets b.secrets))
    (option_decides references_decide a.secrets_by_match b.secrets_by_match))
    (bytes_decide a.body_text b.body_text))
    (λ p. λ i. record {
      name = p.0.0.0.0.0 i;
      discovery = p.0.0.0.0.1 i;
      checked = p.0.0.0.1 i;
      secrets = p.0.0.1 i;
      secrets_by_match = p.0.1 i;
      body_text = p.1 i;
    })
    (λ e. (
      (
        (
          ((ap (λ (c : Cluster). c.name) e, ap (λ (c : Cluster). c.discovery) e), ap (λ (c : Cluster). c.checked) e),
          ap (λ (c : Cluster). c.secrets) e,
        ),
        ap (λ (c : Cluster). c.secrets_by_match) e,
      ),
      ap (λ (c : Cluster). c.body_text) e,
    ))

-- Templates are of their keys' clusters.
use Rattle.std.proofs.Common.{◌≡◌, inr, Bool, true, false, not, ◌&&◌, cond, [], Some, None, refl, sym, ap}
use Rattle.std.proofs.lemmas.Bool.{false≢true}
use Rattle.serde_json.specs.Data.{Data}
use Rattle.ev_types.specs.declared.clusters.Cluster.{Cluster}
use Rattle.ev_types.specs.declared.contents.Content.TheVariants.{Cluster as a_cluster}
use Rattle.ev_types.specs.declared.contents.Body.{Body}
use Rattle.ev_types.specs.declared.contents.Body.TheVariants.{Good, Bad, Beat}
use Rattle.ev_types.specs.declared.events.Profile.{Profile}
use Rattle.ev_model_laws.proofs.OperationLists.{IsIn, any_at}
use Rattle.ev_cluster_json.specs.Clusters.{has_custom_type}
use Rattle.ev_expand.specs.declared.keys.Key.{Key}
use Rattle.ev_expand.specs.Guarding.{Guarded, body_in, clusters_in, guarded_in}
use Rattle.ev_expand.specs.Keys.{key_decides, key_same, key_with, typed_cluster}
use Rattle.ev_expand.specs.Waiting.{GuardsClusters, IsClusterWith}
use Rattle.ev_expand.proofs.GuardLemmas.{guarded_there}
use Rattle.ev_expand.proofs.ListLemmas.{some_same}
use Rattle.ev_dns.specs.Resolving.{has_guarded}
use Rattle.ev_dns.specs.Templates.{body_key, by_names, has_sockets, is_strict_dns, is_template, read_static, static_body}

-- ---- templates

-- the body is the cluster of the key, but for its secrets and the text of the body
record IsOfKey (body : Body) (key : Key) : Type 0 where
  own : Cluster
  is : body ≡ Good (a_cluster own)
  same : typed_cluster own ≡ key.cluster

key_cluster : (body : Body) (key : Key) → body_key body ≡ Some key → IsOfKey body key
key_cluster (Good (a_cluster cluster)) key h =
    let same : key_with cluster [] ≡ key = some_same h in
    record { own = cluster; is = refl; same = ap (λ (k : Key). k.cluster) same }
key_cluster (Good content) key h = absurd (cc)
key_cluster (Bad rule) key h = absurd (cc)
key_cluster Beat key h = absurd (cc)

-- the body is a template's, and is read as the cluster of the key
record IsTemplateOf (template : Bool) (body : Body) (key : Key) : Type 0 where
  template_is : template ≡ true
  of : IsOfKey body key

template_body : (b : Bool) (body : Body) (key : Key) → cond b (body_key body) None ≡ Some key → IsTemplateOf b body key
template_body true body key h = record { template_is = refl; of = key_cluster body key h }
template_body false body key h = absurd (cc)

-- a template has no custom type
no_custom : (strict custom sockets : Bool) → (strict && not custom && sockets) ≡ true → custom ≡ false
no_custom true true sockets h = sym h
no_custom true false sockets h = refl
no_custom false custom sockets h = absurd (false≢true h)

-- a template is with the type STATIC the cluster of its key, but for its secrets and the text of its body
pub template_reads : (profile : Profile) (entry : Data) (key : Key) → (by_names profile).key_of entry ≡ Some key → IsClusterWith profile entry key.cluster (static_body (body_in entry))
template_reads profile entry key is =
    let of : IsOfKey (read_static profile entry) key = (template_body (is_template (body_in entry)) (read_static profile entry) key is).of in
    record { own = of.own; reads = of.is; same = of.same }

pub guards_clusters : (profile : Profile) → GuardsClusters (by_names profile)
guards_clusters profile entry key is = record {
  typed = no_custom (is_strict_dns (body_in entry)) (has_custom_type (body_in entry)) (has_sockets (body_in entry))
      (template_body (is_template (body_in entry)) (read_static profile entry) key is).template_is;
  reads = inr (template_reads profile entry key is);
}

-- ---- lines

-- a line with a guarded resource of a key has it
pub line_guards : (profile : Profile) (line entry : Data) (key : Key) → IsIn entry (clusters_in profile line) → (by_names profile).key_of entry ≡ Some key → has_guarded profile line key ≡ true
line_guards profile line entry key is h =
    any_at (λ (g : Guarded). key_same key g.key) (record { key = key; own = (by_names profile).own_of entry }) (guarded_in (by_names profile) line) (guarded_there (by_names profile) line entry key is h)
    ((key_decides key key).1 refl)

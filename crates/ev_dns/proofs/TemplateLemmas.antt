-- The key of a template, by the rules that its resource breaks by itself and by its cluster.
use Rattle.std.proofs.Common.{◌≡◌, ℕ, Bool, true, false, cond, ◌||◌, List, [], Option, Some, None, is_some, Result, Ok, Err, refl, ap, ◌∙◌}
use Rattle.serde_json.specs.Data.{Data, null}
use Rattle.ev_types.specs.declared.clusters.Cluster.{Cluster}
use Rattle.ev_types.specs.declared.contents.Kind.TheVariants.{Cds}
use Rattle.ev_types.specs.declared.contents.Content.{Content}
use Rattle.ev_types.specs.declared.contents.Content.TheVariants.{Cluster as a_cluster}
use Rattle.ev_types.specs.declared.contents.Body.TheVariants.{Bad}
use Rattle.ev_types.specs.declared.events.Profile.{Profile}
use Rattle.ev_tree.specs.declared.outcome.Found.{Found}
use Rattle.ev_tree.specs.declared.span.Span.{Span}
use Rattle.ev_tree.specs.Broken.{none_broken, least_of}
use Rattle.ev_tree.specs.Forms.{is_wrong, enumeration_of, field_of}
use Rattle.ev_tree.specs.Spelling.{camel_of}
use Rattle.ev_tree.specs.Spans.{is_not_positive}
use Rattle.ev_cluster_json.specs.Clusters.{cluster_reading, type_of}
use Rattle.ev_wire.specs.Bodies.{breaks_v1, breaks_v2, breaks_v3, own_broken, content_of, content_with, body_with, resource_of}
use Rattle.ev_expand.specs.declared.keys.Key.{Key}
use Rattle.ev_expand.specs.Keys.{key_with}
use Rattle.ev_dns.specs.Templates.{body_key, is_template}

-- the rules of a resource itself
least_own : (v1 v2 v3 v6 v25 : Bool) → is_some (least_of (record none_broken { v1 = v1; v2 = v2; v3 = v3; v6 = v6; v25 = v25 })) ≡ (v1 || v2 || v3 || v6 || v25)
least_own true v2 v3 v6 v25 = refl
least_own false true v3 v6 v25 = refl
least_own false false true v6 v25 = refl
least_own false false false true v25 = refl
least_own false false false false true = refl
least_own false false false false false = refl

-- the key of what is read as a cluster, or isn't
abbrev pub read_key : Result Cluster ℕ → Option Key
read_key (Ok cluster) = Some (key_with cluster [])
read_key (Err rule) = None

bad_key : (least : Option ℕ) (content : Result Content ℕ) → is_some least ≡ true → body_key (body_with least content) ≡ None
bad_key None content h = absurd (cc)
bad_key (Some rule) (Ok content) h = refl
bad_key (Some rule) (Err other) h = refl

-- the key is none where the resource breaks a rule by itself
pub broken_key : (profile : Profile) (name : List ℕ) (ttl : Found Span) (body : Data) → (breaks_v1 Cds body || breaks_v2 name || breaks_v3 Cds name body || is_wrong ttl || is_not_positive ttl) ≡ true
    → body_key (resource_of profile Cds name ttl body) ≡ None
unfolding resource_of
broken_key profile name ttl body h = by (breaks_v1 Cds body) refl
  where
    by : (b : Bool) → breaks_v1 Cds body ≡ b → body_key (cond b (Bad 1) (body_with (least_of (own_broken Cds name ttl body)) (content_of profile Cds body))) ≡ None
    by true is = refl
    by false is =
        bad_key (least_of (own_broken Cds name ttl body)) (content_of profile Cds body)
        (least_own (breaks_v1 Cds body) (breaks_v2 name) (breaks_v3 Cds name body) (is_wrong ttl) (is_not_positive ttl) ∙ h)

good_key : (least : Option ℕ) (reading : Result Cluster ℕ) → is_some least ≡ false → body_key (body_with least (content_with a_cluster reading)) ≡ read_key reading
good_key None (Ok cluster) h = refl
good_key None (Err rule) h = refl
good_key (Some rule) reading h = absurd (cc)

none_first : (a b c d e : Bool) → (a || b || c || d || e) ≡ false → a ≡ false
none_first true b c d e h = absurd (cc)
none_first false b c d e h = refl

-- else it is that of the cluster, where this is good
pub whole_key : (profile : Profile) (name : List ℕ) (ttl : Found Span) (body : Data) → (breaks_v1 Cds body || breaks_v2 name || breaks_v3 Cds name body || is_wrong ttl || is_not_positive ttl) ≡ false
    → body_key (resource_of profile Cds name ttl body) ≡ read_key (cluster_reading profile body)
unfolding resource_of content_of
whole_key profile name ttl body h =
    ap (λ (b : Bool). body_key (cond b (Bad 1) (body_with (least_of (own_broken Cds name ttl body)) (content_of profile Cds body)))) (none_first (breaks_v1 Cds body) (breaks_v2 name) (breaks_v3 Cds name body) (is_wrong ttl) (is_not_positive ttl) h)
    ∙ good_key (least_of (own_broken Cds name ttl body)) (cluster_reading profile body)
    (least_own (breaks_v1 Cds body) (breaks_v2 name) (breaks_v3 Cds name body) (is_wrong ttl) (is_not_positive ttl) ∙ h)

-- what isn't there is no template
pub no_template : is_template null ≡ false
unfolding type_of enumeration_of field_of camel_of
no_template = refl

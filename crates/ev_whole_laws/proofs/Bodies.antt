-- Bodies of the items of a response.
use Rattle.std.proofs.Common.{◌≡◌, ◌∙◌, ap}
use Rattle.std.specs.Prelude.{ℕ, ◌&&◌, List, [], not, if◌then◌else◌, codes}
use Rattle.std.specs.Str.{bytes_eq}
use Rattle.serde_json.specs.Data.{Data}
use Rattle.ev_types.specs.declared.events.Profile.{Profile}
use Rattle.ev_types.specs.declared.contents.Kind.{Kind}
use Rattle.ev_types.specs.declared.contents.Kind.TheVariants.{Cds, Eds, Lds, Rds, Sds, Ecds}
use Rattle.ev_types.specs.declared.contents.Content.TheVariants.{Cluster, Assignment, Listener, Routes, Secret, Extension}
use Rattle.ev_types.specs.declared.contents.Body.{Body}
use Rattle.ev_types.specs.declared.contents.Body.TheVariants.{Bad, Beat}
use Rattle.ev_tree.specs.declared.outcome.Found.{Found}
use Rattle.ev_tree.specs.declared.span.Span.{Span}
use Rattle.ev_tree.specs.Forms.{is_wrong, given_or, inside}
use Rattle.ev_tree.specs.Spans.{is_not_positive}
use Rattle.ev_tree.specs.Rules.{is_name}
use Rattle.ev_tree.specs.Broken.{none_broken, least_of}
use Rattle.ev_types.specs.Kinds.{type_url}
use Rattle.ev_wire.specs.Kinds.{name_field}
use Rattle.ev_wire.specs.Bodies.{is_positive, is_heartbeat, is_of_type, breaks_v1, breaks_v2, differs, breaks_v3, own_broken, content_with, content_of, body_with, resource_of, body_of}
use Rattle.ev_tree.specs.Floats.{whole}
use Rattle.ev_whole_laws.proofs.Assignments.{assignment_reading-whole}
use Rattle.ev_whole_laws.proofs.Clusters.{cluster_reading-whole}
use Rattle.ev_whole_laws.proofs.Forms.{is_object-whole, text_of-whole}
use Rattle.ev_whole_laws.proofs.Listeners.{listener_reading-whole}
use Rattle.ev_whole_laws.proofs.Parts.{inside-map, is_absent-map}
use Rattle.ev_whole_laws.proofs.Secrets.{secret_reading-whole, extension_reading-whole}
use Rattle.ev_whole_laws.proofs.Tables.{table_reading-whole}
use Rattle.ev_tree.specs.Forms.{found_map}

pub is_of_type-whole : (kind : Kind) (body : Data) → is_of_type kind (whole body) ≡ is_of_type kind body
unfolding is_of_type
is_of_type-whole kind body = λ i. is_object-whole body i && bytes_eq (given_or [] (text_of-whole (codes "@type") body i)) (type_url kind)

pub breaks_v1-whole : (kind : Kind) (body : Data) → breaks_v1 kind (whole body) ≡ breaks_v1 kind body
breaks_v1-whole kind body = λ i. not (is_of_type-whole kind body i)

pub breaks_v3-whole : (kind : Kind) (name : List ℕ) (body : Data) → breaks_v3 kind name (whole body) ≡ breaks_v3 kind name body
unfolding breaks_v3
breaks_v3-whole kind name body = λ i. differs name (text_of-whole (name_field kind) body i)

pub own_broken-whole : (kind : Kind) (name : List ℕ) (ttl : Found Span) (body : Data) → own_broken kind name ttl (whole body) ≡ own_broken kind name ttl body
own_broken-whole kind name ttl body = λ i. record none_broken {
  v1 = breaks_v1-whole kind body i;
  v2 = breaks_v2 name;
  v3 = breaks_v3-whole kind name body i;
  v6 = is_wrong ttl;
  v25 = is_not_positive ttl;
}

pub content_of-whole : (profile : Profile) (kind : Kind) (body : Data) → content_of profile kind (whole body) ≡ content_of profile kind body
unfolding content_of
content_of-whole profile Cds body = λ i. content_with Cluster (cluster_reading-whole profile body i)
content_of-whole profile Eds body = λ i. content_with Assignment (assignment_reading-whole profile body i)
content_of-whole profile Lds body = λ i. content_with Listener (listener_reading-whole profile body i)
content_of-whole profile Rds body = λ i. content_with Routes (table_reading-whole profile body i)
content_of-whole profile Sds body = λ i. content_with (λ good. Secret) (secret_reading-whole body i)
content_of-whole profile Ecds body = λ i. content_with (λ good. Extension) (extension_reading-whole body i)

pub resource_of-whole : (profile : Profile) (kind : Kind) (name : List ℕ) (ttl : Found Span) (body : Data) → resource_of profile kind name ttl (whole body) ≡ resource_of profile kind name ttl body
unfolding resource_of
resource_of-whole profile kind name ttl body = λ i. if breaks_v1-whole kind body i then Bad 1 else body_with (least_of (own_broken-whole kind name ttl body i)) (content_of-whole profile kind body i)

pub body_of-whole : (profile : Profile) (kind : Kind) (name : List ℕ) (ttl : Found Span) (resource : Found Data) → body_of profile kind name ttl (found_map whole resource) ≡ body_of profile kind name ttl resource
unfolding body_of
body_of-whole profile kind name ttl resource =
    (λ i. if is_absent-map whole resource i && is_positive ttl && is_name name then Beat else resource_of profile kind name ttl (inside-map resource i))
    ∙ ap (λ (body : Body). if is_heartbeat name ttl resource then Beat else body) (resource_of-whole profile kind name ttl (inside resource))

-- Bodies of the items of a response: the content, or the least form rule that is broken, or a heartbeat. Each rule is
-- a fact by itself.
use Rattle.std.specs.Prelude.{ℕ, ◌&&◌, List, [], Bool, true, false, not, min, if◌then◌else◌, Option, Some, None, Result, Ok, Err, codes}
use Rattle.std.specs.Str.{bytes_eq}
use Rattle.serde_json.specs.Data.{Data}
use Rattle.ev_types.specs.declared.events.Profile.{Profile}
use Rattle.ev_types.specs.declared.contents.Kind.{Kind}
use Rattle.ev_types.specs.declared.contents.Kind.TheVariants.{Cds, Eds, Lds, Rds, Sds, Ecds}
use Rattle.ev_types.specs.Kinds.{type_url}
use Rattle.ev_types.specs.declared.contents.Content.{Content}
use Rattle.ev_types.specs.declared.contents.Content.TheVariants.{Cluster, Assignment, Listener, Routes, Secret, Extension}
use Rattle.ev_types.specs.declared.contents.Body.{Body}
use Rattle.ev_types.specs.declared.contents.Body.TheVariants.{Good, Bad, Beat}
use Rattle.ev_tree.specs.declared.outcome.Found.{Found}
use Rattle.ev_tree.specs.declared.outcome.Found.TheVariants.{Absent, Wrong, Given}
use Rattle.ev_tree.specs.declared.span.Span.{Span}
use Rattle.ev_tree.specs.declared.span.Span.TheVariants.{Positive}
use Rattle.ev_tree.specs.declared.broken.BrokenRules.{BrokenRules}
use Rattle.ev_tree.specs.Forms.{is_object, is_absent, is_wrong, given_or, inside, text_of}
use Rattle.ev_tree.specs.Spans.{is_not_positive}
use Rattle.ev_tree.specs.Rules.{is_name}
use Rattle.ev_tree.specs.Broken.{none_broken, either_broken, least_of}
use Rattle.ev_cluster_json.specs.Clusters.{cluster_reading, cluster_broken}
use Rattle.ev_cluster_json.specs.Assignments.{assignment_reading, assignment_broken}
use Rattle.ev_route_json.specs.Tables.{table_reading, table_broken}
use Rattle.ev_listener_json.specs.Listeners.{listener_reading, listener_broken}
use Rattle.ev_secret_json.specs.Resources.{secret_reading, secret_broken, extension_reading, config_broken}
use Rattle.ev_wire.specs.Kinds.{name_field}

-- ---- heartbeats

-- a time to live is given, and is positive
abbrev pub is_positive : Found Span → Bool
is_positive (Given Positive) = true
is_positive ttl = false

-- a heartbeat: no body, a positive time to live, and a name of 1 to 512 bytes
abbrev pub is_heartbeat : List ℕ → Found Span → Found Data → Bool
is_heartbeat name ttl resource = is_absent resource && is_positive ttl && is_name name

-- ---- the rules of an item that is no heartbeat

-- an object whose `@type` is that of the kind
unfoldable pub is_of_type : Kind → Data → Bool
is_of_type kind body = is_object body && bytes_eq (given_or [] (text_of (codes "@type") body)) (type_url kind)

-- V1: the body is absent or isn't an object, or its `@type` isn't the type of the response
abbrev pub breaks_v1 : Kind → Data → Bool
breaks_v1 kind body = not (is_of_type kind body)

-- V2: the outer name is empty or has more than 512 bytes
abbrev pub breaks_v2 : List ℕ → Bool
breaks_v2 name = not (is_name name)

-- another text than the name, which an absent one is for all but the empty name. A wrong form breaks V6 alone.
abbrev pub differs : List ℕ → Found (List ℕ) → Bool
differs name Absent = not (bytes_eq [] name)
differs name Wrong = false
differs name (Given inner) = not (bytes_eq inner name)

-- V3: the outer and the inner name differ
unfoldable pub breaks_v3 : Kind → List ℕ → Data → Bool
breaks_v3 kind name body = differs name (text_of (name_field kind) body)

-- What an item that is no heartbeat breaks by itself, whatever its content. V6: the time to live has a wrong form.
-- V25: it is given, and isn't positive.
abbrev pub own_broken : Kind → List ℕ → Found Span → Data → BrokenRules
own_broken kind name ttl body = record none_broken {
  v1 = breaks_v1 kind body;
  v2 = breaks_v2 name;
  v3 = breaks_v3 kind name body;
  v6 = is_wrong ttl;
  v25 = is_not_positive ttl;
}

-- what the body reads as, by the reader of its type
abbrev pub content_with : {A : Type 0} → (A → Content) → Result A ℕ → Result Content ℕ
content_with content (Ok value) = Ok (content value)
content_with content (Err rule) = Err rule

unfoldable pub content_of : Profile → Kind → Data → Result Content ℕ
content_of profile Cds body = content_with Cluster (cluster_reading profile body)
content_of profile Eds body = content_with Assignment (assignment_reading profile body)
content_of profile Lds body = content_with Listener (listener_reading profile body)
content_of profile Rds body = content_with Routes (table_reading profile body)
content_of profile Sds body = content_with (λ good. Secret) (secret_reading body)
content_of profile Ecds body = content_with (λ good. Extension) (extension_reading body)

-- the content, where no rule is broken, and otherwise the least of those that are:
-- by the item itself, and by its content
abbrev pub body_with : Option ℕ → Result Content ℕ → Body
body_with None (Ok content) = Good content
body_with None (Err rule) = Bad rule
body_with (Some rule) (Ok content) = Bad rule
body_with (Some rule) (Err other) = Bad (min rule other)

-- The body of an item that is no heartbeat. What isn't a resource of the type is looked at no further: no rule is
-- less than V1.
unfoldable pub resource_of : Profile → Kind → List ℕ → Found Span → Data → Body
resource_of profile kind name ttl body =
    if breaks_v1 kind body then Bad 1
    else body_with (least_of (own_broken kind name ttl body)) (content_of profile kind body)

-- the body of an item of this name and time to live
unfoldable pub body_of : Profile → Kind → List ℕ → Found Span → Found Data → Body
body_of profile kind name ttl resource =
    if is_heartbeat name ttl resource then Beat else resource_of profile kind name ttl (inside resource)

-- ---- all form rules, of which the least refuses

-- what the reader of the type finds broken
abbrev pub content_broken : Profile → Kind → Data → BrokenRules
content_broken profile Cds body = cluster_broken profile body
content_broken profile Eds body = assignment_broken profile body
content_broken profile Lds body = listener_broken profile body
content_broken profile Rds body = table_broken profile body
content_broken profile Sds body = secret_broken body
content_broken profile Ecds body = config_broken body

-- what an item breaks: a heartbeat nothing
abbrev pub item_broken : Profile → Kind → List ℕ → Found Span → Found Data → BrokenRules
item_broken profile kind name ttl resource =
    if is_heartbeat name ttl resource then none_broken
    else either_broken (own_broken kind name ttl (inside resource)) (content_broken profile kind (inside resource))

-- the rule that refuses a body
abbrev pub rule_in : Body → Option ℕ
rule_in (Good content) = None
rule_in (Bad rule) = Some rule
rule_in Beat = None

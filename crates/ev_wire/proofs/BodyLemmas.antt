-- A good body has the content of its kind, and an outer name that is a name and its own.
use Rattle.std.proofs.Common.{◌≡◌, ℕ, List, [], Bool, true, false, not, if◌then◌else◌, refl, ◌&&◌, ◌||◌, ◌∙◌, sym, ap, subst, Option, Some, None, Result, Ok, Err, codes, length, nat_le}
use Rattle.std.specs.Str.{bytes_eq}
use Rattle.std.proofs.lemmas.Slice.Eq.{bytes_eq-Decides}
use Rattle.std.proofs.lemmas.Bool.{leb-true}
use denote.Ref.{Bor}
use Rattle.serde_json.specs.Data.{Data}
use Rattle.serde_json.specs.declared.value.Value.{Value}
use Rattle.ev_types.specs.Texts.{IsName}
use Rattle.ev_types.specs.Items.{IsOwnName, IsBeating, IsBodyOf, content_kind}
use Rattle.ev_types.specs.declared.events.Profile.{Profile}
use Rattle.ev_types.specs.declared.events.Profile.TheVariants.{Own, Envoy}
use Rattle.ev_types.specs.declared.contents.Kind.{Kind}
use Rattle.ev_types.specs.declared.contents.Kind.TheVariants.{Cds, Eds, Lds, Rds, Sds, Ecds}
use Rattle.ev_types.specs.declared.clusters.Cluster.{Cluster as ClusterParts}
use Rattle.ev_types.specs.declared.listeners.Listener.{Listener as ListenerParts}
use Rattle.ev_types.specs.declared.contents.Content.{Content}
use Rattle.ev_types.specs.declared.contents.Content.TheVariants.{Cluster, Assignment, Listener, Routes, Secret, Extension}
use Rattle.ev_types.specs.declared.contents.Body.{Body}
use Rattle.ev_types.specs.declared.contents.Body.TheVariants.{Good, Bad, Beat}
use Rattle.ev_tree.specs.declared.outcome.Found.{Found}
use Rattle.ev_tree.specs.declared.outcome.Found.TheVariants.{Absent, Wrong, Given}
use Rattle.ev_tree.specs.declared.span.Span.{Span}
use Rattle.ev_tree.specs.Forms.{given_or, inside, is_absent, is_wrong, text_of, tree_of}
use Rattle.ev_tree.specs.Rules.{judged, is_name}
use Rattle.ev_tree.specs.declared.broken.BrokenRules.{BrokenRules}
use Rattle.ev_tree.specs.Broken.{either_broken, least_of}
use Rattle.ev_tree.proofs.Unions.{least_none}
use Rattle.ev_cluster_json.specs.Clusters.{cluster_reading, cluster_of, cluster_broken, cluster_own_broken, name_of}
use Rattle.ev_cluster_json.specs.Assignments.{assignment_reading}
use Rattle.ev_route_json.specs.Tables.{table_reading}
use Rattle.ev_secret_json.specs.Resources.{secret_reading, extension_reading}
use Rattle.ev_listener_json.specs.Listeners.{listener_reading, listener_of, listener_broken, own_listener_broken, envoy_self_broken, envoy_listener_broken, listener_name, listens_by_udp}
use Rattle.ev_listener_json.specs.ListenerFilters.{listener_extensions, redirection_broken}
use Rattle.ev_listener_json.specs.Chains.{envoy_chains_broken}
use Rattle.ev_wire.specs.Kinds.{name_field}
use Rattle.ev_wire.specs.Bodies.{is_positive, is_heartbeat, is_of_type, breaks_v3, own_broken, differs, resource_of, body_of, body_with, content_of, content_with}

-- no body is of no type
pub no_body : (profile : Profile) (kind : Kind) (name : List ℕ) (ttl : Found Span) (body : Option (Bor Value)) → body ≡ None → Bad 1 ≡ resource_of profile kind name ttl (tree_of body)
unfolding resource_of is_of_type
no_body profile kind name ttl body e = let P : Option (Bor Value) → Type 0 = λ b. Bad 1 ≡ resource_of profile kind name ttl (tree_of b) in subst P (sym e) refl

-- ---- tests

and_first : (a b : Bool) → (a && b) ≡ true → a ≡ true
and_first true b h = refl
and_first false b h = h

and_second : (a b : Bool) → (a && b) ≡ true → b ≡ true
and_second true b h = h
and_second false b h = cc

or_first : (a b : Bool) → (a || b) ≡ false → a ≡ false
or_first true b h = h
or_first false b h = refl

or_second : (a b : Bool) → (a || b) ≡ false → b ≡ false
or_second true b h = cc
or_second false b h = h

not_false : (a : Bool) → not a ≡ false → a ≡ true
not_false true h = refl
not_false false h = cc

same_bytes : (a b : List ℕ) → not (bytes_eq a b) ≡ false → a ≡ b
same_bytes a b h = (bytes_eq-Decides a b).0 (not_false (bytes_eq a b) h)

named : (name : List ℕ) → is_name name ≡ true → IsName name
named name is =
    record {
      given = leb-true 1 (length name) (and_first (nat_le 1 (length name)) (nat_le (length name) 512) is);
      short = leb-true (length name) 512 (and_second (nat_le 1 (length name)) (nat_le (length name) 512) is);
    }

-- ---- readings

judged_ok : {A : Type 0} (rule : Option ℕ) (value a : A) → judged rule value ≡ Ok a → (rule ≡ None) × (value ≡ a)
judged_ok None value a h = (refl, ok_injective value a h)
  where
    ok_injective : {A : Type 0} (x y : A) → judged None x ≡ Ok y → x ≡ y
    ok_injective x y e = cc
judged_ok (Some rule) value a h = cc

content_with_ok : {A : Type 0} (content : A → Content) (reading : Result A ℕ) (c : Content) → content_with content reading ≡ Ok c
    → (a : A) × (reading ≡ Ok a) × (content a ≡ c)
content_with_ok content (Ok a) c h = (a, refl, cc)
content_with_ok content (Err n) c h = cc

-- ---- good content is of its kind

content_with-kind : {A : Type 0} (kind : Kind) (content : A → Content) → ((a : A) → content_kind (content a) ≡ kind) → (reading : Result A ℕ)
    → (rule : Option ℕ) → IsBodyOf kind (body_with rule (content_with content reading))
content_with-kind kind content each (Ok a) None = each a
content_with-kind kind content each (Ok a) (Some rule) = tt
content_with-kind kind content each (Err n) None = tt
content_with-kind kind content each (Err n) (Some rule) = tt

content_of-kind : (profile : Profile) (kind : Kind) (body : Data) (rule : Option ℕ) → IsBodyOf kind (body_with rule (content_of profile kind body))
unfolding content_of
content_of-kind profile Cds body rule = content_with-kind Cds Cluster (λ _. refl) (cluster_reading profile body) rule
content_of-kind profile Eds body rule = content_with-kind Eds Assignment (λ _. refl) (assignment_reading profile body) rule
content_of-kind profile Lds body rule = content_with-kind Lds Listener (λ _. refl) (listener_reading profile body) rule
content_of-kind profile Rds body rule = content_with-kind Rds Routes (λ _. refl) (table_reading profile body) rule
content_of-kind profile Sds body rule = content_with-kind Sds (λ good. Secret) (λ _. refl) (secret_reading body) rule
content_of-kind profile Ecds body rule = content_with-kind Ecds (λ good. Extension) (λ _. refl) (extension_reading body) rule

-- what holds of both branches holds of the choice
of_choice : (P : Body → Type 0) (b : Bool) (x y : Body) → P x → P y → P (if b then x else y)
of_choice P true x y h k = h
of_choice P false x y h k = k

-- a good body has the content of its kind
pub body_of-kind : (profile : Profile) (kind : Kind) (name : List ℕ) (ttl : Found Span) (resource : Found Data) → IsBodyOf kind (body_of profile kind name ttl resource)
unfolding body_of resource_of
body_of-kind profile kind name ttl resource =
    of_choice (IsBodyOf kind) (is_heartbeat name ttl resource) Beat _ tt
    (of_choice (IsBodyOf kind) (not (is_of_type kind (inside resource))) (Bad 1) _ tt (content_of-kind profile kind (inside resource) _))

-- ---- the outer name of a good body is a name, and its own

-- no other name, in a right form: the name
own_text : (name : List ℕ) (found : Found (List ℕ)) → differs name found ≡ false → is_wrong found ≡ false → given_or [] found ≡ name
own_text name Absent same right = same_bytes [] name same
own_text name Wrong same right = cc
own_text name (Given inner) same right = same_bytes inner name same

-- a cluster that breaks no rule has a name of the right form
cluster_named : (profile : Profile) (body : Data) → least_of (cluster_broken profile body) ≡ None → is_wrong (text_of (codes "name") body) ≡ false
unfolding cluster_broken cluster_own_broken
cluster_named profile body h =
    or_first _ _ (or_first _ _ (or_first _ _ (or_first _ _ (or_first _ _ (ap (λ (b : BrokenRules). b.v6) (least_none (cluster_broken profile body) h))))))

cluster_own : (profile : Profile) (name : List ℕ) (body : Data) → differs name (text_of (codes "name") body) ≡ false → (cluster : ClusterParts) → cluster_reading profile body ≡ Ok cluster
    → cluster.name ≡ name
unfolding name_of
cluster_own profile name body same cluster h =
    let fair = judged_ok (least_of (cluster_broken profile body)) (cluster_of profile body) cluster h in
    ap (λ (c : ClusterParts). c.name) (sym fair.1) ∙ own_text name (text_of (codes "name") body) same (cluster_named profile body fair.0)

-- the same of a listener
last_sound : (a b c d : BrokenRules) → (either_broken a (either_broken b (either_broken c d))).v6 ≡ false → d.v6 ≡ false
last_sound a b c d h = or_second c.v6 d.v6 (or_second b.v6 (c.v6 || d.v6) (or_second a.v6 (b.v6 || (c.v6 || d.v6)) h))

self_named : (body : Data) → (envoy_self_broken body).v6 ≡ false → is_wrong (text_of (codes "name") body) ≡ false
unfolding envoy_self_broken
self_named body h = or_first _ _ (or_first _ _ (or_first _ _ h))

own_named : (body : Data) → (own_listener_broken body).v6 ≡ false → is_wrong (text_of (codes "name") body) ≡ false
unfolding own_listener_broken
own_named body h = or_first _ _ (or_first _ _ (or_first _ _ (or_first _ _ (or_second _ _ h))))

listener_named : (profile : Profile) (body : Data) → least_of (listener_broken profile body) ≡ None → is_wrong (text_of (codes "name") body) ≡ false
listener_named Own body h = own_named body (ap (λ (b : BrokenRules). b.v6) (least_none (own_listener_broken body) h))
listener_named Envoy body h =
    self_named body (last_sound (envoy_chains_broken (listens_by_udp body) body) (redirection_broken body) (listener_extensions body).broken (envoy_self_broken body)
    (ap (λ (b : BrokenRules). b.v6) (least_none (envoy_listener_broken body) h)))

-- its name is the one that is read
named_as_read : (profile : Profile) (body : Data) → (listener_of profile body).name ≡ listener_name body
named_as_read Own body = refl
named_as_read Envoy body = refl

listener_own : (profile : Profile) (name : List ℕ) (body : Data) → differs name (text_of (codes "name") body) ≡ false → (listener : ListenerParts) → listener_reading profile body ≡ Ok listener
    → listener.name ≡ name
unfolding listener_name
listener_own profile name body same listener h =
    let fair = judged_ok (least_of (listener_broken profile body)) (listener_of profile body) listener h in
    ap (λ (l : ListenerParts). l.name) (sym fair.1) ∙ named_as_read profile body ∙ own_text name (text_of (codes "name") body) same (listener_named profile body fair.0)

content_of-own_name : (profile : Profile) (kind : Kind) (name : List ℕ) (body : Data) → IsName name → differs name (text_of (name_field kind) body) ≡ false
    → (c : Content) → content_of profile kind body ≡ Ok c → IsOwnName name (Good c)
unfolding content_of
content_of-own_name profile Cds name body is same c h =
    let read = content_with_ok Cluster (cluster_reading profile body) c h in
    let P : Content → Type 0 = λ c. IsOwnName name (Good c) in
    subst P read.2 (is, cluster_own profile name body same read.0 read.1)
content_of-own_name profile Eds name body is same c h =
    let read = content_with_ok Assignment (assignment_reading profile body) c h in
    let P : Content → Type 0 = λ c. IsOwnName name (Good c) in
    subst P read.2 is
content_of-own_name profile Lds name body is same c h =
    let read = content_with_ok Listener (listener_reading profile body) c h in
    let P : Content → Type 0 = λ c. IsOwnName name (Good c) in
    subst P read.2 (is, listener_own profile name body same read.0 read.1)
content_of-own_name profile Rds name body is same c h =
    let read = content_with_ok Routes (table_reading profile body) c h in
    let P : Content → Type 0 = λ c. IsOwnName name (Good c) in
    subst P read.2 is
content_of-own_name profile Sds name body is same c h =
    let read = content_with_ok (λ good. Secret) (secret_reading body) c h in
    let P : Content → Type 0 = λ c. IsOwnName name (Good c) in
    subst P read.2 is
content_of-own_name profile Ecds name body is same c h =
    let read = content_with_ok (λ good. Extension) (extension_reading body) c h in
    let P : Content → Type 0 = λ c. IsOwnName name (Good c) in
    subst P read.2 is

body_with-own_name : (name : List ℕ) (rule : Option ℕ) (content : Result Content ℕ)
    → (rule ≡ None → (c : Content) → content ≡ Ok c → IsOwnName name (Good c)) → IsOwnName name (body_with rule content)
body_with-own_name name None (Ok c) own = own refl c refl
body_with-own_name name None (Err n) own = tt
body_with-own_name name (Some rule) (Ok c) own = tt
body_with-own_name name (Some rule) (Err n) own = tt

names_kept : (profile : Profile) (kind : Kind) (name : List ℕ) (ttl : Found Span) (body : Data) → least_of (own_broken kind name ttl body) ≡ None
    → (c : Content) → content_of profile kind body ≡ Ok c → IsOwnName name (Good c)
unfolding breaks_v3
names_kept profile kind name ttl body h c e =
    let fair = least_none (own_broken kind name ttl body) h in
    content_of-own_name profile kind name body (named name (not_false (is_name name) (ap (λ (b : BrokenRules). b.v2) fair))) (ap (λ (b : BrokenRules). b.v3) fair) c e

-- ---- a heartbeat

-- what holds of both branches of a choice, where the test is known in each
of_test : (P : Body → Type 0) (b : Bool) (x y : Body) → (b ≡ true → P x) → P y → P (if b then x else y)
of_test P true x y h k = h refl
of_test P false x y h k = k

heartbeat_named : (name : List ℕ) (ttl : Found Span) (resource : Found Data) → is_heartbeat name ttl resource ≡ true → IsName name
heartbeat_named name ttl resource h = named name (and_second (is_absent resource && is_positive ttl) (is_name name) h)

heartbeat_bounded : (name : List ℕ) (ttl : Found Span) (resource : Found Data) → is_heartbeat name ttl resource ≡ true → is_positive ttl ≡ true
heartbeat_bounded name ttl resource h =
    and_second (is_absent resource) (is_positive ttl) (and_first (is_absent resource && is_positive ttl) (is_name name) h)

-- the outer name of a good body or a heartbeat is a name, and the cluster's or listener's own
pub body_of-own_name : (profile : Profile) (kind : Kind) (name : List ℕ) (ttl : Found Span) (resource : Found Data) → IsOwnName name (body_of profile kind name ttl resource)
unfolding body_of resource_of
body_of-own_name profile kind name ttl resource =
    of_test (IsOwnName name) (is_heartbeat name ttl resource) Beat _ (heartbeat_named name ttl resource)
    (of_choice (IsOwnName name) (not (is_of_type kind (inside resource))) (Bad 1) _ tt
    (body_with-own_name name (least_of (own_broken kind name ttl (inside resource))) (content_of profile kind (inside resource))
    (names_kept profile kind name ttl (inside resource))))

body_with-beating : (ttl : Bool) (rule : Option ℕ) (content : Result Content ℕ) → IsBeating ttl (body_with rule content)
body_with-beating ttl None (Ok c) = tt
body_with-beating ttl None (Err n) = tt
body_with-beating ttl (Some rule) (Ok c) = tt
body_with-beating ttl (Some rule) (Err n) = tt

-- a heartbeat has a time to live
pub body_of-beating : (profile : Profile) (kind : Kind) (name : List ℕ) (ttl : Found Span) (resource : Found Data) → IsBeating (is_positive ttl) (body_of profile kind name ttl resource)
unfolding body_of resource_of
body_of-beating profile kind name ttl resource =
    of_test (IsBeating (is_positive ttl)) (is_heartbeat name ttl resource) Beat _ (heartbeat_bounded name ttl resource)
    (of_choice (IsBeating (is_positive ttl)) (not (is_of_type kind (inside resource))) (Bad 1) _ tt (body_with-beating (is_positive ttl) _ _))

-- What makes a generation that depends on endpoints is a response of clusters, by a cluster that asks for them.
use Rattle.std.proofs.Common.{◌≡◌, ◌∙◌, inl, inr, ℕ, Bool, true, false, cond, not, ◌&&◌, ◌⊎◌, List, [], ◌∷◌, ◌++◌, flat_map, Option, Some, None, codes, refl, sym, ap, subst}
use Rattle.std.specs.Prelude.{Result, Ok, Err}
use Rattle.std.specs.List.{list_any, zip}
use Rattle.std.specs.Str.{bytes_eq}
use Rattle.std.proofs.lemmas.Bool.{false≢true}
use Rattle.serde_json.specs.Data.{Data}
use Rattle.ev_types.specs.Items.{ItemParts, ResponseParts}
use Rattle.ev_types.specs.Same.{bytes_decide}
use Rattle.ev_types.specs.declared.clusters.Cluster.{Cluster}
use Rattle.ev_types.specs.declared.clusters.Discovery.{Discovery}
use Rattle.ev_types.specs.declared.clusters.Discovery.TheVariants.{Static, Eds as by_name, Elsewhere}
use Rattle.ev_types.specs.declared.contents.Kind.{Kind}
use Rattle.ev_types.specs.declared.contents.Kind.TheVariants.{Cds, Eds, Lds, Rds, Sds, Ecds}
use Rattle.ev_types.specs.declared.contents.Content.{Content}
use Rattle.ev_types.specs.declared.contents.Content.TheVariants.{Cluster as a_cluster, Assignment as an_assignment, Listener as a_listener, Routes as routes, Secret as a_secret, Extension as an_extension}
use Rattle.ev_types.specs.declared.contents.Body.{Body}
use Rattle.ev_types.specs.declared.contents.Body.TheVariants.{Good, Bad, Beat}
use Rattle.ev_types.specs.declared.events.Answer.{Answer}
use Rattle.ev_types.specs.declared.events.Answer.TheVariants.{Replied}
use Rattle.ev_types.specs.declared.events.Event.{Event}
use Rattle.ev_types.specs.declared.events.Event.TheVariants.{Response}
use Rattle.ev_types.specs.declared.events.Verdict.{Verdict}
use Rattle.ev_types.specs.declared.events.Verdict.TheVariants.{New, InPlace}
use Rattle.ev_types.specs.declared.listeners.Serve.{Serve}
use Rattle.ev_types.specs.declared.listeners.Serve.TheVariants.{Rds as by_rds, Inline, Tcp, Other}
use Rattle.ev_types.specs.declared.events.Profile.{Profile}
use Rattle.ev_types.specs.declared.listeners.FilterChain.{FilterChain}
use Rattle.ev_types.specs.declared.listeners.Listener.{Listener}
use Rattle.ev_types.specs.declared.references.Reference.{Reference}
use Rattle.ev_types.specs.Kinds.{kind_same}
use Rattle.ev_model.specs.Entries.{MadeRow, made_by, made_in, made_in_response}
use Rattle.ev_model.specs.Watching.{Dependency, chain_dependencies, chains_of, cluster_dependencies, cluster_secrets, dependency_same, discovery_dependencies, each_once, has_dependency, is_dependency, listener_dependencies, referred, serve_dependencies}
use Rattle.ev_model_laws.proofs.AnyLemmas.{any_only}
use Rattle.ev_model_laws.proofs.OperationLists.{IsIn, any_at, in_filter, in_parts}
use Rattle.ev_model_laws.specs.Watches.{waits_for}
use Rattle.ev_wire.specs.Bodies.{body_of, body_with, breaks_v1, content_of, content_with, is_heartbeat, own_broken, resource_of}
use Rattle.ev_tree.specs.Broken.{least_of}
use Rattle.ev_tree.specs.Forms.{field_of, inside}
use Rattle.ev_tree.specs.declared.outcome.Found.{Found}
use Rattle.ev_wire.specs.Responses.{entry_name, item_of, ttl_of}
use Rattle.ev_expand.proofs.ListLemmas.{in_any, in_flat, in_map}

-- a cluster that asks for its endpoints by this name
pub record IsAsking (name : List ℕ) (content : Content) : Type 0 where
  pub cluster : Cluster
  pub is : content ≡ a_cluster cluster
  pub limited : Bool
  pub fresh : Bool
  pub asks : cluster.discovery ≡ by_name name limited fresh

discovery_asks : (name : List ℕ) (cluster : Cluster) (discovery : Discovery) → cluster.discovery ≡ discovery
    → list_any (is_dependency Eds name) (discovery_dependencies discovery) ≡ true → IsAsking name (a_cluster cluster)
discovery_asks name cluster (Static rows) is h = absurd (false≢true h)
discovery_asks name cluster Elsewhere is h = absurd (false≢true h)
discovery_asks name cluster (by_name service limited fresh) is h =
    let d : Dependency = record { kind = Eds; name = service; limited = limited; fresh = fresh } in
    record {
      cluster = cluster;
      is = refl;
      limited = limited;
      fresh = fresh;
      asks = is ∙ ap (λ n. by_name n limited fresh) ((bytes_decide service name).0 (any_only (is_dependency Eds name) d h));
    }

serve_asks : (name : List ℕ) (serve : Serve) → list_any (is_dependency Eds name) (serve_dependencies serve) ≡ true → ⊥
serve_asks name (by_rds other limited) h = false≢true h
serve_asks name (Inline table) h = false≢true h
serve_asks name (Tcp target) h = false≢true h
serve_asks name Other h = false≢true h

-- what is of another kind than endpoints isn't asked for
other_kind : (kind : Kind) (name : List ℕ) (d : Dependency) → d.kind ≡ kind → kind_same kind Eds ≡ false → is_dependency Eds name d ≡ true → ⊥
other_kind kind name d of other depends =
    false≢true (sym (ap (λ k. kind_same k Eds && bytes_eq d.name name) of ∙ ap (λ b. b && bytes_eq d.name name) other) ∙ depends)

referred_kind : (kind : Kind) (references : List Reference) (d : Dependency) → IsIn d (referred kind references) → d.kind ≡ kind
referred_kind kind references d is =
    sym (ap (λ (e : Dependency). e.kind)
    (in_map (λ (r : Reference). record { kind = kind; name = r.name; limited = r.limited; fresh = false }) references d is).2)

in_once : (d : Dependency) (ds : List Dependency) → IsIn d (each_once ds) → IsIn d ds
in_once d [] is = absurd is
in_once d (first ∷ ds) (inl e) = inl e
in_once d (first ∷ ds) (inr is) = inr (in_once d ds (in_filter (λ (other : Dependency). not (dependency_same first other)) d (each_once ds) is).0)

cluster_asks : (name : List ℕ) (cluster : Cluster) (d : Dependency) → is_dependency Eds name d ≡ true
    → IsIn d (discovery_dependencies cluster.discovery) ⊎ IsIn d (referred Sds (cluster_secrets cluster)) → IsAsking name (a_cluster cluster)
cluster_asks name cluster d depends (inl is) =
    discovery_asks name cluster cluster.discovery refl (any_at (is_dependency Eds name) d (discovery_dependencies cluster.discovery) is depends)
cluster_asks name cluster d depends (inr is) =
    absurd (other_kind Sds name d (referred_kind Sds (cluster_secrets cluster) d is) refl depends)

-- no chain does
chain_asks : (name : List ℕ) (chain : FilterChain) (d : Dependency) → IsIn d (chain_dependencies chain) → is_dependency Eds name d ≡ true → ⊥
chain_asks name chain d is depends =
    by (in_parts d (serve_dependencies chain.serve) (referred Sds chain.secrets ++ referred Ecds chain.extensions) is)
  where
    by_reference : IsIn d (referred Sds chain.secrets) ⊎ IsIn d (referred Ecds chain.extensions) → ⊥
    by_reference (inl own) = other_kind Sds name d (referred_kind Sds chain.secrets d own) refl depends
    by_reference (inr own) = other_kind Ecds name d (referred_kind Ecds chain.extensions d own) refl depends

    by : IsIn d (serve_dependencies chain.serve) ⊎ IsIn d (referred Sds chain.secrets ++ referred Ecds chain.extensions) → ⊥
    by (inl own) = serve_asks name chain.serve (any_at (is_dependency Eds name) d (serve_dependencies chain.serve) own depends)
    by (inr own) = by_reference (in_parts d (referred Sds chain.secrets) (referred Ecds chain.extensions) own)

listener_asks : (name : List ℕ) (listener : Listener) (d : Dependency) → is_dependency Eds name d ≡ true
    → IsIn d (flat_map chain_dependencies (chains_of listener)) ⊎ IsIn d (referred Ecds listener.extensions) → ⊥
listener_asks name listener d depends (inl is) =
    let chain = in_flat chain_dependencies (chains_of listener) d is in
    chain_asks name chain.0 d chain.2 depends
listener_asks name listener d depends (inr is) = other_kind Ecds name d (referred_kind Ecds listener.extensions d is) refl depends

pub content_asks : (name : List ℕ) (content : Content) → has_dependency Eds name content ≡ true → IsAsking name content
content_asks name (a_cluster cluster) h =
    let one = in_any (is_dependency Eds name) (each_once (cluster_dependencies cluster)) h in
    cluster_asks name cluster one.0 one.2
    (in_parts one.0 (discovery_dependencies cluster.discovery) (referred Sds (cluster_secrets cluster)) (in_once one.0 (cluster_dependencies cluster) one.1))
content_asks name (a_listener listener) h =
    let one = in_any (is_dependency Eds name) (each_once (listener_dependencies listener)) h in
    absurd (listener_asks name listener one.0 one.2
    (in_parts one.0 (flat_map chain_dependencies (chains_of listener)) (referred Ecds listener.extensions) (in_once one.0 (listener_dependencies listener) one.1)))
content_asks name content h = absurd (false≢true h)

-- ---- what an event makes

-- a good resource of a response asks for endpoints by this name
pub record IsMaker (name : List ℕ) (event : Event) : Type 0 where
  pub response : ResponseParts
  pub is : event ≡ Response response
  pub kind : Kind
  pub typed : response.kind ≡ Some kind
  pub item : ItemParts
  pub among : IsIn item response.items
  pub content : Content
  pub good : item.body ≡ Good content
  pub asks : IsAsking name content

zip_in : {X Y : Type 0} (xs : List X) (ys : List Y) (p : X × Y) → IsIn p (zip xs ys) → IsIn p.1 ys
zip_in [] ys p is = absurd is
zip_in (x ∷ xs) [] p is = absurd is
zip_in (x ∷ xs) (y ∷ ys) p (inl e) = inl (ap (λ q. q.1) e)
zip_in (x ∷ xs) (y ∷ ys) p (inr is) = inr (zip_in xs ys p is)

made_good : (kind : Kind) (verdict : Verdict) (name : List ℕ) (body : Body) (row : MadeRow) → IsIn row (made_by kind verdict name body) → body ≡ Good row.content
made_good kind New name (Good content) row (inl e) = ap (λ (r : MadeRow). Good r.content) e
made_good kind New name (Good content) row (inr none) = absurd none
made_good kind InPlace name (Good content) row (inl e) = ap (λ (r : MadeRow). Good r.content) e
made_good kind InPlace name (Good content) row (inr none) = absurd none
made_good kind verdict name body row is = absurd is

response_makes : (name : List ℕ) (response : ResponseParts) (kind : Option Kind) (verdicts : List Verdict) → response.kind ≡ kind
    → list_any (waits_for Eds name) (made_in_response kind response verdicts) ≡ true → IsMaker name (Response response)
response_makes name response None verdicts typed h = absurd (false≢true h)
response_makes name response (Some kind) verdicts typed h =
    let made : Verdict × ItemParts → List MadeRow = λ judged. made_by kind judged.0 judged.1.name judged.1.body in
    let row = in_any (waits_for Eds name) (flat_map made (zip verdicts response.items)) h in
    let judged = in_flat made (zip verdicts response.items) row.0 row.1 in
    record {
      response = response;
      is = refl;
      kind = kind;
      typed = typed;
      item = judged.0.1;
      among = zip_in verdicts response.items judged.0 judged.1;
      content = row.0.content;
      good = made_good kind judged.0.0 judged.0.1.name judged.0.1.body row.0 judged.2;
      asks = content_asks name row.0.content row.2;
    }

event_makes : (name : List ℕ) (response : ResponseParts) (answer : Answer) → list_any (waits_for Eds name) (made_in (Response response) answer) ≡ true → IsMaker name (Response response)
event_makes name response (Replied requests verdicts) h = response_makes name response response.kind verdicts refl h
event_makes name response answer h = absurd (false≢true h)

pub maker_of : (name : List ℕ) (event : Event) (answer : Answer) → list_any (waits_for Eds name) (made_in event answer) ≡ true → IsMaker name event
maker_of name (Response response) answer h = event_makes name response answer h
maker_of name event answer h = absurd (false≢true h)

-- ---- what is read

-- a cluster is read of clusters alone
abbrev IsOfKind : Kind → Content → Type 0
IsOfKind kind (a_cluster cluster) = kind ≡ Cds
IsOfKind kind content = Unit {0}

of_clusters : (content : Content) → IsOfKind Cds content
of_clusters (a_cluster cluster) = refl
of_clusters content = tt

with_content : {A : Type 0} (kind : Kind) (make : A → Content) (read : Result A ℕ) (content : Content) → ((value : A) → IsOfKind kind (make value))
    → content_with make read ≡ Ok content → IsOfKind kind content
with_content kind make (Ok value) content each h = let same : make value ≡ content = cc in subst (IsOfKind kind) same (each value)
with_content kind make (Err rule) content each h = absurd (cc)

content_kind : (profile : Profile) (kind : Kind) (body : Data) (content : Content) → content_of profile kind body ≡ Ok content → IsOfKind kind content
unfolding content_of
content_kind profile Cds body content is = of_clusters content
content_kind profile Eds body content is = with_content Eds an_assignment _ content (λ value. tt) is
content_kind profile Lds body content is = with_content Lds a_listener _ content (λ value. tt) is
content_kind profile Rds body content is = with_content Rds routes _ content (λ value. tt) is
content_kind profile Sds body content is = with_content Sds (λ good. a_secret) _ content (λ value. tt) is
content_kind profile Ecds body content is = with_content Ecds (λ good. an_extension) _ content (λ value. tt) is

good_with : (kind : Kind) (rule : Option ℕ) (read : Result Content ℕ) (content : Content) → ((c : Content) → read ≡ Ok c → IsOfKind kind c)
    → body_with rule read ≡ Good content → IsOfKind kind content
good_with kind None (Ok other) content each h = let same : other ≡ content = cc in subst (IsOfKind kind) same (each other refl)
good_with kind None (Err rule) content each h = absurd (cc)
good_with kind (Some rule) (Ok other) content each h = absurd (cc)
good_with kind (Some rule) (Err other) content each h = absurd (cc)

either_body : (a b : Bool) (kind : Kind) (read : Body) (content : Content) → (read ≡ Good content → IsOfKind kind content)
    → cond a Beat (cond b (Bad 1) read) ≡ Good content → IsOfKind kind content
either_body true b kind read content each h = absurd (cc)
either_body false true kind read content each h = absurd (cc)
either_body false false kind read content each h = each h

-- what a good resource is read as is of its kind
good_kind : (profile : Profile) (kind : Kind) (entry : Data) (content : Content) → (item_of profile kind entry).body ≡ Good content → IsOfKind kind content
unfolding item_of body_of resource_of
good_kind profile kind entry content h =
    let name : List ℕ = entry_name entry in
    let resource : Found Data = field_of (codes "resource") entry in
    let tree : Data = inside resource in
    let rule : Option ℕ = least_of (own_broken kind name (ttl_of entry) tree) in
    either_body (is_heartbeat name (ttl_of entry) resource) (breaks_v1 kind tree) kind (body_with rule (content_of profile kind tree)) content
    (λ read. good_with kind rule (content_of profile kind tree) content (λ c is. content_kind profile kind tree c is) read) h

-- a resource that asks for endpoints is one of clusters
pub asking_kind : (profile : Profile) (name : List ℕ) (kind : Kind) (entry : Data) (content : Content) → (item_of profile kind entry).body ≡ Good content → IsAsking name content → kind ≡ Cds
asking_kind profile name kind entry content good asks = subst (IsOfKind kind) asks.is (good_kind profile kind entry content good)

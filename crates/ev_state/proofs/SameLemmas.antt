-- What a picture shows of a number is the same where its generation, the values that it depends on and its results are.
use Rattle.std.proofs.Common.{◌≡◌, ◌∙◌, ℕ, ◌+◌, Bool, true, false, cond, not, ◌&&◌, ◌||◌, List, [], ◌∷◌, Option, None, Some, option_map, filter, refl, sym, ap, subst, ◌++◌, append-nil, option_to_list, map}
use Rattle.std.specs.Option.{option_and_then}
use Rattle.std.specs.List.{list_any, flat_map, AllByRecursion}
use Rattle.std.specs.Prelude.{is_some, unwrap_or}
use Rattle.std.specs.Str.{bytes_eq}
use Rattle.std.proofs.Math.Bool.{or-false}
use Rattle.std.proofs.lemmas.List.Folds.{list_any-append}
use Rattle.ev_types.specs.Hosts.{HostRowParts}
use Rattle.ev_types.specs.Kinds.{kind_same}
use Rattle.ev_types.specs.Same.{bytes_decide}
use Rattle.ev_types.specs.Statuses.{is_active}
use Rattle.ev_types.specs.declared.clusters.Cluster.{Cluster}
use Rattle.ev_types.specs.declared.clusters.Discovery.{Discovery}
use Rattle.ev_types.specs.declared.clusters.Discovery.TheVariants.{Static, Eds as by_eds, Elsewhere}
use Rattle.ev_types.specs.declared.contents.Kind.{Kind}
use Rattle.ev_types.specs.declared.contents.Kind.TheVariants.{Cds, Eds, Lds, Rds, Sds, Ecds}
use Rattle.ev_types.specs.declared.contents.Content.{Content}
use Rattle.ev_types.specs.declared.contents.Content.TheVariants.{Cluster as a_cluster, Listener as a_listener}
use Rattle.ev_types.specs.declared.listeners.FilterChain.{FilterChain}
use Rattle.ev_types.specs.declared.listeners.Serve.{Serve}
use Rattle.ev_types.specs.declared.listeners.Serve.TheVariants.{Rds as by_rds, Inline, Tcp, Other}
use Rattle.ev_types.specs.declared.origins.ChainPlace.TheVariants.{At}
use Rattle.ev_types.specs.declared.references.Reference.{Reference}
use Rattle.ev_types.specs.declared.rows.GenRow.{GenRow}
use Rattle.ev_model.specs.declared.pictures.Routing.TheVariants.{Table}
use Rattle.ev_model.specs.declared.pictures.Secrets.TheVariants.{There, Missing, Unknown}
use Rattle.ev_model.specs.declared.pictures.ServedListener.{ServedListener}
use Rattle.ev_model.specs.World.{World, Arrived, HealthResult}
use Rattle.ev_model.specs.Phase.{is_serving}
use Rattle.ev_model.specs.Origins.{PlacedChain, placed_default, placed_from}
use Rattle.ev_model.specs.Picture.{is_elsewhere, lacks_one, routing_of, secrets_by, secrets_with, served_chain, served_cluster, served_listener, table_in}
use Rattle.ev_model.specs.Warming.{value_by, rows_in, discovered, assignment_by, is_healthy, is_eligible_by, is_checked}
use Rattle.ev_model.specs.Watching.{Dependency, chain_dependencies, chains_of, cluster_dependencies, cluster_secrets, discovery_dependencies, has_dependency, is_dependency, listener_dependencies, referred, serve_dependencies}
use Rattle.ev_indexes.specs.Tables.{row_in}
use Rattle.ev_indexes.specs.Due.{is_one_of}
use Rattle.ev_indexes.specs.Shown.{cluster_shown, first_of, listener_shown}
use Rattle.ev_state.specs.Changed.{HaveChanged}
use Rattle.ev_state.proofs.StillLemmas.{serving}
use Rattle.ev_indexes.proofs.NeedLemmas.{any-each_once}

-- what a picture shows of a generation of the kind that serves is what it shows of one that is found
cluster_served : (arrivals : List Arrived) (results : List HealthResult) (found : Option GenRow)
    → cluster_shown arrivals results found ≡ option_map (served_cluster arrivals results) (serving Cds found)
cluster_served arrivals results None = refl
cluster_served arrivals results (Some row) = by (kind_same row.kind Cds && is_active row.status)
  where
    by : (b : Bool) → cond b (Some (served_cluster arrivals results row)) None ≡ option_map (served_cluster arrivals results) (cond b (Some row) None)
    by true = refl
    by false = refl

abbrev pub first_served : List Arrived → GenRow → Option ServedListener
first_served arrivals row = first_of (served_listener arrivals row row.content)

pub listener-served : (arrivals : List Arrived) (found : Option GenRow)
    → listener_shown arrivals found ≡ option_and_then (first_served arrivals) (serving Lds found)
listener-served arrivals None = refl
listener-served arrivals (Some row) = by (kind_same row.kind Lds && is_active row.status)
  where
    by : (b : Bool) → cond b (first_served arrivals row) None ≡ option_and_then (first_served arrivals) (cond b (Some row) None)
    by true = refl
    by false = refl

-- the values of what a content depends on are the same
abbrev pub SameNeeds : List Arrived → List Arrived → Content → Type 0
SameNeeds before after content =
    (needed : Kind) (q : List ℕ) → has_dependency needed q content ≡ true → value_by after needed q ≡ value_by before needed q

-- what some depend on all do, and what the others depend on all do
any_first : (p : Dependency → Bool) (ds es : List Dependency) → list_any p ds ≡ true → list_any p (ds ++ es) ≡ true
any_first p ds es h = list_any-append p ds es ∙ ap (λ b. b || list_any p es) h

any_second : (p : Dependency → Bool) (ds es : List Dependency) → list_any p es ≡ true → list_any p (ds ++ es) ≡ true
any_second p ds es h = list_any-append p ds es ∙ (λ i. list_any p ds || h i) ∙ late (list_any p ds)
  where
    late : (b : Bool) → (b || true) ≡ true
    late true = refl
    late false = refl

module _ (before after : List Arrived) where
  -- the values of these dependencies are the same
  abbrev ValuesSame : List Dependency → Type 0
  ValuesSame ds = (needed : Kind) (q : List ℕ) → list_any (is_dependency needed q) ds ≡ true → value_by after needed q ≡ value_by before needed q

  first_same : (ds es : List Dependency) → ValuesSame (ds ++ es) → ValuesSame ds
  first_same ds es same needed q h = same needed q (any_first (is_dependency needed q) ds es h)

  second_same : (ds es : List Dependency) → ValuesSame (ds ++ es) → ValuesSame es
  second_same ds es same needed q h = same needed q (any_second (is_dependency needed q) ds es h)

  discovered_same : (d : Discovery) → ValuesSame (discovery_dependencies d) → discovered after d ≡ discovered before d
  discovered_same (Static rows) same = refl
  discovered_same (by_eds service limited fresh) same = ap rows_in (same Eds service (or-false (bytes_eq service service) ∙ (bytes_decide service service).1 refl))
  discovered_same Elsewhere same = refl

  -- a secret is missing after where it was before
  lacks_same : (references : List Reference) → ValuesSame (referred Sds references) → lacks_one after references ≡ lacks_one before references
  lacks_same [] same = refl
  lacks_same (r ∷ references) same = λ i.
      not (is_some (same Sds r.name (ap (λ b. b || list_any (is_dependency Sds r.name) (referred Sds references)) ((bytes_decide r.name r.name).1 refl)) i))
      || lacks_same references (second_same (record { kind = Sds; name = r.name; limited = r.limited; fresh = false } ∷ []) (referred Sds references) same) i

  secrets_same : (secrets : List Reference) (by_match : Option (List Reference)) → ValuesSame (referred Sds (secrets ++ unwrap_or by_match []))
      → secrets_with after secrets by_match ≡ secrets_with before secrets by_match
  secrets_same secrets None same =
      ap (λ b. cond b Missing There) (lacks_same secrets (subst (λ (rs : List Reference). ValuesSame (referred Sds rs)) (append-nil secrets) same))
  secrets_same secrets (Some by_match) same = ap (λ b. cond b Unknown There) (lacks_same (secrets ++ by_match) same)

  -- what a cluster depends on
  cluster_same : (cluster : Cluster) → SameNeeds before after (a_cluster cluster) → ValuesSame (cluster_dependencies cluster)
  cluster_same cluster same needed q h = same needed q (any-each_once (is_dependency needed q) (cluster_dependencies cluster) ∙ h)

  assignment_same : (content : Content) → SameNeeds before after content → assignment_by after content ≡ assignment_by before content
  assignment_same (a_cluster cluster) same =
      discovered_same cluster.discovery (first_same (discovery_dependencies cluster.discovery) (referred Sds (cluster_secrets cluster)) (cluster_same cluster same))
  assignment_same content same = refl

  known_same : (content : Content) → SameNeeds before after content → secrets_by after content ≡ secrets_by before content
  known_same (a_cluster cluster) same =
      secrets_same cluster.secrets cluster.secrets_by_match
      (second_same (discovery_dependencies cluster.discovery) (referred Sds (cluster_secrets cluster)) (cluster_same cluster same))
  known_same content same = refl

  routing_same : (serve : Serve) → ValuesSame (serve_dependencies serve) → routing_of after serve ≡ routing_of before serve
  routing_same (by_rds name limited) same = ap (λ v. Table (table_in v)) (same Rds name (or-false (bytes_eq name name) ∙ (bytes_decide name name).1 refl))
  routing_same (Inline table) same = refl
  routing_same (Tcp target) same = refl
  routing_same Other same = refl

  module _ (row : GenRow) where
    chain_same : (p : PlacedChain) → ValuesSame (chain_dependencies p.chain) → served_chain after row p ≡ served_chain before row p
    chain_same p same =
        let secrets = referred Sds p.chain.secrets in
        let extensions = referred Ecds p.chain.extensions in
        λ i. record (served_chain before row p) {
          routing = routing_same p.chain.serve (first_same (serve_dependencies p.chain.serve) (secrets ++ extensions) same) i;
          lacks_secret = lacks_same p.chain.secrets
              (first_same secrets extensions (second_same (serve_dependencies p.chain.serve) (secrets ++ extensions) same)) i;
        }

    chains_same : (place : ℕ) (chains more : List FilterChain) → ValuesSame (flat_map chain_dependencies (chains ++ more))
        → map (served_chain after row) (placed_from place chains) ≡ map (served_chain before row) (placed_from place chains)
    chains_same place [] more same = refl
    chains_same place (c ∷ chains) more same = λ i.
        chain_same (record { place = At place; chain = c }) (first_same (chain_dependencies c) (flat_map chain_dependencies (chains ++ more)) same) i
        ∷ chains_same (place + 1) chains more (second_same (chain_dependencies c) (flat_map chain_dependencies (chains ++ more)) same) i

    default_same : (chains : List FilterChain) (other : Option FilterChain) → ValuesSame (flat_map chain_dependencies (chains ++ option_to_list other))
        → option_map (λ (c : FilterChain). served_chain after row (placed_default c)) other ≡ option_map (λ (c : FilterChain). served_chain before row (placed_default c)) other
    default_same [] None same = refl
    default_same [] (Some c) same = ap Some (chain_same (placed_default c) (first_same (chain_dependencies c) [] same))
    default_same (c ∷ chains) other same =
        default_same chains other (second_same (chain_dependencies c) (flat_map chain_dependencies (chains ++ option_to_list other)) same)

    listener_same : (content : Content) → SameNeeds before after content → served_listener after row content ≡ served_listener before row content
    listener_same (a_listener listener) same =
        let all : ValuesSame (listener_dependencies listener) = λ needed q h.
        same needed q (any-each_once (is_dependency needed q) (listener_dependencies listener) ∙ h) in
        let own : ValuesSame (flat_map chain_dependencies (chains_of listener)) =
        first_same (flat_map chain_dependencies (chains_of listener)) (referred Ecds listener.extensions) all in
        λ i. record {
          number = row.number;
          name = row.name;
          address = listener.address.host;
          takes_every_address = listener.takes_every_address;
          udp = listener.address.udp;
          restores = listener.restores;
          hands_over = listener.hands_over;
          filter_chains = chains_same 0 listener.filter_chains (option_to_list listener.default_filter_chain) own i;
          default_filter_chain = default_same listener.filter_chains listener.default_filter_chain own i;
        } ∷ []
    listener_same content same = refl

-- the last results of these hosts are the same
abbrev pub SameResults : List HealthResult → List HealthResult → ℕ → List HostRowParts → Type 0
SameResults before after number hosts = AllByRecursion (λ (h : HostRowParts). is_healthy after number h.host ≡ is_healthy before number h.host) hosts

eligible_same : (before after : List HealthResult) (row : GenRow) (hosts : List HostRowParts) → SameResults before after row.number hosts
    → filter (is_eligible_by after row) hosts ≡ filter (is_eligible_by before row) hosts
eligible_same before after row [] same = refl
eligible_same before after row (h ∷ hosts) same =
    λ i. cond (h.usable && (not (is_checked row.content) || same.0 i)) (h ∷ eligible_same before after row hosts same.1 i) (eligible_same before after row hosts same.1 i)

-- the generations of the kind that serve are the same, but for these numbers, and so is what was received for what they
-- depend on
pub record AreAlike (kind : Kind) (changed : List ℕ) (before after : World) : Type 0 where
  pub rows : (number : ℕ) → is_one_of changed number ≡ false → serving kind (row_in number after.rows) ≡ serving kind (row_in number before.rows)
  pub values : (number : ℕ) (row : GenRow) → is_one_of changed number ≡ false → serving kind (row_in number before.rows) ≡ Some row
      → SameNeeds before.arrivals after.arrivals row.content

-- and so are the results of the clusters that serve
pub record AreSame (changed : List ℕ) (before after : World) : Type 0 where
  pub clusters : AreAlike Cds changed before after
  pub listeners : AreAlike Lds changed before after
  pub results : (number : ℕ) (row : GenRow) → is_one_of changed number ≡ false → serving Cds (row_in number before.rows) ≡ Some row
      → SameResults before.results after.results row.number (assignment_by before.arrivals row.content)
  pub phase : is_serving after.phase ≡ is_serving before.phase

-- then a picture shows the same of each other number
pub same-changed : (changed : List ℕ) (before after : World) → AreSame changed before after → HaveChanged changed before after
same-changed changed before after same = record {
  clusters = λ n other.
      cluster_served after.arrivals after.results (row_in n after.rows)
      ∙ ap (option_map (served_cluster after.arrivals after.results)) (same.clusters.rows n other)
      ∙ cluster n other (serving Cds (row_in n before.rows)) refl
      ∙ sym (cluster_served before.arrivals before.results (row_in n before.rows));
  listeners = λ n other. λ i. cond (same.phase i)
      ((listener-served after.arrivals (row_in n after.rows)
      ∙ ap (option_and_then (first_served after.arrivals)) (same.listeners.rows n other)
      ∙ listener n other (serving Lds (row_in n before.rows)) refl
      ∙ sym (listener-served before.arrivals (row_in n before.rows))) i)
      None;
}
  where
    cluster : (n : ℕ) → is_one_of changed n ≡ false → (found : Option GenRow) → serving Cds (row_in n before.rows) ≡ found
        → option_map (served_cluster after.arrivals after.results) found ≡ option_map (served_cluster before.arrivals before.results) found
    cluster n other None at = refl
    cluster n other (Some row) at =
        let values = same.clusters.values n row other at in
        let assigned = assignment_same before.arrivals after.arrivals row.content values in
        let chosen = ap (filter (is_eligible_by after.results row)) assigned
        ∙ eligible_same before.results after.results row (assignment_by before.arrivals row.content) (same.results n row other at) in
        λ i. Some (record {
          number = row.number;
          name = row.name;
          hosts = chosen i;
          elsewhere = is_elsewhere row.content;
          secrets = known_same before.arrivals after.arrivals row.content values i;
        })

    listener : (n : ℕ) → is_one_of changed n ≡ false → (found : Option GenRow) → serving Lds (row_in n before.rows) ≡ found
        → option_and_then (first_served after.arrivals) found ≡ option_and_then (first_served before.arrivals) found
    listener n other None at = refl
    listener n other (Some row) at = ap first_of (listener_same before.arrivals after.arrivals row row.content (same.listeners.values n row other at))

-- the same, where more numbers may have changed
pub changed-more : (xs zs : List ℕ) (before after : World) → ((n : ℕ) → is_one_of zs n ≡ false → is_one_of xs n ≡ false) → HaveChanged xs before after → HaveChanged zs before after
changed-more xs zs before after fewer x = record { clusters = λ n other. x.clusters n (fewer n other); listeners = λ n other. x.listeners n (fewer n other) }

-- one change and then another
pub changed-then : (changed : List ℕ) (a b c : World) → HaveChanged changed a b → HaveChanged changed b c → HaveChanged changed a c
changed-then changed a b c x y = record {
  clusters = λ n other. y.clusters n other ∙ x.clusters n other;
  listeners = λ n other. y.listeners n other ∙ x.listeners n other;
}

-- none has changed
pub changed-none : (changed : List ℕ) (world : World) → HaveChanged changed world world
changed-none changed world = record { clusters = λ n other. refl; listeners = λ n other. refl }

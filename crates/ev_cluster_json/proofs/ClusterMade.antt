-- What was found of a cluster's parts, against the cluster's tree.
use Rattle.std.proofs.Common.{◌≡◌, ℕ, ◌&&◌, ◌==◌, not, Bool, true, false, true≢false, List, length, Option, Some, None, nat_lt, cond, refl, ap, ◌∙◌, arith, codes}
use Rattle.std.specs.Option.{option_map, option_and_then}
use Rattle.std.proofs.lemmas.Bool.Decides.{nat_tests}
use Rattle.serde_json.specs.Data.{Data}
use Rattle.ev_types.specs.Hosts.{HostRowParts}
use Rattle.ev_types.specs.declared.clusters.Cluster.{Cluster}
use Rattle.ev_types.specs.declared.clusters.Discovery.{Discovery}
use Rattle.ev_types.specs.declared.clusters.Discovery.TheVariants.{Static, Eds, Elsewhere}
use Rattle.ev_types.specs.declared.events.Profile.{Profile}
use Rattle.ev_types.specs.Profiles.{is_envoy}
use Rattle.ev_tree.specs.declared.broken.BrokenRules.{BrokenRules}
use Rattle.ev_tree.specs.declared.limits.TheConstants.{MAX_NAME_BYTES}
use Rattle.ev_tree.specs.Forms.{is_wrong, text_of}
use Rattle.ev_tree.specs.Rules.{is_name}
use Rattle.ev_tree.specs.Broken.{none_broken, either_broken, broken_where, least_of}
use Rattle.ev_tree.specs.Sources.{source_is_limited}
use Rattle.ev_tree.proofs.Unions.{least_none}
use Rattle.ev_tree.specs.Floats.{body_text_of}
use Rattle.ev_cluster_json.specs.declared.sockets.ClusterSecrets.{ClusterSecrets}
use Rattle.ev_cluster_json.specs.Assignments.{rows_of}
use Rattle.ev_cluster_json.specs.Clusters.{name_of, holds_hosts, asks_hosts, eds_source_of, service_name_of, service_with, service_of, load_assignment_of, is_checked, cluster_own_broken, eds_broken, load_assignment_broken, cluster_broken, discovery_of, cluster_of}
use Rattle.ev_cluster_json.specs.Sockets.{cluster_secrets}
use Rattle.ev_cluster_json.specs.Made.{name_in, discovery_with, cluster_with, made_rows, made_where}
use Rattle.ev_cluster_json.proofs.RowsMade.{left_false, right_false, not_false, rows_made}

-- the name of a cluster that breaks neither V3 nor V6
own_name : (profile : Profile) (tree : Data) → (cluster_own_broken profile tree).v3 ≡ false → (cluster_own_broken profile tree).v6 ≡ false → is_name (name_of tree) ≡ true
unfolding cluster_own_broken
own_name profile tree v3 v6 =
    let wrong = left_false _ _ (left_false _ _ (left_false _ _ (left_false _ _ v6))) in
    by_wrong (is_wrong (text_of (codes "name") tree)) (is_name (name_of tree)) wrong v3
  where
    by_wrong : (w n : Bool) → w ≡ false → (not w && not n) ≡ false → n ≡ true
    by_wrong true n e h = absurd (true≢false e)
    by_wrong false n e h = not_false n h

short_service : (profile : Profile) (by_eds : Bool) (tree : Data) → (eds_broken profile by_eds tree).v2 ≡ false → nat_lt MAX_NAME_BYTES (length (service_name_of tree)) ≡ false
unfolding eds_broken
short_service profile by_eds tree v2 = right_false _ _ v2

known_hosts : (profile : Profile) (tree : Data) → (load_assignment_broken profile tree).v12 ≡ false → (load_assignment_broken profile tree).v13 ≡ false → made_rows profile (load_assignment_of tree) ≡ rows_of profile (load_assignment_of tree)
unfolding load_assignment_broken
known_hosts profile tree v12 v13 = rows_made profile (load_assignment_of tree) (left_false _ _ v12) (left_false _ _ v13)

-- a service's name of at most 512 bytes, or the cluster's own
service_name_known : (name service : List ℕ) → is_name name ≡ true → nat_lt MAX_NAME_BYTES (length service) ≡ false → is_name (service_with name service) ≡ true
service_name_known name service own short = by_length (length service == 0) refl
  where
    by_length : (b : Bool) → (length service == 0) ≡ b → is_name (cond b name service) ≡ true
    by_length true e = own
    by_length false e = grind (arith, nat_tests)

name_in_known : (name : List ℕ) → is_name name ≡ true → name_in name ≡ Some name
name_in_known name e = rw e

-- the name of a cluster that breaks no rule
clear_name : (profile : Profile) (tree : Data) → cluster_broken profile tree ≡ none_broken → is_name (name_of tree) ≡ true
unfolding cluster_broken
clear_name profile tree clear = own_name profile tree (left_false _ _ (ap (λ (b : BrokenRules). b.v3) clear)) (left_false _ _ (ap (λ (b : BrokenRules). b.v6) clear))

clear_service : (profile : Profile) (tree : Data) → cluster_broken profile tree ≡ none_broken → is_name (service_of tree) ≡ true
unfolding cluster_broken
clear_service profile tree clear =
    service_name_known (name_of tree) (service_name_of tree) (clear_name profile tree clear)
    (short_service profile (asks_hosts profile tree) tree (left_false _ _ (right_false _ _ (ap (λ (b : BrokenRules). b.v2) clear))))

-- the discovery that is made of a cluster that breaks no rule
pub discovery_made : (profile : Profile) (tree : Data) → cluster_broken profile tree ≡ none_broken
    → discovery_with (holds_hosts profile tree) (asks_hosts profile tree) (made_where profile (holds_hosts profile tree) (load_assignment_of tree)) (service_of tree) (source_is_limited (eds_source_of tree)) (is_envoy profile)
    ≡ Some (discovery_of profile tree)
unfolding cluster_broken discovery_of
discovery_made profile tree clear =
    by_type (holds_hosts profile tree) (asks_hosts profile tree) (clear_service profile tree clear)
    (left_false _ _ (right_false _ _ (right_false _ _ (ap (λ (b : BrokenRules). b.v12) clear))))
    (left_false _ _ (right_false _ _ (right_false _ _ (ap (λ (b : BrokenRules). b.v13) clear))))
  where
    by_type : (held asked : Bool) → is_name (service_of tree) ≡ true → (broken_where held (load_assignment_broken profile tree)).v12 ≡ false → (broken_where held (load_assignment_broken profile tree)).v13 ≡ false
        → discovery_with held asked (made_where profile held (load_assignment_of tree)) (service_of tree) (source_is_limited (eds_source_of tree)) (is_envoy profile)
        ≡ Some (cond held (Static (rows_of profile (load_assignment_of tree))) (cond asked (Eds (service_of tree) (source_is_limited (eds_source_of tree)) (is_envoy profile)) Elsewhere))
    by_type true asked service v12 v13 = ap (λ rows. Some (Static rows)) (known_hosts profile tree v12 v13)
    by_type false true service v12 v13 = ap (option_map (λ name. Eds name (source_is_limited (eds_source_of tree)) (is_envoy profile))) (name_in_known (service_of tree) service)
    by_type false false service v12 v13 = refl

-- and the cluster
pub cluster_made : (profile : Profile) (tree : Data) → cluster_broken profile tree ≡ none_broken
    → cluster_with (name_of tree) (Some (discovery_of profile tree)) (is_checked tree) (cluster_secrets profile tree) (body_text_of profile tree) ≡ Some (cluster_of profile tree)
cluster_made profile tree clear =
    ap (option_and_then (λ own. Some (record {
      name = own;
      discovery = discovery_of profile tree;
      checked = is_checked tree;
      secrets = (cluster_secrets profile tree).own;
      secrets_by_match = (cluster_secrets profile tree).by_match;
      body_text = body_text_of profile tree;
    }))) (name_in_known (name_of tree) (clear_name profile tree clear))

-- the rules that the parts break are those of the tree
pub rules_agree : (profile : Profile) (tree : Data) (by_eds in_cluster : Bool) (own eds hosts below joined broken : BrokenRules) (secrets : ClusterSecrets)
    → by_eds ≡ asks_hosts profile tree → in_cluster ≡ holds_hosts profile tree
    → own ≡ cluster_own_broken profile tree → eds ≡ eds_broken profile by_eds tree → hosts ≡ broken_where in_cluster (load_assignment_broken profile tree)
    → secrets ≡ cluster_secrets profile tree
    → below ≡ either_broken hosts secrets.broken → joined ≡ either_broken eds below → broken ≡ either_broken own joined → broken ≡ cluster_broken profile tree
unfolding cluster_broken
rules_agree profile tree by_eds in_cluster own eds hosts below joined broken secrets asks holds of_own of_eds of_hosts of_secrets join_below join all =
    let by : eds ≡ eds_broken profile (asks_hosts profile tree) tree = of_eds ∙ ap (λ b. eds_broken profile b tree) asks in
    let inside : hosts ≡ broken_where (holds_hosts profile tree) (load_assignment_broken profile tree) = of_hosts ∙ ap (λ b. broken_where b (load_assignment_broken profile tree)) holds in
    let under : below ≡ either_broken (broken_where (holds_hosts profile tree) (load_assignment_broken profile tree)) (cluster_secrets profile tree).broken =
    join_below ∙ (λ i. either_broken (inside i) (of_secrets i).broken) in
    all ∙ (λ i. either_broken (of_own i) ((join ∙ (λ j. either_broken (by j) (under j))) i))

-- what is made of the parts of a cluster that breaks no rule is the cluster
pub made_from : (profile : Profile) (tree : Data) (name service_name service : List ℕ) (by_eds in_cluster : Bool) (rows : List HostRowParts) (limited fresh checked : Bool) (discovery : Option Discovery) (secrets : ClusterSecrets) (text : List ℕ)
    (cluster : Option Cluster)
    → least_of (cluster_broken profile tree) ≡ None → name ≡ name_of tree → service_name ≡ service_name_of tree → by_eds ≡ asks_hosts profile tree → in_cluster ≡ holds_hosts profile tree
    → limited ≡ source_is_limited (eds_source_of tree) → fresh ≡ is_envoy profile → checked ≡ is_checked tree → rows ≡ made_where profile in_cluster (load_assignment_of tree)
    → service ≡ service_with name service_name → discovery ≡ discovery_with in_cluster by_eds rows service limited fresh → secrets ≡ cluster_secrets profile tree
    → text ≡ body_text_of profile tree
    → cluster ≡ cluster_with name discovery checked secrets text → cluster ≡ Some (cluster_of profile tree)
made_from profile tree name service_name service by_eds in_cluster rows limited fresh checked discovery secrets text cluster none own asked asks holds limit new check row serve find referred body make =
    let clear = least_none (cluster_broken profile tree) none in
    let all_rows : rows ≡ made_where profile (holds_hosts profile tree) (load_assignment_of tree) = row ∙ ap (λ b. made_where profile b (load_assignment_of tree)) holds in
    let by : service ≡ service_of tree = serve ∙ (λ i. service_with (own i) (asked i)) in
    let found : discovery ≡ Some (discovery_of profile tree) =
    find ∙ (λ i. discovery_with (holds i) (asks i) (all_rows i) (by i) (limit i) (new i)) ∙ discovery_made profile tree clear in
    make ∙ (λ i. cluster_with (own i) (found i) (check i) (referred i) (body i)) ∙ cluster_made profile tree clear

-- The hosts of a template are good: its rows are those of a good cluster, and its addresses are names.
use Rattle.std.proofs.Common.{◌≡◌, inl, inr, ℕ, ◌≤◌, ◌<◌, ◌^◌, ◌==◌, Bool, true, false, cond, not, ◌&&◌, ◌||◌, nat_lt, nat_le, List, [], ◌∷◌, map, filter, filter_map, flat_map, length, Option, Some, None, IfSome, codes, refl, sym, ap, subst, arith}
use Rattle.std.specs.Prelude.{Result, Ok, Err, option_and_then, option_map, slice_get, unwrap_or}
use Rattle.std.specs.List.{AllByRecursion as ByRecursion, last_or, list_any}
use Rattle.std.specs.Str.{bytes_eq}
use Rattle.std.specs.Str.Parse.{digits_value}
use Rattle.std.proofs.lemmas.Bool.{leb-true, ltb-false, ltb-true}
use Rattle.std.proofs.lemmas.Bool.Decides.{nat_tests}
use Rattle.serde_json.specs.Data.{unsigned, negative, float, Data, null, boolean, number, string, array, object}
use Rattle.serde_json.specs.Find.{as_str, get}
use Rattle.ev_types.specs.Hosts.{HostRowParts}
use Rattle.ev_types.specs.declared.clusters.Cluster.{Cluster}
use Rattle.ev_types.specs.declared.clusters.Discovery.{Discovery}
use Rattle.ev_types.specs.declared.clusters.Discovery.TheVariants.{Static, Eds as by_name, Elsewhere}
use Rattle.ev_types.specs.declared.contents.Kind.{Kind}
use Rattle.ev_types.specs.declared.contents.Kind.TheVariants.{Cds}
use Rattle.ev_types.specs.declared.contents.Body.TheVariants.{Bad, Good}
use Rattle.ev_types.specs.declared.contents.Content.{Content}
use Rattle.ev_types.specs.declared.contents.Content.TheVariants.{Cluster as a_cluster}
use Rattle.ev_types.specs.declared.limits.TheConstants.{ITEM_LIMIT, MAX_NAME_LENGTH, MAX_WEIGHT_SUM}
use Rattle.ev_types.specs.declared.events.Profile.{Profile}
use Rattle.ev_types.specs.declared.events.Profile.TheVariants.{Own, Envoy}
use Rattle.ev_types.specs.Profiles.{is_envoy}
use Rattle.ev_tree.specs.declared.broken.BrokenRules.{BrokenRules}
use Rattle.ev_tree.specs.declared.limits.TheConstants.{MAX_PORT, MAX_U32_DIGITS}
use Rattle.ev_tree.specs.declared.outcome.Found.{Found}
use Rattle.ev_tree.specs.declared.outcome.Found.TheVariants.{Absent, Given, Wrong}
use Rattle.ev_tree.specs.declared.span.Span.{Span}
use Rattle.ev_tree.specs.Addresses.{any_port_of, has_internal, has_pipe, outer_of, port_in_profile, port_of, port_or_none, port_unless, socket_of}
use Rattle.ev_tree.specs.Broken.{broken_where, least_of, none_broken}
use Rattle.ev_tree.specs.Forms.{field_of, given_or, in_form, number_of, value_or_wrong}
use Rattle.ev_tree.specs.Rules.{is_name, judged}
use Rattle.ev_tree.specs.Sources.{source_is_limited}
use Rattle.ev_tree.specs.Scalars.{is_numeral, list_in, u32_in, u32_text}
use Rattle.ev_tree.proofs.Unions.{least_none}
use Rattle.ev_cluster_json.specs.declared.groups.TheConstants.{MAX_PRIORITY}
use Rattle.ev_cluster_json.specs.Assignments.{assignment_broken, endpoint_of, group_broken, group_rows, groups_of, host_broken, hosts_of, priority_of, row_of, rows_of, weight_of}
use Rattle.ev_cluster_json.specs.Clusters.{cluster_broken, cluster_of, cluster_reading, discovery_of, asks_hosts, eds_source_of, holds_hosts, load_assignment_broken, load_assignment_of, service_of}
use Rattle.ev_cluster_json.proofs.RowsMade.{left_false, right_false}
use Rattle.ev_wire.specs.Bodies.{body_with, breaks_v1, content_of, content_with, own_broken, resource_of}
use Rattle.ev_wire.specs.Responses.{entry_name, ttl_of}
use Rattle.ev_script.specs.Members.{has_only, is_op, member_of, name_of, or_default}
use Rattle.ev_model_laws.proofs.OperationLists.{IsIn, at_in, each_flat, each_in, in_filter}
use Rattle.ev_expand.specs.declared.keys.Key.{Key}
use Rattle.ev_expand.specs.Fronts.{up_to}
use Rattle.ev_expand.specs.Guarding.{Guarded, body_in, clusters_in, each_once, guarded_by, guarded_in, guarded_of, guarded_same}
use Rattle.ev_expand.proofs.ListLemmas.{in_flat, in_found, in_get}
use Rattle.ev_dns.specs.declared.lines.Resolution.{Resolution}
use Rattle.ev_dns.specs.Answers.{addresses_of, is_of, last_success, names_once, resolutions_in, success_of}
use Rattle.ev_dns.specs.Hosts.{with_address}
use Rattle.ev_dns.specs.Lines.{addresses_at, all_names, given_addresses, resolution_in, resolution_of}
use Rattle.ev_dns.specs.Resolving.{resolved_hosts}
use Rattle.ev_dns.specs.Templates.{by_names, rows_in, static_body, template_rows}
use Rattle.ev_dns.proofs.EndpointLemmas.{IsGoodHost, item_reads}
use Rattle.ev_dns.proofs.GuardLemmas.{template_reads}
use Rattle.ev_dns.proofs.LastLemmas.{ReadsHosts}

-- ---- rows that are read

-- all but the address of a row is read again as it is
record IsGoodRow (row : HostRowParts) : Type 0 where
  port : row.host.port ≤ MAX_PORT
  some : 1 ≤ row.weight
  light : row.weight ≤ MAX_WEIGHT_SUM
  near : row.priority ≤ MAX_PRIORITY

port_small : (found : Found ℕ) → port_or_none found ≤ MAX_PORT
port_small Absent = omega arith
port_small Wrong = omega arith
port_small (Given n) = by (nat_le n MAX_PORT) refl
  where
    by : (b : Bool) → nat_le n MAX_PORT ≡ b → cond b n 0 ≤ MAX_PORT
    by true h = leb-true n MAX_PORT h
    by false h = omega arith

unless_small : (no_port : Bool) (port : ℕ) → port ≤ MAX_PORT → port_unless no_port port ≤ MAX_PORT
unless_small true port h = omega arith
unless_small false port h = h

-- a port that is read fits
any_port_small : (profile : Profile) (tree : Data) → port_in_profile profile tree ≤ MAX_PORT
unfolding port_of any_port_of
any_port_small Own tree = port_small (number_of (codes "port_value") (socket_of tree))
any_port_small Envoy tree =
    unless_small (has_pipe (outer_of tree) || has_internal (outer_of tree)) (port_or_none (number_of (codes "port_value") (socket_of tree)))
    (port_small (number_of (codes "port_value") (socket_of tree)))

abbrev Fits32 : ℕ → Type 0
Fits32 n = n ≤ MAX_WEIGHT_SUM

text_small : (s : List ℕ) → IfSome (u32_text s) Fits32
unfolding u32_text
text_small s = by (is_numeral MAX_U32_DIGITS s) (nat_lt (digits_value 10 s) (2 ^ 32)) refl
  where
    by : (a b : Bool) → nat_lt (digits_value 10 s) (2 ^ 32) ≡ b → IfSome (cond (a && b) (Some (digits_value 10 s)) None) Fits32
    by true true h = omega (arith, ltb-true (digits_value 10 s) (2 ^ 32) h)
    by true false h = tt
    by false b h = tt

number_small : (tree : Data) → IfSome (u32_in tree) Fits32
unfolding u32_in
number_small null = tt
number_small (boolean b) = tt
number_small (number (unsigned n)) = by (nat_lt n (2 ^ 32)) refl
  where
    by : (b : Bool) → nat_lt n (2 ^ 32) ≡ b → IfSome (cond b (Some n) None) Fits32
    by true h = omega (arith, ltb-true n (2 ^ 32) h)
    by false h = tt
number_small (number (negative z)) = tt
number_small (number (float x)) = tt
number_small (string s) = text_small s
number_small (array ds) = tt
number_small (object ms) = tt

found_small : (found : Found Data) → given_or 1 (in_form u32_in found) ≤ MAX_WEIGHT_SUM
found_small Absent = omega arith
found_small Wrong = omega arith
found_small (Given tree) = by (u32_in tree) (number_small tree)
  where
    by : (n : Option ℕ) → IfSome n Fits32 → given_or 1 (value_or_wrong n) ≤ MAX_WEIGHT_SUM
    by None h = omega arith
    by (Some n) h = h

weight_small : (host : Data) → weight_of host ≤ MAX_WEIGHT_SUM
unfolding weight_of number_of
weight_small host = found_small (field_of (codes "load_balancing_weight") host)

not_zero : (n : ℕ) → (n == 0) ≡ false → 1 ≤ n
not_zero n h = grind (arith, nat_tests)

heavy : (profile : Profile) (host : Data) → (host_broken profile host).v13 ≡ false → 1 ≤ weight_of host
unfolding host_broken
heavy profile host h = not_zero (weight_of host) (right_false _ _ h)

row_good : (profile : Profile) (priority : ℕ) (host : Data) → priority ≤ MAX_PRIORITY → (host_broken profile host).v13 ≡ false → IsGoodRow (row_of profile priority host)
unfolding row_of
row_good profile priority host near h = record {
  port = any_port_small profile (endpoint_of host);
  some = heavy profile host h;
  light = weight_small host;
  near = near;
}

hosts_good : (profile : Profile) (priority : ℕ) (hosts : List Data) → priority ≤ MAX_PRIORITY → list_any (λ h. (host_broken profile h).v13) hosts ≡ false
    → ByRecursion IsGoodRow (map (row_of profile priority) hosts)
hosts_good profile priority [] near h = tt
hosts_good profile priority (host ∷ hosts) near h = (row_good profile priority host near (left_false _ _ h), hosts_good profile priority hosts near (right_false _ _ h))

group_good : (profile : Profile) (group : Data) → (group_broken profile group).v13 ≡ false → ByRecursion IsGoodRow (group_rows profile group)
unfolding group_broken group_rows
group_good profile group h =
    hosts_good profile (priority_of group) (hosts_of group) (ltb-false MAX_PRIORITY (priority_of group) (left_false _ _ (right_false _ _ h))) (left_false _ _ h)

groups_good : (profile : Profile) (groups : List Data) → list_any (λ g. (group_broken profile g).v13) groups ≡ false → ByRecursion IsGoodRow (flat_map (group_rows profile) groups)
groups_good profile groups h = each_flat IsGoodRow (group_rows profile) groups (by groups h)
  where
    by : (gs : List Data) → list_any (λ g. (group_broken profile g).v13) gs ≡ false → ByRecursion (λ g. ByRecursion IsGoodRow (group_rows profile g)) gs
    by [] h = tt
    by (g ∷ gs) h = (group_good profile g (left_false _ _ h), by gs (right_false _ _ h))

assignment_good : (profile : Profile) (tree : Data) → (assignment_broken profile tree).v13 ≡ false → ByRecursion IsGoodRow (rows_of profile tree)
unfolding assignment_broken rows_of
assignment_good profile tree h = groups_good profile (groups_of tree) h

-- ---- clusters that are read

good_content : (profile : Profile) (kind : Kind) (name : List ℕ) (ttl : Found Span) (body : Data) (content : Content) → resource_of profile kind name ttl body ≡ Good content → content_of profile kind body ≡ Ok content
unfolding resource_of
good_content profile kind name ttl body content h = by (breaks_v1 kind body) (least_of (own_broken kind name ttl body)) (content_of profile kind body) h
  where
    by : (b : Bool) (rule : Option ℕ) (read : Result Content ℕ) → cond b (Bad 1) (body_with rule read) ≡ Good content → read ≡ Ok content
    by true rule read e = absurd (cc)
    by false None (Ok other) e = let same : other ≡ content = cc in ap (λ c. Ok c) same
    by false None (Err r) e = absurd (cc)
    by false (Some rule) (Ok other) e = absurd (cc)
    by false (Some rule) (Err r) e = absurd (cc)

read_cluster : (read : Result Cluster ℕ) (cluster : Cluster) → content_with a_cluster read ≡ Ok (a_cluster cluster) → read ≡ Ok cluster
read_cluster (Ok other) cluster h =
    let inner : a_cluster other ≡ a_cluster cluster = cc in
    let same : other ≡ cluster = cc in
    ap (λ c. Ok c) same
read_cluster (Err rule) cluster h = absurd (cc)

judged_good : (rule : Option ℕ) (made cluster : Cluster) → judged rule made ≡ Ok cluster → (rule ≡ None) × (made ≡ cluster)
judged_good None made cluster h = (refl, cc)
judged_good (Some rule) made cluster h = absurd (cc)

static_good : (profile : Profile) (b : Bool) (tree : Data) (other : Discovery) → rows_in other ≡ [] → (broken_where b (load_assignment_broken profile tree)).v13 ≡ false
    → ByRecursion IsGoodRow (rows_in (cond b (Static (rows_of profile (load_assignment_of tree))) other))
unfolding load_assignment_broken
static_good profile true tree other none h = assignment_good profile (load_assignment_of tree) (left_false _ _ h)
static_good profile false tree other none h = subst (ByRecursion IsGoodRow) (sym none) tt

-- what isn't in the cluster has no rows there
no_rows : (b : Bool) (service : List ℕ) (limited fresh : Bool) → rows_in (cond b (by_name service limited fresh) Elsewhere) ≡ []
no_rows true service limited fresh = refl
no_rows false service limited fresh = refl

discovered_good : (profile : Profile) (tree : Data) → cluster_broken profile tree ≡ none_broken → ByRecursion IsGoodRow (rows_in (discovery_of profile tree))
unfolding cluster_broken discovery_of
discovered_good profile tree none =
    let light = ap (λ (b : BrokenRules). b.v13) none in
    static_good profile (holds_hosts profile tree) tree _
    (no_rows (asks_hosts profile tree) (service_of tree) (source_is_limited (eds_source_of tree)) (is_envoy profile)) (left_false _ _ (right_false _ _ (right_false _ _ light)))

read_good : (profile : Profile) (tree : Data) (cluster : Cluster) → content_of profile Cds tree ≡ Ok (a_cluster cluster) → ByRecursion IsGoodRow (rows_in cluster.discovery)
unfolding content_of
read_good profile tree cluster h =
    let both = judged_good (least_of (cluster_broken profile tree)) (cluster_of profile tree) cluster (read_cluster (cluster_reading profile tree) cluster h) in
    subst (λ (c : Cluster). ByRecursion IsGoodRow (rows_in c.discovery)) both.1 (discovered_good profile tree (least_none (cluster_broken profile tree) both.0))

-- the rows of a template
template_good : (profile : Profile) (entry : Data) (key : Key) → (by_names profile).key_of entry ≡ Some key → ByRecursion IsGoodRow (template_rows key)
template_good profile entry key is =
    let read = template_reads profile entry key is in
    subst (λ (c : Cluster). ByRecursion IsGoodRow (rows_in c.discovery)) read.same
    (read_good profile (static_body (body_in entry)) read.own
    (good_content profile Cds (entry_name entry) (ttl_of entry) (static_body (body_in entry)) (a_cluster read.own) read.reads))

-- ---- addresses

abbrev IsName : List ℕ → Type 0
IsName name = is_name name ≡ true

abbrev AreNames : List (List ℕ) → Type 0
AreNames names = ByRecursion IsName names

name_named : (tree : Data) → IfSome (name_of tree) IsName
name_named tree = by (as_str tree)
  where
    tested : (text : List ℕ) (b : Bool) → is_name text ≡ b → IfSome (cond b (Some text) None) IsName
    tested text true h = h
    tested text false h = tt

    by : (found : Option (List ℕ)) → IfSome (option_and_then (λ text. cond (nat_le 1 (length text) && nat_le (length text) MAX_NAME_LENGTH) (Some text) None) found) IsName
    by None = tt
    by (Some text) = tested text (is_name text) refl

all_named : (trees : List Data) → IfSome (all_names trees) AreNames
all_named [] = tt
all_named (tree ∷ trees) = by (name_of tree) (all_names trees) (name_named tree) (all_named trees)
  where
    by : (first : Option (List ℕ)) (rest : Option (List (List ℕ))) → IfSome first IsName → IfSome rest AreNames
        → IfSome (option_and_then (λ name. option_map (λ names. name ∷ names) rest) first) AreNames
    by None rest h k = tt
    by (Some name) None h k = tt
    by (Some name) (Some names) h k = (h, k)

abbrev GivesNames : Option (List (List ℕ)) → Type 0
GivesNames addresses = IfSome addresses AreNames

abbrev SaysNames : Resolution → Type 0
SaysNames resolution = GivesNames resolution.addresses

given_named : (tree : Data) → IfSome (given_addresses tree) GivesNames
given_named tree = by (list_in tree)
  where
    mapped : (names : Option (List (List ℕ))) → IfSome names AreNames → IfSome (option_map (λ ns. Some ns) names) GivesNames
    mapped None h = tt
    mapped (Some names) h = h

    by : (found : Option (List Data)) → IfSome (option_map (λ ns. Some ns) (option_and_then all_names found)) GivesNames
    by None = tt
    by (Some trees) = mapped (all_names trees) (all_named trees)

addresses_named : (tree : Data) → IfSome (addresses_at tree) GivesNames
addresses_named tree = by (get (codes "addresses") tree)
  where
    by : (found : Option Data) → IfSome (or_default given_addresses None found) GivesNames
    by None = tt
    by (Some given) = given_named given

resolution_named : (line : Data) → IfSome (resolution_in line) SaysNames
resolution_named line = by (is_op (codes "resolved") line) (has_only (codes "op" ∷ codes "name" ∷ codes "addresses" ∷ []) line)
  where
    made : (name : Option (List ℕ)) (addresses : Option (Option (List (List ℕ)))) → IfSome addresses GivesNames
        → IfSome (option_and_then (λ n. option_map (λ a. record { name = n; addresses = a }) addresses) name) SaysNames
    made None addresses h = tt
    made (Some name) None h = tt
    made (Some name) (Some addresses) h = h

    by : (a b : Bool) → IfSome (cond a (cond b (resolution_of line) None) None) SaysNames
    by true true = made (member_of name_of (codes "name") line) (addresses_at line) (addresses_named line)
    by true false = tt
    by false b = tt

-- ---- lists

-- what holds of all that is found of each holds of all that is found
found_each : {X Y : Type 0} (P : Y → Type 0) (f : X → Option Y) (xs : List X) → ((x : X) → IsIn x xs → IfSome (f x) P) → ByRecursion P (filter_map f xs)
found_each P f xs each =
    each_in P (filter_map f xs) (λ y is. let found = in_found f xs y is in subst (λ o. IfSome o P) found.2 (each found.0 found.1))

once_named : (names : List (List ℕ)) → AreNames names → AreNames (names_once names)
once_named [] each = tt
once_named (first ∷ others) each =
    let test : List ℕ → Bool = λ other. not (bytes_eq other first) in (
      each.0,
      each_in IsName (filter test (names_once others))
          (λ name is. at_in IsName name (names_once others) (once_named others each.1) (in_filter test name (names_once others) is).0),
    )

last_if : {X : Type 0} (P : X → Type 0) (first : Option X) (xs : List X) → IfSome first P → ByRecursion P xs → IfSome (last_or first xs) P
last_if P first [] h each = h
last_if P first (x ∷ xs) h each = last_if P (Some x) xs each.0 each.1

-- ---- hosts

success_named : (name : List ℕ) (resolution : Resolution) → SaysNames resolution → IfSome (success_of name resolution) AreNames
success_named name resolution says = by (is_of name resolution)
  where
    by : (b : Bool) → IfSome (cond b resolution.addresses None) AreNames
    by true = says
    by false = tt

-- the addresses of a name are names
known_named : (lines : List Data) (name : List ℕ) → AreNames (addresses_of lines name)
known_named lines name =
    let said : ByRecursion SaysNames (resolutions_in lines) =
    found_each SaysNames resolution_in lines (λ line is. resolution_named line) in
    let successes : ByRecursion AreNames (filter_map (success_of name) (resolutions_in lines)) =
    found_each AreNames (success_of name) (resolutions_in lines) (λ r is. success_named name r (at_in SaysNames r (resolutions_in lines) said is)) in
    by (last_success name (resolutions_in lines)) (last_if AreNames None (filter_map (success_of name) (resolutions_in lines)) tt successes)
  where
    by : (found : Option (List (List ℕ))) → IfSome found AreNames → AreNames (names_once (unwrap_or found []))
    by None h = tt
    by (Some names) h = once_named names h

row_hosts : (row : HostRowParts) (addresses : List (List ℕ)) → IsGoodRow row → AreNames addresses → ByRecursion IsGoodHost (map (with_address row) addresses)
row_hosts row [] good each = tt
row_hosts row (address ∷ addresses) good each = (
  record { named = each.0; port = good.port; some = good.some; light = good.light; near = good.near },
  row_hosts row addresses good each.1,
)

-- the hosts of a template are good
all_hosts : (lines : List Data) (key : Key) → ByRecursion IsGoodRow (template_rows key) → ByRecursion IsGoodHost (resolved_hosts lines key)
all_hosts lines key good =
    each_flat IsGoodHost (λ (row : HostRowParts). map (with_address row) (addresses_of lines row.host.address)) (template_rows key)
    (each_in (λ (row : HostRowParts). ByRecursion IsGoodHost (map (with_address row) (addresses_of lines row.host.address))) (template_rows key)
    (λ row is. row_hosts row (addresses_of lines row.host.address) (at_in IsGoodRow row (template_rows key) good is) (known_named lines row.host.address)))

-- ---- what is guarded is a template

in_once : (g : Guarded) (gs : List Guarded) → IsIn g (each_once gs) → IsIn g gs
in_once g [] is = absurd is
in_once g (first ∷ gs) (inl e) = inl e
in_once g (first ∷ gs) (inr is) = inr (in_once g gs (in_filter (λ (other : Guarded). not (guarded_same other first)) g (each_once gs) is).0)

guarded_good : (profile : Profile) (lines : List Data) (place : ℕ) (g : Guarded) → slice_get (guarded_by (by_names profile) lines) place ≡ Some g → ByRecursion IsGoodRow (template_rows g.key)
guarded_good profile lines place g there =
    let among : IsIn g (flat_map (guarded_in (by_names profile)) lines) = in_once g (flat_map (guarded_in (by_names profile)) lines) (in_get (guarded_by (by_names profile) lines) place g there) in
    let line = in_flat (guarded_in (by_names profile)) lines g among in
    let entry = in_found (guarded_of (by_names profile)) (clusters_in profile line.0) g line.2 in
    by entry.0 ((by_names profile).key_of entry.0) refl entry.2
  where
    by : (entry : Data) (key : Option Key) → (by_names profile).key_of entry ≡ key → option_map (λ (k : Key). record { key = k; own = (by_names profile).own_of entry }) key ≡ Some g
        → ByRecursion IsGoodRow (template_rows g.key)
    by entry None is h = absurd (cc)
    by entry (Some key) is h =
        let same : record { key = key; own = (by_names profile).own_of entry } ≡ g = cc in
        subst (λ (x : Guarded). ByRecursion IsGoodRow (template_rows x.key)) same (template_good profile entry key is)

-- so the endpoints that are written of a place are read as its hosts
pub hosts_read : (profile : Profile) (lines : List Data) (place : ℕ) (g : Guarded) → place < ITEM_LIMIT → ReadsHosts profile lines place g
hosts_read profile lines place g small index front version at there =
    item_reads profile version place (resolved_hosts (up_to front) g.key) small (all_hosts (up_to front) g.key (guarded_good profile (up_to front) place g there))

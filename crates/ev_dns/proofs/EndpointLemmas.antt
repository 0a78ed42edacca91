-- Good hosts that are written as endpoints are read again.
use Rattle.std.proofs.Common.{◌≡◌, ◌∙◌, ℕ, ◌+◌, ◌<◌, ◌≤◌, ◌^◌, ◌==◌, Bool, true, false, cond, not, ◌&&◌, ◌||◌, nat_lt, nat_le, List, [], ◌∷◌, ◌++◌, length, map, flat_map, decimal, Some, None, codes, refl, ap, ap₂, arith, ne_eqb, length-append}
use Rattle.std.specs.Prelude.{Ok}
use Rattle.std.specs.List.{AllByRecursion as ByRecursion, list_all, sum_by}
use Rattle.std.proofs.lemmas.Bool.{and_from}
use Rattle.std.proofs.lemmas.Bool.Decides.{nat_tests}
use Rattle.std.proofs.lemmas.Fmt.{decimal_nonempty, length-decimal-le}
use Rattle.std.proofs.lemmas.List.Sums.{sum_by-cons}
use Rattle.serde_json.specs.Data.{Data, string, object, no_members, put}
use Rattle.ev_types.specs.Hosts.{HostRowParts}
use Rattle.ev_types.specs.Same.{bytes_decide}
use Rattle.ev_types.specs.declared.limits.TheConstants.{ITEM_LIMIT, MAX_WEIGHT_SUM}
use Rattle.ev_types.specs.declared.contents.Kind.TheVariants.{Eds}
use Rattle.ev_types.specs.declared.contents.Body.TheVariants.{Bad, Good}
use Rattle.ev_types.specs.declared.contents.Content.TheVariants.{Assignment as an_assignment}
use Rattle.ev_types.specs.declared.events.Profile.{Profile}
use Rattle.ev_types.specs.declared.events.Profile.TheVariants.{Own, Envoy}
use Rattle.ev_tree.specs.declared.broken.BrokenRules.{BrokenRules}
use Rattle.ev_tree.specs.declared.limits.TheConstants.{MAX_NAME_BYTES, MAX_PORT}
use Rattle.ev_tree.specs.declared.outcome.Found.{Found}
use Rattle.ev_tree.specs.declared.outcome.Found.TheVariants.{Absent, Given}
use Rattle.ev_tree.specs.declared.tables.EnumTable.TheVariants.{Health}
use Rattle.ev_tree.specs.Addresses.{address_broken, address_broken_in, address_text_of, addresses_given, any_address_broken, any_port_of, any_text_of, has_internal, has_pipe, internal_id_in, internal_in, internal_name_in, is_port, is_wrong_internal, is_wrong_pipe, outer_of, path_in, pipe_in, port_in_profile, port_of, port_or_none, port_unless, socket_of, text_among, text_in_profile}
use Rattle.ev_tree.specs.Broken.{any_broken, either_broken, least_of, none_broken}
use Rattle.ev_tree.specs.Counts.{exactly_one}
use Rattle.ev_tree.specs.Forms.{duration_of, enumeration_of, field_of, given_or, in_form, inside, is_given, is_object, is_wrong, listed, number_of, object_of, objects_of, text_of, value_or_wrong}
use Rattle.ev_tree.specs.Rules.{is_name, judged}
use Rattle.ev_tree.specs.Scalars.{enum_in, list_in, named_in, u32_in}
use Rattle.ev_tree.specs.Spelling.{camel_of}
use Rattle.ev_cluster_json.specs.declared.groups.TheConstants.{MAX_PRIORITY}
use Rattle.ev_cluster_json.specs.Assignments.{assignment_broken, assignment_reading, endpoint_of, group_broken, group_rows, groups_of, host_broken, hosts_of, is_usable, is_usable_status, priority_of, row_of, rows_of, weight_of}
use Rattle.ev_wire.specs.Bodies.{body_of, body_with, breaks_v3, content_of, content_with, is_of_type, own_broken, resource_of}
use Rattle.ev_types.specs.Kinds.{type_url}
use Rattle.ev_wire.specs.Responses.{entry_name, item_of, ttl_of}
use Rattle.ev_expand.specs.Following.{endpoints_body, endpoints_entry}
use Rattle.ev_expand.proofs.LineLemmas.{objects_given}
use Rattle.ev_dns.specs.Hosts.{address_tree, endpoints_tree, group_tree, host_tree, number_tree, status_text}
use Rattle.ev_dns.specs.LastAnswers.{name_of_place}

-- a host that is read again as it is
pub record IsGoodHost (row : HostRowParts) : Type 0 where
  pub named : is_name row.host.address ≡ true
  pub port : row.host.port ≤ MAX_PORT
  pub some : 1 ≤ row.weight
  pub light : row.weight ≤ MAX_WEIGHT_SUM
  pub near : row.priority ≤ MAX_PRIORITY

below : (m n : ℕ) → m < n → nat_lt m n ≡ true
below m n h = grind (arith, nat_tests)

not_below : (m n : ℕ) → n ≤ m → nat_lt m n ≡ false
not_below m n h = grind (arith, nat_tests)

within : (m n : ℕ) → m ≤ n → nat_le m n ≡ true
within m n h = grind (arith, nat_tests)

number_given : (n : ℕ) → n < 2 ^ 32 → value_or_wrong (u32_in (number_tree n)) ≡ Given n
unfolding u32_in
number_given n small = ap (λ b. value_or_wrong (cond b (Some n) None)) (below n (2 ^ 32) small)

-- ---- none of some parts breaks a rule

all_none : {A : Type 0} (broken : A → BrokenRules) (parts : List A) → ByRecursion (λ part. broken part ≡ none_broken) parts → any_broken broken parts ≡ none_broken
all_none broken [] each = refl
all_none broken (part ∷ parts) each = ap₂ either_broken each.0 (all_none broken parts each.1)

-- ---- a host

abbrev endpoint_tree : HostRowParts → Data
endpoint_tree row = object (put (codes "address") (address_tree row) no_members)

endpoint_is : (row : HostRowParts) → endpoint_of (host_tree row) ≡ endpoint_tree row
unfolding endpoint_of object_of field_of camel_of
endpoint_is row = refl

text_is : (row : HostRowParts) → address_text_of (endpoint_tree row) ≡ row.host.address
unfolding address_text_of socket_of text_of object_of field_of camel_of
text_is row = refl

port_found : (row : HostRowParts) → IsGoodHost row → number_of (codes "port_value") (socket_of (endpoint_tree row)) ≡ Given row.host.port
unfolding number_of socket_of object_of field_of camel_of
port_found row good = number_given row.host.port (omega (arith, good.port))

port_is : (row : HostRowParts) → IsGoodHost row → port_of (endpoint_tree row) ≡ row.host.port
unfolding port_of
port_is row good =
    ap port_or_none (port_found row good) ∙ ap (λ b. cond b row.host.port 0) (within row.host.port MAX_PORT good.port)

address_forms : (row : HostRowParts)
    → (is_wrong (object_of (codes "address") (endpoint_tree row))
    || is_wrong (object_of (codes "socket_address") (inside (object_of (codes "address") (endpoint_tree row))))
    || is_wrong (text_of (codes "address") (socket_of (endpoint_tree row)))) ≡ false
unfolding socket_of text_of object_of field_of camel_of
address_forms row = refl

address_good : (row : HostRowParts) → IsGoodHost row → address_broken (endpoint_tree row) ≡ none_broken
unfolding address_broken
address_good row good =
    let tree : Data = endpoint_tree row in
    let six : (is_wrong (object_of (codes "address") tree) || is_wrong (object_of (codes "socket_address") (inside (object_of (codes "address") tree)))
    || is_wrong (text_of (codes "address") (socket_of tree)) || is_wrong (number_of (codes "port_value") (socket_of tree))) ≡ false =
    λ i. address_forms row i || is_wrong (port_found row good i) in
    let text = ap (λ a. not (is_name a)) (text_is row) ∙ ap not good.named in
    let port = ap (λ f. not (is_port f)) (port_found row good) ∙ ap not (within row.host.port MAX_PORT good.port) in
    λ i. record none_broken { v6 = six i; v12 = text i || port i }

-- the same as Envoy reads it

outer_is : (row : HostRowParts) → outer_of (endpoint_tree row) ≡ address_tree row
unfolding outer_of object_of field_of camel_of
outer_is row = refl

socket_given : (row : HostRowParts) → is_given (object_of (codes "socket_address") (address_tree row)) ≡ true
unfolding object_of field_of camel_of
socket_given row = refl

no_pipe : (row : HostRowParts) → has_pipe (address_tree row) ≡ false
unfolding object_of field_of camel_of
no_pipe row = refl

no_internal : (row : HostRowParts) → has_internal (address_tree row) ≡ false
unfolding object_of field_of camel_of
no_internal row = refl

pipe_right : (row : HostRowParts) → is_wrong_pipe (address_tree row) ≡ false
unfolding is_wrong_pipe pipe_in object_of text_of field_of camel_of
pipe_right row = refl

internal_right : (row : HostRowParts) → is_wrong_internal (address_tree row) ≡ false
unfolding is_wrong_internal internal_in object_of text_of field_of camel_of
internal_right row = refl

any_text_is : (row : HostRowParts) → any_text_of (endpoint_tree row) ≡ row.host.address
unfolding any_text_of
any_text_is row =
    let socket : List ℕ = address_text_of (endpoint_tree row) in
    (λ i. text_among (has_pipe (outer_is row i)) (has_internal (outer_is row i)) (path_in (outer_is row i)) (internal_name_in (outer_is row i)) (internal_id_in (outer_is row i)) socket)
    ∙ (λ i. text_among (no_pipe row i) (no_internal row i) (path_in (address_tree row)) (internal_name_in (address_tree row)) (internal_id_in (address_tree row)) socket)
    ∙ text_is row

any_port_is : (row : HostRowParts) → IsGoodHost row → any_port_of (endpoint_tree row) ≡ row.host.port
unfolding any_port_of
any_port_is row good =
    (λ i. port_unless (has_pipe (outer_is row i) || has_internal (outer_is row i)) (port_of (endpoint_tree row)))
    ∙ (λ i. port_unless (no_pipe row i || no_internal row i) (port_is row good i))

one_kind : exactly_one (true ∷ false ∷ false ∷ []) ≡ true
one_kind = refl

any_address_good : (row : HostRowParts) → IsGoodHost row → any_address_broken (endpoint_tree row) ≡ none_broken
unfolding any_address_broken
any_address_good row good =
    let tree : Data = endpoint_tree row in
    let six : ((address_broken tree).v6 || is_wrong_pipe (outer_of tree) || is_wrong_internal (outer_of tree)) ≡ false =
    (λ i. (address_good row good i).v6 || is_wrong_pipe (outer_is row i) || is_wrong_internal (outer_is row i))
    ∙ (λ i. pipe_right row i || internal_right row i) in
    let port : is_port (number_of (codes "port_value") (socket_of tree)) ≡ true = ap is_port (port_found row good) ∙ within row.host.port MAX_PORT good.port in
    let twelve : (not (exactly_one (addresses_given (outer_of tree))) || not (is_name (any_text_of tree))
    || (is_given (object_of (codes "socket_address") (outer_of tree)) && not (is_port (number_of (codes "port_value") (socket_of tree))))) ≡ false =
    (λ i. not (exactly_one (addresses_given (outer_is row i))) || not (is_name (any_text_is row i)) || (is_given (object_of (codes "socket_address") (outer_is row i)) && not (port i)))
    ∙ (λ i. not (exactly_one (socket_given row i ∷ no_pipe row i ∷ no_internal row i ∷ [])) || not (good.named i) || (socket_given row i && not true))
    ∙ (λ i. not (one_kind i) || not true || (true && not true)) in
    λ i. record none_broken { v6 = six i; v12 = twelve i }

text_in : (profile : Profile) (row : HostRowParts) → text_in_profile profile (endpoint_tree row) ≡ row.host.address
text_in Own row = text_is row
text_in Envoy row = any_text_is row

port_in : (profile : Profile) (row : HostRowParts) → IsGoodHost row → port_in_profile profile (endpoint_tree row) ≡ row.host.port
port_in Own row good = port_is row good
port_in Envoy row good = any_port_is row good

address_right : (profile : Profile) (row : HostRowParts) → IsGoodHost row → address_broken_in profile (endpoint_tree row) ≡ none_broken
address_right Own row good = address_good row good
address_right Envoy row good = any_address_good row good

weight_found : (row : HostRowParts) → IsGoodHost row → number_of (codes "load_balancing_weight") (host_tree row) ≡ Given row.weight
unfolding number_of field_of camel_of
weight_found row good = number_given row.weight (omega (arith, good.light))

weight_is : (row : HostRowParts) → IsGoodHost row → weight_of (host_tree row) ≡ row.weight
unfolding weight_of
weight_is row good = ap (given_or 1) (weight_found row good)

status_found : (row : HostRowParts) → enumeration_of (codes "health_status") Health (host_tree row) ≡ in_form (enum_in Health) (Given (string (status_text row.usable)))
unfolding enumeration_of field_of camel_of
status_found row = refl

status_right : (b : Bool) → is_wrong (in_form (enum_in Health) (Given (string (status_text b)))) ≡ false
unfolding enum_in named_in
status_right true = refl
status_right false = refl

status_read : (b : Bool) → is_usable_status (given_or 0 (in_form (enum_in Health) (Given (string (status_text b))))) ≡ b
unfolding enum_in named_in
status_read true = refl
status_read false = refl

usable_is : (row : HostRowParts) → is_usable (host_tree row) ≡ row.usable
unfolding is_usable
usable_is row = ap (λ (f : Found ℕ). is_usable_status (given_or 0 f)) (status_found row) ∙ status_read row.usable

endpoint_form : (row : HostRowParts) → is_wrong (object_of (codes "endpoint") (host_tree row)) ≡ false
unfolding object_of field_of camel_of
endpoint_form row = refl

host_good : (profile : Profile) (row : HostRowParts) → IsGoodHost row → host_broken profile (host_tree row) ≡ none_broken
unfolding host_broken
host_good profile row good =
    let address = ap (address_broken_in profile) (endpoint_is row) ∙ address_right profile row good in
    let status = ap (λ (f : Found ℕ). is_wrong f) (status_found row) ∙ status_right row.usable in
    let weight = ap (λ (f : Found ℕ). is_wrong f) (weight_found row good) in
    let heavy = ap (λ n. n == 0) (weight_is row good) ∙ ne_eqb row.weight 0 (λ e. omega (arith, e, good.some)) in
    λ i. either_broken (address i) (record none_broken { v6 = endpoint_form row i || status i || weight i; v13 = heavy i })

row_is : (profile : Profile) (row : HostRowParts) → IsGoodHost row → row_of profile row.priority (host_tree row) ≡ row
unfolding row_of
row_is profile row good =
    let text = ap (text_in_profile profile) (endpoint_is row) ∙ text_in profile row in
    let port = ap (port_in_profile profile) (endpoint_is row) ∙ port_in profile row good in
    λ i. record {
      host = record { address = text i; port = port i };
      weight = weight_is row good i;
      priority = row.priority;
      usable = usable_is row i;
    }

-- ---- a group

hosts_are : (row : HostRowParts) → hosts_of (group_tree row) ≡ host_tree row ∷ []
unfolding hosts_of objects_of field_of camel_of list_in
hosts_are row = refl

hosts_form : (row : HostRowParts) → is_wrong (objects_of (codes "lb_endpoints") (group_tree row)) ≡ false
unfolding objects_of field_of camel_of list_in
hosts_form row = refl

priority_found : (row : HostRowParts) → IsGoodHost row → number_of (codes "priority") (group_tree row) ≡ Given row.priority
unfolding number_of field_of camel_of
priority_found row good = number_given row.priority (omega (arith, good.near))

priority_is : (row : HostRowParts) → IsGoodHost row → priority_of (group_tree row) ≡ row.priority
unfolding priority_of
priority_is row good = ap (given_or 0) (priority_found row good)

group_good : (profile : Profile) (row : HostRowParts) → IsGoodHost row → group_broken profile (group_tree row) ≡ none_broken
unfolding group_broken
group_good profile row good =
    let hosts = ap (any_broken (host_broken profile)) (hosts_are row) ∙ all_none (host_broken profile) (host_tree row ∷ []) (host_good profile row good, tt) in
    let forms : (is_wrong (number_of (codes "priority") (group_tree row)) || is_wrong (objects_of (codes "lb_endpoints") (group_tree row))) ≡ false =
    λ i. is_wrong (priority_found row good i) || hosts_form row i in
    let near = ap (nat_lt MAX_PRIORITY) (priority_is row good) ∙ not_below MAX_PRIORITY row.priority good.near in
    let sum : sum_by weight_of (host_tree row ∷ []) ≡ weight_of (host_tree row) + sum_by weight_of [] = sum_by-cons weight_of (host_tree row) [] in
    let light = ap (λ hs. nat_lt MAX_WEIGHT_SUM (sum_by weight_of hs)) (hosts_are row)
    ∙ not_below MAX_WEIGHT_SUM (sum_by weight_of (host_tree row ∷ [])) (omega (arith, sum, weight_is row good, good.light)) in
    λ i. either_broken (hosts i) (record none_broken { v6 = forms i; v13 = near i || light i })

group_is : (profile : Profile) (row : HostRowParts) → IsGoodHost row → group_rows profile (group_tree row) ≡ row ∷ []
unfolding group_rows
group_is profile row good =
    (λ i. map (row_of profile (priority_is row good i)) (hosts_are row i)) ∙ ap (λ r. r ∷ []) (row_is profile row good)

-- ---- an assignment

module _ (profile : Profile) (name : List ℕ) (rows : List HostRowParts) where
  abbrev body : Data
  body = endpoints_body name (endpoints_tree rows)

  all_objects : (rs : List HostRowParts) → list_all is_object (map group_tree rs) ≡ true
  all_objects [] = refl
  all_objects (r ∷ rs) = all_objects rs

  groups_found : objects_of (codes "endpoints") body ≡ Given (map group_tree rows)
  unfolding objects_of field_of camel_of
  groups_found = objects_given (map group_tree rows) (all_objects rows)

  groups_are : groups_of body ≡ map group_tree rows
  unfolding groups_of
  groups_are = ap listed groups_found

  name_found : text_of (codes "cluster_name") body ≡ Given name
  unfolding text_of field_of camel_of
  name_found = refl

  all_good : (rs : List HostRowParts) → ByRecursion IsGoodHost rs → ByRecursion (λ group. group_broken profile group ≡ none_broken) (map group_tree rs)
  all_good [] good = tt
  all_good (r ∷ rs) good = (group_good profile r good.0, all_good rs good.1)

  all_rows : (rs : List HostRowParts) → ByRecursion IsGoodHost rs → flat_map (group_rows profile) (map group_tree rs) ≡ rs
  all_rows [] good = refl
  all_rows (r ∷ rs) good = ap₂ (λ (xs ys : List HostRowParts). xs ++ ys) (group_is profile r good.0) (all_rows rs good.1)

  assignment_good : ByRecursion IsGoodHost rows → assignment_broken profile body ≡ none_broken
  unfolding assignment_broken
  assignment_good good =
      let groups = ap (any_broken (group_broken profile)) groups_are ∙ all_none (group_broken profile) (map group_tree rows) (all_good rows good) in
      let forms : (is_wrong (text_of (codes "cluster_name") body) || is_wrong (objects_of (codes "endpoints") body)) ≡ false =
      λ i. is_wrong (name_found i) || is_wrong (groups_found i) in
      λ i. either_broken (record none_broken { v6 = forms i }) (groups i)

  rows_are : ByRecursion IsGoodHost rows → rows_of profile body ≡ rows
  unfolding rows_of
  rows_are good = ap (flat_map (group_rows profile)) groups_are ∙ all_rows rows good

  -- the endpoints are read as these hosts
  reads : ByRecursion IsGoodHost rows → assignment_reading profile body ≡ Ok rows
  reads good = ap (λ broken. judged (least_of broken) (rows_of profile body)) (assignment_good good) ∙ ap (λ rs. Ok rs) (rows_are good)

-- ---- the resource

short_name : (place : ℕ) → place < ITEM_LIMIT → is_name (name_of_place place) ≡ true
short_name place small =
    let some : 0 < length (decimal (place + 1)) = decimal_nonempty (place + 1) (omega (arith, small)) in
    let few : length (decimal (place + 1)) ≤ 20 = length-decimal-le 20 (place + 1) (omega arith) (omega (arith, small)) (omega (arith, small)) in
    let joined : length (name_of_place place) ≡ 4 + length (decimal (place + 1)) = length-append (codes "dns/") (decimal (place + 1)) in
    and_from (nat_le 1 (length (name_of_place place))) (nat_le (length (name_of_place place)) MAX_NAME_BYTES)
    (within 1 (length (name_of_place place)) (omega (arith, some, joined)))
    (within (length (name_of_place place)) MAX_NAME_BYTES (omega (arith, few, joined)))

module _ (version name : List ℕ) (endpoints : Data) where
  abbrev entry : Data
  entry = endpoints_entry version name endpoints

  entry_named : entry_name entry ≡ name
  unfolding text_of field_of camel_of
  entry_named = refl

  no_ttl : ttl_of entry ≡ Absent
  unfolding ttl_of duration_of field_of camel_of
  no_ttl = refl

  body_found : field_of (codes "resource") entry ≡ Given (endpoints_body name endpoints)
  unfolding field_of camel_of
  body_found = refl

  typed : is_of_type Eds (endpoints_body name endpoints) ≡ true
  unfolding is_of_type text_of field_of camel_of
  typed = (bytes_decide (type_url Eds) (type_url Eds)).1 refl

  inner_name : breaks_v3 Eds name (endpoints_body name endpoints) ≡ false
  unfolding breaks_v3 text_of field_of camel_of
  inner_name = ap not ((bytes_decide name name).1 refl)

  own_good : is_name name ≡ true → own_broken Eds name Absent (endpoints_body name endpoints) ≡ none_broken
  own_good named = λ i. record none_broken { v1 = not (typed i); v2 = not (named i); v3 = inner_name i }

-- the written endpoints of a place are read as their hosts
pub item_reads : (profile : Profile) (version : List ℕ) (place : ℕ) (rows : List HostRowParts) → place < ITEM_LIMIT → ByRecursion IsGoodHost rows
    → (item_of profile Eds (endpoints_entry version (name_of_place place) (endpoints_tree rows))).body ≡ Good (an_assignment rows)
unfolding item_of body_of resource_of content_of
item_reads profile version place rows small good =
    let name : List ℕ = name_of_place place in
    let tree : Data = endpoints_body name (endpoints_tree rows) in
    let own = ap least_of (own_good version name (endpoints_tree rows) (short_name place small)) in
    (λ i. body_of profile Eds (entry_named version name (endpoints_tree rows) i) (no_ttl version name (endpoints_tree rows) i) (body_found version name (endpoints_tree rows) i))
    ∙ ap (λ b. cond (not b) (Bad 1) (body_with (least_of (own_broken Eds name Absent tree)) (content_with an_assignment (assignment_reading profile tree)))) (typed version name (endpoints_tree rows))
    ∙ ap (λ rule. body_with rule (content_with an_assignment (assignment_reading profile tree))) own
    ∙ ap (λ read. body_with None (content_with an_assignment read)) (reads profile name rows good)

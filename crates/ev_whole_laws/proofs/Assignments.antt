-- Assignments.
use Rattle.std.proofs.Common.{◌≡◌, ◌∙◌, ap}
use Rattle.std.specs.Prelude.{ℕ, ◌||◌, ◌==◌, map, nat_lt, codes}
use Rattle.std.specs.List.{flat_map, sum_by}
use Rattle.serde_json.specs.Data.{Data}
use Rattle.ev_types.specs.declared.events.Profile.{Profile}
use Rattle.ev_types.specs.declared.limits.TheConstants.{MAX_WEIGHT_SUM}
use Rattle.ev_tree.specs.declared.tables.EnumTable.TheVariants.{Health}
use Rattle.ev_tree.specs.Forms.{is_wrong, given_or}
use Rattle.ev_tree.specs.Addresses.{text_in_profile, port_in_profile, address_broken_in}
use Rattle.ev_tree.specs.Rules.{judged}
use Rattle.ev_tree.specs.Broken.{none_broken, either_broken, any_broken, least_of}
use Rattle.ev_cluster_json.specs.declared.groups.TheConstants.{MAX_PRIORITY}
use Rattle.ev_cluster_json.specs.Assignments.{endpoint_of, weight_of, is_usable_status, is_usable, row_of, host_broken, hosts_of, priority_of, group_broken, group_rows, groups_of, assignment_broken, rows_of, assignment_reading}
use Rattle.ev_tree.specs.Floats.{whole}
use Rattle.ev_whole_laws.proofs.Addresses.{address_broken_in-whole, port_in_profile-whole, text_in_profile-whole}
use Rattle.ev_whole_laws.proofs.Forms.{enumeration_of-whole, inside-object, listed-objects, number_of-whole, object-is_wrong, objects-is_wrong, text_of-whole}
use Rattle.ev_whole_laws.proofs.Parts.{any_broken-whole, flat_map-whole, map-whole, sum_by-whole}

pub endpoint_of-whole : (host : Data) → endpoint_of (whole host) ≡ whole (endpoint_of host)
unfolding endpoint_of
endpoint_of-whole host = inside-object (codes "endpoint") host

pub weight_of-whole : (host : Data) → weight_of (whole host) ≡ weight_of host
unfolding weight_of
weight_of-whole host = λ i. given_or 1 (number_of-whole (codes "load_balancing_weight") host i)

pub is_usable-whole : (host : Data) → is_usable (whole host) ≡ is_usable host
unfolding is_usable
is_usable-whole host = λ i. is_usable_status (given_or 0 (enumeration_of-whole (codes "health_status") Health host i))

pub row_of-whole : (profile : Profile) (priority : ℕ) (host : Data) → row_of profile priority (whole host) ≡ row_of profile priority host
unfolding row_of
row_of-whole profile priority host = λ i. record {
  host = record {
    address = (ap (text_in_profile profile) (endpoint_of-whole host) ∙ text_in_profile-whole profile (endpoint_of host)) i;
    port = (ap (port_in_profile profile) (endpoint_of-whole host) ∙ port_in_profile-whole profile (endpoint_of host)) i;
  };
  weight = weight_of-whole host i;
  priority = priority;
  usable = is_usable-whole host i;
}

pub host_broken-whole : (profile : Profile) (host : Data) → host_broken profile (whole host) ≡ host_broken profile host
unfolding host_broken
host_broken-whole profile host = λ i. either_broken ((ap (address_broken_in profile) (endpoint_of-whole host) ∙ address_broken_in-whole profile (endpoint_of host)) i) (record none_broken {
  v6 =
      object-is_wrong (codes "endpoint") host i
      || is_wrong (enumeration_of-whole (codes "health_status") Health host i)
      || is_wrong (number_of-whole (codes "load_balancing_weight") host i);
  v13 = weight_of-whole host i == 0;
})

pub hosts_of-whole : (group : Data) → hosts_of (whole group) ≡ map whole (hosts_of group)
unfolding hosts_of
hosts_of-whole group = listed-objects (codes "lb_endpoints") group

pub priority_of-whole : (group : Data) → priority_of (whole group) ≡ priority_of group
unfolding priority_of
priority_of-whole group = λ i. given_or 0 (number_of-whole (codes "priority") group i)

pub group_broken-whole : (profile : Profile) (group : Data) → group_broken profile (whole group) ≡ group_broken profile group
unfolding group_broken
group_broken-whole profile group = λ i. either_broken ((ap (any_broken (host_broken profile)) (hosts_of-whole group) ∙ any_broken-whole (host_broken profile) (host_broken-whole profile) (hosts_of group)) i) (record none_broken {
  v6 = is_wrong (number_of-whole (codes "priority") group i) || objects-is_wrong (codes "lb_endpoints") group i;
  v13 =
      nat_lt MAX_PRIORITY (priority_of-whole group i)
      || nat_lt MAX_WEIGHT_SUM ((ap (sum_by weight_of) (hosts_of-whole group) ∙ sum_by-whole weight_of weight_of-whole (hosts_of group)) i);
})

pub group_rows-whole : (profile : Profile) (group : Data) → group_rows profile (whole group) ≡ group_rows profile group
unfolding group_rows
group_rows-whole profile group =
    (λ i. map (row_of profile (priority_of-whole group i)) (hosts_of-whole group i))
    ∙ map-whole (row_of profile (priority_of group)) (row_of-whole profile (priority_of group)) (hosts_of group)

pub groups_of-whole : (tree : Data) → groups_of (whole tree) ≡ map whole (groups_of tree)
unfolding groups_of
groups_of-whole tree = listed-objects (codes "endpoints") tree

pub assignment_broken-whole : (profile : Profile) (tree : Data) → assignment_broken profile (whole tree) ≡ assignment_broken profile tree
unfolding assignment_broken
assignment_broken-whole profile tree = λ i. either_broken (record none_broken {
  v6 = is_wrong (text_of-whole (codes "cluster_name") tree i) || objects-is_wrong (codes "endpoints") tree i;
}) ((ap (any_broken (group_broken profile)) (groups_of-whole tree) ∙ any_broken-whole (group_broken profile) (group_broken-whole profile) (groups_of tree)) i)

pub rows_of-whole : (profile : Profile) (tree : Data) → rows_of profile (whole tree) ≡ rows_of profile tree
unfolding rows_of
rows_of-whole profile tree = λ i. (ap (flat_map (group_rows profile)) (groups_of-whole tree) ∙ flat_map-whole (group_rows profile) (group_rows-whole profile) (groups_of tree)) i

pub assignment_reading-whole : (profile : Profile) (tree : Data) → assignment_reading profile (whole tree) ≡ assignment_reading profile tree
assignment_reading-whole profile tree = λ i. judged (least_of (assignment_broken-whole profile tree i)) (rows_of-whole profile tree i)

-- Where no rule on hosts is broken, the rows that are made are the assignment's.
use Rattle.std.proofs.Common.{◌≡◌, ℕ, ◌++◌, ◌||◌, not, ◌==◌, option_to_list, Bool, true, false, true≢false, List, [], ◌∷◌, Some, map, nat_lt, refl, ap, ◌∙◌, arith}
use Rattle.std.specs.List.{list_any, flat_map}
use Rattle.std.proofs.lemmas.Bool.Decides.{nat_tests}
use Rattle.serde_json.specs.Data.{Data}
use Rattle.ev_tree.specs.Rules.{is_name}
use Rattle.ev_types.specs.declared.events.Profile.{Profile}
use Rattle.ev_types.specs.declared.events.Profile.TheVariants.{Own, Envoy}
use Rattle.ev_tree.specs.Addresses.{address_text_of, address_broken, any_text_of, any_address_broken, text_in_profile, port_in_profile, address_broken_in}
use Rattle.ev_cluster_json.specs.declared.groups.TheConstants.{MAX_PRIORITY}
use Rattle.ev_cluster_json.specs.Assignments.{endpoint_of, weight_of, is_usable, row_of, hosts_of, groups_of, priority_of, group_rows, rows_of, host_broken, group_broken, assignment_broken}
use Rattle.ev_cluster_json.specs.Made.{row_with, made_row, host_rows, rank_of, made_group, made_rows}

pub left_false : (a b : Bool) → (a || b) ≡ false → a ≡ false
left_false true b e = absurd (true≢false e)
left_false false b e = refl

pub right_false : (a b : Bool) → (a || b) ≡ false → b ≡ false
right_false true b e = absurd (true≢false e)
right_false false b e = e

pub not_false : (a : Bool) → not a ≡ false → a ≡ true
not_false true e = refl
not_false false e = absurd (true≢false e)

-- an address that V12 lets pass is a name
pub address_is_name : (profile : Profile) (tree : Data) → (address_broken_in profile tree).v12 ≡ false → is_name (text_in_profile profile tree) ≡ true
unfolding address_broken any_address_broken
address_is_name Own tree e = not_false (is_name (address_text_of tree)) (left_false _ _ e)
address_is_name Envoy tree e = not_false (is_name (any_text_of tree)) (right_false _ _ (left_false _ _ e))

row_with_known : (address : List ℕ) (port weight priority : ℕ) (usable : Bool) → is_name address ≡ true → (weight == 0) ≡ false
    → row_with address port weight priority usable ≡ Some (record { host = record { address = address; port = port }; weight = weight; priority = priority; usable = usable })
row_with_known address port weight priority usable named heavy = rw (heavy, named)

-- a host with an address and a weight has its row made
host_rows_known : (profile : Profile) (priority : ℕ) (host : Data) → (host_broken profile host).v12 ≡ false → (host_broken profile host).v13 ≡ false → host_rows profile priority host ≡ row_of profile priority host ∷ []
unfolding host_broken made_row row_of
host_rows_known profile priority host addressed heavy =
    ap option_to_list (row_with_known (text_in_profile profile (endpoint_of host)) (port_in_profile profile (endpoint_of host)) (weight_of host) priority (is_usable host) (address_is_name profile (endpoint_of host) (left_false _ _ addressed)) (right_false _ _ heavy))

hosts_known : (profile : Profile) (priority : ℕ) (hosts : List Data) → list_any (λ h. (host_broken profile h).v12) hosts ≡ false → list_any (λ h. (host_broken profile h).v13) hosts ≡ false → flat_map (host_rows profile priority) hosts ≡ map (row_of profile priority) hosts
hosts_known profile priority [] addressed heavy = refl
hosts_known profile priority (host ∷ hosts) addressed heavy =
    ap (λ rows. rows ++ flat_map (host_rows profile priority) hosts) (host_rows_known profile priority host (left_false _ _ addressed) (left_false _ _ heavy))
    ∙ ap (λ rows. row_of profile priority host ∷ rows) (hosts_known profile priority hosts (right_false _ _ addressed) (right_false _ _ heavy))

rank_known : (priority : ℕ) → nat_lt MAX_PRIORITY priority ≡ false → rank_of priority ≡ priority
rank_known priority e = grind (arith, nat_tests)

group_known : (profile : Profile) (group : Data) → (group_broken profile group).v12 ≡ false → (group_broken profile group).v13 ≡ false → made_group profile group ≡ group_rows profile group
unfolding group_broken made_group group_rows
group_known profile group addressed weighed =
    let rank = rank_known (priority_of group) (left_false _ _ (right_false _ _ weighed)) in
    ap (λ p. flat_map (host_rows profile p) (hosts_of group)) rank ∙ hosts_known profile (priority_of group) (hosts_of group) (left_false _ _ addressed) (left_false _ _ weighed)

groups_known : (profile : Profile) (groups : List Data) → list_any (λ g. (group_broken profile g).v12) groups ≡ false → list_any (λ g. (group_broken profile g).v13) groups ≡ false → flat_map (made_group profile) groups ≡ flat_map (group_rows profile) groups
groups_known profile [] addressed weighed = refl
groups_known profile (group ∷ groups) addressed weighed =
    ap (λ rows. rows ++ flat_map (made_group profile) groups) (group_known profile group (left_false _ _ addressed) (left_false _ _ weighed))
    ∙ ap (λ rows. group_rows profile group ++ rows) (groups_known profile groups (right_false _ _ addressed) (right_false _ _ weighed))

-- the rows that are made of an assignment that breaks neither V12 nor V13
pub rows_made : (profile : Profile) (tree : Data) → (assignment_broken profile tree).v12 ≡ false → (assignment_broken profile tree).v13 ≡ false → made_rows profile tree ≡ rows_of profile tree
unfolding assignment_broken made_rows rows_of
rows_made profile tree addressed weighed = groups_known profile (groups_of tree) addressed weighed

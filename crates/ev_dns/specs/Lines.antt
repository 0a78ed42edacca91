-- The lines of a script with resolutions of host names. All other lines are as in a script.
use Rattle.std.specs.Prelude.{ℕ, List, [], ◌∷◌, if◌then◌else◌, codes, Option, None, Some, option_map, option_and_then}
use Rattle.serde_json.specs.Data.{Data}
use Rattle.ev_types.specs.declared.events.Profile.{Profile}
use Rattle.ev_tree.specs.Scalars.{list_in}
use Rattle.ev_script.specs.Members.{name_of, member_of, member_or, is_op}
use Rattle.ev_script.specs.LineForms.{with_only}
use Rattle.ev_script.specs.Faults.{LineForms}
use Rattle.ev_script.specs.OwnOperations.{lines_with}
use Rattle.ev_dns.specs.declared.lines.Resolution.{Resolution}

-- each tree as the name that it is, where all are names
abbrev pub all_names : List Data → Option (List (List ℕ))
all_names [] = Some []
all_names (tree ∷ trees) = option_and_then (λ name. option_map (λ names. name ∷ names) (all_names trees)) (name_of tree)

-- the elements of an array of names
abbrev pub names_of : Data → Option (List (List ℕ))
names_of tree = option_and_then all_names (list_in tree)

-- addresses that are given
abbrev pub given_addresses : Data → Option (Option (List (List ℕ)))
given_addresses tree = option_map (λ names. Some names) (names_of tree)

-- the addresses that a resolution gives; where the member is absent, it failed
abbrev pub addresses_at : Data → Option (Option (List (List ℕ)))
addresses_at tree = member_or None given_addresses (codes "addresses") tree

-- a resolution, by its members
abbrev pub resolution_of : Data → Option Resolution
resolution_of tree = option_and_then
    (λ name. option_map (λ addresses. record { name = name; addresses = addresses }) (addresses_at tree))
    (member_of name_of (codes "name") tree)

-- the resolution that a line brings, or none where it isn't such a line: it has no other members
abbrev pub resolution_in : Data → Option Resolution
resolution_in tree =
    if is_op (codes "resolved") tree then with_only (codes "name" ∷ codes "addresses" ∷ []) tree (resolution_of tree)
    else None

-- a line with a resolution, in either profile: it names no worker
abbrev pub resolved_line : Profile → Data → Option (Option ℕ)
resolved_line profile tree = option_map (λ resolution. None) (resolution_in tree)

-- the forms of the lines
abbrev pub dns_lines : LineForms
dns_lines = lines_with (codes "resolved") resolved_line

-- What is known of host names, by the lines of resolutions, whether a stream is open there or not.
use Rattle.std.specs.Prelude.{ℕ, Bool, not, List, [], ◌∷◌, filter, filter_map, Option, None, if◌then◌else◌, unwrap_or}
use Rattle.std.specs.List.{list_any, list_all, last_or}
use Rattle.std.specs.Str.{bytes_eq}
use Rattle.serde_json.specs.Data.{Data}
use Rattle.ev_types.specs.Hosts.{HostRowParts}
use Rattle.ev_expand.specs.declared.keys.Key.{Key}
use Rattle.ev_dns.specs.declared.lines.Resolution.{Resolution}
use Rattle.ev_dns.specs.Lines.{resolution_in}
use Rattle.ev_dns.specs.Templates.{template_rows}

-- the resolutions in these lines
abbrev pub resolutions_in : List Data → List Resolution
resolutions_in lines = filter_map resolution_in lines

-- a resolution is of this name
abbrev pub is_of : List ℕ → Resolution → Bool
is_of name resolution = bytes_eq resolution.name name

-- the name was answered in these lines: by a failed resolution too
abbrev pub is_answered : List Data → List ℕ → Bool
is_answered lines name = list_any (is_of name) (resolutions_in lines)

-- what a resolution says of this name's addresses, where it is of the name and succeeded
abbrev pub success_of : List ℕ → Resolution → Option (List (List ℕ))
success_of name resolution = if is_of name resolution then resolution.addresses else None

-- each of these once, in the order of first appearance
abbrev pub names_once : List (List ℕ) → List (List ℕ)
names_once [] = []
names_once (first ∷ others) = first ∷ filter (λ other. not (bytes_eq other first)) (names_once others)

-- what the last success among these gives for the name
abbrev pub last_success : List ℕ → List Resolution → Option (List (List ℕ))
last_success name resolutions = last_or None (filter_map (λ resolution. success_of name resolution) resolutions)

-- the addresses of a name: those of its last success, or none
abbrev pub addresses_of : List Data → List ℕ → List (List ℕ)
addresses_of lines name = names_once (unwrap_or (last_success name (resolutions_in lines)) [])

-- each host name of the template was answered
abbrev pub is_complete : List Data → Key → Bool
is_complete lines key = list_all (λ (row : HostRowParts). is_answered lines row.host.address) (template_rows key)

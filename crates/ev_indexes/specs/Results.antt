-- Health results that are kept by number and host. Source:
-- cluster manager warming of Envoy's documentation (a first result of each host is awaited).
use Rattle.std.specs.Prelude.{◌≡◌, ◌≢◌, ℕ, Bool, false, not, ◌&&◌, ◌||◌, nat_eq, if◌then◌else◌, List, [], Option, Some, None, map, unwrap_or}
use Rattle.std.specs.Map.{lookup}
use Rattle.std.specs.HashMap.{HashMap, get}
use Rattle.ev_types.specs.SameHosts.{host_same, has_host}
use Rattle.ev_types.specs.Hosts.{HostRowParts}
use Rattle.ev_types.specs.declared.hosts.Host.{Host}

-- each number with its hosts, each host with its last result
abbrev pub HostResults : Type 0
HostResults = List (ℕ × List (Host × Bool))

-- the results of stored maps of maps
abbrev pub results_of : {S : Type 0} → List (ℕ × HashMap Host Bool S) → HostResults
results_of es = map (λ e. (e.0, e.1.entries)) es

-- the hosts of a number with their results
abbrev pub hosts_among : HostResults → ℕ → List (Host × Bool)
hosts_among kept number = unwrap_or (lookup (nat_eq number) kept) []

-- the result of a host for the generation of this number
abbrev pub result_among : HostResults → ℕ → Host → Option Bool
result_among kept number host = lookup (host_same host) (hosts_among kept number)

-- the row's host may be chosen for the generation of this number:
-- it is usable, and healthy where its hosts are health checked
abbrev pub is_eligible_among : HostResults → ℕ → Bool → HostRowParts → Bool
is_eligible_among kept number checked row = row.usable && (not checked || unwrap_or (result_among kept number row.host) false)

-- no number has a list without a result: without one it has no entry
abbrev pub HasNoEmpty : HostResults → Type 0
HasNoEmpty kept = (number : ℕ) → lookup (nat_eq number) kept ≢ Some []

-- the host has this result, and of each other host the map has what it had
abbrev pub Keeps : {S : Type 0} → HashMap Host Bool S → HashMap Host Bool S → Host → Bool → Type 0
Keeps old new host healthy = (h : Host) → get host_same new h ≡ (if host_same host h then Some healthy else get host_same old h)

-- the number has these results, and each other number what it had
abbrev pub HasHosts : {S T : Type 0} → HashMap ℕ (HashMap Host Bool S) T → HashMap ℕ (HashMap Host Bool S) T → ℕ → HashMap Host Bool S → Type 0
HasHosts old new number hosts = (n : ℕ) → get nat_eq new n ≡ (if nat_eq number n then Some hosts else get nat_eq old n)

-- of the hosts among these rows the map has what it had, and of no other
abbrev pub KeepsAmong : {S : Type 0} → HashMap Host Bool S → HashMap Host Bool S → List HostRowParts → Type 0
KeepsAmong old new rows = (h : Host) → get host_same new h ≡ (if has_host h rows then get host_same old h else None)

-- the host has this result for this number, and every other result stays
abbrev pub NotesAmong : HostResults → HostResults → ℕ → Host → Bool → Type 0
NotesAmong old new number host healthy =
    (n : ℕ) (h : Host) → result_among new n h ≡ (if nat_eq number n && host_same host h then Some healthy else result_among old n h)

-- the number has no results any more, and every other result stays
abbrev pub ForgetsAmong : HostResults → HostResults → ℕ → Type 0
ForgetsAmong old new number = (n : ℕ) (h : Host) → result_among new n h ≡ (if nat_eq number n then None else result_among old n h)

-- the number has no results of hosts that aren't among these rows, and every other result stays
abbrev pub TrimsAmong : HostResults → HostResults → ℕ → List HostRowParts → Type 0
TrimsAmong old new number rows =
    (n : ℕ) (h : Host) → result_among new n h ≡ (if nat_eq number n && not (has_host h rows) then None else result_among old n h)

-- What is kept of hosts: health results by number and host, and of some numbers the rows whose hosts
-- that may be chosen are marked.
-- Source: cluster manager warming of Envoy's documentation (a first result of each host is awaited).
use Rattle.std.specs.Prelude.{◌≡◌, ◌⊎◌, ℕ, Bool, true, not, ◌&&◌, nat_eq, if◌then◌else◌, List, Option, Some, None, filter, option_map}
use Rattle.std.specs.Map.{lookup}
use Rattle.ev_types.specs.SameHosts.{host_same, has_host}
use Rattle.ev_types.specs.Hosts.{HostRowParts}
use Rattle.ev_types.specs.declared.hosts.Host.{Host}
use Rattle.ev_indexes.specs.Results.{HostResults, result_among, is_eligible_among}

-- the results, and by number the rows whose hosts that may be chosen are marked
pub record ResultsKept : Type 0 where
  pub hosts : HostResults
  pub marked : List (ℕ × List HostRowParts)

-- the result of a host for the generation of this number
abbrev pub result_in : ResultsKept → ℕ → Host → Option Bool
result_in kept number host = result_among kept.hosts number host

-- the rows whose hosts that may be chosen are marked for the generation of this number
abbrev pub marked_in : ResultsKept → ℕ → Option (List HostRowParts)
marked_in kept number = lookup (nat_eq number) kept.marked

-- the row's host may be chosen for the generation of this number:
-- it is usable, and healthy where its hosts are health checked
abbrev pub is_eligible : ResultsKept → ℕ → Bool → HostRowParts → Bool
is_eligible kept number checked row = is_eligible_among kept.hosts number checked row

-- of the rows that are marked for the generation of this number,
-- those whose hosts may be chosen where its hosts are health checked
abbrev pub chosen_in : ResultsKept → ℕ → Option (List HostRowParts)
chosen_in kept number = option_map (λ rows. filter (is_eligible kept number true) rows) (marked_in kept number)

-- the host has this result for this number, and every other result stays
abbrev pub Notes : ResultsKept → ResultsKept → ℕ → Host → Bool → Type 0
Notes old new number host healthy =
    (n : ℕ) (h : Host) → result_in new n h ≡ (if nat_eq number n && host_same host h then Some healthy else result_in old n h)

-- the number has no results any more, and every other result stays
abbrev pub Forgets : ResultsKept → ResultsKept → ℕ → Type 0
Forgets old new number = (n : ℕ) (h : Host) → result_in new n h ≡ (if nat_eq number n then None else result_in old n h)

-- the number has no results of hosts that aren't among these rows, and every other result stays
abbrev pub Trims : ResultsKept → ResultsKept → ℕ → List HostRowParts → Type 0
Trims old new number rows =
    (n : ℕ) (h : Host) → result_in new n h ≡ (if nat_eq number n && not (has_host h rows) then None else result_in old n h)

-- the same rows are marked of each number
abbrev pub SameMarked : ResultsKept → ResultsKept → Type 0
SameMarked old new = (n : ℕ) → marked_in new n ≡ marked_in old n

-- no rows are marked of the number any more, and of every other number those that were
abbrev pub Unmarks : ResultsKept → ResultsKept → ℕ → Type 0
Unmarks old new number = (n : ℕ) → marked_in new n ≡ (if nat_eq number n then None else marked_in old n)

-- of each number the rows are marked that were, or these, where it is this number
abbrev pub MayMark : ResultsKept → ResultsKept → ℕ → List HostRowParts → Type 0
MayMark old new number rows =
    (n : ℕ) → (marked_in new n ≡ marked_in old n) ⊎ ((nat_eq number n ≡ true) × (marked_in new n ≡ Some rows))

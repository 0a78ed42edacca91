-- What nobody needs any more, and what is forgotten of it after each event. Source: cluster manager warming of Envoy's
-- documentation: values and results belong to what is watched.
use Rattle.std.specs.Prelude.{◌≡◌, ℕ, Bool, false, not, ◌&&◌, nat_eq, if◌then◌else◌, List, [], Option, Some, None, is_some}
use Rattle.std.specs.List.{list_any}
use Rattle.ev_types.specs.SameHosts.{has_host}
use Rattle.ev_types.specs.Statuses.{is_live}
use Rattle.ev_types.specs.declared.hosts.Host.{Host}
use Rattle.ev_types.specs.declared.rows.GenRow.{GenRow}
use Rattle.ev_model.specs.Watching.{Dependency, dependencies_of}
use Rattle.ev_indexes.specs.KeptEndpoints.{ResultsKept, marked_in, result_in}
use Rattle.ev_indexes.specs.Tables.{row_in}
use Rattle.ev_lookups.specs.Keys.{key_same}
use Rattle.ev_lookups.specs.declared.kind_keys.Key.{Key}
use Rattle.ev_indexes.specs.declared.watches.Watch.{Watch}
use Rattle.ev_indexes.specs.declared.state.State.{State}
use Rattle.ev_indexes.specs.Due.{is_one_of}
use Rattle.ev_indexes.specs.Watched.{WatchesKept, unwatched, watch_in, has_watcher}
use Rattle.ev_indexes.specs.Needs.{is_needed}
use Rattle.ev_indexes.specs.Ready.{assignment_in}
use Rattle.ev_indexes.specs.Indexes.{MarksAssignment, depends_on}

-- what a row depends on, where the row is found
abbrev pub needs_in : Option GenRow → List Dependency
needs_in None = []
needs_in (Some row) = dependencies_of row.content

-- one of the rows of these numbers depends on the name, or did so before it retired
abbrev pub is_need_of : List GenRow → List ℕ → Key → Bool
is_need_of rows numbers key = list_any (λ n. is_needed key (needs_in (row_in n rows))) numbers

-- no live row depends on the name
abbrev pub is_idle : List GenRow → Key → Bool
is_idle rows key = not (list_any (depends_on key) rows)

-- a row keeps its result of a host while it is live and the host is in its assignment
abbrev pub keeps_result : WatchesKept → Host → GenRow → Bool
keeps_result watches host row = is_live row.status && has_host host (assignment_in watches row.content)

-- a row is found that doesn't keep its result of a host
abbrev pub loses_result : WatchesKept → Host → Option GenRow → Bool
loses_result watches host None = false
loses_result watches host (Some row) = not (keeps_result watches host row)

-- nothing came for the name
pub record IsUnheard (watch : Watch) : Type 0 where
  pub told : watch.told ≡ None
  pub timed : watch.timed ≡ None
  pub value : watch.value ≡ None

-- what nobody needs any more is known only of the generations of these numbers and of the names that they depended on,
-- and of others rows are marked only that are their assignment
pub record IsTidyBut (s : State) (stale : List ℕ) : Type 0 where
  pub marks : (key : Key) → list_any (depends_on key) s.table.rows ≡ false → is_need_of s.table.rows stale key ≡ false → IsUnheard (watch_in s.watches key)
  pub results : (number : ℕ) (row : GenRow) (host : Host) → row_in number s.table.rows ≡ Some row → is_one_of stale number ≡ false → keeps_result s.watches host row ≡ false
      → result_in s.results number host ≡ None
  pub marked : (number : ℕ) → is_one_of stale number ≡ false → MarksAssignment s number

-- nothing is known any more of the name, where no generation depends on it, and of every other name what was known
abbrev pub ForgetsIdle : WatchesKept → WatchesKept → Key → Type 0
ForgetsIdle old new key = (other : Key) → watch_in new other
    ≡ (if key_same key other && not (has_watcher (watch_in old other)) then unwatched else watch_in old other)

-- nothing is known any more of a name that one of these is on, where no generation depends on it, and of every other
-- name what was known
abbrev pub ForgetsNeeds : WatchesKept → WatchesKept → List Dependency → Type 0
ForgetsNeeds old new ds = (key : Key) → watch_in new key
    ≡ (if is_needed key ds && not (has_watcher (watch_in old key)) then unwatched else watch_in old key)

-- the same of the names that the row of this number depends on, by a search of the rows
abbrev pub ForgetsNeedsOf : State → State → ℕ → Type 0
ForgetsNeedsOf old new number = (key : Key) → watch_in new.watches key
    ≡ (if is_needed key (needs_in (row_in number old.table.rows)) && is_idle old.table.rows key then unwatched else watch_in old.watches key)

-- the results that a row doesn't keep are gone, and every other result stays
abbrev pub TrimsRow : WatchesKept → ResultsKept → ResultsKept → GenRow → Type 0
TrimsRow watches old new row = (number : ℕ) (host : Host) → result_in new number host
    ≡ (if nat_eq row.number number && not (keeps_result watches host row) then None else result_in old number host)

-- the same of the row of this number, where it is found
abbrev pub TrimsRowOf : State → State → ℕ → Type 0
TrimsRowOf old new number = (n : ℕ) (host : Host) → result_in new.results n host
    ≡ (if nat_eq number n && loses_result old.watches host (row_in n old.table.rows) then None else result_in old.results n host)

-- no rows are marked of the row of this number, where it is found, and of every other number those that were
abbrev pub UnmarksRowOf : State → State → ℕ → Type 0
UnmarksRowOf old new number = (n : ℕ) → marked_in new.results n
    ≡ (if nat_eq number n && is_some (row_in n old.table.rows) then None else marked_in old.results n)

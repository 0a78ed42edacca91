-- What is known of names that generations depend on. Source:
-- cluster manager warming of Envoy's documentation: a wait ends with a word of the control plane or,
-- where it is limited, with the initial fetch timeout.
use Rattle.std.specs.Prelude.{ℕ, ◌-◌, Bool, true, false, not, ◌||◌, nat_eq, if◌then◌else◌, List, [], ◌∷◌, ◌++◌, Option, Some, None, filter, length, slice_get}
use Rattle.ev_types.specs.declared.rows.Arrival.{Arrival}
use Rattle.ev_types.specs.declared.rows.Arrival.TheVariants.{Value, Absent, Bad, TimedOut, Ended}
use Rattle.ev_model.specs.Watching.{Dependency}
use Rattle.ev_lookups.specs.declared.kind_keys.Key.{Key}
use Rattle.ev_indexes.specs.declared.watches.Watch.{Watch}
use Rattle.ev_indexes.specs.Due.{has_number}
use Rattle.ev_indexes.specs.Kept.{kept_at, Sets}
use Rattle.ev_indexes.specs.Needs.{is_needed, is_needed_so}

-- names with what is known of each
abbrev pub WatchesKept : Type 0
WatchesKept = List (Key × Watch)

-- nothing is known, and no generation depends on the name
abbrev pub unwatched : Watch
unwatched = record { unlimited = []; limited = []; told = None; timed = None; value = None }

-- what is known of this name
abbrev pub watch_in : WatchesKept → Key → Watch
watch_in kept key = kept_at unwatched kept key

-- what is known of the name turns into what the change makes of it, and every other name's stays
abbrev pub Turns : (Watch → Watch) → WatchesKept → WatchesKept → Key → Type 0
Turns change old new key = Sets unwatched old new key (change (watch_in old key))

-- the number is the other one, where there is one
abbrev pub is_other : ℕ → Option ℕ → Bool
is_other number None = false
is_other number (Some other) = nat_eq other number

-- the number is the last of these
abbrev pub is_last : ℕ → List ℕ → Bool
is_last number numbers = is_other number (slice_get numbers (length numbers - 1))

-- these numbers and this one after them, where it isn't their last
abbrev pub with_last : ℕ → List ℕ → List ℕ
with_last number numbers = if is_last number numbers then numbers else numbers ++ number ∷ []

-- one more generation depends on the name, within a limit or without one
abbrev pub watched_too : ℕ → Bool → Watch → Watch
watched_too number limited watch = record watch {
  unlimited = if limited then watch.unlimited else with_last number watch.unlimited;
  limited = if limited then with_last number watch.limited else watch.limited;
}

-- the generation of this number, which depends on these, is among those that depend on the name, where it does
abbrev pub watched_for : ℕ → Key → List Dependency → Watch → Watch
watched_for number key ds watch = record watch {
  unlimited = if is_needed_so key false ds then with_last number watch.unlimited else watch.unlimited;
  limited = if is_needed_so key true ds then with_last number watch.limited else watch.limited;
}

-- these numbers without this one
abbrev pub numbers_without : ℕ → List ℕ → List ℕ
numbers_without number numbers = filter (λ n. not (nat_eq number n)) numbers

-- a generation no longer depends on the name
abbrev pub watched_less : ℕ → Watch → Watch
watched_less number watch = record watch { unlimited = numbers_without number watch.unlimited; limited = numbers_without number watch.limited }

-- the generation of this number, which depends on these, is none any more of those that depend on the name
abbrev pub unwatched_for : ℕ → Key → List Dependency → Watch → Watch
unwatched_for number key ds watch = if is_needed key ds then watched_less number watch else watch

-- the numbers of the generations that depend on the name:
-- those that wait without a limit, and those that wait within one
abbrev pub watchers_of : Watch → List ℕ
watchers_of watch = watch.unlimited ++ watch.limited

-- a generation depends on the name
abbrev pub has_watcher : Watch → Bool
has_watcher watch = has_number watch.unlimited || has_number watch.limited

-- something was received for the name when so many numbers were allocated
abbrev pub with_arrival : ℕ → Arrival → Watch → Watch
with_arrival made (Value content) watch = record watch { told = Some made; value = Some content }
with_arrival made Absent watch = record watch { told = Some made }
with_arrival made Bad watch = record watch { told = Some made }
with_arrival made TimedOut watch = record watch { timed = Some made }
with_arrival made (Ended content) watch = record watch { value = Some content }

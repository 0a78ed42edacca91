-- Which rows are due, by what is known of names and by the results that are kept:
-- the machine's words, where what was received is looked up. Source: cluster manager warming of Envoy's documentation.
use Rattle.std.specs.Prelude.{◌≡◌, ℕ, if◌then◌else◌, Bool, false, not, ◌&&◌, ◌||◌, List, [], Option, Some, None, is_some}
use Rattle.std.specs.List.{list_all}
use Rattle.ev_types.specs.Hosts.{HostRowParts}
use Rattle.ev_types.specs.SameHosts.{has_host}
use Rattle.ev_types.specs.Statuses.{is_warming}
use Rattle.ev_types.specs.declared.contents.Content.{Content}
use Rattle.ev_types.specs.declared.contents.Kind.TheVariants.{Eds}
use Rattle.ev_types.specs.declared.contents.Content.TheVariants.{Cluster as a_cluster, Assignment as an_assignment, Listener as a_listener, Routes as routes, Secret as a_secret, Extension as an_extension}
use Rattle.ev_types.specs.declared.clusters.Discovery.{Discovery}
use Rattle.ev_types.specs.declared.clusters.Discovery.TheVariants.{Static, Eds as by_eds, Elsewhere}
use Rattle.ev_types.specs.declared.hosts.Host.{Host}
use Rattle.ev_types.specs.declared.rows.GenRow.{GenRow}
use Rattle.ev_model.specs.Watching.{Dependency, dependencies_of}
use Rattle.ev_model.specs.Warming.{counts_for, rows_in, is_checked}
use Rattle.ev_indexes.specs.KeptEndpoints.{ResultsKept, result_in}
use Rattle.ev_indexes.specs.Tables.{row_in}
use Rattle.ev_lookups.specs.Keys.{named}
use Rattle.ev_indexes.specs.Due.{is_one_of}
use Rattle.ev_indexes.specs.Needs.{key_of}
use Rattle.ev_indexes.specs.Watched.{WatchesKept, watch_in}

-- what the generation of this number depends on was received
abbrev pub has_word_in : WatchesKept → ℕ → Dependency → Bool
has_word_in watches number d = counts_for number d (watch_in watches (key_of d)).told

-- its wait timed out
abbrev pub has_timeout_in : WatchesKept → ℕ → Dependency → Bool
has_timeout_in watches number d = counts_for number d (watch_in watches (key_of d)).timed

-- what it depends on was received, or the wait has timed out where it is limited
abbrev pub has_answer_in : WatchesKept → ℕ → Dependency → Bool
has_answer_in watches number d = has_word_in watches number d || (has_timeout_in watches number d && d.limited)

-- the generation of this number and content is answered: each of its dependencies is
abbrev pub is_answered_in : WatchesKept → ℕ → Content → Bool
is_answered_in watches number content = list_all (has_answer_in watches number) (dependencies_of content)

-- the hosts given in a cluster, or the value of its service, or none
abbrev pub discovered_in : WatchesKept → Discovery → List HostRowParts
discovered_in watches (Static rows) = rows
discovered_in watches (by_eds service limited fresh) = rows_in (watch_in watches (named Eds service)).value
discovered_in watches Elsewhere = []

-- the assignment of a content
abbrev pub assignment_in : WatchesKept → Content → List HostRowParts
assignment_in watches (a_cluster cluster) = discovered_in watches cluster.discovery
assignment_in watches (an_assignment rows) = []
assignment_in watches (a_listener listener) = []
assignment_in watches (routes table) = []
assignment_in watches a_secret = []
assignment_in watches an_extension = []

-- the hosts of a generation of this content are health checked, and the host is one of them now
abbrev pub takes_result : WatchesKept → Host → Content → Bool
takes_result watches host content = is_checked content && has_host host (assignment_in watches content)

-- each of these hosts has a result for the row of this number
abbrev pub are_results_in : ResultsKept → ℕ → List HostRowParts → Bool
are_results_in results number hosts = list_all (λ (h : HostRowParts). is_some (result_in results number h.host)) hosts

-- a generation has a result of each host, where its hosts are health checked
abbrev pub is_round_done_in : WatchesKept → ResultsKept → ℕ → Content → Bool
is_round_done_in watches results number content = not (is_checked content) || are_results_in results number (assignment_in watches content)

-- the row is ready
abbrev pub is_ready_in : WatchesKept → ResultsKept → GenRow → Bool
is_ready_in watches results row = is_answered_in watches row.number row.content && is_round_done_in watches results row.number row.content

-- the row warms and is ready
abbrev pub is_due_in : WatchesKept → ResultsKept → GenRow → Bool
is_due_in watches results row = is_warming row.status && is_ready_in watches results row

-- a row is found, and it is due
abbrev pub is_due_found : WatchesKept → ResultsKept → Option GenRow → Bool
is_due_found watches results None = false
is_due_found watches results (Some row) = is_due_in watches results row

-- the row of this number is due
abbrev pub is_due_at : WatchesKept → ResultsKept → ℕ → List GenRow → Bool
is_due_at watches results number rows = is_due_found watches results (row_in number rows)

-- of these numbers those are due whose rows are due, and of all others those that were
abbrev pub Refreshes : WatchesKept → ResultsKept → List GenRow → List ℕ → List ℕ → List ℕ → Type 0
Refreshes watches results rows numbers old new =
    (number : ℕ) → is_one_of new number ≡ (if is_one_of numbers number then is_due_at watches results number rows else is_one_of old number)

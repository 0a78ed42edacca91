-- What a state that represents a world has of it: the same hosts, and the same rows are ready.
use Rattle.std.proofs.Common.{◌≡◌, ◌∙◌, ℕ, not, ◌&&◌, ◌||◌, List, [], ◌∷◌, IsSome, is_some, refl, ap}
use Rattle.ev_types.specs.Hosts.{HostRowParts}
use Rattle.ev_types.specs.declared.contents.Kind.TheVariants.{Eds}
use Rattle.ev_types.specs.declared.contents.Content.{Content}
use Rattle.ev_types.specs.declared.contents.Content.TheVariants.{Cluster as a_cluster, Assignment as an_assignment, Listener as a_listener, Routes as routes, Secret as a_secret, Extension as an_extension}
use Rattle.ev_types.specs.declared.clusters.Discovery.{Discovery}
use Rattle.ev_types.specs.declared.clusters.Discovery.TheVariants.{Static, Eds as by_eds, Elsewhere}
use Rattle.ev_types.specs.declared.rows.GenRow.{GenRow}
use Rattle.ev_model.specs.World.{World, Arrived, HealthResult}
use Rattle.ev_model.specs.Watching.{Dependency, dependencies_of}
use Rattle.ev_model.specs.Warming.{counts_for, has_answer, discovered, assignment_by, rows_in, has_result, has_all_results, value_by, is_answered_by, is_ready_by, is_checked}
use Rattle.ev_indexes.specs.KeptEndpoints.{ResultsKept, result_in}
use Rattle.ev_indexes.specs.Tables.{row_in}
use Rattle.ev_lookups.specs.Keys.{named}
use Rattle.ev_lookups.specs.declared.kind_keys.Key.{Key}
use Rattle.ev_indexes.specs.declared.state.State.{State}
use Rattle.ev_indexes.specs.Needs.{key_of}
use Rattle.ev_indexes.specs.Watched.{WatchesKept, watch_in}
use Rattle.ev_indexes.specs.Ready.{has_answer_in, discovered_in, assignment_in, are_results_in, is_answered_in, is_ready_in}
use Rattle.ev_indexes.specs.Worlds.{HasRows}
use Rattle.ev_indexes.proofs.DependencyLemmas.{all-same}

all_results : (results : ResultsKept) (world_results : List HealthResult) (number : ℕ)
    → ((h : HostRowParts) → is_some (result_in results number h.host) ≡ has_result world_results number h.host)
    → (hosts : List HostRowParts) → are_results_in results number hosts ≡ has_all_results world_results number hosts
all_results results world_results number same [] = refl
all_results results world_results number same (h ∷ hosts) = λ i. same h i && all_results results world_results number same hosts i

-- where names have the same values, contents have the same assignments
module _ (watches : WatchesKept) (arrivals : List Arrived) (values : (key : Key) → (watch_in watches key).value ≡ value_by arrivals key.kind key.name) where
  pub hosts-by : (content : Content) → assignment_in watches content ≡ assignment_by arrivals content
  hosts-by (a_cluster cluster) = by cluster.discovery
    where
      by : (d : Discovery) → discovered_in watches d ≡ discovered arrivals d
      by (Static rows) = refl
      by (by_eds service l f) = ap rows_in (values (named Eds service))
      by Elsewhere = refl
  hosts-by (an_assignment rows) = refl
  hosts-by (a_listener listener) = refl
  hosts-by (routes table) = refl
  hosts-by a_secret = refl
  hosts-by an_extension = refl

module _ (s : State) (world : World) (stands : HasRows s world) where
  answered : (number : ℕ) (content : Content) → is_answered_in s.watches number content ≡ is_answered_by world.arrivals number content
  answered number content = all-same (has_answer_in s.watches number) (has_answer world.arrivals number) one (dependencies_of content)
    where
      one : (d : Dependency) → has_answer_in s.watches number d ≡ has_answer world.arrivals number d
      one d = λ i. counts_for number d (stands.told (key_of d) i) || (counts_for number d (stands.timed (key_of d) i) && d.limited)

  pub hosts : (content : Content) → assignment_in s.watches content ≡ assignment_by world.arrivals content
  hosts = hosts-by s.watches world.arrivals stands.value

  -- the same rows are ready
  pub ready_too : (row : GenRow) → IsSome (row_in row.number s.table.rows) → is_ready_in s.watches s.results row ≡ is_ready_by world.arrivals world.results row
  ready_too row there = λ i.
      answered row.number row.content i
      && (not (is_checked row.content)
      || ((λ j. are_results_in s.results row.number (hosts row.content j))
      ∙ all_results s.results world.results row.number (λ h. stands.resulted row.number h.host there) (assignment_by world.arrivals row.content)) i)

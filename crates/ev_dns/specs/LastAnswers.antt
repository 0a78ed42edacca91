-- What is known of the private names of templates after the last line that a line of the input gave.
use Rattle.std.specs.Prelude.{◌≡◌, ℕ, ◌+◌, ◌<◌, true, List, length, take, Contains, Some, None, slice_get, codes}
use Rattle.serde_json.specs.Data.{Data}
use Rattle.ev_types.specs.Scripts.{IsScript, ScriptParts}
use Rattle.ev_types.specs.declared.contents.Kind.TheVariants.{Eds}
use Rattle.ev_types.specs.declared.contents.Content.TheVariants.{Assignment as an_assignment}
use Rattle.ev_types.specs.declared.events.Actor.TheVariants.{Stream}
use Rattle.ev_types.specs.declared.events.Entry.{Entry}
use Rattle.ev_types.specs.declared.events.Profile.{Profile}
use Rattle.ev_types.specs.declared.journals.Format.{Format}
use Rattle.ev_types.specs.declared.rows.Live.{Live}
use Rattle.ev_model.specs.World.{World}
use Rattle.ev_model.specs.Live.{lives_of}
use Rattle.ev_model.specs.Operations.{IsRunOf}
use Rattle.ev_model.specs.Runs.{world_at}
use Rattle.ev_model.specs.Warming.{has_word, is_told, value_of}
use Rattle.ev_model.specs.Watching.{Dependency, dependencies_of, is_dependency, is_watched}
use Rattle.ev_script.specs.declared.trees.ScriptTrees.{ScriptTrees}
use Rattle.ev_expand.specs.declared.keys.Key.{Key}
use Rattle.ev_expand.specs.Guarding.{Guarded, guarded_by, private_name}
use Rattle.ev_expand.specs.Private.{first_use}
use Rattle.ev_expand.specs.Said.{expanded_script, given_lines, lines_in}
use Rattle.ev_dns.specs.Answers.{is_complete}
use Rattle.ev_dns.specs.Resolving.{dns_rules, resolved_hosts}
use Rattle.ev_dns.specs.Templates.{by_names}

-- the script that the command writes
abbrev pub answered_script : ScriptTrees → ScriptParts
answered_script trees = expanded_script (dns_rules trees.header.profile) trees

-- the world after the entry at place k of a run of it
abbrev pub world_behind : Format → ScriptTrees → List Entry → ℕ → World
world_behind format trees journal k =
    world_at format (answered_script trees).workers (answered_script trees).node journal (k + 1)

-- the number of the last line of the text that the header and these lines of the input give
abbrev pub last_number : Profile → List Data → ℕ
last_number profile lines = length (given_lines (dns_rules profile) lines) + 1

-- The entry at place k is one of the stream, by the last line that a line of the input gave. The lines of an input
-- are counted from 0, after its header.
pub record IsLastEntry (profile : Profile) (journal : List Entry) (k : ℕ) (lines : List Data) (index : ℕ) : Type 0 where
  pub entry : Entry
  pub there : slice_get journal k ≡ Some entry
  pub by : entry.actor ≡ Stream
  pub own : last_number profile (take index lines) < entry.at
  pub last : entry.at ≡ last_number profile (take (index + 1) lines)

-- the name by which the endpoints of a place are asked for
abbrev pub name_of_place : ℕ → List ℕ
name_of_place place = private_name (codes "dns/") place

-- The endpoints of a place have come exactly where its template is complete by these lines, and are then its hosts.
-- This holds for each live generation that depends on them: where its wait is fresh they have come since it was made.
pub record HasLastAnswers (world : World) (lines : List Data) (place : ℕ) (key : Key) : Type 0 where
  pub told : is_told world Eds (name_of_place place) ≡ is_complete lines key
  pub words : (live : Live) (d : Dependency)
      → Contains (lives_of world) live → Contains (dependencies_of live.content) d → is_dependency Eds (name_of_place place) d ≡ true
      → has_word world.arrivals live.number d ≡ is_complete lines key
  pub hosts : is_complete lines key ≡ true
      → value_of world Eds (name_of_place place) ≡ Some (an_assignment (resolved_hosts lines key))

-- this holds for each place that is watched, after an entry which leaves the stream open and is its input line's last
abbrev pub AreLastAnswers : Format → ScriptTrees → List Entry → Type 0
AreLastAnswers format trees journal =
    (k index place : ℕ) (guarded : Guarded)
    → IsLastEntry trees.header.profile journal k (lines_in trees) index
    → (world_behind format trees journal k).stream ≡ true
    → slice_get (guarded_by (by_names trees.header.profile) (lines_in trees)) place ≡ Some guarded
    → is_watched (lives_of (world_behind format trees journal k)) Eds (name_of_place place) ≡ true
    → HasLastAnswers (world_behind format trees journal k) (take (index + 1) (lines_in trees)) place guarded.key

-- so is every run of the script that is written, where no line of the input uses a private name
abbrev pub LastAnswers : Type 0
LastAnswers =
    (trees : ScriptTrees) (format : Format) (journal : List Entry)
    → first_use trees.header.profile (codes "dns/") (lines_in trees) ≡ None
    → IsScript (answered_script trees)
    → IsRunOf format (answered_script trees) journal
    → AreLastAnswers format trees journal

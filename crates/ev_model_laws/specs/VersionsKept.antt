-- Of each kind and name at most one version is kept, and the versions are in the order of their names.
use Rattle.std.specs.Prelude.{◌≡◌, ℕ, ◌≤◌, false, List, [], ◌∷◌, length, filter, ⊤}
use Rattle.std.specs.List.{AllByRecursion}
use Rattle.ev_types.specs.declared.contents.Kind.{Kind}
use Rattle.ev_types.specs.declared.rows.KeptVersion.{KeptVersion}
use Rattle.ev_types.specs.declared.events.Actor.{Actor}
use Rattle.ev_types.specs.declared.events.Event.{Event}
use Rattle.ev_types.specs.declared.events.Entry.{Entry}
use Rattle.ev_types.specs.declared.journals.Format.{Format}
use Rattle.ev_model.specs.World.{World, opening}
use Rattle.ev_model.specs.Versions.{is_version_of, is_before}
use Rattle.ev_model.specs.Step.{step}
use Rattle.ev_model.specs.Runs.{world_after}

-- no version's name is before the name of a version that precedes it
abbrev pub AreByName : List KeptVersion → Type 0
AreByName [] = ⊤
AreByName (kept ∷ others) = AllByRecursion (λ (other : KeptVersion). is_before other.name kept.name ≡ false) others × AreByName others

-- of each kind and name there is at most one version, and the versions are in the order of their names
pub record AreKeptOnce (versions : List KeptVersion) : Type 0 where
  pub once : (kind : Kind) (name : List ℕ) → length (filter (is_version_of kind name) versions) ≤ 1
  pub by_name : AreByName versions

-- it is so of the versions that a world keeps
abbrev pub KeepsOnce : World → Type 0
KeepsOnce world = AreKeptOnce world.versions

-- it is so at the start, after each event, and after any entries
pub record KeepsVersions : Type 0 where
  pub opens : (workers : ℕ) (node : List ℕ) → KeepsOnce (opening workers node)
  pub steps : (format : Format) (world : World) (actor : Actor) (event : Event)
      → KeepsOnce world → KeepsOnce (step format world actor event).0
  pub runs : (format : Format) (workers : ℕ) (node : List ℕ) (entries : List Entry)
      → KeepsOnce (world_after format (opening workers node) entries)

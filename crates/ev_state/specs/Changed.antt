-- Of which generations a picture may show something else than before an event.
use Rattle.std.specs.Prelude.{◌≡◌, ℕ, false, not, ◌&&◌, if◌then◌else◌, List, []}
use Rattle.std.specs.List.{flat_map}
use Rattle.ev_types.specs.Items.{ItemParts}
use Rattle.ev_types.specs.declared.contents.Kind.{Kind}
use Rattle.ev_types.specs.declared.contents.Kind.TheVariants.{Lds}
use Rattle.ev_types.specs.declared.rows.Phase.{Phase}
use Rattle.ev_model.specs.World.{World}
use Rattle.ev_model.specs.Phase.{is_serving}
use Rattle.ev_lookups.specs.Keys.{named}
use Rattle.ev_indexes.specs.declared.state.State.{State}
use Rattle.ev_indexes.specs.Due.{is_one_of}
use Rattle.ev_indexes.specs.Indexes.{numbers_waiting, numbers_where}
use Rattle.ev_indexes.specs.Reads.{lives_as}
use Rattle.ev_indexes.specs.Shown.{cluster_at, listener_at}

-- a picture shows the same of each other number before and after
pub record HaveChanged (changed : List ℕ) (before after : World) : Type 0 where
  pub clusters : (number : ℕ) → is_one_of changed number ≡ false → cluster_at after number ≡ cluster_at before number
  pub listeners : (number : ℕ) → is_one_of changed number ≡ false → listener_at after number ≡ listener_at before number

-- the numbers of the live generations that depend on this name of a kind; one that waits for it both ways stands twice
abbrev pub dependents_in : State → Kind → List ℕ → List ℕ
dependents_in s kind name = numbers_waiting s.table.rows (named kind name)

-- the numbers of those that depend on the name of one of these resources
abbrev pub dependents_of : State → Kind → List ItemParts → List ℕ
dependents_of s kind items = flat_map (λ (item : ItemParts). dependents_in s kind item.name) items

-- the numbers of the live listeners, where listeners serve in the second phase and not in the first
abbrev pub listeners_begun : Phase → Phase → State → List ℕ
listeners_begun before after s = if not (is_serving before) && is_serving after then numbers_where (lives_as Lds) s.table.rows else []

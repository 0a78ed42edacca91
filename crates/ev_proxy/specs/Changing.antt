-- What the next publication looks at: the generations of which a picture may show something else than the last one.
-- This project's own.
use Rattle.std.specs.Prelude.{◌≡◌, ℕ, false, List, map}
use Rattle.ev_model.specs.World.{World}
use Rattle.ev_model.specs.Dead.{last_picture}
use Rattle.ev_indexes.specs.Due.{is_one_of}
use Rattle.ev_indexes.specs.Shown.{cluster_at, listener_at}
use Rattle.ev_snapshot.specs.Tables.{cluster_numbered, listener_numbered}
use Rattle.ev_snapshot.specs.declared.changes.Changes.{Changes}
use Rattle.ev_snapshot.specs.declared.changes.ClusterChange.{ClusterChange}
use Rattle.ev_snapshot.specs.declared.changes.ListenerChange.{ListenerChange}

-- the last picture shows of each other number what is to be shown of it now
pub record IsShownBut (numbers : List ℕ) (world : World) : Type 0 where
  pub clusters : (number : ℕ) → is_one_of numbers number ≡ false → cluster_numbered (last_picture world).shown.clusters number ≡ cluster_at world number
  pub listeners : (number : ℕ) → is_one_of numbers number ≡ false → listener_numbered (last_picture world).shown.listeners number ≡ listener_at world number

-- what is to be shown of the cluster of this number
abbrev pub cluster_change : World → ℕ → ClusterChange
cluster_change world number = record { number = number; served = cluster_at world number }

-- what is to be shown of the listener of this number
abbrev pub listener_change : World → ℕ → ListenerChange
listener_change world number = record { number = number; served = listener_at world number }

-- what is to be shown of these numbers
abbrev pub changes_at : World → List ℕ → Changes
changes_at world numbers = record {
  clusters = map (cluster_change world) numbers;
  listeners = map (listener_change world) numbers;
}

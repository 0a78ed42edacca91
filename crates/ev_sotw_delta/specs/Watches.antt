-- The names that requests list are those that are watched.
use Rattle.std.specs.Prelude.{◌≡◌, ℕ, true, List, map, take}
use Rattle.ev_types.specs.Kinds.{is_by_name}
use Rattle.ev_types.specs.declared.contents.Kind.{Kind}
use Rattle.ev_types.specs.declared.events.Entry.{Entry}
use Rattle.ev_types.specs.declared.journals.Format.{Format}
use Rattle.ev_model.specs.Runs.{IsRun, world_at}
use Rattle.ev_model.specs.Watching.{watched_of}
use Rattle.ev_sotw.specs.Stated.{Stated, names_asked}

-- the entries of a journal, each with a version
abbrev pub entries_in : List Stated → List Entry
entries_in stated = map (λ (one : Stated). one.entry) stated

-- while a stream is open, the names that the entries so far ask for are those that are watched
abbrev pub RequestsTellWatches : Type 0
RequestsTellWatches =
    (format : Format) (workers : ℕ) (node : List ℕ) (stated : List Stated) (kind : Kind) (k : ℕ)
    → IsRun format workers node (entries_in stated) → is_by_name kind ≡ true
    → (world_at format workers node (entries_in stated) k).stream ≡ true
    → names_asked kind (take k stated) ≡ watched_of (world_at format workers node (entries_in stated) k) kind

-- A worker that rests settles only where it learns something:
-- a settle that it makes at rest takes over a newer picture. This project's own;
-- a replay makes every settle, so its journal is no such one where a worker rests and nothing was published since.
use Rattle.std.specs.Prelude.{ℕ, ◌<◌, true, Bool, ◌&&◌, if◌then◌else◌, IsTrue, List, [], ◌∷◌, ⊤}
use Rattle.ev_types.specs.declared.events.Actor.TheVariants.{Worker}
use Rattle.ev_types.specs.declared.events.Entry.{Entry}
use Rattle.ev_types.specs.declared.journals.Format.{Format}
use Rattle.ev_model.specs.World.{World, last_version, opening}
use Rattle.ev_model.specs.Dead.{version_held}
use Rattle.ev_model.specs.Step.{step}
use Rattle.ev_model.specs.Operations.{actor_same, is_settle, operation_of, rests_behind}

-- the entry is a settle of this worker
abbrev pub is_settle_by : ℕ → Entry → Bool
is_settle_by worker entry = is_settle entry.event && actor_same entry.actor (Worker worker)

-- whether the worker rests after an entry that led to this world:
-- after its own if it settled with nothing open, after another's as before
abbrev pub rests_after : ℕ → Bool → World → Entry → Bool
rests_after worker rests after entry = if actor_same entry.actor (Worker worker) then rests_behind after (operation_of entry) else rests

-- a newer picture was published than the one that the worker holds
abbrev pub IsBehind : ℕ → World → Type 0
IsBehind worker world = version_held world worker < last_version world

-- from this world on, where it is said whether the worker rests,
-- each settle that it makes at rest takes over a newer picture
abbrev pub SettlesForNews : Format → ℕ → Bool → World → List Entry → Type 0
SettlesForNews format worker rests world [] = ⊤
SettlesForNews format worker rests world (entry ∷ entries) =
    let after = (step format world entry.actor entry.event).0 in
    (IsTrue (rests && is_settle_by worker entry) → IsBehind worker world)
    × SettlesForNews format worker (rests_after worker rests after entry) after entries

-- this holds for each of a journal's workers, all of which rest at first
abbrev pub IdleSettlesBringNews : Format → ℕ → List ℕ → List Entry → Type 0
IdleSettlesBringNews format workers node journal =
    (worker : ℕ) → worker < workers → SettlesForNews format worker true (opening workers node) journal

-- Which operations a script holds for each actor, in which order a replay takes them,
-- and when a journal holds them. This project's own.
use Rattle.std.specs.Prelude.{ℕ, ◌≡◌, ◌+◌, ◌%◌, Bool, true, false, not, ◌&&◌, ◌||◌, ◌==◌, IsTrue, ◌⊎◌, ⊤, nat_lt, nat_le, if◌then◌else◌, List, [], ◌∷◌, ◌++◌, map, filter, length, refl}
use Rattle.std.specs.Bool.{Decides}
use Rattle.std.specs.List.{range_with_len, list_any, flat_map}
use Rattle.std.proofs.Common.{ap}
use Rattle.ev_types.specs.Same.{decides_as, numbers_decide}
use Rattle.ev_types.specs.Scripts.{ScriptParts}
use Rattle.ev_types.specs.declared.journals.Format.{Format}
use Rattle.ev_types.specs.declared.journals.Format.TheVariants.{One, Two}
use Rattle.ev_types.specs.declared.events.Actor.{Actor}
use Rattle.ev_types.specs.declared.events.Actor.TheVariants.{Stream, Health, Timer, Main, Worker}
use Rattle.ev_types.specs.declared.events.Event.{Event}
use Rattle.ev_types.specs.declared.events.Event.TheVariants.{Connect, Disconnect, Response, Health as health, FetchTimeout, DrainTimeout, TtlExpired, Publish, Reap, Accept, Close, Settle}
use Rattle.ev_types.specs.declared.events.Answer.{Answer}
use Rattle.ev_types.specs.declared.events.Entry.{Entry}
use Rattle.ev_types.specs.declared.events.Line.{Line}
use Rattle.ev_model.specs.World.{World, OpenMember, opening}
use Rattle.ev_model.specs.Step.{step}
use Rattle.ev_model.specs.Runs.{IsRun, is_batched}

-- what an actor does at a line of the script, or in a step after it
pub record Operation : Type 0 where
  pub actor : Actor
  pub at : ℕ
  pub step : ℕ
  pub event : Event

-- a line is one operation of its actor
abbrev pub line_operation : Line → Operation
line_operation line = record { actor = line.actor; at = line.at; step = 0; event = line.event }

-- a step of the line's actor after the line
abbrev pub step_behind : Line → ℕ → Event → Operation
step_behind line step event = record { actor = line.actor; at = line.at; step = step; event = event }

-- each worker settles once more after the script's last line
abbrev pub last_settle : ScriptParts → ℕ → Operation
last_settle script worker = record { actor = Worker worker; at = script.count + 1; step = 0; event = Settle }

-- the two are the same actor
abbrev pub actor_same : Actor → Actor → Bool
actor_same Stream Stream = true
actor_same Health Health = true
actor_same Timer Timer = true
actor_same Main Main = true
actor_same (Worker a) (Worker b) = a == b
actor_same a b = false

-- the test holds of equal actors alone
pub actor_decides : (a b : Actor) → Decides (actor_same a b) (a ≡ b)
actor_decides Stream Stream = (λ h. refl, λ e. refl)
actor_decides Health Health = (λ h. refl, λ e. refl)
actor_decides Timer Timer = (λ h. refl, λ e. refl)
actor_decides Main Main = (λ h. refl, λ e. refl)
actor_decides (Worker a) (Worker b) = decides_as (numbers_decide a b) (λ e. ap Worker e) (λ e. cc)
actor_decides a b = (λ h. cc, λ e. cc)

-- an actor whose lines are followed by a publication and a reaping, where the script says `auto`
abbrev pub is_automatic : Actor → Bool
is_automatic Stream = true
is_automatic Health = true
is_automatic Timer = true
is_automatic Main = false
is_automatic (Worker worker) = false

-- a worker settles
abbrev pub is_settle : Event → Bool
is_settle Connect = false
is_settle Disconnect = false
is_settle (Response response) = false
is_settle (health cluster host healthy) = false
is_settle (FetchTimeout timeout) = false
is_settle (DrainTimeout listener) = false
is_settle (TtlExpired kind name) = false
is_settle Publish = false
is_settle Reap = false
is_settle (Accept ask) = false
is_settle (Close connection) = false
is_settle Settle = true

-- the worker of a line settles by a line of its own between an earlier line and this one
abbrev pub settles_between : Line → Line → Line → Bool
settles_between earlier line other =
    is_settle other.event && actor_same other.actor line.actor && nat_lt earlier.at other.at && nat_le other.at line.at

-- an accept or close of the same worker, not after this line, with no settle of the worker's own between
abbrev pub is_since_settle : List Line → Line → Line → Bool
is_since_settle lines line other =
    is_batched other.event && actor_same other.actor line.actor && nat_le other.at line.at && not (list_any (settles_between other line) lines)

-- this many accepts and closes a batch may have
abbrev pub batch_limit : ℕ
batch_limit = 256

-- A batch is full at a line: it is an accept or close, and with it those since the worker's last
-- settle line are that many.
-- A settle is forced after each full batch, so twice as many make a full batch again, and so on.
abbrev pub is_full_at : List Line → Line → Bool
is_full_at lines line = is_batched line.event && (length (filter (is_since_settle lines line) lines) % batch_limit == 0)

-- what follows a line: with `auto` a publication and a reaping, and a settle where a batch is full
abbrev pub followers : ScriptParts → Line → List Operation
followers script line =
    if script.auto && is_automatic line.actor then step_behind line 1 Publish ∷ step_behind line 2 Reap ∷ []
    else (if is_full_at script.lines line then step_behind line 1 Settle ∷ [] else [])

-- the operations of a line
abbrev pub line_operations : ScriptParts → Line → List Operation
line_operations script line = line_operation line ∷ followers script line

-- all operations of a script: those of its lines, then the last settles by worker
abbrev pub all_operations : ScriptParts → List Operation
all_operations script = flat_map (line_operations script) script.lines ++ map (last_settle script) (range_with_len 0 script.workers)

-- the operations that a script holds for an actor, in order
abbrev pub operations_of : ScriptParts → Actor → List Operation
operations_of script actor = filter (λ (o : Operation). actor_same o.actor actor) (all_operations script)

-- the first operation comes before the second, by line and step
abbrev pub is_earlier : Operation → Operation → Bool
is_earlier a b = nat_lt a.at b.at || ((a.at == b.at) && nat_lt a.step b.step)

-- a settle of the same actor is between the two
abbrev pub is_settle_between : Operation → Operation → Operation → Bool
is_settle_between first last o = is_settle o.event && actor_same o.actor last.actor && is_earlier first o && is_earlier o last

-- an accept or close of the same actor before it, with no settle of the actor's between
abbrev pub is_in_batch : List Operation → Operation → Operation → Bool
is_in_batch os last o =
    is_batched o.event && actor_same o.actor last.actor && is_earlier o last && not (list_any (is_settle_between o last) os)

-- an operation that is no accept or close, with its batch before it:
-- a worker's accepts and closes since the settle before
abbrev pub with_batch : List Operation → Operation → List Operation
with_batch os last = filter (is_in_batch os last) os ++ last ∷ []

-- the operations in the order of a replay: each that is no accept or close, in order, and its batch before it
abbrev pub replay_operations : ScriptParts → List Operation
replay_operations script =
    let os = all_operations script in flat_map (with_batch os) (filter (λ (o : Operation). not (is_batched o.event)) os)

-- what an entry did
abbrev pub operation_of : Entry → Operation
operation_of entry = record { actor = entry.actor; at = entry.at; step = entry.step; event = entry.event }

-- what a journal holds for an actor, in order
abbrev pub entries_of : List Entry → Actor → List Operation
entries_of journal actor = filter (λ (o : Operation). actor_same o.actor actor) (map operation_of journal)

-- the operation with its answer
abbrev pub entry_of : Operation → Answer → Entry
entry_of o answer = record { actor = o.actor; at = o.at; step = o.step; event = o.event; answer = answer }

-- the journal of these operations, one after another, from this world on
abbrev pub journal_from : Format → World → List Operation → List Entry
journal_from format world [] = []
journal_from format world (o ∷ os) =
    entry_of o (step format world o.actor o.event).1 ∷ journal_from format (step format world o.actor o.event).0 os

-- the journal of a replay
abbrev pub replay_order : Format → ScriptParts → List Entry
replay_order format script = journal_from format (opening script.workers script.node) (replay_operations script)

-- the journal is a run of the machine which holds every operation of the script, in the order of a replay
pub record IsReplay (format : Format) (script : ScriptParts) (journal : List Entry) : Type 0 where
  pub run : IsRun format script.workers script.node journal
  pub order : map operation_of journal ≡ replay_operations script

-- the connection is this actor's
abbrev pub is_held_by : Actor → OpenMember → Bool
is_held_by Stream member = false
is_held_by Health member = false
is_held_by Timer member = false
is_held_by Main member = false
is_held_by (Worker worker) member = member.worker == worker

-- an actor rests after an operation of its own that leads to this world: it has settled, and has no connection open
abbrev pub rests_behind : World → Operation → Bool
rests_behind world o = is_settle o.event && not (list_any (is_held_by o.actor) world.opened)

-- an operation that an actor has done, and whether the actor rests after it
pub record Deed : Type 0 where
  pub operation : Operation
  pub rests : Bool

-- the deeds that a journal holds, from this world on
abbrev pub deeds_from : Format → World → List Entry → List Deed
deeds_from format world [] = []
deeds_from format world (entry ∷ entries) =
    let after = (step format world entry.actor entry.event).0 in
    record { operation = operation_of entry; rests = rests_behind after (operation_of entry) } ∷ deeds_from format after entries

-- the deeds of an actor in a journal, in order
abbrev pub deeds_of : Format → ScriptParts → List Entry → Actor → List Deed
deeds_of format script journal actor =
    filter (λ (d : Deed). actor_same d.operation.actor actor) (deeds_from format (opening script.workers script.node) journal)

-- The deeds are these operations, in order, but for settles that are left out while the actor rests.
abbrev pub AreDone : Bool → List Operation → List Deed → Type 0
AreDone rests [] [] = ⊤
AreDone rests [] (deed ∷ deeds) = ⊥
AreDone rests (o ∷ os) [] = IsTrue (is_settle o.event && rests) × AreDone rests os []
AreDone rests (o ∷ os) (deed ∷ deeds) =
    ((deed.operation ≡ o) × AreDone deed.rests os deeds)
    ⊎ (IsTrue (is_settle o.event && rests) × AreDone rests os (deed ∷ deeds))

-- The journal holds the actor's operations of the script, in order.
-- In format 2 settles may be left out while the actor rests:
-- from the start, or from a settle after which it has no connection open.
abbrev pub Fits : Format → ScriptParts → List Entry → Actor → Type 0
Fits One script journal actor = entries_of journal actor ≡ operations_of script actor
Fits Two script journal actor = AreDone true (operations_of script actor) (deeds_of Two script journal actor)

-- the journal is a run of the machine, and holds each actor's operations of the script
pub record IsRunOf (format : Format) (script : ScriptParts) (journal : List Entry) : Type 0 where
  pub run : IsRun format script.workers script.node journal
  pub fits : (actor : Actor) → Fits format script journal actor

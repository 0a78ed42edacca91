-- What an actor has left to do, after what it did in a journal. This project's own.
use Rattle.std.specs.Prelude.{ℕ, ◌≡◌, ◌+◌, ◌<◌, ◌^◌, Bool, true, if◌then◌else◌, List, [], ◌∷◌, ◌++◌, filter}
use Rattle.std.specs.List.{AllByRecursion as ByRecursion}
use Rattle.ev_types.specs.Events.{IsStream, MayMake}
use Rattle.ev_types.specs.Scripts.{items_in}
use Rattle.ev_types.specs.declared.events.Actor.{Actor}
use Rattle.ev_model.specs.World.{opening}
use Rattle.ev_model.specs.Runs.{is_batched}
use Rattle.ev_model.specs.Operations.{AreDone, Deed, Operation, actor_same, batch_limit, deeds_from}
use Rattle.ev_actors.specs.Journals.{JournalParts, world_now}

-- the deeds of an actor in a journal, in order
abbrev pub deeds_in : JournalParts → Actor → List Deed
deeds_in parts actor =
    filter (λ (d : Deed). actor_same d.operation.actor actor) (deeds_from parts.format (opening parts.workers parts.node) parts.journal)

-- Once deeds do what is left, the actor's deeds in the journal and these do all of its operations.
-- It is said whether the actor rests after those in the journal.
abbrev pub FitsSoFar : List Operation → Actor → Bool → List Operation → JournalParts → Type 0
FitsSoFar all actor rests left parts = (deeds : List Deed) → AreDone rests left deeds → AreDone true all (deeds_in parts actor ++ deeds)

-- each of these operations is the actor's, and one that it may make
abbrev pub AreOwn : ℕ → Actor → List Operation → Type 0
AreOwn workers actor left = ByRecursion (λ (o : Operation). (o.actor ≡ actor) × MayMake workers o.actor o.event) left

-- how many resources these operations bring
abbrev pub items_left : List Operation → ℕ
items_left [] = 0
items_left (o ∷ os) = items_in o.event + items_left os

-- the numbers of generations suffice for all that the stream has left
abbrev pub SufficeForAll : Actor → List Operation → JournalParts → Type 0
SufficeForAll actor left parts = IsStream actor → (world_now parts).made + items_left left < 2 ^ 32

-- how many accepts and closes wait after a worker's operation, where this many did before it
abbrev pub waiting_past : ℕ → Operation → ℕ
waiting_past waiting o = if is_batched o.event then waiting + 1 else 0

-- Where this many accepts and closes wait, no more than a batch may have come together,
-- and after the last operation none waits.
abbrev pub KeepToBatches : ℕ → List Operation → Type 0
KeepToBatches waiting [] = waiting ≡ 0
KeepToBatches waiting (o ∷ os) = (is_batched o.event ≡ true → waiting < batch_limit) × KeepToBatches (waiting_past waiting o) os

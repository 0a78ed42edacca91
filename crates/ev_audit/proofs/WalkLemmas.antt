-- A row of the walk: what is found of it, and where the walk is after it.
use Rattle.std.proofs.Common.{◌≡◌, ◌<◌, ◌+◌, ◌==◌, ℕ, Bool, true, false, not, ◌&&◌, ◌||◌, if◌then◌else◌, List, [], ◌∷◌, ◌++◌, length, take, Option, Some, None, slice_get, refl, ap, sym, ◌∙◌, subst, arith, below_more}
use Rattle.std.specs.Prelude.{option_and_then}
use Rattle.std.specs.List.{last_or, list_any}
use Rattle.std.specs.Cmp.{second_so}
use Rattle.std.proofs.lemmas.Bool.{or_right}
use Rattle.std.proofs.lemmas.List.{length-replicate, take_all}
use Rattle.ev_types.specs.Events.{MayMake, op_decides, op_of, op_same}
use Rattle.ev_types.specs.SameAnswers.{answer_same}
use Rattle.ev_types.specs.Scripts.{ScriptParts, IsScript}
use Rattle.ev_types.specs.declared.events.Actor.{Actor}
use Rattle.ev_types.specs.declared.events.Actor.TheVariants.{Stream, Health as health_checker, Timer, Main, Worker}
use Rattle.ev_types.specs.declared.events.Answer.{Answer}
use Rattle.ev_types.specs.declared.events.Entry.{Entry}
use Rattle.ev_types.specs.declared.events.Event.{Event}
use Rattle.ev_types.specs.declared.events.Event.TheVariants.{Connect, Disconnect, Response, Health, FetchTimeout, DrainTimeout, TtlExpired, Publish, Reap, Accept, Close, Settle}
use Rattle.ev_types.specs.declared.journals.Finding.TheVariants.{IllegalAt, Legal, NotTheScript}
use Rattle.ev_types.specs.declared.journals.Format.{Format}
use Rattle.ev_types.specs.declared.journals.Row.{Row}
use Rattle.ev_model.specs.World.{World, opening}
use Rattle.ev_model.specs.Step.{step}
use Rattle.ev_model.specs.Runs.{is_batched, world_after}
use Rattle.ev_model.specs.Operations.{Operation, all_operations, actor_same, actor_decides, entry_of, is_held_by, is_settle}
use Rattle.ev_model.specs.Finding.{breaks_batch, end_finding, finding_at, is_unfinished, is_wrong, journal_told, operations_left, tells_of}
use Rattle.ev_model.proofs.RunLemmas.{length-held, world_after-more}
use Rattle.ev_model_laws.specs.Drawing.{NumbersSuffice}
use Rattle.ev_operations.specs.Dues.{operation_due}
use Rattle.ev_proxy.specs.Proxies.{IsAt, IsKnown}
use Rattle.ev_model_laws.specs.Walks.{IsTaken, NothingFound, journal_before, leaves_out, may_leave_out, next_of, world_behind}
use Rattle.ev_model_laws.proofs.NextLemmas.{at_row, journal_more, rests_own, stray_found, takes_next}
use Rattle.ev_model_laws.proofs.WalkDrawnLemmas.{numbers_suffice}
use Rattle.ev_operations.specs.Courses.{HaveCome, HaveMoved, IsFound}
use Rattle.ev_operations.specs.declared.courses.Found.{Found}
use Rattle.ev_operations.proofs.SeatLemmas.{more_come}
use Rattle.ev_audit.specs.Audits.{IsBefore, batch_after, batch_behind, breaks_open, is_batched_word, is_settle_word, open_batch}
use Rattle.ev_audit.specs.declared.walk.Walk.{Walk}

-- what a word says of the event
settle_word : (event : Event) → is_settle_word (op_of event) ≡ is_settle event
settle_word Connect = refl
settle_word Disconnect = refl
settle_word (Response response) = refl
settle_word (Health cluster host healthy) = refl
settle_word (FetchTimeout timeout) = refl
settle_word (DrainTimeout listener) = refl
settle_word (TtlExpired kind name) = refl
settle_word Publish = refl
settle_word Reap = refl
settle_word (Accept ask) = refl
settle_word (Close connection) = refl
settle_word Settle = refl

batched_word : (event : Event) → is_batched_word (op_of event) ≡ is_batched event
batched_word Connect = refl
batched_word Disconnect = refl
batched_word (Response response) = refl
batched_word (Health cluster host healthy) = refl
batched_word (FetchTimeout timeout) = refl
batched_word (DrainTimeout listener) = refl
batched_word (TtlExpired kind name) = refl
batched_word Publish = refl
batched_word Reap = refl
batched_word (Accept ask) = refl
batched_word (Close connection) = refl
batched_word Settle = refl

word_is : (row : Row) (o : Operation) → tells_of row o ≡ true → row.op ≡ op_of o.event
word_is row o h = (op_decides row.op (op_of o.event)).0 (second_so ((row.at == o.at) && (row.step == o.step)) (op_same row.op (op_of o.event)) h)

-- which batch is open
breaks_by : (b : Bool) (of actor : Actor) → (b && not (actor_same actor of)) ≡ breaks_open (if b then Some of else None) actor
breaks_by true of actor = refl
breaks_by false of actor = refl

breaks_is : (before : Option Entry) (entry : Entry) → breaks_batch before entry ≡ breaks_open (option_and_then batch_behind before) entry.actor
breaks_is None entry = refl
breaks_is (Some before) entry = breaks_by (is_batched before.event) before.actor entry.actor

last_of : {X : Type 0} (before : Option X) (xs : List X) (x : X) → last_or before (xs ++ x ∷ []) ≡ Some x
last_of before [] x = refl
last_of before (first ∷ xs) x = last_of (Some first) xs x

open_more : (journal : List Entry) (entry : Entry) → open_batch (journal ++ entry ∷ []) ≡ batch_behind entry
open_more journal entry = ap (option_and_then batch_behind) (last_of None journal entry)

-- how many workers the world has
held_count : (format : Format) (world : World) (entries : List Entry) → length (world_after format world entries).held ≡ length world.held
held_count format world [] = refl
held_count format world (entry ∷ entries) =
    held_count format (step format world entry.actor entry.event).0 entries ∙ length-held format world entry.actor entry.event

pub held_behind : (format : Format) (script : ScriptParts) (journal : List Entry) → length (world_behind format script journal).held ≡ script.workers
held_behind format script journal = held_count format (opening script.workers script.node) journal ∙ length-replicate script.workers 0

-- who may make an event is known
known_by : (workers : ℕ) (actor : Actor) (event : Event) (world : World) → MayMake workers actor event → length world.held ≡ workers → IsKnown actor world
known_by workers Stream event world may held = tt
known_by workers health_checker event world may held = tt
known_by workers Timer event world may held = tt
known_by workers Main event world may held = tt
known_by workers (Worker worker) Connect world may held = absurd may
known_by workers (Worker worker) Disconnect world may held = absurd may
known_by workers (Worker worker) (Response response) world may held = absurd may
known_by workers (Worker worker) (Health cluster host healthy) world may held = absurd may
known_by workers (Worker worker) (FetchTimeout timeout) world may held = absurd may
known_by workers (Worker worker) (DrainTimeout listener) world may held = absurd may
known_by workers (Worker worker) (TtlExpired kind name) world may held = absurd may
known_by workers (Worker worker) Publish world may held = absurd may
known_by workers (Worker worker) Reap world may held = absurd may
known_by workers (Worker worker) (Accept ask) world may held = let below : worker < workers = may in omega arith
known_by workers (Worker worker) (Close connection) world may held = let below : worker < workers = may in omega arith
known_by workers (Worker worker) Settle world may held = let below : worker < workers = may in omega arith

wrong_breaks : (answered : Bool) → (not answered || true) ≡ true
wrong_breaks answered = or_right (not answered) true refl

take_none : {X : Type 0} (xs : List X) → take 0 xs ≡ []
take_none [] = refl
take_none (x ∷ xs) = refl

none_before : (script : ScriptParts) (rows : List Row) → journal_before script rows 0 ≡ []
none_before script rows = ap (journal_told script) (take_none rows)

nothing_first : (format : Format) (script : ScriptParts) (rows : List Row) → NothingFound format script rows 0
nothing_first format script rows = λ earlier below. absurd (omega arith)

-- the walk is before the first row
pub first_before : (script : ScriptParts) (rows : List Row) (walk : Walk) → IsAt walk.proxy (opening script.workers script.node) → HaveCome script [] walk.courses
    → walk.batch ≡ None → IsBefore script rows 0 walk
first_before script rows walk at come batch = record {
  none = nothing_first walk.courses.format script rows;
  proxy = subst (λ (journal : List Entry). IsAt walk.proxy (world_behind walk.courses.format script journal)) (sym (none_before script rows)) at;
  courses = subst (λ (journal : List Entry). HaveCome script journal walk.courses) (sym (none_before script rows)) come;
  batch = batch ∙ ap open_batch (sym (none_before script rows));
}

-- what is found after the last row, where so much is known of what is left to do
pub end_is : (format : Format) (script : ScriptParts) (rows : List Row) (unfinished : Bool)
    → unfinished ≡ list_any (λ (o : Operation). is_unfinished format script (journal_before script rows (length rows)) o.actor) (all_operations script)
    → (if unfinished then NotTheScript (length rows + 1) else Legal) ≡ end_finding format script rows
end_is format script rows unfinished is =
    ap (λ b. if b then NotTheScript (length rows + 1) else Legal)
    (is
    ∙ ap (λ (rs : List Row). list_any (λ (o : Operation). is_unfinished format script (journal_told script rs) o.actor) (all_operations script))
    (take_all (length rows) rows (omega arith)))

-- a row of the walk
module _ (script : ScriptParts) (kept : IsScript script) (rows : List Row) (place : ℕ) (row : Row) (walk : Walk)
    (there : slice_get rows place ≡ Some row) (before : IsBefore script rows place walk) where
  abbrev format : Format
  format = walk.courses.format

  abbrev journal : List Entry
  journal = journal_before script rows place

  abbrev world : World
  world = world_behind format script journal

  pub found_stray : list_any (tells_of row) (next_of (may_leave_out format script journal row.actor) (operations_left script journal row.actor)) ≡ false
      → finding_at format script rows place ≡ Some (NotTheScript (place + 1))
  found_stray none = at_row format script rows place row there ∙ stray_found format script journal (place + 1) row none

  module _ (found : Found) (is : IsFound script journal row walk.courses found) where
    abbrev o : Operation
    o = is.operation

    abbrev entry : Entry
    entry = entry_of o row.answer

    abbrev after : World
    after = (step format world row.actor o.event).0

    taken : IsTaken format script journal row o
    taken = takes_next format script journal row o kept is.next

    abbrev actor_is : o.actor ≡ row.actor
    actor_is = taken.actor

    finding_is : finding_at format script rows place ≡ (if is_wrong format script journal entry then Some (IllegalAt (place + 1)) else None)
    finding_is = at_row format script rows place row there ∙ taken.finding (place + 1)

    breaking : breaks_batch (last_or None journal) entry ≡ breaks_open walk.batch row.actor
    breaking =
        breaks_is (last_or None journal) entry
        ∙ (λ i. breaks_open (sym before.batch i) (actor_is i))

    answering : (answer : Answer) → answer ≡ (step format world row.actor o.event).1
        → answer_same row.answer (step format world o.actor o.event).1 ≡ answer_same row.answer answer
    answering answer e = ap (answer_same row.answer) (ap (λ a. (step format world a o.event).1) actor_is ∙ sym e)

    pub found_broken : breaks_open walk.batch row.actor ≡ true → finding_at format script rows place ≡ Some (IllegalAt (place + 1))
    found_broken breaks =
        finding_is
        ∙ ap
        (λ b. if not (answer_same row.answer (step format world o.actor o.event).1) || b then Some (IllegalAt (place + 1)) else None)
        (breaking ∙ breaks)
        ∙ ap (λ b. if b then Some (IllegalAt (place + 1)) else None) (wrong_breaks (answer_same row.answer (step format world o.actor o.event).1))

    pub found_differing : (answer : Answer) → answer ≡ (step format world row.actor o.event).1 → answer_same row.answer answer ≡ false
        → finding_at format script rows place ≡ Some (IllegalAt (place + 1))
    found_differing answer e differs =
        finding_is
        ∙ ap (λ b. if not b || breaks_batch (last_or None journal) entry then Some (IllegalAt (place + 1)) else None) (answering answer e ∙ differs)

    pub found_none : (answer : Answer) → answer ≡ (step format world row.actor o.event).1 → answer_same row.answer answer ≡ true
        → breaks_open walk.batch row.actor ≡ false → finding_at format script rows place ≡ None
    found_none answer e same breaks =
        finding_is
        ∙ ap (λ b. if not b || breaks_batch (last_or None journal) entry then Some (IllegalAt (place + 1)) else None) (answering answer e ∙ same)
        ∙ ap (λ b. if b then Some (IllegalAt (place + 1)) else None) (breaking ∙ breaks)

    -- what the step of the operation requires
    pub found_known : IsKnown row.actor world
    found_known =
        known_by script.workers row.actor o.event world
        (subst (λ a. MayMake script.workers a o.event) actor_is taken.allowed) (held_behind format script journal)

    same_operation : (other : Operation) → operation_due script row.actor found.due ≡ Some other → o ≡ other
    same_operation other e = let same : Some o ≡ Some other = sym is.is ∙ e in cc

    pub found_room : place < length rows → (other : Operation) → operation_due script row.actor found.due ≡ Some other → NumbersSuffice world other.event
    found_room below other e =
        subst (λ (p : Operation). NumbersSuffice world p.event) (same_operation other e)
        (numbers_suffice format script kept rows place row o (omega arith) before.none is.next)

    -- after the row
    more : journal_before script rows (place + 1) ≡ journal ++ entry ∷ []
    more = journal_more script rows place row entry there taken.entry

    world_is : world_behind format script (journal_before script rows (place + 1)) ≡ after
    world_is =
        ap (world_behind format script) more
        ∙ world_after-more format (opening script.workers script.node) journal entry
        ∙ ap (λ a. (step format world a o.event).0) actor_is

    word : row.op ≡ op_of o.event
    word = word_is row o is.next.tells

    marked : (rests : Bool) → rests ≡ leaves_out format (is_settle_word row.op && not (list_any (is_held_by row.actor) after.opened))
        → rests ≡ may_leave_out format script (journal ++ entry ∷ []) row.actor
    marked rests e =
        e
        ∙ (λ i. leaves_out format
        ((ap is_settle_word word ∙ settle_word o.event) i
        && not (list_any (is_held_by (sym actor_is i)) (step format world (sym actor_is i) o.event).0.opened)))
        ∙ sym (rests_own format script journal entry row.actor ((actor_decides o.actor row.actor).1 actor_is))

    batch_is : batch_after row ≡ open_batch (journal_before script rows (place + 1))
    batch_is =
        (λ i. if (ap is_batched_word word ∙ batched_word o.event) i then Some (sym actor_is i) else None)
        ∙ sym (open_more journal entry)
        ∙ ap open_batch (sym more)

    pub found_behind : (next : Walk) (rests : Bool) → finding_at format script rows place ≡ None → IsAt next.proxy after
        → HaveMoved found rests walk.courses next.courses
        → rests ≡ leaves_out format (is_settle_word row.op && not (list_any (is_held_by row.actor) after.opened))
        → next.batch ≡ batch_after row → IsBefore script rows (place + 1) next
    found_behind next rests none at moved mark batch = record {
      none =
          subst (λ (f : Format). NothingFound f script rows (place + 1)) (sym moved.format)
          (below_more (λ earlier. finding_at format script rows earlier ≡ None) place before.none none);
      proxy =
          subst (λ (f : Format). IsAt next.proxy (world_behind f script (journal_before script rows (place + 1)))) (sym moved.format)
          (subst (IsAt next.proxy) (sym world_is) at);
      courses =
          subst (λ (j : List Entry). HaveCome script j next.courses) (sym more)
          (more_come script kept journal row walk.courses found rests before.courses is (marked rests mark) next.courses moved);
      batch = batch ∙ batch_is;
    }

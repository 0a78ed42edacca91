-- While nothing is found, the numbers of generations suffice:
-- those that were allocated, with the resources that may still come, are at most the script's resources.
use Rattle.std.proofs.Common.{◌≡◌, ℕ, zero, suc, ◌+◌, ◌<◌, ◌≤◌, Bool, true, false, ◌&&◌, if◌then◌else◌, List, [], ◌∷◌, ◌++◌, map, filter, take, length, Some, refl, ap, sym, ◌∙◌, subst, arith}
use Rattle.std.specs.Prelude.{slice_get}
use Rattle.std.specs.List.{flat_map, range_with_len, list_all}
use Rattle.std.proofs.lemmas.List.Sums.{sum_by-cons}
use Rattle.ev_types.specs.Events.{IsStream, MayMake}
use Rattle.ev_types.specs.Scripts.{ScriptParts, IsScript, items_in, items_of}
use Rattle.std.proofs.lemmas.Bool.{both_ways}
use Rattle.ev_types.specs.declared.events.Actor.{Actor}
use Rattle.ev_types.specs.declared.events.Actor.TheVariants.{Stream, Health as health_checker, Timer, Main, Worker}
use Rattle.ev_types.specs.declared.events.Entry.{Entry}
use Rattle.ev_types.specs.declared.events.Event.{Event}
use Rattle.ev_types.specs.declared.events.Event.TheVariants.{Connect, Disconnect, Response, Health, FetchTimeout, DrainTimeout, TtlExpired, Publish, Reap, Accept, Close, Settle}
use Rattle.ev_types.specs.declared.events.Line.{Line}
use Rattle.ev_types.specs.declared.journals.Format.{Format}
use Rattle.ev_types.specs.declared.journals.Row.{Row}
use Rattle.ev_model.specs.World.{opening}
use Rattle.ev_model.specs.Operations.{Operation, actor_same, actor_decides, is_automatic, is_earlier, is_full_at, line_operations, followers, step_behind, last_settle, all_operations, operations_of, entry_of, entries_of}
use Rattle.ev_model.specs.Finding.{operations_left, journal_told}
use Rattle.ev_model_laws.specs.Drawing.{NumbersSuffice}
use Rattle.ev_model_laws.proofs.RunNumberLemmas.{entry_draws}
use Rattle.ev_model_laws.specs.Walks.{NothingFound, IsNextFor, journal_before, world_behind}
use Rattle.ev_model_laws.proofs.NextLemmas.{HasNext, journal_more, left_other, left_own, next_actor, next_allowed, next_entry, next_of_none}

-- the resources that operations bring
abbrev items_by : List Operation → ℕ
items_by [] = 0
items_by (o ∷ os) = items_in o.event + items_by os

items_append : (os others : List Operation) → items_by (os ++ others) ≡ items_by os + items_by others
items_append [] others = omega arith
items_append (o ∷ os) others = let more : items_by (os ++ others) ≡ items_by os + items_by others = items_append os others in omega arith

kept_or_not : (b : Bool) (o : Operation) (os some : List Operation) → items_by some ≤ items_by os → items_by (if b then o ∷ some else some) ≤ items_in o.event + items_by os
kept_or_not true o os some few = omega arith
kept_or_not false o os some few = omega arith

items_filter : (p : Operation → Bool) (os : List Operation) → items_by (filter p os) ≤ items_by os
items_filter p [] = omega arith
items_filter p (o ∷ os) = kept_or_not (p o) o os (filter p os) (items_filter p os)

items_behind : (line : Line) (automatic full : Bool)
    → items_by (if automatic then step_behind line 1 Publish ∷ step_behind line 2 Reap ∷ [] else (if full then step_behind line 1 Settle ∷ [] else [])) ≡ 0
items_behind line true full = refl
items_behind line false true = refl
items_behind line false false = refl

items_line : (script : ScriptParts) (line : Line) → items_by (line_operations script line) ≡ items_in line.event
items_line script line =
    let none : items_by (followers script line) ≡ 0 = items_behind line (script.auto && is_automatic line.actor) (is_full_at script.lines line) in omega arith

items_lines : (script : ScriptParts) (lines : List Line) → items_by (flat_map (line_operations script) lines) ≡ items_of lines
items_lines script [] = refl
items_lines script (line ∷ lines) =
    let front : items_by (line_operations script line) ≡ items_in line.event = items_line script line in
    let back : items_by (flat_map (line_operations script) lines) ≡ items_of lines = items_lines script lines in
    let both : items_by (line_operations script line ++ flat_map (line_operations script) lines)
    ≡ items_by (line_operations script line) + items_by (flat_map (line_operations script) lines) =
    items_append (line_operations script line) (flat_map (line_operations script) lines) in
    let all : items_of (line ∷ lines) ≡ items_in line.event + items_of lines = sum_by-cons (λ (l : Line). items_in l.event) line lines in
    omega arith

items_settles : (script : ScriptParts) (workers : List ℕ) → items_by (map (last_settle script) workers) ≡ 0
items_settles script [] = refl
items_settles script (worker ∷ workers) = let more : items_by (map (last_settle script) workers) ≡ 0 = items_settles script workers in omega arith

items_all : (script : ScriptParts) → items_by (all_operations script) ≡ items_of script.lines
items_all script =
    let lines : List Operation = flat_map (line_operations script) script.lines in
    let settles : List Operation = map (last_settle script) (range_with_len 0 script.workers) in
    let both : items_by (lines ++ settles) ≡ items_by lines + items_by settles = items_append lines settles in
    let front : items_by lines ≡ items_of script.lines = items_lines script script.lines in
    let back : items_by settles ≡ 0 = items_settles script (range_with_len 0 script.workers) in
    omega arith

-- the numbers allocated, with the resources that are left to the stream, are at most the script's resources
abbrev HasRoom : Format → ScriptParts → List Entry → Type 0
HasRoom format script journal = (world_behind format script journal).made + items_by (operations_left script journal Stream) ≤ items_of script.lines

room_first : (format : Format) (script : ScriptParts) → HasRoom format script []
room_first format script =
    let left : items_by (operations_left script [] Stream) ≤ items_by (operations_of script Stream) =
    items_filter (λ o. list_all (λ d. is_earlier d o) (entries_of [] Stream)) (operations_of script Stream) in
    let own : items_by (operations_of script Stream) ≤ items_by (all_operations script) =
    items_filter (λ (o : Operation). actor_same o.actor Stream) (all_operations script) in
    let all : items_by (all_operations script) ≡ items_of script.lines = items_all script in
    let none : (world_behind format script []).made ≡ 0 = refl in
    omega arith

is_stream : (actor : Actor) → IsStream actor → actor_same actor Stream ≡ true
is_stream Stream is = refl
is_stream health_checker is = absurd is
is_stream Timer is = absurd is
is_stream Main is = absurd is
is_stream (Worker worker) is = absurd is

-- resources come on the stream alone
none_brought : (workers : ℕ) (actor : Actor) (event : Event) → MayMake workers actor event → actor_same actor Stream ≡ false → items_in event ≡ 0
none_brought workers actor Connect may apart = refl
none_brought workers actor Disconnect may apart = refl
none_brought workers actor (Response response) may apart = absurd (both_ways (actor_same actor Stream) apart (is_stream actor may))
none_brought workers actor (Health cluster host healthy) may apart = refl
none_brought workers actor (FetchTimeout timeout) may apart = refl
none_brought workers actor (DrainTimeout listener) may apart = refl
none_brought workers actor (TtlExpired kind name) may apart = refl
none_brought workers actor Publish may apart = refl
none_brought workers actor Reap may apart = refl
none_brought workers actor (Accept ask) may apart = refl
none_brought workers actor (Close connection) may apart = refl
none_brought workers actor Settle may apart = refl

module _ (format : Format) (script : ScriptParts) (kept : IsScript script) (journal : List Entry) (row : Row) (o : Operation)
    (next : IsNextFor format script journal row o) (room : HasRoom format script journal) where
  may : MayMake script.workers o.actor o.event
  may = next_allowed format script kept journal row o next

  by_stream : actor_same o.actor Stream ≡ true → row.actor ≡ Stream
  by_stream is = sym (next_actor format script kept journal row o next) ∙ (actor_decides o.actor Stream).0 is

  -- what the stream has left, where this comes next of it
  brought : actor_same o.actor Stream ≡ true
      → items_by (operations_left script journal Stream) ≡ items_by next.skipped + (items_in o.event + items_by next.behind)
  brought is =
      ap (λ a. items_by (operations_left script journal a)) (sym (by_stream is))
      ∙ ap items_by (sym next.whole)
      ∙ items_append next.skipped (o ∷ next.behind)

  suffice_by : (b : Bool) → actor_same o.actor Stream ≡ b → NumbersSuffice (world_behind format script journal) o.event
  suffice_by true is = λ some.
      let left : items_by (operations_left script journal Stream) ≡ items_by next.skipped + (items_in o.event + items_by next.behind) = brought is in
      let most : items_of script.lines < 4294967295 = kept.few_items in
      omega arith
  suffice_by false is = λ some.
      let none : items_in o.event ≡ 0 = none_brought script.workers o.actor o.event may is in
      absurd (omega arith)

  suffice : NumbersSuffice (world_behind format script journal) o.event
  suffice = suffice_by (actor_same o.actor Stream) refl

  drawn : (world_behind format script (journal ++ entry_of o row.answer ∷ [])).made ≤ (world_behind format script journal).made + items_in o.event
  drawn = entry_draws format (opening script.workers script.node) journal (entry_of o row.answer)

  room_by : (b : Bool) → actor_same o.actor Stream ≡ b → HasRoom format script (journal ++ entry_of o row.answer ∷ [])
  room_by true is =
      let left : items_by (operations_left script journal Stream) ≡ items_by next.skipped + (items_in o.event + items_by next.behind) = brought is in
      let behind : items_by (operations_left script (journal ++ entry_of o row.answer ∷ []) Stream) ≡ items_by next.behind =
      ap (λ a. items_by (operations_left script (journal ++ entry_of o row.answer ∷ []) a)) (sym (by_stream is))
      ∙ ap items_by (left_own format script kept journal row o next) in
      let few : (world_behind format script (journal ++ entry_of o row.answer ∷ [])).made ≤ (world_behind format script journal).made + items_in o.event = drawn in
      omega arith
  room_by false is =
      let none : items_in o.event ≡ 0 = none_brought script.workers o.actor o.event may is in
      let same : items_by (operations_left script (journal ++ entry_of o row.answer ∷ []) Stream) ≡ items_by (operations_left script journal Stream) =
      ap items_by (left_other script journal (entry_of o row.answer) Stream is) in
      let few : (world_behind format script (journal ++ entry_of o row.answer ∷ [])).made ≤ (world_behind format script journal).made + items_in o.event = drawn in
      omega arith

  more_room : HasRoom format script (journal ++ entry_of o row.answer ∷ [])
  more_room = room_by (actor_same o.actor Stream) refl

there_is : {X : Type 0} (xs : List X) (k : ℕ) → k < length xs → (x : X) × (slice_get xs k ≡ Some x)
there_is [] k below = absurd (omega arith)
there_is (x ∷ xs) zero below = (x, refl)
there_is (x ∷ xs) (suc k) below = there_is xs k (omega arith)

take_none : {X : Type 0} (xs : List X) → take 0 xs ≡ []
take_none [] = refl
take_none (x ∷ xs) = refl

room_before : (format : Format) (script : ScriptParts) → IsScript script → (rows : List Row) (place : ℕ) → place ≤ length rows
    → NothingFound format script rows place → HasRoom format script (journal_before script rows place)
room_before format script kept rows zero within none =
    subst (λ (rs : List Row). HasRoom format script (journal_told script rs)) (sym (take_none rows)) (room_first format script)
room_before format script kept rows (suc place) within none =
    let there : (row : Row) × (slice_get rows place ≡ Some row) = there_is rows place (omega arith) in
    let has : HasNext format script (journal_before script rows place) there.0 =
    next_of_none format script rows place there.0 there.1 (none place (omega arith)) in
    let one_more : place + 1 ≡ suc place = omega arith in
    subst (λ (n : ℕ). HasRoom format script (journal_before script rows n)) one_more
    (subst (HasRoom format script)
    (sym (journal_more script rows place there.0 (entry_of has.o there.0.answer) there.1 (next_entry format script kept (journal_before script rows place) there.0 has.o has.next)))
    (more_room format script kept (journal_before script rows place) there.0 has.o has.next
    (room_before format script kept rows place (omega arith) (λ earlier below. none earlier (omega arith)))))

-- the numbers suffice for what comes next
pub numbers_suffice : (format : Format) (script : ScriptParts) → IsScript script → (rows : List Row) (place : ℕ) (row : Row) (o : Operation)
    → place ≤ length rows → NothingFound format script rows place → IsNextFor format script (journal_before script rows place) row o
    → NumbersSuffice (world_behind format script (journal_before script rows place)) o.event
numbers_suffice format script kept rows place row o within none next =
    suffice format script kept (journal_before script rows place) row o next (room_before format script kept rows place within none)

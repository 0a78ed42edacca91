-- Why the prefix of a legal journal is a run. Place by place:
-- a row of which nothing is found makes the journal so far one entry longer.
use Rattle.std.proofs.Common.{◌≡◌, ◌<◌, ◌≤◌, ◌+◌, ◌-◌, ◌==◌, ℕ, zero, suc, Bool, true, false, not, ◌&&◌, ◌||◌, if◌then◌else◌, List, [], ◌∷◌, ◌++◌, take, drop, length, Option, Some, None, IsSome, refl, ap, sym, ◌∙◌, subst, below_more, arith, add-one}
use Rattle.std.specs.Prelude.{option_and_then, slice_get}
use Rattle.std.specs.List.{last_or}
use Rattle.std.proofs.Math.Seq.{take-append_seam}
use Rattle.std.proofs.lemmas.Bool.{both_ways}
use Rattle.std.proofs.lemmas.Bool.Decides.{nat_tests}
use Rattle.std.proofs.lemmas.List.{take-append-drop}
use Rattle.std.proofs.lemmas.List.Elements.{All-append, All-cons, All-nil, filter_map-append}
use Rattle.std.specs.Cmp.{second_so}
use Rattle.ev_types.specs.Events.{op_decides, op_of, op_same}
use Rattle.ev_types.specs.SameAnswers.{answer_same, answer_decides}
use Rattle.ev_types.specs.Scripts.{ScriptParts, IsScript}
use Rattle.ev_types.specs.declared.events.Entry.{Entry}
use Rattle.ev_types.specs.declared.events.Event.{Event}
use Rattle.ev_types.specs.declared.events.Event.TheVariants.{Connect, Disconnect, Response, Health, FetchTimeout, DrainTimeout, TtlExpired, Publish, Reap, Accept, Close, Settle}
use Rattle.ev_types.specs.declared.journals.Finding.{Finding}
use Rattle.ev_types.specs.declared.journals.Finding.TheVariants.{Legal, IllegalAt, NotTheScript}
use Rattle.ev_types.specs.declared.journals.Format.{Format}
use Rattle.ev_types.specs.declared.journals.Row.{Row}
use Rattle.ev_model.specs.World.{World, opening}
use Rattle.ev_model.specs.Step.{step}
use Rattle.ev_model.specs.Runs.{IsUnbroken, RunsFrom, is_batched, world_after}
use Rattle.ev_model.specs.Operations.{Operation, actor_same, actor_decides, entry_of}
use Rattle.ev_model.specs.Finding.{breaks_batch, entry_told, finding_at, finding_of, is_illegal, is_stray, is_wrong, journal_told, row_finding, tells_of}
use Rattle.ev_model.proofs.RunLemmas.{RunsFrom-more}
use Rattle.ev_model_laws.proofs.FindingRows.{AreJoined}
use Rattle.ev_model_laws.proofs.PlaceLemmas.{take_one}
use Rattle.ev_model_laws.specs.Drawing.{NumbersSuffice}
use Rattle.ev_model_laws.specs.Walks.{IsNextFor, IsTaken, NothingFound, journal_before, world_behind}
use Rattle.ev_model_laws.proofs.FirstLemmas.{first_found}
use Rattle.ev_model_laws.proofs.NextLemmas.{HasNext, at_row, journal_more, next_of_none, takes_next}
use Rattle.ev_model_laws.proofs.WalkDrawnLemmas.{numbers_suffice}
use Rattle.ev_dump.specs.Told.{AreTold}
use Rattle.ev_dump.specs.Fronts.{FrontsAreRuns, IsFront, SufficeFrom, ends_commit, is_batched_word, is_end}

-- the finding of a row is never legal
never_by : (stray illegal : Bool) (number : ℕ) → (if stray then Some (NotTheScript number) else (if illegal then Some (IllegalAt number) else None)) ≡ Some Legal → ⊥
never_by true illegal number h = cc
never_by false true number h = cc
never_by false false number h = cc

never_at : (format : Format) (script : ScriptParts) (journal : List Entry) (number : ℕ) (row : Option Row)
    → option_and_then (row_finding format script journal number) row ≡ Some Legal → ⊥
never_at format script journal number None h = cc
never_at format script journal number (Some row) h =
    never_by (is_stray format script journal row) (is_illegal format script journal row) number h

right_by : (wrong : Bool) (found : Finding) → (if wrong then Some found else None) ≡ None → wrong ≡ false
right_by true found h = cc
right_by false found h = refl

right_parts : (answered breaks : Bool) → (not answered || breaks) ≡ false → (answered ≡ true) × (breaks ≡ false)
right_parts true breaks h = (refl, h)
right_parts false breaks h = cc

there_is : {X : Type 0} (xs : List X) (k : ℕ) → k < length xs → (x : X) × (slice_get xs k ≡ Some x)
there_is [] k below = absurd (omega arith)
there_is (x ∷ xs) zero below = (x, refl)
there_is (x ∷ xs) (suc k) below = there_is xs k (omega arith)

take_none : {X : Type 0} (xs : List X) → take 0 xs ≡ []
take_none [] = refl
take_none (x ∷ xs) = refl

-- entries that are joined, with one more
kept_by : (batched same : Bool) → (batched && not same) ≡ false → batched ≡ true → same ≡ true
kept_by true true h is = refl
kept_by true false h is = sym h
kept_by false same h is = cc

joined_more : (journal : List Entry) (entry : Entry) → AreJoined journal → breaks_batch (last_or None journal) entry ≡ false → AreJoined (journal ++ entry ∷ [])
joined_more [] entry joined h = (tt, tt)
joined_more (first ∷ []) entry joined h = (
  λ is. (actor_decides entry.actor first.actor).0 (kept_by (is_batched first.event) (actor_same entry.actor first.actor) h is),
  (tt, tt),
)
joined_more (first ∷ next ∷ journal) entry joined h = (joined.0, joined_more (next ∷ journal) entry joined.1 h)

-- that end with no accept and no close break no batch
whole_by : (entries : List Entry) (last : Entry) → AreJoined (entries ++ last ∷ []) → is_batched last.event ≡ false → IsUnbroken (entries ++ last ∷ [])
whole_by [] last joined isnt = (λ h. absurd (both_ways (is_batched last.event) isnt h), tt)
whole_by (first ∷ []) last joined isnt = (joined.0, whole_by [] last joined.1 isnt)
whole_by (first ∷ next ∷ entries) last joined isnt = (joined.0, whole_by (next ∷ entries) last joined.1 isnt)

suffice_more : (format : Format) (world : World) (entries : List Entry) (entry : Entry) → SufficeFrom format world entries
    → NumbersSuffice (world_after format world entries) entry.event → SufficeFrom format world (entries ++ entry ∷ [])
suffice_more format world [] entry suffice room = (room, tt)
suffice_more format world (first ∷ entries) entry suffice room =
    (suffice.0, suffice_more format (step format world first.actor first.event).0 entries entry suffice.1 room)

one_longer : {X : Type 0} (xs : List X) (x : X) → length (xs ++ x ∷ []) ≡ length xs + 1
one_longer [] x = refl
one_longer (y ∷ xs) x = let more : length (xs ++ x ∷ []) ≡ length xs + 1 = one_longer xs x in omega arith

-- the word of an event that goes on
batched_word : (event : Event) → is_batched_word (op_of event) ≡ is_batched event
batched_word Connect = refl
batched_word Disconnect = refl
batched_word (Response response) = refl
batched_word (Health cluster host healthy) = refl
batched_word (FetchTimeout timeout) = refl
batched_word (DrainTimeout listener) = refl
batched_word (TtlExpired kind name) = refl
batched_word Publish = refl
batched_word Reap = refl
batched_word (Accept ask) = refl
batched_word (Close connection) = refl
batched_word Settle = refl

not_so : (b : Bool) → not b ≡ true → b ≡ false
not_so true h = sym h
not_so false h = refl

-- a row at a place that a commit ends with
end_there : (row : Option Row) → is_end row ≡ true → (r : Row) × (row ≡ Some r) × (is_batched_word r.op ≡ false)
end_there None h = cc
end_there (Some row) h = (row, refl, not_so (is_batched_word row.op) h)

ends_at : (rows : List Row) (place : ℕ) → ends_commit rows (suc place) ≡ is_end (slice_get rows place)
ends_at rows place =
    let less : suc place - 1 ≡ place = omega arith in
    let some : (suc place == 0) ≡ false = grind (arith, nat_tests) in
    ap (λ b. if b then true else is_end (slice_get rows (suc place - 1))) some ∙ ap (λ n. is_end (slice_get rows n)) less

word_is : (row : Row) (o : Operation) → tells_of row o ≡ true → row.op ≡ op_of o.event
word_is row o h = (op_decides row.op (op_of o.event)).0 (second_so ((row.at == o.at) && (row.step == o.step)) (op_same row.op (op_of o.event)) h)

within_by : {X : Type 0} (xs : List X) (k : ℕ) (x : X) → slice_get xs k ≡ Some x → k < length xs
within_by [] zero x is = cc
within_by [] (suc k) x is = cc
within_by (y ∷ xs) zero x is = omega arith
within_by (y ∷ xs) (suc k) x is = let less : k < length xs = within_by xs k x is in omega arith

module _ (format : Format) (script : ScriptParts) (kept : IsScript script) (rows : List Row) (legal : finding_of format script rows ≡ Legal) where
  abbrev journal : ℕ → List Entry
  journal place = journal_before script rows place

  abbrev begun : World
  begun = opening script.workers script.node

  -- nothing is found at any place
  none_by : (place : ℕ) → place < length rows → NothingFound format script rows place → (found : Option Finding)
      → finding_at format script rows place ≡ found → finding_at format script rows place ≡ None
  none_by place below before None is = is
  none_by place below before (Some found) is =
      let same : found ≡ Legal = sym (first_found format script rows place found below before is) ∙ legal in
      absurd (never_at format script (journal place) (place + 1) (slice_get rows place) (is ∙ ap Some same))

  nothing : (place : ℕ) → place ≤ length rows → NothingFound format script rows place
  nothing zero within = λ earlier below. absurd (omega arith)
  nothing (suc place) within =
      let before : NothingFound format script rows place = nothing place (omega arith) in
      subst (NothingFound format script rows) (add-one place)
      (below_more (λ earlier. finding_at format script rows earlier ≡ None) place before
      (none_by place (omega arith) before (finding_at format script rows place) refl))

  -- the row at a place, and the entry that it is
  record IsPlaced (place : ℕ) : Type 0 where
    row : Row
    there : slice_get rows place ≡ Some row
    o : Operation
    next : IsNextFor format script (journal place) row o
    taken : IsTaken format script (journal place) row o
    right : is_wrong format script (journal place) (entry_of o row.answer) ≡ false

  placed : (place : ℕ) → place < length rows → IsPlaced place
  placed place below =
      let there : (row : Row) × (slice_get rows place ≡ Some row) = there_is rows place below in
      let none : finding_at format script rows place ≡ None = nothing (length rows) (omega arith) place below in
      let has : HasNext format script (journal place) there.0 = next_of_none format script rows place there.0 there.1 none in
      let taken : IsTaken format script (journal place) there.0 has.o = takes_next format script (journal place) there.0 has.o kept has.next in
      record {
        row = there.0;
        there = there.1;
        o = has.o;
        next = has.next;
        taken = taken;
        right = right_by (is_wrong format script (journal place) (entry_of has.o there.0.answer)) (IllegalAt (place + 1))
            (sym (taken.finding (place + 1)) ∙ sym (at_row format script rows place there.0 there.1) ∙ none);
      }

  -- what is known of the journal before a place
  record IsSoFar (place : ℕ) : Type 0 where
    told : AreTold script (take place rows)
    count : length (journal place) ≡ place
    run : RunsFrom format script.workers begun (journal place)
    joined : AreJoined (journal place)
    numbers : SufficeFrom format begun (journal place)

  some_so : (e : Option Entry) (entry : Entry) → e ≡ Some entry → IsSome e
  some_so e entry is = subst (λ (x : Option Entry). IsSome x) (sym is) refl

  more_told : (place : ℕ) → IsPlaced place → AreTold script (take place rows) → AreTold script (take (place + 1) rows)
  more_told place here told =
      subst (AreTold script) (sym (take_one rows place here.row here.there))
      (All-append (λ (row : Row). IsSome (entry_told script row)) (take place rows) (here.row ∷ []) told
      (All-cons (λ (row : Row). IsSome (entry_told script row)) here.row []
      (some_so (entry_told script here.row) (entry_of here.o here.row.answer) here.taken.entry)
      (All-nil (λ (row : Row). IsSome (entry_told script row)))))

  -- one entry more
  next_far : (place : ℕ) → place < length rows → (here : IsPlaced place) → IsSoFar place → IsSoFar (place + 1)
  next_far place below here far =
      let entry : Entry = entry_of here.o here.row.answer in
      let world : World = world_behind format script (journal place) in
      let more : journal (place + 1) ≡ journal place ++ entry ∷ [] = journal_more script rows place here.row entry here.there here.taken.entry in
      let parts : (answer_same here.row.answer (step format world here.o.actor here.o.event).1 ≡ true)
      × (breaks_batch (last_or None (journal place)) entry ≡ false) =
      right_parts (answer_same here.row.answer (step format world here.o.actor here.o.event).1) (breaks_batch (last_or None (journal place)) entry) here.right in
      record {
        told = more_told place here far.told;
        count = ap length more ∙ one_longer (journal place) entry ∙ ap (λ n. n + 1) far.count;
        run = subst (RunsFrom format script.workers begun) (sym more)
            (RunsFrom-more format script.workers begun (journal place) entry far.run here.taken.allowed
            ((answer_decides here.row.answer (step format world here.o.actor here.o.event).1).0 parts.0));
        joined = subst AreJoined (sym more) (joined_more (journal place) entry far.joined parts.1);
        numbers = subst (SufficeFrom format begun) (sym more)
            (suffice_more format begun (journal place) entry far.numbers
            (numbers_suffice format script kept rows place here.row here.o (omega arith) (nothing place (omega arith)) here.next));
      }

  so_far : (place : ℕ) → place ≤ length rows → IsSoFar place
  so_far zero within =
      let none : journal 0 ≡ [] = ap (journal_told script) (take_none rows) in
      record {
        told = subst (AreTold script) (sym (take_none rows)) (All-nil (λ (row : Row). IsSome (entry_told script row)));
        count = ap length none;
        run = subst (RunsFrom format script.workers begun) (sym none) tt;
        joined = subst AreJoined (sym none) tt;
        numbers = subst (SufficeFrom format begun) (sym none) tt;
      }
  so_far (suc place) within =
      subst IsSoFar (add-one place) (next_far place (omega arith) (placed place (omega arith)) (so_far place (omega arith)))

  -- the journal of the first rows is the prefix of the journal
  front_is : (place : ℕ) → length (journal place) ≡ place → journal place ≡ take place (journal_told script rows)
  front_is place count =
      let all : journal_told script rows ≡ journal place ++ journal_told script (drop place rows) =
      ap (journal_told script) (sym (take-append-drop place rows)) ∙ filter_map-append (entry_told script) (take place rows) (drop place rows) in
      sym
      (ap (take place) all
      ∙ ap (λ n. take n (journal place ++ journal_told script (drop place rows))) (sym count)
      ∙ take-append_seam (journal place) (journal_told script (drop place rows)))

  -- which breaks no batch where a commit ends with it
  whole_at : (place : ℕ) (below : place < length rows) → (row : Row) → slice_get rows place ≡ Some row → is_batched_word row.op ≡ false
      → IsUnbroken (journal (place + 1))
  whole_at place below row there ends =
      let here : IsPlaced place = placed place below in
      let entry : Entry = entry_of here.o here.row.answer in
      let more : journal (place + 1) ≡ journal place ++ entry ∷ [] = journal_more script rows place here.row entry here.there here.taken.entry in
      let same : Some here.row ≡ Some row = sym here.there ∙ there in
      let row_is : here.row ≡ row = cc in
      let word : here.row.op ≡ op_of here.o.event = word_is here.row here.o here.next.tells in
      let isnt : is_batched here.o.event ≡ false =
      sym (batched_word here.o.event) ∙ ap is_batched_word (sym word) ∙ ap (λ (r : Row). is_batched_word r.op) row_is ∙ ends in
      subst IsUnbroken (sym more)
      (whole_by (journal place) entry (subst AreJoined more (so_far (place + 1) (omega arith)).joined) isnt)

  front_by : (place : ℕ) → place ≤ length rows → IsSoFar place → IsUnbroken (journal place) → IsFront format script rows place
  front_by place within far whole =
      let is : journal place ≡ take place (journal_told script rows) = front_is place far.count in
      record {
        within = within;
        told = far.told;
        journal = is;
        run = record {
          answers = subst (RunsFrom format script.workers begun) is far.run;
          batches = subst IsUnbroken is whole;
        };
        numbers = subst (SufficeFrom format begun) is far.numbers;
      }

  front : (entries : ℕ) → ends_commit rows entries ≡ true → IsFront format script rows entries
  front zero ends =
      front_by 0 (omega arith) (so_far 0 (omega arith)) (subst IsUnbroken (sym (ap (journal_told script) (take_none rows))) tt)
  front (suc place) ends =
      let there : (row : Row) × (slice_get rows place ≡ Some row) × (is_batched_word row.op ≡ false) =
      end_there (slice_get rows place) (sym (ends_at rows place) ∙ ends) in
      let below : place < length rows = within_by rows place there.0 there.1 in
      subst (IsFront format script rows) (add-one place)
      (front_by (place + 1) (omega arith) (so_far (place + 1) (omega arith)) (whole_at place below there.0 there.1 there.2))

pub fronts_are_runs : FrontsAreRuns
fronts_are_runs format script rows entries kept legal ends = front format script kept rows legal entries ends

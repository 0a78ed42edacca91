-- A generation is destroyed once: a reaping names each once, and no later entry has it.
use Rattle.std.proofs.Common.{◌≡◌, ℕ, ◌<◌, ◌≤◌, ◌+◌, zero, suc, true, false, not, ◌&&◌, ◌==◌, List, [], ◌∷◌, ◌++◌, length, filter, Some, None, refl, sym, ap, ◌∙◌, subst, length-append, add-one, arith}
use Rattle.std.specs.Prelude.{nat_le, slice_index}
use Rattle.std.specs.Cmp.{first_so, second_so}
use Rattle.std.specs.List.{list_any}
use Rattle.std.specs.List.Sorted.{IsStrictlyIncreasing}
use Rattle.std.proofs.Math.Seq.{get_or-append_seam}
use Rattle.std.proofs.lemmas.Bool.{false≢true, both_ways, cond_both, cond-true, le-leb, or_right, false_from_ne_true}
use Rattle.std.proofs.lemmas.Option.{slice_get_within}
use Rattle.ev_types.specs.Same.{numbers_decide}
use Rattle.ev_types.specs.Statuses.{is_active}
use Rattle.ev_types.specs.declared.events.Actor.{Actor}
use Rattle.ev_types.specs.declared.events.Actor.TheVariants.{Worker}
use Rattle.ev_types.specs.declared.events.Answer.{Answer}
use Rattle.ev_types.specs.declared.events.Answer.TheVariants.{Ignored, Unchanged, Version, NotOpen, Done}
use Rattle.ev_types.specs.declared.events.Ask.{Ask}
use Rattle.ev_types.specs.declared.events.Entry.{Entry}
use Rattle.ev_types.specs.declared.events.Event.{Event}
use Rattle.ev_types.specs.declared.events.Event.TheVariants.{Accept}
use Rattle.ev_types.specs.declared.journals.Format.{Format}
use Rattle.ev_types.specs.declared.rows.GenRow.{GenRow}
use Rattle.ev_model.specs.World.{World, OpenMember, nothing_shown, last_version}
use Rattle.ev_model.specs.Sorted.{put_by, sorted_by}
use Rattle.ev_model.specs.Operations.{actor_same}
use Rattle.ev_model.specs.Picture.{has_number, is_shown, shown_of, shown_same}
use Rattle.ev_model.specs.Dead.{shown_at, picture_held, numbers_in_use, is_open_on, is_dead}
use Rattle.ev_model.specs.Connections.{Worked, is_member, is_open, accept, close, settle}
use Rattle.ev_model.specs.Publishing.{reap, dead_numbers}
use Rattle.ev_model.specs.Entries.{names_row, numbers_reaped, version_published}
use Rattle.ev_model.specs.Step.{step}
use Rattle.ev_model.specs.Laws.{Told, world_told, IsEntryAt, IsHidden, Reaps, IsGone, Once}
use Rattle.ev_model_laws.specs.Numbers.{RiseWithin, IsNumbered}
use Rattle.ev_model_laws.specs.Kept.{has_served, has_served_as, UsesServed, is_open_for, HasParts}
use Rattle.ev_model_laws.proofs.TidyLists.{any_at}
use Rattle.ev_model_laws.proofs.KeepLemmas.{step-holds}
use Rattle.ev_model_laws.proofs.AnswerLemmas.{HoldsOfAnswers, managed_answer, accepted_answer, closed_answer}
use Rattle.ev_model_laws.proofs.AnyLemmas.{any_so}
use Rattle.ev_model_laws.proofs.NumberLemmas.{numbers, filter-rise}
use Rattle.ev_model_laws.proofs.PictureLemmas.{serves_numbered, shown_serves}
use Rattle.ev_model_laws.proofs.MemberLemmas.{IsKnown, step-uses}
use Rattle.ev_model_laws.proofs.DrawnLemmas.{is_numbered, IsAway, stays_away, step-reaped, ReapsNothing, answers_reap}
use Rattle.ev_model_laws.proofs.OpenedLemmas.{accept_opens}
use Rattle.ev_model_laws.proofs.PlaceLemmas.{Runs, IsAnswered, entry_answered, world_next, over_places}
use Rattle.ev_model_laws.proofs.RunParts.{parts_kept, may_known}
use Rattle.ev_model_laws.proofs.LawLemmas.{HasDead, dead_named, hidden_at}

put_first : (n : ℕ) (ns : List ℕ) (high : ℕ) → RiseWithin n ns high → put_by nat_le n ns ≡ n ∷ ns
put_first n [] high rise = refl
put_first n (m ∷ ms) high rise = cond-true (nat_le n m) (n ∷ m ∷ ms) (m ∷ put_by nat_le n ms) (le-leb n m (omega (arith, rise.0)))

-- numbers that rise are in order
rising_sorted : (low : ℕ) (ns : List ℕ) (high : ℕ) → RiseWithin low ns high → sorted_by nat_le ns ≡ ns
rising_sorted low [] high rise = refl
rising_sorted low (n ∷ ns) high rise = ap (put_by nat_le n) (rising_sorted n ns high rise.1) ∙ put_first n ns high rise.1

rise_step : (low : ℕ) (ns : List ℕ) (high : ℕ) → RiseWithin low ns high → (k : ℕ) → suc k < length ns → slice_index ns k < slice_index ns (suc k)
rise_step low [] high rise k lt = absurd (omega arith)
rise_step low (n ∷ []) high rise k lt = absurd (omega arith)
rise_step low (n ∷ m ∷ ms) high rise zero lt = rise.1.0
rise_step low (n ∷ m ∷ ms) high rise (suc k) lt = rise_step n (m ∷ ms) high rise.1 k (omega arith)

rises : (low : ℕ) (ns : List ℕ) (high : ℕ) → RiseWithin low ns high → IsStrictlyIncreasing ns
rises low ns high rise k lt = subst (λ place. slice_index ns k < slice_index ns place) (sym (add-one k)) (rise_step low ns high rise k (omega arith))

none_rise : IsStrictlyIncreasing []
none_rise k lt = absurd (omega arith)

-- the numbers that a reaping names rise
abbrev RisesOf : Answer → Type 0
RisesOf answer = IsStrictlyIncreasing (numbers_reaped answer)

answers_rise : HoldsOfAnswers RisesOf
answers_rise = record {
  managed = record { ignored = none_rise; done = none_rise; moved = λ requests. none_rise; replied = λ requests verdicts. none_rise };
  in_use = none_rise;
  not_open = none_rise;
  no_listener = none_rise;
  no_chain = none_rise;
  on = λ listener chain way. none_rise;
}

dead_rise : (format : Format) (world : World) → IsNumbered world → IsStrictlyIncreasing (dead_numbers format world)
dead_rise format world rise =
    let among : RiseWithin 0 (numbers (filter (is_dead format world) world.rows)) world.made =
    filter-rise (is_dead format world) 0 world.rows world.made rise in
    subst IsStrictlyIncreasing (sym (rising_sorted 0 (numbers (filter (is_dead format world) world.rows)) world.made among))
    (rises 0 (numbers (filter (is_dead format world) world.rows)) world.made among)

step-rises : (format : Format) (world : World) (actor : Actor) (event : Event) → IsNumbered world → RisesOf (step format world actor event).1
step-rises format world actor event rise = step-holds (λ did. RisesOf did.1) format world actor event (record {
  ignored = none_rise;
  managed = λ event is. managed_answer RisesOf answers_rise.managed format world actor event is;
  published = cond_both (shown_same (shown_of world) (shown_at world (last_version world))) (world, Unchanged)
      (record world { pictures = world.pictures ++ shown_of world ∷ [] }, Version (length world.pictures)) (λ (did : World × Answer). RisesOf did.1)
      (λ same. none_rise) (λ new. none_rise);
  reaped = dead_rise format world rise;
  accepted = λ ask worker is. accepted_answer RisesOf answers_rise (picture_held world worker) ask worker world.opened;
  closed = λ connection worker is. closed_answer RisesOf answers_rise connection worker world.opened;
  settled = λ worker is. none_rise;
})

-- what an event names as reaped is a row's number before it
abbrev ReapsRows : World → World × Answer → Type 0
ReapsRows world did = (number : ℕ) → has_number number (numbers_reaped did.1) ≡ true → list_any (is_numbered number) world.rows ≡ true

of_nothing : (world : World) (did : World × Answer) → ReapsNothing did.1 → ReapsRows world did
of_nothing world did none number h = absurd (both_ways (has_number number (numbers_reaped did.1)) (none number) h)

step-rows : (format : Format) (world : World) (actor : Actor) (event : Event) → ReapsRows world (step format world actor event)
step-rows format world actor event = step-holds (ReapsRows world) format world actor event (record {
  ignored = of_nothing world (world, Ignored) (λ number. refl);
  managed = λ event is. of_nothing world (step format world actor event) (managed_answer ReapsNothing answers_reap.managed format world actor event is);
  published = cond_both (shown_same (shown_of world) (shown_at world (last_version world))) (world, Unchanged)
      (record world { pictures = world.pictures ++ shown_of world ∷ [] }, Version (length world.pictures)) (ReapsRows world)
      (λ same. of_nothing world (world, Unchanged) (λ number. refl))
      (λ new. of_nothing world (record world { pictures = world.pictures ++ shown_of world ∷ [] }, Version (length world.pictures)) (λ number. refl));
  reaped = λ number h.
      let dead : HasDead format world number = dead_named format world number h in
      any_at (is_numbered number) world.rows dead.row dead.among ((numbers_decide dead.row.number number).1 dead.numbered);
  accepted = λ ask worker is. of_nothing world (accept ask worker world)
      (accepted_answer ReapsNothing answers_reap (picture_held world worker) ask worker world.opened);
  closed = λ connection worker is. of_nothing world (close connection worker world)
      (closed_answer ReapsNothing answers_reap connection worker world.opened);
  settled = λ worker is. of_nothing world (settle worker world) (λ number. refl);
})

-- what an answer names as accepted on is a row's number
abbrev NamesRows : World → World × Answer → Type 0
NamesRows world did = (number : ℕ) → names_row number did.1 ≡ true → list_any (is_numbered number) world.rows ≡ true

accepted_names : (format : Format) (world : World) (ask : Ask) (worker : ℕ) → worker < length world.held → UsesServed world
    → NamesRows world (accept ask worker world)
accepted_names format world ask worker known uses number names =
    let after : UsesServed (accept ask worker world).0 = step-uses format world (Worker worker) (Accept ask) known uses in
    any_so (has_served_as number) (is_numbered number) world.rows (λ (row : GenRow). first_so (row.number == number) (has_served row.status))
    (after number (or_right (has_number number (numbers_in_use world)) _
    (any_so (is_open_for (Worker worker) ask.conn number) (is_open_on number) (accept ask worker world).0.opened
    (λ (m : OpenMember). second_so (actor_same (Worker worker) (Worker m.worker) && (m.connection == ask.conn)) (is_open_on number m))
    (accept_opens world ask worker number names))))

closed_names : (connection worker : ℕ) (world : World) → NamesRows world (close connection worker world)
closed_names connection worker world number =
    cond_both (is_open world.opened worker connection)
    (record { opened = filter (λ (m : OpenMember). not (is_member worker connection m)) world.opened; answer = Done })
    (record { opened = world.opened; answer = NotOpen })
    (λ (worked : Worked). names_row number worked.answer ≡ true → list_any (is_numbered number) world.rows ≡ true)
    (λ was names. absurd (false≢true names)) (λ none names. absurd (false≢true names))

step-names : (format : Format) (world : World) (actor : Actor) (event : Event) → IsKnown (length world.held) actor → UsesServed world
    → NamesRows world (step format world actor event)
step-names format world actor event known uses = step-holds (NamesRows world) format world actor event (record {
  ignored = λ number names. absurd (false≢true names);
  managed = λ event is number.
      managed_answer (λ answer. names_row number answer ≡ true → list_any (is_numbered number) world.rows ≡ true) (record {
        ignored = λ names. absurd (false≢true names);
        done = λ names. absurd (false≢true names);
        moved = λ requests names. absurd (false≢true names);
        replied = λ requests verdicts names. absurd (false≢true names);
      }) format world actor event is;
  published = cond_both (shown_same (shown_of world) (shown_at world (last_version world))) (world, Unchanged)
      (record world { pictures = world.pictures ++ shown_of world ∷ [] }, Version (length world.pictures)) (NamesRows world)
      (λ same number names. absurd (false≢true names)) (λ new number names. absurd (false≢true names));
  reaped = λ number names. absurd (false≢true names);
  accepted = λ ask worker is. accepted_names format world ask worker (subst (IsKnown (length world.held)) is known) uses;
  closed = λ connection worker is. closed_names connection worker world;
  settled = λ worker is number names. absurd (false≢true names);
})

-- a picture that is published hides a generation of which there is no row
abbrev HidesAway : World → ℕ → World × Answer → Type 0
HidesAway world number did = (version : ℕ) → version_published did.1 ≡ Some version → IsHidden did.0 version number

-- no publication is answered
abbrev PublishesNothing : Answer → Type 0
PublishesNothing answer = version_published answer ≡ None

answers_publish : HoldsOfAnswers PublishesNothing
answers_publish = record {
  managed = record { ignored = refl; done = refl; moved = λ requests. refl; replied = λ requests verdicts. refl };
  in_use = refl;
  not_open = refl;
  no_listener = refl;
  no_chain = refl;
  on = λ listener chain way. refl;
}

of_no_version : (world : World) (number : ℕ) (did : World × Answer) → PublishesNothing did.1 → HidesAway world number did
of_no_version world number did none version h = absurd (let never : None ≡ Some version = sym none ∙ h in cc)

published_hides_away : (world : World) (number : ℕ) → list_any (is_numbered number) world.rows ≡ false
    → HidesAway world number (record world { pictures = world.pictures ++ shown_of world ∷ [] }, Version (length world.pictures))
published_hides_away world number none version h =
    let same : length world.pictures ≡ version = cc in
    let after : World = record world { pictures = world.pictures ++ shown_of world ∷ [] } in
    let one : shown_at after (length world.pictures) ≡ shown_of world = get_or-append_seam world.pictures (shown_of world) [] nothing_shown in
    subst (λ place. IsHidden after place number) same
    (hidden_at after (length world.pictures) number (omega (arith, length-append world.pictures (shown_of world ∷ [])))
    (ap (is_shown number) one
    ∙ false_from_ne_true (is_shown number (shown_of world))
    (λ shown. both_ways (list_any (is_numbered number) world.rows) none
    (any_so (serves_numbered number) (is_numbered number) world.rows (λ (row : GenRow). first_so (row.number == number) (is_active row.status))
    (shown_serves number world shown)))))

step-hides : (format : Format) (world : World) (actor : Actor) (event : Event) (number : ℕ) → list_any (is_numbered number) world.rows ≡ false
    → HidesAway world number (step format world actor event)
step-hides format world actor event number none = step-holds (HidesAway world number) format world actor event (record {
  ignored = of_no_version world number (world, Ignored) refl;
  managed = λ event is. of_no_version world number (step format world actor event)
      (managed_answer PublishesNothing answers_publish.managed format world actor event is);
  published = cond_both (shown_same (shown_of world) (shown_at world (last_version world))) (world, Unchanged)
      (record world { pictures = world.pictures ++ shown_of world ∷ [] }, Version (length world.pictures)) (HidesAway world number)
      (λ same. of_no_version world number (world, Unchanged) refl)
      (λ new. published_hides_away world number none);
  reaped = of_no_version world number (reap format world) refl;
  accepted = λ ask worker is. of_no_version world number (accept ask worker world)
      (accepted_answer PublishesNothing answers_publish (picture_held world worker) ask worker world.opened);
  closed = λ connection worker is. of_no_version world number (close connection worker world)
      (closed_answer PublishesNothing answers_publish connection worker world.opened);
  settled = λ worker is. of_no_version world number (settle worker world) refl;
})

-- what was reaped is gone at each later place
away_later : (told : Told) (j k number : ℕ) → Runs told → j < k → k ≤ length told.journal → Reaps told j number → IsAway number (world_told told k)
away_later told j k number run lt le reaps =
    let world : World = world_told told j in
    let answered : IsAnswered told j reaps.entry = entry_answered told j reaps.entry run reaps.there in
    let parts : HasParts told j = parts_kept told run j (omega arith) in
    let first : IsAway number (step told.format world reaps.entry.actor reaps.entry.event).0 =
    step-reaped told.format world reaps.entry.actor reaps.entry.event parts.drawn.rows number
    (ap (λ (answer : Answer). has_number number (numbers_reaped answer)) (sym answered.answer) ∙ reaps.names) in
    over_places told (λ place. IsAway number (world_told told place)) (j + 1)
    (subst (IsAway number) (sym (world_next told j reaps.entry reaps.there)) first)
    (λ place entry behind there is.
    subst (IsAway number) (sym (world_next told place entry there)) (stays_away told.format (world_told told place) entry.actor entry.event number is))
    k (omega arith) le

gone_at : (told : Told) (k number : ℕ) (later : Entry) → Runs told → IsEntryAt told k later → IsAway number (world_told told k) → IsGone told number k later
gone_at told k number later run there is_away =
    let world : World = world_told told k in
    let answered : IsAnswered told k later = entry_answered told k later run there in
    let within : k < length told.journal = slice_get_within told.journal k later there in
    let parts : HasParts told k = parts_kept told run k (omega arith) in
    let known : IsKnown (length world.held) later.actor =
    subst (λ n. IsKnown n later.actor) (sym parts.workers) (may_known told.workers later.actor later.event answered.may) in
    record {
      reaped = ap (λ (answer : Answer). has_number number (numbers_reaped answer)) answered.answer
          ∙ false_from_ne_true _ (λ names. both_ways (list_any (is_numbered number) world.rows) is_away.1
          (step-rows told.format world later.actor later.event number names));
      accepted = ap (names_row number) answered.answer
          ∙ false_from_ne_true _ (λ names. both_ways (list_any (is_numbered number) world.rows) is_away.1
          (step-names told.format world later.actor later.event known parts.uses number names));
      published = λ version h.
          subst (λ (w : World). IsHidden w version number) (sym (world_next told k later there))
          (step-hides told.format world later.actor later.event number is_away.1 version (ap version_published (sym answered.answer) ∙ h));
    }

-- a generation is destroyed once
pub runs_once : (told : Told) → Runs told → Once told
runs_once told run = record {
  ascending = λ k entry there.
      let within : k < length told.journal = slice_get_within told.journal k entry there in
      subst (λ (answer : Answer). IsStrictlyIncreasing (numbers_reaped answer)) (sym (entry_answered told k entry run there).answer)
      (step-rises told.format (world_told told k) entry.actor entry.event (parts_kept told run k (omega arith)).drawn.rows);
  after = λ j k number later lt reaps there.
      let within : k < length told.journal = slice_get_within told.journal k later there in
      gone_at told k number later run there (away_later told j k number run lt (omega arith) reaps);
}

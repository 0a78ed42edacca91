-- Numbers that were allocated: those of rows rise, those that pictures show were allocated,
-- and one that was reaped is no row's again.
use Rattle.std.proofs.Common.{◌≡◌, ℕ, ◌<◌, ◌≤◌, ◌+◌, Bool, true, false, not, ◌==◌, cond, List, [], ◌∷◌, ◌++◌, length, map, filter, refl, sym, ◌∙◌, arith}
use Rattle.std.specs.Cmp.{first_so}
use Rattle.std.specs.List.{list_any, flat_map}
use Rattle.std.proofs.lemmas.Bool.{false≢true, cond_both, or_from, false_from_ne_true}
use Rattle.std.proofs.lemmas.List.Folds.{list_any-append}
use Rattle.std.specs.Prelude.{nat_le}
use Rattle.ev_types.specs.Same.{numbers_decide}
use Rattle.ev_types.specs.Statuses.{is_active}
use Rattle.ev_types.specs.declared.events.Actor.{Actor}
use Rattle.ev_types.specs.declared.events.Answer.{Answer}
use Rattle.ev_types.specs.declared.events.Answer.TheVariants.{Ignored, Unchanged, Version}
use Rattle.ev_types.specs.declared.events.Event.{Event}
use Rattle.ev_types.specs.declared.journals.Format.{Format}
use Rattle.ev_types.specs.declared.rows.GenRow.{GenRow}
use Rattle.ev_types.specs.declared.rows.Phase.{Phase}
use Rattle.ev_types.specs.declared.rows.RowStatus.{RowStatus}
use Rattle.ev_model.specs.declared.pictures.Shown.{Shown}
use Rattle.ev_model.specs.World.{World, last_version, opening}
use Rattle.ev_model.specs.Rows.{with_statuses, replaced_status, new_row}
use Rattle.ev_model.specs.Tidy.{promoted_status}
use Rattle.ev_model.specs.Picture.{has_number, is_shown, numbers_shown, shown_of, shown_same}
use Rattle.ev_model.specs.Dead.{shown_at, picture_held, is_dead}
use Rattle.ev_model.specs.Entries.{numbers_reaped}
use Rattle.ev_model.specs.Connections.{accept, close, settle}
use Rattle.ev_model.specs.Publishing.{reap}
use Rattle.ev_model.specs.Step.{step}
use Rattle.ev_model_laws.specs.Numbers.{RiseWithin, IsNumbered}
use Rattle.ev_model_laws.specs.Kept.{numbers_published, DrawnOnce}
use Rattle.ev_model_laws.proofs.KeepLemmas.{KeepsTidied, managed-keeps, removed_where, Keeps, step-keeps, either, step-each, step-holds}
use Rattle.ev_model_laws.proofs.AnswerLemmas.{HoldsOfAnswers, managed_answer, accepted_answer, closed_answer}
use Rattle.ev_model_laws.proofs.AnyLemmas.{or_so, any_so, any_behind, any_only, any_left, any_mapped, any_flat, any_sorted}
use Rattle.ev_model_laws.proofs.NumberLemmas.{numbers, keeps_numbered}
use Rattle.ev_model_laws.proofs.PictureLemmas.{serves_numbered, shown_serves}

-- the row is of this number
abbrev pub is_numbered : ℕ → GenRow → Bool
is_numbered number row = row.number == number

rise_within : (low : ℕ) (ns : List ℕ) (high : ℕ) → RiseWithin low ns high → low ≤ high
rise_within low [] high rise = rise
rise_within low (n ∷ ns) high rise = omega (arith, rise.0, rise_within n ns high rise.1)

-- a row's number is within the bounds
pub numbered_within : (number low : ℕ) (rows : List GenRow) (high : ℕ) → RiseWithin low (numbers rows) high
    → list_any (is_numbered number) rows ≡ true → (low < number) × (number ≤ high)
numbered_within number low [] high rise h = absurd (false≢true h)
numbered_within number low (row ∷ rows) high rise h =
    or_so (row.number == number) (list_any (is_numbered number) rows)
    (λ here.
    let same : row.number ≡ number = (numbers_decide row.number number).0 here in
    (omega (arith, rise.0, same), omega (arith, rise_within row.number (numbers rows) high rise.1, same)))
    (λ rest.
    let more : (row.number < number) × (number ≤ high) = numbered_within number row.number rows high rise.1 rest in
    (omega (arith, rise.0, more.0), more.1))
    h

-- a number below the bounds is no row's
pub none_numbered : (number low : ℕ) (rows : List GenRow) (high : ℕ) → RiseWithin low (numbers rows) high → number ≤ low
    → list_any (is_numbered number) rows ≡ false
none_numbered number low rows high rise le =
    false_from_ne_true (list_any (is_numbered number) rows)
    (λ h. let more : (low < number) × (number ≤ high) = numbered_within number low rows high rise h in omega (arith, more.0))

-- what fails of all fails of what a filter leaves
pub none_left : {X : Type 0} (p keeps : X → Bool) (xs : List X) → list_any p xs ≡ false → list_any p (filter keeps xs) ≡ false
none_left p keeps xs none = false_from_ne_true (list_any p (filter keeps xs)) (λ h. false≢true (sym none ∙ any_left p keeps xs h))

-- where one test implies another, none passes it where none passes the other
pub none_so : {X : Type 0} (p q : X → Bool) (xs : List X) → ((x : X) → p x ≡ true → q x ≡ true) → list_any q xs ≡ false → list_any p xs ≡ false
none_so p q xs so none = false_from_ne_true (list_any p xs) (λ h. false≢true (sym none ∙ any_so p q xs so h))

away_by : (number : ℕ) (goes : Bool) (row : GenRow) (left gone : List GenRow)
    → ((row.number == number) ≡ true → list_any (is_numbered number) left ≡ false)
    → (list_any (is_numbered number) gone ≡ true → list_any (is_numbered number) left ≡ false)
    → (list_any (is_numbered number) gone ≡ true → (row.number == number) ≡ false)
    → list_any (is_numbered number) (cond goes (row ∷ gone) gone) ≡ true
    → list_any (is_numbered number) (cond (not goes) (row ∷ left) left) ≡ false
away_by number true row left gone first second third h = or_so (row.number == number) (list_any (is_numbered number) gone) first second h
away_by number false row left gone first second third h = or_from (row.number == number) (list_any (is_numbered number) left) (third h) (second h)

-- of rows with rising numbers, a number of those that go is no number of those that stay
away : (goes : GenRow → Bool) (number low : ℕ) (rows : List GenRow) (high : ℕ) → RiseWithin low (numbers rows) high
    → list_any (is_numbered number) (filter goes rows) ≡ true
    → list_any (is_numbered number) (filter (λ (row : GenRow). not (goes row)) rows) ≡ false
away goes number low [] high rise h = refl
away goes number low (row ∷ rows) high rise h =
    away_by number (goes row) row (filter (λ (other : GenRow). not (goes other)) rows) (filter goes rows)
    (λ here.
    let same : row.number ≡ number = (numbers_decide row.number number).0 here in
    none_left (is_numbered number) _ rows (none_numbered number row.number rows high rise.1 (omega (arith, same))))
    (away goes number row.number rows high rise.1)
    (λ rest.
    let more : (row.number < number) × (number ≤ high) =
    numbered_within number row.number rows high rise.1 (any_left (is_numbered number) goes rows rest) in
    false_from_ne_true (row.number == number)
    (λ here. let same : row.number ≡ number = (numbers_decide row.number number).0 here in omega (arith, more.0, same)))
    h

-- the number was allocated, and is no row's
abbrev pub IsAway : ℕ → World → Type 0
IsAway number world = (number ≤ world.made) × (list_any (is_numbered number) world.rows ≡ false)

-- other statuses leave the numbers of rows
pub statuses_numbered : (number : ℕ) (status_of : GenRow → RowStatus) (rows : List GenRow)
    → list_any (is_numbered number) (with_statuses status_of rows) ≡ list_any (is_numbered number) rows
statuses_numbered number status_of rows = any_mapped (is_numbered number) (λ (row : GenRow). record row { status = status_of row }) rows

-- the next number is none of those that were allocated
pub next_apart : (number made : ℕ) → number ≤ made → (made + 1 == number) ≡ false
next_apart number made le =
    false_from_ne_true (made + 1 == number)
    (λ h. let same : made + 1 ≡ number = (numbers_decide (made + 1) number).0 h in omega (arith, same))

keeps_away : (number : ℕ) → Keeps (λ rows made (phase : Phase). (number ≤ made) × (list_any (is_numbered number) rows ≡ false))
keeps_away number = record {
  removed = λ goes rows made phase fact. (fact.0, statuses_numbered number (removed_where goes) rows ∙ fact.1);
  added = λ kind name content kept rows made phase fact. (
    omega (arith, fact.0),
    list_any-append (is_numbered number) (with_statuses (replaced_status kind name) rows) (new_row kind made name content kept ∷ [])
        ∙ or_from _ _ (statuses_numbered number (replaced_status kind name) rows ∙ fact.1)
        (or_from (made + 1 == number) false (next_apart number made fact.0) refl),
  );
  left = λ test rows made phase fact. (fact.0, none_left (is_numbered number) test rows fact.1);
  tidied = λ world fact.
      (fact.0, statuses_numbered number (promoted_status world.arrivals world.results world.rows) world.rows ∙ fact.1);
}

-- a number that was allocated, and is no row's, stays no row's
pub stays_away : (format : Format) (world : World) (actor : Actor) (event : Event) (number : ℕ)
    → IsAway number world → IsAway number (step format world actor event).0
stays_away format world actor event number fact = step-keeps _ (keeps_away number) format world actor event fact

-- the numbers that pictures show were allocated
abbrev pub ShowsDrawn : World → Type 0
ShowsDrawn world = (number : ℕ) → has_number number (numbers_published world) ≡ true → number ≤ world.made

keeps_shown : KeepsTidied (λ rows made phase versions seen. (number : ℕ) → has_number number (flat_map numbers_shown seen.pictures) ≡ true → number ≤ made) ShowsDrawn
keeps_shown = record {
  removed = λ goes rows made phase versions seen drawn. drawn;
  added = λ kind name content kept rows made phase versions seen drawn number h. omega (arith, drawn number h);
  version_added = λ new rows made phase versions seen drawn. drawn;
  version_renewed = λ kind name rows made phase versions seen drawn. drawn;
  versions_left = λ test rows made phase versions seen drawn. drawn;
  untidied = λ world drawn. drawn;
  tidied = λ world drawn. drawn;
}

-- what pictures show, a new one after them, is what the others show or what the new one does
pub published_with : {P : Type 0} (number : ℕ) (pictures : List Shown) (new : Shown)
    → (has_number number (flat_map numbers_shown pictures) ≡ true → P) → (is_shown number new ≡ true → P)
    → has_number number (flat_map numbers_shown (pictures ++ new ∷ [])) ≡ true → P
published_with number pictures new old one h =
    any_behind (is_shown number) pictures (new ∷ [])
    (λ first. old (any_flat (λ n. n == number) numbers_shown pictures ∙ first))
    (λ second. one (any_only (is_shown number) new second))
    (sym (any_flat (λ n. n == number) numbers_shown (pictures ++ new ∷ [])) ∙ h)

published_drawn : (world : World) → IsNumbered world → ShowsDrawn world → ShowsDrawn (record world { pictures = world.pictures ++ shown_of world ∷ [] })
published_drawn world rise drawn number =
    published_with number world.pictures (shown_of world) (drawn number)
    (λ new.
    (numbered_within number 0 world.rows world.made rise
    (any_so (serves_numbered number) (is_numbered number) world.rows
    (λ (row : GenRow). first_so (row.number == number) (is_active row.status)) (shown_serves number world new))).1)

step-shown : (format : Format) (world : World) (actor : Actor) (event : Event) → IsNumbered world → ShowsDrawn world → ShowsDrawn (step format world actor event).0
step-shown format world actor event rise drawn = step-each ShowsDrawn format world actor event drawn (record {
  managed = λ event is. managed-keeps _ ShowsDrawn keeps_shown (λ numbers other drawn. drawn) format world actor event is drawn;
  published = either ShowsDrawn _ _ _ drawn (published_drawn world rise drawn);
  reaped = drawn;
  accepted = λ ask worker is. drawn;
  closed = λ connection worker is. drawn;
  settled = λ worker is. drawn;
})

-- no reaping is answered
abbrev pub ReapsNothing : Answer → Type 0
ReapsNothing answer = (number : ℕ) → has_number number (numbers_reaped answer) ≡ false

pub answers_reap : HoldsOfAnswers ReapsNothing
answers_reap = record {
  managed = record {
    ignored = λ number. refl;
    done = λ number. refl;
    moved = λ requests number. refl;
    replied = λ requests verdicts number. refl;
  };
  in_use = λ number. refl;
  not_open = λ number. refl;
  no_listener = λ number. refl;
  no_chain = λ number. refl;
  on = λ listener chain way number. refl;
}

-- what is named by a reaping is gone after it
abbrev AreAway : World × Answer → Type 0
AreAway did = (number : ℕ) → has_number number (numbers_reaped did.1) ≡ true → IsAway number did.0

away_of_none : (did : World × Answer) → ReapsNothing did.1 → AreAway did
away_of_none did none number h = absurd (false≢true (sym (none number) ∙ h))

pub reaped_away : (format : Format) (world : World) → IsNumbered world → AreAway (reap format world)
reaped_away format world rise number h =
    let among : list_any (is_numbered number) (filter (is_dead format world) world.rows) ≡ true =
    sym (any_mapped (λ n. n == number) (λ (row : GenRow). row.number) (filter (is_dead format world) world.rows))
    ∙ any_sorted (λ n. n == number) nat_le (map (λ (row : GenRow). row.number) (filter (is_dead format world) world.rows)) h in (
      (numbered_within number 0 world.rows world.made rise (any_left (is_numbered number) (is_dead format world) world.rows among)).1,
      away (is_dead format world) number 0 world.rows world.made rise among,
    )

-- what an event reaps was allocated, and is no row's after it
pub step-reaped : (format : Format) (world : World) (actor : Actor) (event : Event) → IsNumbered world → AreAway (step format world actor event)
step-reaped format world actor event rise = step-holds AreAway format world actor event (record {
  ignored = away_of_none (world, Ignored) (λ number. refl);
  managed = λ event is. away_of_none (step format world actor event)
      (managed_answer ReapsNothing answers_reap.managed format world actor event is);
  published = cond_both (shown_same (shown_of world) (shown_at world (last_version world))) (world, Unchanged)
      (record world { pictures = world.pictures ++ shown_of world ∷ [] }, Version (length world.pictures)) AreAway
      (λ same. away_of_none (world, Unchanged) (λ number. refl))
      (λ new. away_of_none (record world { pictures = world.pictures ++ shown_of world ∷ [] }, Version (length world.pictures)) (λ number. refl));
  reaped = reaped_away format world rise;
  accepted = λ ask worker is. away_of_none (accept ask worker world) (accepted_answer ReapsNothing answers_reap (picture_held world worker) ask worker world.opened);
  closed = λ connection worker is. away_of_none (close connection worker world) (closed_answer ReapsNothing answers_reap connection worker world.opened);
  settled = λ worker is. away_of_none (settle worker world) (λ number. refl);
})

pub opens_drawn : (workers : ℕ) (node : List ℕ) → DrawnOnce (opening workers node) []
opens_drawn workers node = record {
  rows = omega arith;
  shown = λ number h. absurd (false≢true h);
  reaped = λ number h. absurd (false≢true h);
  away = λ number h. absurd (false≢true h);
}

-- an event keeps that numbers are allocated once, with those that it reaps
pub step-drawn : (format : Format) (world : World) (actor : Actor) (event : Event) (gone : List ℕ)
    → DrawnOnce world gone → DrawnOnce (step format world actor event).0 (gone ++ numbers_reaped (step format world actor event).1)
step-drawn format world actor event gone drawn =
    let is_away : (number : ℕ) → has_number number (gone ++ numbers_reaped (step format world actor event).1) ≡ true
    → IsAway number (step format world actor event).0 = λ number.
    any_behind (λ n. n == number) gone (numbers_reaped (step format world actor event).1)
    (λ old. stays_away format world actor event number (drawn.reaped number old, drawn.away number old))
    (step-reaped format world actor event drawn.rows number) in
    record {
      rows = step-keeps _ keeps_numbered format world actor event drawn.rows;
      shown = step-shown format world actor event drawn.rows drawn.shown;
      reaped = λ number h. (is_away number h).0;
      away = λ number h. (is_away number h).1;
    }

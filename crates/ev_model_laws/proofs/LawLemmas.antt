-- Laws of runs from the parts.
use Rattle.std.proofs.Common.{◌≡◌, ℕ, ◌<◌, ◌≤◌, ◌⊎◌, inl, inr, Bool, true, false, not, ◌&&◌, ◌==◌, cond, List, [], ◌∷◌, ◌++◌, length, map, filter, Option, Some, None, refl, sym, ap, ◌∙◌, subst, IsTrue, length-append, le_trans, arith}
use Rattle.std.specs.Prelude.{nat_le}
use Rattle.std.specs.Cmp.{first_so, second_so}
use Rattle.std.specs.List.{list_any, Contains}
use Rattle.std.proofs.lemmas.Bool.{false≢true, both_ways, cond_both, and_from, and_left, and_right, or_from, or_left, or_parts, not-true, not_from_true, false_from_ne_true}
use Rattle.std.proofs.lemmas.List.Folds.{list_any_at}
use Rattle.std.proofs.lemmas.Option.{slice_get_within, slice_get-get_or}
use Rattle.ev_types.specs.Same.{numbers_decide}
use Rattle.ev_types.specs.declared.events.Actor.{Actor}
use Rattle.ev_types.specs.declared.events.Actor.TheVariants.{Worker}
use Rattle.ev_types.specs.declared.events.Answer.{Answer}
use Rattle.ev_types.specs.declared.events.Answer.TheVariants.{Ignored, Unchanged, Version}
use Rattle.ev_types.specs.declared.events.Entry.{Entry}
use Rattle.ev_types.specs.declared.events.Event.{Event}
use Rattle.ev_types.specs.declared.journals.Format.{Format}
use Rattle.ev_types.specs.declared.rows.GenRow.{GenRow}
use Rattle.ev_types.specs.declared.rows.RowStatus.{RowStatus}
use Rattle.ev_types.specs.declared.rows.RowStatus.TheVariants.{Warming, Active, Draining, Dropped}
use Rattle.ev_model.specs.declared.pictures.Shown.{Shown}
use Rattle.ev_model.specs.World.{World, OpenMember, nothing_shown, last_version}
use Rattle.ev_model.specs.Operations.{actor_same}
use Rattle.ev_model.specs.Picture.{has_number, is_shown, shown_of, shown_same}
use Rattle.ev_model.specs.Dead.{shown_at, version_held, picture_held, numbers_in_use, is_in_use, is_open_on, is_dead_at, is_dead}
use Rattle.ev_model.specs.Connections.{accept, close}
use Rattle.ev_model.specs.Publishing.{reap, dead_numbers}
use Rattle.ev_model.specs.Entries.{numbers_reaped, version_settled}
use Rattle.ev_model.specs.Step.{step}
use Rattle.ev_model.specs.Laws.{Told, world_told, SettlesOn, Forward, IsReleasedBetween, IsHidden, Reaps, Unused}
use Rattle.ev_model_laws.specs.Numbers.{RiseWithin, IsNumbered}
use Rattle.ev_model_laws.specs.Kept.{has_served, UsesServed, is_open_for, HasParts}
use Rattle.ev_model_laws.proofs.KeepLemmas.{either, step-each, step-holds}
use Rattle.ev_model_laws.proofs.SeenLemmas.{same_seen}
use Rattle.ev_model_laws.proofs.AnswerLemmas.{managed_answer, accepted_answer, closed_answer}
use Rattle.ev_model_laws.proofs.AnyLemmas.{or_so, any_so, any_first, any_second, any_mapped, any_sorted, any_found}
use Rattle.ev_model_laws.proofs.NumberLemmas.{numbers}
use Rattle.ev_model_laws.proofs.PromotionLemmas.{each_left}
use Rattle.ev_model_laws.proofs.PictureLemmas.{in_use_is}
use Rattle.ev_model_laws.proofs.SettledLemmas.{SettlesNothing, answers_settle}
use Rattle.ev_model_laws.proofs.DrawnLemmas.{is_numbered, numbered_within, none_numbered, none_so}
use Rattle.ev_model_laws.proofs.ExpiredLemmas.{passed}
use Rattle.ev_model_laws.proofs.TidyLists.{any_at}
use Rattle.ev_model_laws.proofs.PlaceLemmas.{Runs, entry_answered, world_next, over_places}
use Rattle.ev_model_laws.proofs.RunParts.{parts_kept}

-- the version of a settle is the last one
abbrev SettlesLast : World → World × Answer → Type 0
SettlesLast world did = (version : ℕ) → version_settled did.1 ≡ Some version → version ≡ last_version world

of_none : (world : World) (did : World × Answer) → SettlesNothing did.1 → SettlesLast world did
of_none world did none version h = absurd (let never : None ≡ Some version = sym none ∙ h in cc)

step-last : (format : Format) (world : World) (actor : Actor) (event : Event) → SettlesLast world (step format world actor event)
step-last format world actor event = step-holds (SettlesLast world) format world actor event (record {
  ignored = of_none world (world, Ignored) refl;
  managed = λ event is. of_none world (step format world actor event) (managed_answer SettlesNothing answers_settle.managed format world actor event is);
  published = cond_both (shown_same (shown_of world) (shown_at world (last_version world))) (world, Unchanged)
      (record world { pictures = world.pictures ++ shown_of world ∷ [] }, Version (length world.pictures)) (SettlesLast world)
      (λ same. of_none world (world, Unchanged) refl)
      (λ new. of_none world (record world { pictures = world.pictures ++ shown_of world ∷ [] }, Version (length world.pictures)) refl);
  reaped = of_none world (reap format world) refl;
  accepted = λ ask worker is. of_none world (accept ask worker world)
      (accepted_answer SettlesNothing answers_settle (picture_held world worker) ask worker world.opened);
  closed = λ connection worker is. of_none world (close connection worker world)
      (closed_answer SettlesNothing answers_settle connection worker world.opened);
  settled = λ worker is version h. cc;
})

-- no event takes a picture away
step-grows : (format : Format) (world : World) (actor : Actor) (event : Event) → length world.pictures ≤ length (step format world actor event).0.pictures
step-grows format world actor event =
    let same : length world.pictures ≤ length world.pictures = omega arith in
    let more : length world.pictures ≤ length (world.pictures ++ shown_of world ∷ []) =
    omega (arith, length-append world.pictures (shown_of world ∷ [])) in
    step-each (λ (w : World). length world.pictures ≤ length w.pictures) format world actor event same (record {
      managed = λ event is.
          subst (λ (pictures : List Shown). length world.pictures ≤ length pictures) (sym (same_seen format world actor event is).pictures) same;
      published = either (λ (w : World). length world.pictures ≤ length w.pictures) _ _ _ same more;
      reaped = same;
      accepted = λ ask worker is. same;
      closed = λ connection worker is. same;
      settled = λ worker is. same;
    })

grown : (told : Told) (j k : ℕ) → j ≤ k → k ≤ length told.journal → length (world_told told j).pictures ≤ length (world_told told k).pictures
grown told j k from le =
    let same : length (world_told told j).pictures ≤ length (world_told told j).pictures = omega arith in
    over_places told (λ place. length (world_told told j).pictures ≤ length (world_told told place).pictures) j same
    (λ place entry behind there grows.
    le_trans grows
    (subst (λ (w : World). length (world_told told place).pictures ≤ length w.pictures) (sym (world_next told place entry there))
    (step-grows told.format (world_told told place) entry.actor entry.event)))
    k from le

settled_by : (test : Bool) (settled : Option ℕ) (version : ℕ) → cond test settled None ≡ Some version → settled ≡ Some version
settled_by true settled version h = h
settled_by false settled version h = absurd (let never : None ≡ Some version = h in cc)

-- the version on which an actor settles is the last one there
settles_last : (told : Told) (k : ℕ) (actor : Actor) (version : ℕ) → Runs told → SettlesOn told k actor version → version ≡ last_version (world_told told k)
settles_last told k actor version run on =
    step-last told.format (world_told told k) on.entry.actor on.entry.event version
    (ap version_settled (sym (entry_answered told k on.entry run on.there).answer)
    ∙ settled_by (actor_same on.entry.actor actor) (version_settled on.entry.answer) version on.settled)

-- no worker's snapshot goes back
pub runs_forward : (told : Told) → Runs told → Forward told
runs_forward told run j k actor version next lt before after =
    let within : k < length told.journal = slice_get_within told.journal k after.entry after.there in
    let grows : length (world_told told j).pictures ≤ length (world_told told k).pictures = grown told j k (omega arith) (omega arith) in
    let first : version ≡ last_version (world_told told j) = settles_last told j actor version run before in
    let second : next ≡ last_version (world_told told k) = settles_last told k actor next run after in
    omega (arith, grows, first, second)

-- a row of this number is dead
pub record HasDead (format : Format) (world : World) (number : ℕ) : Type 0 where
  pub row : GenRow
  pub among : Contains world.rows row
  pub numbered : row.number ≡ number
  pub dead : is_dead format world row ≡ true

pub dead_named : (format : Format) (world : World) (number : ℕ) → has_number number (dead_numbers format world) ≡ true → HasDead format world number
dead_named format world number h =
    let found : (row : GenRow) × Contains (filter (is_dead format world) world.rows) row × ((row.number == number) ≡ true) =
    any_found (λ (row : GenRow). row.number == number) (filter (is_dead format world) world.rows)
    (sym (any_mapped (λ n. n == number) (λ (row : GenRow). row.number) (filter (is_dead format world) world.rows))
    ∙ any_sorted (λ n. n == number) nat_le (map (λ (row : GenRow). row.number) (filter (is_dead format world) world.rows)) h) in
    record {
      row = found.0;
      among = each_left (Contains world.rows) (is_dead format world) world.rows (λ row there. there) found.0 found.1;
      numbered = (numbers_decide found.0.number number).0 found.2;
      dead = passed (is_dead format world) world.rows found.0 found.1;
    }

-- what a reaping names is a row that is dead
pub reaps_dead : (told : Told) (k number : ℕ) → Runs told → Reaps told k number → HasDead told.format (world_told told k) number
reaps_dead told k number run reaps =
    let world : World = world_told told k in
    let entry : Entry = reaps.entry in
    dead_named told.format world number
    (subst (λ (event : Event). has_number number (numbers_reaped (step told.format world entry.actor event).1) ≡ true) reaps.reaping
    (ap (λ (answer : Answer). has_number number (numbers_reaped answer)) (sym (entry_answered told k entry run reaps.there).answer) ∙ reaps.names))

-- of rows with rising numbers, where one of this number passes a test, none of this number fails it
pub one_passes : (test : GenRow → Bool) (number low : ℕ) (rows : List GenRow) (high : ℕ) → RiseWithin low (numbers rows) high
    → list_any (λ (row : GenRow). (row.number == number) && test row) rows ≡ true
    → list_any (λ (row : GenRow). (row.number == number) && not (test row)) rows ≡ false
one_passes test number low [] high rise h = refl
one_passes test number low (row ∷ rows) high rise h =
    or_so ((row.number == number) && test row) (list_any (λ (other : GenRow). (other.number == number) && test other) rows)
    (λ here.
    let same : row.number ≡ number = (numbers_decide row.number number).0 (first_so (row.number == number) (test row) here) in
    or_from ((row.number == number) && not (test row)) _
    (and_right (row.number == number) (not (test row)) (not_from_true (test row) (second_so (row.number == number) (test row) here)))
    (none_so (λ (other : GenRow). (other.number == number) && not (test other)) (is_numbered number) rows
    (λ (other : GenRow). first_so (other.number == number) (not (test other)))
    (none_numbered number row.number rows high rise.1 (omega (arith, same)))))
    (λ rest.
    let more : (row.number < number) × (number ≤ high) =
    numbered_within number row.number rows high rise.1
    (any_so (λ (other : GenRow). (other.number == number) && test other) (is_numbered number) rows
    (λ (other : GenRow). first_so (other.number == number) (test other)) rest) in
    or_from ((row.number == number) && not (test row)) _
    (and_left (row.number == number) (not (test row))
    (false_from_ne_true (row.number == number)
    (λ here. let same : row.number ≡ number = (numbers_decide row.number number).0 here in omega (arith, more.0, same))))
    (one_passes test number row.number rows high rise.1 rest))
    h

pub passes_by : (test : Bool) → (test ≡ false → ⊥) → test ≡ true
passes_by true never = refl
passes_by false never = absurd (never refl)

-- so a row of this number passes it
pub row_passes : (test : GenRow → Bool) (number : ℕ) (world : World) (row : GenRow) → IsNumbered world → Contains world.rows row → row.number ≡ number
    → list_any (λ (other : GenRow). (other.number == number) && test other) world.rows ≡ true → test row ≡ true
row_passes test number world row rise among numbered h =
    passes_by (test row)
    (λ fails.
    both_ways _ (one_passes test number 0 world.rows world.made rise h)
    (any_at (λ (other : GenRow). (other.number == number) && not (test other)) world.rows row among
    (and_from (row.number == number) (not (test row)) ((numbers_decide row.number number).1 numbered) (ap not fails))))

pub not_held : (status : RowStatus) (held : Bool) → has_served status ≡ true → is_dead_at status held ≡ true → held ≡ false
not_held Warming held served dead = absurd (false≢true served)
not_held Active held served dead = absurd (false≢true dead)
not_held Draining held served dead = not-true held dead
not_held Dropped held served dead = absurd (false≢true served)

-- a generation that is dead isn't in use
pub dead_unused : (format : Format) (world : World) (number : ℕ) → IsNumbered world → UsesServed world → HasDead format world number
    → is_in_use world number ≡ false
dead_unused format world number rise uses dead =
    false_from_ne_true (is_in_use world number)
    (λ used.
    let served : has_served dead.row.status ≡ true =
    row_passes (λ (row : GenRow). has_served row.status) number world dead.row rise dead.among dead.numbered (uses number used) in
    both_ways (is_in_use world dead.row.number)
    (or_parts (is_in_use world dead.row.number) _ (not_held dead.row.status _ served dead.dead)).0
    (subst (λ n. is_in_use world n ≡ true) (sym dead.numbered) used))

-- a picture that doesn't show the generation hides it
pub hidden_at : (world : World) (version number : ℕ) → version < length world.pictures → is_shown number (shown_at world version) ≡ false → IsHidden world version number
hidden_at world version number lt hidden = record {
  shown = shown_at world version;
  there = slice_get-get_or world.pictures version nothing_shown lt;
  hidden = hidden;
}

closed_or : (opened : List OpenMember) (actor : Actor) (connection number : ℕ) (Closed : Type 0) → list_any (is_open_on number) opened ≡ false
    → Closed ⊎ IsTrue (list_any (is_open_for actor connection number) opened) → Closed
closed_or opened actor connection number Closed none (inl closed) = closed
closed_or opened actor connection number Closed none (inr is) =
    absurd (both_ways (list_any (is_open_on number) opened) none
    (any_so (is_open_for actor connection number) (is_open_on number) opened
    (λ (m : OpenMember). second_so (actor_same actor (Worker m.worker) && (m.connection == connection)) (is_open_on number m)) is))

-- what a reaping names is unused
pub runs_unused : (told : Told) → Runs told → Unused told
runs_unused told run k number reaps =
    let world : World = world_told told k in
    let within : k < length told.journal = slice_get_within told.journal k reaps.entry reaps.there in
    let parts : HasParts told k = parts_kept told run k (omega arith) in
    let unused : is_in_use world number ≡ false =
    dead_unused told.format world number parts.drawn.rows parts.uses (reaps_dead told k number run reaps) in
    let apart : (has_number number (numbers_in_use world) ≡ false) × (list_any (is_open_on number) world.opened ≡ false) =
    or_parts (has_number number (numbers_in_use world)) (list_any (is_open_on number) world.opened) unused in
    let sees : ℕ → Bool = λ version. is_shown number (shown_at world version) in
    let unseen : list_any sees (world.held ++ last_version world ∷ []) ≡ false = sym (in_use_is number world) ∙ apart.0 in
    let some : 0 < length world.pictures = omega (arith, parts.holds 0) in
    record {
      released = λ j actor connection before opened.
          closed_or world.opened actor connection number (IsReleasedBetween told j k actor connection) apart.1 (parts.stays j actor number connection before opened);
      free = apart.1;
      unseen = record {
        held = λ worker lt.
            let among : worker < length world.held = subst (λ n. worker < n) (sym parts.workers) lt in
            subst (λ version. IsHidden world version number) (parts.settled worker lt)
            (hidden_at world (version_held world worker) number (parts.holds worker)
            (false_from_ne_true (sees (version_held world worker))
            (λ shown. both_ways (list_any sees (world.held ++ last_version world ∷ [])) unseen
            (any_first sees world.held (last_version world ∷ []) (list_any_at sees world.held worker 0 among shown)))));
        last = hidden_at world (last_version world) number (omega arith)
            (false_from_ne_true (sees (last_version world))
            (λ shown. both_ways (list_any sees (world.held ++ last_version world ∷ [])) unseen
            (any_second sees world.held (last_version world ∷ []) (or_left (sees (last_version world)) false shown))));
      };
    }

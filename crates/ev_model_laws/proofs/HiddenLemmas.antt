-- A generation that warms, or was dropped, is in no picture and has no connection.
use Rattle.std.proofs.Common.{◌≡◌, ℕ, ◌<◌, ◌≤◌, ◌+◌, zero, suc, Bool, true, false, not, ◌&&◌, ◌==◌, List, [], ◌∷◌, ◌++◌, filter, refl, sym, ap, ◌∙◌, arith}
use Rattle.std.specs.Prelude.{slice_index_or}
use Rattle.std.specs.Cmp.{first_so, second_so}
use Rattle.std.specs.List.{list_any, flat_map}
use Rattle.std.proofs.lemmas.Bool.{false≢true, cond_both, and_from, and_left, and_right, or_from, or_left, or_right, not_from_true, false_from_ne_true}
use Rattle.std.proofs.lemmas.List.Folds.{list_any-append}
use Rattle.ev_types.specs.Same.{numbers_decide}
use Rattle.ev_types.specs.Statuses.{is_active}
use Rattle.ev_types.specs.declared.events.Actor.{Actor}
use Rattle.ev_types.specs.declared.events.Answer.TheVariants.{InUse, NotOpen, Done}
use Rattle.ev_types.specs.declared.events.Ask.{Ask}
use Rattle.ev_types.specs.declared.events.Event.{Event}
use Rattle.ev_types.specs.declared.journals.Format.{Format}
use Rattle.ev_types.specs.declared.rows.GenRow.{GenRow}
use Rattle.ev_types.specs.declared.rows.RowStatus.{RowStatus}
use Rattle.ev_model.specs.declared.pictures.Shown.{Shown}
use Rattle.ev_model.specs.World.{World, OpenMember, nothing_shown, opening, last_version}
use Rattle.ev_model.specs.Rows.{is_row_of, with_statuses, replaced_status, new_row}
use Rattle.ev_model.specs.Tidy.{has_successor, promoted_status}
use Rattle.ev_model.specs.Warming.{is_ready_by}
use Rattle.ev_model.specs.Picture.{has_number, is_shown, numbers_shown, shown_of}
use Rattle.ev_model.specs.Dead.{picture_held, version_held, is_open_on, is_in_use_by, last_picture}
use Rattle.ev_model.specs.Choice.{choice_of}
use Rattle.ev_model.specs.Connections.{Worked, is_member, is_open, members_of, opened_by, accept, close, settle}
use Rattle.ev_model.specs.Publishing.{without_dead}
use Rattle.ev_model.specs.Step.{step}
use Rattle.ev_model_laws.specs.Numbers.{RiseWithin, IsNumbered}
use Rattle.ev_model_laws.specs.Kept.{has_served, has_served_as, UsesServed, numbers_published, is_seen, is_unserved_as, HidesUnserved, DrawnOnce}
use Rattle.ev_model_laws.proofs.KeepLemmas.{Seen, KeepsTidied, managed-keeps, removed_where, either, step-each}
use Rattle.ev_model_laws.proofs.AnyLemmas.{or_so, any_so, any_behind, any_left, any_mapped, any_flat}
use Rattle.ev_model_laws.proofs.ChoiceLemmas.{choice_shown, opens_shown}
use Rattle.ev_model_laws.proofs.PictureLemmas.{serves_numbered, shown_serves}
use Rattle.ev_model_laws.proofs.MemberLemmas.{removed_served, replaced_served, promoted_served, active_served}
use Rattle.ev_model_laws.proofs.NumberLemmas.{numbers}
use Rattle.ev_model_laws.proofs.DrawnLemmas.{is_numbered, numbered_within, none_numbered, none_left, none_so, next_apart, ShowsDrawn, published_with}
use Rattle.ev_model_laws.proofs.MoveLemmas.{moved_on_shown}

pub unserved_back : (before after : Bool) → (before ≡ true → after ≡ true) → not after ≡ true → not before ≡ true
unserved_back true after keeps h = absurd (false≢true (sym (ap not (keeps refl)) ∙ h))
unserved_back false after keeps h = refl

-- statuses that keep what has served make none unserved
unserved_with : (number : ℕ) (status_of : GenRow → RowStatus) (rows : List GenRow)
    → ((row : GenRow) → has_served row.status ≡ true → has_served (status_of row) ≡ true)
    → list_any (is_unserved_as number) rows ≡ false → list_any (is_unserved_as number) (with_statuses status_of rows) ≡ false
unserved_with number status_of rows stays none =
    any_mapped (is_unserved_as number) (λ (row : GenRow). record row { status = status_of row }) rows
    ∙ none_so (λ (row : GenRow). is_unserved_as number (record row { status = status_of row })) (is_unserved_as number) rows
    (λ (row : GenRow) passes.
    and_from _ _ (first_so (row.number == number) (not (has_served (status_of row))) passes)
    (unserved_back (has_served row.status) (has_served (status_of row)) (stays row)
    (second_so (row.number == number) (not (has_served (status_of row))) passes)))
    none

-- of rows with rising numbers, one that serves is the only one of its number
serves_alone : (number low : ℕ) (rows : List GenRow) (high : ℕ) → RiseWithin low (numbers rows) high
    → list_any (serves_numbered number) rows ≡ true → list_any (is_unserved_as number) rows ≡ false
serves_alone number low [] high rise h = refl
serves_alone number low (row ∷ rows) high rise h =
    or_so (serves_numbered number row) (list_any (serves_numbered number) rows)
    (λ here.
    let same : row.number ≡ number = (numbers_decide row.number number).0 (first_so (row.number == number) (is_active row.status) here) in
    or_from (is_unserved_as number row) (list_any (is_unserved_as number) rows)
    (and_right (row.number == number) (not (has_served row.status))
    (not_from_true (has_served row.status) (active_served row.status (second_so (row.number == number) (is_active row.status) here))))
    (none_so (is_unserved_as number) (is_numbered number) rows
    (λ (other : GenRow). first_so (other.number == number) (not (has_served other.status)))
    (none_numbered number row.number rows high rise.1 (omega (arith, same)))))
    (λ rest.
    let more : (row.number < number) × (number ≤ high) =
    numbered_within number row.number rows high rise.1
    (any_so (serves_numbered number) (is_numbered number) rows (λ (other : GenRow). first_so (other.number == number) (is_active other.status)) rest) in
    or_from (is_unserved_as number row) (list_any (is_unserved_as number) rows)
    (and_left (row.number == number) (not (has_served row.status))
    (false_from_ne_true (row.number == number)
    (λ here. let same : row.number ≡ number = (numbers_decide row.number number).0 here in omega (arith, more.0, same))))
    (serves_alone number row.number rows high rise.1 rest))
    h

-- a generation of this number is seen, by what workers see and do
abbrev sees : Seen → ℕ → Bool
sees seen number = is_in_use_by (flat_map numbers_shown seen.pictures) seen.opened number

-- what is seen was allocated, and has served
abbrev SeesServed : World → Type 0
SeesServed world = (number : ℕ) → is_seen world number ≡ true → (number ≤ world.made) × (list_any (is_unserved_as number) world.rows ≡ false)

keeps_hidden : KeepsTidied
    (λ rows made phase versions seen. (number : ℕ) → sees seen number ≡ true → (number ≤ made) × (list_any (is_unserved_as number) rows ≡ false)) SeesServed
keeps_hidden = record {
  removed = λ goes rows made phase versions seen served number h. (
    (served number h).0,
    unserved_with number (removed_where goes) rows (λ row. removed_served (goes row) row.status) (served number h).1,
  );
  added = λ kind name content kept rows made phase versions seen served number h. (
    omega (arith, (served number h).0),
    list_any-append (is_unserved_as number) (with_statuses (replaced_status kind name) rows) (new_row kind made name content kept ∷ [])
        ∙ or_from _ _
        (unserved_with number (replaced_status kind name) rows (λ row. replaced_served (is_row_of kind name row) row.status) (served number h).1)
        (or_from ((made + 1 == number) && true) false (and_left (made + 1 == number) true (next_apart number made (served number h).0)) refl),
  );
  version_added = λ new rows made phase versions seen served. served;
  version_renewed = λ kind name rows made phase versions seen served. served;
  versions_left = λ test rows made phase versions seen served. served;
  untidied = λ world served. served;
  tidied = λ world served number h. (
    (served number h).0,
    unserved_with number (promoted_status world.arrivals world.results world.rows) world.rows
        (λ row. promoted_served (has_successor world.arrivals world.results world.rows row) (is_ready_by world.arrivals world.results row) row.status)
        (served number h).1,
  );
}

shown_among : (number : ℕ) (pictures : List Shown) (version : ℕ) → is_shown number (slice_index_or pictures version nothing_shown) ≡ true
    → list_any (is_shown number) pictures ≡ true
shown_among number [] version h = absurd (false≢true h)
shown_among number (shown ∷ pictures) zero h = or_left (is_shown number shown) (list_any (is_shown number) pictures) h
shown_among number (shown ∷ pictures) (suc version) h =
    or_right (is_shown number shown) (list_any (is_shown number) pictures) (shown_among number pictures version h)

module _ (world : World) (served : SeesServed world) where
  shown_is_served : (number : ℕ) → has_number number (numbers_published world) ≡ true
      → (number ≤ world.made) × (list_any (is_unserved_as number) world.rows ≡ false)
  shown_is_served number h = served number (or_left _ _ h)

  open_is_served : (number : ℕ) → list_any (is_open_on number) world.opened ≡ true
      → (number ≤ world.made) × (list_any (is_unserved_as number) world.rows ≡ false)
  open_is_served number h = served number (or_right (has_number number (numbers_published world)) _ h)

  published_hides : IsNumbered world → SeesServed (record world { pictures = world.pictures ++ shown_of world ∷ [] })
  published_hides rise number seen =
      or_so (has_number number (flat_map numbers_shown (world.pictures ++ shown_of world ∷ []))) (list_any (is_open_on number) world.opened)
      (published_with number world.pictures (shown_of world) (shown_is_served number)
      (λ new. (
        (numbered_within number 0 world.rows world.made rise
            (any_so (serves_numbered number) (is_numbered number) world.rows
            (λ (row : GenRow). first_so (row.number == number) (is_active row.status)) (shown_serves number world new))).1,
        serves_alone number 0 world.rows world.made rise (shown_serves number world new),
      )))
      (open_is_served number) seen

  reaped_hides : (format : Format) → SeesServed (without_dead format world)
  reaped_hides format number seen = ((served number seen).0, none_left (is_unserved_as number) _ world.rows (served number seen).1)

  accepted_hides : (ask : Ask) (worker : ℕ) → SeesServed (accept ask worker world).0
  accepted_hides ask worker =
      cond_both (is_open world.opened worker ask.conn) (record { opened = world.opened; answer = InUse })
      (opened_by (picture_held world worker) worker ask.conn (choice_of (picture_held world worker) ask) world.opened)
      (λ (worked : Worked). SeesServed (record world { opened = worked.opened }))
      (λ is. served)
      (λ new number seen.
      or_so (has_number number (numbers_published world)) _ (shown_is_served number)
      (any_behind (is_open_on number) world.opened (members_of worker ask.conn (choice_of (picture_held world worker) ask))
      (open_is_served number)
      (λ here. shown_is_served number
      (any_flat (λ n. n == number) numbers_shown world.pictures
      ∙ shown_among number world.pictures (version_held world worker)
      (opens_shown (picture_held world worker).shown worker ask.conn number (choice_of (picture_held world worker) ask)
      (choice_shown (picture_held world worker) ask) here))))
      seen)

  closed_hides : (connection worker : ℕ) → SeesServed (close connection worker world).0
  closed_hides connection worker =
      cond_both (is_open world.opened worker connection)
      (record { opened = filter (λ (m : OpenMember). not (is_member worker connection m)) world.opened; answer = Done })
      (record { opened = world.opened; answer = NotOpen })
      (λ (worked : Worked). SeesServed (record world { opened = worked.opened }))
      (λ is number seen.
      or_so (has_number number (numbers_published world)) _ (shown_is_served number)
      (λ is_still. open_is_served number (any_left (is_open_on number) (λ (m : OpenMember). not (is_member worker connection m)) world.opened is_still))
      seen)
      (λ is. served)

  settled_hides : (worker : ℕ) → SeesServed (settle worker world).0
  settled_hides worker number seen =
      or_so (has_number number (numbers_published world)) _ (shown_is_served number)
      (λ is_still.
      or_so (list_any (is_open_on number) world.opened) (is_shown number (last_picture world).shown) (open_is_served number)
      (λ last. shown_is_served number
      (any_flat (λ n. n == number) numbers_shown world.pictures ∙ shown_among number world.pictures (last_version world) last))
      (moved_on_shown (last_picture world).shown world.expired worker number world.opened is_still))
      seen

step-sees : (format : Format) (world : World) (actor : Actor) (event : Event) → IsNumbered world
    → SeesServed world → SeesServed (step format world actor event).0
step-sees format world actor event rise served = step-each SeesServed format world actor event served (record {
  managed = λ event is. managed-keeps _ SeesServed keeps_hidden (λ numbers other served. served) format world actor event is served;
  published = either SeesServed _ _ _ served (published_hides world served rise);
  reaped = reaped_hides world served format;
  accepted = λ ask worker is. accepted_hides world served ask worker;
  closed = λ connection worker is. closed_hides world served connection worker;
  settled = λ worker is. settled_hides world served worker;
})

-- what is seen was allocated: by what pictures show, and since what is in use is a row's
seen_drawn : (world : World) → IsNumbered world → ShowsDrawn world → UsesServed world
    → (number : ℕ) → is_seen world number ≡ true → number ≤ world.made
seen_drawn world rise drawn uses number seen =
    or_so (has_number number (numbers_published world)) (list_any (is_open_on number) world.opened) (drawn number)
    (λ is_open.
    (numbered_within number 0 world.rows world.made rise
    (any_so (has_served_as number) (is_numbered number) world.rows
    (λ (row : GenRow). first_so (row.number == number) (has_served row.status))
    (uses number (or_right _ _ is_open)))).1)
    seen

pub opens_hidden : (workers : ℕ) (node : List ℕ) → HidesUnserved (opening workers node)
opens_hidden workers node number seen = refl

-- an event keeps it, where what is in use has served and numbers are allocated once
pub step-hidden : (format : Format) (world : World) (actor : Actor) (event : Event) (gone : List ℕ) → DrawnOnce world gone → UsesServed world
    → HidesUnserved world → HidesUnserved (step format world actor event).0
step-hidden format world actor event gone drawn uses hides number seen =
    (step-sees format world actor event drawn.rows (λ n h. (seen_drawn world drawn.rows drawn.shown uses n h, hides n h)) number seen).1

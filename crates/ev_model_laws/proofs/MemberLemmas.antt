-- What pictures in use show, and what connections are open on, is generations that have served.
use Rattle.std.proofs.Common.{◌≡◌, ℕ, ◌<◌, Bool, true, false, not, ◌&&◌, ◌||◌, ◌==◌, cond, List, [], ◌∷◌, ◌++◌, length, filter, replicate, refl, sym, ap, ◌∙◌, subst}
use Rattle.std.specs.Bool.{⊤}
use Rattle.std.specs.Prelude.{slice_set}
use Rattle.std.specs.Cmp.{first_so, second_so}
use Rattle.std.specs.List.{list_any}
use Rattle.std.proofs.lemmas.Bool.{false≢true, cond_both, and_from, or_left, or_right}
use Rattle.std.proofs.lemmas.List.Folds.{list_any_at}
use Rattle.std.proofs.lemmas.Map.Views.{any-filter_same}
use Rattle.ev_types.specs.Same.{numbers_decide}
use Rattle.ev_types.specs.Statuses.{is_warming, is_active}
use Rattle.ev_types.specs.declared.events.Actor.{Actor}
use Rattle.ev_types.specs.declared.events.Actor.TheVariants.{Stream, Health as health_checker, Timer, Main, Worker}
use Rattle.ev_types.specs.declared.events.Ask.{Ask}
use Rattle.ev_types.specs.declared.events.Answer.TheVariants.{InUse, Done, NotOpen}
use Rattle.ev_types.specs.declared.events.Event.{Event}
use Rattle.ev_types.specs.declared.journals.Format.{Format}
use Rattle.ev_types.specs.declared.rows.GenRow.{GenRow}
use Rattle.ev_types.specs.declared.rows.RowStatus.{RowStatus}
use Rattle.ev_types.specs.declared.rows.RowStatus.TheVariants.{Warming, Active, Draining, Dropped}
use Rattle.ev_model.specs.declared.pictures.Shown.{Shown}
use Rattle.ev_model.specs.World.{World, OpenMember, nothing_shown, last_version, opening}
use Rattle.ev_model.specs.Rows.{is_row_of, removed_status, with_statuses, replaced_status, new_row}
use Rattle.ev_model.specs.Tidy.{has_successor, status_by, promoted_status}
use Rattle.ev_model.specs.Warming.{is_ready_by}
use Rattle.ev_model.specs.Picture.{has_number, is_shown, shown_of}
use Rattle.ev_model.specs.Dead.{shown_at, picture_held, version_held, numbers_in_use, is_open_on, is_in_use, is_dead_at, is_dead, last_picture}
use Rattle.ev_model.specs.Choice.{choice_of}
use Rattle.ev_model.specs.Connections.{Worked, is_member, is_open, members_of, opened_by, accept, close, settle}
use Rattle.ev_model.specs.Publishing.{without_dead}
use Rattle.ev_model.specs.Step.{step}
use Rattle.ev_model_laws.specs.Kept.{has_served, has_served_as, UsesServed}
use Rattle.ev_model_laws.proofs.TidyLists.{any_none}
use Rattle.ev_model_laws.proofs.KeepLemmas.{Seen, KeepsTidied, managed-keeps, removed_where, either, step-each}
use Rattle.ev_model_laws.proofs.AnyLemmas.{or_so, any_so, any_unless, any_behind, any_first, any_second, any_only, any_left, any_mapped, any_set}
use Rattle.ev_model_laws.proofs.ChoiceLemmas.{choice_shown, opens_shown}
use Rattle.ev_model_laws.proofs.PictureLemmas.{serves_numbered, shown_serves, shown_with, last_shown, in_use_is}
use Rattle.ev_model_laws.proofs.MoveLemmas.{moved_on_shown}

-- statuses that keep what has served
pub served_with : (number : ℕ) (status_of : GenRow → RowStatus) (rows : List GenRow)
    → ((row : GenRow) → has_served row.status ≡ true → has_served (status_of row) ≡ true)
    → list_any (has_served_as number) rows ≡ true → list_any (has_served_as number) (with_statuses status_of rows) ≡ true
served_with number status_of rows stays h =
    any_mapped (has_served_as number) (λ (row : GenRow). record row { status = status_of row }) rows
    ∙ any_so (has_served_as number) (λ (row : GenRow). has_served_as number (record row { status = status_of row })) rows
    (λ (row : GenRow) passes.
    and_from _ _ (first_so (row.number == number) (has_served row.status) passes)
    (stays row (second_so (row.number == number) (has_served row.status) passes)))
    h

pub removed_served : (goes : Bool) (status : RowStatus) → has_served status ≡ true → has_served (cond goes (removed_status status) status) ≡ true
removed_served true Warming h = h
removed_served true Active h = refl
removed_served true Draining h = refl
removed_served true Dropped h = h
removed_served false status h = h

pub replaced_served : (named : Bool) (status : RowStatus) → has_served status ≡ true → has_served (cond (named && is_warming status) Dropped status) ≡ true
replaced_served named Warming h = absurd (false≢true h)
replaced_served true Active h = refl
replaced_served false Active h = refl
replaced_served true Draining h = refl
replaced_served false Draining h = refl
replaced_served named Dropped h = absurd (false≢true h)

pub promoted_served : (succeeded ready : Bool) (status : RowStatus) → has_served status ≡ true → has_served (status_by succeeded ready status) ≡ true
promoted_served succeeded ready Warming h = absurd (false≢true h)
promoted_served true ready Active h = refl
promoted_served false ready Active h = refl
promoted_served succeeded ready Draining h = refl
promoted_served succeeded ready Dropped h = absurd (false≢true h)

-- a row that serves has served
pub active_served : (status : RowStatus) → is_active status ≡ true → has_served status ≡ true
active_served Warming h = h
active_served Active h = refl
active_served Draining h = refl
active_served Dropped h = h

-- a generation of this number is in use, by what workers see and do
abbrev uses : Seen → ℕ → Bool
uses seen number = is_in_use (record (opening 0 []) { pictures = seen.pictures; held = seen.held; opened = seen.opened }) number

keeps_uses : KeepsTidied (λ rows made phase versions seen. (number : ℕ) → uses seen number ≡ true → list_any (has_served_as number) rows ≡ true) UsesServed
keeps_uses = record {
  removed = λ goes rows made phase versions seen served number used.
      served_with number (removed_where goes) rows (λ row. removed_served (goes row) row.status) (served number used);
  added = λ kind name content kept rows made phase versions seen served number used.
      any_first (has_served_as number) (with_statuses (replaced_status kind name) rows) (new_row kind made name content kept ∷ [])
      (served_with number (replaced_status kind name) rows (λ row. replaced_served (is_row_of kind name row) row.status) (served number used));
  version_added = λ new rows made phase versions seen served. served;
  version_renewed = λ kind name rows made phase versions seen served. served;
  versions_left = λ test rows made phase versions seen served. served;
  untidied = λ world served. served;
  tidied = λ world served number used.
      served_with number (promoted_status world.arrivals world.results world.rows) world.rows
      (λ row. promoted_served (has_successor world.arrivals world.results world.rows row) (is_ready_by world.arrivals world.results row) row.status)
      (served number used);
}

module _ (world : World) (served : UsesServed world) where
  -- a version that is held, or the last, shows a generation that has served
  seen_served : (number : ℕ) → list_any (λ version. is_shown number (shown_at world version)) (world.held ++ last_version world ∷ []) ≡ true
      → list_any (has_served_as number) world.rows ≡ true
  seen_served number h = served number (or_left _ _ (in_use_is number world ∙ h))

  open_served : (number : ℕ) → list_any (is_open_on number) world.opened ≡ true → list_any (has_served_as number) world.rows ≡ true
  open_served number h = served number (or_right (has_number number (numbers_in_use world)) _ h)

  active_numbers : (number : ℕ) → is_shown number (shown_of world) ≡ true → list_any (has_served_as number) world.rows ≡ true
  active_numbers number h =
      any_so (serves_numbered number) (has_served_as number) world.rows
      (λ (row : GenRow) passes.
      and_from _ _ (first_so (row.number == number) (is_active row.status) passes)
      (active_served row.status (second_so (row.number == number) (is_active row.status) passes)))
      (shown_serves number world h)

  published_uses : UsesServed (record world { pictures = world.pictures ++ shown_of world ∷ [] })
  published_uses number used =
      let after : World = record world { pictures = world.pictures ++ shown_of world ∷ [] } in
      let one : Bool = list_any (has_served_as number) world.rows in
      or_so (has_number number (numbers_in_use after)) (list_any (is_open_on number) world.opened)
      (λ shown.
      any_behind (λ version. is_shown number (shown_at after version)) world.held (last_version after ∷ [])
      (λ held. or_so (list_any (λ version. is_shown number (shown_at world version)) world.held) one
      (λ old. seen_served number (any_first _ world.held (last_version world ∷ []) old)) (λ so. so)
      (any_unless (λ version. is_shown number (shown_at after version)) (λ version. is_shown number (shown_at world version)) one world.held
      (λ version.
      shown_with (λ (s : Shown). is_shown number s ≡ true → (is_shown number (shown_at world version) || one) ≡ true) world.pictures (shown_of world) version
      (λ old. or_left (is_shown number (shown_at world version)) one old)
      (λ new. or_right (is_shown number (shown_at world version)) one (active_numbers number new)))
      held))
      (λ last. active_numbers number
      (sym (ap (λ (s : Shown). is_shown number s) (last_shown world (shown_of world)))
      ∙ any_only (λ version. is_shown number (shown_at after version)) (last_version after) last))
      (sym (in_use_is number after) ∙ shown))
      (open_served number) used

  held_lives : (status : RowStatus) (held : Bool) → has_served status ≡ true → held ≡ true → not (is_dead_at status held) ≡ true
  held_lives Warming held h used = refl
  held_lives Active held h used = refl
  held_lives Draining true h used = refl
  held_lives Draining false h used = used
  held_lives Dropped held h used = h

  reaped_uses : (format : Format) → UsesServed (without_dead format world)
  reaped_uses format number used =
      any-filter_same (has_served_as number) (λ (row : GenRow). not (is_dead format world row)) true
      (λ (row : GenRow) passes.
      held_lives row.status _ (second_so (row.number == number) (has_served row.status) passes)
      (or_left (is_in_use world row.number) _
      (subst (λ n. is_in_use world n ≡ true) (sym ((numbers_decide row.number number).0 (first_so (row.number == number) (has_served row.status) passes))) used)))
      world.rows
      ∙ served number used

  held_served : (worker number : ℕ) → worker < length world.held → is_shown number (shown_at world (version_held world worker)) ≡ true
      → list_any (has_served_as number) world.rows ≡ true
  held_served worker number among shown =
      seen_served number
      (any_first (λ version. is_shown number (shown_at world version)) world.held (last_version world ∷ [])
      (list_any_at (λ version. is_shown number (shown_at world version)) world.held worker 0 among shown))

  accepted_uses : (ask : Ask) (worker : ℕ) → worker < length world.held → UsesServed (accept ask worker world).0
  accepted_uses ask worker among =
      cond_both (is_open world.opened worker ask.conn) (record { opened = world.opened; answer = InUse })
      (opened_by (picture_held world worker) worker ask.conn (choice_of (picture_held world worker) ask) world.opened)
      (λ (worked : Worked). UsesServed (record world { opened = worked.opened }))
      (λ is. served)
      (λ new number used.
      or_so (has_number number (numbers_in_use world)) _ (λ shown. served number (or_left _ _ shown))
      (any_behind (is_open_on number) world.opened (members_of worker ask.conn (choice_of (picture_held world worker) ask))
      (open_served number)
      (λ here. held_served worker number among
      (opens_shown (picture_held world worker).shown worker ask.conn number (choice_of (picture_held world worker) ask)
      (choice_shown (picture_held world worker) ask) here)))
      used)

  closed_uses : (connection worker : ℕ) → UsesServed (close connection worker world).0
  closed_uses connection worker =
      cond_both (is_open world.opened worker connection)
      (record { opened = filter (λ (m : OpenMember). not (is_member worker connection m)) world.opened; answer = Done })
      (record { opened = world.opened; answer = NotOpen })
      (λ (worked : Worked). UsesServed (record world { opened = worked.opened }))
      (λ is number used.
      or_so (has_number number (numbers_in_use world)) _ (λ shown. served number (or_left _ _ shown))
      (λ is_still. open_served number (any_left (is_open_on number) (λ (m : OpenMember). not (is_member worker connection m)) world.opened is_still))
      used)
      (λ is. served)

  settled_uses : (worker : ℕ) → UsesServed (settle worker world).0
  settled_uses worker number used =
      let sees : ℕ → Bool = λ version. is_shown number (shown_at world version) in
      or_so (has_number number (numbers_in_use (settle worker world).0)) _
      (λ shown.
      any_behind sees (slice_set world.held worker (last_version world)) (last_version world ∷ [])
      (any_set sees world.held worker (last_version world)
      (λ held. seen_served number (any_first sees world.held (last_version world ∷ []) held))
      (λ last. seen_served number (any_second sees world.held (last_version world ∷ []) (or_left (sees (last_version world)) false last))))
      (λ last. seen_served number (any_second sees world.held (last_version world ∷ []) last))
      (sym (in_use_is number (settle worker world).0) ∙ shown))
      (λ is_still.
      or_so (list_any (is_open_on number) world.opened) (is_shown number (last_picture world).shown) (open_served number)
      (λ seen. seen_served number (any_second sees world.held (last_version world ∷ []) (or_left (sees (last_version world)) false seen)))
      (moved_on_shown (last_picture world).shown world.expired worker number world.opened is_still))
      used

-- a worker is one of this many
abbrev pub IsKnown : ℕ → Actor → Type 0
IsKnown workers Stream = ⊤
IsKnown workers health_checker = ⊤
IsKnown workers Timer = ⊤
IsKnown workers Main = ⊤
IsKnown workers (Worker worker) = worker < workers

pub opens_uses : (workers : ℕ) (node : List ℕ) → UsesServed (opening workers node)
opens_uses workers node number used =
    let none : list_any (λ version. is_shown number (shown_at (opening workers node) version)) (replicate workers 0 ++ 0 ∷ []) ≡ false =
    any_none (λ version. is_shown number (shown_at (opening workers node) version)) (replicate workers 0 ++ 0 ∷ [])
    (λ version there. shown_with (λ (s : Shown). is_shown number s ≡ false) [] nothing_shown version refl refl) in
    or_so (has_number number (numbers_in_use (opening workers node))) false
    (λ shown. absurd (false≢true (sym none ∙ (sym (in_use_is number (opening workers node)) ∙ shown))))
    (λ never. absurd (false≢true never))
    used

pub step-uses : (format : Format) (world : World) (actor : Actor) (event : Event) → IsKnown (length world.held) actor
    → UsesServed world → UsesServed (step format world actor event).0
step-uses format world actor event known served = step-each UsesServed format world actor event served (record {
  managed = λ event is. managed-keeps _ UsesServed keeps_uses (λ numbers other served. served) format world actor event is served;
  published = either UsesServed _ _ _ served (published_uses world served);
  reaped = reaped_uses world served format;
  accepted = λ ask worker is. accepted_uses world served ask worker (subst (IsKnown (length world.held)) is known);
  closed = λ connection worker is. closed_uses world served connection worker;
  settled = λ worker is. settled_uses world served worker;
})

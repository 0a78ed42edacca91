-- A listener that is marked as expired is draining, and its drain timeout came when it was draining already.
use Rattle.std.proofs.Common.{◌≡◌, ℕ, ◌+◌, ◌⊎◌, inl, inr, Bool, true, false, not, ◌&&◌, ◌==◌, cond, List, [], ◌∷◌, map, filter, refl, sym, ap, ◌∙◌, subst, arith}
use Rattle.std.specs.Prelude.{nat_le}
use Rattle.std.specs.Str.{bytes_eq}
use Rattle.std.specs.Cmp.{first_so, second_so}
use Rattle.std.specs.List.{list_any, Contains}
use Rattle.std.proofs.lemmas.Bool.{false≢true, both_ways, cond_both, and_from, not-true}
use Rattle.std.proofs.lemmas.List.Elements.{All-contains, filter_passes}
use Rattle.ev_types.specs.Kinds.{kind_same, kind_decides}
use Rattle.ev_types.specs.Same.{bytes_decide, numbers_decide}
use Rattle.ev_types.specs.Statuses.{is_warming}
use Rattle.ev_types.specs.declared.contents.Kind.TheVariants.{Lds}
use Rattle.ev_types.specs.declared.events.Actor.{Actor}
use Rattle.ev_types.specs.declared.events.Answer.{Answer}
use Rattle.ev_types.specs.declared.events.Answer.TheVariants.{Done}
use Rattle.ev_types.specs.declared.events.Entry.{Entry}
use Rattle.ev_types.specs.declared.events.Event.{Event}
use Rattle.ev_types.specs.declared.events.Event.TheVariants.{Connect, Disconnect, Response, Health, FetchTimeout, DrainTimeout, TtlExpired, Publish, Reap, Accept, Close, Settle}
use Rattle.ev_types.specs.declared.journals.Format.{Format}
use Rattle.ev_types.specs.declared.rows.GenRow.{GenRow}
use Rattle.ev_types.specs.declared.rows.RowStatus.{RowStatus}
use Rattle.ev_types.specs.declared.rows.RowStatus.TheVariants.{Warming, Active, Draining, Dropped}
use Rattle.ev_model.specs.World.{World}
use Rattle.ev_model.specs.Rows.{is_row_of, removed_status, with_statuses, replaced_status, new_row}
use Rattle.ev_model.specs.Tidy.{has_successor, status_by, promoted_status}
use Rattle.ev_model.specs.Warming.{is_ready_by}
use Rattle.ev_model.specs.Picture.{has_number}
use Rattle.ev_model.specs.Dead.{is_dead}
use Rattle.ev_model.specs.Signals.{is_draining, is_unexpired, unexpired, expire}
use Rattle.ev_model.specs.Connections.{accept, close, settle}
use Rattle.ev_model.specs.Publishing.{dead_numbers, without_dead}
use Rattle.ev_model.specs.Step.{step}
use Rattle.ev_model.specs.Laws.{Told, world_told, IsEntryAt, StandsAt, HasWaited}
use Rattle.ev_model_laws.specs.Kept.{HasExpired, ExpiresDraining}
use Rattle.ev_model_laws.proofs.TidyLists.{any_at}
use Rattle.ev_model_laws.proofs.KeepLemmas.{KeepsTidied, managed-keeps, is_moving, removed_where, either, step-each, of_worker-keeps}
use Rattle.ev_model_laws.proofs.SeenLemmas.{same_expired}
use Rattle.ev_model_laws.proofs.AnyLemmas.{or_so, any_so, any_behind, any_first, any_left, any_mapped, any_in_order, any_passing, any_either, any_found}
use Rattle.ev_model_laws.proofs.PlaceLemmas.{IsAnswered, world_next}

-- the row is the draining listener of this number and name
abbrev drains_as : ℕ → List ℕ → GenRow → Bool
drains_as number name row = (row.number == number) && (is_row_of Lds name row && is_draining row.status)

drained_with : (number : ℕ) (name : List ℕ) (status_of : GenRow → RowStatus) (rows : List GenRow)
    → ((row : GenRow) → is_draining row.status ≡ true → is_draining (status_of row) ≡ true)
    → list_any (drains_as number name) rows ≡ true → list_any (drains_as number name) (with_statuses status_of rows) ≡ true
drained_with number name status_of rows stays h =
    any_mapped (drains_as number name) (λ (row : GenRow). record row { status = status_of row }) rows
    ∙ any_so (drains_as number name) (λ (row : GenRow). drains_as number name (record row { status = status_of row })) rows
    (λ (row : GenRow) passes.
    let more : (is_row_of Lds name row && is_draining row.status) ≡ true = second_so (row.number == number) (is_row_of Lds name row && is_draining row.status) passes in
    and_from (row.number == number) (is_row_of Lds name row && is_draining (status_of row))
    (first_so (row.number == number) (is_row_of Lds name row && is_draining row.status) passes)
    (and_from (is_row_of Lds name row) (is_draining (status_of row)) (first_so (is_row_of Lds name row) (is_draining row.status) more)
    (stays row (second_so (is_row_of Lds name row) (is_draining row.status) more))))
    h

removed_drains : (goes : Bool) (status : RowStatus) → is_draining status ≡ true → is_draining (cond goes (removed_status status) status) ≡ true
removed_drains true Warming h = absurd (false≢true h)
removed_drains true Active h = absurd (false≢true h)
removed_drains true Draining h = refl
removed_drains true Dropped h = h
removed_drains false status h = h

replaced_drains : (named : Bool) (status : RowStatus) → is_draining status ≡ true → is_draining (cond (named && is_warming status) Dropped status) ≡ true
replaced_drains named Warming h = absurd (false≢true h)
replaced_drains named Active h = absurd (false≢true h)
replaced_drains true Draining h = refl
replaced_drains false Draining h = refl
replaced_drains named Dropped h = absurd (false≢true h)

promoted_drains : (succeeded ready : Bool) (status : RowStatus) → is_draining status ≡ true → is_draining (status_by succeeded ready status) ≡ true
promoted_drains succeeded ready Warming h = absurd (false≢true h)
promoted_drains succeeded ready Active h = absurd (false≢true h)
promoted_drains succeeded ready Draining h = refl
promoted_drains succeeded ready Dropped h = h

keeps_drained : (number : ℕ) (name : List ℕ) → KeepsTidied (λ rows made phase versions seen. list_any (drains_as number name) rows ≡ true)
    (λ world. list_any (drains_as number name) world.rows ≡ true)
keeps_drained number name = record {
  removed = λ goes rows made phase versions seen drains.
      drained_with number name (removed_where goes) rows (λ row. removed_drains (goes row) row.status) drains;
  added = λ kind other content kept rows made phase versions seen drains.
      any_first (drains_as number name) (with_statuses (replaced_status kind other) rows) (new_row kind made other content kept ∷ [])
      (drained_with number name (replaced_status kind other) rows (λ row. replaced_drains (is_row_of kind other row) row.status) drains);
  version_added = λ new rows made phase versions seen drains. drains;
  version_renewed = λ kind other rows made phase versions seen drains. drains;
  versions_left = λ test rows made phase versions seen drains. drains;
  untidied = λ world drains. drains;
  tidied = λ world drains.
      drained_with number name (promoted_status world.arrivals world.results world.rows) world.rows
      (λ row. promoted_drains (has_successor world.arrivals world.results world.rows row) (is_ready_by world.arrivals world.results row) row.status)
      drains;
}

-- a number that a filter leaves passes it
kept_number : (number : ℕ) (keeps : ℕ → Bool) (ns : List ℕ) → has_number number (filter keeps ns) ≡ true → keeps number ≡ true
kept_number number keeps [] h = absurd (false≢true h)
kept_number number keeps (n ∷ ns) h =
    cond_both (keeps n) (n ∷ filter keeps ns) (filter keeps ns) (λ ms. has_number number ms ≡ true → keeps number ≡ true)
    (λ kept. or_so (n == number) (has_number number (filter keeps ns))
    (λ here. subst (λ m. keeps m ≡ true) ((numbers_decide n number).0 here) kept) (kept_number number keeps ns))
    (λ gone. kept_number number keeps ns)
    h

-- a draining listener that is marked after a reaping isn't dead
reaped_drains : (format : Format) (world : World) (number : ℕ) (name : List ℕ) → has_number number (without_dead format world).expired ≡ true
    → list_any (drains_as number name) world.rows ≡ true → list_any (drains_as number name) (without_dead format world).rows ≡ true
reaped_drains format world number name marked drains =
    any_either (drains_as number name) (is_dead format world) world.rows
    (λ both.
    let dead : has_number number (dead_numbers format world) ≡ true =
    any_in_order (λ n. n == number) nat_le (map (λ (row : GenRow). row.number) (filter (is_dead format world) world.rows))
    (any_mapped (λ n. n == number) (λ (row : GenRow). row.number) (filter (is_dead format world) world.rows)
    ∙ any_passing (λ (row : GenRow). row.number == number) (is_dead format world) world.rows
    (any_so (λ (row : GenRow). drains_as number name row && is_dead format world row) (λ (row : GenRow). (row.number == number) && is_dead format world row) world.rows
    (λ (row : GenRow) passes.
    and_from (row.number == number) (is_dead format world row)
    (first_so (row.number == number) (is_row_of Lds name row && is_draining row.status) (first_so (drains_as number name row) (is_dead format world row) passes))
    (second_so (drains_as number name row) (is_dead format world row) passes))
    both)) in
    absurd (both_ways (has_number number (dead_numbers format world))
    (not-true _ (kept_number number (λ n. not (has_number n (dead_numbers format world))) world.expired marked)) dead))
    (λ without. any_passing (drains_as number name) (λ (row : GenRow). not (is_dead format world row)) world.rows without)
    drains

-- a draining listener that is marked after an event still drains
pub step-drains : (format : Format) (world : World) (actor : Actor) (event : Event) (number : ℕ) (name : List ℕ)
    → list_any (drains_as number name) world.rows ≡ true → has_number number (step format world actor event).0.expired ≡ true
    → list_any (drains_as number name) (step format world actor event).0.rows ≡ true
step-drains format world actor event number name drains =
    step-each (λ (w : World). has_number number w.expired ≡ true → list_any (drains_as number name) w.rows ≡ true) format world actor event (λ marked. drains) (record {
      managed = λ event is marked. managed-keeps _ _ (keeps_drained number name) (λ numbers other still. still) format world actor event is drains;
      published = either (λ (w : World). has_number number w.expired ≡ true → list_any (drains_as number name) w.rows ≡ true) _ _ _ (λ marked. drains) (λ marked. drains);
      reaped = λ marked. reaped_drains format world number name marked drains;
      accepted = λ ask worker is marked. drains;
      closed = λ connection worker is marked. drains;
      settled = λ worker is marked. drains;
    })

-- a drain timeout of the name was done, and marks the number of a draining listener
pub record IsMarked (world : World) (event : Event) (did : World × Answer) (number : ℕ) : Type 0 where
  pub name : List ℕ
  pub timeout : event ≡ DrainTimeout name
  pub done : did.1 ≡ Done
  pub drains : list_any (drains_as number name) world.rows ≡ true

-- what a filter leaves passes it
pub passed : {X : Type 0} (keeps : X → Bool) (xs : List X) (x : X) → Contains (filter keeps xs) x → keeps x ≡ true
passed keeps xs x there = All-contains (λ y. keeps y ≡ true) (filter keeps xs) x (filter_passes keeps xs) there

unexpired_drains : (number : ℕ) (expired name : List ℕ) (rows : List GenRow) → has_number number (unexpired expired name rows) ≡ true
    → list_any (drains_as number name) rows ≡ true
unexpired_drains number expired name rows h =
    let found : (row : GenRow) × Contains (filter (is_unexpired expired name) rows) row × ((row.number == number) ≡ true) =
    any_found (λ (row : GenRow). row.number == number) (filter (is_unexpired expired name) rows)
    (sym (any_mapped (λ n. n == number) (λ (row : GenRow). row.number) (filter (is_unexpired expired name) rows)) ∙ h) in
    any_left (drains_as number name) (is_unexpired expired name) rows
    (any_at (drains_as number name) (filter (is_unexpired expired name) rows) found.0 found.1
    (and_from (found.0.number == number) (is_row_of Lds name found.0 && is_draining found.0.status) found.2
    (first_so (is_row_of Lds name found.0 && is_draining found.0.status) (not (has_number found.0.number expired))
    (passed (is_unexpired expired name) rows found.0 found.1))))

expired_by : (world : World) (name : List ℕ) (numbers : List ℕ) (number : ℕ)
    → (has_number number numbers ≡ true → list_any (drains_as number name) world.rows ≡ true)
    → has_number number (expire numbers world).0.expired ≡ true
    → (has_number number world.expired ≡ true) ⊎ IsMarked world (DrainTimeout name) (expire numbers world) number
expired_by world name [] number drains h = inl h
expired_by world name (first ∷ numbers) number drains h =
    any_behind (λ n. n == number) world.expired (first ∷ numbers) (λ old. inl old)
    (λ new. inr (record { name = name; timeout = refl; done = refl; drains = drains new })) h

moved_marks : (format : Format) (world : World) (actor : Actor) (event : Event) (number : ℕ) → is_moving event ≡ true
    → has_number number (step format world actor event).0.expired ≡ true → has_number number world.expired ≡ true
moved_marks format world actor event number is h = sym (ap (has_number number) (same_expired format world actor event is)) ∙ h

-- a number that is marked after an event was marked, or the event has marked it
pub step-marks : (format : Format) (world : World) (actor : Actor) (event : Event) (number : ℕ)
    → has_number number (step format world actor event).0.expired ≡ true
    → (has_number number world.expired ≡ true) ⊎ IsMarked world event (step format world actor event) number
step-marks format world actor Connect number h = inl (moved_marks format world actor Connect number refl h)
step-marks format world actor Disconnect number h = inl (moved_marks format world actor Disconnect number refl h)
step-marks format world actor (Response response) number h = inl (moved_marks format world actor (Response response) number refl h)
step-marks format world actor (Health cluster host healthy) number h = inl (moved_marks format world actor (Health cluster host healthy) number refl h)
step-marks format world actor (FetchTimeout timeout) number h = inl (moved_marks format world actor (FetchTimeout timeout) number refl h)
step-marks format world actor (DrainTimeout name) number h =
    expired_by world name (unexpired world.expired name world.rows) number (unexpired_drains number world.expired name world.rows) h
step-marks format world actor (TtlExpired kind name) number h = inl (moved_marks format world actor (TtlExpired kind name) number refl h)
step-marks format world actor Publish number h =
    inl (either (λ (w : World). has_number number w.expired ≡ true → has_number number world.expired ≡ true) _ _ _ (λ same. same) (λ same. same) h)
step-marks format world actor Reap number h =
    inl (any_left (λ n. n == number) (λ n. not (has_number n (dead_numbers format world))) world.expired h)
step-marks format world actor (Accept ask) number h =
    inl (of_worker-keeps (λ did. has_number number did.0.expired ≡ true → has_number number world.expired ≡ true) (accept ask) actor world
    (λ worker by same. same) (λ same. same) h)
step-marks format world actor (Close connection) number h =
    inl (of_worker-keeps (λ did. has_number number did.0.expired ≡ true → has_number number world.expired ≡ true) (close connection) actor world
    (λ worker by same. same) (λ same. same) h)
step-marks format world actor Settle number h =
    inl (of_worker-keeps (λ did. has_number number did.0.expired ≡ true → has_number number world.expired ≡ true) settle actor world
    (λ worker by same. same) (λ same. same) h)

drains_status : (status : RowStatus) → is_draining status ≡ true → status ≡ Draining
drains_status Warming h = absurd (false≢true h)
drains_status Active h = absurd (false≢true h)
drains_status Draining h = refl
drains_status Dropped h = absurd (false≢true h)

-- between the test of rows and the words of the law
pub stands_at : (told : Told) (k number : ℕ) (name : List ℕ) → list_any (drains_as number name) (world_told told k).rows ≡ true
    → StandsAt told k number Lds name Draining
stands_at told k number name h =
    let found : (row : GenRow) × Contains (world_told told k).rows row × (drains_as number name row ≡ true) =
    any_found (drains_as number name) (world_told told k).rows h in
    let row : GenRow = found.0 in
    let more : (is_row_of Lds name row && is_draining row.status) ≡ true =
    second_so (row.number == number) (is_row_of Lds name row && is_draining row.status) found.2 in
    let named : is_row_of Lds name row ≡ true = first_so (is_row_of Lds name row) (is_draining row.status) more in
    record {
      row = row;
      among = found.1;
      numbered = (numbers_decide row.number number).0 (first_so (row.number == number) (is_row_of Lds name row && is_draining row.status) found.2);
      of_kind = (kind_decides row.kind Lds).0 (first_so (kind_same row.kind Lds) (bytes_eq row.name name) named);
      named = (bytes_decide row.name name).0 (second_so (kind_same row.kind Lds) (bytes_eq row.name name) named);
      stands = drains_status row.status (second_so (is_row_of Lds name row) (is_draining row.status) more);
    }

pub drains_at : (told : Told) (k number : ℕ) (name : List ℕ) → StandsAt told k number Lds name Draining
    → list_any (drains_as number name) (world_told told k).rows ≡ true
drains_at told k number name at =
    any_at (drains_as number name) (world_told told k).rows at.row at.among
    (and_from (at.row.number == number) _ ((numbers_decide at.row.number number).1 at.numbered)
    (and_from (is_row_of Lds name at.row) _
    (and_from (kind_same at.row.kind Lds) (bytes_eq at.row.name name) ((kind_decides at.row.kind Lds).1 at.of_kind) ((bytes_decide at.row.name name).1 at.named))
    (ap is_draining at.stands)))

module _ (told : Told) (k : ℕ) (entry : Entry) (there : IsEntryAt told k entry) (answered : IsAnswered told k entry) where
  next_drains : (number : ℕ) (name : List ℕ) → list_any (drains_as number name) (world_told told k).rows ≡ true
      → has_number number (step told.format (world_told told k) entry.actor entry.event).0.expired ≡ true
      → StandsAt told (k + 1) number Lds name Draining
  next_drains number name drains marked =
      stands_at told (k + 1) number name
      (ap (λ (w : World). list_any (drains_as number name) w.rows) (world_next told k entry there)
      ∙ step-drains told.format (world_told told k) entry.actor entry.event number name drains marked)

  waits_on : (number : ℕ) (name : List ℕ) → HasWaited told number name k → HasWaited told number name (k + 1)
  waits_on number name waited = record {
    place = waited.place;
    draining = waited.draining;
    drained = record {
      place = waited.drained.place;
      from = waited.drained.from;
      before = omega (arith, waited.drained.before);
      entry = waited.drained.entry;
      there = waited.drained.there;
      event = waited.drained.event;
      done = waited.drained.done;
    };
  }

  expired_by_entry : (number : ℕ) → ExpiresDraining told k
      → has_number number (step told.format (world_told told k) entry.actor entry.event).0.expired ≡ true
      → (has_number number (world_told told k).expired ≡ true)
      ⊎ IsMarked (world_told told k) entry.event (step told.format (world_told told k) entry.actor entry.event) number
      → HasExpired told number (k + 1)
  expired_by_entry number expires marked (inl old) =
      let before : HasExpired told number k = expires number old in
      record {
        name = before.name;
        draining = next_drains number before.name (drains_at told k number before.name before.draining) marked;
        waited = waits_on number before.name before.waited;
      }
  expired_by_entry number expires marked (inr new) = record {
    name = new.name;
    draining = next_drains number new.name new.drains marked;
    waited = record {
      place = k;
      draining = stands_at told k number new.name new.drains;
      drained = record {
        place = k;
        from = omega arith;
        before = omega arith;
        entry = entry;
        there = there;
        event = new.timeout;
        done = answered.answer ∙ new.done;
      };
    };
  }

  -- an entry keeps that what is marked as expired is draining and has waited
  pub expired_next : ExpiresDraining told k → ExpiresDraining told (k + 1)
  expired_next expires number h =
      let marked : has_number number (step told.format (world_told told k) entry.actor entry.event).0.expired ≡ true =
      sym (ap (λ (w : World). has_number number w.expired) (world_next told k entry there)) ∙ h in
      expired_by_entry number expires marked (step-marks told.format (world_told told k) entry.actor entry.event number marked)

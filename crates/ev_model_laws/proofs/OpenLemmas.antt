-- Each open connection was opened by an accept, and wasn't closed since;
-- where it wasn't moved on, it is on its listener still.
use Rattle.std.proofs.Common.{◌≡◌, ℕ, ◌+◌, ◌<◌, ◌≤◌, ◌⊎◌, inl, inr, Bool, true, false, not, ◌&&◌, ◌||◌, ◌==◌, List, [], ◌∷◌, ◌++◌, length, drop, take, map, filter, Some, refl, sym, ap, ◌∙◌, subst, arith}
use Rattle.std.specs.Prelude.{nat_le}
use Rattle.std.specs.Cmp.{first_so, second_so}
use Rattle.std.specs.List.{list_any, Contains}
use Rattle.std.proofs.lemmas.Bool.{both_ways, cond_both, and_from, or_left, or_right, false_from_ne_true}
use Rattle.std.proofs.lemmas.List.{length-take-le, drop-append-le}
use Rattle.std.proofs.lemmas.List.Elements.{Contains-append_cases, All-contains}
use Rattle.std.proofs.lemmas.Option.{slice_get_within}
use Rattle.std.proofs.Math.ListN.{drop_of_length-le}
use Rattle.ev_types.specs.Same.{numbers_decide}
use Rattle.ev_types.specs.declared.events.Actor.{Actor}
use Rattle.ev_types.specs.declared.events.Actor.TheVariants.{Worker}
use Rattle.ev_types.specs.declared.events.Answer.{Answer}
use Rattle.ev_types.specs.declared.events.Answer.TheVariants.{InUse, Ignored, NotOpen, Done}
use Rattle.ev_types.specs.declared.events.Ask.{Ask}
use Rattle.ev_types.specs.declared.events.Entry.{Entry}
use Rattle.ev_types.specs.declared.events.Event.{Event}
use Rattle.ev_types.specs.declared.events.Event.TheVariants.{Connect, Disconnect, Response, Health, FetchTimeout, DrainTimeout, TtlExpired, Publish, Reap, Accept, Close, Settle}
use Rattle.ev_types.specs.declared.journals.Format.{Format}
use Rattle.ev_model.specs.declared.pictures.Picture.{Picture}
use Rattle.ev_model.specs.declared.pictures.Shown.{Shown}
use Rattle.ev_model.specs.declared.pictures.Choice.{Choice}
use Rattle.ev_model.specs.declared.pictures.Choice.TheVariants.{NoListener, NoChain, On}
use Rattle.ev_model.specs.World.{World, OpenMember}
use Rattle.ev_model.specs.Operations.{actor_same, actor_decides}
use Rattle.ev_model.specs.Picture.{has_number}
use Rattle.ev_model.specs.Dead.{last_picture, picture_held, is_forwarded_to}
use Rattle.ev_model.specs.Choice.{choice_of}
use Rattle.ev_model.specs.Connections.{Worked, is_member, is_open, cluster_on, way_of, answer_of, members_of, opened_by, connections_where, is_moving, is_closing, left_open, accept, close, settle}
use Rattle.ev_model.specs.Entries.{cluster_named_by, names_row, connection_of, releases, releases_connection}
use Rattle.ev_model.specs.Step.{step}
use Rattle.ev_model.specs.Laws.{Told, world_told, IsEntryAt, Opened}
use Rattle.ev_model_laws.specs.Kept.{OpensOnce, HasParts}
use Rattle.ev_model_laws.proofs.KeepLemmas.{is_for_managers, either, of_worker-keeps}
use Rattle.ev_model_laws.proofs.SeenLemmas.{same_seen}
use Rattle.ev_model_laws.proofs.PlaceLemmas.{take_one, Runs, IsAnswered, entry_answered, world_next, over_places}
use Rattle.ev_model_laws.proofs.MoveLemmas.{moved_member, closing_worker, unmoved_same, moving_worker}
use Rattle.ev_model_laws.proofs.OpenOnceLemmas.{worker_stays, connection_stays}
use Rattle.ev_model_laws.proofs.OriginLemmas.{cons_cases, none_in}
use Rattle.ev_model_laws.proofs.RunParts.{parts_kept}
use Rattle.ev_model_laws.proofs.TidyLists.{any_at, left_in, made_from, passing_in}
use Rattle.ev_model_laws.proofs.AnyLemmas.{any_behind, any_first, any_second, any_only, any_mapped, any_sorted, any_in_order, any_found}
use Rattle.ev_model_laws.specs.InUse.{closes, closes_connection, WasOpened, OpensWhatIsOpen}

and_none : (b : Bool) → (b && false) ≡ false
and_none true = refl
and_none false = refl

is_own : (m : OpenMember) → is_member m.worker m.connection m ≡ true
is_own m = and_from (m.worker == m.worker) (m.connection == m.connection) ((numbers_decide m.worker m.worker).1 refl) ((numbers_decide m.connection m.connection).1 refl)

-- the connection was open before the event, which doesn't close it;
-- where it doesn't move it on, its listener is as before
pub record StaysOpen (world : World) (maker : Actor) (event : Event) (answer : Answer) (m : OpenMember) : Type 0 where
  pub before : OpenMember
  pub there : Contains world.opened before
  pub worker : before.worker ≡ m.worker
  pub connection : before.connection ≡ m.connection
  pub kept : (actor_same maker (Worker m.worker) && closes_connection m.connection event answer) ≡ false
  pub stays : (actor_same maker (Worker m.worker) && releases_connection m.connection event answer) ≡ false → m.listener ≡ before.listener

-- the event is its worker's accept that opens it
pub record OpensNow (maker : Actor) (event : Event) (answer : Answer) (m : OpenMember) : Type 0 where
  pub by : maker ≡ Worker m.worker
  pub names : names_row m.listener answer ≡ true
  pub of : connection_of event ≡ Some m.connection

-- where each connection comes from that is open after an event
abbrev pub ComesFrom : World → Actor → Event → World × Answer → Type 0
ComesFrom world maker event did =
    (m : OpenMember) → Contains did.0.opened m → StaysOpen world maker event did.1 m ⊎ OpensNow maker event did.1 m

module _ (world : World) where
  stays_as : (maker : Actor) (event : Event) (answer : Answer) (m : OpenMember) → closes_connection m.connection event answer ≡ false
      → Contains world.opened m → StaysOpen world maker event answer m
  stays_as maker event answer m none there = record {
    before = m;
    there = there;
    worker = refl;
    connection = refl;
    kept = ap (λ b. actor_same maker (Worker m.worker) && b) none ∙ and_none (actor_same maker (Worker m.worker));
    stays = λ unmoved. refl;
  }

  managed_from : (format : Format) (maker : Actor) (event : Event) → is_for_managers event ≡ true
      → ((m : OpenMember) (answer : Answer) → closes_connection m.connection event answer ≡ false) → ComesFrom world maker event (step format world maker event)
  managed_from format maker event for closes_none m there =
      inl (stays_as maker event _ m (closes_none m _)
      (subst (λ (opened : List OpenMember). Contains opened m) (same_seen format world maker event for).opened there))

  module _ (ask : Ask) (worker : ℕ) where
    abbrev Here : Answer → OpenMember → Type 0
    Here answer m = StaysOpen world (Worker worker) (Accept ask) answer m ⊎ OpensNow (Worker worker) (Accept ask) answer m

    chosen_from : (picture : Picture) (choice : Choice) (m : OpenMember) → Contains (members_of worker ask.conn choice) m → Here (answer_of picture choice) m
    chosen_from picture NoListener m there = absurd (none_in m there)
    chosen_from picture NoChain m there = absurd (none_in m there)
    chosen_from picture (On listener chain origin course) m there =
        let new : OpenMember = record { worker = worker; connection = ask.conn; listener = listener; cluster = cluster_on course; origin = origin } in
        elim (cons_cases new [] m there) [
          | inl same ↦
              subst (Here (answer_of picture (On listener chain origin course))) same
              (inr (record {
                by = refl;
                names = or_left (listener == listener) (is_forwarded_to listener (cluster_named_by (way_of picture course))) ((numbers_decide listener listener).1 refl);
                of = refl;
              }))
          | inr further ↦ absurd (none_in m further)
        ]

    new_from : (picture : Picture) (choice : Choice) (m : OpenMember)
        → Contains world.opened m ⊎ Contains (members_of worker ask.conn choice) m → Here (answer_of picture choice) m
    new_from picture choice m (inl old) = inl (stays_as (Worker worker) (Accept ask) (answer_of picture choice) m refl old)
    new_from picture choice m (inr new) = chosen_from picture choice m new

    accepted_from : ComesFrom world (Worker worker) (Accept ask) (accept ask worker world)
    accepted_from =
        cond_both (is_open world.opened worker ask.conn) (record { opened = world.opened; answer = InUse })
        (opened_by (picture_held world worker) worker ask.conn (choice_of (picture_held world worker) ask) world.opened)
        (λ (worked : Worked). (m : OpenMember) → Contains worked.opened m → Here worked.answer m)
        (λ was m there. inl (stays_as (Worker worker) (Accept ask) InUse m refl there))
        (λ new m there.
        new_from (picture_held world worker) (choice_of (picture_held world worker) ask) m
        (Contains-append_cases world.opened (members_of worker ask.conn (choice_of (picture_held world worker) ask)) m there))

  closed_from : (closing worker : ℕ) → ComesFrom world (Worker worker) (Close closing) (close closing worker world)
  closed_from closing worker =
      cond_both (is_open world.opened worker closing)
      (record { opened = filter (λ (m : OpenMember). not (is_member worker closing m)) world.opened; answer = Done })
      (record { opened = world.opened; answer = NotOpen })
      (λ (worked : Worked). (m : OpenMember) → Contains worked.opened m
      → StaysOpen world (Worker worker) (Close closing) worked.answer m ⊎ OpensNow (Worker worker) (Close closing) worked.answer m)
      (λ was m there.
      let parts : Contains world.opened m × (not (is_member worker closing m) ≡ true) =
      left_in (λ (o : OpenMember). not (is_member worker closing o)) world.opened m there in
      inl (record {
        before = m;
        there = parts.0;
        worker = refl;
        connection = refl;
        kept = false_from_ne_true (actor_same (Worker worker) (Worker m.worker) && (closing == m.connection))
            (λ both.
            let by : Worker worker ≡ Worker m.worker =
            (actor_decides (Worker worker) (Worker m.worker)).0 (first_so (actor_same (Worker worker) (Worker m.worker)) (closing == m.connection) both) in
            let of : closing ≡ m.connection =
            (numbers_decide closing m.connection).0 (second_so (actor_same (Worker worker) (Worker m.worker)) (closing == m.connection) both) in
            let same : worker ≡ m.worker = cc in
            both_ways (not (is_member worker closing m))
            (ap not (subst (λ w. is_member w closing m ≡ true) (sym same) (subst (λ c. is_member m.worker c m ≡ true) (sym of) (is_own m))))
            parts.1);
        stays = λ unmoved. refl;
      }))
      (λ none m there. inl (stays_as (Worker worker) (Close closing) NotOpen m refl there))

  module _ (once : OpensOnce world) (worker : ℕ) where
    abbrev shown_last : Shown
    shown_last = (last_picture world).shown

    abbrev is_closed : OpenMember → Bool
    is_closed = is_closing shown_last world.expired worker

    abbrev is_moved : OpenMember → Bool
    is_moved = is_moving shown_last worker

    -- a connection that a settle leaves is none of those that it closes
    not_closed : (o : OpenMember) → Contains world.opened o → not (is_closed o) ≡ true → o.worker ≡ worker
        → has_number o.connection (connections_where is_closed world.opened) ≡ false
    not_closed o there left mine =
        false_from_ne_true (has_number o.connection (connections_where is_closed world.opened))
        (λ h.
        let named : list_any (λ (c : OpenMember). c.connection == o.connection) (filter is_closed world.opened) ≡ true =
        sym (any_mapped (λ n. n == o.connection) (λ (c : OpenMember). c.connection) (filter is_closed world.opened))
        ∙ any_sorted (λ n. n == o.connection) nat_le (map (λ (c : OpenMember). c.connection) (filter is_closed world.opened)) h in
        let found : (c : OpenMember) × Contains (filter is_closed world.opened) c × ((c.connection == o.connection) ≡ true) =
        any_found (λ (c : OpenMember). c.connection == o.connection) (filter is_closed world.opened) named in
        let c : OpenMember = found.0 in
        let closing : Contains world.opened c × (is_closed c ≡ true) = left_in is_closed world.opened c found.1 in
        let same : c ≡ o =
        once c o closing.0 there (closing_worker shown_last world.expired worker c closing.1 ∙ sym mine) ((numbers_decide c.connection o.connection).0 found.2) in
        both_ways (not (is_closed o)) (ap not (subst (λ (x : OpenMember). is_closed x ≡ true) same closing.1)) left)

    -- one that moves is named so
    named_moved : (o : OpenMember) → Contains world.opened o → is_moved o ≡ true → has_number o.connection (connections_where is_moved world.opened) ≡ true
    named_moved o there moves =
        any_in_order (λ n. n == o.connection) nat_le (map (λ (c : OpenMember). c.connection) (filter is_moved world.opened))
        (any_mapped (λ n. n == o.connection) (λ (c : OpenMember). c.connection) (filter is_moved world.opened)
        ∙ any_at (λ (c : OpenMember). c.connection == o.connection) (filter is_moved world.opened) o
        (All-contains (λ (c : OpenMember). is_moved c ≡ true → Contains (filter is_moved world.opened) c) world.opened o
        (passing_in is_moved world.opened) there moves)
        ((numbers_decide o.connection o.connection).1 refl))

    moved_listener : (o : OpenMember) → Contains world.opened o → (moves : Bool) → is_moved o ≡ moves
        → (actor_same (Worker worker) (Worker o.worker)
        && (has_number o.connection (connections_where is_closed world.opened) || has_number o.connection (connections_where is_moved world.opened))) ≡ false
        → (moved_member shown_last worker o).listener ≡ o.listener
    moved_listener o there false is unmoved = ap (λ (m : OpenMember). m.listener) (unmoved_same shown_last worker o is)
    moved_listener o there true is unmoved =
        let closed : Bool = has_number o.connection (connections_where is_closed world.opened) in
        let moved : Bool = has_number o.connection (connections_where is_moved world.opened) in
        absurd (both_ways (actor_same (Worker worker) (Worker o.worker) && (closed || moved)) unmoved
        (and_from (actor_same (Worker worker) (Worker o.worker)) (closed || moved)
        ((actor_decides (Worker worker) (Worker o.worker)).1 (ap Worker (sym (moving_worker shown_last worker o is))))
        (or_right closed moved (named_moved o there is))))

    settled_from : ComesFrom world (Worker worker) Settle (settle worker world)
    settled_from m there =
        let left : List OpenMember = left_open shown_last world.expired worker world.opened in
        let from : (o : OpenMember) × Contains left o × (moved_member shown_last worker o ≡ m) = made_from (moved_member shown_last worker) left m there in
        let o : OpenMember = from.0 in
        let parts : Contains world.opened o × (not (is_closed o) ≡ true) = left_in (λ (c : OpenMember). not (is_closed c)) world.opened o from.1 in
        let same_worker : o.worker ≡ m.worker =
        sym (worker_stays shown_last o (o.worker == worker)) ∙ ap (λ (c : OpenMember). c.worker) from.2 in
        let same_connection : o.connection ≡ m.connection =
        sym (connection_stays shown_last o (o.worker == worker)) ∙ ap (λ (c : OpenMember). c.connection) from.2 in
        inl (record {
          before = o;
          there = parts.0;
          worker = same_worker;
          connection = same_connection;
          kept = false_from_ne_true (actor_same (Worker worker) (Worker m.worker) && has_number m.connection (connections_where is_closed world.opened))
              (λ both.
              let by : Worker worker ≡ Worker m.worker =
              (actor_decides (Worker worker) (Worker m.worker)).0
              (first_so (actor_same (Worker worker) (Worker m.worker)) (has_number m.connection (connections_where is_closed world.opened)) both) in
              let same : worker ≡ m.worker = cc in
              both_ways (has_number m.connection (connections_where is_closed world.opened))
              (subst (λ c. has_number c (connections_where is_closed world.opened) ≡ false) same_connection
              (not_closed o parts.0 parts.1 (same_worker ∙ sym same)))
              (second_so (actor_same (Worker worker) (Worker m.worker)) (has_number m.connection (connections_where is_closed world.opened)) both));
          stays = λ unmoved.
              sym (ap (λ (c : OpenMember). c.listener) from.2)
              ∙ moved_listener o parts.0 (is_moved o) refl
              (subst (λ c. (actor_same (Worker worker) (Worker o.worker)
              && (has_number c (connections_where is_closed world.opened) || has_number c (connections_where is_moved world.opened))) ≡ false) (sym same_connection)
              (subst (λ w. (actor_same (Worker worker) (Worker w)
              && (has_number m.connection (connections_where is_closed world.opened) || has_number m.connection (connections_where is_moved world.opened))) ≡ false)
              (sym same_worker) unmoved));
        })

  none_closed : (maker : Actor) (event : Event) (did : World × Answer) → ((m : OpenMember) (answer : Answer) → closes_connection m.connection event answer ≡ false)
      → did.0.opened ≡ world.opened → ComesFrom world maker event did
  none_closed maker event did none same m there =
      inl (stays_as maker event did.1 m (none m did.1) (subst (λ (opened : List OpenMember). Contains opened m) same there))

  -- where the connections come from that are open after an event
  step-from : (once : OpensOnce world) (format : Format) (maker : Actor) (event : Event) → ComesFrom world maker event (step format world maker event)
  step-from once format maker Connect = managed_from format maker Connect refl (λ m answer. refl)
  step-from once format maker Disconnect = managed_from format maker Disconnect refl (λ m answer. refl)
  step-from once format maker (Response response) = managed_from format maker (Response response) refl (λ m answer. refl)
  step-from once format maker (Health cluster host healthy) = managed_from format maker (Health cluster host healthy) refl (λ m answer. refl)
  step-from once format maker (FetchTimeout timeout) = managed_from format maker (FetchTimeout timeout) refl (λ m answer. refl)
  step-from once format maker (DrainTimeout listener) = managed_from format maker (DrainTimeout listener) refl (λ m answer. refl)
  step-from once format maker (TtlExpired kind name) = managed_from format maker (TtlExpired kind name) refl (λ m answer. refl)
  step-from once format maker Publish =
      none_closed maker Publish (step format world maker Publish) (λ m answer. refl)
      (either (λ (w : World). w.opened ≡ world.opened) _ _ _ refl refl)
  step-from once format maker Reap = none_closed maker Reap (step format world maker Reap) (λ m answer. refl) refl
  step-from once format maker (Accept ask) =
      of_worker-keeps (ComesFrom world maker (Accept ask)) (accept ask) maker world
      (λ worker by. subst (λ (a : Actor). ComesFrom world a (Accept ask) (accept ask worker world)) (sym by) (accepted_from ask worker))
      (λ m there. inl (stays_as maker (Accept ask) Ignored m refl there))
  step-from once format maker (Close closing) =
      of_worker-keeps (ComesFrom world maker (Close closing)) (close closing) maker world
      (λ worker by. subst (λ (a : Actor). ComesFrom world a (Close closing) (close closing worker world)) (sym by) (closed_from closing worker))
      (λ m there. inl (stays_as maker (Close closing) Ignored m refl there))
  step-from once format maker Settle =
      of_worker-keeps (ComesFrom world maker Settle) settle maker world
      (λ worker by. subst (λ (a : Actor). ComesFrom world a Settle (settle worker world)) (sym by) (settled_from once worker))
      (λ m there. inl (stays_as maker Settle Ignored m refl there))

module _ (told : Told) (k : ℕ) (entry : Entry) (there : IsEntryAt told k entry) (answered : IsAnswered told k entry) where
  here : k < length told.journal
  here = slice_get_within told.journal k entry there

  abbrev answer_here : Answer
  answer_here = (step told.format (world_told told k) entry.actor entry.event).1

  -- the entries since, with this one
  since_one : (place : ℕ) → place < k → drop (place + 1) (take (k + 1) told.journal) ≡ drop (place + 1) (take k told.journal) ++ entry ∷ []
  since_one place before =
      let taken : length (take k told.journal) ≡ k = length-take-le k told.journal (omega (arith, here)) in
      ap (drop (place + 1)) (take_one told.journal k entry there)
      ∙ drop-append-le (place + 1) (take k told.journal) (entry ∷ []) (omega (arith, taken, before))

  -- what was opened and stays open wasn't closed by the entry either
  still_open : (m : OpenMember) → StaysOpen (world_told told k) entry.actor entry.event answer_here m → ((o : OpenMember) → Contains (world_told told k).opened o → WasOpened told k o)
      → WasOpened told (k + 1) m
  still_open m stays opened =
      let o : OpenMember = stays.before in
      let was : WasOpened told k o = opened o stays.there in
      let closing : Entry → Bool = closes (Worker m.worker) m.connection in
      let releasing : Entry → Bool = releases (Worker m.worker) m.connection in
      let old : List Entry = drop (was.place + 1) (take k told.journal) in
      let entries : drop (was.place + 1) (take (k + 1) told.journal) ≡ old ++ entry ∷ [] = since_one was.place was.before in
      let last : closing entry ≡ false =
      ap (λ (answer : Answer). actor_same entry.actor (Worker m.worker) && closes_connection m.connection entry.event answer) answered.answer ∙ stays.kept in
      let kept : list_any closing old ≡ false =
      subst (λ c. list_any (closes (Worker m.worker) c) old ≡ false) stays.connection
      (subst (λ w. list_any (closes (Worker w) o.connection) old ≡ false) stays.worker was.kept) in
      record {
        place = was.place;
        before = omega (arith, was.before);
        listener = was.listener;
        opened = subst (λ c. Opened told was.place (Worker m.worker) was.listener c) stays.connection
            (subst (λ w. Opened told was.place (Worker w) was.listener o.connection) stays.worker was.opened);
        kept = ap (list_any closing) entries
            ∙ false_from_ne_true (list_any closing (old ++ entry ∷ []))
            (any_behind closing old (entry ∷ [])
            (λ first. both_ways (list_any closing old) kept first)
            (λ second. both_ways (closing entry) last (any_only closing entry second)));
        stays = λ unmoved.
            let none : list_any releasing (old ++ entry ∷ []) ≡ false = sym (ap (list_any releasing) entries) ∙ unmoved in
            let now : releasing entry ≡ false =
            false_from_ne_true (releasing entry)
            (λ h. both_ways (list_any releasing (old ++ entry ∷ [])) none (any_second releasing old (entry ∷ []) (or_left (releasing entry) false h))) in
            let earlier : list_any releasing old ≡ false =
            false_from_ne_true (list_any releasing old) (λ h. both_ways (list_any releasing (old ++ entry ∷ [])) none (any_first releasing old (entry ∷ []) h)) in
            stays.stays
            (ap (λ (answer : Answer). actor_same entry.actor (Worker m.worker) && releases_connection m.connection entry.event answer) (sym answered.answer) ∙ now)
            ∙ was.stays
            (subst (λ c. list_any (releases (Worker o.worker) c) old ≡ false) (sym stays.connection)
            (subst (λ w. list_any (releases (Worker w) m.connection) old ≡ false) (sym stays.worker) earlier));
      }

  opened_now : (m : OpenMember) → OpensNow entry.actor entry.event answer_here m → WasOpened told (k + 1) m
  opened_now m opens =
      let nothing : drop (k + 1) (take (k + 1) told.journal) ≡ [] =
      drop_of_length-le (take (k + 1) told.journal) (omega (arith, length-take-le (k + 1) told.journal (omega (arith, here)))) in
      record {
        place = k;
        before = omega arith;
        listener = m.listener;
        opened = record {
          entry = entry;
          there = there;
          by = opens.by;
          names = ap (names_row m.listener) answered.answer ∙ opens.names;
          of = opens.of;
        };
        kept = ap (list_any (closes (Worker m.worker) m.connection)) nothing;
        stays = λ unmoved. refl;
      }

  come_from : OpensWhatIsOpen told k → (m : OpenMember)
      → StaysOpen (world_told told k) entry.actor entry.event answer_here m ⊎ OpensNow entry.actor entry.event answer_here m
      → WasOpened told (k + 1) m
  come_from opened m (inl stays) = still_open m stays opened
  come_from opened m (inr opens) = opened_now m opens

  -- an entry keeps that what is open was opened
  open_next : OpensOnce (world_told told k) → OpensWhatIsOpen told k → OpensWhatIsOpen told (k + 1)
  open_next once opened m among =
      come_from opened m
      (step-from (world_told told k) once told.format entry.actor entry.event m
      (subst (λ (w : World). Contains w.opened m) (world_next told k entry there) among))

pub runs_open : (told : Told) → Runs told → (k : ℕ) → k ≤ length told.journal → OpensWhatIsOpen told k
runs_open told run k le =
    over_places told (OpensWhatIsOpen told) 0
    (λ m there. absurd (omega (arith, there.1)))
    (λ at entry from there opened.
    let within : at < length told.journal = slice_get_within told.journal at entry there in
    let parts : HasParts told at = parts_kept told run at (omega arith) in
    open_next told at entry there (entry_answered told at entry run there) parts.once opened)
    k (omega arith) le

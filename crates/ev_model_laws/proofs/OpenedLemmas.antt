-- A connection that an accept opened on a generation stays open on it until it is closed or moved on.
use Rattle.std.proofs.Common.{◌≡◌, ℕ, ◌<◌, ◌≤◌, ◌+◌, ◌⊎◌, inl, inr, Bool, true, false, not, ◌&&◌, ◌==◌, List, [], ◌∷◌, ◌++◌, length, drop, take, map, filter, Some, refl, sym, ap, ◌∙◌, subst, IsTrue, arith, ◌||◌}
use Rattle.std.specs.Prelude.{nat_le, slice_get}
use Rattle.std.specs.Cmp.{first_so, second_so}
use Rattle.std.specs.List.{list_any, Contains}
use Rattle.std.proofs.lemmas.Bool.{false≢true, cond_both, cases_lt, and_from, or_left, or_right, cases_Bool}
use Rattle.std.proofs.lemmas.List.{length-take-le, drop-append-le}
use Rattle.std.proofs.lemmas.Option.{slice_get_within}
use Rattle.ev_types.specs.Same.{numbers_decide}
use Rattle.ev_types.specs.declared.events.Actor.{Actor}
use Rattle.ev_types.specs.declared.events.Actor.TheVariants.{Stream, Health as health_checker, Timer, Main, Worker}
use Rattle.ev_types.specs.declared.events.Answer.{Answer}
use Rattle.ev_types.specs.declared.events.Answer.TheVariants.{InUse, NotOpen, Done}
use Rattle.ev_types.specs.declared.events.Ask.{Ask}
use Rattle.ev_types.specs.Events.{MayMake}
use Rattle.ev_types.specs.declared.events.Entry.{Entry}
use Rattle.ev_types.specs.declared.events.Event.{Event}
use Rattle.ev_types.specs.declared.events.Event.TheVariants.{Connect, Disconnect, Response, Health, FetchTimeout, DrainTimeout, TtlExpired, Publish, Reap, Accept, Close, Settle}
use Rattle.ev_types.specs.declared.journals.Format.{Format}
use Rattle.ev_model.specs.declared.pictures.Picture.{Picture}
use Rattle.ev_model.specs.declared.pictures.Choice.{Choice}
use Rattle.ev_model.specs.declared.pictures.Choice.TheVariants.{NoListener, NoChain, On}
use Rattle.ev_model.specs.World.{World, OpenMember}
use Rattle.ev_model.specs.Operations.{actor_same, actor_decides}
use Rattle.ev_model.specs.Picture.{has_number}
use Rattle.ev_model.specs.Dead.{is_open_on, is_forwarded_to, last_picture, picture_held}
use Rattle.ev_model.specs.Choice.{choice_of}
use Rattle.ev_model.specs.Connections.{Worked, is_member, is_open, way_of, answer_of, cluster_on, members_of, opened_by, connections_where, is_closing, is_moving, left_open, moved_on, accept, close, settle}
use Rattle.ev_model.specs.Entries.{cluster_named_by, names_row, connection_of, releases, releases_connection}
use Rattle.ev_model.specs.Step.{step}
use Rattle.ev_model.specs.Laws.{Told, world_told, IsEntryAt, Opened, IsReleasedBetween}
use Rattle.ev_model_laws.specs.Kept.{is_open_for, StaysOpen}
use Rattle.ev_model_laws.proofs.KeepLemmas.{is_for_managers, either, of_worker-keeps}
use Rattle.ev_model_laws.proofs.SeenLemmas.{same_seen}
use Rattle.ev_model_laws.proofs.PlaceLemmas.{take_one, IsAnswered, world_next}
use Rattle.ev_model_laws.proofs.AnyLemmas.{or_so, any_so, any_found, any_first, any_second, any_mapped, any_in_order, any_passing, any_either, any_tells}
use Rattle.std.proofs.lemmas.List.Elements.{All-contains}
use Rattle.ev_model.specs.declared.pictures.Shown.{Shown}
use Rattle.ev_model_laws.proofs.TidyLists.{any_at, passing_in, made_in}
use Rattle.ev_model_laws.proofs.ChoiceLemmas.{way_names}
use Rattle.ev_model_laws.proofs.MoveLemmas.{moved_member, closing_worker, moving_worker, unmoved_same}

-- the member is a worker's connection of this number
open_parts : (actor : Actor) (connection number : ℕ) (member : OpenMember) → is_open_for actor connection number member ≡ true
    → (actor ≡ Worker member.worker) × (member.connection ≡ connection)
open_parts actor connection number member h =
    let both : (actor_same actor (Worker member.worker) && (member.connection == connection)) ≡ true = first_so _ (is_open_on number member) h in (
      (actor_decides actor (Worker member.worker)).0 (first_so (actor_same actor (Worker member.worker)) (member.connection == connection) both),
      (numbers_decide member.connection connection).0 (second_so (actor_same actor (Worker member.worker)) (member.connection == connection) both),
    )

-- after what was done the connection is open, or the event has closed it or moved it on
abbrev pub IsOpenOrClosed : Actor → Event → Actor → ℕ → ℕ → World × Answer → Type 0
IsOpenOrClosed maker event actor connection number did =
    ((actor_same maker actor && releases_connection connection event did.1) ≡ true)
    ⊎ (list_any (is_open_for actor connection number) did.0.opened ≡ true)

module _ (world : World) (actor : Actor) (connection number : ℕ) (is : list_any (is_open_for actor connection number) world.opened ≡ true) where
  still : (maker : Actor) (event : Event) (did : World × Answer) → did.0.opened ≡ world.opened → IsOpenOrClosed maker event actor connection number did
  still maker event did same = inr (ap (list_any (is_open_for actor connection number)) same ∙ is)

  managed_open : (format : Format) (maker : Actor) (event : Event) → is_for_managers event ≡ true
      → IsOpenOrClosed maker event actor connection number (step format world maker event)
  managed_open format maker event for =
      still maker event (step format world maker event) (same_seen format world maker event for).opened

  closed_open : (closing worker : ℕ) → IsOpenOrClosed (Worker worker) (Close closing) actor connection number (close closing worker world)
  closed_open closing worker =
      cond_both (is_open world.opened worker closing)
      (record { opened = filter (λ (m : OpenMember). not (is_member worker closing m)) world.opened; answer = Done })
      (record { opened = world.opened; answer = NotOpen })
      (λ (worked : Worked). ((actor_same (Worker worker) actor && releases_connection connection (Close closing) worked.answer) ≡ true)
      ⊎ (list_any (is_open_for actor connection number) worked.opened ≡ true))
      (λ was.
      any_either (is_open_for actor connection number) (is_member worker closing) world.opened
      (λ both. inl (any_tells (λ (m : OpenMember). is_open_for actor connection number m && is_member worker closing m)
      (actor_same (Worker worker) actor && (closing == connection)) world.opened
      (λ (m : OpenMember) passes.
      let parts : (actor ≡ Worker m.worker) × (m.connection ≡ connection) =
      open_parts actor connection number m (first_so (is_open_for actor connection number m) (is_member worker closing m) passes) in
      let member : is_member worker closing m ≡ true = second_so (is_open_for actor connection number m) (is_member worker closing m) passes in
      let by : m.worker ≡ worker = (numbers_decide m.worker worker).0 (first_so (m.worker == worker) (m.connection == closing) member) in
      let of : m.connection ≡ closing = (numbers_decide m.connection closing).0 (second_so (m.worker == worker) (m.connection == closing) member) in
      and_from (actor_same (Worker worker) actor) (closing == connection)
      ((actor_decides (Worker worker) actor).1 (sym (parts.0 ∙ ap Worker by)))
      ((numbers_decide closing connection).1 (sym of ∙ parts.1)))
      both))
      (λ without. inr (any_passing (is_open_for actor connection number) (λ (m : OpenMember). not (is_member worker closing m)) world.opened without))
      is)
      (λ none. inr is)

  -- a connection that passes is this worker's, and the settle names its number where the test says so
  named_by : (worker : ℕ) (test : OpenMember → Bool) → ((m : OpenMember) → test m ≡ true → m.worker ≡ worker)
      → list_any (λ (m : OpenMember). is_open_for actor connection number m && test m) world.opened ≡ true
      → (actor_same (Worker worker) actor ≡ true) × (has_number connection (connections_where test world.opened) ≡ true)
  named_by worker test by both = (
    any_tells (λ (m : OpenMember). is_open_for actor connection number m && test m) (actor_same (Worker worker) actor) world.opened
        (λ (m : OpenMember) passes.
        let parts : (actor ≡ Worker m.worker) × (m.connection ≡ connection) =
        open_parts actor connection number m (first_so (is_open_for actor connection number m) (test m) passes) in
        (actor_decides (Worker worker) actor).1
        (sym (parts.0 ∙ ap Worker (by m (second_so (is_open_for actor connection number m) (test m) passes)))))
        both,
    any_in_order (λ n. n == connection) nat_le (map (λ (m : OpenMember). m.connection) (filter test world.opened))
        (any_mapped (λ n. n == connection) (λ (m : OpenMember). m.connection) (filter test world.opened)
        ∙ any_passing (λ (m : OpenMember). m.connection == connection) test world.opened
        (any_so (λ (m : OpenMember). is_open_for actor connection number m && test m) (λ (m : OpenMember). (m.connection == connection) && test m) world.opened
        (λ (m : OpenMember) passes.
        and_from (m.connection == connection) (test m)
        ((numbers_decide m.connection connection).1 (open_parts actor connection number m (first_so (is_open_for actor connection number m) (test m) passes)).1)
        (second_so (is_open_for actor connection number m) (test m) passes))
        both)),
  )

  settled_open : (worker : ℕ) → IsOpenOrClosed (Worker worker) Settle actor connection number (settle worker world)
  settled_open worker =
      let shown : Shown = (last_picture world).shown in
      let closing : OpenMember → Bool = is_closing shown world.expired worker in
      let moves : OpenMember → Bool = is_moving shown worker in
      let stays : OpenMember → Bool = λ (m : OpenMember). not (closing m) in
      let on : OpenMember → Bool = is_open_for actor connection number in
      let closed : List ℕ = connections_where closing world.opened in
      let moved : List ℕ = connections_where moves world.opened in
      let left : List OpenMember = left_open shown world.expired worker world.opened in
      any_either on closing world.opened
      (λ both.
      let named : (actor_same (Worker worker) actor ≡ true) × (has_number connection closed ≡ true) =
      named_by worker closing (λ m h. closing_worker shown world.expired worker m h) both in
      inl (and_from (actor_same (Worker worker) actor) (has_number connection closed || has_number connection moved) named.0
      (or_left (has_number connection closed) (has_number connection moved) named.1)))
      (λ without.
      let found : (m : OpenMember) × Contains world.opened m × ((on m && stays m) ≡ true) =
      any_found (λ (m : OpenMember). on m && stays m) world.opened without in
      let m : OpenMember = found.0 in
      elim (cases_Bool (moves m)) [
        | inl moving ↦
            let named : (actor_same (Worker worker) actor ≡ true) × (has_number connection moved ≡ true) =
            named_by worker moves (λ o h. moving_worker shown worker o h)
            (any_at (λ (o : OpenMember). on o && moves o) world.opened m found.1 (and_from (on m) (moves m) (first_so (on m) (stays m) found.2) moving)) in
            inl (and_from (actor_same (Worker worker) actor) (has_number connection closed || has_number connection moved) named.0
            (or_right (has_number connection closed) (has_number connection moved) named.1))
        | inr staying ↦
            let among : Contains left m =
            All-contains (λ (o : OpenMember). stays o ≡ true → Contains left o) world.opened m (passing_in stays world.opened) found.1
            (second_so (on m) (stays m) found.2) in
            inr (any_at on (moved_on shown worker left) m
            (subst (Contains (moved_on shown worker left)) (unmoved_same shown worker m staying) (made_in (moved_member shown worker) left m among))
            (first_so (on m) (stays m) found.2))
      ])
      is

  accepted_open : (ask : Ask) (worker : ℕ) → IsOpenOrClosed (Worker worker) (Accept ask) actor connection number (accept ask worker world)
  accepted_open ask worker =
      cond_both (is_open world.opened worker ask.conn) (record { opened = world.opened; answer = InUse })
      (opened_by (picture_held world worker) worker ask.conn (choice_of (picture_held world worker) ask) world.opened)
      (λ (worked : Worked). ((actor_same (Worker worker) actor && releases_connection connection (Accept ask) worked.answer) ≡ true)
      ⊎ (list_any (is_open_for actor connection number) worked.opened ≡ true))
      (λ was. inr is)
      (λ new. inr (any_first (is_open_for actor connection number) world.opened _ is))

  -- a connection that is open stays so, or the event closes it or moves it on
  pub step-open : (format : Format) (maker : Actor) (event : Event) → IsOpenOrClosed maker event actor connection number (step format world maker event)
  step-open format maker Connect = managed_open format maker Connect refl
  step-open format maker Disconnect = managed_open format maker Disconnect refl
  step-open format maker (Response response) = managed_open format maker (Response response) refl
  step-open format maker (Health cluster host healthy) = managed_open format maker (Health cluster host healthy) refl
  step-open format maker (FetchTimeout timeout) = managed_open format maker (FetchTimeout timeout) refl
  step-open format maker (DrainTimeout listener) = managed_open format maker (DrainTimeout listener) refl
  step-open format maker (TtlExpired kind name) = managed_open format maker (TtlExpired kind name) refl
  step-open format maker Publish = inr (either (λ (w : World). list_any (is_open_for actor connection number) w.opened ≡ true) _ _ _ is is)
  step-open format maker Reap = inr is
  step-open format maker (Accept ask) =
      of_worker-keeps (IsOpenOrClosed maker (Accept ask) actor connection number) (accept ask) maker world
      (λ worker by. subst (λ (m : Actor). IsOpenOrClosed m (Accept ask) actor connection number (accept ask worker world)) (sym by) (accepted_open ask worker))
      (inr is)
  step-open format maker (Close closing) =
      of_worker-keeps (IsOpenOrClosed maker (Close closing) actor connection number) (close closing) maker world
      (λ worker by. subst (λ (m : Actor). IsOpenOrClosed m (Close closing) actor connection number (close closing worker world)) (sym by) (closed_open closing worker))
      (inr is)
  step-open format maker Settle =
      of_worker-keeps (IsOpenOrClosed maker Settle actor connection number) settle maker world
      (λ worker by. subst (λ (m : Actor). IsOpenOrClosed m Settle actor connection number (settle worker world)) (sym by) (settled_open worker))
      (inr is)

-- what a choice is answered with names what it opens a connection on
choice_opens : (worker connection number : ℕ) (picture : Picture) (choice : Choice) → names_row number (answer_of picture choice) ≡ true
    → list_any (is_open_for (Worker worker) connection number) (members_of worker connection choice) ≡ true
choice_opens worker connection number picture NoListener names = absurd (false≢true names)
choice_opens worker connection number picture NoChain names = absurd (false≢true names)
choice_opens worker connection number picture (On listener chain origin course) names =
    or_left _ false (and_from ((worker == worker) && (connection == connection)) _
    (and_from (worker == worker) (connection == connection) ((numbers_decide worker worker).1 refl) ((numbers_decide connection connection).1 refl))
    (or_so (listener == number) (is_forwarded_to number (cluster_named_by (way_of picture course)))
    (λ same. or_left (listener == number) (is_forwarded_to number (cluster_on course)) same)
    (λ named. or_right (listener == number) (is_forwarded_to number (cluster_on course)) (way_names picture number course named)) names))

-- an accept that names a generation opens the connection on it
pub accept_opens : (world : World) (ask : Ask) (worker number : ℕ) → names_row number (accept ask worker world).1 ≡ true
    → list_any (is_open_for (Worker worker) ask.conn number) (accept ask worker world).0.opened ≡ true
accept_opens world ask worker number =
    cond_both (is_open world.opened worker ask.conn) (record { opened = world.opened; answer = InUse })
    (opened_by (picture_held world worker) worker ask.conn (choice_of (picture_held world worker) ask) world.opened)
    (λ (worked : Worked). names_row number worked.answer ≡ true → list_any (is_open_for (Worker worker) ask.conn number) worked.opened ≡ true)
    (λ was names. absurd (false≢true names))
    (λ new names. any_second (is_open_for (Worker worker) ask.conn number) world.opened _
    (choice_opens worker ask.conn number (picture_held world worker) (choice_of (picture_held world worker) ask) names))

-- an accept that was answered with a generation opens its connection on it
opened_by_event : (format : Format) (workers : ℕ) (world : World) (maker : Actor) (event : Event) (number connection : ℕ)
    → MayMake workers maker event → names_row number (step format world maker event).1 ≡ true → connection_of event ≡ Some connection
    → list_any (is_open_for maker connection number) (step format world maker event).0.opened ≡ true
opened_by_event format workers world (Worker worker) (Accept ask) number connection may names of =
    let same : ask.conn ≡ connection = cc in
    subst (λ c. list_any (is_open_for (Worker worker) c number) (accept ask worker world).0.opened ≡ true) same (accept_opens world ask worker number names)
opened_by_event format workers world Stream (Accept ask) number connection may names of = absurd may
opened_by_event format workers world health_checker (Accept ask) number connection may names of = absurd may
opened_by_event format workers world Timer (Accept ask) number connection may names of = absurd may
opened_by_event format workers world Main (Accept ask) number connection may names of = absurd may
opened_by_event format workers world maker event number connection may names of = absurd (cc)

module _ (told : Told) (k : ℕ) (entry : Entry) (there : IsEntryAt told k entry) (answered : IsAnswered told k entry) where
  -- what an entry does is at the end of what was done between
  between_next : (j : ℕ) (actor : Actor) (connection : ℕ) → j < k
      → list_any (releases actor connection) (drop (j + 1) (take k told.journal) ++ entry ∷ []) ≡ true → IsReleasedBetween told j (k + 1) actor connection
  between_next j actor connection before h =
      let within : k < length told.journal = slice_get_within told.journal k entry there in
      let taken : length (take k told.journal) ≡ k = length-take-le k told.journal (omega arith) in
      subst (λ (entries : List Entry). list_any (releases actor connection) entries ≡ true)
      (sym (ap (drop (j + 1)) (take_one told.journal k entry there)
      ∙ drop-append-le (j + 1) (take k told.journal) (entry ∷ []) (omega (arith, taken))))
      h

  open_here : (j : ℕ) (actor : Actor) (number connection : ℕ) → j < k
      → IsOpenOrClosed entry.actor entry.event actor connection number (step told.format (world_told told k) entry.actor entry.event)
      → IsReleasedBetween told j (k + 1) actor connection ⊎ IsTrue (list_any (is_open_for actor connection number) (world_told told (k + 1)).opened)
  open_here j actor number connection before (inl closing) =
      inl (between_next j actor connection before
      (any_second (releases actor connection) (drop (j + 1) (take k told.journal)) (entry ∷ [])
      (or_left (releases actor connection entry) false
      (ap (λ (answer : Answer). actor_same entry.actor actor && releases_connection connection entry.event answer) answered.answer ∙ closing))))
  open_here j actor number connection before (inr is_still) =
      inr (ap (λ (w : World). list_any (is_open_for actor connection number) w.opened) (world_next told k entry there) ∙ is_still)

  open_before : (j : ℕ) (actor : Actor) (number connection : ℕ) → j < k
      → IsReleasedBetween told j k actor connection ⊎ IsTrue (list_any (is_open_for actor connection number) (world_told told k).opened)
      → IsReleasedBetween told j (k + 1) actor connection ⊎ IsTrue (list_any (is_open_for actor connection number) (world_told told (k + 1)).opened)
  open_before j actor number connection before (inl between) =
      inl (between_next j actor connection before (any_first (releases actor connection) (drop (j + 1) (take k told.journal)) (entry ∷ []) between))
  open_before j actor number connection before (inr is) =
      open_here j actor number connection before
      (step-open (world_told told k) actor connection number is told.format entry.actor entry.event)

  opened_now : (actor : Actor) (number connection : ℕ) → Opened told k actor number connection
      → list_any (is_open_for actor connection number) (world_told told (k + 1)).opened ≡ true
  opened_now actor number connection opened =
      let stands : slice_get told.journal k ≡ Some opened.entry = opened.there in
      let same : opened.entry ≡ entry = cc in
      let by : entry.actor ≡ actor = subst (λ (e : Entry). e.actor ≡ actor) same opened.by in
      let names : names_row number entry.answer ≡ true = subst (λ (e : Entry). names_row number e.answer ≡ true) same opened.names in
      let of : connection_of entry.event ≡ Some connection = subst (λ (e : Entry). connection_of e.event ≡ Some connection) same opened.of in
      ap (λ (w : World). list_any (is_open_for actor connection number) w.opened) (world_next told k entry there)
      ∙ subst (λ (a : Actor). list_any (is_open_for a connection number) (step told.format (world_told told k) entry.actor entry.event).0.opened ≡ true) by
      (opened_by_event told.format told.workers (world_told told k) entry.actor entry.event number connection answered.may
      (ap (names_row number) (sym answered.answer) ∙ names) of)

  open_by : (j : ℕ) (actor : Actor) (number connection : ℕ) → StaysOpen told k → j < k + 1 → Opened told j actor number connection → (j < k) ⊎ (k ≤ j)
      → IsReleasedBetween told j (k + 1) actor connection ⊎ IsTrue (list_any (is_open_for actor connection number) (world_told told (k + 1)).opened)
  open_by j actor number connection stays lt opened (inl before) =
      open_before j actor number connection before (stays j actor number connection before opened)
  open_by j actor number connection stays lt opened (inr from) =
      let same : j ≡ k = omega arith in
      inr (opened_now actor number connection (subst (λ place. Opened told place actor number connection) same opened))

  -- an entry keeps that connections stay open until they are closed or moved on
  pub open_next : StaysOpen told k → StaysOpen told (k + 1)
  open_next stays j actor number connection lt opened = open_by j actor number connection stays lt opened (cases_lt j k)

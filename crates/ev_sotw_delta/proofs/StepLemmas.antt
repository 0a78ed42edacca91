-- What each event says of the names that are watched.
use Rattle.std.proofs.Common.{◌≡◌, ◌∙◌, ℕ, ◌⊎◌, inl, inr, Bool, true, false, cond, not, ◌&&◌, List, [], ◌∷◌, ◌++◌, length, unwrap_or, map, filter, filter_map, Option, None, Some, option_to_list, refl, sym, ap}
use Rattle.std.specs.List.{last_or}
use Rattle.std.proofs.lemmas.Bool.{false≢true, cond_both}
use Rattle.std.proofs.lemmas.List.{append-nil}
use Rattle.std.proofs.lemmas.Grind.{flat_map-append}
use Rattle.ev_types.specs.Items.{ResponseParts}
use Rattle.ev_types.specs.Kinds.{kind_same, is_by_name}
use Rattle.ev_types.specs.Statuses.{is_live}
use Rattle.ev_types.specs.declared.contents.Kind.{Kind}
use Rattle.ev_types.specs.declared.contents.Request.{Request}
use Rattle.ev_types.specs.declared.events.Actor.{Actor}
use Rattle.ev_types.specs.declared.events.Ask.{Ask}
use Rattle.ev_types.specs.declared.events.Answer.{Answer}
use Rattle.ev_types.specs.declared.events.Answer.TheVariants.{Ignored, Done, Moved, Replied, Version, Unchanged, InUse, NotOpen}
use Rattle.ev_types.specs.declared.events.Entry.{Entry}
use Rattle.ev_types.specs.declared.events.Event.{Event}
use Rattle.ev_types.specs.declared.events.Event.TheVariants.{Connect, Disconnect, Response, Health, FetchTimeout, DrainTimeout, TtlExpired, Publish, Reap, Accept, Close, Settle}
use Rattle.ev_types.specs.declared.journals.Format.{Format}
use Rattle.ev_types.specs.declared.rows.GenRow.{GenRow}
use Rattle.ev_types.specs.declared.rows.RowStatus.{RowStatus}
use Rattle.ev_types.specs.declared.rows.RowStatus.TheVariants.{Warming, Active, Draining, Dropped}
use Rattle.ev_types.specs.declared.events.Verdict.{Verdict}
use Rattle.ev_model.specs.World.{World, OpenMember}
use Rattle.ev_model.specs.Live.{lives_of, live_of}
use Rattle.ev_model.specs.Dead.{is_dead, is_dead_at}
use Rattle.ev_model.specs.Rows.{is_row_of}
use Rattle.ev_model.specs.Tidy.{is_due, has_successor, promoted_status, promoted_rows, tidy}
use Rattle.ev_model.specs.Warming.{is_ready_by}
use Rattle.ev_model.specs.Requests.{connect_requests, requests_of, reply_of, changes_asked, has_left_clusters}
use Rattle.ev_model.specs.Verdicts.{is_among, verdicts_for}
use Rattle.ev_model.specs.Watching.{is_watched, watched_of}
use Rattle.ev_model.specs.Connections.{Worked, answer_of, is_open, accepted, opened_by, accept, closed, close, is_member, settle}
use Rattle.ev_model.specs.Phase.{is_clusters}
use Rattle.ev_model.specs.Choice.{choice_of}
use Rattle.ev_model.specs.Dead.{picture_held}
use Rattle.ev_model.specs.declared.pictures.Picture.{Picture}
use Rattle.ev_model.specs.declared.pictures.Choice.{Choice}
use Rattle.ev_model.specs.declared.pictures.Choice.TheVariants.{NoListener as no_listener, NoChain as no_chain, On as on}
use Rattle.ev_model.specs.Publishing.{reap}
use Rattle.ev_model.specs.Signals.{moved, with_results, with_end, forget_version}
use Rattle.ev_model.specs.Rows.{arrived}
use Rattle.ev_model.specs.Picture.{shown_of}
use Rattle.ev_types.specs.declared.rows.Arrival.TheVariants.{TimedOut}
use Rattle.ev_model_laws.proofs.EventLemmas.{step-leads}
use Rattle.ev_model_laws.specs.MainSide.{stream_told}
use Rattle.ev_model_laws.proofs.StreamLemmas.{stream_after}
use Rattle.ev_model.specs.Step.{step, answered, responded}
use Rattle.ev_model_laws.specs.Kept.{NothingIsDue}
use Rattle.ev_model_laws.proofs.TidyLemmas.{status_kept}
use Rattle.ev_model_laws.proofs.TidyLists.{any_none, map_same}
use Rattle.ev_sotw.proofs.NameSetLemmas.{among_other}
use Rattle.ev_sotw.proofs.SearchLemmas.{or_last}
use Rattle.ev_sotw.specs.Stated.{is_connect, is_moved, requests_in}
use Rattle.ev_sotw_delta.proofs.RequestLemmas.{part_by, parts_by, nothing_by, changed, change_parts, connect_parts, among_watched}

-- ---- what lives

and_false : (a b : Bool) → b ≡ false → (a && b) ≡ false
and_false true b h = h
and_false false b h = refl

-- where no row is due, each keeps its status
rows_stay : (world : World) → NothingIsDue world → promoted_rows world.arrivals world.results world.rows ≡ world.rows
rows_stay world none =
    map_same (λ (row : GenRow). record row { status = promoted_status world.arrivals world.results world.rows row }) world.rows
    (λ (row : GenRow) there.
    ap (λ (status : RowStatus). record row { status = status })
    (status_kept (has_successor world.arrivals world.results world.rows row) (is_ready_by world.arrivals world.results row) row.status
    (any_none (λ (other : GenRow). is_row_of row.kind row.name other && is_due world.arrivals world.results other) world.rows
    (λ (other : GenRow) here. and_false (is_row_of row.kind row.name other) (is_due world.arrivals world.results other) (none other here))) (none row there)))

lives_by : (world after : World) → after.rows ≡ world.rows → lives_of after ≡ lives_of world
lives_by world after same = ap (λ (rows : List GenRow). map live_of (filter (λ (row : GenRow). is_live row.status) rows)) same

dead_not_live : (status : RowStatus) (held : Bool) → is_live status ≡ true → is_dead_at status held ≡ false
dead_not_live Warming held h = refl
dead_not_live Active held h = refl
dead_not_live Draining held h = absurd (false≢true h)
dead_not_live Dropped held h = absurd (false≢true h)

-- what goes with a reaping didn't live
left_live : (keeps : GenRow → Bool) → ((row : GenRow) → is_live row.status ≡ true → keeps row ≡ true) → (rows : List GenRow)
    → filter (λ (row : GenRow). is_live row.status) (filter keeps rows) ≡ filter (λ (row : GenRow). is_live row.status) rows
left_live keeps so [] = refl
left_live keeps so (row ∷ rows) = by (keeps row) refl (is_live row.status) refl (left_live keeps so rows)
  where
    by : (k : Bool) → keeps row ≡ k → (l : Bool) → is_live row.status ≡ l
        → filter (λ (r : GenRow). is_live r.status) (filter keeps rows) ≡ filter (λ (r : GenRow). is_live r.status) rows
        → filter (λ (r : GenRow). is_live r.status) (cond k (row ∷ filter keeps rows) (filter keeps rows)) ≡ cond l (row ∷ filter (λ (r : GenRow). is_live r.status) rows) (filter (λ (r : GenRow). is_live r.status) rows)
    by true is l live rest =
        ap (λ b. cond b (row ∷ filter (λ (r : GenRow). is_live r.status) (filter keeps rows)) (filter (λ (r : GenRow). is_live r.status) (filter keeps rows))) live
        ∙ ap (λ (rs : List GenRow). cond l (row ∷ rs) rs) rest
    by false is true live rest = absurd (false≢true (sym is ∙ so row live))
    by false is false live rest = rest

reaped_lives : (format : Format) (world : World) → lives_of (reap format world).0 ≡ lives_of world
reaped_lives format world =
    ap (map live_of) (left_live (λ (row : GenRow). not (is_dead format world row)) (λ row live. ap not (dead_not_live row.status _ live)) world.rows)

-- ---- answers without requests

abbrev Quiet : Answer → Type 0
Quiet answer = (is_moved answer ≡ false) × (requests_in answer ≡ [])

chosen_quiet : (picture : Picture) (choice : Choice) → Quiet (answer_of picture choice)
chosen_quiet picture no_listener = (refl, refl)
chosen_quiet picture no_chain = (refl, refl)
chosen_quiet picture (on listener chain origin course) = (refl, refl)

accepted_quiet : (picture : Picture) (ask : Ask) (worker : ℕ) (opened : List OpenMember) → Quiet (accepted picture ask worker opened).answer
accepted_quiet picture ask worker opened =
    cond_both (is_open opened worker ask.conn) (record { opened = opened; answer = InUse }) (opened_by picture worker ask.conn (choice_of picture ask) opened)
    (λ (worked : Worked). Quiet worked.answer) (λ is. (refl, refl)) (λ isnt. chosen_quiet picture (choice_of picture ask))

closed_quiet : (connection worker : ℕ) (opened : List OpenMember) → Quiet (closed connection worker opened).answer
closed_quiet connection worker opened =
    cond_both (is_open opened worker connection) (record { opened = filter (λ (m : OpenMember). not (is_member worker connection m)) opened; answer = Done }) (record { opened = opened; answer = NotOpen })
    (λ (worked : Worked). Quiet worked.answer) (λ is. (refl, refl)) (λ isnt. (refl, refl))

-- ---- what an event says

module _ (kind : Kind) (by_name : is_by_name kind ≡ true) (name : List ℕ) where
  -- whether the name is asked for after an event with this answer, where it says so
  abbrev pub said : Event → Answer → Option Bool
  said event answer =
      cond (is_connect event && is_moved answer) (Some (is_among name (parts_by true kind (requests_in answer))))
      (cond (is_among name (parts_by true kind (requests_in answer))) (Some true)
      (cond (is_among name (parts_by false kind (requests_in answer))) (Some false) None))

  said_none : (event : Event) (answer : Answer) → is_moved answer ≡ false → requests_in answer ≡ [] → said event answer ≡ None
  said_none event answer not none =
      (λ i. cond (is_connect event && not i) (Some (is_among name (parts_by true kind (none i))))
      (cond (is_among name (parts_by true kind (none i))) (Some true) (cond (is_among name (parts_by false kind (none i))) (Some false) None)))
      ∙ ap (λ b. cond b (Some false) None) (and_false (is_connect event) false refl)

  abbrev watched : World → Bool
  watched world = is_watched (lives_of world) kind name

  turned : (before after said_before : Bool) → said_before ≡ before
      → or_last (cond (after && not before) (Some true) (cond (before && not after) (Some false) None)) said_before ≡ after
  turned true true was is = is
  turned true false was is = refl
  turned false true was is = refl
  turned false false was is = is

  among_names : (world : World) → is_among name (watched_of world kind) ≡ is_watched (lives_of world) kind name
  among_names world = among_watched world kind name

  module _ (format : Format) (world : World) (actor : Actor) (event : Event) (due : NothingIsDue world) (was : Bool) (held : world.stream ≡ true → was ≡ is_watched (lives_of world) kind name)
      (open_before : (is_connect event ≡ true) ⊎ (world.stream ≡ true)) where
    abbrev Says : World × Answer → Type 0
    Says did = did.0.stream ≡ true → or_last (said event did.1) was ≡ is_watched (lives_of did.0) kind name

    before_open : is_connect event ≡ false → world.stream ≡ true
    before_open not = by open_before
      where
        by : (is_connect event ≡ true) ⊎ (world.stream ≡ true) → world.stream ≡ true
        by (inl is) = absurd (false≢true (sym not ∙ is))
        by (inr is) = is

    among_changed : (new : Bool) (after : World) → is_among name (changed new (watched_of world kind) (watched_of after kind))
        ≡ cond new (watched after && not (watched world)) (watched world && not (watched after))
    among_changed true after =
        among_other (watched_of world kind) (watched_of after kind) name ∙ (λ i. among_names after i && not (among_names world i))
    among_changed false after =
        among_other (watched_of after kind) (watched_of world kind) name ∙ (λ i. among_names world i && not (among_names after i))

    -- requests that report a change of what is watched, after a reply or not
    requests_parts : (new : Bool) (after : World) (reply : Option Request) → after.stream ≡ true → parts_by new kind (option_to_list reply) ≡ []
        → is_among name (parts_by new kind (requests_of world after reply)) ≡ cond new (watched after && not (watched world)) (watched world && not (watched after))
    requests_parts new after reply streams none =
        let changes : List Request = changes_asked (watched_of world) (watched_of after) (has_left_clusters world after) after.versions in
        ap (λ b. is_among name (parts_by new kind (option_to_list reply ++ cond b changes []))) streams
        ∙ ap (is_among name) (flat_map-append (part_by new kind) (option_to_list reply) changes
        ∙ (λ i. none i ++ change_parts new kind by_name (watched_of world) (watched_of after) (has_left_clusters world after) after.versions i))
        ∙ among_changed new after

    changes_said : is_connect event ≡ false → (after : World) (answer : Answer) (reply : Option Request) → requests_in answer ≡ requests_of world after reply
        → ((new : Bool) → parts_by new kind (option_to_list reply) ≡ []) → Says (after, answer)
    changes_said not after answer reply are none = λ streams.
        ap (λ told. or_last told was)
        ((λ i. cond (not i && is_moved answer) (Some (is_among name (parts_by true kind (requests_in answer))))
        (cond (is_among name (parts_by true kind (are i))) (Some true) (cond (is_among name (parts_by false kind (are i))) (Some false) None)))
        ∙ (λ i. cond (requests_parts true after reply streams (none true) i) (Some true) (cond (requests_parts false after reply streams (none false) i) (Some false) None)))
        ∙ turned (watched world) (watched after) was (held (before_open not))

    moved_says : is_connect event ≡ false → (after : World) → Says (moved world after)
    moved_says not after = changes_said not (tidy after) (Moved (requests_of world (tidy after) None)) None refl (λ new. refl)

    -- an answer without requests, where what is watched stays
    quiet_says : (after : World) (answer : Answer) → is_moved answer ≡ false → requests_in answer ≡ [] → (after.stream ≡ true → world.stream ≡ true)
        → lives_of after ≡ lives_of world → Says (after, answer)
    quiet_says after answer not none streams same = λ open_after.
        ap (λ told. or_last told was) (said_none event answer not none) ∙ held (streams open_after) ∙ ap (λ lives. is_watched lives kind name) (sym same)

    connected_says : event ≡ Connect → Says (tidy (record world { stream = true }), Moved (connect_requests world))
    connected_says is = λ streams.
        ap (λ told. or_last told was)
        (ap (λ (e : Event). cond (is_connect e && true) (Some (is_among name (parts_by true kind (connect_requests world))))
        (cond (is_among name (parts_by true kind (connect_requests world))) (Some true) (cond (is_among name (parts_by false kind (connect_requests world))) (Some false) None))) is)
        ∙ ap (is_among name) (connect_parts kind by_name world.node (watched_of world) (not (is_clusters world.phase)) world.versions)
        ∙ among_names world
        ∙ ap (λ lives. is_watched lives kind name) (sym (lives_by world (tidy (record world { stream = true })) (rows_stay world due)))

    replied_says : (of : Kind) (response : ResponseParts) → event ≡ Response response → response.kind ≡ Some of
        → Says (answered of response (verdicts_for of (lives_of world) world.versions response) world)
    replied_says of response is typed =
        let verdicts : List Verdict = verdicts_for of (lives_of world) world.versions response in
        let after : World = responded of response verdicts world in
        let reply : Request = reply_of of response verdicts in
        changes_said (ap is_connect is) after (Replied (requests_of world after (Some reply)) verdicts) (Some reply) refl
        (λ new. append-nil (part_by new kind reply) ∙ sym (nothing_by (kind_same of kind) new))

    says : Says (step format world actor event)
    says = step-leads Says format world actor event (record {
      ignored = quiet_says world Ignored refl refl (λ h. h) refl;
      connected = connected_says;
      disconnected = λ is streams. absurd (false≢true streams);
      replied = replied_says;
      resulted = λ cluster host healthy rows is. moved_says (ap is_connect is) (with_results host healthy rows world);
      timed = λ timeout of is named. moved_says (ap is_connect is) (record world { arrivals = world.arrivals ++ arrived world.made timeout.kind TimedOut of ∷ [] });
      clusters_late = λ timeout is. moved_says (ap is_connect is) (record world { late_clusters = true });
      listeners_late = λ timeout is. moved_says (ap is_connect is) (record world { late_listeners = true });
      expired = λ of numbers is. quiet_says (tidy (record world { expired = world.expired ++ numbers })) Done refl refl (λ h. h)
          (lives_by world (tidy (record world { expired = world.expired ++ numbers })) (rows_stay world due));
      ended = λ of ends is bounded. moved_says (ap is_connect is) (with_end of ends (forget_version of ends world));
      unchanged = λ is. quiet_says world Unchanged refl refl (λ h. h) refl;
      published = λ is. quiet_says (record world { pictures = world.pictures ++ shown_of world ∷ [] }) (Version (length world.pictures)) refl refl (λ h. h) refl;
      reaped = λ is. quiet_says (reap format world).0 (reap format world).1 refl refl (λ h. h) (reaped_lives format world);
      accepted = λ ask worker is by.
          quiet_says (accept ask worker world).0 (accept ask worker world).1 (accepted_quiet (picture_held world worker) ask worker world.opened).0
          (accepted_quiet (picture_held world worker) ask worker world.opened).1 (λ h. h) refl;
      closed = λ connection worker is by.
          quiet_says (close connection worker world).0 (close connection worker world).1 (closed_quiet connection worker world.opened).0
          (closed_quiet connection worker world.opened).1 (λ h. h) refl;
      settled = λ worker is by. quiet_says (settle worker world).0 (settle worker world).1 refl refl (λ h. h) refl;
    })

abbrev one_entry : Actor → Event → Entry
one_entry actor event = record { at = 0; step = 0; actor = actor; event = event; answer = Ignored }

-- the stream was open before an event after which it is, where the event isn't a connect
open_or : (actor : Actor) (event : Event) (was : Bool)
    → unwrap_or (last_or None (filter_map (λ (entry : Entry). stream_told entry.event) (one_entry actor event ∷ []))) was ≡ true → (is_connect event ≡ true) ⊎ (was ≡ true)
open_or actor Connect was h = inl refl
open_or actor Disconnect was h = absurd (false≢true h)
open_or actor (Response response) was h = inr h
open_or actor (Health cluster host healthy) was h = inr h
open_or actor (FetchTimeout timeout) was h = inr h
open_or actor (DrainTimeout listener) was h = inr h
open_or actor (TtlExpired of ends) was h = inr h
open_or actor Publish was h = inr h
open_or actor Reap was h = inr h
open_or actor (Accept ask) was h = inr h
open_or actor (Close connection) was h = inr h
open_or actor Settle was h = inr h

-- what an event says of a name, by what was said before it
pub step_says : (kind : Kind) (by_name : is_by_name kind ≡ true) (name : List ℕ) (format : Format) (world : World) (actor : Actor) (event : Event) → NothingIsDue world
    → (was : Bool) → (world.stream ≡ true → was ≡ is_watched (lives_of world) kind name) → (step format world actor event).0.stream ≡ true
    → or_last (said kind by_name name event (step format world actor event).1) was ≡ is_watched (lives_of (step format world actor event).0) kind name
step_says kind by_name name format world actor event due was held streams =
    says kind by_name name format world actor event due was held (open_or actor event world.stream (sym (stream_after format world (one_entry actor event ∷ [])) ∙ streams)) streams

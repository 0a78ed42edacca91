-- A worker's lines, and the world.
use Rattle.std.proofs.Common.{◌≡◌, ℕ, Bool, true, false, Result, Ok, Err, OnOk, OnErr, List, [], ◌∷◌, ◌++◌, Option, None, Some, refl, sym, ap, ◌∙◌}
use Rattle.std.specs.List.{list_any}
use Rattle.std.specs.Option.{option_and_then}
use Rattle.std.proofs.lemmas.List.{append-nil}
use Rattle.ev_types.specs.declared.events.Actor.TheVariants.{Worker as by_worker}
use Rattle.ev_types.specs.declared.events.Event.{Event}
use Rattle.ev_types.specs.declared.events.Event.TheVariants.{Connect, Disconnect, Response, Health, FetchTimeout, DrainTimeout, TtlExpired, Publish, Reap, Accept, Close, Settle}
use Rattle.ev_types.specs.declared.events.Ask.{Ask}
use Rattle.ev_types.specs.declared.journals.Format.{Format}
use Rattle.ev_model.specs.World.{World, OpenMember}
use Rattle.ev_model.specs.Choice.{choice_of}
use Rattle.ev_model.specs.Sorted.{put_by}
use Rattle.ev_model.specs.Dead.{is_open_on, picture_held}
use Rattle.ev_model.specs.Step.{step}
use Rattle.ev_model.specs.Runs.{world_after}
use Rattle.ev_model.specs.Connections.{accept, accepted, close, closed, cluster_numbered, host_at, host_in, is_open, members_of}
use Rattle.ev_model.specs.declared.pictures.Picture.{Picture}
use Rattle.ev_model.specs.declared.pictures.ServedCluster.{ServedCluster}
use Rattle.ev_model.specs.declared.pictures.Choice.{Choice}
use Rattle.ev_model.specs.declared.pictures.Choice.TheVariants.{NoListener, NoChain, On}
use Rattle.ev_snapshot.specs.Chosen.{host_of, placed_host}
use Rattle.ev_ledger.specs.Members.{HasOpened, in_order, member_before}
use Rattle.ev_ledger.proofs.OrderLemmas.{any_put}
use Rattle.ev_worker.specs.Batches.{accepted_as, closed_answer, closed_as, entries_of, outcome_answer}
use Rattle.ev_worker.specs.Members.{chosen_on, on_of}
use Rattle.ev_worker.specs.Workers.{AreAnswered, IsAnswer}
use Rattle.ev_worker.specs.declared.lines.Outcome.{Outcome}
use Rattle.ev_worker.specs.declared.lines.Outcome.TheVariants.{Accepted as by_accept}
use Rattle.ev_worker.specs.declared.lines.BatchLine.{BatchLine}
use Rattle.ev_retirement.specs.Holders.{HoldersParts, HoldsFor}
use Rattle.ev_retirement.specs.Lines.{accept_leaves, event_leaves, lines_leave, opened_on}
use Rattle.ev_retirement.proofs.MoreLemmas.{or_second}

-- a snapshot's host of a cluster and place is the machine's
pub same_host : (picture : Picture) (number place : ℕ) → host_of picture number place ≡ host_at picture number place
same_host picture number place = by (cluster_numbered picture.shown number)
  where
    by : (found : Option ServedCluster) → placed_host found place ≡ option_and_then (host_in place) found
    by None = refl
    by (Some cluster) = refl

-- a choice opens what it opens a connection on
chosen_opens : (worker connection : ℕ) (choice : Choice) (opened : List OpenMember) → is_open opened worker connection ≡ false
    → opened ++ members_of worker connection choice ≡ opened_on worker connection (chosen_on choice) opened
chosen_opens worker connection NoListener opened none = append-nil opened
chosen_opens worker connection NoChain opened none = append-nil opened
chosen_opens worker connection (On listener chain origin course) opened none = simp none refl

accept_opens : (picture : Picture) (ask : Ask) (worker : ℕ) (opened : List OpenMember)
    → (accepted picture ask worker opened).opened ≡ opened_on worker ask.conn (on_of (accepted_as picture ask (is_open opened worker ask.conn))) opened
accept_opens picture ask worker opened = by (is_open opened worker ask.conn) refl
  where
    by : (t : Bool) → is_open opened worker ask.conn ≡ t → (accepted picture ask worker opened).opened ≡ opened_on worker ask.conn (on_of (accepted_as picture ask t)) opened
    by true is = simp is refl
    by false is = simp is (chosen_opens worker ask.conn (choice_of picture ask) opened is)

-- what the machine leaves open after an event of a worker
pub event_opens : (format : Format) (worker : ℕ) (world : World) (event : Event) (outcome : Outcome) → IsAnswer worker world event outcome
    → (step format world (by_worker worker) event).0.opened ≡ event_leaves worker event outcome world.opened
event_opens format worker world (Accept ask) outcome is =
    accept_opens (picture_held world worker) ask worker world.opened ∙ ap (λ o. accept_leaves worker ask.conn o world.opened) (sym is)
event_opens format worker world (Close connection) outcome is = refl
event_opens format worker world Connect outcome is = absurd is
event_opens format worker world Disconnect outcome is = absurd is
event_opens format worker world (Response response) outcome is = absurd is
event_opens format worker world (Health cluster host healthy) outcome is = absurd is
event_opens format worker world (FetchTimeout timeout) outcome is = absurd is
event_opens format worker world (DrainTimeout listener) outcome is = absurd is
event_opens format worker world (TtlExpired kind name) outcome is = absurd is
event_opens format worker world Publish outcome is = absurd is
event_opens format worker world Reap outcome is = absurd is
event_opens format worker world Settle outcome is = absurd is

-- and it leaves the rest
pub event_stands : (format : Format) (worker : ℕ) (holders : HoldersParts) (ledger : List OpenMember) (world : World) (event : Event) (outcome : Outcome)
    → HoldsFor holders world → IsAnswer worker world event outcome → HasOpened ledger (step format world (by_worker worker) event).0.opened
    → HoldsFor (record holders { ledger = ledger }) (step format world (by_worker worker) event).0
event_stands format worker holders ledger world (Accept ask) outcome stands is has = record {
  pictures = record { published = stands.pictures.published; last = stands.pictures.last; held = stands.pictures.held; known = stands.pictures.known };
  opened = has;
  retired = stands.retired;
  marked = stands.marked;
}
event_stands format worker holders ledger world (Close connection) outcome stands is has = record {
  pictures = record { published = stands.pictures.published; last = stands.pictures.last; held = stands.pictures.held; known = stands.pictures.known };
  opened = has;
  retired = stands.retired;
  marked = stands.marked;
}
event_stands format worker holders ledger world Connect outcome stands is has = absurd is
event_stands format worker holders ledger world Disconnect outcome stands is has = absurd is
event_stands format worker holders ledger world (Response response) outcome stands is has = absurd is
event_stands format worker holders ledger world (Health cluster host healthy) outcome stands is has = absurd is
event_stands format worker holders ledger world (FetchTimeout timeout) outcome stands is has = absurd is
event_stands format worker holders ledger world (DrainTimeout listener) outcome stands is has = absurd is
event_stands format worker holders ledger world (TtlExpired kind name) outcome stands is has = absurd is
event_stands format worker holders ledger world Publish outcome stands is has = absurd is
event_stands format worker holders ledger world Reap outcome stands is has = absurd is
event_stands format worker holders ledger world Settle outcome stands is has = absurd is

-- a world with other connections
opened_stands : (holders : HoldersParts) (ledger opened : List OpenMember) (world : World) → HoldsFor holders world → HasOpened ledger opened
    → HoldsFor (record holders { ledger = ledger }) (record world { opened = opened })
opened_stands holders ledger opened world stands has = record {
  pictures = record { published = stands.pictures.published; last = stands.pictures.last; held = stands.pictures.held; known = stands.pictures.known };
  opened = has;
  retired = stands.retired;
  marked = stands.marked;
}

-- an accept that is made once more, by how the machine answers it
pub accept_stands : (ask : Ask) (worker : ℕ) (holders : HoldersParts) (ledger : List OpenMember) (world : World) → HoldsFor holders world
    → HasOpened ledger (accept_leaves worker ask.conn (by_accept (accepted_as (picture_held world worker) ask (is_open world.opened worker ask.conn))) world.opened)
    → HoldsFor (record holders { ledger = ledger }) (accept ask worker world).0
accept_stands ask worker holders ledger world stands has =
    let opens : (accepted (picture_held world worker) ask worker world.opened).opened
    ≡ accept_leaves worker ask.conn (by_accept (accepted_as (picture_held world worker) ask (is_open world.opened worker ask.conn))) world.opened =
    accept_opens (picture_held world worker) ask worker world.opened in
    opened_stands holders ledger (accepted (picture_held world worker) ask worker world.opened).opened world stands (has ∙ ap in_order (sym opens))

-- how the machine answers it, and a close
pub accept_answers : (picture : Picture) (ask : Ask) (worker : ℕ) (opened : List OpenMember)
    → outcome_answer picture (by_accept (accepted_as picture ask (is_open opened worker ask.conn))) ≡ (accepted picture ask worker opened).answer
accept_answers picture ask worker opened = by (is_open opened worker ask.conn) refl
  where
    by : (t : Bool) → is_open opened worker ask.conn ≡ t → outcome_answer picture (by_accept (accepted_as picture ask t)) ≡ (accepted picture ask worker opened).answer
    by true is = simp is refl
    by false is = simp is refl

pub close_answers : (connection worker : ℕ) (opened : List OpenMember)
    → closed_answer (closed_as (is_open opened worker connection)) ≡ (closed connection worker opened).answer
close_answers connection worker opened = by (is_open opened worker connection) refl
  where
    by : (t : Bool) → is_open opened worker connection ≡ t → closed_answer (closed_as t) ≡ (closed connection worker opened).answer
    by true is = simp is refl
    by false is = simp is refl

-- a close that is made once more
pub close_stands : (connection worker : ℕ) (holders : HoldersParts) (ledger : List OpenMember) (world : World) → HoldsFor holders world
    → HasOpened ledger (closed connection worker world.opened).opened → HoldsFor (record holders { ledger = ledger }) (close connection worker world).0
close_stands connection worker holders ledger world stands has = opened_stands holders ledger (closed connection worker world.opened).opened world stands has

-- a whole batch
pub lines_stand : (format : Format) (worker : ℕ) (picture : Picture) (lines : List BatchLine) (holders : HoldersParts) (ledger : List OpenMember) (world : World)
    → HoldsFor holders world → AreAnswered format worker world lines → HasOpened ledger (lines_leave worker lines world.opened)
    → HoldsFor (record holders { ledger = ledger }) (world_after format world (entries_of worker picture lines))
lines_stand format worker picture [] holders ledger world stands all has = record { pictures = stands.pictures; opened = has; retired = stands.retired; marked = stands.marked }
lines_stand format worker picture (line ∷ lines) holders ledger world stands all has =
    let after : World = (step format world (by_worker worker) line.event).0 in
    let opens : after.opened ≡ event_leaves worker line.event line.outcome world.opened = event_opens format worker world line.event line.outcome all.0 in
    lines_stand format worker picture lines (record holders { ledger = in_order after.opened }) ledger after
    (event_stands format worker holders (in_order after.opened) world line.event line.outcome stands all.0 refl) all.1
    (has ∙ ap (λ opened. in_order (lines_leave worker lines opened)) (sym opens))

-- one line more
pub record Leads (worker : ℕ) (now : List OpenMember) (left lines : List BatchLine) (opened : List OpenMember) : Type 0 where
  pub between : List OpenMember
  pub has : HasOpened now between
  pub leads : lines_leave worker left between ≡ lines_leave worker lines opened

-- a connection that opens leaves the others open
pub open_kept : {T E : Type 0} (result : Result T E) (member : OpenMember) (before after : List OpenMember) → OnOk result (after ≡ put_by member_before member before)
    → OnErr result (after ≡ before) → (number : ℕ) → list_any (is_open_on number) before ≡ true → list_any (is_open_on number) after ≡ true
open_kept (Ok value) member before after is same number on =
    ap (list_any (is_open_on number)) is ∙ any_put member_before (is_open_on number) member before ∙ or_second (is_open_on number member) (list_any (is_open_on number) before) on
open_kept (Err error) member before after is same number on = ap (list_any (is_open_on number)) same ∙ on

-- Each entry of a run that keeps what its types keep has a row:
-- the machine answers each operation with an answer that it may have.
use Rattle.std.proofs.Common.{◌≡◌, ℕ, Bool, true, false, not, ◌||◌, cond, List, [], ◌∷◌, filter, Option, Some, None, is_some, refl, ap, ◌∙◌}
use Rattle.std.proofs.lemmas.Bool.{cond_both}
use Rattle.ev_types.specs.Events.{MayMake, op_of}
use Rattle.ev_types.specs.Items.{ResponseParts}
use Rattle.ev_types.specs.declared.hosts.Host.{Host}
use Rattle.ev_types.specs.declared.contents.Kind.{Kind}
use Rattle.ev_types.specs.declared.contents.Kind.TheVariants.{Cds, Eds, Lds, Rds, Sds, Ecds}
use Rattle.ev_types.specs.declared.events.Actor.{Actor}
use Rattle.ev_types.specs.declared.events.Actor.TheVariants.{Stream, Health as health_checker, Timer, Main, Worker}
use Rattle.ev_types.specs.declared.events.Answer.{Answer}
use Rattle.ev_types.specs.declared.events.Answer.TheVariants.{InUse, NotOpen, Done as done}
use Rattle.ev_types.specs.declared.events.Ask.{Ask}
use Rattle.ev_types.specs.declared.events.Entry.{Entry}
use Rattle.ev_types.specs.declared.events.Event.{Event}
use Rattle.ev_types.specs.declared.events.Event.TheVariants.{Connect, Disconnect, Response, Health, FetchTimeout, DrainTimeout, TtlExpired, Publish, Reap, Accept, Close, Settle}
use Rattle.ev_types.specs.declared.events.Op.{Op}
use Rattle.ev_types.specs.declared.events.Op.TheVariants.{Accept as to_accept, Response as to_respond, Health as to_check, FetchTimeout as to_time_out, DrainTimeout as to_drain}
use Rattle.ev_types.specs.declared.journals.Format.{Format}
use Rattle.ev_types.specs.declared.rows.GenRow.{GenRow}
use Rattle.ev_model.specs.declared.pictures.Picture.{Picture}
use Rattle.ev_model.specs.declared.pictures.Choice.{Choice}
use Rattle.ev_model.specs.declared.pictures.Choice.TheVariants.{NoListener, NoChain, On}
use Rattle.ev_model.specs.World.{World, OpenMember, last_version}
use Rattle.ev_model.specs.Choice.{choice_of}
use Rattle.ev_model.specs.Connections.{Worked, is_member, is_open, answer_of, opened_by, accepted}
use Rattle.ev_model.specs.Dead.{picture_held, shown_at}
use Rattle.ev_model.specs.Picture.{shown_of, shown_same}
use Rattle.ev_model.specs.Versions.{is_bounded}
use Rattle.ev_model.specs.Phase.{is_clusters}
use Rattle.ev_model.specs.Runs.{RunsFrom}
use Rattle.ev_model.specs.Signals.{rows_meant, health_of, is_awaited, name_timeout_of, fetch_timeout, unexpired, expire}
use Rattle.ev_model.specs.Step.{step, respond_by}
use Rattle.ev_journal.specs.Rendering.{entry_row}
use Rattle.ev_journal.specs.Rows.{IsRow, KeepsBounds, is_answered_with}
use Rattle.ev_journal_read.proofs.EachLemmas.{All-first, All-rest, All-none, All-more}
use Rattle.ev_journal_read.specs.OneJournal.{AreBounded, HaveRows, RunsHaveRows}

-- the operation may have this answer
abbrev MayHave : Op → Answer → Type 0
MayHave op answer = is_answered_with op answer ≡ true

either : (op : Op) (test : Bool) (this that : World × Answer) → MayHave op this.1 → MayHave op that.1 → MayHave op (cond test this that).1
either op true this that holds other = holds
either op false this that holds other = other

to_response : (kind : Option Kind) (response : ResponseParts) (world : World) → MayHave to_respond (respond_by kind response world).1
to_response None response world = refl
to_response (Some kind) response world = refl

to_result : (host : Host) (healthy : Bool) (rows : List GenRow) (world : World) → MayHave to_check (health_of host healthy rows world).1
to_result host healthy [] world = refl
to_result host healthy (row ∷ rows) world = refl

to_name : (kind : Kind) (name : Option (List ℕ)) (world : World) → MayHave to_time_out (name_timeout_of kind name world).1
to_name kind None world = refl
to_name kind (Some name) world = either to_time_out (is_awaited world.arrivals world.rows kind name) _ _ refl refl

to_timeout : (kind : Kind) (name : Option (List ℕ)) (world : World) → MayHave to_time_out (fetch_timeout kind name world).1
to_timeout Cds name world = either to_time_out (is_some world.first_clusters || world.late_clusters) _ _ refl refl
to_timeout Eds name world = to_name Eds name world
to_timeout Lds name world = either to_time_out (is_clusters world.phase || (is_some world.first_listeners || world.late_listeners)) _ _ refl refl
to_timeout Rds name world = to_name Rds name world
to_timeout Sds name world = to_name Sds name world
to_timeout Ecds name world = to_name Ecds name world

to_expiry : (numbers : List ℕ) (world : World) → MayHave to_drain (expire numbers world).1
to_expiry [] world = refl
to_expiry (number ∷ numbers) world = refl

to_choice : (picture : Picture) (choice : Choice) → MayHave to_accept (answer_of picture choice)
to_choice picture NoListener = refl
to_choice picture NoChain = refl
to_choice picture (On listener chain origin way) = refl

to_ask : (picture : Picture) (ask : Ask) (worker : ℕ) (opened : List OpenMember) → MayHave to_accept (accepted picture ask worker opened).answer
to_ask picture ask worker opened =
    cond_both (is_open opened worker ask.conn) (record { opened = opened; answer = InUse })
    (opened_by picture worker ask.conn (choice_of picture ask) opened)
    (λ (worked : Worked). MayHave to_accept worked.answer) (λ is. refl) (λ new. to_choice picture (choice_of picture ask))

-- the machine's answer to an event of an actor that may make it
answered : (format : Format) (workers : ℕ) (world : World) (actor : Actor) (event : Event) → MayMake workers actor event
    → MayHave (op_of event) (step format world actor event).1
answered format workers world actor Connect may = either (op_of Connect) world.stream _ _ refl refl
answered format workers world actor Disconnect may = either (op_of Disconnect) world.stream _ _ refl refl
answered format workers world actor (Response response) may = either to_respond world.stream _ _ (to_response response.kind response world) refl
answered format workers world actor (Health cluster host healthy) may = to_result host healthy (rows_meant world.arrivals cluster host world.rows) world
answered format workers world actor (FetchTimeout timeout) may = to_timeout timeout.kind timeout.name world
answered format workers world actor (DrainTimeout listener) may = to_expiry (unexpired world.expired listener world.rows) world
answered format workers world actor (TtlExpired kind name) may = either (op_of (TtlExpired kind name)) (is_bounded world.versions kind name) _ _ refl refl
answered format workers world actor Publish may = either (op_of Publish) (shown_same (shown_of world) (shown_at world (last_version world))) _ _ refl refl
answered format workers world actor Reap may = refl
answered format workers world (Worker worker) (Accept ask) may = to_ask (picture_held world worker) ask worker world.opened
answered format workers world Stream (Accept ask) may = absurd may
answered format workers world health_checker (Accept ask) may = absurd may
answered format workers world Timer (Accept ask) may = absurd may
answered format workers world Main (Accept ask) may = absurd may
answered format workers world (Worker worker) (Close connection) may =
    cond_both (is_open world.opened worker connection)
    (record { opened = filter (λ (m : OpenMember). not (is_member worker connection m)) world.opened; answer = done })
    (record { opened = world.opened; answer = NotOpen })
    (λ (worked : Worked). MayHave (op_of (Close connection)) worked.answer) (λ is. refl) (λ new. refl)
answered format workers world Stream (Close connection) may = absurd may
answered format workers world health_checker (Close connection) may = absurd may
answered format workers world Timer (Close connection) may = absurd may
answered format workers world Main (Close connection) may = absurd may
answered format workers world (Worker worker) Settle may = refl
answered format workers world Stream Settle may = absurd may
answered format workers world health_checker Settle may = absurd may
answered format workers world Timer Settle may = absurd may
answered format workers world Main Settle may = absurd may

abbrev HasRow : Entry → Type 0
HasRow entry = IsRow (entry_row entry)

abbrev IsWithin : Entry → Type 0
IsWithin entry = KeepsBounds (entry_row entry)

has_row : (entry : Entry) → IsWithin entry → MayHave (op_of entry.event) entry.answer → HasRow entry
has_row entry kept may = record { actor = kept.actor; at = kept.at; step = kept.step; answer = kept.answer; answered = may; utf8 = kept.utf8 }

rows_from : (format : Format) (workers : ℕ) (world : World) (journal : List Entry) → RunsFrom format workers world journal → AreBounded journal → HaveRows journal
rows_from format workers world [] runs kept = All-none HasRow
rows_from format workers world (entry ∷ entries) runs kept =
    All-more HasRow entry entries
    (has_row entry (All-first IsWithin entry entries kept)
    (ap (is_answered_with (op_of entry.event)) runs.1 ∙ answered format workers world entry.actor entry.event runs.0))
    (rows_from format workers (step format world entry.actor entry.event).0 entries runs.2 (All-rest IsWithin entry entries kept))

pub have_rows : RunsHaveRows
have_rows format workers node journal run kept = rows_from format workers _ journal run.answers kept

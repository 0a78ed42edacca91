-- An actor of the main side begins, and goes on by an entry.
use Rattle.std.proofs.Common.{◌≡◌, ℕ, ◌+◌, ◌<◌, ◌≤◌, List, [], ◌∷◌, ◌++◌, refl, ap, ◌∙◌, subst, arith}
use Rattle.ev_types.specs.Events.{IsMainSide, IsStream, MayMake}
use Rattle.ev_types.specs.Scripts.{ScriptParts, items_in}
use Rattle.ev_types.specs.declared.events.Actor.{Actor}
use Rattle.ev_types.specs.declared.events.Actor.TheVariants.{Stream, Health, Timer, Main, Worker}
use Rattle.ev_types.specs.declared.events.Entry.{Entry}
use Rattle.ev_types.specs.declared.events.Event.{Event}
use Rattle.ev_types.specs.declared.events.Event.TheVariants.{Connect, Disconnect, Response, Health as health, FetchTimeout, DrainTimeout, TtlExpired, Publish, Reap, Accept, Close, Settle}
use Rattle.ev_types.specs.declared.journals.Format.{Format}
use Rattle.ev_model.specs.World.{World}
use Rattle.ev_model.specs.Step.{step}
use Rattle.ev_model.specs.Runs.{RunsFrom, world_after}
use Rattle.ev_model.specs.Operations.{Deed, Operation, deeds_from, entry_of, operation_of, operations_of}
use Rattle.ev_model_laws.proofs.DeedLemmas.{rest_after}
use Rattle.ev_model_laws.proofs.RunNumberLemmas.{rest_made}
use Rattle.ev_actors.specs.Journals.{JournalParts, SufficeFor, world_now}
use Rattle.ev_actors.proofs.SettleLemmas.{world_with}
use Rattle.ev_commits.specs.Commits.{AreElsewhere, GrowsByOthers, seat_of}
use Rattle.ev_commits.specs.Seen.{HasActed}
use Rattle.ev_run.specs.Left.{SufficeForAll, deeds_in, items_left}
use Rattle.ev_run.specs.Acting.{HasEnded, HasNews, IsActing}
use Rattle.ev_run.proofs.FitLemmas.{all_own, deeds_with, fits_ended, fits_more, fits_stays, own_deeds}

-- what another than the stream makes brings no resources
pub none_brought : (workers : ℕ) (actor : Actor) (event : Event) → MayMake workers actor event → (IsStream actor → ⊥) → items_in event ≡ 0
none_brought workers actor Connect may apart = refl
none_brought workers actor Disconnect may apart = refl
none_brought workers actor (Response response) may apart = absurd (apart may)
none_brought workers actor (health cluster host healthy) may apart = refl
none_brought workers actor (FetchTimeout timeout) may apart = refl
none_brought workers actor (DrainTimeout listener) may apart = refl
none_brought workers actor (TtlExpired kind name) may apart = refl
none_brought workers actor Publish may apart = refl
none_brought workers actor Reap may apart = refl
none_brought workers actor (Accept ask) may apart = refl
none_brought workers actor (Close connection) may apart = refl
none_brought workers actor Settle may apart = refl

stream_seat : (actor : Actor) → IsStream actor → seat_of actor ≡ 0
stream_seat Stream is = refl
stream_seat Health is = absurd is
stream_seat Timer is = absurd is
stream_seat Main is = absurd is
stream_seat (Worker worker) is = absurd is

-- entries of others than the stream draw no numbers
others_draw : (format : Format) (workers : ℕ) (world : World) (entries : List Entry) → AreElsewhere 0 entries → RunsFrom format workers world entries
    → (world_after format world entries).made ≡ world.made
others_draw format workers world [] others runs = refl
others_draw format workers world (entry ∷ entries) others runs =
    others_draw format workers (step format world entry.actor entry.event).0 entries others.1 runs.2
    ∙ rest_made format world entry.actor entry.event
    (none_brought workers entry.actor entry.event runs.0 (λ stream. others.0 (stream_seat entry.actor stream)))

still_drawn : (actor : Actor) (before turn : JournalParts) → IsStream actor → GrowsByOthers (seat_of actor) before turn
    → (world_now turn).made ≡ (world_now before).made
still_drawn actor before turn stream grows =
    ap (λ (w : World). w.made) (world_with before turn grows.more grows.grown)
    ∙ others_draw before.format before.workers (world_now before) grows.more
    (subst (λ n. AreElsewhere n grows.more) (stream_seat actor stream) grows.others) grows.runs

-- an entry of the actor's own
entered_deeds : (actor : Actor) (o : Operation) (turn after : JournalParts) (entry : Entry) → o.actor ≡ actor → operation_of entry ≡ o
    → deeds_in after actor ≡ deeds_in turn actor ++ own_deeds actor (deeds_from turn.format (world_now turn) (entry ∷ []))
    → deeds_in after actor ≡ deeds_in turn actor ++ deeds_from turn.format (world_now turn) (entry ∷ [])
entered_deeds actor o turn after entry own is deeds =
    deeds ∙ ap (λ (ds : List Deed). deeds_in turn actor ++ ds)
    (all_own actor turn.format (world_now turn) (entry ∷ []) (ap (λ (p : Operation). p.actor) is ∙ own, tt))

-- the actor goes on by an entry
pub acts : (script : ScriptParts) (actor : Actor) (o : Operation) (left : List Operation) (before after : JournalParts)
    → IsActing script actor (o ∷ left) before → HasActed o before after → IsActing script actor left after
acts script actor o left before after was acted =
    let own : o.actor ≡ actor = was.own.0.0 in
    let turn : JournalParts = acted.turn in
    let grows : GrowsByOthers (seat_of actor) before turn = subst (λ a. GrowsByOthers (seat_of a) before turn) own acted.grows in
    let entry : Entry = entry_of o acted.entered.answer in
    let new : List Deed = deeds_from turn.format (world_now turn) (entry ∷ []) in
    record {
      own = was.own.1;
      suffice = λ stream.
          let had : (world_now before).made + (items_in o.event + items_left left) < 4294967296 = was.suffice stream in
          let same : (world_now turn).made ≡ (world_now before).made = still_drawn actor before turn stream grows in
          let drawn : (world_now after).made ≤ (world_now turn).made + items_in o.event = acted.entered.drawn in
          omega arith;
      rests = rest_after was.rests new;
      fits =
          fits_more (operations_of script actor) actor was.rests left turn after new
          (entered_deeds actor o turn after entry own refl (deeds_with actor turn after (entry ∷ []) acted.entered.entered))
          (fits_stays (operations_of script actor) actor was.rests (o ∷ left) before turn grows was.fits);
    }

-- what it may do next
pub suffices : (workers : ℕ) (actor : Actor) (o : Operation) (left : List Operation) (parts : JournalParts) → MayMake workers actor o.event
    → SufficeForAll actor (o ∷ left) parts → SufficeFor o.event parts
suffices workers Stream o left parts may suffice = λ some.
    let all : (world_now parts).made + (items_in o.event + items_left left) < 4294967296 = suffice tt in
    omega arith
suffices workers Health o left parts may suffice = λ some. let none : items_in o.event ≡ 0 = none_brought workers Health o.event may (λ is. is) in omega arith
suffices workers Timer o left parts may suffice = λ some. let none : items_in o.event ≡ 0 = none_brought workers Timer o.event may (λ is. is) in omega arith
suffices workers Main o left parts may suffice = λ some. let none : items_in o.event ≡ 0 = none_brought workers Main o.event may (λ is. is) in omega arith
suffices workers (Worker worker) o left parts may suffice = λ some. let none : items_in o.event ≡ 0 = none_brought workers (Worker worker) o.event may (λ is. is) in omega arith

no_news : (actor : Actor) (parts : JournalParts) → IsMainSide actor → HasNews actor parts
no_news Stream parts main = tt
no_news Health parts main = tt
no_news Timer parts main = tt
no_news Main parts main = tt
no_news (Worker worker) parts main = absurd main

-- and with nothing left it has done all
pub acts_ended : (script : ScriptParts) (actor : Actor) (parts : JournalParts) → IsMainSide actor → IsActing script actor [] parts → HasEnded script actor parts
acts_ended script actor parts main acting = record { done = fits_ended (operations_of script actor) actor acting.rests parts acting.fits; news = no_news actor parts main }

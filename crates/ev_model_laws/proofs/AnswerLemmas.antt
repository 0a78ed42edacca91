-- How events are answered, but publications, reapings and settles.
use Rattle.std.proofs.Common.{◌≡◌, ℕ, Bool, true, false, not, ◌||◌, cond, List, [], ◌∷◌, filter, Option, Some, None, is_some}
use Rattle.std.proofs.lemmas.Bool.{false≢true, cond_both}
use Rattle.ev_types.specs.Items.{ResponseParts}
use Rattle.ev_types.specs.declared.hosts.Host.{Host}
use Rattle.ev_types.specs.declared.contents.Kind.{Kind}
use Rattle.ev_types.specs.declared.contents.Kind.TheVariants.{Cds, Eds, Lds, Rds, Sds, Ecds}
use Rattle.ev_types.specs.declared.contents.Request.{Request}
use Rattle.ev_types.specs.declared.events.Actor.{Actor}
use Rattle.ev_types.specs.declared.events.Event.{Event}
use Rattle.ev_types.specs.declared.events.Event.TheVariants.{Connect, Disconnect, Response, Health, FetchTimeout, DrainTimeout, TtlExpired, Publish, Reap, Accept, Close, Settle}
use Rattle.ev_types.specs.declared.events.Answer.{Answer}
use Rattle.ev_types.specs.declared.events.Ask.{Ask}
use Rattle.ev_types.specs.declared.events.Answer.TheVariants.{Ignored, Done, Moved, Replied, InUse, NotOpen, NoListener as no_listener, NoChain as no_chain, On as on}
use Rattle.ev_types.specs.declared.events.Verdict.{Verdict}
use Rattle.ev_types.specs.declared.journals.Format.{Format}
use Rattle.ev_types.specs.declared.rows.GenRow.{GenRow}
use Rattle.ev_model.specs.declared.pictures.Picture.{Picture}
use Rattle.ev_model.specs.declared.pictures.Choice.{Choice}
use Rattle.ev_model.specs.declared.pictures.Choice.TheVariants.{NoListener, NoChain, On}
use Rattle.ev_model.specs.World.{World, OpenMember}
use Rattle.ev_model.specs.Choice.{choice_of}
use Rattle.ev_model.specs.Connections.{Worked, is_member, is_open, way_of, answer_of, opened_by, accepted, closed}
use Rattle.ev_model.specs.Versions.{is_bounded}
use Rattle.ev_model.specs.Phase.{is_clusters}
use Rattle.ev_model.specs.Signals.{rows_meant, health_of, is_awaited, name_timeout_of, fetch_timeout, unexpired, expire}
use Rattle.ev_model.specs.Step.{step, respond_by}
use Rattle.ev_model_laws.proofs.KeepLemmas.{is_for_managers}
use Rattle.ev_types.specs.declared.origins.ChainPlace.{ChainPlace}
use Rattle.ev_types.specs.declared.ways.Way.{Way}

-- each answer of the managers has the fact
pub record HoldsOfManaged (Q : Answer → Type 0) : Type 0 where
  pub ignored : Q Ignored
  pub done : Q Done
  pub moved : (requests : List Request) → Q (Moved requests)
  pub replied : (requests : List Request) (verdicts : List Verdict) → Q (Replied requests verdicts)

-- and each answer of an accept and of a close
pub record HoldsOfAnswers (Q : Answer → Type 0) : Type 0 where
  pub managed : HoldsOfManaged Q
  pub in_use : Q InUse
  pub not_open : Q NotOpen
  pub no_listener : Q no_listener
  pub no_chain : Q no_chain
  pub on : (listener : ℕ) (chain : Option ChainPlace) (way : Way Host) → Q (on listener chain way)

module _ (Q : Answer → Type 0) (each : HoldsOfManaged Q) where
  either_answer : (test : Bool) (this that : World × Answer) → Q this.1 → Q that.1 → Q (cond test this that).1
  either_answer true this that holds other = holds
  either_answer false this that holds other = other

  respond_answer : (kind : Option Kind) (response : ResponseParts) (world : World) → Q (respond_by kind response world).1
  respond_answer None response world = each.ignored
  respond_answer (Some kind) response world = each.replied _ _

  health_answer : (host : Host) (healthy : Bool) (rows : List GenRow) (world : World) → Q (health_of host healthy rows world).1
  health_answer host healthy [] world = each.ignored
  health_answer host healthy (row ∷ rows) world = each.moved _

  name_answer : (kind : Kind) (name : Option (List ℕ)) (world : World) → Q (name_timeout_of kind name world).1
  name_answer kind None world = each.ignored
  name_answer kind (Some name) world = either_answer (is_awaited world.arrivals world.rows kind name) _ _ (each.moved _) each.ignored

  timeout_answer : (kind : Kind) (name : Option (List ℕ)) (world : World) → Q (fetch_timeout kind name world).1
  timeout_answer Cds name world = either_answer (is_some world.first_clusters || world.late_clusters) _ _ each.ignored (each.moved _)
  timeout_answer Eds name world = name_answer Eds name world
  timeout_answer Lds name world =
      either_answer (is_clusters world.phase || (is_some world.first_listeners || world.late_listeners)) _ _ each.ignored (each.moved _)
  timeout_answer Rds name world = name_answer Rds name world
  timeout_answer Sds name world = name_answer Sds name world
  timeout_answer Ecds name world = name_answer Ecds name world

  expire_answer : (numbers : List ℕ) (world : World) → Q (expire numbers world).1
  expire_answer [] world = each.ignored
  expire_answer (number ∷ numbers) world = each.done

  -- so the managers' answer has it
  pub managed_answer : (format : Format) (world : World) (actor : Actor) (event : Event) → is_for_managers event ≡ true
      → Q (step format world actor event).1
  managed_answer format world actor Connect is = either_answer world.stream _ _ each.ignored (each.moved _)
  managed_answer format world actor Disconnect is = either_answer world.stream _ _ each.done each.ignored
  managed_answer format world actor (Response response) is = either_answer world.stream _ _ (respond_answer response.kind response world) each.ignored
  managed_answer format world actor (Health cluster host healthy) is =
      health_answer host healthy (rows_meant world.arrivals cluster host world.rows) world
  managed_answer format world actor (FetchTimeout timeout) is = timeout_answer timeout.kind timeout.name world
  managed_answer format world actor (DrainTimeout listener) is = expire_answer (unexpired world.expired listener world.rows) world
  managed_answer format world actor (TtlExpired kind name) is = either_answer (is_bounded world.versions kind name) _ _ (each.moved _) each.ignored
  managed_answer format world actor Publish is = absurd (false≢true is)
  managed_answer format world actor Reap is = absurd (false≢true is)
  managed_answer format world actor (Accept ask) is = absurd (false≢true is)
  managed_answer format world actor (Close connection) is = absurd (false≢true is)
  managed_answer format world actor Settle is = absurd (false≢true is)

module _ (Q : Answer → Type 0) (each : HoldsOfAnswers Q) where
  choice_answer : (picture : Picture) (choice : Choice) → Q (answer_of picture choice)
  choice_answer picture NoListener = each.no_listener
  choice_answer picture NoChain = each.no_chain
  choice_answer picture (On listener chain origin course) = each.on listener chain (way_of picture course)

  -- the answer to an accept has it
  pub accepted_answer : (picture : Picture) (ask : Ask) (worker : ℕ) (opened : List OpenMember) → Q (accepted picture ask worker opened).answer
  accepted_answer picture ask worker opened =
      cond_both (is_open opened worker ask.conn) (record { opened = opened; answer = InUse })
      (opened_by picture worker ask.conn (choice_of picture ask) opened)
      (λ (worked : Worked). Q worked.answer) (λ is. each.in_use) (λ new. choice_answer picture (choice_of picture ask))

  -- and that to a close
  pub closed_answer : (connection worker : ℕ) (opened : List OpenMember) → Q (closed connection worker opened).answer
  closed_answer connection worker opened =
      cond_both (is_open opened worker connection)
      (record { opened = filter (λ (m : OpenMember). not (is_member worker connection m)) opened; answer = Done })
      (record { opened = opened; answer = NotOpen })
      (λ (worked : Worked). Q worked.answer) (λ is. each.managed.done) (λ none. each.not_open)

-- What each event leads to: the world as it was, or one that is tidied, or what publications,
-- reapings and workers make of it.
use Rattle.std.proofs.Common.{◌≡◌, ℕ, ◌||◌, Bool, true, false, List, [], ◌∷◌, ◌++◌, length, Option, Some, None, refl, sym, ap, subst}
use Rattle.std.specs.Prelude.{is_some}
use Rattle.std.proofs.lemmas.Bool.{cond_both}
use Rattle.ev_types.specs.Items.{ResponseParts}
use Rattle.ev_types.specs.Timeouts.{TimeoutParts}
use Rattle.ev_types.specs.declared.contents.Kind.{Kind}
use Rattle.ev_types.specs.declared.contents.Kind.TheVariants.{Cds, Eds, Lds, Rds, Sds, Ecds}
use Rattle.ev_types.specs.declared.hosts.Host.{Host}
use Rattle.ev_types.specs.declared.rows.Arrival.TheVariants.{TimedOut}
use Rattle.ev_types.specs.declared.rows.GenRow.{GenRow}
use Rattle.ev_types.specs.declared.journals.Format.{Format}
use Rattle.ev_types.specs.declared.events.Actor.{Actor}
use Rattle.ev_types.specs.declared.events.Actor.TheVariants.{Worker}
use Rattle.ev_types.specs.declared.events.Answer.{Answer}
use Rattle.ev_types.specs.declared.events.Answer.TheVariants.{Ignored, Done, Moved, Unchanged, Version}
use Rattle.ev_types.specs.declared.events.Ask.{Ask}
use Rattle.ev_types.specs.declared.events.Event.{Event}
use Rattle.ev_types.specs.declared.events.Event.TheVariants.{Connect, Disconnect, Response, Health, FetchTimeout, DrainTimeout, TtlExpired, Publish, Reap, Accept, Close, Settle}
use Rattle.ev_types.specs.declared.events.Verdict.{Verdict}
use Rattle.ev_model.specs.World.{World, last_version}
use Rattle.ev_model.specs.Live.{lives_of}
use Rattle.ev_model.specs.Verdicts.{verdicts_for, verdicts_by}
use Rattle.ev_model.specs.Versions.{is_bounded}
use Rattle.ev_model.specs.Rows.{arrived}
use Rattle.ev_model.specs.Tidy.{tidy}
use Rattle.ev_model.specs.Phase.{is_clusters}
use Rattle.ev_model.specs.Requests.{connect_requests}
use Rattle.ev_model.specs.Picture.{shown_of, shown_same}
use Rattle.ev_model.specs.Dead.{shown_at}
use Rattle.ev_model.specs.Signals.{moved, with_results, health_of, rows_meant, is_awaited, name_timeout_of, fetch_timeout, unexpired, expire, with_end, forget_version}
use Rattle.ev_model.specs.Publishing.{reap}
use Rattle.ev_model.specs.Connections.{accept, close, settle}
use Rattle.ev_model.specs.Step.{answered, respond_by, step}
use Rattle.ev_model_laws.proofs.KeepLemmas.{of_worker-keeps}

-- what each event may have done has the fact
pub record LeadsEach (Q : World × Answer → Type 0) (format : Format) (world : World) (actor : Actor) (event : Event) : Type 0 where
  pub ignored : Q (world, Ignored)
  pub connected : event ≡ Connect → Q (tidy (record world { stream = true }), Moved (connect_requests world))
  pub disconnected : event ≡ Disconnect → Q (tidy (record world { stream = false }), Done)
  pub replied : (kind : Kind) (response : ResponseParts) → event ≡ Response response → response.kind ≡ Some kind
      → Q (answered kind response (verdicts_for kind (lives_of world) world.versions response) world)
  pub resulted : (cluster : List ℕ) (host : Host) (healthy : Bool) (rows : List GenRow) → event ≡ Health cluster host healthy
      → Q (moved world (with_results host healthy rows world))
  pub timed : (timeout : TimeoutParts) (name : List ℕ) → event ≡ FetchTimeout timeout → timeout.name ≡ Some name
      → Q (moved world (record world { arrivals = world.arrivals ++ arrived world.made timeout.kind TimedOut name ∷ [] }))
  pub clusters_late : (timeout : TimeoutParts) → event ≡ FetchTimeout timeout → Q (moved world (record world { late_clusters = true }))
  pub listeners_late : (timeout : TimeoutParts) → event ≡ FetchTimeout timeout → Q (moved world (record world { late_listeners = true }))
  pub expired : (name : List ℕ) (numbers : List ℕ) → event ≡ DrainTimeout name → Q (tidy (record world { expired = world.expired ++ numbers }), Done)
  pub ended : (kind : Kind) (name : List ℕ) → event ≡ TtlExpired kind name → is_bounded world.versions kind name ≡ true
      → Q (moved world (with_end kind name (forget_version kind name world)))
  pub unchanged : event ≡ Publish → Q (world, Unchanged)
  pub published : event ≡ Publish → Q (record world { pictures = world.pictures ++ shown_of world ∷ [] }, Version (length world.pictures))
  pub reaped : event ≡ Reap → Q (reap format world)
  pub accepted : (ask : Ask) (worker : ℕ) → event ≡ Accept ask → actor ≡ Worker worker → Q (accept ask worker world)
  pub closed : (connection worker : ℕ) → event ≡ Close connection → actor ≡ Worker worker → Q (close connection worker world)
  pub settled : (worker : ℕ) → event ≡ Settle → actor ≡ Worker worker → Q (settle worker world)

module _ (Q : World × Answer → Type 0) (format : Format) (world : World) (actor : Actor) where
  reply_leads : (typed : Option Kind) (response : ResponseParts) → response.kind ≡ typed
      → LeadsEach Q format world actor (Response response) → Q (respond_by typed response world)
  reply_leads None response is each = each.ignored
  reply_leads (Some kind) response is each =
      subst (λ (vs : List Verdict). Q (answered kind response vs world))
      (sym (ap (λ (typed : Option Kind). verdicts_by typed (lives_of world) world.versions response) is))
      (each.replied kind response refl is)

  health_leads : (cluster : List ℕ) (host : Host) (healthy : Bool) (rows : List GenRow)
      → LeadsEach Q format world actor (Health cluster host healthy) → Q (health_of host healthy rows world)
  health_leads cluster host healthy [] each = each.ignored
  health_leads cluster host healthy (row ∷ rows) each = each.resulted cluster host healthy (row ∷ rows) refl

  name_leads : (timeout : TimeoutParts) (kind : Kind) (name : Option (List ℕ)) → timeout.kind ≡ kind → timeout.name ≡ name
      → LeadsEach Q format world actor (FetchTimeout timeout) → Q (name_timeout_of kind name world)
  name_leads timeout kind None of named each = each.ignored
  name_leads timeout kind (Some name) of named each =
      cond_both (is_awaited world.arrivals world.rows kind name)
      (moved world (record world { arrivals = world.arrivals ++ arrived world.made kind TimedOut name ∷ [] })) (world, Ignored) Q
      (λ awaited.
      subst (λ (k : Kind). Q (moved world (record world { arrivals = world.arrivals ++ arrived world.made k TimedOut name ∷ [] }))) of
      (each.timed timeout name refl named))
      (λ isnt. each.ignored)

  timeout_leads : (timeout : TimeoutParts) (kind : Kind) → timeout.kind ≡ kind
      → LeadsEach Q format world actor (FetchTimeout timeout) → Q (fetch_timeout kind timeout.name world)
  timeout_leads timeout Cds of each =
      cond_both (is_some world.first_clusters || world.late_clusters) (world, Ignored) (moved world (record world { late_clusters = true })) Q
      (λ came. each.ignored) (λ awaited. each.clusters_late timeout refl)
  timeout_leads timeout Eds of each = name_leads timeout Eds timeout.name of refl each
  timeout_leads timeout Lds of each =
      cond_both (is_clusters world.phase || (is_some world.first_listeners || world.late_listeners)) (world, Ignored)
      (moved world (record world { late_listeners = true })) Q
      (λ came. each.ignored) (λ awaited. each.listeners_late timeout refl)
  timeout_leads timeout Rds of each = name_leads timeout Rds timeout.name of refl each
  timeout_leads timeout Sds of each = name_leads timeout Sds timeout.name of refl each
  timeout_leads timeout Ecds of each = name_leads timeout Ecds timeout.name of refl each

  expire_leads : (name : List ℕ) (numbers : List ℕ) → LeadsEach Q format world actor (DrainTimeout name) → Q (expire numbers world)
  expire_leads name [] each = each.ignored
  expire_leads name (number ∷ numbers) each = each.expired name (number ∷ numbers) refl

  -- so what the event has done has it
  pub step-leads : (event : Event) → LeadsEach Q format world actor event → Q (step format world actor event)
  step-leads Connect each =
      cond_both world.stream (world, Ignored) (tidy (record world { stream = true }), Moved (connect_requests world)) Q
      (λ is. each.ignored) (λ isnt. each.connected refl)
  step-leads Disconnect each =
      cond_both world.stream (tidy (record world { stream = false }), Done) (world, Ignored) Q (λ is. each.disconnected refl) (λ isnt. each.ignored)
  step-leads (Response response) each =
      cond_both world.stream (respond_by response.kind response world) (world, Ignored) Q
      (λ is. reply_leads response.kind response refl each) (λ isnt. each.ignored)
  step-leads (Health cluster host healthy) each = health_leads cluster host healthy (rows_meant world.arrivals cluster host world.rows) each
  step-leads (FetchTimeout timeout) each = timeout_leads timeout timeout.kind refl each
  step-leads (DrainTimeout name) each = expire_leads name (unexpired world.expired name world.rows) each
  step-leads (TtlExpired kind name) each =
      cond_both (is_bounded world.versions kind name) (moved world (with_end kind name (forget_version kind name world))) (world, Ignored) Q
      (λ bounded. each.ended kind name refl bounded) (λ isnt. each.ignored)
  step-leads Publish each =
      cond_both (shown_same (shown_of world) (shown_at world (last_version world))) (world, Unchanged)
      (record world { pictures = world.pictures ++ shown_of world ∷ [] }, Version (length world.pictures)) Q
      (λ same. each.unchanged refl) (λ new. each.published refl)
  step-leads Reap each = each.reaped refl
  step-leads (Accept ask) each = of_worker-keeps Q (accept ask) actor world (λ worker by. each.accepted ask worker refl by) each.ignored
  step-leads (Close connection) each = of_worker-keeps Q (close connection) actor world (λ worker by. each.closed connection worker refl by) each.ignored
  step-leads Settle each = of_worker-keeps Q settle actor world (λ worker by. each.settled worker refl by) each.ignored

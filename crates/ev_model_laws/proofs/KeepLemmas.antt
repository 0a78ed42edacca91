-- What no part of a step breaks holds after a step.
use Rattle.std.proofs.Common.{◌≡◌, refl, ℕ, ◌+◌, Bool, true, false, ◌&&◌, cond, List, [], ◌∷◌, ◌++◌, filter, Option, Some, None, subst, ap₂}
use Rattle.std.specs.List.{fold, zip}
use Rattle.std.proofs.lemmas.Bool.{false≢true}
use Rattle.ev_types.specs.Items.{ItemParts, ResponseParts}
use Rattle.ev_types.specs.Kinds.{kind_same}
use Rattle.ev_types.specs.declared.contents.Kind.{Kind}
use Rattle.ev_types.specs.declared.contents.Kind.TheVariants.{Cds, Eds, Lds, Rds, Sds, Ecds}
use Rattle.ev_types.specs.declared.contents.Content.{Content}
use Rattle.ev_types.specs.declared.contents.Body.{Body}
use Rattle.ev_types.specs.declared.contents.Body.TheVariants.{Good, Bad, Beat}
use Rattle.ev_types.specs.declared.hosts.Host.{Host}
use Rattle.ev_types.specs.declared.rows.GenRow.{GenRow}
use Rattle.ev_types.specs.declared.rows.KeptVersion.{KeptVersion}
use Rattle.ev_types.specs.declared.rows.Arrival.TheVariants.{TimedOut}
use Rattle.ev_types.specs.declared.rows.Phase.{Phase}
use Rattle.ev_types.specs.declared.rows.RowStatus.{RowStatus}
use Rattle.ev_types.specs.declared.journals.Format.{Format}
use Rattle.ev_types.specs.declared.events.Answer.{Answer}
use Rattle.ev_types.specs.declared.events.Answer.TheVariants.{Ignored}
use Rattle.ev_types.specs.declared.events.Ask.{Ask}
use Rattle.ev_types.specs.declared.events.Verdict.{Verdict}
use Rattle.ev_types.specs.declared.events.Verdict.TheVariants.{New, InPlace, Back, Same, Kept, Unasked, Renewed, Refused}
use Rattle.ev_types.specs.declared.events.Actor.{Actor}
use Rattle.ev_types.specs.declared.events.Actor.TheVariants.{Stream, Health as health_checker, Timer, Main, Worker}
use Rattle.ev_types.specs.declared.events.Event.{Event}
use Rattle.ev_types.specs.declared.events.Event.TheVariants.{Connect, Disconnect, Response, Health, FetchTimeout, DrainTimeout, TtlExpired, Publish, Reap, Accept, Close, Settle}
use Rattle.ev_types.specs.declared.events.Entry.{Entry}
use Rattle.ev_model.specs.declared.pictures.Shown.{Shown}
use Rattle.ev_model.specs.World.{World, OpenMember}
use Rattle.ev_model.specs.Live.{lives_of}
use Rattle.ev_model.specs.Verdicts.{verdicts_of, is_removed}
use Rattle.ev_model.specs.Versions.{with_version, renewed}
use Rattle.ev_model.specs.Rows.{with_statuses, removed_status, is_row_of, arrived, status_left, is_version_left, without_rows, with_removals, rows_with_new, add_row, keep_version, keep_value, with_content, told_of_refusal, refuse, renew, add_item, add_items, made_names, with_first, rows_replaced, add_in_place, go_back, serving_row}
use Rattle.ev_model.specs.Tidy.{tidy}
use Rattle.ev_model.specs.Signals.{with_results, health_of, rows_meant, fetch_timeout, name_timeout_of, expire, unexpired, rows_ended, with_end, forget_version, ttl_expired}
use Rattle.ev_model.specs.Publishing.{publish, reap}
use Rattle.ev_model.specs.Connections.{accept, close, settle}
use Rattle.ev_model.specs.Step.{step, connect, disconnect, responded, respond_by, respond, of_worker}
use Rattle.ev_model.specs.Runs.{world_after}
use Rattle.ev_types.specs.declared.origins.KeptChain.{KeptChain}
use Rattle.ev_types.specs.Statuses.{is_warming}
use Rattle.ev_types.specs.declared.rows.RowStatus.TheVariants.{Warming, Active, Draining, Dropped}
use Rattle.ev_model.specs.Origins.{kept_from}

-- what workers see and do: the pictures, the versions that they hold,
-- the connections that are open, and the listeners whose drain timeout came
pub record Seen : Type 0 where
  pub pictures : List Shown
  pub held : List ℕ
  pub opened : List OpenMember
  pub expired : List ℕ

-- what they see and do in this world
abbrev pub seen_of : World → Seen
seen_of world = record { pictures = world.pictures; held = world.held; opened = world.opened; expired = world.expired }

-- a fact on the rows, the count of numbers, the phase, the versions and what workers see
abbrev pub HoldsWith : (List GenRow → ℕ → Phase → List KeptVersion → Seen → Type 0) → World → Type 0
HoldsWith Fact world = Fact world.rows world.made world.phase world.versions (seen_of world)

-- the event is for the managers: it comes from the stream, the health checker or the timers
abbrev pub is_for_managers : Event → Bool
is_for_managers Connect = true
is_for_managers Disconnect = true
is_for_managers (Response response) = true
is_for_managers (Health cluster host healthy) = true
is_for_managers (FetchTimeout timeout) = true
is_for_managers (DrainTimeout listener) = true
is_for_managers (TtlExpired kind name) = true
is_for_managers Publish = false
is_for_managers Reap = false
is_for_managers (Accept ask) = false
is_for_managers (Close connection) = false
is_for_managers Settle = false

-- it is for the managers, and no drain timeout: requests may follow it
abbrev pub is_moving : Event → Bool
is_moving (DrainTimeout listener) = false
is_moving event = is_for_managers event

-- a row's status where those go that the test names, as if their resources were removed
abbrev pub removed_where : (GenRow → Bool) → GenRow → RowStatus
removed_where goes row = cond (goes row) (removed_status row.status) row.status

-- the row warms under this name
abbrev pub warms_named : Kind → List ℕ → GenRow → Bool
warms_named kind name row = is_row_of kind name row && is_warming row.status

dropped_alike : (named : Bool) (status : RowStatus)
    → cond (named && is_warming status) (removed_status status) status ≡ cond (named && is_warming status) Dropped status
dropped_alike true Warming = refl
dropped_alike true Active = refl
dropped_alike true Draining = refl
dropped_alike true Dropped = refl
dropped_alike false status = refl

-- the row that warms under a name is dropped as if its resource were removed
pub rows_dropped : (kind : Kind) (name : List ℕ) (rows : List GenRow)
    → with_statuses (removed_where (warms_named kind name)) rows ≡ rows_replaced kind name rows
rows_dropped kind name [] = refl
rows_dropped kind name (row ∷ rows) =
    ap₂ (λ (status : RowStatus) (others : List GenRow). record row { status = status } ∷ others)
    (dropped_alike (is_row_of kind name row) row.status) (rows_dropped kind name rows)

-- the ways in which managers change a world keep the fact, and by tidying it gives what holds between events
pub record KeepsTidied (Fact : List GenRow → ℕ → Phase → List KeptVersion → Seen → Type 0) (After : World → Type 0) : Type 0 where
  pub removed : (goes : GenRow → Bool) (rows : List GenRow) (made : ℕ) (phase : Phase) (versions : List KeptVersion) (seen : Seen)
      → Fact rows made phase versions seen → Fact (with_statuses (removed_where goes) rows) made phase versions seen
  pub added : (kind : Kind) (name : List ℕ) (content : Content) (kept : List KeptChain) (rows : List GenRow) (made : ℕ) (phase : Phase) (versions : List KeptVersion) (seen : Seen)
      → Fact rows made phase versions seen → Fact (rows_with_new kind made name content kept rows) (made + 1) phase versions seen
  pub version_added : (new : KeptVersion) (rows : List GenRow) (made : ℕ) (phase : Phase) (versions : List KeptVersion) (seen : Seen)
      → Fact rows made phase versions seen → Fact rows made phase (with_version new versions) seen
  pub version_renewed : (kind : Kind) (name : List ℕ) (rows : List GenRow) (made : ℕ) (phase : Phase) (versions : List KeptVersion) (seen : Seen)
      → Fact rows made phase versions seen → Fact rows made phase (renewed kind name versions) seen
  pub versions_left : (test : KeptVersion → Bool) (rows : List GenRow) (made : ℕ) (phase : Phase) (versions : List KeptVersion) (seen : Seen)
      → Fact rows made phase versions seen → Fact rows made phase (filter test versions) seen
  pub untidied : (world : World) → After world → HoldsWith Fact world
  pub tidied : (world : World) → HoldsWith Fact world → After (tidy world)

-- a response of this kind removes the row
abbrev goes_with : Kind → ResponseParts → GenRow → Bool
goes_with kind response row = kind_same row.kind kind && is_removed response row.name

-- what holds of the worlds of both branches of a test
pub either : (P : World → Type 0) (test : Bool) (this that : World × Answer) → P this.0 → P that.0 → P (cond test this that).0
either P true this that holds other = holds
either P false this that holds other = other

-- what holds of a world holds of it once a good resource has changed it, where the change keeps it
pub with_content-holds : (P : World → Type 0) (change : Content → World → World) (body : Body) (world : World)
    → ((content : Content) → P (change content world)) → P world → P (with_content change body world)
with_content-holds P change (Good content) world changed holds = changed content
with_content-holds P change (Bad rule) world changed holds = holds
with_content-holds P change Beat world changed holds = holds

module _ (Fact : List GenRow → ℕ → Phase → List KeptVersion → Seen → Type 0) (After : World → Type 0) (keeps : KeepsTidied Fact After) where
  either_world : (test : Bool) (this that : World) → HoldsWith Fact this → HoldsWith Fact that → HoldsWith Fact (cond test this that)
  either_world true this that holds other = holds
  either_world false this that holds other = other

  versions_left-keeps : (test : KeptVersion → Bool) (world : World)
      → HoldsWith Fact world → HoldsWith Fact (record world { versions = filter test world.versions })
  versions_left-keeps test world holds = keeps.versions_left test world.rows world.made world.phase world.versions (seen_of world) holds

  without_rows-keeps : (kind : Kind) (response : ResponseParts) (world : World)
      → HoldsWith Fact world → HoldsWith Fact (without_rows kind response world)
  without_rows-keeps kind response world holds =
      versions_left-keeps (is_version_left kind response) (record world { rows = with_statuses (status_left kind response) world.rows })
      (keeps.removed (goes_with kind response) world.rows world.made world.phase world.versions (seen_of world) holds)

  with_removals-keeps : (kind : Kind) (response : ResponseParts) (world : World)
      → HoldsWith Fact world → HoldsWith Fact (with_removals kind response world)
  with_removals-keeps Cds response world holds = without_rows-keeps Cds response world holds
  with_removals-keeps Eds response world holds = versions_left-keeps (is_version_left Eds response) world holds
  with_removals-keeps Lds response world holds = without_rows-keeps Lds response world holds
  with_removals-keeps Rds response world holds = versions_left-keeps (is_version_left Rds response) world holds
  with_removals-keeps Sds response world holds = versions_left-keeps (is_version_left Sds response) world holds
  with_removals-keeps Ecds response world holds = versions_left-keeps (is_version_left Ecds response) world holds

  keep_version-keeps : (kind : Kind) (item : ItemParts) (world : World) → HoldsWith Fact world → HoldsWith Fact (keep_version kind item world)
  keep_version-keeps kind item world holds = keeps.version_added _ world.rows world.made world.phase world.versions (seen_of world) holds

  add_row-keeps : (kind : Kind) (item : ItemParts) (content : Content) (kept : List KeptChain) (world : World)
      → HoldsWith Fact world → HoldsWith Fact (add_row kind item content kept world)
  add_row-keeps kind item content kept world holds =
      keep_version-keeps kind item
      (record world { rows = rows_with_new kind world.made item.name content kept world.rows; made = world.made + 1 })
      (keeps.added kind item.name content kept world.rows world.made world.phase world.versions (seen_of world) holds)

  go_back-keeps : (kind : Kind) (item : ItemParts) (world : World) → HoldsWith Fact world → HoldsWith Fact (go_back kind item world)
  go_back-keeps kind item world holds =
      keep_version-keeps kind item (record world { rows = rows_replaced kind item.name world.rows })
      (subst (λ (rows : List GenRow). Fact rows world.made world.phase world.versions (seen_of world)) (rows_dropped kind item.name world.rows)
      (keeps.removed (warms_named kind item.name) world.rows world.made world.phase world.versions (seen_of world) holds))

  told-keeps : (kind : Kind) (name : List ℕ) (world : World) → HoldsWith Fact world → HoldsWith Fact (told_of_refusal kind name world)
  told-keeps kind name world holds = either_world _ _ _ holds holds

  refuse-keeps : (kind : Kind) (name : List ℕ) (world : World) → HoldsWith Fact world → HoldsWith Fact (refuse kind name world)
  refuse-keeps Cds name world holds = holds
  refuse-keeps Eds name world holds = told-keeps Eds name world holds
  refuse-keeps Lds name world holds = holds
  refuse-keeps Rds name world holds = told-keeps Rds name world holds
  refuse-keeps Sds name world holds = told-keeps Sds name world holds
  refuse-keeps Ecds name world holds = told-keeps Ecds name world holds

  renew-keeps : (kind : Kind) (name : List ℕ) (world : World) → HoldsWith Fact world → HoldsWith Fact (renew kind name world)
  renew-keeps kind name world holds = keeps.version_renewed kind name world.rows world.made world.phase world.versions (seen_of world) holds

  add_item-keeps : (kind : Kind) (verdict : Verdict) (item : ItemParts) (world : World)
      → HoldsWith Fact world → HoldsWith Fact (add_item kind verdict item world)
  add_item-keeps kind New item world holds =
      with_content-holds (HoldsWith Fact) (λ content. add_row kind item content []) item.body world (λ content. add_row-keeps kind item content [] world holds) holds
  add_item-keeps kind InPlace item world holds =
      with_content-holds (HoldsWith Fact) (add_in_place kind item) item.body world
      (λ content. add_row-keeps kind item content (kept_from (serving_row kind item.name world.rows) content) world holds) holds
  add_item-keeps kind Back item world holds =
      with_content-holds (HoldsWith Fact) (λ content. go_back kind item) item.body world (λ content. go_back-keeps kind item world holds) holds
  add_item-keeps kind Same item world holds =
      with_content-holds (HoldsWith Fact) (λ content. keep_version kind item) item.body world (λ content. keep_version-keeps kind item world holds) holds
  add_item-keeps kind Kept item world holds =
      with_content-holds (HoldsWith Fact) (keep_value kind item) item.body world (λ content. keep_version-keeps kind item world holds) holds
  add_item-keeps kind Unasked item world holds = holds
  add_item-keeps kind Renewed item world holds = renew-keeps kind item.name world holds
  add_item-keeps kind (Refused rule) item world holds = refuse-keeps kind item.name world holds

  judged-keeps : (kind : Kind) (judged : List (Verdict × ItemParts)) (world : World)
      → HoldsWith Fact world → HoldsWith Fact (fold (λ (w : World) (one : Verdict × ItemParts). add_item kind one.0 one.1 w) world judged)
  judged-keeps kind [] world holds = holds
  judged-keeps kind (one ∷ judged) world holds =
      judged-keeps kind judged (add_item kind one.0 one.1 world) (add_item-keeps kind one.0 one.1 world holds)

  add_items-keeps : (kind : Kind) (verdicts : List Verdict) (items : List ItemParts) (world : World)
      → HoldsWith Fact world → HoldsWith Fact (add_items kind verdicts items world)
  add_items-keeps kind verdicts items world holds = judged-keeps kind (zip verdicts items) world holds

  with_first-keeps : (kind : Kind) (names : List (List ℕ)) (world : World) → HoldsWith Fact world → HoldsWith Fact (with_first kind names world)
  with_first-keeps Cds names world holds = holds
  with_first-keeps Eds names world holds = holds
  with_first-keeps Lds names world holds = holds
  with_first-keeps Rds names world holds = holds
  with_first-keeps Sds names world holds = holds
  with_first-keeps Ecds names world holds = holds

  responded-keeps : (kind : Kind) (response : ResponseParts) (verdicts : List Verdict) (world : World)
      → After world → After (responded kind response verdicts world)
  responded-keeps kind response verdicts world after =
      let left = with_removals kind response world in
      let filled = add_items kind verdicts response.items left in
      let names = made_names verdicts response.items in
      keeps.tidied (with_first kind names filled)
      (with_first-keeps kind names filled
      (add_items-keeps kind verdicts response.items left (with_removals-keeps kind response world (keeps.untidied world after))))

  respond_by-keeps : (kind : Option Kind) (response : ResponseParts) (world : World)
      → After world → After (respond_by kind response world).0
  respond_by-keeps None response world after = after
  respond_by-keeps (Some kind) response world after = responded-keeps kind response (verdicts_of (lives_of world) world.versions response) world after

  connect-keeps : (world : World) → After world → After (connect world).0
  connect-keeps world after = either After _ _ _ after (keeps.tidied (record world { stream = true }) (keeps.untidied world after))

  disconnect-keeps : (world : World) → After world → After (disconnect world).0
  disconnect-keeps world after = either After _ _ _ (keeps.tidied (record world { stream = false }) (keeps.untidied world after)) after

  respond-keeps : (response : ResponseParts) (world : World) → After world → After (respond response world).0
  respond-keeps response world after = either After _ _ _ (respond_by-keeps response.kind response world after) after

  health-keeps : (host : Host) (healthy : Bool) (rows : List GenRow) (world : World)
      → After world → After (health_of host healthy rows world).0
  health-keeps host healthy [] world after = after
  health-keeps host healthy (row ∷ rows) world after =
      keeps.tidied (with_results host healthy (row ∷ rows) world) (keeps.untidied world after)

  name_timeout-keeps : (kind : Kind) (name : Option (List ℕ)) (world : World)
      → After world → After (name_timeout_of kind name world).0
  name_timeout-keeps kind None world after = after
  name_timeout-keeps kind (Some name) world after =
      either After _ _ _
      (keeps.tidied (record world { arrivals = world.arrivals ++ arrived world.made kind TimedOut name ∷ [] })
      (keeps.untidied world after)) after

  fetch_timeout-keeps : (kind : Kind) (name : Option (List ℕ)) (world : World)
      → After world → After (fetch_timeout kind name world).0
  fetch_timeout-keeps Cds name world after =
      either After _ _ _ after (keeps.tidied (record world { late_clusters = true }) (keeps.untidied world after))
  fetch_timeout-keeps Eds name world after = name_timeout-keeps Eds name world after
  fetch_timeout-keeps Lds name world after =
      either After _ _ _ after (keeps.tidied (record world { late_listeners = true }) (keeps.untidied world after))
  fetch_timeout-keeps Rds name world after = name_timeout-keeps Rds name world after
  fetch_timeout-keeps Sds name world after = name_timeout-keeps Sds name world after
  fetch_timeout-keeps Ecds name world after = name_timeout-keeps Ecds name world after

  forget_version-keeps : (kind : Kind) (name : List ℕ) (world : World) → HoldsWith Fact world → HoldsWith Fact (forget_version kind name world)
  forget_version-keeps kind name world holds = versions_left-keeps _ world holds

  rows_ended-keeps : (kind : Kind) (name : List ℕ) (world : World)
      → HoldsWith Fact world → HoldsWith Fact (record world { rows = rows_ended kind name world.rows })
  rows_ended-keeps kind name world holds =
      keeps.removed (is_row_of kind name) world.rows world.made world.phase world.versions (seen_of world) holds

  with_end-keeps : (kind : Kind) (name : List ℕ) (world : World) → HoldsWith Fact world → HoldsWith Fact (with_end kind name world)
  with_end-keeps Cds name world holds = rows_ended-keeps Cds name world holds
  with_end-keeps Eds name world holds = holds
  with_end-keeps Lds name world holds = rows_ended-keeps Lds name world holds
  with_end-keeps Rds name world holds = holds
  with_end-keeps Sds name world holds = holds
  with_end-keeps Ecds name world holds = holds

  ttl_expired-keeps : (kind : Kind) (name : List ℕ) (world : World) → After world → After (ttl_expired kind name world).0
  ttl_expired-keeps kind name world after =
      let forgotten : World = forget_version kind name world in
      either After _ _ _
      (keeps.tidied (with_end kind name forgotten)
      (with_end-keeps kind name forgotten (forget_version-keeps kind name world (keeps.untidied world after))))
      after

  -- what holds between events holds after an event for the managers that is no drain timeout
  pub moved-keeps : (format : Format) (world : World) (actor : Actor) (event : Event) → is_moving event ≡ true
      → After world → After (step format world actor event).0
  moved-keeps format world actor Connect is after = connect-keeps world after
  moved-keeps format world actor Disconnect is after = disconnect-keeps world after
  moved-keeps format world actor (Response response) is after = respond-keeps response world after
  moved-keeps format world actor (Health cluster host healthy) is after =
      health-keeps host healthy (rows_meant world.arrivals cluster host world.rows) world after
  moved-keeps format world actor (FetchTimeout timeout) is after = fetch_timeout-keeps timeout.kind timeout.name world after
  moved-keeps format world actor (DrainTimeout listener) is after = absurd (false≢true is)
  moved-keeps format world actor (TtlExpired kind name) is after = ttl_expired-keeps kind name world after
  moved-keeps format world actor Publish is after = absurd (false≢true is)
  moved-keeps format world actor Reap is after = absurd (false≢true is)
  moved-keeps format world actor (Accept ask) is after = absurd (false≢true is)
  moved-keeps format world actor (Close connection) is after = absurd (false≢true is)
  moved-keeps format world actor Settle is after = absurd (false≢true is)

  module _ (expires : (numbers : List ℕ) (world : World) → After world → HoldsWith Fact (record world { expired = world.expired ++ numbers })) where
    expire-keeps : (numbers : List ℕ) (world : World) → After world → After (expire numbers world).0
    expire-keeps [] world after = after
    expire-keeps (number ∷ numbers) world after =
        keeps.tidied (record world { expired = world.expired ++ number ∷ numbers }) (expires (number ∷ numbers) world after)

    -- and after a drain timeout, where expired listeners leave the fact
    pub managed-keeps : (format : Format) (world : World) (actor : Actor) (event : Event) → is_for_managers event ≡ true
        → After world → After (step format world actor event).0
    managed-keeps format world actor Connect is after = moved-keeps format world actor Connect is after
    managed-keeps format world actor Disconnect is after = moved-keeps format world actor Disconnect is after
    managed-keeps format world actor (Response response) is after = moved-keeps format world actor (Response response) is after
    managed-keeps format world actor (Health cluster host healthy) is after = moved-keeps format world actor (Health cluster host healthy) is after
    managed-keeps format world actor (FetchTimeout timeout) is after = moved-keeps format world actor (FetchTimeout timeout) is after
    managed-keeps format world actor (DrainTimeout listener) is after = expire-keeps (unexpired world.expired listener world.rows) world after
    managed-keeps format world actor (TtlExpired kind name) is after = moved-keeps format world actor (TtlExpired kind name) is after
    managed-keeps format world actor Publish is after = absurd (false≢true is)
    managed-keeps format world actor Reap is after = absurd (false≢true is)
    managed-keeps format world actor (Accept ask) is after = absurd (false≢true is)
    managed-keeps format world actor (Close connection) is after = absurd (false≢true is)
    managed-keeps format world actor Settle is after = absurd (false≢true is)

-- what holds of what a worker's change does, and of nothing done, since no other actor makes it
pub of_worker-keeps : (P : World × Answer → Type 0) (change : ℕ → World → World × Answer) (actor : Actor) (world : World)
    → ((worker : ℕ) → actor ≡ Worker worker → P (change worker world)) → P (world, Ignored) → P (of_worker change actor world)
of_worker-keeps P change Stream world changed ignored = ignored
of_worker-keeps P change health_checker world changed ignored = ignored
of_worker-keeps P change Timer world changed ignored = ignored
of_worker-keeps P change Main world changed ignored = ignored
of_worker-keeps P change (Worker worker) world changed ignored = changed worker refl

-- what each kind of event does at a world has the fact
pub record HoldsOfEach (P : World × Answer → Type 0) (format : Format) (world : World) (actor : Actor) : Type 0 where
  pub ignored : P (world, Ignored)
  pub managed : (event : Event) → is_for_managers event ≡ true → P (step format world actor event)
  pub published : P (publish world)
  pub reaped : P (reap format world)
  pub accepted : (ask : Ask) (worker : ℕ) → actor ≡ Worker worker → P (accept ask worker world)
  pub closed : (connection worker : ℕ) → actor ≡ Worker worker → P (close connection worker world)
  pub settled : (worker : ℕ) → actor ≡ Worker worker → P (settle worker world)

-- so what any event does has it
pub step-holds : (P : World × Answer → Type 0) (format : Format) (world : World) (actor : Actor) (event : Event)
    → HoldsOfEach P format world actor → P (step format world actor event)
step-holds P format world actor Connect each = each.managed Connect refl
step-holds P format world actor Disconnect each = each.managed Disconnect refl
step-holds P format world actor (Response response) each = each.managed (Response response) refl
step-holds P format world actor (Health cluster host healthy) each = each.managed (Health cluster host healthy) refl
step-holds P format world actor (FetchTimeout timeout) each = each.managed (FetchTimeout timeout) refl
step-holds P format world actor (DrainTimeout listener) each = each.managed (DrainTimeout listener) refl
step-holds P format world actor (TtlExpired kind name) each = each.managed (TtlExpired kind name) refl
step-holds P format world actor Publish each = each.published
step-holds P format world actor Reap each = each.reaped
step-holds P format world actor (Accept ask) each = of_worker-keeps P (accept ask) actor world (each.accepted ask) each.ignored
step-holds P format world actor (Close connection) each = of_worker-keeps P (close connection) actor world (each.closed connection) each.ignored
step-holds P format world actor Settle each = of_worker-keeps P settle actor world each.settled each.ignored

-- the world that each kind of event leads to has the fact
pub record KeepsEach (P : World → Type 0) (format : Format) (world : World) (actor : Actor) : Type 0 where
  pub managed : (event : Event) → is_for_managers event ≡ true → P (step format world actor event).0
  pub published : P (publish world).0
  pub reaped : P (reap format world).0
  pub accepted : (ask : Ask) (worker : ℕ) → actor ≡ Worker worker → P (accept ask worker world).0
  pub closed : (connection worker : ℕ) → actor ≡ Worker worker → P (close connection worker world).0
  pub settled : (worker : ℕ) → actor ≡ Worker worker → P (settle worker world).0

-- so the world has it after any event
pub step-each : (P : World → Type 0) (format : Format) (world : World) (actor : Actor) (event : Event)
    → P world → KeepsEach P format world actor → P (step format world actor event).0
step-each P format world actor event holds each = step-holds (λ done. P done.0) format world actor event (record {
  ignored = holds;
  managed = each.managed;
  published = each.published;
  reaped = each.reaped;
  accepted = each.accepted;
  closed = each.closed;
  settled = each.settled;
})

-- a fact on the rows, the count of numbers, the phase and the versions of a world
abbrev pub Holds : (List GenRow → ℕ → Phase → List KeptVersion → Type 0) → World → Type 0
Holds Fact world = Fact world.rows world.made world.phase world.versions

-- the ways in which a step changes them keep the fact
pub record KeepsAll (Fact : List GenRow → ℕ → Phase → List KeptVersion → Type 0) : Type 0 where
  pub removed : (goes : GenRow → Bool) (rows : List GenRow) (made : ℕ) (phase : Phase) (versions : List KeptVersion)
      → Fact rows made phase versions → Fact (with_statuses (removed_where goes) rows) made phase versions
  pub added : (kind : Kind) (name : List ℕ) (content : Content) (kept : List KeptChain) (rows : List GenRow) (made : ℕ) (phase : Phase) (versions : List KeptVersion)
      → Fact rows made phase versions → Fact (rows_with_new kind made name content kept rows) (made + 1) phase versions
  pub left : (test : GenRow → Bool) (rows : List GenRow) (made : ℕ) (phase : Phase) (versions : List KeptVersion)
      → Fact rows made phase versions → Fact (filter test rows) made phase versions
  pub version_added : (new : KeptVersion) (rows : List GenRow) (made : ℕ) (phase : Phase) (versions : List KeptVersion)
      → Fact rows made phase versions → Fact rows made phase (with_version new versions)
  pub version_renewed : (kind : Kind) (name : List ℕ) (rows : List GenRow) (made : ℕ) (phase : Phase) (versions : List KeptVersion)
      → Fact rows made phase versions → Fact rows made phase (renewed kind name versions)
  pub versions_left : (test : KeptVersion → Bool) (rows : List GenRow) (made : ℕ) (phase : Phase) (versions : List KeptVersion)
      → Fact rows made phase versions → Fact rows made phase (filter test versions)
  pub tidied : (world : World) → Holds Fact world → Holds Fact (tidy world)

module _ (Fact : List GenRow → ℕ → Phase → List KeptVersion → Type 0) (keeps : KeepsAll Fact) where
  keeps_tidied : KeepsTidied (λ rows made phase versions seen. Fact rows made phase versions) (Holds Fact)
  keeps_tidied = record {
    removed = λ goes rows made phase versions seen holds. keeps.removed goes rows made phase versions holds;
    added = λ kind name content kept rows made phase versions seen holds. keeps.added kind name content kept rows made phase versions holds;
    version_added = λ new rows made phase versions seen holds. keeps.version_added new rows made phase versions holds;
    version_renewed = λ kind name rows made phase versions seen holds. keeps.version_renewed kind name rows made phase versions holds;
    versions_left = λ test rows made phase versions seen holds. keeps.versions_left test rows made phase versions holds;
    untidied = λ world holds. holds;
    tidied = keeps.tidied;
  }

  pub step-keeps-all : (format : Format) (world : World) (actor : Actor) (event : Event)
      → Holds Fact world → Holds Fact (step format world actor event).0
  step-keeps-all format world actor event holds = step-each (Holds Fact) format world actor event holds (record {
    managed = λ event is.
        managed-keeps (λ rows made phase versions seen. Fact rows made phase versions) (Holds Fact) keeps_tidied (λ numbers world holds. holds)
        format world actor event is holds;
    published = either (Holds Fact) _ _ _ holds holds;
    reaped = keeps.left _ world.rows world.made world.phase world.versions holds;
    accepted = λ ask worker is. holds;
    closed = λ connection worker is. holds;
    settled = λ worker is. holds;
  })

  pub run-keeps-all : (format : Format) (world : World) (entries : List Entry)
      → Holds Fact world → Holds Fact (world_after format world entries)
  run-keeps-all format world [] holds = holds
  run-keeps-all format world (entry ∷ entries) holds =
      run-keeps-all format (step format world entry.actor entry.event).0 entries
      (step-keeps-all format world entry.actor entry.event holds)

-- a fact on the rows, the count of numbers and the phase alone
abbrev OnRows : (List GenRow → ℕ → Phase → Type 0) → List GenRow → ℕ → Phase → List KeptVersion → Type 0
OnRows Fact rows made phase versions = Fact rows made phase

-- the four ways in which a step changes rows, numbers and the phase keep the fact
pub record Keeps (Fact : List GenRow → ℕ → Phase → Type 0) : Type 0 where
  pub removed : (goes : GenRow → Bool) (rows : List GenRow) (made : ℕ) (phase : Phase)
      → Fact rows made phase → Fact (with_statuses (removed_where goes) rows) made phase
  pub added : (kind : Kind) (name : List ℕ) (content : Content) (kept : List KeptChain) (rows : List GenRow) (made : ℕ) (phase : Phase)
      → Fact rows made phase → Fact (rows_with_new kind made name content kept rows) (made + 1) phase
  pub left : (test : GenRow → Bool) (rows : List GenRow) (made : ℕ) (phase : Phase)
      → Fact rows made phase → Fact (filter test rows) made phase
  pub tidied : (world : World) → Holds (OnRows Fact) world → Holds (OnRows Fact) (tidy world)

module _ (Fact : List GenRow → ℕ → Phase → Type 0) (keeps : Keeps Fact) where
  keeps_on_rows : KeepsAll (OnRows Fact)
  keeps_on_rows = record {
    removed = λ goes rows made phase versions holds. keeps.removed goes rows made phase holds;
    added = λ kind name content kept rows made phase versions holds. keeps.added kind name content kept rows made phase holds;
    left = λ test rows made phase versions holds. keeps.left test rows made phase holds;
    version_added = λ new rows made phase versions holds. holds;
    version_renewed = λ kind name rows made phase versions holds. holds;
    versions_left = λ test rows made phase versions holds. holds;
    tidied = keeps.tidied;
  }

  pub step-keeps : (format : Format) (world : World) (actor : Actor) (event : Event)
      → Holds (OnRows Fact) world → Holds (OnRows Fact) (step format world actor event).0
  step-keeps format world actor event holds = step-keeps-all (OnRows Fact) keeps_on_rows format world actor event holds

  pub run-keeps : (format : Format) (world : World) (entries : List Entry)
      → Holds (OnRows Fact) world → Holds (OnRows Fact) (world_after format world entries)
  run-keeps format world entries holds = run-keeps-all (OnRows Fact) keeps_on_rows format world entries holds

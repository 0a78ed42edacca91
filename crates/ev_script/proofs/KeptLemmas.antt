-- What every line keeps: its number, and an actor that may make its event.
use Rattle.std.proofs.Common.{◌≡◌, ℕ, ◌<◌, Bool, true, false, cond, List, [], ◌∷◌, codes, IfSome, Option, None, Some, option_map, option_and_then, refl, subst, arith}
use Rattle.std.proofs.lemmas.Bool.Decides.{nat_tests}
use Rattle.std.specs.Str.{bytes_eq}
use Rattle.serde_json.specs.Data.{Data}
use Rattle.serde_json.specs.Find.{as_str, as_bool}
use Rattle.ev_types.specs.Events.{MayMake}
use Rattle.ev_types.specs.declared.contents.Kind.{Kind}
use Rattle.ev_types.specs.Kinds.{is_by_name}
use Rattle.ev_types.specs.declared.events.Actor.{Actor}
use Rattle.ev_types.specs.declared.events.Actor.TheVariants.{Stream, Health as health, Timer, Main, Worker}
use Rattle.ev_types.specs.declared.events.Event.{Event}
use Rattle.ev_types.specs.declared.events.Event.TheVariants.{Connect, Disconnect, Response, Health, FetchTimeout, DrainTimeout, TtlExpired, Publish, Reap, Accept, Close, Settle}
use Rattle.ev_types.specs.declared.events.Line.{Line}
use Rattle.ev_types.specs.declared.events.Profile.{Profile}
use Rattle.ev_wire.specs.Responses.{response_of}
use Rattle.ev_script.specs.Faults.{worker_of}
use Rattle.ev_script.specs.Content.{is_above}
use Rattle.ev_script.specs.Members.{has_only, name_of, member_of}
use Rattle.ev_script.specs.LineForms.{line_at, host_in, kind_in}
use Rattle.ev_script.specs.StreamLines.{connect_line, disconnect_line, response_line}
use Rattle.ev_script.specs.HealthLines.{health_line}
use Rattle.ev_script.specs.TimerLines.{timeout_of, timeout_line, drain_line, expired_line}
use Rattle.ev_script.specs.MainLines.{publish_line, reap_line}
use Rattle.ev_script.specs.Asks.{conn_in, ask_in}
use Rattle.ev_script.specs.WorkerLines.{worker_in, worker_line, accept_line, close_line, settle_line}
use Rattle.ev_script.specs.Lines.{line_of, line_by, main_side_line}

-- the actor may make the event, where the worker that it is is one of this many
abbrev pub MayMakeIn : Actor → Event → Type 0
MayMakeIn actor event = (workers : ℕ) → ((worker : ℕ) → worker_of actor ≡ Some worker → worker < workers) → MayMake workers actor event

-- a line has its number, and an actor that may make its event
pub record IsLineAt (at : ℕ) (line : Line) : Type 0 where
  pub place : line.at ≡ at
  pub allowed : MayMakeIn line.actor line.event

chained : {A B : Type 0} (P : B → Type 0) (f : A → Option B) (o : Option A) → ((x : A) → IfSome (f x) P) → IfSome (option_and_then f o) P
chained P f None k = tt
chained P f (Some x) k = k x

mapped : {A B : Type 0} (P : B → Type 0) (f : A → B) (o : Option A) → ((x : A) → P (f x)) → IfSome (option_map f o) P
mapped P f None k = tt
mapped P f (Some x) k = k x

tested : {A : Type 0} (P : A → Type 0) (b : Bool) (o : Option A) → IfSome o P → IfSome (cond b o None) P
tested P true o h = h
tested P false o h = tt

either : {A : Type 0} (P : A → Type 0) (b : Bool) (o q : Option A) → IfSome o P → IfSome q P → IfSome (cond b o q) P
either P true o q h k = h
either P false o q h k = k

kept_at : (at : ℕ) (actor : Actor) (event : Option Event) → IfSome event (MayMakeIn actor) → IfSome (line_at at actor event) (IsLineAt at)
kept_at at actor None h = tt
kept_at at actor (Some e) h = record { place = refl; allowed = h }

connect_kept : (at : ℕ) (tree : Data) → IfSome (connect_line at tree) (IsLineAt at)
connect_kept at tree = tested (IsLineAt at) (has_only (codes "op" ∷ []) tree) (line_at at Stream (Some Connect)) (kept_at at Stream (Some Connect) (λ workers h. tt))

disconnect_kept : (at : ℕ) (tree : Data) → IfSome (disconnect_line at tree) (IsLineAt at)
disconnect_kept at tree = tested (IsLineAt at) (has_only (codes "op" ∷ []) tree) (line_at at Stream (Some Disconnect)) (kept_at at Stream (Some Disconnect) (λ workers h. tt))

response_kept : (profile : Profile) (at : ℕ) (tree : Data) → IfSome (response_line profile at tree) (IsLineAt at)
response_kept profile at tree = tested (IsLineAt at) _ _ (kept_at at Stream _ (mapped (MayMakeIn Stream) (λ response. Response response) (member_of (response_of profile) (codes "message") tree) (λ response workers h. tt)))

health_kept : (at : ℕ) (tree : Data) → IfSome (health_line at tree) (IsLineAt at)
health_kept at tree =
    tested (IsLineAt at) _ _ (kept_at at health _
    (chained (MayMakeIn health) _ (member_of name_of (codes "cluster") tree) (λ cluster.
    chained (MayMakeIn health) _ (host_in tree) (λ host.
    mapped (MayMakeIn health) (λ healthy. Health cluster host healthy) (member_of as_bool (codes "healthy") tree) (λ healthy workers h. tt)))))

timeout_kept : (kind : Kind) (tree : Data) → IfSome (timeout_of kind tree) (MayMakeIn Timer)
timeout_kept kind tree = either (MayMakeIn Timer) (is_by_name kind) _ _
    (tested (MayMakeIn Timer) _ _ (mapped (MayMakeIn Timer) (λ name. FetchTimeout (record { kind = kind; name = Some name })) (member_of name_of (codes "name") tree) (λ name workers h. tt)))
    (tested (MayMakeIn Timer) _ (Some (FetchTimeout (record { kind = kind; name = None }))) (λ workers h. tt))

timeouts_kept : (profile : Profile) (at : ℕ) (tree : Data) → IfSome (timeout_line profile at tree) (IsLineAt at)
timeouts_kept profile at tree = kept_at at Timer _ (chained (MayMakeIn Timer) (λ kind. timeout_of kind tree) (kind_in profile tree) (λ kind. timeout_kept kind tree))

drain_kept : (at : ℕ) (tree : Data) → IfSome (drain_line at tree) (IsLineAt at)
drain_kept at tree = tested (IsLineAt at) _ _ (kept_at at Timer _ (mapped (MayMakeIn Timer) (λ name. DrainTimeout name) (member_of name_of (codes "listener") tree) (λ name workers h. tt)))

expired_kept : (profile : Profile) (at : ℕ) (tree : Data) → IfSome (expired_line profile at tree) (IsLineAt at)
expired_kept profile at tree =
    tested (IsLineAt at) _ _ (kept_at at Timer _
    (chained (MayMakeIn Timer) _ (kind_in profile tree) (λ kind. mapped (MayMakeIn Timer) (λ name. TtlExpired kind name) (member_of name_of (codes "name") tree) (λ name workers h. tt))))

publish_kept : (at : ℕ) (tree : Data) → IfSome (publish_line at tree) (IsLineAt at)
publish_kept at tree = tested (IsLineAt at) (has_only (codes "op" ∷ []) tree) (line_at at Main (Some Publish)) (kept_at at Main (Some Publish) (λ workers h. tt))

reap_kept : (at : ℕ) (tree : Data) → IfSome (reap_line at tree) (IsLineAt at)
reap_kept at tree = tested (IsLineAt at) (has_only (codes "op" ∷ []) tree) (line_at at Main (Some Reap)) (kept_at at Main (Some Reap) (λ workers h. tt))

worker_kept : (at : ℕ) (event : Option Event) (tree : Data) → ((worker : ℕ) → IfSome event (MayMakeIn (Worker worker))) → IfSome (worker_line at event tree) (IsLineAt at)
worker_kept at event tree allowed = chained (IsLineAt at) (λ worker. line_at at (Worker worker) event) (worker_in tree) (λ worker. kept_at at (Worker worker) event (allowed worker))

accept_kept : (profile : Profile) (at : ℕ) (tree : Data) → IfSome (accept_line profile at tree) (IsLineAt at)
accept_kept profile at tree = tested (IsLineAt at) _ _ (worker_kept at _ tree (λ worker. mapped (MayMakeIn (Worker worker)) (λ ask. Accept ask) (ask_in tree) (λ ask workers h. h worker refl)))

close_kept : (at : ℕ) (tree : Data) → IfSome (close_line at tree) (IsLineAt at)
close_kept at tree = tested (IsLineAt at) _ _ (worker_kept at _ tree (λ worker. mapped (MayMakeIn (Worker worker)) (λ conn. Close conn) (conn_in tree) (λ conn workers h. h worker refl)))

settle_kept : (at : ℕ) (tree : Data) → IfSome (settle_line at tree) (IsLineAt at)
settle_kept at tree = tested (IsLineAt at) _ _ (worker_kept at (Some Settle) tree (λ worker workers h. h worker refl))

main_side_kept : (profile : Profile) (op : List ℕ) (at : ℕ) (tree : Data) → IfSome (main_side_line profile op at tree) (IsLineAt at)
main_side_kept profile op at tree =
    either (IsLineAt at) (bytes_eq op (codes "connect")) _ _ (connect_kept at tree)
    (either (IsLineAt at) (bytes_eq op (codes "disconnect")) _ _ (disconnect_kept at tree)
    (either (IsLineAt at) (bytes_eq op (codes "response")) _ _ (response_kept profile at tree)
    (either (IsLineAt at) (bytes_eq op (codes "health")) _ _ (health_kept at tree)
    (either (IsLineAt at) (bytes_eq op (codes "fetchTimeout")) _ _ (timeouts_kept profile at tree)
    (either (IsLineAt at) (bytes_eq op (codes "drainTimeout")) _ _ (drain_kept at tree)
    (either (IsLineAt at) (bytes_eq op (codes "ttlExpired")) _ _ (expired_kept profile at tree)
    (either (IsLineAt at) (bytes_eq op (codes "publish")) _ _ (publish_kept at tree)
    (tested (IsLineAt at) (bytes_eq op (codes "reap")) _ (reap_kept at tree)))))))))

by_kept : (profile : Profile) (op : List ℕ) (at : ℕ) (tree : Data) → IfSome (line_by profile op at tree) (IsLineAt at)
by_kept profile op at tree =
    either (IsLineAt at) (bytes_eq op (codes "accept")) _ _ (accept_kept profile at tree)
    (either (IsLineAt at) (bytes_eq op (codes "close")) _ _ (close_kept at tree)
    (either (IsLineAt at) (bytes_eq op (codes "settle")) _ _ (settle_kept at tree)
    (main_side_kept profile op at tree)))

pub line_kept : (profile : Profile) (at : ℕ) (tree : Data) → IfSome (line_of profile at tree) (IsLineAt at)
line_kept profile at tree = chained (IsLineAt at) (λ op. line_by profile op at tree) (member_of as_str (codes "op") tree) (λ op. by_kept profile op at tree)

below_count : (workers : ℕ) (named : Option ℕ) → is_above workers named ≡ false → (worker : ℕ) → named ≡ Some worker → worker < workers
below_count workers None e worker f = cc
below_count workers (Some other) e worker f =
    let same : other ≡ worker = cc in
    subst (λ (w : ℕ). w < workers) same (grind (arith, nat_tests))

-- what a line keeps whose worker, where it names one, is below the count
pub kept_line : (workers : ℕ) (profile : Profile) (at : ℕ) (tree : Data) (line : Line) → line_of profile at tree ≡ Some line → is_above workers (worker_of line.actor) ≡ false → (line.at ≡ at) × MayMake workers line.actor line.event
kept_line workers profile at tree line e below =
    let kept : IsLineAt at line = subst (λ o. IfSome o (IsLineAt at)) e (line_kept profile at tree) in
    (kept.place, kept.allowed workers (below_count workers (worker_of line.actor) below))

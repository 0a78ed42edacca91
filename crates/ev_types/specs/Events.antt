-- The words of events, and who makes them.
use Rattle.std.specs.Prelude.{ℕ, ◌<◌, ⊤, Bool, true, false, ◌≡◌, refl}
use Rattle.std.specs.Bool.{Decides}
use Rattle.ev_types.specs.declared.events.Actor.{Actor}
use Rattle.ev_types.specs.declared.events.Actor.TheVariants.{Stream, Health as health, Timer, Main, Worker}
use Rattle.ev_types.specs.declared.events.Event.{Event}
use Rattle.ev_types.specs.declared.events.Event.TheVariants.{Connect, Disconnect, Response, Health, FetchTimeout, DrainTimeout, TtlExpired, Publish, Reap, Accept, Close, Settle}
use Rattle.ev_types.specs.declared.events.Op.{Op}
use Rattle.ev_types.specs.declared.events.Op.TheVariants.{Connect as word_connect, Disconnect as word_disconnect, Response as word_response, Health as word_health, FetchTimeout as word_fetch_timeout, DrainTimeout as word_drain_timeout, TtlExpired as word_ttl_expired, Publish as word_publish, Reap as word_reap, Accept as word_accept, Close as word_close, Settle as word_settle}

-- the word of an event
abbrev pub op_of : Event → Op
op_of Connect = word_connect
op_of Disconnect = word_disconnect
op_of (Response response) = word_response
op_of (Health cluster host healthy) = word_health
op_of (FetchTimeout timeout) = word_fetch_timeout
op_of (DrainTimeout listener) = word_drain_timeout
op_of (TtlExpired kind name) = word_ttl_expired
op_of Publish = word_publish
op_of Reap = word_reap
op_of (Accept ask) = word_accept
op_of (Close connection) = word_close
op_of Settle = word_settle

-- the same word
abbrev pub op_same : Op → Op → Bool
op_same word_connect word_connect = true
op_same word_disconnect word_disconnect = true
op_same word_response word_response = true
op_same word_health word_health = true
op_same word_fetch_timeout word_fetch_timeout = true
op_same word_drain_timeout word_drain_timeout = true
op_same word_ttl_expired word_ttl_expired = true
op_same word_publish word_publish = true
op_same word_reap word_reap = true
op_same word_accept word_accept = true
op_same word_close word_close = true
op_same word_settle word_settle = true
op_same a b = false

-- the test holds of equal words alone
pub op_decides : (a b : Op) → Decides (op_same a b) (a ≡ b)
op_decides word_connect word_connect = (λ h. refl, λ e. refl)
op_decides word_disconnect word_disconnect = (λ h. refl, λ e. refl)
op_decides word_response word_response = (λ h. refl, λ e. refl)
op_decides word_health word_health = (λ h. refl, λ e. refl)
op_decides word_fetch_timeout word_fetch_timeout = (λ h. refl, λ e. refl)
op_decides word_drain_timeout word_drain_timeout = (λ h. refl, λ e. refl)
op_decides word_ttl_expired word_ttl_expired = (λ h. refl, λ e. refl)
op_decides word_publish word_publish = (λ h. refl, λ e. refl)
op_decides word_reap word_reap = (λ h. refl, λ e. refl)
op_decides word_accept word_accept = (λ h. refl, λ e. refl)
op_decides word_close word_close = (λ h. refl, λ e. refl)
op_decides word_settle word_settle = (λ h. refl, λ e. refl)
op_decides a b = (λ h. cc, λ e. cc)

-- the configuration stream
abbrev pub IsStream : Actor → Type 0
IsStream Stream = ⊤
IsStream health = ⊥
IsStream Timer = ⊥
IsStream Main = ⊥
IsStream (Worker worker) = ⊥

-- the health checker
abbrev pub IsHealth : Actor → Type 0
IsHealth Stream = ⊥
IsHealth health = ⊤
IsHealth Timer = ⊥
IsHealth Main = ⊥
IsHealth (Worker worker) = ⊥

-- the timers
abbrev pub IsTimer : Actor → Type 0
IsTimer Stream = ⊥
IsTimer health = ⊥
IsTimer Timer = ⊤
IsTimer Main = ⊥
IsTimer (Worker worker) = ⊥

-- an actor of the main side: no worker
abbrev pub IsMainSide : Actor → Type 0
IsMainSide Stream = ⊤
IsMainSide health = ⊤
IsMainSide Timer = ⊤
IsMainSide Main = ⊤
IsMainSide (Worker worker) = ⊥

-- one of this many workers
abbrev pub IsWorkerOf : ℕ → Actor → Type 0
IsWorkerOf workers Stream = ⊥
IsWorkerOf workers health = ⊥
IsWorkerOf workers Timer = ⊥
IsWorkerOf workers Main = ⊥
IsWorkerOf workers (Worker worker) = worker < workers

-- the actor may make the event, where there are this many workers
abbrev pub MayMake : ℕ → Actor → Event → Type 0
MayMake workers actor Connect = IsStream actor
MayMake workers actor Disconnect = IsStream actor
MayMake workers actor (Response response) = IsStream actor
MayMake workers actor (Health cluster host healthy) = IsHealth actor
MayMake workers actor (FetchTimeout timeout) = IsTimer actor
MayMake workers actor (DrainTimeout listener) = IsTimer actor
MayMake workers actor (TtlExpired kind name) = IsTimer actor
MayMake workers actor Publish = IsMainSide actor
MayMake workers actor Reap = IsMainSide actor
MayMake workers actor (Accept ask) = IsWorkerOf workers actor
MayMake workers actor (Close connection) = IsWorkerOf workers actor
MayMake workers actor Settle = IsWorkerOf workers actor

-- The events that the program holds.
use Rattle.serde_json.specs.View.{view}
use Rattle.ev_chains.specs.declared.events.ChainEvent.{ChainEvent}
use Rattle.ev_chains.specs.declared.events.ChainEvent.TheVariants as held
use Rattle.ev_chains.specs.Steps.{Event, Update, Accept, Close, DrainTimeout, Reap}

-- the event that is held
abbrev pub seen : ChainEvent → Event
seen (held.Listener message) = Update (view message.now)
seen (held.Accept conn port server) = Accept conn port server.now
seen (held.Close conn) = Close conn
seen held.DrainTimeout = DrainTimeout
seen held.Reap = Reap

-- What a worker's lines open and close, by how they were answered.
use Rattle.std.specs.Prelude.{◌≡◌, ℕ, true, if◌then◌else◌, List, [], ◌∷◌, ◌++◌, Option, None, Some}
use Rattle.std.specs.List.{list_any}
use Rattle.ev_types.specs.declared.events.Ask.{Ask}
use Rattle.ev_types.specs.declared.events.Event.{Event}
use Rattle.ev_types.specs.declared.events.Event.TheVariants.{Accept, Close}
use Rattle.ev_model.specs.World.{World, OpenMember}
use Rattle.ev_model.specs.Connections.{closed, is_open}
use Rattle.ev_model.specs.Dead.{is_open_on, picture_held}
use Rattle.ev_ledger.specs.Members.{HasOpened, member_on}
use Rattle.ev_ledger.specs.declared.open_on.On.{On}
use Rattle.ev_retirement.specs.Pictures.{HasPictures, PicturesParts}
use Rattle.ev_worker.specs.Batches.{accepted_as}
use Rattle.ev_worker.specs.Members.{on_of}
use Rattle.ev_worker.specs.declared.lines.Outcome.{Outcome}
use Rattle.ev_worker.specs.declared.lines.Outcome.TheVariants.{Accepted as accepted, Closed as was_closed}
use Rattle.ev_worker.specs.declared.lines.BatchLine.{BatchLine}

-- the connections with one more on a listener and, where it is forwarded, on a cluster; where one of this number is
-- open, or there is no listener, they stay as they are
abbrev pub opened_on : ℕ → ℕ → Option On → List OpenMember → List OpenMember
opened_on worker connection None opened = opened
opened_on worker connection (Some on) opened =
    if is_open opened worker connection then opened else opened ++ member_on worker connection on ∷ []

-- what an accept opens, by how it was answered
abbrev pub accept_leaves : ℕ → ℕ → Outcome → List OpenMember → List OpenMember
accept_leaves worker connection (accepted outcome) opened = opened_on worker connection (on_of outcome) opened
accept_leaves worker connection (was_closed outcome) opened = opened

-- at whatever world these pictures and this ledger represent, the worker's accept is answered so, by the picture that
-- it holds there
abbrev pub IsAccepted : PicturesParts → List OpenMember → ℕ → Ask → Outcome → Type 0
IsAccepted pictures ledger worker ask outcome = (world : World) → HasPictures pictures world → HasOpened ledger world.opened
    → outcome ≡ accepted (accepted_as (picture_held world worker) ask (is_open world.opened worker ask.conn))

-- a generation that a connection was open on has one open still
abbrev pub KeepsOpen : List OpenMember → List OpenMember → Type 0
KeepsOpen before after = (number : ℕ) → list_any (is_open_on number) before ≡ true → list_any (is_open_on number) after ≡ true

-- the connections that an event of a worker leaves, by how it was answered
abbrev pub event_leaves : ℕ → Event → Outcome → List OpenMember → List OpenMember
event_leaves worker (Accept ask) outcome opened = accept_leaves worker ask.conn outcome opened
event_leaves worker (Close connection) outcome opened = (closed connection worker opened).opened
event_leaves worker event outcome opened = opened

-- those that a line leaves
abbrev pub line_leaves : ℕ → BatchLine → List OpenMember → List OpenMember
line_leaves worker line opened = event_leaves worker line.event line.outcome opened

-- those that its lines leave, one after another
abbrev pub lines_leave : ℕ → List BatchLine → List OpenMember → List OpenMember
lines_leave worker [] opened = opened
lines_leave worker (line ∷ lines) opened = lines_leave worker lines (line_leaves worker line opened)

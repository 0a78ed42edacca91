-- The lines of a script after its header, by its profile and the words of their operations.
use Rattle.std.specs.Prelude.{ℕ, List, if◌then◌else◌, codes, Option, None, option_and_then}
use Rattle.std.specs.Str.{bytes_eq}
use Rattle.serde_json.specs.Data.{Data}
use Rattle.serde_json.specs.Find.{as_str}
use Rattle.ev_types.specs.declared.events.Line.{Line}
use Rattle.ev_types.specs.declared.events.Profile.{Profile}
use Rattle.ev_script.specs.Members.{member_of}
use Rattle.ev_script.specs.StreamLines.{connect_line, disconnect_line, response_line}
use Rattle.ev_script.specs.HealthLines.{health_line}
use Rattle.ev_script.specs.TimerLines.{timeout_line, drain_line, expired_line}
use Rattle.ev_script.specs.MainLines.{publish_line, reap_line}
use Rattle.ev_script.specs.WorkerLines.{accept_line, close_line, settle_line}

-- an operation of the main side
abbrev pub main_side_line : Profile → List ℕ → ℕ → Data → Option Line
main_side_line profile op at tree =
    if bytes_eq op (codes "connect") then connect_line at tree
    else if bytes_eq op (codes "disconnect") then disconnect_line at tree
    else if bytes_eq op (codes "response") then response_line profile at tree
    else if bytes_eq op (codes "health") then health_line at tree
    else if bytes_eq op (codes "fetchTimeout") then timeout_line profile at tree
    else if bytes_eq op (codes "drainTimeout") then drain_line at tree
    else if bytes_eq op (codes "ttlExpired") then expired_line profile at tree
    else if bytes_eq op (codes "publish") then publish_line at tree
    else if bytes_eq op (codes "reap") then reap_line at tree
    else None

-- any operation
abbrev pub line_by : Profile → List ℕ → ℕ → Data → Option Line
line_by profile op at tree =
    if bytes_eq op (codes "accept") then accept_line profile at tree
    else if bytes_eq op (codes "close") then close_line at tree
    else if bytes_eq op (codes "settle") then settle_line at tree
    else main_side_line profile op at tree

-- the line at this place that a tree is, or none where it isn't one
abbrev pub line_of : Profile → ℕ → Data → Option Line
line_of profile at tree = option_and_then (λ op. line_by profile op at tree) (member_of as_str (codes "op") tree)

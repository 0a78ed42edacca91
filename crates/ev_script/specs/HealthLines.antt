-- The lines of the health checker.
use Rattle.std.specs.Prelude.{ℕ, [], ◌∷◌, codes, Option, option_map, option_and_then}
use Rattle.serde_json.specs.Data.{Data}
use Rattle.serde_json.specs.Find.{as_bool}
use Rattle.ev_types.specs.declared.events.Line.{Line}
use Rattle.ev_types.specs.declared.events.Event.{Event}
use Rattle.ev_types.specs.declared.events.Actor.TheVariants.{Health as health}
use Rattle.ev_types.specs.declared.events.Event.TheVariants.{Health}
use Rattle.ev_script.specs.Members.{name_of, member_of}
use Rattle.ev_script.specs.LineForms.{line_at, with_only, host_in}

-- a cluster's name, a host and whether it is healthy
abbrev pub health_in : Data → Option Event
health_in tree = option_and_then
    (λ cluster. option_and_then
    (λ host. option_map (λ healthy. Health cluster host healthy) (member_of as_bool (codes "healthy") tree))
    (host_in tree))
    (member_of name_of (codes "cluster") tree)

-- `health`: a health check of a cluster's host ended. Its members are `cluster`, `address`, `port` and
-- `healthy`.
abbrev pub health_line : ℕ → Data → Option Line
health_line at tree =
    with_only (codes "cluster" ∷ codes "address" ∷ codes "port" ∷ codes "healthy" ∷ []) tree (line_at at health (health_in tree))

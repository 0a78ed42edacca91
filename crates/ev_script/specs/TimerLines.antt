-- The lines of the timers.
use Rattle.std.specs.Prelude.{ℕ, [], ◌∷◌, if◌then◌else◌, codes, Option, None, Some, option_map, option_and_then}
use Rattle.serde_json.specs.Data.{Data}
use Rattle.ev_types.specs.declared.contents.Kind.{Kind}
use Rattle.ev_types.specs.Kinds.{is_by_name}
use Rattle.ev_types.specs.declared.events.Line.{Line}
use Rattle.ev_types.specs.declared.events.Profile.{Profile}
use Rattle.ev_types.specs.declared.events.Event.{Event}
use Rattle.ev_types.specs.declared.events.Actor.TheVariants.{Timer}
use Rattle.ev_types.specs.declared.events.Event.TheVariants.{FetchTimeout, DrainTimeout, TtlExpired}
use Rattle.ev_script.specs.Members.{name_of, member_of}
use Rattle.ev_script.specs.LineForms.{line_at, with_only, kind_in}

-- the fetch timeout of all clusters or all listeners, which has no other member than its type
abbrev pub whole_timeout : Kind → Data → Option Event
whole_timeout kind tree = with_only (codes "type" ∷ []) tree (Some (FetchTimeout (record { kind = kind; name = None })))

-- the fetch timeout of one name of a type whose resources are asked for by name
abbrev pub named_timeout : Kind → Data → Option Event
named_timeout kind tree =
    with_only (codes "type" ∷ codes "name" ∷ []) tree
    (option_map (λ name. FetchTimeout (record { kind = kind; name = Some name })) (member_of name_of (codes "name") tree))

-- the fetch timeout of a type
abbrev pub timeout_of : Kind → Data → Option Event
timeout_of kind tree = if is_by_name kind then named_timeout kind tree else whole_timeout kind tree

-- `fetchTimeout`: an initial fetch timeout came. Its members are `type`, and `name` exactly for the
-- types whose resources are asked for by name.
abbrev pub timeout_line : Profile → ℕ → Data → Option Line
timeout_line profile at tree = line_at at Timer (option_and_then (λ kind. timeout_of kind tree) (kind_in profile tree))

-- `drainTimeout`: the drain timeout of a listener's old generations came. Its member is `listener`.
abbrev pub drain_line : ℕ → Data → Option Line
drain_line at tree =
    with_only (codes "listener" ∷ []) tree (line_at at Timer (option_map (λ name. DrainTimeout name) (member_of name_of (codes "listener") tree)))

-- a type and a name
abbrev pub expired_in : Profile → Data → Option Event
expired_in profile tree = option_and_then (λ kind. option_map (λ name. TtlExpired kind name) (member_of name_of (codes "name") tree)) (kind_in profile tree)

-- `ttlExpired`: the time to live of a resource came to its end. Its members are `type` and `name`.
abbrev pub expired_line : Profile → ℕ → Data → Option Line
expired_line profile at tree = with_only (codes "type" ∷ codes "name" ∷ []) tree (line_at at Timer (expired_in profile tree))

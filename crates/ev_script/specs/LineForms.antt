-- What the forms of all lines have in common. A line after the header is an object with a member `op`,
-- the word of its operation, and exactly the members of that operation; one with a default may be
-- absent.
use Rattle.std.specs.Prelude.{ℕ, List, ◌∷◌, if◌then◌else◌, codes, Option, None, Some, option_map, option_and_then}
use Rattle.std.specs.Str.{bytes_eq}
use Rattle.serde_json.specs.Data.{Data}
use Rattle.serde_json.specs.Find.{as_str}
use Rattle.ev_types.specs.declared.contents.Kind.{Kind}
use Rattle.ev_types.specs.declared.contents.Kind.TheVariants.{Cds, Eds, Lds, Rds, Sds, Ecds}
use Rattle.ev_types.specs.declared.events.Actor.{Actor}
use Rattle.ev_types.specs.declared.events.Event.{Event}
use Rattle.ev_types.specs.declared.events.Line.{Line}
use Rattle.ev_types.specs.declared.events.Profile.{Profile}
use Rattle.ev_types.specs.declared.hosts.Host.{Host}
use Rattle.ev_wire.specs.Kinds.{read_in}
use Rattle.ev_script.specs.Members.{has_only, whole_within, name_of, member_of}

-- the line of an actor's event, where the object has the event's members
abbrev pub line_at : ℕ → Actor → Option Event → Option Line
line_at at actor event = option_map (λ e. record { at = at; actor = actor; event = e }) event

-- what an object with the member `op` and no other but these is
abbrev pub with_only : {A : Type 0} → List (List ℕ) → Data → Option A → Option A
with_only names tree form = if has_only (codes "op" ∷ names) tree then form else None

-- an address and a port: a name, and 0 to 65535
abbrev pub host_in : Data → Option Host
host_in tree = option_and_then
    (λ address. option_map (λ port. record { address = address; port = port }) (member_of (whole_within 0 65535) (codes "port") tree))
    (member_of name_of (codes "address") tree)

-- a type of resource, by its word
abbrev pub kind_with : List ℕ → Option Kind
kind_with word =
    if bytes_eq word (codes "cds") then Some Cds
    else if bytes_eq word (codes "eds") then Some Eds
    else if bytes_eq word (codes "lds") then Some Lds
    else if bytes_eq word (codes "rds") then Some Rds
    else if bytes_eq word (codes "sds") then Some Sds
    else if bytes_eq word (codes "ecds") then Some Ecds
    else None

-- the member `type`: a type that the profile reads
abbrev pub kind_in : Profile → Data → Option Kind
kind_in profile tree = option_and_then (read_in profile) (option_and_then kind_with (member_of as_str (codes "type") tree))

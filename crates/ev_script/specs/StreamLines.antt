-- The lines of the configuration stream.
use Rattle.std.specs.Prelude.{ℕ, [], ◌∷◌, codes, Option, Some, option_map}
use Rattle.serde_json.specs.Data.{Data}
use Rattle.ev_types.specs.declared.events.Line.{Line}
use Rattle.ev_types.specs.declared.events.Profile.{Profile}
use Rattle.ev_types.specs.declared.events.Actor.TheVariants.{Stream}
use Rattle.ev_types.specs.declared.events.Event.TheVariants.{Connect, Disconnect, Response}
use Rattle.ev_wire.specs.Responses.{response_of}
use Rattle.ev_script.specs.Members.{member_of}
use Rattle.ev_script.specs.LineForms.{line_at, with_only}

-- `connect`: the stream opens. It has no member.
abbrev pub connect_line : ℕ → Data → Option Line
connect_line at tree = with_only [] tree (line_at at Stream (Some Connect))

-- `disconnect`: the stream is lost. It has no member.
abbrev pub disconnect_line : ℕ → Data → Option Line
disconnect_line at tree = with_only [] tree (line_at at Stream (Some Disconnect))

-- `response`: a message comes on the stream. `message` is a response of incremental xDS,
-- whose resources are read by the profile.
abbrev pub response_line : Profile → ℕ → Data → Option Line
response_line profile at tree =
    with_only (codes "message" ∷ []) tree
    (line_at at Stream (option_map (λ response. Response response) (member_of (response_of profile) (codes "message") tree)))

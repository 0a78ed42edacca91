-- The lines of a script whose responses are those of the state of the world. All other lines are as in a script.
use Rattle.std.specs.Prelude.{ℕ, List, [], ◌∷◌, if◌then◌else◌, codes, Option, None, Some, option_map}
use Rattle.serde_json.specs.Data.{Data}
use Rattle.ev_types.specs.declared.events.Profile.{Profile}
use Rattle.ev_script.specs.Members.{member_of, is_op}
use Rattle.ev_script.specs.LineForms.{with_only}
use Rattle.ev_script.specs.Faults.{LineForms}
use Rattle.ev_script.specs.OwnOperations.{lines_with}
use Rattle.ev_sotw.specs.Discovery.{DiscoveryParts, discovery_of}

-- the response of the state of the world that a line of a script in a profile brings, or none where it isn't such a
-- line: `message` is its only member beside `op`
abbrev pub response_in : Profile → Data → Option DiscoveryParts
response_in profile tree =
    if is_op (codes "response") tree then with_only (codes "message" ∷ []) tree (member_of (discovery_of profile) (codes "message") tree) else None

-- a line with a response: it names no worker
abbrev pub state_line : Profile → Data → Option (Option ℕ)
state_line profile tree = option_map (λ response. None) (response_in profile tree)

-- the forms of the lines
abbrev pub sotw_lines : LineForms
sotw_lines = lines_with (codes "response") state_line

-- the version of a response, where there is one
abbrev pub version_of : Option DiscoveryParts → List ℕ
version_of None = []
version_of (Some response) = response.version

-- the version of the response that a line brings, and the empty text where it brings none
abbrev pub version_in : Profile → Data → List ℕ
version_in profile tree = version_of (response_in profile tree)

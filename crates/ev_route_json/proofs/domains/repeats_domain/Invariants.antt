use Rattle.std.proofs.Common.{◌≡◌, map, take, string_bytes}
use Rattle.std.specs.List.{flat_map}
use Rattle.std.specs.Str.{str_to_ascii_lowercase}
use Rattle.ev_route_json.proofs.domains.repeats_domain.Given as goal

abbrev pub invariant-loop-host : goal.invariant-loop-host
invariant-loop-host l = map string_bytes l.domains.items ≡ map str_to_ascii_lowercase (flat_map (λ h. h.domains) (take l.host-index l.hosts))

use Rattle.std.proofs.Common.{◌≡◌, drop}
use Rattle.std.specs.Str.{bytes_eq, str_to_ascii_lowercase}
use Rattle.ev_routes.proofs.texts.is_lower.Given as goal

abbrev pub invariant-loop-place : goal.invariant-loop-place
invariant-loop-place l = bytes_eq (str_to_ascii_lowercase (drop l.place l.text)) (drop l.place l.lower) ≡ bytes_eq (str_to_ascii_lowercase l.text) l.lower

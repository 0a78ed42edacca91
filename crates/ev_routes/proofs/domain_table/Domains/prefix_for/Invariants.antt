use Rattle.std.specs.Str.{str_to_ascii_lowercase}
use Rattle.ev_model.specs.Choice.{has_prefix}
use Rattle.ev_routes.proofs.Patterns.{FitsWithin}
use Rattle.ev_routes.proofs.domain_table.Domains.prefix_for.Given as goal

abbrev pub invariant-loop-beside : goal.invariant-loop-beside
invariant-loop-beside l = FitsWithin (has_prefix (str_to_ascii_lowercase l.host)) l.beside l.self

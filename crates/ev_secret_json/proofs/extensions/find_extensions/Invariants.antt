use Rattle.std.proofs.Common.{◌≡◌, map, take}
use Rattle.serde_json.specs.View.{view}
use Rattle.ev_secret_json.specs.References.{each_joined}
use Rattle.ev_secret_json.specs.Extensions.{filter_extension}
use Rattle.ev_secret_json.proofs.extensions.find_extensions.Given as goal

abbrev pub invariant-loop-filter : goal.invariant-loop-filter
invariant-loop-filter l = l.found ≡ each_joined filter_extension (map view (take l.filter-index l.filters))

use Rattle.std.proofs.Common.{◌≡◌, ℕ, ◌+◌, List, drop, length}
use Rattle.std.specs.Str.{bytes_eq}
use Rattle.indexmap.specs.IndexMap.{get}
use Rattle.ev_routes.specs.Domains.{host_at}
use Rattle.ev_routes.specs.Paths.{first_with, place_or}
use Rattle.ev_routes.proofs.path_index.places_of.Given as goal

abbrev pub invariant-loop-route : goal.invariant-loop-route
invariant-loop-route l =
    (key : List ℕ) → place_or (length (host_at l.table.hosts l.host).routes) (get bytes_eq l.places key)
    ≡ l.route + first_with key (drop l.route (host_at l.table.hosts l.host).routes)

-- The index of a virtual host's routes.
use Rattle.std.specs.Prelude.{◌≡◌, true, ⊤, List, Option, Some, None}
use Rattle.std.specs.Str.{bytes_eq}
use Rattle.indexmap.specs.IndexMap.{get}
use Rattle.ev_types.specs.declared.routes.Route.{Route}
use Rattle.ev_routes.specs.Paths.{AreCovered, FindsFirst, are_by_path}
use Rattle.ev_routes.specs.declared.path_index.PathIndex.{PathIndex}

-- the index has the first place of each match of these routes, and the length of each prefix
pub record IsIndexed (routes : List Route) (index : PathIndex) : Type 0 where
  pub places : FindsFirst routes (get bytes_eq index.places)
  pub lengths : AreCovered index.lengths routes

-- the index is of these routes, and each asks for its path alone, if there is one
abbrev pub MayIndex : List Route → Option PathIndex → Type 0
MayIndex routes None = ⊤
MayIndex routes (Some index) = (are_by_path routes ≡ true) × IsIndexed routes index

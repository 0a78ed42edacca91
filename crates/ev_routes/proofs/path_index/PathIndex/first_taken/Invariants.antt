use Rattle.std.proofs.Common.{◌≡◌, ◌&&◌, take}
use Rattle.std.specs.List.{position_or_len}
use Rattle.ev_types.specs.declared.routes.Route.{Route}
use Rattle.ev_model.specs.Paths.{is_path_taken}
use Rattle.ev_routes.specs.Paths.{is_covered, path_of}
use Rattle.ev_routes.proofs.path_index.PathIndex.first_taken.Given as goal

abbrev pub invariant-loop-length : goal.invariant-loop-length
invariant-loop-length l =
    l.first ≡ position_or_len (λ (r : Route). is_covered (take l.length-index l.self.lengths) (path_of r) && is_path_taken l.path (path_of r)) l.routes

use Rattle.std.proofs.Common.{sym, arith}
use Rattle.ev_types.specs.declared.routes.Route.{Route}
use Rattle.ev_routes.specs.Paths.{is_prefix_taken, path_of}
use Rattle.ev_routes.proofs.Firsts.{first_never, prefix_none}
use Rattle.ev_routes.proofs.path_index.PathIndex.first_prefix.Goals as goal

pub returns-then-path-length : goal.returns-then-path-length
returns-then-path-length c =
    let path = c.args.path.now in
    sym (first_never (λ (r : Route). is_prefix_taken c.args.length path (path_of r)) (λ r. prefix_none c.args.length path (omega arith) (path_of r)) c.args.routes.now)

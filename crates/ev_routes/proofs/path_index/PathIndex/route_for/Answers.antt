use Rattle.std.proofs.Common.{sym, ap, ◌∙◌, slice_get}
use Rattle.std.proofs.lemmas.List.Folds.{find_at}
use Rattle.ev_types.specs.declared.routes.Route.{Route}
use Rattle.ev_model.specs.Paths.{is_path_taken}
use Rattle.ev_routes.specs.Paths.{path_of}
use Rattle.ev_routes.proofs.path_index.PathIndex.route_for.Goals as goal

pub returns : goal.returns
returns c =
    let routes = c.args.routes.now in
    let takes = λ (r : Route). is_path_taken c.args.path.now (path_of r) in
    c.route_at.ensures ∙ ap (slice_get routes) c.first_taken.ensures ∙ sym (find_at takes routes)

use Rattle.std.proofs.Common.{◌≡◌, ◌∙◌, true, find, ap}
use Rattle.ev_types.specs.declared.routes.Route.{Route}
use Rattle.ev_types.specs.declared.routes.VirtualHost.{VirtualHost}
use Rattle.ev_model.specs.Choice.{requested_of}
use Rattle.ev_model.specs.Paths.{is_path_taken}
use Rattle.ev_routes.specs.Paths.{are_by_path, path_of}
use Rattle.ev_routes.proofs.ByPath.{found_by_path}
use Rattle.ev_routes.proofs.routes.route_for.Goals as goal

pub returns-in-Some : goal.returns-in-Some
returns-in-Some c =
    let routes = c.args.host.now.routes in
    let all : are_by_path routes ≡ true = c.in-Some.ensures.0 in
    c.route_for.ensures
    ∙ (λ i. find (λ (r : Route). is_path_taken ((c.as_bytes-path.ensures.value ∙ c.as_str.ensures.bytes) i) (path_of r))
    ((c.as_slice.ensures.elements ∙ ap (λ (h : VirtualHost). h.routes) c.host.ensures) i))
    ∙ found_by_path (requested_of c.args.ask.now) routes all

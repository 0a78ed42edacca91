-- Where routes ask for paths alone, the first that takes a path is the first that doesn't say no.
use Rattle.std.proofs.Common.{◌≡◌, ◌==◌, not, Bool, true, false, cond, List, [], ◌∷◌, length, find, Some, refl, arith}
use Rattle.std.specs.Cmp.{first_so, second_so}
use Rattle.std.proofs.lemmas.Bool.Decides.{nat_tests}
use Rattle.std.proofs.lemmas.Grind.{common_steps}
use Rattle.ev_types.specs.declared.matchers.PathSpecifier.{PathSpecifier}
use Rattle.ev_types.specs.declared.matchers.PathSpecifier.TheVariants.{Cased, Folded, Connect, Open as open_path}
use Rattle.ev_types.specs.declared.matchers.RouteCondition.{RouteCondition}
use Rattle.ev_types.specs.declared.routes.Route.{Route}
use Rattle.ev_model.specs.Conditions.{Requested, is_no, match_says, taken_by, yes_if}
use Rattle.ev_model.specs.Paths.{is_path_taken}
use Rattle.ev_routes.specs.Paths.{are_by_path, cased_match, is_by_path, is_cased, path_of}

-- what a route of these says
one_says : (b : Bool) → b ≡ not (is_no (taken_by (yes_if b ∷ [])))
one_says true = refl
one_says false = refl

says_by_path : (request : Requested) (path : PathSpecifier) (conditions : List RouteCondition) → is_cased path ≡ true → (length conditions == 0) ≡ true
    → is_path_taken request.path (cased_match path) ≡ not (is_no (match_says request (record { path = path; conditions = conditions })))
says_by_path request (Cased path) [] cased none = one_says (is_path_taken request.path path)
says_by_path request (Cased path) (c ∷ cs) cased none = grind (arith, common_steps, nat_tests)
says_by_path request (Folded path) conditions cased none = absurd (cc)
says_by_path request Connect conditions cased none = absurd (cc)
says_by_path request open_path conditions cased none = absurd (cc)

pub found_by_path : (request : Requested) (routes : List Route) → are_by_path routes ≡ true
    → find (λ (r : Route). is_path_taken request.path (path_of r)) routes ≡ find (λ (r : Route). not (is_no (match_says request r.route_match))) routes
found_by_path request [] all = refl
found_by_path request (r ∷ routes) all =
    let here : is_by_path r ≡ true = first_so (is_by_path r) (are_by_path routes) all in
    let cased : is_cased r.route_match.path ≡ true = first_so (is_cased r.route_match.path) (length r.route_match.conditions == 0) here in
    let none : (length r.route_match.conditions == 0) ≡ true = second_so (is_cased r.route_match.path) (length r.route_match.conditions == 0) here in
    let says : is_path_taken request.path (path_of r) ≡ not (is_no (match_says request r.route_match)) =
    says_by_path request r.route_match.path r.route_match.conditions cased none in
    let rest = found_by_path request routes (second_so (is_by_path r) (are_by_path routes) all) in
    λ i. cond (says i) (Some r) (rest i)

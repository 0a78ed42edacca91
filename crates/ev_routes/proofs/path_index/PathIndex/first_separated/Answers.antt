use Rattle.std.proofs.Common.{◌≡◌, ◌∷◌, false, true, take, sym, ap, ◌∙◌}
use Rattle.std.specs.Str.{bytes_eq}
use Rattle.ev_types.specs.declared.routes.Route.{Route}
use Rattle.ev_model.specs.Paths.{without_query}
use Rattle.ev_routes.specs.Paths.{first_with, is_part, is_separated_taken, match_key, path_of}
use Rattle.ev_routes.proofs.Firsts.{first_never, first_same, separated_key, separated_none}
use Rattle.ev_routes.proofs.path_index.PathIndex.first_separated.Goals as goal

pub returns-then-not-is_part : goal.returns-then-not-is_part
returns-then-not-is_part c =
    let path = c.args.path.now in
    let length = c.args.length in
    let part : is_part length (without_query path) ≡ false =
    ap (is_part length) (sym c.requires.bare) ∙ sym c.is_part.ensures ∙ c.if-not-is_part.true in
    sym (first_never (λ (r : Route). is_separated_taken length path (path_of r)) (λ r. separated_none length path part (path_of r)) c.args.routes.now)

pub returns : goal.returns
returns c =
    let path = c.args.path.now in
    let length = c.args.length in
    let routes = c.args.routes.now in
    let part : is_part length (without_query path) ≡ true =
    ap (is_part length) (sym c.requires.bare) ∙ sym c.is_part.ensures ∙ c.if-not-is_part.false in
    let key = c.new.ensures ∙ ap (λ bytes. 2 ∷ bytes) c.split_at.ensures.front ∙ ap (λ bytes. 2 ∷ take length bytes) c.requires.bare in
    c.first_with.ensures
    ∙ ap (λ k. first_with k routes) key
    ∙ first_same (λ (r : Route). bytes_eq (match_key (path_of r)) (2 ∷ take length (without_query path))) (λ (r : Route). is_separated_taken length path (path_of r))
    (λ r. separated_key length path part (path_of r)) routes

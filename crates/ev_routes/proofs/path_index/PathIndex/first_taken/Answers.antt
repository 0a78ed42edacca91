use Rattle.std.proofs.Common.{◌≤◌, ◌&&◌, List, ℕ, length, min, get_or, ap, ◌∙◌, arith}
use Rattle.std.proofs.lemmas.List.{take_all}
use Rattle.std.specs.List.{position_or_len}
use Rattle.ev_types.specs.declared.routes.Route.{Route}
use Rattle.ev_model.specs.Paths.{is_path_taken}
use Rattle.ev_routes.specs.Paths.{is_covered, path_of}
use Rattle.ev_routes.proofs.Firsts.{first_covered, first_step}
use Rattle.ev_routes.proofs.path_index.PathIndex.first_taken.Goals as goal

pub loop-length-preserved : goal.loop-length-preserved
loop-length-preserved c =
    let same = c.as_slice-length-items.ensures.elements in
    let lengths = c.args.self.now.lengths in
    let index = c.loop-length.length-index in
    c.min-first.ensures
    ∙ ap (λ k. min k c.first_separated.result) c.min.ensures
    ∙ (λ i. min (min (c.loop-length.invariant i) (c.first_prefix.ensures i)) (c.first_separated.ensures i))
    ∙ first_step lengths c.args.path.now c.args.routes.now index _ (omega (arith, ap length same)) (ap (λ l. get_or l index 0) same)

pub returns : goal.returns
returns c =
    let same = c.as_slice-length-items.ensures.elements in
    let lengths = c.args.self.now.lengths in
    let index = c.loop-length.length-index in
    let path = c.args.path.now in
    let routes = c.args.routes.now in
    let past : length lengths ≤ index = omega (arith, ap length same) in
    c.loop-length.invariant
    ∙ ap (λ (ns : List ℕ). position_or_len (λ (r : Route). is_covered ns (path_of r) && is_path_taken path (path_of r)) routes) (take_all index lengths past)
    ∙ first_covered lengths path routes c.requires.lengths

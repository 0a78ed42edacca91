use Rattle.std.proofs.Common.{◌∙◌, ◌++◌, ap, option_map, option_to_list}
use Rattle.std.specs.Prelude.{filter_map}
use Rattle.ev_types.specs.declared.origins.ChainPlace.TheVariants.{At}
use Rattle.ev_model.specs.Origins.{placed_from}
use Rattle.ev_warming.specs.Chains.{default_kept, kept_by, origin_by}
use Rattle.ev_warming.proofs.ChainLemmas.{all-kept, kept_chain}
use Rattle.ev_warming.proofs.chains.kept_with_places.Goals as goal

pub returns : goal.returns
returns c =
    let row = c.args.row.now in
    let before = c.args.before.now in
    let update = c.args.update.now in
    let origins = c.in_ok-origins.origins in
    c.from_vec.ensures.elements
    ∙ c.in_ok-push_default.ensures
    ∙ ap (λ ks. ks ++ option_to_list (default_kept row before.default_filter_chain update.default_filter_chain))
    (c.in_ok-kept.ensures ∙ ap (λ cs. filter_map (kept_by origins) (placed_from 0 cs)) c.as_slice-2.ensures.elements)
    ∙ all-kept row before.filter_chains before.default_filter_chain (kept_by origins)
    (λ place chain. ap (option_map (kept_chain (At place)))
    (c.in_ok-origins.ensures chain.body_text ∙ ap (λ cs. origin_by row (placed_from 0 cs) chain.body_text) c.as_slice.ensures.elements))
    update.filter_chains update.default_filter_chain

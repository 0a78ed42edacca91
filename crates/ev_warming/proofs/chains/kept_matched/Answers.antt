use Rattle.std.proofs.Common.{◌≡◌, ◌∙◌, ◌+◌, ◌∷◌, ◌++◌, ap, drop, sym, arith}
use Rattle.std.specs.Prelude.{filter_map}
use Rattle.std.proofs.lemmas.Grind.{common_steps}
use Rattle.std.proofs.lemmas.List.{drop_more}
use Rattle.ev_types.specs.declared.origins.ChainPlace.TheVariants.{At}
use Rattle.ev_model.specs.Origins.{placed_from}
use Rattle.ev_warming.specs.Chains.{kept_by}
use Rattle.ev_warming.proofs.ChainLemmas.{kept-more}
use Rattle.ev_warming.proofs.chains.kept_matched.Goals as goal

pub loop-chain-preserved : goal.loop-chain-preserved
loop-chain-preserved c =
    let kept = kept_by c.args.origins.now in
    let chains = c.args.chains.now in
    let at = c.loop-chain.chain-index in
    let place = c.loop-chain.place in
    let rest = filter_map kept (placed_from (place + 1) (drop (at + 1) chains)) in
    let next : c.in_ok-place.place ≡ place + 1 = grind (arith, common_steps) in
    ap (λ p. c.push_kept.new.kept.items ++ filter_map kept (placed_from p (drop (at + 1) chains))) next
    ∙ (λ i. c.in_ok-push_kept.ensures i ++ rest)
    ∙ kept-more c.loop-chain.kept.items (kept (record { place = At place; chain = c.chain-item.result })) rest
    ∙ ap (λ cs. c.loop-chain.kept.items ++ filter_map kept (placed_from place cs))
    (sym (drop_more chains at c.chain-item.result c.loop-chain-test.true ∙ ap (λ x. x ∷ drop (at + 1) chains) (sym c.chain-item.is)))
    ∙ c.loop-chain.invariant

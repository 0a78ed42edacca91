use Rattle.std.proofs.Common.{◌≡◌, ◌∙◌, ◌+◌, ◌-◌, ◌<◌, ◌∷◌, Some, cond, drop, length, ap, sym, arith}
use Rattle.std.specs.Str.{bytes_eq}
use Rattle.std.proofs.lemmas.List.{drop_more}
use Rattle.ev_types.specs.declared.listeners.FilterChain.{FilterChain}
use Rattle.ev_types.specs.declared.origins.ChainPlace.TheVariants.{At}
use Rattle.ev_model.specs.Origins.{placed_from}
use Rattle.ev_warming.specs.Chains.{origin_by}
use Rattle.ev_warming.proofs.ChainLemmas.{origin-more}
use Rattle.ev_warming.proofs.chains.origins.Goals as goal

pub chains-preserved : goal.chains-preserved
chains-preserved c =
    let chains = c.args.chains.now in
    let place = c.chains.place - 1 in
    let chain = c.index-chains-place.result in
    let within : place < length chains = omega (arith, c.chains.invariant.within, c.chains-test.true) in
    let next : c.chains.place ≡ place + 1 = omega arith in
    let here : drop place chains ≡ chain ∷ drop (place + 1) chains =
    drop_more chains place chain within ∙ ap (λ (x : FilterChain). x ∷ drop (place + 1) chains) (sym c.index-chains-place.is) in
    record {
      within = omega arith;
      have = λ text.
          c.in_ok-put_origin.ensures text
          ∙ (λ i. cond (bytes_eq chain.body_text text) (Some (c.origin_of-origin.ensures c.args.row.now.kept c.requires.kept i)) ((c.chains.invariant.have text
          ∙ ap (λ n. origin_by c.args.row.now (placed_from n (drop n chains)) text) next) i))
          ∙ sym (origin-more c.args.row.now (record { place = At place; chain = chain }) (placed_from (place + 1) (drop (place + 1) chains)) text)
          ∙ (λ i. origin_by c.args.row.now (placed_from place (sym here i)) text);
    }

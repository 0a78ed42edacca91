use Rattle.std.proofs.Common.{◌≡◌, filter, length, ◌∙◌, rules}
use Rattle.std.proofs.lemmas.Result.{IfOk-weaker}
use Rattle.std.proofs.lemmas.Iterator.{YieldsList-from_map}
use Rattle.std.proofs.lemmas.Iterator.Adapters.{fact_from_collect}
use Rattle.std.proofs.lemmas.Iterator.Consumers.{YieldsList-from_rest, YieldsList-at}
use Rattle.ev_retirement.specs.Closing.{is_place_of, number_of}
use Rattle.ev_retirement.proofs.SettleLemmas.{range_of_worker}
use Rattle.ev_retirement.proofs.closing.numbers_in.Goals as goal

pub returns : goal.returns
returns c = record {
  numbers =
      IfOk-weaker c.collect.result _ _ (λ v h. h.0)
      (fact_from_collect (λ xs v. (v.items ≡ xs) × (v.len ≡ length xs)) c.collect.result c.collect.ensures.ran
      (YieldsList-from_map _ number_of
      (YieldsList-at c.map.ensures.source
      (YieldsList-from_rest (filter (is_place_of c.args.worker) c.args.places.now.keys)
      (c.range.ensures.between tt ∙ range_of_worker c.args.worker c.args.places.now)))
      c.map.ensures.closure (λ x r q k. search rules)));
  ordered = c.len.ensures.ordered;
}

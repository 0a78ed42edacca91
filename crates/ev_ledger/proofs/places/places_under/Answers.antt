use Rattle.std.proofs.Common.{◌≡◌, filter, length, ◌∙◌, rules}
use Rattle.std.proofs.lemmas.Result.{IfOk-weaker}
use Rattle.std.proofs.lemmas.Iterator.{YieldsList-from_map}
use Rattle.std.proofs.lemmas.Iterator.Adapters.{fact_from_collect}
use Rattle.std.proofs.lemmas.Iterator.Consumers.{YieldsList-from_rest, YieldsList-at}
use Rattle.ev_ledger.specs.Entries.{place_of, stands_on}
use Rattle.ev_ledger.proofs.IndexLemmas.{range_of_listener}
use Rattle.ev_ledger.proofs.places.places_under.Goals as goal

pub returns : goal.returns
returns c =
    IfOk-weaker c.collect.result _ _ (λ v h. h.0)
    (fact_from_collect (λ xs v. (v.items ≡ xs) × (v.len ≡ length xs)) c.collect.result c.collect.ensures.ran
    (YieldsList-from_map _ place_of
    (YieldsList-at c.map.ensures.source
    (YieldsList-from_rest (filter (stands_on c.args.number) c.args.places.now.keys)
    (c.range.ensures.between tt ∙ range_of_listener c.args.number c.args.places.now)))
    c.map.ensures.closure (λ x r q k. search rules)))

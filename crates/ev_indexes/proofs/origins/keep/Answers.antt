use Rattle.std.proofs.Common.{◌∙◌, sym}
use Rattle.indexmap.specs.IndexMap.{get}
use Rattle.ev_types.specs.Origins.{chain_place_same}
use Rattle.ev_indexes.proofs.OriginLemmas.{keeps-new, keeps-old}
use Rattle.ev_indexes.proofs.origins.keep.Goals as goal

pub returns-in-Ok : goal.returns-in-Ok
returns-in-Ok c = λ kept are.
    keeps-new (get chain_place_same c.args.places.now) c.args.chain.now kept are (get chain_place_same c.insert.new.self)
    (sym c.contains_key.ensures ∙ c.if-not-contains_key.true) c.in-Ok.ensures.updates.0

pub returns-else-not-contains_key : goal.returns-else-not-contains_key
returns-else-not-contains_key c = λ kept are.
    keeps-old (get chain_place_same c.args.places.now) c.args.chain.now kept are (sym c.contains_key.ensures ∙ c.if-not-contains_key.false)

use Rattle.std.proofs.Common.{◌∙◌, ◌++◌, ◌∷◌, [], None, Some, cond, sym}
use Rattle.std.specs.Option.{option_or}
use Rattle.indexmap.specs.IndexMap.{get}
use Rattle.ev_layers.proofs.Layered.{below_more}
use Rattle.ev_layers.proofs.Maps.{push_front}
use Rattle.ev_layers.proofs.table.put_below.Goals as goal

pub loop-key-preserved : goal.loop-key-preserved
loop-key-preserved g c =
    let eq = g.K.PartialEq.eq in
    let done = c.loop-key.invariant.0 in
    let rest = c.next.new.self in
    let key = c.in-Some.key.now in
    let value = c.in-Some.value.now in (
      done ++ (key, value) ∷ [],
      push_front done (key, value) rest ∙ sym (λ i. done ++ c.in-Some.ensures.steps i) ∙ c.loop-key.invariant.1,
      λ q. c.in_ok-put_new.ensures q
          ∙ (λ i. option_or (c.loop-key.invariant.2 q i) (cond (eq key q) (Some value) None))
          ∙ below_more eq g.met.K.Eq.laws (get eq c.args.map.now q) done key value q,
    )

use Rattle.std.proofs.Common.{◌≡◌, ◌∙◌, ◌++◌, ◌∷◌, [], cond, sym, ap, subst}
use Rattle.std.specs.List.{IsDistinct}
use Rattle.std.specs.Map.{keys_of}
use Rattle.indexmap.specs.IndexMap.{get}
use Rattle.ev_layers.proofs.Maps.{over_more, push_front}
use Rattle.ev_layers.proofs.table.put_over.Goals as goal

pub loop-key-preserved : goal.loop-key-preserved
loop-key-preserved g c =
    let eq = g.K.PartialEq.eq in
    let done = c.loop-key.invariant.0 in
    let rest = c.next.new.self in
    let key = c.in-Some.key.now in
    let value = c.in-Some.value.now in
    let full : c.args.over.now.entries ≡ done ++ (key, value) ∷ rest = sym c.loop-key.invariant.1 ∙ (λ i. done ++ c.in-Some.ensures.steps i) in
    let apart = subst (λ es. IsDistinct eq (keys_of es)) full c.into_iter-key-iterator.ensures.into_iter_gives.4 in (
      done ++ (key, value) ∷ [],
      push_front done (key, value) rest ∙ sym full,
      λ q. c.in_ok-put_copy_or_remove.ensures q
          ∙ ap (cond (eq key q) value) (c.loop-key.invariant.2 q)
          ∙ sym (over_more eq g.met.K.Eq.laws done key value rest (get eq c.args.base.now q) apart q),
    )

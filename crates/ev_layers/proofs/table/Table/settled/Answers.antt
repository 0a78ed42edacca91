use Rattle.std.proofs.Common.{◌≡◌, ◌∙◌, ◌∷◌, ap, sym, arith}
use Rattle.std.specs.Arc.{arc_value}
use Rattle.std.proofs.lemmas.List.{nil_from_length}
use Rattle.std.proofs.lemmas.Result.{IfOk-weaker}
use Rattle.indexmap.specs.IndexMap.{get}
use Rattle.ev_layers.specs.Layers.{LooksOver, entry_in, found, over_base}
use Rattle.ev_layers.proofs.Layered.{or_none}
use Rattle.ev_layers.proofs.table.Table.settled.Goals as goal

pub returns-then-is_short : goal.returns-then-is_short
returns-then-is_short g c =
    let eq = g.K.PartialEq.eq in
    let base = arc_value c.args.self.now.base in
    let top = c.in_ok-top.top in
    IfOk-weaker c.rebased.result (λ table. LooksOver (get eq top) (get eq base) (found eq table)) (λ table. (key : g.row.K.Denot) → found eq table key ≡ found eq c.args.self.now key)
    (λ table looks key. looks key
    ∙ ap (λ entry. over_base entry (get eq base key))
    (sym (or_none (get eq top key))
    ∙ ap (λ layers. entry_in (eq key) (top ∷ layers)) (sym (nil_from_length c.in_ok-top.layers (omega (arith, c.len.ensures.count, c.if-len-eq0.true))))
    ∙ c.in_ok-top.ensures key
    ∙ ap (λ layers. entry_in (eq key) (c.args.self.now.over ∷ layers)) c.as_slice.ensures.elements))
    c.rebased.ensures

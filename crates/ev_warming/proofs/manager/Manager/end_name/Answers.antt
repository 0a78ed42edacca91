use Rattle.std.proofs.Common.{◌∙◌, ◌++◌, option_to_list, append_assoc, sym, subst}
use Rattle.ev_warming.specs.Changes.{Tells}
use Rattle.ev_warming.proofs.IndexLemmas.{on_ok}
use Rattle.ev_warming.proofs.RetiredLemmas.{tells-ended}
use Rattle.ev_warming.proofs.manager.Manager.end_name.Goals as goal

pub returns-clause-told : goal.returns-clause-told
returns-clause-told g c =
    let m = c.args.self.now in
    let ended = c.in_ok-ended.ended in
    let e = c.in_ok-ended.ensures in
    let x = c.requires.kept.indexed in
    on_ok c.put_one-2.result c.put_one-2.ensures (λ put.
    subst (Tells m.state.table.rows c.end.new.self.state.table.rows c.args.retired.now)
    (sym (put ∙ (λ i. c.in_ok-put_one.ensures i ++ option_to_list ended.active) ∙ append_assoc c.args.retired.now (option_to_list ended.warming) (option_to_list ended.active)))
    (tells-ended c.args.kind c.args.name.now m.state.table.rows x.table.apart ended.warming ended.active c.end.new.self.state.table.rows c.args.retired.now e.dropped e.drains e.rows))

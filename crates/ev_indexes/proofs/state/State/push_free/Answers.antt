use Rattle.std.proofs.Common.{◌∙◌, ◌++◌, [], ◌∷◌, not, drop, append_assoc, sym, ap}
use Rattle.std.proofs.lemmas.List.Elements.{filter-append}
use Rattle.ev_lookups.specs.Keys.{named}
use Rattle.ev_indexes.specs.Moved.{is_held, free_names}
use Rattle.ev_model.specs.Watching.{names_awaited}
use Rattle.ev_indexes.proofs.NeedLemmas.{awaited_first}
use Rattle.ev_indexes.proofs.state.State.push_free.Goals as goal

pub loop-need-preserved : goal.loop-need-preserved
loop-need-preserved c =
    let rows = c.args.self.now.table.rows in
    let names = c.loop-need.names.items in
    let here = names_awaited c.args.kind (c.in-Some.need ∷ []) in
    let rest = names_awaited c.args.kind (drop 1 c.loop-need.needs) in
    (λ i. c.in_ok-push_free_need.ensures i ++ free_names c.args.kind c.args.made rows (names_awaited c.args.kind (c.next.ensures.rest i)))
    ∙ append_assoc names (free_names c.args.kind c.args.made rows here) (free_names c.args.kind c.args.made rows rest)
    ∙ ap (λ ns. names ++ ns) (sym (filter-append (λ name. not (is_held c.args.made rows (named c.args.kind name))) here rest))
    ∙ ap (λ ns. names ++ free_names c.args.kind c.args.made rows ns) (awaited_first c.args.kind c.loop-need.needs c.in-Some.need (sym c.next.ensures.first ∙ c.in-Some.is))
    ∙ c.loop-need.invariant

use Rattle.std.proofs.Common.{◌≡◌, ◌∙◌, ap, sym, subst, Option, Some, List}
use Rattle.std.specs.Prelude.{IfOk}
use Rattle.std.specs.Option.{option_and_then}
use Rattle.ev_types.specs.declared.origins.KeptChain.{KeptChain}
use Rattle.ev_types.specs.declared.rows.GenRow.{GenRow}
use Rattle.ev_model.specs.Origins.{kept_from}
use Rattle.ev_model.specs.Rows.{serving_row}
use Rattle.ev_indexes.specs.Tables.{row_in}
use Rattle.ev_warming.proofs.ChainLemmas.{serving-in}
use Rattle.ev_warming.proofs.chains.kept_from.Goals as goal

pub returns-in_default : goal.returns-in_default
returns-in_default g c =
    let s = c.args.state.now in
    let content = c.args.content.now in
    c.new.ensures.empty
    ∙ ap (λ (o : Option GenRow). kept_from o content)
    (sym (serving-in s c.requires.indexed c.args.kind c.args.name.now
    ∙ (λ i. option_and_then (λ n. row_in n s.table.rows) ((sym c.standing.ensures i).active))
    ∙ ap (option_and_then (λ n. row_in n s.table.rows)) c.in_default.is))

pub returns-in-Some-row : goal.returns-in-Some-row
returns-in-Some-row g c =
    let s = c.args.state.now in
    let content = c.args.content.now in
    let serving : Some c.in-Some-row.row.now ≡ serving_row c.args.kind c.args.name.now s.table.rows =
    c.in-Some-row.ensures.row
    ∙ sym (serving-in s c.requires.indexed c.args.kind c.args.name.now
    ∙ (λ i. option_and_then (λ n. row_in n s.table.rows) ((sym c.standing.ensures i).active))
    ∙ ap (option_and_then (λ n. row_in n s.table.rows)) c.in-Some.is) in
    subst (λ (o : Option GenRow). IfOk c.kept_of.result (λ (kept : List KeptChain). kept ≡ kept_from o content)) serving c.kept_of.ensures

pub returns-in-None : goal.returns-in-None
returns-in-None g c =
    let s = c.args.state.now in
    let content = c.args.content.now in
    c.new-in-None.ensures.empty
    ∙ ap (λ (o : Option GenRow). kept_from o content)
    (c.in-None.ensures.row
    ∙ sym (serving-in s c.requires.indexed c.args.kind c.args.name.now
    ∙ (λ i. option_and_then (λ n. row_in n s.table.rows) ((sym c.standing.ensures i).active))
    ∙ ap (option_and_then (λ n. row_in n s.table.rows)) c.in-Some.is))

use Rattle.std.proofs.Common.{◌∙◌, Bool, cond, sym, ap}
use Rattle.ev_model.specs.Choice.{Reached, by_reached, delivered_of, meant_of, taker_of}
use Rattle.ev_model.specs.declared.pictures.Picture.{Picture}
use Rattle.ev_snapshot.proofs.snapshot.Snapshot.choose_by_reached.Goals as goal

pub returns-then-restores : goal.returns-then-restores
returns-then-restores c =
    let picture = c.args.self.now in
    let ask = c.args.ask.now in
    let listener = c.args.listener.now in
    let restored : Reached = record { listener = taker_of picture.shown.listeners ask listener; local_end = meant_of ask } in
    let other : Reached = record { listener = listener; local_end = delivered_of ask } in
    let taker = c.taker_of-taker.ensures ∙ ap (λ (p : Picture). taker_of p.shown.listeners ask listener) c.self.view_is in
    c.choose_by_chains.ensures
    ∙ (λ i. by_reached picture ask (record { listener = taker i; local_end = c.meant_by.ensures i }))
    ∙ ap (λ (b : Bool). by_reached picture ask (cond b restored other)) (sym c.if-restores.true ∙ c.restores.ensures)

pub returns-else-restores : goal.returns-else-restores
returns-else-restores c =
    let picture = c.args.self.now in
    let ask = c.args.ask.now in
    let listener = c.args.listener.now in
    let restored : Reached = record { listener = taker_of picture.shown.listeners ask listener; local_end = meant_of ask } in
    let other : Reached = record { listener = listener; local_end = delivered_of ask } in
    c.choose_by_chains-else-restores.ensures
    ∙ (λ i. by_reached picture ask (record { listener = listener; local_end = c.delivered_by.ensures i }))
    ∙ ap (λ (b : Bool). by_reached picture ask (cond b restored other)) (sym c.if-restores.false ∙ c.restores.ensures)

use Rattle.std.proofs.Common.{◌∙◌, ap, filter, refl}
use Rattle.ev_retirement.specs.Closing.{closes, moves, passes_at}
use Rattle.ev_retirement.proofs.SettleLemmas.{all_passing, closing_found, moving_found}
use Rattle.ev_retirement.proofs.closing.due_of.Goals as goal

pub returns-clause-closed : goal.returns-clause-closed
returns-clause-closed c =
    let last = c.args.last.now.shown in
    c.in_ok-closed.ensures
    ∙ ap (filter (passes_at (closes c.args.drain.now last) c.args.worker c.args.ledger.now)) (c.as_slice.ensures.value ∙ c.in_ok-looked_at.ensures.numbers)
    ∙ all_passing c.args.worker (closes c.args.drain.now last) (λ m. refl) c.args.closing.now c.args.ledger.now c.in_ok-looked_at.ensures.ordered c.on.ensures.ordered c.on.ensures.apart
    (closing_found c.args.closing.now c.args.drain.now last c.args.ledger.now c.requires.found)

pub returns-clause-moved : goal.returns-clause-moved
returns-clause-moved c =
    let last = c.args.last.now.shown in
    c.in_ok-moved.ensures
    ∙ ap (filter (passes_at (moves last) c.args.worker c.args.ledger.now)) (c.as_slice-2.ensures.value ∙ c.in_ok-looked_at.ensures.numbers)
    ∙ all_passing c.args.worker (moves last) (λ m. refl) c.args.closing.now c.args.ledger.now c.in_ok-looked_at.ensures.ordered c.on.ensures.ordered c.on.ensures.apart
    (moving_found c.args.closing.now c.args.drain.now last c.args.ledger.now c.requires.found)

use Rattle.std.proofs.Common.{◌∙◌, sym, ap}
use Rattle.ev_chains.specs.declared.events.ChainEvent.{ChainEvent}
use Rattle.ev_chains.specs.declared.chains.ChainAnswer.{ChainAnswer}
use Rattle.ev_chains.specs.Events.{seen}
use Rattle.ev_chains.specs.Steps.{Accepted, chain_step}
use Rattle.ev_chain_lines.specs.Texts.{answer_tree}
use Rattle.ev_chain_lines.proofs.texts.answer_event.Goals as goal

pub returns-in_ok-value-in-Accept-clause-answer : goal.returns-in_ok-value-in-Accept-clause-answer
returns-in_ok-value-in-Accept-clause-answer c =
    let chains = c.args.chains.now in
    c.in_ok-value-in-Accept.ensures
    ∙ ap (λ (a : ChainAnswer). answer_tree (Accepted a)) c.in_ok-asked-in-Accept.ensures.answer
    ∙ ap (λ (event : ChainEvent). answer_tree (chain_step chains (seen event)).1) (sym c.in-Accept.is)

pub returns-in_ok-value-in-Accept-clause-state : goal.returns-in_ok-value-in-Accept-clause-state
returns-in_ok-value-in-Accept-clause-state c =
    let chains = c.args.chains.now in
    c.in_ok-asked-in-Accept.ensures.state ∙ ap (λ (event : ChainEvent). (chain_step chains (seen event)).0) (sym c.in-Accept.is)

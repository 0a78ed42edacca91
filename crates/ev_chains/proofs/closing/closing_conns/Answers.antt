use Rattle.std.proofs.Common.{◌∙◌, ap, map, filter}
use Rattle.ev_model.specs.World.{OpenMember}
use Rattle.ev_chains.specs.Closing.{is_closing}
use Rattle.ev_chains.specs.Closing.{closed_all}
use Rattle.ev_chains.proofs.ConnLemmas.{keys_ascending}
use Rattle.ev_chains.proofs.CloseLemmas.{conns_apart, conns_on_chains, closed_left}
use Rattle.ev_chains.proofs.closing.closing_conns.Goals as goal

pub returns-clause-conns : goal.returns-clause-conns
returns-clause-conns c =
    let draining = c.args.draining.now in
    let opened = c.args.ledger.now in
    c.in_ok-closing.ensures.keys
    ∙ keys_ascending c.in_ok-conns.conns (map (λ (m : OpenMember). m.connection) (filter (is_closing draining 0) opened)) c.in_ok-closing.ensures.ordered
    (conns_apart draining opened c.on.ensures.apart) (λ conn. c.in_ok-conns.ensures conn ∙ conns_on_chains draining conn opened)

pub returns-clause-left : goal.returns-clause-left
returns-clause-left c =
    let draining = c.args.draining.now in
    let opened = c.args.ledger.now in
    ap (λ conns. closed_all conns opened)
    (c.in_ok-closing.ensures.keys
    ∙ keys_ascending c.in_ok-conns.conns (map (λ (m : OpenMember). m.connection) (filter (is_closing draining 0) opened)) c.in_ok-closing.ensures.ordered
    (conns_apart draining opened c.on.ensures.apart) (λ conn. c.in_ok-conns.ensures conn ∙ conns_on_chains draining conn opened))
    ∙ closed_left draining opened c.on.ensures.apart

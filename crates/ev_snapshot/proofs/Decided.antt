-- A choice at a listener, by the chains that its criteria leave.
use Rattle.std.proofs.Common.{◌≡◌, ◌&&◌, List, cond, not, ap, None}
use Rattle.std.specs.Prelude.{is_some}
use Rattle.std.specs.List.{list_any}
use Rattle.ev_types.specs.FilterChains.{asks_source}
use Rattle.ev_types.specs.declared.events.Ask.{Ask}
use Rattle.ev_types.specs.declared.events.Peer.{Peer}
use Rattle.ev_types.specs.declared.ways.Way.TheVariants.{Undecided}
use Rattle.ev_model.specs.Choice.{by_chain, by_reached, chain_left, incoming_of}
use Rattle.ev_model.specs.Narrowing.{chains_left}
use Rattle.ev_model.specs.declared.pictures.Choice.TheVariants.{On}
use Rattle.ev_model.specs.declared.pictures.Picture.{Picture}
use Rattle.ev_model.specs.declared.pictures.ServedChain.{ServedChain}
use Rattle.ev_model.specs.declared.pictures.ServedListener.{ServedListener}
use Rattle.ev_chain_match.specs.Wanted.{left_by}
use Rattle.ev_chain_match.specs.declared.criteria.Criteria.{Criteria}

pub chains_decide : (picture : Picture) (ask : Ask) (listener : ServedListener) (local_end : Peer) (criteria : Criteria)
    → left_by criteria listener.filter_chains ≡ chains_left (incoming_of ask local_end) listener.filter_chains
    → cond (not (is_some ask.source) && list_any (λ (c : ServedChain). asks_source c.criteria) (left_by criteria listener.filter_chains)) (On listener.number None None Undecided)
    (by_chain picture ask listener.number (chain_left (left_by criteria listener.filter_chains) listener.default_filter_chain))
    ≡ by_reached picture ask (record { listener = listener; local_end = local_end })
chains_decide picture ask listener local_end criteria left =
    ap (λ (chains : List ServedChain). cond (not (is_some ask.source) && list_any (λ (c : ServedChain). asks_source c.criteria) chains) (On listener.number None None Undecided)
    (by_chain picture ask listener.number (chain_left chains listener.default_filter_chain)))
    left

use Rattle.std.proofs.Common.{◌≡◌, ◌∙◌, ◌&&◌, cond, List, Bool, not, None, sym, ap, subst}
use Rattle.std.specs.Prelude.{is_some}
use Rattle.std.specs.List.{list_any}
use Rattle.ev_types.specs.FilterChains.{asks_source}
use Rattle.ev_types.specs.declared.ways.Way.TheVariants.{Undecided}
use Rattle.ev_model.specs.Choice.{by_chain, chain_left, incoming_of}
use Rattle.ev_model.specs.Narrowing.{chains_left}
use Rattle.ev_model.specs.declared.pictures.Choice.TheVariants.{On}
use Rattle.ev_model.specs.declared.pictures.ServedChain.{ServedChain}
use Rattle.ev_chain_match.specs.Wanted.{left_by}
use Rattle.ev_snapshot.proofs.Decided.{chains_decide}
use Rattle.ev_snapshot.proofs.snapshot.Snapshot.choose_by_chains.Goals as goal

pub returns-then-lack_source : goal.returns-then-lack_source
returns-then-lack_source c =
    let listener = c.args.listener.now in
    let ask = c.args.ask.now in
    let end = c.args.local_end.now in
    let criteria = c.of-criteria.result in
    let chains = c.filter_chains-chains.ensures in
    let rest = by_chain c.args.self.now ask listener.number (chain_left (left_by criteria listener.filter_chains) listener.default_filter_chain) in
    c.leave_undecided.ensures
    ∙ (λ i. On (c.number.ensures i) None None Undecided)
    ∙ ap (λ (b : Bool). cond b (On listener.number None None Undecided) rest)
    (sym c.if-lack_source.true ∙ c.lack_source.ensures
    ∙ ap (λ (xs : List ServedChain). not (is_some ask.source) && list_any (λ (x : ServedChain). asks_source x.criteria) (left_by criteria xs)) chains)
    ∙ chains_decide c.args.self.now ask listener end criteria
    (subst (λ (xs : List ServedChain). left_by criteria xs ≡ chains_left (incoming_of ask end) xs) chains c.of-criteria.ensures)

pub returns : goal.returns
returns c =
    let listener = c.args.listener.now in
    let ask = c.args.ask.now in
    let end = c.args.local_end.now in
    let criteria = c.of-criteria.result in
    let chains = c.filter_chains-chains.ensures in
    c.choose_by_chain.ensures
    ∙ (λ i. by_chain c.args.self.now ask (c.number-2.ensures i) (c.chain_left.ensures i))
    ∙ ap (λ (b : Bool). cond b (On listener.number None None Undecided)
    (by_chain c.args.self.now ask listener.number (chain_left (left_by criteria listener.filter_chains) listener.default_filter_chain)))
    (sym c.if-lack_source.false ∙ c.lack_source.ensures
    ∙ ap (λ (xs : List ServedChain). not (is_some ask.source) && list_any (λ (x : ServedChain). asks_source x.criteria) (left_by criteria xs)) chains)
    ∙ chains_decide c.args.self.now ask listener end criteria
    (subst (λ (xs : List ServedChain). left_by criteria xs ≡ chains_left (incoming_of ask end) xs) chains c.of-criteria.ensures)

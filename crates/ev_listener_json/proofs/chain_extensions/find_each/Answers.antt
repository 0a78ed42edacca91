use Rattle.ev_secret_json.proofs.ReferenceLemmas.{each_more, each_all}
use Rattle.ev_listener_json.specs.ChainExtensions.{network_extensions}
use Rattle.ev_listener_json.proofs.chain_extensions.find_each.Goals as goal

pub loop-filter-preserved : goal.loop-filter-preserved
loop-filter-preserved c =
    each_more network_extensions c.args.filters.now c.loop-filter.filter-index c.filter-item.result c.loop-filter.found _ _ c.loop-filter-test.true c.filter-item.is c.loop-filter.invariant
    c.in_ok-here.ensures c.in_ok-found.ensures

pub returns : goal.returns
returns c = each_all network_extensions c.args.filters.now c.loop-filter.filter-index c.loop-filter.found c.loop-filter-test.false c.loop-filter.invariant

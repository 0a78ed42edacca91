use Rattle.ev_secret_json.specs.Extensions.{filter_extension}
use Rattle.ev_secret_json.proofs.ReferenceLemmas.{each_more, each_all}
use Rattle.ev_secret_json.proofs.extensions.find_extensions.Goals as goal

pub loop-filter-preserved : goal.loop-filter-preserved
loop-filter-preserved c =
    each_more filter_extension c.args.filters.now c.loop-filter.filter-index c.filter-item.result c.loop-filter.found _ _ c.loop-filter-test.true c.filter-item.is c.loop-filter.invariant
    c.in_ok-here.ensures c.in_ok-found.ensures

pub returns : goal.returns
returns c = each_all filter_extension c.args.filters.now c.loop-filter.filter-index c.loop-filter.found c.loop-filter-test.false c.loop-filter.invariant

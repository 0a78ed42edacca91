use Rattle.ev_secret_json.specs.TransportSockets.{transport_secrets}
use Rattle.ev_secret_json.proofs.ReferenceLemmas.{each_more, each_all}
use Rattle.ev_cluster_json.proofs.sockets.find_match_secrets.Goals as goal

pub loop-element-preserved : goal.loop-element-preserved
loop-element-preserved c =
    each_more transport_secrets c.args.matches.now c.loop-element.element-index c.element-item.result c.loop-element.found _ _ c.loop-element-test.true c.element-item.is c.loop-element.invariant
    c.in_ok-here.ensures c.in_ok-found.ensures

pub returns : goal.returns
returns c = each_all transport_secrets c.args.matches.now c.loop-element.element-index c.loop-element.found c.loop-element-test.false c.loop-element.invariant

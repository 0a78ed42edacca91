use Rattle.ev_listener_json.proofs.PlaceLemmas.{enters_more}
use Rattle.ev_listener_json.proofs.chain_places.ChainPlaces.put_all.Goals as goal

pub loop-key-preserved : goal.loop-key-preserved
loop-key-preserved c =
    enters_more c.args.keys.now c.loop-key.key-index c.key-item.result c.again.result c.args.place c.args.self.now c.loop-key.self c.put.new.self
    c.loop-key-test.true c.key-item.is c.again.ensures c.loop-key.invariant c.in_ok-put.ensures

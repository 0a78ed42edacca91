use Rattle.ev_listener_json.proofs.PlaceLemmas.{enters_match}
use Rattle.ev_listener_json.proofs.chain_places.ChainPlaces.put_match.Goals as goal

pub returns : goal.returns
returns c =
    enters_match c.args.asked.now c.args.place c.args.self.now c.put_by.new.self c.put_by-2.new.self c.put_by-3.new.self c.put_by-4.new.self
    c.put_by-5.new.self c.put_by-6.new.self c.put_by-7.new.self
    c.in_ok-put_by.ensures c.in_ok-put_by-2.ensures c.in_ok-put_by-3.ensures c.in_ok-put_by-4.ensures c.in_ok-put_by-5.ensures
    c.in_ok-put_by-6.ensures c.in_ok-put_by-7.ensures

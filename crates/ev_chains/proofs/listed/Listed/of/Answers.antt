use Rattle.std.proofs.Common.{◌≡◌, ◌<◌, ◌-◌, suc, length, arith, nat_eq}
use Rattle.indexmap.specs.IndexMap.{get}
use Rattle.indexmap.specs.IndexSet.{contains}
use Rattle.ev_chains.specs.Keys.{key_same}
use Rattle.ev_chains.proofs.KeyLemmas.{finds_more, ports_more, clash_more}
use Rattle.ev_chains.proofs.listed.Listed.of.Goals as goal

pub loop-place-preserved : goal.loop-place-preserved
loop-place-preserved c =
    let rows = c.args.rows.items in
    let place = c.loop-place.place in
    let row = c.index-row.result.now in
    let next : suc (place - 1) ≡ place = omega arith in
    let within : place - 1 < length rows = omega arith in
    record {
      finds = finds_more rows place (place - 1) row next within c.index-row.ensures (get key_same c.loop-place.places) (get key_same c.put_keys.new.places) c.in_ok-put_keys.ensures c.loop-place.invariant.finds;
      has_ports = ports_more rows place (place - 1) row next within c.index-row.ensures (contains nat_eq c.loop-place.ports) (contains nat_eq c.put_port.new.ports) c.in_ok-put_port.ensures c.loop-place.invariant.has_ports;
      tells = clash_more rows place (place - 1) row next within c.index-row.ensures (get key_same c.loop-place.places) c.in_ok-clash.field-0 c.loop-place.clash c.in_ok-clash.ensures c.loop-place.invariant.finds c.loop-place.invariant.tells;
    }

-- What was read keeps what a script does.
use Rattle.std.proofs.Common.{◌≡◌, ◌<◌, ap, length, arith}
use Rattle.ev_types.specs.Scripts.{items_of}
use Rattle.ev_script.proofs.ScriptLemmas.{script_kept}
use Rattle.ev_script.proofs.script.made_script.Goals as goal

pub invariant_of-result : goal.invariant_of-result
invariant_of-result c =
    let items : items_of c.args.lines.items < 4294967295 = omega (arith, c.in_ok-count_items.ensures.few, c.in_ok-count_items.ensures.count, ap items_of c.as_slice.ensures.value) in
    let long : c.len.result ≡ length c.args.lines.items = omega (arith, c.len.ensures, c.args.lines.ok.0) in
    rw (long, c.from_vec.ensures.elements) (script_kept c.args.header c.args.lines.items c.requires.header c.requires.numbered c.requires.few items)

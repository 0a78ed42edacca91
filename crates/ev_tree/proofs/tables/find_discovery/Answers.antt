use Rattle.std.proofs.Common.{codes}
use Rattle.ev_tree.specs.Scalars.{named_in}
use Rattle.ev_tree.proofs.Names.{bytes_eq_apart}
use Rattle.ev_tree.proofs.tables.find_discovery.Goals as goal

pub returns-in_default : goal.returns-in_default
unfolding named_in
returns-in_default c =
    let text = c.args.text.now in
    let a = bytes_eq_apart (codes "STATIC") text c.in_default.not-STATIC in
    let b = bytes_eq_apart (codes "STRICT_DNS") text c.in_default.not-STRICT_DNS in
    let d = bytes_eq_apart (codes "LOGICAL_DNS") text c.in_default.not-LOGICAL_DNS in
    let e = bytes_eq_apart (codes "EDS") text c.in_default.not-EDS in
    let f = bytes_eq_apart (codes "ORIGINAL_DST") text c.in_default.not-ORIGINAL_DST in
    simp (a, b, d, e, f)

use Rattle.std.proofs.Common.{codes}
use Rattle.ev_tree.specs.Scalars.{named_in}
use Rattle.ev_tree.proofs.Names.{bytes_eq_apart}
use Rattle.ev_tree.proofs.tables.find_health.Goals as goal

pub returns-in_default : goal.returns-in_default
unfolding named_in
returns-in_default c =
    let text = c.args.text.now in
    let a = bytes_eq_apart (codes "UNKNOWN") text c.in_default.not-UNKNOWN in
    let b = bytes_eq_apart (codes "HEALTHY") text c.in_default.not-HEALTHY in
    let d = bytes_eq_apart (codes "UNHEALTHY") text c.in_default.not-UNHEALTHY in
    let e = bytes_eq_apart (codes "DRAINING") text c.in_default.not-DRAINING in
    let f = bytes_eq_apart (codes "TIMEOUT") text c.in_default.not-TIMEOUT in
    let g = bytes_eq_apart (codes "DEGRADED") text c.in_default.not-DEGRADED in
    simp (a, b, d, e, f, g)

use Rattle.std.proofs.Common.{◌∙◌, ap, ◌||◌, ◌&&◌, nat_eq, length}
use Rattle.ev_listener_json.proofs.Overlaps.{overlap_by}
use Rattle.ev_listener_json.proofs.collisions.overlap.Goals as goal

pub returns : goal.returns
returns g c =
    ap (λ b. (nat_eq (length c.args.ones.now) 0 && nat_eq (length c.args.others.now) 0) || b) c.share_value.ensures
    ∙ overlap_by g.T.PartialEq.eq c.args.ones.now c.args.others.now

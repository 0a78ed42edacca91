-- The seat asks.
use Rattle.std.proofs.Common.{◌++◌, ap, ◌∙◌, arith}
use Rattle.ev_gate.proofs.Turning.{nil_of, asks_as}
use Rattle.ev_gate.proofs.gate.Gate.asked.Goals as goal

pub fetch_max-found-requires : goal.fetch_max-found-requires
fetch_max-found-requires g c =
    let p = c.args.pass.now in (
      c.requires.gate,
      (let w = c.args.self.now.sized.0 in omega arith),
      asks_as g.V.Stands.opening g.V.Stands.commits g.V.Stands.version_of c.args.self.now.table.shared.key c.args.self.now.table.shared.table_id.slots p.seat.id p.seat.me p.version p.version_is g.K.FirstValue.first c.requires.first (nil_of p.seat.me.1 p.holds_nothing) p.idle.0 p.idle.1 p.idle.2,
    )

pub returns-clause-begins : goal.returns-clause-begins
returns-clause-begins g c =
    let e = c.fetch_max-found.ensures.2 in
    let after = c.fetch_max-found.new.seat.me.0 in
    (after.heard, ap (λ v. v.start ++ after.heard) e.0.view_is ∙ ap (λ l. l ++ after.heard) (e.1 _ c.requires.first).1)

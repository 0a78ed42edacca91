-- What the slot has at the end.
use Rattle.std.proofs.Common.{◌≡◌, Some, refl, sym, ◌∙◌, subst}
use Rattle.std.specs.Prelude.{IsSome}
use Rattle.ev_gate.specs.Inner.{IsLast}
use Rattle.ev_gate.proofs.Lists.{Some-injective, same_there}
use Rattle.ev_gate.proofs.Steps.{closes}
use Rattle.ev_gate.proofs.calls.take_out.Goals as goal
use Rattle.ev_gate.proofs.calls.take_out.Goals.{After-take-slot}

-- it is a value that represents the whole history
last : (g : _) (c : After-take-slot g) → (value : g.row.V.Denot) × (c.take-slot.result ≡ Some value) × IsLast g.V.Stands.opening g.V.Stands.commits c.args.table.shared.key c.args.leader.me.0 value
last g c =
    let l = closes g.V.Stands.opening g.V.Stands.commits g.V.Stands.version_of c.args.table.shared.key c.args.leader.id c.args.leader.me.0 _ _ c.requires.idle.0 c.requires.idle.1 c.requires.all c.close_with-closed.ensures.values.2 in
    (l.0, same_there _ 0 _ _ c.take-slot.ensures.value l.1, l.2)

pub unwrap-requires : goal.unwrap-requires
unwrap-requires g c = subst IsSome (sym (last g (goal.at.unwrap-requires g c).After-take-slot).1) refl

pub returns : goal.returns
returns g c =
    let l = last g (goal.at.returns g c).After-take-slot in
    subst (IsLast g.V.Stands.opening g.V.Stands.commits c.args.table.shared.key c.args.leader.me.0) (Some-injective l.0 c.unwrap.result (sym l.1 ∙ c.unwrap.ensures)) l.2

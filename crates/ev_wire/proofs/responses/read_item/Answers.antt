-- The body that was read has the outer name as its own where it is good, and a heartbeat has a time to live.
use Rattle.std.proofs.Common.{Bool, sym, subst}
use Rattle.ev_types.specs.Items.{IsOwnName, IsBeating}
use Rattle.ev_types.specs.declared.contents.Body.{Body}
use Rattle.ev_wire.specs.Bodies.{is_positive}
use Rattle.ev_wire.proofs.BodyLemmas.{body_of-own_name, body_of-beating}
use Rattle.ev_wire.proofs.responses.read_item.Goals as goal

pub make_item-requires-clause-named : goal.make_item-requires-clause-named
make_item-requires-clause-named c =
    let P : Body → Type 0 = IsOwnName c.text_or_empty-name.result.now in
    subst P (sym c.in_ok-body.ensures) (body_of-own_name c.args.profile c.args.kind c.text_or_empty-name.result.now c.in_ok-ttl.ttl _)

pub make_item-requires-clause-beating : goal.make_item-requires-clause-beating
make_item-requires-clause-beating c =
    let P : Bool → Type 0 = λ ttl. IsBeating ttl c.in_ok-body.body in
    let Q : Body → Type 0 = IsBeating (is_positive c.in_ok-ttl.ttl) in
    subst P (sym c.is_positive.ensures) (subst Q (sym c.in_ok-body.ensures) (body_of-beating c.args.profile c.args.kind c.text_or_empty-name.result.now c.in_ok-ttl.ttl _))

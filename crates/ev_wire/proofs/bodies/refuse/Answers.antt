use Rattle.std.proofs.Common.{◌≡◌, ◌∙◌, Err, ap, sym, subst}
use Rattle.ev_tree.specs.declared.outcome.ReadError.{ReadError}
use Rattle.ev_tree.specs.Rules.{ReadsAs}
use Rattle.ev_wire.specs.Bodies.{body_with}
use Rattle.ev_wire.proofs.bodies.refuse.Goals as goal

pub returns-in-Rule : goal.returns-in-Rule
returns-in-Rule c = λ reading h.
    let P : ReadError → Type 0 = λ e. ReadsAs (Err e) reading in
    let is : reading ≡ Err c.in-Rule.rule = subst P c.in-Rule.is h in
    c.body_with.ensures ∙ ap (body_with c.args.broken) (sym is)

use Rattle.std.proofs.Common.{◌≡◌, ◌∙◌, true, cond, [], ◌∷◌, ◌++◌, ap, arith}
use Rattle.std.proofs.lemmas.Grind.{common_steps}
use Rattle.std.proofs.lemmas.Result.{on_ok_weaker}
use Rattle.ev_types.specs.Kinds.{kind_same}
use Rattle.ev_types.specs.declared.contents.Kind.TheVariants.{Lds}
use Rattle.ev_drain.specs.Waiters.{numbers_under}
use Rattle.ev_drain.proofs.WaiterLemmas.{waits_now}
use Rattle.ev_drain.proofs.waiters.Waiters.await_timeout.Goals as goal

pub returns-clause-entered : goal.returns-clause-entered
returns-clause-entered c =
    let listens : kind_same c.args.kind Lds ≡ true = grind (arith, common_steps, c.is.ensures, c.if-not-is.false) in
    on_ok_weaker c.enter.result
    (λ entered n. entered n
    ∙ ap (λ t. numbers_under c.args.self.now n ++ cond t (c.args.number ∷ []) []) (waits_now c.args.kind c.args.number c.args.name.now n c.args.dropped c.if-dropped.false listens))
    c.enter.ensures.entered

use Rattle.std.proofs.Common.{subst}
use Rattle.ev_model.specs.World.{World}
use Rattle.ev_managers.specs.Managers.{StandFor}
use Rattle.std.proofs.lemmas.Result.{IfOk-weaker}
use Rattle.ev_managers.proofs.EndLemmas.{rows-end}
use Rattle.ev_managers.proofs.RetiredLemmas.{ended-are}
use Rattle.ev_managers.proofs.managers.Managers.end_rows.Goals as goal

pub returns-clause-retired : goal.returns-clause-retired
returns-clause-retired g c =
    let s = c.args.self.now.core.state in
    IfOk-weaker c.stood.result _ _ (λ retired are n.
    ended-are s c.args.kind c.args.name.now retired c.in_ok-ended.ended.warming c.in_ok-ended.ended.active c.end.new.self.state.table.rows c.requires.kept.indexed
    c.in_ok-ended.ensures.dropped c.in_ok-ended.ensures.drains c.in_ok-ended.ensures.rows are n) c.stood.ensures

pub returns-clause-stands : goal.returns-clause-stands
returns-clause-stands g c =
    IfOk-weaker c.stood.result _ _
    (λ retired are world stands.
    subst (λ (w : World). StandFor (record { core = c.end.new.self }) w) (rows-end c.args.kind c.args.name.now world c.requires.rows) (c.in_ok-ended.ensures.stands world stands))
    c.stood.ensures

use Rattle.std.proofs.Common.{◌∙◌, ap, filter, not}
use Rattle.std.proofs.lemmas.Result.{IfOk-weaker}
use Rattle.ev_model.specs.Picture.{is_shown}
use Rattle.ev_snapshot.proofs.Gone.{are_gone}
use Rattle.ev_snapshot.proofs.snapshot.Snapshot.gone.Goals as goal

pub returns-clause-gone : goal.returns-clause-gone
returns-clause-gone c =
    IfOk-weaker c.not_shown.result _ _
    (λ gone is. are_gone c.args.changes.now c.args.before.now.shown c.args.self.now.shown gone.items c.in_ok-touched.ensures.ordered c.requires.after
    (is ∙ ap (filter (λ n. not (is_shown n c.args.self.now.shown))) (c.as_slice.ensures.value ∙ c.in_ok-touched.ensures.touched))) c.not_shown.ensures

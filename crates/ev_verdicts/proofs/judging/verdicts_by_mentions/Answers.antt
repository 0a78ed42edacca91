use Rattle.std.proofs.Common.{◌∙◌, ap, sym}
use Rattle.ev_types.specs.Items.{ResponseParts}
use Rattle.ev_verdicts.proofs.FollowLemmas.{told_where_ok}
use Rattle.ev_verdicts.proofs.judging.verdicts_by_mentions.Goals as goal

pub returns-clause-verdicts : goal.returns-clause-verdicts
returns-clause-verdicts g c =
    told_where_ok (g.K.Known.answers c.args.known.now) c.in-Some.kind c.args.mentions.now c.judge_all.result
    (sym (ap (λ (response : ResponseParts). response.kind) (c.behind-mentions.view_is ∙ c.response.ensures)) ∙ c.in-Some.is) c.judge_all.ensures.verdicts

use Rattle.std.proofs.Common.{true, false, length, sym, ◌∙◌}
use Rattle.ev_model_laws.specs.Walks.{journal_before}
use Rattle.ev_audit.proofs.WalkLemmas.{end_is}
use Rattle.ev_audit.proofs.walk.Walk.end.Goals as goal

pub returns-then-unfinished : goal.returns-then-unfinished
returns-then-unfinished c =
    end_is c.args.self.now.courses.format c.args.script.now c.args.rows.now true
    (sym c.if-unfinished.true
    ∙ c.is_unfinished-unfinished.ensures (journal_before c.args.script.now c.args.rows.now (length c.args.rows.now)) c.requires.before.courses)

pub returns-else-unfinished : goal.returns-else-unfinished
returns-else-unfinished c =
    end_is c.args.self.now.courses.format c.args.script.now c.args.rows.now false
    (sym c.if-unfinished.false
    ∙ c.is_unfinished-unfinished.ensures (journal_before c.args.script.now c.args.rows.now (length c.args.rows.now)) c.requires.before.courses)

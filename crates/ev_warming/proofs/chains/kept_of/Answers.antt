use Rattle.std.proofs.Common.{◌∙◌, sym}
use Rattle.ev_warming.proofs.ChainLemmas.{kept-of-other, kept-by-other}
use Rattle.ev_warming.proofs.chains.kept_of.Goals as goal
use Rattle.ev_warming.proofs.chains.kept_of.Goals.{in_default-via-in-Listener+in_default, in_default-via-in_default}

pub returns-in_default : goal.returns-in_default
returns-in_default c =
    elim c.in_default.branch [
      | in_default-via-in-Listener+in_default w ↦ c.new.ensures.empty ∙ sym (kept-by-other c.args.row.now c.args.content.now w.in_default.not-Listener-1)
      | in_default-via-in_default w ↦ c.new.ensures.empty ∙ sym (kept-of-other c.args.row.now c.args.content.now w.in_default.not-Listener-0)
    ]

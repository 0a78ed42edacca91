use Rattle.std.proofs.Common.{◌∙◌, sym}
use Rattle.ev_lookups.specs.Keys.{named}
use Rattle.ev_warming.proofs.StepLemmas.{forgotten-name, known-name}
use Rattle.ev_warming.proofs.forgetting.forget_idle.Goals as goal

pub returns-then-not-is_idle : goal.returns-then-not-is_idle
returns-then-not-is_idle c = λ q. known-name (named c.args.kind c.args.name.now) q c.args.watches.now (sym c.is_idle.ensures ∙ c.if-not-is_idle.true)

pub returns : goal.returns
returns c = λ q. c.forget.ensures q ∙ forgotten-name (named c.args.kind c.args.name.now) q c.args.watches.now (sym c.is_idle.ensures ∙ c.if-not-is_idle.false)

use Rattle.std.proofs.Common.{◌∙◌, ap}
use Rattle.ev_chains.specs.Matches.{some_other}
use Rattle.ev_chains.proofs.Present.{any_other-view}
use Rattle.ev_chains.proofs.matches.value_has_other.Goals as goal

pub returns-in-Some : goal.returns-in-Some
returns-in-Some c = c.any_other.ensures ∙ any_other-view c.in-Some.members.now.entries ∙ ap some_other c.in-Some.ensures

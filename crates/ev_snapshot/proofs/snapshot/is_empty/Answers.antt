use Rattle.std.proofs.Common.{◌∙◌, sym, ap}
use Rattle.std.specs.Option.{is_none, option_copied}
use Rattle.ev_snapshot.proofs.Hosted.{no_first}
use Rattle.ev_snapshot.proofs.snapshot.is_empty.Goals as goal

pub returns-in-Some : goal.returns-in-Some
returns-in-Some c = ap (λ o. is_none (option_copied o)) (sym c.in-Some.is) ∙ ap is_none c.host.ensures ∙ no_first c.args.hosts.now

pub returns-in-None : goal.returns-in-None
returns-in-None c = ap (λ o. is_none (option_copied o)) (sym c.in-None.is) ∙ ap is_none c.host.ensures ∙ no_first c.args.hosts.now

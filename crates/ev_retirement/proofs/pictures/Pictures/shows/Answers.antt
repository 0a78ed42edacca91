use Rattle.std.proofs.Common.{◌∙◌}
use Rattle.ev_retirement.proofs.WorldLemmas.{shows_stands}
use Rattle.ev_retirement.proofs.pictures.Pictures.shows.Goals as goal

pub returns-clause-world : goal.returns-clause-world
returns-clause-world c world stands = c.is_shown.ensures ∙ shows_stands c.args.number c.args.self.now world stands

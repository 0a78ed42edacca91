use Rattle.std.proofs.Common.{ap, sym, ◌∙◌}
use Rattle.ev_model.specs.Dead.{last_picture}
use Rattle.ev_actors.specs.Journals.{JournalParts, world_now}
use Rattle.ev_commits.proofs.TurnLemmas.{shown_whole}
use Rattle.ev_commits.proofs.kept.KeptStands.version.Goals as goal

pub returns : goal.returns
returns g c =
    c.latest.ensures.version
    ∙ ap (λ (p : JournalParts). (last_picture (world_now p)).version) (sym (shown_whole (g.J.Journaled.shows c.args.self.now.journaled) c.journal.ensures.run))

use Rattle.std.proofs.Common.{◌<◌, IsTrue, false, ap, sym, ◌∙◌, subst}
use Rattle.ev_gate.specs.History.{seen_of}
use Rattle.ev_actors.specs.Journals.{JournalParts}
use Rattle.ev_commits.specs.Seen.{IsIdle, began_at, heard_by, journal_with, seen_by, version_shown}
use Rattle.ev_commits.proofs.TurnLemmas.{commits_if, is_newer, newer_if, works_behind}
use Rattle.ev_commits.proofs.turns.settle.Goals as goal
use Rattle.ev_commits.proofs.turns.settle.Goals.{then-idle+else-newest-version, else-idle}

pub returns-clause-newer : goal.returns-clause-newer
returns-clause-newer g c =
    let seen : JournalParts = seen_by g.J.Journaled.shows c.args.gate.now c.args.pass in
    let heard : JournalParts = heard_by g.J.Journaled.shows c.args.gate.now c.args.pass in
    let asked : JournalParts = heard_by g.J.Journaled.shows c.args.gate.now c.if-idle.pass in
    let after : JournalParts = seen_by g.J.Journaled.shows c.args.gate.now c.commit.result.0 in
    newer_if c.commit.result.1 c.args.worker.now.picture.version (version_shown asked) (version_shown after) (IsIdle c.args.worker.now)
    (elim c.if-idle.branch [
      | then-idle+else-newest-version w ↦
          λ idle.
          subst (λ n. c.args.worker.now.picture.version < n)
          (w.newest-newest.ensures.version ∙ ap (λ p. version_shown (heard_by g.J.Journaled.shows c.args.gate.now p)) (sym w.pass-is))
          (is_newer c.args.worker.now.picture.version (version_shown seen) (version_shown heard) w.newest-newest.result
          (works_behind c.args.worker.now seen c.requires.works) c.requires.heard w.newest-newest.ensures.not_below
          (λ same. w.if-newest-version.false (same ∙ sym w.version.ensures)))
      | else-idle w ↦ λ idle. let never : IsTrue false = subst IsTrue w.if-idle.false (c.idle.ensures.rests.1 idle) in cc
    ])
    c.commit.ensures.newer

pub returns-clause-settled : goal.returns-clause-settled
returns-clause-settled g c =
    commits_if c.commit.result.1 c.args.at c.args.step (seen_by g.J.Journaled.shows c.args.gate.now c.args.pass)
    (seen_by g.J.Journaled.shows c.args.gate.now c.if-idle.pass) (seen_by g.J.Journaled.shows c.args.gate.now c.commit.result.0)
    c.args.worker.now c.prepare.new.self c.commit.new.worker c.prepare.ensures.kept
    (elim c.if-idle.branch [
      | then-idle+else-newest-version w ↦
          ap (seen_by g.J.Journaled.shows c.args.gate.now) w.pass-is
          ∙ ap (λ k. journal_with (began_at g.J.Journaled.shows c.args.gate.now) (seen_of k)) w.newest-newest.ensures.knows
      | else-idle w ↦ ap (seen_by g.J.Journaled.shows c.args.gate.now) w.pass-is
    ])
    c.commit.ensures.settled

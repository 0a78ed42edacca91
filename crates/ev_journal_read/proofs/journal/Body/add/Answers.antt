-- A row is in its place before the end line.
use Rattle.ev_journal_read.proofs.JournalLemmas.{row_added}
use Rattle.ev_journal_read.proofs.journal.Body.add.Goals as goal

pub returns-in_ok-push-in-Ok : goal.returns-in_ok-push-in-Ok
returns-in_ok-push-in-Ok c =
    row_added c.args.self.now.rows.items c.push.new.self.items c.args.self.now.ended c.in-Ok.row c.args.text.now c.if-self.false c.in_ok-push-in-Ok.ensures.items c.in-Ok.ensures.row

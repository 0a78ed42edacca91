use Rattle.std.proofs.Common.{length, refl}
use Rattle.std.proofs.lemmas.Option.{slice_get_read}
use Rattle.ev_dump.proofs.ToldLemmas.{entries_more}
use Rattle.ev_dump.proofs.told.entries_told.Goals as goal

pub loop-row-preserved : goal.loop-row-preserved
loop-row-preserved c =
    entries_more c.args.script.now c.args.rows.now c.loop-row.row-index c.row-item.result c.in_ok-entry_told.field-0 c.loop-row.entries.items
    c.push.new.self.items
    (slice_get_read c.args.rows.now (length c.args.rows.now) c.loop-row.row-index c.row-item.result refl c.loop-row-test.true c.row-item.is)
    c.in_ok-entry_told.ensures.entry c.loop-row.invariant c.in_ok-push.ensures.items

use Rattle.std.proofs.Common.{◌∙◌, ap}
use Rattle.serde_json.specs.Written.{has_float}
use Rattle.ev_types.specs.Events.{op_of}
use Rattle.ev_types.specs.declared.events.Entry.{Entry}
use Rattle.ev_journal.specs.Rendering.{row_object}
use Rattle.ev_sotw.proofs.MemberLemmas.{moved_whole, replied_whole}
use Rattle.ev_sotw.proofs.state.SotwState.write.Goals as goal

pub write_row-requires : goal.write_row-requires
write_row-requires c =
    let entry : Entry = c.args.entry.now in
    ap has_float (c.in_ok-row_value-in-Moved.ensures ∙ ap (row_object entry.actor entry.at entry.step (op_of entry.event)) c.in_ok-answer-in-Moved.ensures)
    ∙ moved_whole entry.actor entry.at entry.step (op_of entry.event) c.args.self.now c.as_slice.result.now

pub write_row-requires-in-Replied : goal.write_row-requires-in-Replied
write_row-requires-in-Replied c =
    let entry : Entry = c.args.entry.now in
    ap has_float (c.in_ok-row_value-in-Replied.ensures ∙ ap (row_object entry.actor entry.at entry.step (op_of entry.event)) c.in_ok-answer-in-Replied.ensures)
    ∙ replied_whole entry.actor entry.at entry.step (op_of entry.event) c.args.self.now c.as_slice-in-Replied.result.now c.as_slice-in-Replied-2.result.now

-- The script of what was read.
use Rattle.std.proofs.Common.{false}
use Rattle.ev_script.specs.ReadInput.{input_of}
use Rattle.ev_script.proofs.ScriptLemmas.{numbered_read, answer_whole}
use Rattle.ev_script.proofs.script.read_script.Goals as goal

pub made_script-requires-clause-numbered : goal.made_script-requires-clause-numbered
made_script-requires-clause-numbered g c =
    let r = c.in_ok-head.ensures.reads in
    numbered_read (input_of false c.read_lines_with.new.lines r.0) c.in_ok-head.field-0 r.3.0

pub returns-clause-reads : goal.returns-clause-reads
returns-clause-reads g c =
    let r = c.in_ok-head.ensures.reads in
    (r.0, r.1, r.2, answer_whole (input_of false c.read_lines_with.new.lines r.0) c.in_ok-head.field-0 c.in_ok-script.script r.3.0 r.3.1 c.in_ok-script.ensures)

use Rattle.std.proofs.Common.{◌∙◌, sym, ap, length}
use Rattle.ev_hosts.proofs.MarkLemmas.{length-marks_of}
use Rattle.ev_hosts.proofs.marks.Marks.len.Goals as goal

pub returns : goal.returns
returns c = sym (length-marks_of c.self.inside.words c.self.inside.len) ∙ ap length c.self.view_is

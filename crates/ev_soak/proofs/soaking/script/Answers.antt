-- What was drawn is a script.
use Rattle.std.proofs.Common.{◌∙◌}
use Rattle.ev_soak.proofs.SoakLemmas.{script_of}
use Rattle.ev_soak.proofs.soaking.script.Goals as goal

pub invariant_of-result : goal.invariant_of-result
invariant_of-result c =
    script_of c.args.seed c.args.count c.in_ok-new.field-0 c.from_vec-lines.result c.in_ok-new.ensures.bytes
    (c.from_vec-lines.ensures.elements ∙ c.in_ok-draw_lines.ensures) c.requires.within.0 c.requires.within.1

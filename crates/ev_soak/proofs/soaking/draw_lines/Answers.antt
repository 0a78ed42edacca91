-- The next line is in its place.
use Rattle.std.proofs.Common.{◌≡◌, ◌+◌, ◌-◌, ◌<◌, ◌++◌, List, ap, ◌∙◌, arith}
use Rattle.ev_types.specs.declared.events.Line.{Line}
use Rattle.ev_soak.specs.Soak.{lines_drawn, soak_script}
use Rattle.ev_soak.proofs.SoakLemmas.{one_more}
use Rattle.ev_soak.proofs.soaking.draw_lines.Goals as goal

pub loop-place-preserved : goal.loop-place-preserved
loop-place-preserved c =
    let within : c.loop-place.place < c.args.count = omega (arith, c.loop-place-test.true) in
    ap (λ (lines : List Line). lines ++ lines_drawn (c.args.count - (c.loop-place.place + 1)) (c.loop-place.place + 1 + 2) c.draw_line.new.draws.state) c.in_ok-push-2.ensures.items
    ∙ one_more c.loop-place.lines.items (soak_script c.args.seed c.args.count).lines c.args.count c.loop-place.place c.loop-place.draws.state c.draw_line.new.draws.state c.in_ok-draw_line.field-0
    within c.loop-place.invariant c.in_ok-draw_line.ensures.line c.in_ok-draw_line.ensures.state

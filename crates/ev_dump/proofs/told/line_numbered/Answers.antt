use Rattle.std.proofs.lemmas.List.Sorted.{answers_always}
use Rattle.std.proofs.Common.{rules, Some, ap, ◌∙◌}
use Rattle.ev_types.specs.declared.events.Line.{Line}
use Rattle.ev_dump.proofs.LineLemmas.{found_nowhere, found_place}
use Rattle.ev_dump.proofs.told.line_numbered.Goals as goal

pub returns-in-Ok : goal.returns-in-Ok
returns-in-Ok c =
    ap Some c.index-lines-place.is
    ∙ found_place c.args.at c.args.lines.now c.in-Ok.place c.index-lines-place.result c.requires.rising c.in-Ok.ensures.bound
    (c.in-Ok.ensures.position (λ (line : Line). line.at) (answers_always _ _ _ (λ f a r q k. search rules)))

pub returns-in-Err : goal.returns-in-Err
returns-in-Err c =
    found_nowhere c.args.at c.args.lines.now c.in-Err.field-0 c.requires.rising
    (c.in-Err.ensures.position (λ (line : Line). line.at) (answers_always _ _ _ (λ f a r q k. search rules)))

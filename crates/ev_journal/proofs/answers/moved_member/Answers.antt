use Rattle.std.proofs.Common.{◌≡◌, ◌∙◌, ◌++◌}
use Rattle.std.specs.Prelude.{codes, string_bytes, IfOk}
use Rattle.std.proofs.lemmas.Result.{IfOk-weaker}
use Rattle.ev_journal.proofs.TextLemmas.{none_moved, some_moved}
use Rattle.ev_journal.proofs.answers.moved_member.Goals as goal

pub returns-then-moved-eq0-clause-text : goal.returns-then-moved-eq0-clause-text
returns-then-moved-eq0-clause-text c = c.new.ensures.bytes ∙ none_moved c.args.moved.now c.if-moved-eq0.true

pub returns-clause-text : goal.returns-clause-text
returns-clause-text c =
    let moved = string_bytes c.in_ok-moved.moved in
    let written : IfOk c.format.result (λ text. string_bytes text ≡ codes "\"moved\":" ++ (moved ++ codes ",")) = c.format.ensures.ok in
    IfOk-weaker c.format.result _ _ (λ text e. e ∙ some_moved moved c.args.moved.now c.if-moved-eq0.false c.in_ok-moved.ensures.text) written

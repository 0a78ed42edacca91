use Rattle.std.proofs.Common.{◌≡◌, ◌∙◌, ◌++◌}
use Rattle.std.specs.Prelude.{codes, decimal, string_bytes, IfOk}
use Rattle.std.proofs.lemmas.Result.{IfOk-weaker}
use Rattle.ev_journal.proofs.TextLemmas.{settled}
use Rattle.ev_journal.proofs.answers.settled_text.Goals as goal

pub returns-clause-text : goal.returns-clause-text
returns-clause-text c =
    let closed = string_bytes c.in_ok-closed.closed in
    let moved = string_bytes c.in_ok-moved.moved in
    let written : IfOk c.format.result (λ text. string_bytes text ≡ codes "{\"closed\":" ++ (closed ++ (codes "," ++ (moved ++ (codes "\"version\":" ++ (decimal c.args.version ++ codes "}")))))) = c.format.ensures.ok in
    IfOk-weaker c.format.result _ _ (λ text e. e
    ∙ settled closed moved c.args.closed.now c.args.moved.now c.args.version c.in_ok-closed.ensures.text c.in_ok-moved.ensures.text) written

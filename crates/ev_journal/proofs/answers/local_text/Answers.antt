use Rattle.std.proofs.Common.{◌≡◌, ◌∙◌, ◌++◌, ap}
use Rattle.std.specs.Prelude.{codes, decimal, string_bytes, IfOk}
use Rattle.std.proofs.lemmas.Result.{IfOk-weaker}
use Rattle.serde_json.specs.Written.{compact_text}
use Rattle.ev_journal.specs.Rendering.{local_tree}
use Rattle.ev_journal.proofs.TextLemmas.{local}
use Rattle.ev_journal.proofs.answers.local_text.Goals as goal

pub returns-clause-text : goal.returns-clause-text
returns-clause-text c =
    let chain = string_bytes c.in_ok-chain.chain in
    let written : IfOk c.format.result (λ text. string_bytes text ≡ codes "{" ++ (chain ++ (codes "\"listener\":" ++ (decimal c.number-listener.result ++ (codes ",\"result\":\"local\",\"status\":" ++ (decimal c.args.status ++ codes "}")))))) = c.format.ensures.ok in
    IfOk-weaker c.format.result _ _ (λ text e. e ∙ local chain c.number-listener.result c.args.chain c.args.status c.in_ok-chain.ensures.text
    ∙ ap (λ n. compact_text (local_tree n c.args.chain c.args.status)) c.number-listener.ensures.number) written

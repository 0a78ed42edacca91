use Rattle.std.proofs.Common.{◌≡◌, ◌∙◌, ◌++◌, ap, ap₂}
use Rattle.std.specs.Prelude.{codes, decimal, string_bytes, IfOk}
use Rattle.std.proofs.lemmas.Result.{IfOk-weaker}
use Rattle.serde_json.specs.Data.{string}
use Rattle.serde_json.specs.Written.{compact_text}
use Rattle.ev_journal.specs.Rendering.{served_tree}
use Rattle.ev_journal.proofs.TextLemmas.{served}
use Rattle.ev_journal.proofs.answers.served_text.Goals as goal

pub returns-clause-text : goal.returns-clause-text
returns-clause-text c =
    let address = string_bytes c.in_ok-address.address in
    let chain = string_bytes c.in_ok-chain.chain in
    let written : IfOk c.format.result (λ text. string_bytes text ≡ codes "{\"address\":" ++ (address ++ (codes "," ++ (chain ++ (codes "\"cluster\":" ++ (decimal c.number-cluster.result ++ (codes ",\"listener\":" ++ (decimal c.number-listener.result ++ (codes ",\"port\":" ++ (decimal c.args.host.now.port ++ codes ",\"result\":\"served\"}")))))))))) = c.format.ensures.ok in
    IfOk-weaker c.format.result _ _ (λ text e. e
    ∙ served address chain c.number-listener.result c.number-cluster.result c.args.chain c.args.host.now
    (c.in_ok-address.ensures ∙ ap (λ t. compact_text (string t)) c.as_str.ensures.bytes) c.in_ok-chain.ensures.text
    ∙ ap₂ (λ l n. compact_text (served_tree l c.args.chain n c.args.host.now)) c.number-listener.ensures.number c.number-cluster.ensures.number) written

use Rattle.std.proofs.Common.{◌≡◌, ◌∙◌, ◌++◌, ap}
use Rattle.std.specs.Prelude.{codes, decimal, string_bytes, IfOk}
use Rattle.std.proofs.lemmas.Result.{IfOk-weaker}
use Rattle.serde_json.specs.Written.{compact_text}
use Rattle.ev_journal.specs.Rendering.{going_tree}
use Rattle.ev_journal.proofs.TextLemmas.{going}
use Rattle.ev_journal.proofs.answers.going_text.Goals as goal

pub returns-clause-text : goal.returns-clause-text
returns-clause-text c =
    let chain = string_bytes c.in_ok-chain.chain in
    let cluster = string_bytes c.in_ok-cluster.cluster in
    let written : IfOk c.format.result (λ text. string_bytes text ≡ codes "{" ++ (chain ++ (cluster ++ (codes "\"listener\":" ++ (decimal c.number-listener.result ++ (codes ",\"result\":\"" ++ (c.args.word.now ++ codes "\"}"))))))) = c.format.ensures.ok in
    IfOk-weaker c.format.result _ _ (λ text e. e
    ∙ going chain cluster c.args.word.now c.number-listener.result c.args.chain c.args.cluster c.requires.plain c.in_ok-chain.ensures.text c.in_ok-cluster.ensures.text
    ∙ ap (λ n. compact_text (going_tree c.args.word.now n c.args.chain c.args.cluster)) c.number-listener.ensures.number) written

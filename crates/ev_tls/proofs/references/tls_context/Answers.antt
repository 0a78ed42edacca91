use Rattle.std.proofs.Common.{◌≡◌, IfOk, Option, Bor, subst}
use Rattle.serde_json.specs.Data.{Data}
use Rattle.serde_json.specs.declared.value.Value.{Value}
use Rattle.ev_tree.specs.Forms.{tree_of}
use Rattle.ev_tls.specs.References.{context_in}
use Rattle.ev_tls.proofs.references.tls_context.Goals as goal

pub returns : goal.returns
returns c =
    subst (λ (d : Data). IfOk c.context_in.result (λ (context : Option (Bor Value)). tree_of context ≡ context_in d)) c.in_ok-socket_config.ensures c.context_in.ensures

use Rattle.std.proofs.Common.{◌≡◌, IfOk, Option, Bor, codes, subst}
use Rattle.serde_json.specs.Data.{Data}
use Rattle.serde_json.specs.declared.value.Value.{Value}
use Rattle.ev_tree.specs.Forms.{tree_of, inside, object_of}
use Rattle.ev_tls.proofs.references.socket_config.Goals as goal

pub returns : goal.returns
returns c =
    subst (λ (d : Data). IfOk c.inner_object-2.result (λ (config : Option (Bor Value)). tree_of config ≡ inside (object_of (codes "typed_config") d))) c.in_ok-socket.ensures c.inner_object-2.ensures

use Rattle.std.proofs.Common.{◌∙◌}
use Rattle.std.proofs.lemmas.Result.{IfOk-weaker}
use Rattle.ev_secret_json.specs.References.{joined}
use Rattle.ev_secret_json.specs.TlsContexts.{downstream_secrets}
use Rattle.ev_secret_json.proofs.tls_contexts.find_downstream_secrets.Goals as goal

pub returns : goal.returns
unfolding downstream_secrets
returns c = IfOk-weaker c.join_references.result _ _ (λ _ is. is ∙ (λ i. joined (c.in_ok-common.ensures i) (c.in_ok-keys.ensures i))) c.join_references.ensures

use Rattle.std.proofs.Common.{◌∙◌, ap}
use Rattle.std.proofs.lemmas.Result.{IfOk-weaker}
use Rattle.ev_tree.specs.Forms.{inside}
use Rattle.ev_secret_json.specs.References.{wrong_form, joined}
use Rattle.ev_secret_json.specs.TlsContexts.{upstream_secrets}
use Rattle.ev_secret_json.specs.TransportSockets.{quic_upstream_secrets}
use Rattle.ev_secret_json.proofs.transport_sockets.find_quic_upstream.Goals as goal

pub returns : goal.returns
unfolding quic_upstream_secrets
returns c =
    let below = c.in_ok-below.ensures ∙ ap upstream_secrets (c.inner.ensures ∙ ap inside c.in_ok-context.ensures.value) in
    let wrong = c.wrong_form.ensures ∙ ap wrong_form (c.is_wrong.ensures ∙ c.in_ok-context.ensures.wrong) in
    IfOk-weaker c.join_references.result _ _ (λ _ is. is ∙ (λ i. joined (below i) (wrong i))) c.join_references.ensures

use Rattle.std.proofs.Common.{◌∙◌, ap, codes}
use Rattle.std.proofs.lemmas.Result.{IfOk-weaker}
use Rattle.ev_tree.specs.Forms.{inside, text_of}
use Rattle.ev_secret_json.specs.References.{joined}
use Rattle.ev_secret_json.specs.TransportSockets.{socket_in, socket_config_of, socket_kind_of, held_by, socket_secrets}
use Rattle.ev_secret_json.proofs.transport_sockets.find_socket_secrets.Goals as goal

pub returns : goal.returns
unfolding socket_config_of socket_kind_of socket_secrets
returns c =
    let config = c.inner-inner.ensures ∙ ap inside c.in_ok-config.ensures.value in
    let kind = c.choose_socket.ensures ∙ ap socket_in (c.in_ok-name.ensures.value ∙ ap (text_of (codes "@type")) config) in
    let held = c.in_ok-held.ensures ∙ (λ i. held_by (kind i) (config i)) in
    IfOk-weaker c.join_references.result _ _ (λ _ is. is ∙ (λ i. joined (c.in_ok-own.ensures i) (held i))) c.join_references.ensures

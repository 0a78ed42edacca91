use Rattle.std.proofs.Common.{◌∙◌, ap, codes}
use Rattle.std.proofs.lemmas.Result.{IfOk-weaker}
use Rattle.ev_tree.specs.Forms.{is_wrong, inside, text_of}
use Rattle.ev_tree.proofs.Outcomes.{or_same}
use Rattle.ev_secret_json.specs.References.{wrong_form, joined}
use Rattle.ev_secret_json.specs.TransportSockets.{socket_in, socket_config_of, socket_kind_of, config_secrets, plain_secrets}
use Rattle.ev_secret_json.proofs.transport_sockets.find_plain_secrets.Goals as goal

pub returns : goal.returns
unfolding socket_config_of socket_kind_of plain_secrets
returns c =
    let config = c.inner-inner.ensures ∙ ap inside c.in_ok-config.ensures.value in
    let kind = c.choose_socket.ensures ∙ ap socket_in (c.in_ok-name.ensures.value ∙ ap (text_of (codes "@type")) config) in
    let below = c.in_ok-below.ensures ∙ (λ i. config_secrets (kind i) (config i)) in
    let wrong = c.wrong_form.ensures ∙ ap wrong_form (or_same
    (c.is_wrong.ensures ∙ c.in_ok-config.ensures.wrong)
    (c.is_wrong-2.ensures ∙ c.in_ok-name.ensures.wrong ∙ ap (λ t. is_wrong (text_of (codes "@type") t)) config)) in
    IfOk-weaker c.join_references.result _ _ (λ _ is. is ∙ (λ i. joined (below i) (wrong i))) c.join_references.ensures

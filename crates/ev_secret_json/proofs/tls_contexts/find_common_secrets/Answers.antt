use Rattle.std.proofs.Common.{◌∙◌, ap, codes}
use Rattle.std.proofs.lemmas.Result.{IfOk-weaker}
use Rattle.ev_tree.specs.Forms.{inside}
use Rattle.ev_secret_json.specs.References.{wrong_form, joined}
use Rattle.ev_secret_json.specs.SecretConfigs.{secret_in}
use Rattle.ev_secret_json.specs.TlsContexts.{common_secrets}
use Rattle.ev_secret_json.proofs.tls_contexts.find_common_secrets.Goals as goal

pub returns : goal.returns
unfolding common_secrets
returns c =
    let combined = c.in_ok-in_combined.ensures ∙ ap (secret_in (codes "validation_context_sds_secret_config")) (c.inner-inner.ensures ∙ ap inside c.in_ok-combined.ensures.value) in
    let wrong = c.wrong_form.ensures ∙ ap wrong_form (c.is_wrong.ensures ∙ c.in_ok-combined.ensures.wrong) in
    let last = c.in_ok-last.ensures ∙ (λ i. joined (combined i) (wrong i)) in
    let behind = c.in_ok-behind.ensures ∙ (λ i. joined (c.in_ok-validation.ensures i) (last i)) in
    IfOk-weaker c.join_references-3.result _ _ (λ _ is. is ∙ (λ i. joined (c.in_ok-certificates.ensures i) (behind i))) c.join_references-3.ensures

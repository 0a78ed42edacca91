use Rattle.std.proofs.Common.{◌∙◌, ap}
use Rattle.std.proofs.lemmas.Result.{IfOk-weaker}
use Rattle.ev_tree.specs.Forms.{inside}
use Rattle.ev_secret_json.specs.References.{wrong_form, joined}
use Rattle.ev_secret_json.specs.SecretConfigs.{config_secret, secret_in}
use Rattle.ev_secret_json.proofs.secret_configs.find_secret_in.Goals as goal

pub returns : goal.returns
unfolding secret_in
returns c =
    let below = c.in_ok-below.ensures ∙ ap config_secret (c.inner.ensures ∙ ap inside c.in_ok-config.ensures.value) in
    let wrong = c.wrong_form.ensures ∙ ap wrong_form (c.is_wrong.ensures ∙ c.in_ok-config.ensures.wrong) in
    IfOk-weaker c.join_references.result _ _ (λ _ is. is ∙ (λ i. joined (below i) (wrong i))) c.join_references.ensures

use Rattle.std.proofs.Common.{◌∙◌, ap}
use Rattle.ev_tree.specs.Forms.{listed}
use Rattle.ev_secret_json.specs.References.{wrong_form, joined, each_joined}
use Rattle.ev_secret_json.specs.Extensions.{filter_extension}
use Rattle.ev_listener_json.specs.ChainExtensions.{manager_extensions}
use Rattle.ev_listener_json.proofs.chain_extensions.find_manager_extensions.Goals as goal

pub returns : goal.returns
unfolding manager_extensions
returns c =
    let below = c.in_ok-below.ensures ∙ ap (each_joined filter_extension) (c.elements.ensures ∙ ap listed c.in_ok-filters.ensures.value) in
    let wrong = c.wrong_form.ensures ∙ ap wrong_form (c.is_wrong.ensures ∙ c.in_ok-filters.ensures.wrong) in
    c.in_ok-both.ensures ∙ (λ i. joined (below i) (wrong i))

use Rattle.std.proofs.Common.{◌∙◌, [], codes, ap}
use Rattle.ev_tree.specs.Forms.{inside, is_wrong, given_or, text_of}
use Rattle.ev_tree.specs.Addresses.{internal_in, internal_name_in, internal_id_in, is_wrong_internal}
use Rattle.ev_tree.proofs.Outcomes.{or_same}
use Rattle.ev_tree.proofs.addresses.find_internal.Goals as goal

pub returns-clause-name : goal.returns-clause-name
unfolding internal_in internal_name_in
returns-clause-name c =
    let internal = c.inner-inner.ensures ∙ ap inside c.in_ok-internal.ensures.value in
    c.text_or_empty.ensures ∙ ap (given_or []) (c.in_ok-name.ensures.value ∙ ap (text_of (codes "server_listener_name")) internal)

pub returns-clause-id : goal.returns-clause-id
unfolding internal_in internal_id_in
returns-clause-id c =
    let internal = c.inner-inner.ensures ∙ ap inside c.in_ok-internal.ensures.value in
    c.text_or_empty-2.ensures ∙ ap (given_or []) (c.in_ok-id.ensures.value ∙ ap (text_of (codes "endpoint_id")) internal)

pub returns-clause-wrong : goal.returns-clause-wrong
unfolding internal_in is_wrong_internal
returns-clause-wrong c =
    let internal = c.inner-inner.ensures ∙ ap inside c.in_ok-internal.ensures.value in
    or_same (or_same
    (c.is_wrong.ensures ∙ c.in_ok-internal.ensures.wrong)
    (c.is_wrong-2.ensures ∙ c.in_ok-name.ensures.wrong ∙ ap (λ t. is_wrong (text_of (codes "server_listener_name") t)) internal))
    (c.is_wrong-3.ensures ∙ c.in_ok-id.ensures.wrong ∙ ap (λ t. is_wrong (text_of (codes "endpoint_id") t)) internal)

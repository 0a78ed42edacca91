use Rattle.std.proofs.Common.{◌≡◌, ℕ, List, ◌++◌, map, filter_map, codes, sym, ap, ◌∙◌}
use Rattle.std.proofs.lemmas.List.Elements.{filter_map-append}
use Rattle.serde_json.specs.Data.{Data}
use Rattle.serde_json.specs.View.{view}
use Rattle.ev_tree.specs.Forms.{tree_of, listed, list_of, field_of}
use Rattle.ev_tls.specs.References.{tls_context, secret_named, given_list}
use Rattle.ev_tls.proofs.references.references_of.Goals as goal

pub returns : goal.returns
returns c =
    let context : Data = tls_context (tree_of c.args.body) in
    let here : tree_of c.in_ok-context.context ≡ context = c.in_ok-context.ensures in
    let certificates : map view c.elements.result.now ≡ listed (list_of (codes "tls_certificate_sds_secret_configs") context) =
    c.elements.ensures ∙ ap listed (c.in_ok-certificates.ensures.value ∙ ap (list_of (codes "tls_certificate_sds_secret_configs")) here) in
    let validation = c.in_ok-validation.ensures.value ∙ ap (field_of (codes "validation_context_sds_secret_config")) here in
    let first : List (List ℕ) = filter_map secret_named (listed (list_of (codes "tls_certificate_sds_secret_configs") context)) in
    let given : List Data = given_list (field_of (codes "validation_context_sds_secret_config") context) in
    let start : c.push_all.new.names.items ≡ first =
    c.in_ok-push_all.ensures ∙ ap (λ (xs : List (List ℕ)). xs ++ filter_map secret_named (map view c.elements.result.now)) c.new-names.ensures.items ∙ ap (filter_map secret_named) certificates in
    c.in_ok-push_given.ensures
    ∙ (λ i. start i ++ filter_map secret_named (given_list (validation i)))
    ∙ sym (filter_map-append secret_named (listed (list_of (codes "tls_certificate_sds_secret_configs") context)) given)

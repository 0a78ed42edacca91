use Rattle.std.proofs.Common.{◌∙◌, ap, codes}
use Rattle.ev_tree.specs.Forms.{inside, text_of}
use Rattle.ev_secret_json.specs.References.{joined}
use Rattle.ev_listener_json.specs.Filters.{kind_in, config_of, filter_kind_of}
use Rattle.ev_listener_json.specs.ChainExtensions.{kind_extensions, network_extensions}
use Rattle.ev_listener_json.proofs.chain_extensions.find_network_extensions.Goals as goal

pub returns : goal.returns
unfolding config_of filter_kind_of network_extensions
returns c =
    let config = c.inner-inner.ensures ∙ ap inside c.in_ok-config.ensures.value in
    let kind = c.choose_kind.ensures ∙ ap kind_in (c.in_ok-name.ensures.value ∙ ap (text_of (codes "@type")) config) in
    let below = c.in_ok-below.ensures ∙ (λ i. kind_extensions (kind i) (config i)) in
    c.in_ok-both.ensures ∙ (λ i. joined (c.in_ok-own.ensures i) (below i))

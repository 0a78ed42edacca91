use Rattle.std.proofs.Common.{◌∙◌, ap, ◌∷◌, [], codes}
use Rattle.ev_types.specs.declared.events.Profile.TheVariants.{Envoy}
use Rattle.ev_tree.specs.Forms.{is_wrong, inside, text_of, object_of}
use Rattle.ev_tree.specs.Broken.{either_broken}
use Rattle.ev_tree.proofs.Outcomes.{or_same, not_same}
use Rattle.ev_listener_json.specs.Filters.{kind_in, config_serve, config_broken}
use Rattle.ev_listener_json.specs.ChainExtensions.{kind_extensions}
use Rattle.ev_listener_json.specs.Chains.{serve_or_other, is_manager, api_chain, api_outer_of, api_config_of, api_kind_of, api_serve_of, api_extensions, api_broken}
use Rattle.ev_listener_json.proofs.envoy_chains.inspect_api.Goals as goal

pub returns-clause-chains : goal.returns-clause-chains
unfolding api_outer_of api_config_of api_kind_of api_serve_of api_extensions
returns-clause-chains c =
    let outer = c.inner.ensures ∙ ap inside c.in_ok-outer.ensures.value in
    let config = c.inner-config.ensures ∙ ap inside (c.in_ok-inner.ensures.value ∙ ap (object_of (codes "api_listener")) outer) in
    let kind = c.choose_kind-kind.ensures ∙ ap kind_in (c.in_ok-name.ensures.value ∙ ap (text_of (codes "@type")) config) in
    let serve = c.serve_or_other.ensures ∙ ap serve_or_other (c.in_ok-below.ensures.value ∙ (λ i. config_serve Envoy (kind i) (config i))) in
    let extensions = c.in_ok-extensions.ensures ∙ (λ i. kind_extensions (kind i) (config i)) in
    c.in_ok-make_api_chains.ensures ∙ (λ i. api_chain (config i) (serve i) (extensions i).list ∷ [])

pub returns-clause-broken : goal.returns-clause-broken
unfolding api_outer_of api_config_of api_kind_of api_extensions api_broken
returns-clause-broken c =
    let outer = c.inner.ensures ∙ ap inside c.in_ok-outer.ensures.value in
    let config = c.inner-config.ensures ∙ ap inside (c.in_ok-inner.ensures.value ∙ ap (object_of (codes "api_listener")) outer) in
    let kind = c.choose_kind-kind.ensures ∙ ap kind_in (c.in_ok-name.ensures.value ∙ ap (text_of (codes "@type")) config) in
    let below = c.in_ok-below.ensures.broken ∙ (λ i. config_broken Envoy (kind i) (config i)) in
    let extensions = c.in_ok-extensions.ensures ∙ (λ i. kind_extensions (kind i) (config i)) in
    c.or-2.ensures ∙ (λ i. either_broken (below i) ((c.or.ensures ∙ (λ j. either_broken (extensions j).broken (record (c.none.ensures j) {
      v6 = or_same (or_same
          (c.is_wrong.ensures ∙ c.in_ok-outer.ensures.wrong)
          (c.is_wrong-2.ensures ∙ c.in_ok-inner.ensures.wrong ∙ ap (λ t. is_wrong (object_of (codes "api_listener") t)) outer))
          (c.is_wrong-3.ensures ∙ c.in_ok-name.ensures.wrong ∙ ap (λ t. is_wrong (text_of (codes "@type") t)) config) j;
      v17 = not_same (c.is_manager.ensures ∙ ap is_manager kind) j;
    }))) i))

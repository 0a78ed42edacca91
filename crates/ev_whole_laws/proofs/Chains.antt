-- Filter chains of a listener, as Envoy reads them.
use Rattle.std.proofs.Common.{◌≡◌, ◌∙◌, ap, refl}
use Rattle.std.specs.Prelude.{◌||◌, ◌&&◌, ◌==◌, Bool, [], ◌∷◌, length, map, not, if◌then◌else◌, None, Some, codes}
use Rattle.serde_json.specs.Data.{Data}
use Rattle.ev_types.specs.FilterChains.{has_collision}
use Rattle.ev_types.specs.declared.events.Profile.TheVariants.{Envoy}
use Rattle.ev_types.specs.declared.filter_chains.FilterChainMatch.{FilterChainMatch}
use Rattle.ev_types.specs.declared.listeners.FilterChain.{FilterChain}
use Rattle.ev_tree.specs.declared.outcome.Found.{Found}
use Rattle.ev_tree.specs.declared.outcome.Found.TheVariants.{Absent, Wrong, Given}
use Rattle.ev_tree.specs.Forms.{found_map, is_wrong, inside, text_of, object_of}
use Rattle.ev_tree.specs.Broken.{none_broken, either_broken, any_broken}
use Rattle.ev_tree.specs.Counts.{more_than_one}
use Rattle.ev_tree.specs.Floats.{whole, plain_text}
use Rattle.ev_listener_json.specs.Parts.{first_of}
use Rattle.ev_listener_json.specs.Filters.{kind_in, config_serve, config_broken, filter_serve, filter_serves, filter_broken, filters_of}
use Rattle.ev_listener_json.specs.ChainMatches.{filter_chain_match_of, filter_chain_match_broken}
use Rattle.ev_listener_json.specs.ChainExtensions.{kind_extensions}
use Rattle.ev_listener_json.specs.Chains.{no_criteria, serve_or_other, served_by, filters_broken, served_broken, chain_with, chain_match_of, envoy_chain_broken, envoy_chain_of, has_api, api_outer_of, api_config_of, api_kind_of, default_chain, default_broken, is_manager, api_extensions, api_broken, api_serve_of, chains_of, has_default, given_chains_broken, given_default_of, envoy_chains_broken, envoy_chains_of, envoy_default_of}
use Rattle.ev_whole_laws.proofs.ChainMatches.{filter_chain_match_broken-whole, filter_chain_match_of-whole}
use Rattle.ev_whole_laws.proofs.Filters.{config_broken-whole, config_serve-whole, filter_broken-whole, filter_serve-whole, filter_serves-whole, filters_of-whole}
use Rattle.ev_whole_laws.proofs.Forms.{field-is_absent, inside-object, listed-objects, object_of-whole, object-is_given, object-is_wrong, objects-is_wrong, text_of-whole}
use Rattle.ev_whole_laws.proofs.ChainExtensions.{kind_extensions-whole, chain_extensions-whole}
use Rattle.ev_whole_laws.proofs.Secrets.{transport_secrets-whole}
use Rattle.ev_whole_laws.proofs.Texts.{plain_text-whole}
use Rattle.ev_whole_laws.proofs.Parts.{any_broken-whole, length-whole, map-whole}

-- ---- a chain

served_by-whole : (chain : Data) → served_by (whole chain) ≡ served_by chain
unfolding served_by
served_by-whole chain = λ i.
    serve_or_other (first_of ((ap (map (filter_serve Envoy)) (filters_of-whole chain) ∙ map-whole (filter_serve Envoy) (filter_serve-whole Envoy) (filters_of chain)) i))

filters_broken-whole : (chain : Data) → filters_broken (whole chain) ≡ filters_broken chain
unfolding filters_broken
filters_broken-whole chain = λ i. either_broken ((ap (any_broken (filter_broken Envoy)) (filters_of-whole chain) ∙ any_broken-whole (filter_broken Envoy) (filter_broken-whole Envoy) (filters_of chain)) i) (record none_broken {
  v6 = objects-is_wrong (codes "filters") chain i;
  v17 = more_than_one ((ap (map (filter_serves Envoy)) (filters_of-whole chain) ∙ map-whole (filter_serves Envoy) (filter_serves-whole Envoy) (filters_of chain)) i);
})

chain_match_of-whole : (chain : Data) → chain_match_of (whole chain) ≡ whole (chain_match_of chain)
unfolding chain_match_of
chain_match_of-whole chain = inside-object (codes "filter_chain_match") chain

served_broken-whole : (chain : Data) → served_broken (whole chain) ≡ served_broken chain
unfolding served_broken
served_broken-whole chain = λ i.
    either_broken (filters_broken-whole chain i) (either_broken (transport_secrets-whole chain i).broken (chain_extensions-whole chain i).broken)

chain_with-whole : (criteria : FilterChainMatch) (chain : Data) → chain_with criteria (whole chain) ≡ chain_with criteria chain
unfolding chain_with
chain_with-whole criteria chain = λ i. record {
  criteria = criteria;
  serve = served_by-whole chain i;
  secrets = (transport_secrets-whole chain i).list;
  extensions = (chain_extensions-whole chain i).list;
  body_text = plain_text-whole chain i;
}

envoy_chain_broken-whole : (chain : Data) → envoy_chain_broken (whole chain) ≡ envoy_chain_broken chain
unfolding envoy_chain_broken
envoy_chain_broken-whole chain = λ i.
    either_broken (served_broken-whole chain i)
    (either_broken ((ap filter_chain_match_broken (chain_match_of-whole chain) ∙ filter_chain_match_broken-whole (chain_match_of chain)) i)
    (record none_broken { v6 = object-is_wrong (codes "filter_chain_match") chain i }))

envoy_chain_of-whole : (chain : Data) → envoy_chain_of (whole chain) ≡ envoy_chain_of chain
unfolding envoy_chain_of
envoy_chain_of-whole chain =
    (λ i. chain_with ((ap filter_chain_match_of (chain_match_of-whole chain) ∙ filter_chain_match_of-whole (chain_match_of chain)) i) (whole chain))
    ∙ chain_with-whole (filter_chain_match_of (chain_match_of chain)) chain

-- ---- an API listener

pub has_api-whole : (listener : Data) → has_api (whole listener) ≡ has_api listener
has_api-whole listener = λ i. not (field-is_absent (codes "api_listener") listener i)

api_outer_of-whole : (listener : Data) → api_outer_of (whole listener) ≡ whole (api_outer_of listener)
unfolding api_outer_of
api_outer_of-whole listener = inside-object (codes "api_listener") listener

api_config_of-whole : (listener : Data) → api_config_of (whole listener) ≡ whole (api_config_of listener)
unfolding api_config_of
api_config_of-whole listener =
    ap (λ (t : Data). inside (object_of (codes "api_listener") t)) (api_outer_of-whole listener) ∙ inside-object (codes "api_listener") (api_outer_of listener)

type_found : (listener : Data) → text_of (codes "@type") (api_config_of (whole listener)) ≡ text_of (codes "@type") (api_config_of listener)
type_found listener = ap (text_of (codes "@type")) (api_config_of-whole listener) ∙ text_of-whole (codes "@type") (api_config_of listener)

api_kind_of-whole : (listener : Data) → api_kind_of (whole listener) ≡ api_kind_of listener
unfolding api_kind_of
api_kind_of-whole listener = λ i. kind_in (type_found listener i)

api_config_broken : (listener : Data) → config_broken Envoy (api_kind_of (whole listener)) (api_config_of (whole listener)) ≡ config_broken Envoy (api_kind_of listener) (api_config_of listener)
api_config_broken listener =
    (λ i. config_broken Envoy (api_kind_of-whole listener i) (api_config_of-whole listener i))
    ∙ config_broken-whole Envoy (api_kind_of listener) (api_config_of listener)

api_config_serve : (listener : Data) → config_serve Envoy (api_kind_of (whole listener)) (api_config_of (whole listener)) ≡ config_serve Envoy (api_kind_of listener) (api_config_of listener)
api_config_serve listener =
    (λ i. config_serve Envoy (api_kind_of-whole listener i) (api_config_of-whole listener i))
    ∙ config_serve-whole Envoy (api_kind_of listener) (api_config_of listener)

api_extensions-whole : (listener : Data) → api_extensions (whole listener) ≡ api_extensions listener
unfolding api_extensions
api_extensions-whole listener =
    (λ i. kind_extensions (api_kind_of-whole listener i) (api_config_of-whole listener i))
    ∙ kind_extensions-whole (api_kind_of listener) (api_config_of listener)

api_broken-whole : (listener : Data) → api_broken (whole listener) ≡ api_broken listener
unfolding api_broken
api_broken-whole listener = λ i. either_broken (api_config_broken listener i) (either_broken (api_extensions-whole listener i).broken (record none_broken {
  v6 =
      object-is_wrong (codes "api_listener") listener i
      || (ap (λ (t : Data). is_wrong (object_of (codes "api_listener") t)) (api_outer_of-whole listener) ∙ object-is_wrong (codes "api_listener") (api_outer_of listener)) i
      || is_wrong (type_found listener i);
  v17 = not (is_manager (api_kind_of-whole listener i));
}))

api_serve_of-whole : (listener : Data) → api_serve_of (whole listener) ≡ api_serve_of listener
unfolding api_serve_of
api_serve_of-whole listener = λ i. serve_or_other (api_config_serve listener i)

-- ---- all chains of a listener

pub chains_of-whole : (tree : Data) → chains_of (whole tree) ≡ map whole (chains_of tree)
unfolding chains_of
chains_of-whole tree = listed-objects (codes "filter_chains") tree

chain_by : (found : Found Data) → default_chain (found_map whole found) ≡ default_chain found
chain_by Absent = refl
chain_by Wrong = refl
chain_by (Given chain) = ap Some (chain_with-whole no_criteria chain)

broken_by : (found : Found Data) → default_broken (found_map whole found) ≡ default_broken found
broken_by Absent = refl
broken_by Wrong = refl
broken_by (Given chain) = served_broken-whole chain

default_broken-whole : (tree : Data)
    → default_broken (object_of (codes "default_filter_chain") (whole tree)) ≡ default_broken (object_of (codes "default_filter_chain") tree)
default_broken-whole tree = ap default_broken (object_of-whole (codes "default_filter_chain") tree) ∙ broken_by (object_of (codes "default_filter_chain") tree)

given_default_of-whole : (tree : Data) → given_default_of (whole tree) ≡ given_default_of tree
unfolding given_default_of
given_default_of-whole tree = ap default_chain (object_of-whole (codes "default_filter_chain") tree) ∙ chain_by (object_of (codes "default_filter_chain") tree)

has_default-whole : (tree : Data) → has_default (whole tree) ≡ has_default tree
has_default-whole tree = object-is_given (codes "default_filter_chain") tree

given_chains_of : (tree : Data) → map envoy_chain_of (chains_of (whole tree)) ≡ map envoy_chain_of (chains_of tree)
given_chains_of tree = ap (map envoy_chain_of) (chains_of-whole tree) ∙ map-whole envoy_chain_of envoy_chain_of-whole (chains_of tree)

given_chains_broken-whole : (udp : Bool) (tree : Data) → given_chains_broken udp (whole tree) ≡ given_chains_broken udp tree
unfolding given_chains_broken
given_chains_broken-whole udp tree = λ i.
    either_broken ((ap (any_broken envoy_chain_broken) (chains_of-whole tree) ∙ any_broken-whole envoy_chain_broken envoy_chain_broken-whole (chains_of tree)) i)
    (either_broken (default_broken-whole tree i) (record none_broken {
      v6 = objects-is_wrong (codes "filter_chains") tree i || object-is_wrong (codes "default_filter_chain") tree i;
      v16 = ((ap length (chains_of-whole tree) ∙ length-whole (chains_of tree)) i == 0) && not (has_default-whole tree i) && not udp;
      v26 = has_collision (map (λ (c : FilterChain). c.criteria) (given_chains_of tree i));
    }))

pub envoy_chains_broken-whole : (udp : Bool) (tree : Data) → envoy_chains_broken udp (whole tree) ≡ envoy_chains_broken udp tree
unfolding envoy_chains_broken
envoy_chains_broken-whole udp tree = λ i. if has_api-whole tree i then api_broken-whole tree i else given_chains_broken-whole udp tree i

pub envoy_chains_of-whole : (tree : Data) → envoy_chains_of (whole tree) ≡ envoy_chains_of tree
unfolding envoy_chains_of
envoy_chains_of-whole tree = λ i.
    if has_api-whole tree i
    then record {
      criteria = no_criteria;
      serve = api_serve_of-whole tree i;
      secrets = [];
      extensions = (api_extensions-whole tree i).list;
      body_text = (ap plain_text (api_config_of-whole tree) ∙ plain_text-whole (api_config_of tree)) i;
    } ∷ []
    else given_chains_of tree i

pub envoy_default_of-whole : (tree : Data) → envoy_default_of (whole tree) ≡ envoy_default_of tree
unfolding envoy_default_of
envoy_default_of-whole tree = λ i. if has_api-whole tree i then None else given_default_of-whole tree i

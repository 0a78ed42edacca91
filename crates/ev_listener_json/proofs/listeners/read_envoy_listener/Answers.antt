use Rattle.std.proofs.Common.{◌≡◌, ◌∙◌, None, Ok, ap, sym}
use Rattle.serde_json.specs.View.{view}
use Rattle.ev_tree.specs.Rules.{judged, is_name}
use Rattle.ev_tree.specs.Broken.{either_broken, least_of}
use Rattle.ev_listener_json.specs.Chains.{envoy_chains_broken}
use Rattle.ev_listener_json.specs.Listeners.{envoy_listener_broken, envoy_listener_of, is_every_address}
use Rattle.ev_listener_json.proofs.Leasts.{envoy_name, envoy_address}
use Rattle.ev_listener_json.proofs.listeners.read_envoy_listener.Goals as goal

pub returns-in-Some : goal.returns-in-Some
returns-in-Some c =
    let tree = view c.args.value.now in
    let broken = c.or-broken.ensures ∙ (λ i. either_broken
    ((c.in_ok-below.ensures.broken ∙ ap (λ udp. envoy_chains_broken udp tree) c.in_ok-own.ensures.udp) i)
    ((c.or-2.ensures ∙ (λ j. either_broken (c.in_ok-redirection.ensures.broken j)
    ((c.or.ensures ∙ (λ k. either_broken (c.in_ok-extensions.ensures k).broken (c.in_ok-own.ensures.broken k))) j))) i)) in
    ap (λ rule. judged rule (envoy_listener_of tree)) (sym (ap least_of broken) ∙ sym c.least.ensures ∙ c.in-Some.is)

pub make_texts-requires-clause-name : goal.make_texts-requires-clause-name
make_texts-requires-clause-name c =
    let tree = view c.args.value.now in
    let broken = c.or-broken.ensures ∙ (λ i. either_broken
    ((c.in_ok-below.ensures.broken ∙ ap (λ udp. envoy_chains_broken udp tree) c.in_ok-own.ensures.udp) i)
    ((c.or-2.ensures ∙ (λ j. either_broken (c.in_ok-redirection.ensures.broken j)
    ((c.or.ensures ∙ (λ k. either_broken (c.in_ok-extensions.ensures k).broken (c.in_ok-own.ensures.broken k))) j))) i)) in
    let none : least_of (envoy_listener_broken tree) ≡ None = sym (ap least_of broken) ∙ sym c.least.ensures ∙ c.in_default.is in
    ap is_name c.in_ok-own.ensures.name ∙ envoy_name tree none

pub make_texts-requires-clause-address : goal.make_texts-requires-clause-address
make_texts-requires-clause-address c =
    let tree = view c.args.value.now in
    let broken = c.or-broken.ensures ∙ (λ i. either_broken
    ((c.in_ok-below.ensures.broken ∙ ap (λ udp. envoy_chains_broken udp tree) c.in_ok-own.ensures.udp) i)
    ((c.or-2.ensures ∙ (λ j. either_broken (c.in_ok-redirection.ensures.broken j)
    ((c.or.ensures ∙ (λ k. either_broken (c.in_ok-extensions.ensures k).broken (c.in_ok-own.ensures.broken k))) j))) i)) in
    let none : least_of (envoy_listener_broken tree) ≡ None = sym (ap least_of broken) ∙ sym c.least.ensures ∙ c.in_default.is in
    ap is_name (c.as_str-address.ensures.value ∙ c.in_ok-own.ensures.address) ∙ envoy_address tree none

pub returns : goal.returns
returns c =
    let tree = view c.args.value.now in
    let own = c.in_ok-own.ensures in
    let below = c.in_ok-below.ensures in
    let broken = c.or-broken.ensures ∙ (λ i. either_broken
    ((c.in_ok-below.ensures.broken ∙ ap (λ udp. envoy_chains_broken udp tree) c.in_ok-own.ensures.udp) i)
    ((c.or-2.ensures ∙ (λ j. either_broken (c.in_ok-redirection.ensures.broken j)
    ((c.or.ensures ∙ (λ k. either_broken (c.in_ok-extensions.ensures k).broken (c.in_ok-own.ensures.broken k))) j))) i)) in
    let none : least_of (envoy_listener_broken tree) ≡ None = sym (ap least_of broken) ∙ sym c.least.ensures ∙ c.in_default.is in
    let texts = c.in_ok-texts.ensures in
    let text = c.as_str-address.ensures.value ∙ own.address in
    let host = texts.host ∙ (λ i. record { address = text i; port = own.port i }) in
    ap (λ rule. judged rule (envoy_listener_of tree)) none
    ∙ ap Ok (sym (λ i. record {
      name = (texts.name ∙ own.name) i;
      address = record { host = host i; udp = own.udp i };
      takes_every_address = (c.is_every_address-takes_every_address.ensures ∙ ap is_every_address text) i;
      restores = c.in_ok-redirection.ensures.restores i;
      hands_over = c.in_ok-redirection.ensures.hands_over i;
      filter_chains = (c.from_vec.ensures.elements ∙ below.chains) i;
      default_filter_chain = below.default i;
      extensions = (c.in_ok-extensions.ensures i).list;
      frame_text = texts.frame i;
      body_text = texts.body i;
    }))

use Rattle.std.proofs.Common.{◌∙◌, ap, [], codes, map, length, nat_eq, unwrap_or, sym}
use Rattle.std.proofs.lemmas.List.{length-map}
use Rattle.serde_json.specs.View.{view}
use Rattle.ev_types.specs.declared.listeners.Serve.TheVariants.{Inline}
use Rattle.ev_tree.specs.declared.broken.BrokenRules.{BrokenRules}
use Rattle.ev_tree.specs.declared.tables.EnumTable.TheVariants.{Protocol}
use Rattle.ev_tree.specs.Forms.{is_wrong, given_or, listed, enumeration_of}
use Rattle.ev_tree.specs.Rules.{is_name}
use Rattle.ev_tree.specs.Broken.{either_broken, any_broken}
use Rattle.ev_tree.proofs.Outcomes.{or_same, and_same, not_same}
use Rattle.ev_listener_json.specs.Parts.{first_of}
use Rattle.ev_listener_json.specs.Filters.{chain_serve, chain_broken}
use Rattle.ev_listener_json.specs.Chains.{chains_of}
use Rattle.ev_listener_json.specs.Listeners.{listener_name, serve_of, is_udp, own_listener_broken}
use Rattle.ev_listener_json.proofs.listeners.inspect_listener.Goals as goal

pub returns-clause-broken : goal.returns-clause-broken
unfolding listener_name chains_of own_listener_broken
returns-clause-broken c =
    let text = c.text_or_empty-text.ensures ∙ ap (given_or []) c.in_ok-name.ensures.value in
    let protocol = c.in_ok-protocol.ensures ∙ ap (enumeration_of (codes "protocol") Protocol) c.in_ok-address.ensures.socket in
    let chains = c.elements-elements.ensures ∙ ap listed c.in_ok-chains.ensures.value in
    let below = c.in_ok-below.ensures.broken ∙ ap (any_broken chain_broken) chains in
    c.or.ensures ∙ (λ i. either_broken (below i) (record (c.none.ensures i) {
      v3 = and_same (not_same (c.is_wrong.ensures ∙ c.in_ok-name.ensures.wrong)) (not_same (c.is_name.ensures ∙ ap is_name text)) i;
      v6 = or_same (or_same (or_same (or_same
          (c.is_wrong-2.ensures ∙ c.in_ok-name.ensures.wrong)
          (ap (λ (b : BrokenRules). b.v6) c.in_ok-address.ensures.broken))
          (c.is_wrong-3.ensures ∙ ap is_wrong protocol))
          (c.is_wrong-4.ensures ∙ c.in_ok-chains.ensures.wrong))
          (c.is_wrong-5.ensures ∙ c.in_ok-default_chain.ensures.wrong) i;
      v14 = or_same (ap (λ (b : BrokenRules). b.v12) c.in_ok-address.ensures.broken) (c.is_udp.ensures ∙ ap is_udp protocol) i;
      v16 = or_same
          (not_same (c.is_one.ensures ∙ ap (λ n. nat_eq n 1) (sym (length-map c.elements-elements.result.now view) ∙ ap length chains)))
          (c.is_given.ensures ∙ c.in_ok-default_chain.ensures.given) i;
    }))

pub returns-clause-serve : goal.returns-clause-serve
unfolding chains_of serve_of
returns-clause-serve c =
    let chains = c.elements-elements.ensures ∙ ap listed c.in_ok-chains.ensures.value in
    c.in_ok-serve_or_none.ensures ∙ ap (λ s. unwrap_or s (Inline (record { hosts = [] }))) (c.in_ok-below.ensures.value ∙ ap (λ ts. first_of (map chain_serve ts)) chains)

pub returns-clause-name : goal.returns-clause-name
unfolding listener_name
returns-clause-name c = c.text_or_empty-text.ensures ∙ ap (given_or []) c.in_ok-name.ensures.value

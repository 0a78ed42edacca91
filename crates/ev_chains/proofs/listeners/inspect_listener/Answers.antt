use Rattle.std.proofs.Common.{◌∙◌, ap, codes, map, length, nat_eq, sym}
use Rattle.std.proofs.lemmas.List.{length-map}
use Rattle.serde_json.specs.View.{view}
use Rattle.ev_tree.specs.declared.broken.BrokenRules.{BrokenRules}
use Rattle.ev_tree.specs.declared.tables.EnumTable.TheVariants.{Protocol}
use Rattle.ev_tree.specs.Forms.{is_wrong, listed, enumeration_of}
use Rattle.ev_tree.specs.Broken.{either_broken, any_broken}
use Rattle.ev_tree.proofs.Outcomes.{or_same}
use Rattle.ev_listener_json.specs.Chains.{chains_of}
use Rattle.ev_listener_json.specs.Listeners.{is_udp}
use Rattle.ev_chains.specs.Listeners.{chain_of, one_broken, listening_of, chains_in, parts_broken}
use Rattle.ev_chains.proofs.listeners.inspect_listener.Goals as goal

pub returns-clause-broken : goal.returns-clause-broken
unfolding chains_of parts_broken
returns-clause-broken c =
    let protocol = c.in_ok-protocol.ensures ∙ ap (enumeration_of (codes "protocol") Protocol) c.in_ok-address.ensures.socket in
    let chains = c.elements-elements.ensures ∙ ap listed c.in_ok-chains.ensures.value in
    let below = c.in_ok-below.ensures.broken ∙ ap (any_broken one_broken) chains in
    c.or.ensures ∙ (λ i. either_broken (below i) (record (c.none.ensures i) {
      v6 = or_same (or_same (or_same (or_same
          (c.is_wrong.ensures ∙ c.in_ok-name.ensures.wrong)
          (ap (λ (b : BrokenRules). b.v6) c.in_ok-address.ensures.broken))
          (c.is_wrong-2.ensures ∙ ap is_wrong protocol))
          (c.is_wrong-3.ensures ∙ c.in_ok-chains.ensures.wrong))
          (c.is_wrong-4.ensures ∙ c.in_ok-default_chain.ensures.wrong) i;
      v14 = or_same (ap (λ (b : BrokenRules). b.v12) c.in_ok-address.ensures.broken) (c.is_udp.ensures ∙ ap is_udp protocol) i;
      v16 = or_same
          (c.is_none.ensures ∙ ap (λ n. nat_eq n 0) (sym (length-map c.elements-elements.result.now view) ∙ ap length chains))
          (c.is_given.ensures ∙ c.in_ok-default_chain.ensures.given) i;
    }))

pub returns-clause-value : goal.returns-clause-value
unfolding chains_of listening_of chains_in
returns-clause-value c =
    let chains = c.elements-elements.ensures ∙ ap listed c.in_ok-chains.ensures.value in
    let listening = c.in_ok-new-2.ensures.value ∙ (λ j. record {
      address = (c.in_ok-new.ensures.bytes ∙ c.in_ok-address.ensures.address) j;
      port = c.in_ok-address.ensures.port j;
    }) in
    c.in_ok-below.ensures.value ∙ (λ i. map (chain_of (listening i)) (chains i))

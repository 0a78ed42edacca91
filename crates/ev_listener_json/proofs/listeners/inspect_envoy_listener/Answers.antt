use Rattle.std.proofs.Common.{◌∙◌, ap, [], codes, cond}
use Rattle.ev_tree.specs.declared.broken.BrokenRules.{BrokenRules}
use Rattle.ev_tree.specs.declared.tables.EnumTable.TheVariants.{Protocol}
use Rattle.ev_tree.specs.Addresses.{port_unless}
use Rattle.ev_tree.specs.Forms.{is_wrong, given_or, enumeration_of}
use Rattle.ev_tree.specs.Rules.{is_name}
use Rattle.ev_tree.proofs.Outcomes.{or_same, and_same, not_same}
use Rattle.ev_listener_json.specs.Listeners.{listener_name, is_udp, named_with, named_address, listening_text, listening_port, is_unusable, listens_by_udp, envoy_self_broken}
use Rattle.ev_listener_json.proofs.listeners.inspect_envoy_listener.Goals as goal

pub returns-clause-name : goal.returns-clause-name
unfolding listener_name
returns-clause-name c = c.text_or_empty-text.ensures ∙ ap (given_or []) c.in_ok-name.ensures.value

pub returns-clause-address : goal.returns-clause-address
unfolding listener_name named_address listening_text
returns-clause-address c =
    let text = c.text_or_empty-text.ensures ∙ ap (given_or []) c.in_ok-name.ensures.value in
    let by_name = c.is_absent-by_name.ensures ∙ c.in_ok-outer.ensures.absent in
    let internal = c.is_given.ensures ∙ c.in_ok-internal.ensures.given in
    c.in_ok-listening.ensures ∙ (λ i. cond (by_name i) (named_with (c.in_ok-has_api.ensures i) (internal i) (text i)) (c.in_ok-address.ensures.text i))

pub returns-clause-port : goal.returns-clause-port
unfolding listening_port
returns-clause-port c =
    let by_name = c.is_absent-by_name.ensures ∙ c.in_ok-outer.ensures.absent in
    c.port_unless.ensures ∙ (λ i. port_unless (by_name i) (c.in_ok-address.ensures.port i))

pub returns-clause-udp : goal.returns-clause-udp
unfolding listens_by_udp
returns-clause-udp c = c.is_udp.ensures ∙ ap is_udp (c.in_ok-protocol.ensures ∙ ap (enumeration_of (codes "protocol") Protocol) c.in_ok-address.ensures.socket)

pub returns-clause-broken : goal.returns-clause-broken
unfolding listener_name named_address listening_text envoy_self_broken
returns-clause-broken c =
    let text = c.text_or_empty-text.ensures ∙ ap (given_or []) c.in_ok-name.ensures.value in
    let by_name = c.is_absent-by_name.ensures ∙ c.in_ok-outer.ensures.absent in
    let internal = c.is_given.ensures ∙ c.in_ok-internal.ensures.given in
    let listening = c.as_str.ensures.value ∙ c.in_ok-listening.ensures
    ∙ (λ i. cond (by_name i) (named_with (c.in_ok-has_api.ensures i) (internal i) (text i)) (c.in_ok-address.ensures.text i)) in
    let protocol = c.in_ok-protocol.ensures ∙ ap (enumeration_of (codes "protocol") Protocol) c.in_ok-address.ensures.socket in
    let unusable = ap (λ (b : BrokenRules). b.v12) c.in_ok-address.ensures.broken in
    λ i. record (c.none.ensures i) {
      v3 = and_same (not_same (c.is_wrong.ensures ∙ c.in_ok-name.ensures.wrong)) (not_same (c.is_name.ensures ∙ ap is_name text)) i;
      v6 = or_same (or_same (or_same
          (c.is_wrong-2.ensures ∙ c.in_ok-name.ensures.wrong)
          (ap (λ (b : BrokenRules). b.v6) c.in_ok-address.ensures.broken))
          (c.is_wrong-3.ensures ∙ ap is_wrong protocol))
          (c.is_wrong-4.ensures ∙ c.in_ok-internal.ensures.wrong) i;
      v14 = (c.is_unusable-bad.ensures ∙ (λ j. is_unusable (by_name j) (listening j) (unusable j))) i;
    }

use Rattle.std.proofs.Common.{◌∙◌, ◌∷◌, [], codes, ap}
use Rattle.ev_tree.specs.declared.broken.BrokenRules.{BrokenRules}
use Rattle.ev_tree.specs.Forms.{inside, is_given, object_of, number_of}
use Rattle.ev_tree.specs.Counts.{exactly_one}
use Rattle.ev_tree.specs.Addresses.{outer_of, any_text_of, any_port_of, any_address_broken, is_port, has_pipe, path_in, is_wrong_pipe, has_internal, internal_name_in, internal_id_in, is_wrong_internal, text_among, port_unless}
use Rattle.ev_tree.specs.Rules.{is_name}
use Rattle.ev_tree.proofs.Outcomes.{or_same, and_same, not_same}
use Rattle.ev_tree.proofs.addresses.envoy_address.Goals as goal

pub returns-clause-text : goal.returns-clause-text
unfolding outer_of any_text_of
returns-clause-text c =
    let outer = c.inner-inner.ensures ∙ ap inside c.in_ok-outer.ensures.value in
    let pipe = c.in_ok-pipe.ensures in
    let internal = c.in_ok-internal.ensures in
    c.choose_text-text.ensures ∙ (λ i. text_among
    ((pipe.given ∙ ap has_pipe outer) i) ((internal.given ∙ ap has_internal outer) i) ((pipe.path ∙ ap path_in outer) i)
    ((internal.name ∙ ap internal_name_in outer) i) ((internal.id ∙ ap internal_id_in outer) i) (c.in_ok-found.ensures.address i))

pub returns-clause-port : goal.returns-clause-port
unfolding outer_of any_port_of
returns-clause-port c =
    let outer = c.inner-inner.ensures ∙ ap inside c.in_ok-outer.ensures.value in
    let none = or_same (c.in_ok-pipe.ensures.given ∙ ap has_pipe outer) (c.in_ok-internal.ensures.given ∙ ap has_internal outer) in
    c.port_unless.ensures ∙ (λ i. port_unless (none i) (c.in_ok-found.ensures.port i))

pub returns-clause-broken : goal.returns-clause-broken
unfolding outer_of any_text_of any_address_broken
returns-clause-broken c =
    let outer = c.inner-inner.ensures ∙ ap inside c.in_ok-outer.ensures.value in
    let pipe = c.in_ok-pipe.ensures in
    let internal = c.in_ok-internal.ensures in
    let text = c.choose_text-text.ensures ∙ (λ i. text_among
    ((pipe.given ∙ ap has_pipe outer) i) ((internal.given ∙ ap has_internal outer) i) ((pipe.path ∙ ap path_in outer) i)
    ((internal.name ∙ ap internal_name_in outer) i) ((internal.id ∙ ap internal_id_in outer) i) (c.in_ok-found.ensures.address i)) in
    let socket = c.in_ok-socket.ensures.given ∙ ap (λ t. is_given (object_of (codes "socket_address") t)) outer in
    λ i. record (c.none.ensures i) {
      v6 = or_same (or_same
          (ap (λ (b : BrokenRules). b.v6) c.in_ok-found.ensures.broken)
          (pipe.wrong ∙ ap is_wrong_pipe outer))
          (internal.wrong ∙ ap is_wrong_internal outer) i;
      v12 = or_same (or_same
          (not_same (c.exactly_one.ensures ∙ (λ j. exactly_one ((c.is_given.ensures ∙ socket) j ∷ (pipe.given ∙ ap has_pipe outer) j ∷ (internal.given ∙ ap has_internal outer) j ∷ []))))
          (not_same (c.is_name.ensures ∙ ap is_name (c.as_str.ensures.value ∙ c.in_ok-named.ensures ∙ text))))
          (and_same (c.is_given-2.ensures ∙ socket) (not_same (c.is_port.ensures ∙ ap is_port (c.in_ok-port.ensures ∙ ap (number_of (codes "port_value")) c.in_ok-found.ensures.socket)))) i;
    }

use Rattle.std.proofs.Common.{◌∙◌, [], codes, ap}
use Rattle.ev_tree.specs.Forms.{inside, is_wrong, given_or, object_of, text_of, number_of}
use Rattle.ev_tree.specs.Addresses.{socket_of, address_text_of, port_of, address_broken, is_port, port_or_none}
use Rattle.ev_tree.specs.Rules.{is_name}
use Rattle.ev_tree.proofs.Outcomes.{or_same, not_same}
use Rattle.ev_tree.proofs.addresses.socket_address.Goals as goal

pub returns-clause-socket : goal.returns-clause-socket
unfolding socket_of
returns-clause-socket c =
    let outer = c.inner.ensures ∙ ap inside c.in_ok-outer.ensures.value in
    c.inner-inner.ensures ∙ ap inside (c.in_ok-socket.ensures.value ∙ ap (object_of (codes "socket_address")) outer)

pub returns-clause-address : goal.returns-clause-address
unfolding socket_of address_text_of
returns-clause-address c =
    let outer = c.inner.ensures ∙ ap inside c.in_ok-outer.ensures.value in
    let socket = c.inner-inner.ensures ∙ ap inside (c.in_ok-socket.ensures.value ∙ ap (object_of (codes "socket_address")) outer) in
    c.text_or_empty-text.ensures ∙ ap (given_or []) (c.in_ok-address.ensures.value ∙ ap (text_of (codes "address")) socket)

pub returns-clause-port : goal.returns-clause-port
unfolding socket_of port_of
returns-clause-port c =
    let outer = c.inner.ensures ∙ ap inside c.in_ok-outer.ensures.value in
    let socket = c.inner-inner.ensures ∙ ap inside (c.in_ok-socket.ensures.value ∙ ap (object_of (codes "socket_address")) outer) in
    c.port_or_none.ensures ∙ ap port_or_none (c.in_ok-port.ensures ∙ ap (number_of (codes "port_value")) socket)

pub returns-clause-broken : goal.returns-clause-broken
unfolding socket_of address_text_of address_broken
returns-clause-broken c =
    let outer = c.inner.ensures ∙ ap inside c.in_ok-outer.ensures.value in
    let socket = c.inner-inner.ensures ∙ ap inside (c.in_ok-socket.ensures.value ∙ ap (object_of (codes "socket_address")) outer) in
    let address = c.text_or_empty-text.ensures ∙ ap (given_or []) (c.in_ok-address.ensures.value ∙ ap (text_of (codes "address")) socket) in
    λ i. record (c.none.ensures i) {
      v6 = or_same (or_same (or_same
          (c.is_wrong.ensures ∙ c.in_ok-outer.ensures.wrong)
          (c.is_wrong-2.ensures ∙ c.in_ok-socket.ensures.wrong ∙ ap (λ t. is_wrong (object_of (codes "socket_address") t)) outer))
          (c.is_wrong-3.ensures ∙ c.in_ok-address.ensures.wrong ∙ ap (λ t. is_wrong (text_of (codes "address") t)) socket))
          (c.is_wrong-4.ensures ∙ ap is_wrong (c.in_ok-port.ensures ∙ ap (number_of (codes "port_value")) socket)) i;
      v12 = or_same
          (not_same (c.is_name.ensures ∙ ap is_name address))
          (not_same (c.is_port.ensures ∙ ap is_port (c.in_ok-port.ensures ∙ ap (number_of (codes "port_value")) socket))) i;
    }

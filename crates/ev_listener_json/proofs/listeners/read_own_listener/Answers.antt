use Rattle.std.proofs.Common.{◌≡◌, ◌∙◌, ◌++◌, ◌∷◌, [], None, Ok, false, ap, sym}
use Rattle.serde_json.specs.View.{view}
use Rattle.ev_tree.specs.Rules.{judged, is_name}
use Rattle.ev_tree.specs.Broken.{least_of}
use Rattle.ev_listener_json.specs.Chains.{plain_chain}
use Rattle.ev_listener_json.specs.Listeners.{own_listener_broken, own_listener_of}
use Rattle.ev_listener_json.proofs.Leasts.{own_name, own_address}
use Rattle.ev_listener_json.proofs.listeners.read_own_listener.Goals as goal

pub make_name-requires : goal.make_name-requires
make_name-requires c =
    ap is_name c.in_ok-found.ensures.name ∙ own_name (view c.args.value.now) (sym (ap least_of c.in_ok-found.ensures.broken) ∙ sym c.least.ensures ∙ c.in_default.is)

pub make_host-requires : goal.make_host-requires
make_host-requires c =
    ap is_name c.in_ok-found.ensures.address ∙ own_address (view c.args.value.now) (sym (ap least_of c.in_ok-found.ensures.broken) ∙ sym c.least.ensures ∙ c.in_default.is)

pub returns : goal.returns
returns c =
    let tree = view c.args.value.now in
    let found = c.in_ok-found.ensures in
    let none : least_of (own_listener_broken tree) ≡ None = sym (ap least_of found.broken) ∙ sym c.least.ensures ∙ c.in_default.is in
    let host = c.in_ok-make_host.ensures ∙ (λ i. record { address = found.address i; port = found.port i }) in
    let chains = c.from_vec.ensures.elements ∙ c.in_ok-push.ensures.items
    ∙ (λ i. c.new-chains.ensures.items i ++ ((c.in_ok-plain_chain.ensures ∙ ap plain_chain found.serve) i) ∷ []) in
    ap (λ rule. judged rule (own_listener_of tree)) none
    ∙ ap Ok (sym (λ i. record (own_listener_of tree) {
      name = (c.in_ok-make_name.ensures ∙ found.name) i;
      address = record { host = host i; udp = false };
      filter_chains = chains i;
      extensions = c.new.ensures.empty i;
      frame_text = c.empty_text.ensures i;
      body_text = c.in_ok-body_text.ensures i;
    }))

-- Listeners.
use Rattle.std.proofs.Common.{◌≡◌, ◌∙◌, ap}
use Rattle.std.specs.Prelude.{◌||◌, ◌&&◌, ◌==◌, [], ◌∷◌, length, map, false, not, if◌then◌else◌, None, unwrap_or, codes}
use Rattle.serde_json.specs.Data.{Data}
use Rattle.ev_types.specs.declared.events.Profile.{Profile}
use Rattle.ev_types.specs.declared.events.Profile.TheVariants.{Own, Envoy}
use Rattle.ev_types.specs.declared.listeners.Serve.TheVariants.{Inline}
use Rattle.ev_tree.specs.declared.tables.EnumTable.TheVariants.{Protocol}
use Rattle.ev_tree.specs.Forms.{is_wrong, given_or, enumeration_of}
use Rattle.ev_tree.specs.Addresses.{socket_of, port_unless}
use Rattle.ev_tree.specs.Rules.{judged, is_name}
use Rattle.ev_tree.specs.Broken.{none_broken, either_broken, any_broken, least_of}
use Rattle.ev_listener_json.specs.Parts.{first_of}
use Rattle.ev_listener_json.specs.Filters.{chain_serve, chain_broken}
use Rattle.ev_listener_json.specs.Chains.{chains_of, plain_chain, envoy_chains_broken}
use Rattle.ev_listener_json.specs.Listeners.{listener_name, is_udp, serve_of, own_listener_broken, own_listener_of, lacks_address, named_with, named_address, listening_text, listening_port, is_unusable, listens_by_udp, has_bad_address, is_every_address, envoy_self_broken, envoy_listener_of, listener_broken, listener_of, listener_reading}
use Rattle.ev_tree.specs.Floats.{whole}
use Rattle.ev_whole_laws.proofs.Addresses.{address_broken-whole, address_text_of-whole, any_address_broken-whole, any_port_of-whole, any_text_of-whole, port_of-whole, socket_of-whole}
use Rattle.ev_whole_laws.proofs.Texts.{body_text_of-whole}
use Rattle.ev_whole_laws.proofs.Chains.{chains_of-whole, envoy_chains_broken-whole, envoy_chains_of-whole, envoy_default_of-whole, has_api-whole}
use Rattle.ev_whole_laws.proofs.Filters.{chain_broken-whole, chain_serve-whole}
use Rattle.ev_whole_laws.proofs.ListenerFilters.{hands_over-whole, redirection_broken-whole, restores-whole, listener_extensions-whole}
use Rattle.ev_whole_laws.proofs.Frames.{frame_text_of-whole}
use Rattle.ev_whole_laws.proofs.Forms.{enumeration_of-whole, object-is_absent, object-is_given, object-is_wrong, objects-is_wrong, text_of-whole}
use Rattle.ev_whole_laws.proofs.Parts.{any_broken-whole, length-whole, map-whole}

pub name_of-whole : (tree : Data) → listener_name (whole tree) ≡ listener_name tree
unfolding listener_name
name_of-whole tree = λ i. given_or [] (text_of-whole (codes "name") tree i)

-- the protocol of the address
protocol_found : (tree : Data) → enumeration_of (codes "protocol") Protocol (socket_of (whole tree)) ≡ enumeration_of (codes "protocol") Protocol (socket_of tree)
protocol_found tree = ap (enumeration_of (codes "protocol") Protocol) (socket_of-whole tree) ∙ enumeration_of-whole (codes "protocol") Protocol (socket_of tree)

protocol_wrong : (tree : Data) → is_wrong (enumeration_of (codes "protocol") Protocol (socket_of (whole tree))) ≡ is_wrong (enumeration_of (codes "protocol") Protocol (socket_of tree))
protocol_wrong tree = ap is_wrong (protocol_found tree)

serve_of-whole : (tree : Data) → serve_of (whole tree) ≡ serve_of tree
unfolding serve_of
serve_of-whole tree = λ i. unwrap_or (first_of ((ap (map chain_serve) (chains_of-whole tree) ∙ map-whole chain_serve chain_serve-whole (chains_of tree)) i)) (Inline (record {
  hosts = [];
}))

-- ---- by this project's own rules

own_listener_broken-whole : (tree : Data) → own_listener_broken (whole tree) ≡ own_listener_broken tree
unfolding own_listener_broken
own_listener_broken-whole tree = λ i. either_broken ((ap (any_broken chain_broken) (chains_of-whole tree) ∙ any_broken-whole chain_broken chain_broken-whole (chains_of tree)) i) (record none_broken {
  v3 = not (is_wrong (text_of-whole (codes "name") tree i)) && not (is_name (name_of-whole tree i));
  v6 =
      is_wrong (text_of-whole (codes "name") tree i)
      || (address_broken-whole tree i).v6
      || protocol_wrong tree i
      || objects-is_wrong (codes "filter_chains") tree i
      || object-is_wrong (codes "default_filter_chain") tree i;
  v14 = (address_broken-whole tree i).v12 || is_udp (protocol_found tree i);
  v16 =
      not ((ap length (chains_of-whole tree) ∙ length-whole (chains_of tree)) i == 1)
      || object-is_given (codes "default_filter_chain") tree i;
})

own_listener_of-whole : (tree : Data) → own_listener_of (whole tree) ≡ own_listener_of tree
own_listener_of-whole tree = λ i. record {
  name = name_of-whole tree i;
  address = record { host = record { address = address_text_of-whole tree i; port = port_of-whole tree i }; udp = false };
  takes_every_address = false;
  restores = false;
  hands_over = false;
  filter_chains = plain_chain (serve_of-whole tree i) ∷ [];
  default_filter_chain = None;
  extensions = [];
  frame_text = [];
  body_text = body_text_of-whole Own tree i;
}

-- ---- as Envoy reads it

lacks_address-whole : (tree : Data) → lacks_address (whole tree) ≡ lacks_address tree
lacks_address-whole tree = object-is_absent (codes "address") tree

named_address-whole : (tree : Data) → named_address (whole tree) ≡ named_address tree
unfolding named_address
named_address-whole tree = λ i. named_with (has_api-whole tree i) (object-is_given (codes "internal_listener") tree i) (name_of-whole tree i)

listening_text-whole : (tree : Data) → listening_text (whole tree) ≡ listening_text tree
unfolding listening_text
listening_text-whole tree = λ i. if lacks_address-whole tree i then named_address-whole tree i else any_text_of-whole tree i

listening_port-whole : (tree : Data) → listening_port (whole tree) ≡ listening_port tree
unfolding listening_port
listening_port-whole tree = λ i. port_unless (lacks_address-whole tree i) (any_port_of-whole tree i)

has_bad_address-whole : (tree : Data) → has_bad_address (whole tree) ≡ has_bad_address tree
has_bad_address-whole tree = λ i. is_unusable (lacks_address-whole tree i) (listening_text-whole tree i) (any_address_broken-whole tree i).v12

envoy_self_broken-whole : (tree : Data) → envoy_self_broken (whole tree) ≡ envoy_self_broken tree
unfolding envoy_self_broken
envoy_self_broken-whole tree = λ i. record none_broken {
  v3 = not (is_wrong (text_of-whole (codes "name") tree i)) && not (is_name (name_of-whole tree i));
  v6 =
      is_wrong (text_of-whole (codes "name") tree i)
      || (any_address_broken-whole tree i).v6
      || protocol_wrong tree i
      || object-is_wrong (codes "internal_listener") tree i;
  v14 = has_bad_address-whole tree i;
}

listens_by_udp-whole : (tree : Data) → listens_by_udp (whole tree) ≡ listens_by_udp tree
unfolding listens_by_udp
listens_by_udp-whole tree = ap is_udp (protocol_found tree)

-- what its chains break
chains_broken-whole : (tree : Data) → envoy_chains_broken (listens_by_udp (whole tree)) (whole tree) ≡ envoy_chains_broken (listens_by_udp tree) tree
chains_broken-whole tree =
    ap (λ udp. envoy_chains_broken udp (whole tree)) (listens_by_udp-whole tree) ∙ envoy_chains_broken-whole (listens_by_udp tree) tree

envoy_listener_of-whole : (tree : Data) → envoy_listener_of (whole tree) ≡ envoy_listener_of tree
envoy_listener_of-whole tree = λ i. record {
  name = name_of-whole tree i;
  address = record { host = record { address = listening_text-whole tree i; port = listening_port-whole tree i }; udp = listens_by_udp-whole tree i };
  takes_every_address = is_every_address (listening_text-whole tree i);
  restores = restores-whole tree i;
  hands_over = hands_over-whole tree i;
  filter_chains = envoy_chains_of-whole tree i;
  default_filter_chain = envoy_default_of-whole tree i;
  extensions = (listener_extensions-whole tree i).list;
  frame_text = if has_api-whole tree i then [] else frame_text_of-whole tree i;
  body_text = body_text_of-whole Envoy tree i;
}

-- ---- in a profile

pub listener_broken-whole : (profile : Profile) (tree : Data) → listener_broken profile (whole tree) ≡ listener_broken profile tree
listener_broken-whole Own tree = own_listener_broken-whole tree
listener_broken-whole Envoy tree = λ i. either_broken (chains_broken-whole tree i) (either_broken (redirection_broken-whole tree i) (either_broken (listener_extensions-whole tree i).broken (envoy_self_broken-whole tree i)))

pub listener_of-whole : (profile : Profile) (tree : Data) → listener_of profile (whole tree) ≡ listener_of profile tree
listener_of-whole Own tree = own_listener_of-whole tree
listener_of-whole Envoy tree = envoy_listener_of-whole tree

pub listener_reading-whole : (profile : Profile) (tree : Data) → listener_reading profile (whole tree) ≡ listener_reading profile tree
listener_reading-whole profile tree = λ i. judged (least_of (listener_broken-whole profile tree i)) (listener_of-whole profile tree i)

-- Addresses of hosts and listeners.
use Rattle.std.proofs.Common.{◌≡◌, ◌∙◌, ap}
use Rattle.std.specs.Prelude.{ℕ, ◌||◌, ◌&&◌, List, [], ◌∷◌, not, codes}
use Rattle.serde_json.specs.Data.{Data}
use Rattle.ev_types.specs.declared.events.Profile.{Profile}
use Rattle.ev_types.specs.declared.events.Profile.TheVariants.{Own, Envoy}
use Rattle.ev_tree.specs.Forms.{is_wrong, is_given, given_or, inside, text_of, number_of, object_of}
use Rattle.ev_tree.specs.Rules.{is_name}
use Rattle.ev_tree.specs.declared.broken.BrokenRules.{BrokenRules}
use Rattle.ev_tree.specs.Broken.{none_broken}
use Rattle.ev_tree.specs.Counts.{exactly_one}
use Rattle.ev_tree.specs.Addresses.{socket_of, address_text_of, is_port, port_or_none, port_of, address_broken, outer_of, pipe_in, internal_in, has_pipe, path_in, is_wrong_pipe, has_internal, internal_name_in, internal_id_in, is_wrong_internal, addresses_given, text_among, any_text_of, port_unless, any_port_of, any_address_broken, text_in_profile, port_in_profile, address_broken_in}
use Rattle.ev_tree.specs.Floats.{whole}
use Rattle.ev_whole_laws.proofs.Forms.{inside-object, number_of-whole, object-is_given, object-is_wrong, text_of-whole}

pub socket_of-whole : (tree : Data) → socket_of (whole tree) ≡ whole (socket_of tree)
unfolding socket_of
socket_of-whole tree = ap (λ (t : Data). inside (object_of (codes "socket_address") t)) (inside-object (codes "address") tree) ∙ inside-object (codes "socket_address") (inside (object_of (codes "address") tree))

pub address_text_of-whole : (tree : Data) → address_text_of (whole tree) ≡ address_text_of tree
unfolding address_text_of
address_text_of-whole tree = λ i. given_or [] ((ap (text_of (codes "address")) (socket_of-whole tree) ∙ text_of-whole (codes "address") (socket_of tree)) i)

pub port_of-whole : (tree : Data) → port_of (whole tree) ≡ port_of tree
unfolding port_of
port_of-whole tree = λ i. port_or_none ((ap (number_of (codes "port_value")) (socket_of-whole tree) ∙ number_of-whole (codes "port_value") (socket_of tree)) i)

pub address_broken-whole : (tree : Data) → address_broken (whole tree) ≡ address_broken tree
unfolding address_broken
address_broken-whole tree = λ i. record none_broken {
  v6 =
      object-is_wrong (codes "address") tree i
      || (ap (λ (t : Data). is_wrong (object_of (codes "socket_address") t)) (inside-object (codes "address") tree) ∙ object-is_wrong (codes "socket_address") (inside (object_of (codes "address") tree))) i
      || is_wrong ((ap (text_of (codes "address")) (socket_of-whole tree) ∙ text_of-whole (codes "address") (socket_of tree)) i)
      || is_wrong ((ap (number_of (codes "port_value")) (socket_of-whole tree) ∙ number_of-whole (codes "port_value") (socket_of tree)) i);
  v12 =
      not (is_name (address_text_of-whole tree i))
      || not (is_port ((ap (number_of (codes "port_value")) (socket_of-whole tree) ∙ number_of-whole (codes "port_value") (socket_of tree)) i));
}

-- ---- pipes and addresses inside Envoy

outer_of-whole : (tree : Data) → outer_of (whole tree) ≡ whole (outer_of tree)
unfolding outer_of
outer_of-whole tree = inside-object (codes "address") tree

-- what is found in the object with the address
at_outer : {A : Type 0} (form : Data → A) → ((tree : Data) → form (whole tree) ≡ form tree) → (tree : Data) → form (outer_of (whole tree)) ≡ form (outer_of tree)
at_outer form same tree = ap form (outer_of-whole tree) ∙ same (outer_of tree)

pipe_in-whole : (outer : Data) → pipe_in (whole outer) ≡ whole (pipe_in outer)
unfolding pipe_in
pipe_in-whole outer = inside-object (codes "pipe") outer

internal_in-whole : (outer : Data) → internal_in (whole outer) ≡ whole (internal_in outer)
unfolding internal_in
internal_in-whole outer = inside-object (codes "envoy_internal_address") outer

path_found : (outer : Data) → text_of (codes "path") (pipe_in (whole outer)) ≡ text_of (codes "path") (pipe_in outer)
path_found outer = ap (text_of (codes "path")) (pipe_in-whole outer) ∙ text_of-whole (codes "path") (pipe_in outer)

internal_found : (name : List ℕ) (outer : Data) → text_of name (internal_in (whole outer)) ≡ text_of name (internal_in outer)
internal_found name outer = ap (text_of name) (internal_in-whole outer) ∙ text_of-whole name (internal_in outer)

has_pipe-whole : (outer : Data) → has_pipe (whole outer) ≡ has_pipe outer
has_pipe-whole outer = object-is_given (codes "pipe") outer

path_in-whole : (outer : Data) → path_in (whole outer) ≡ path_in outer
unfolding path_in
path_in-whole outer = λ i. given_or [] (path_found outer i)

is_wrong_pipe-whole : (outer : Data) → is_wrong_pipe (whole outer) ≡ is_wrong_pipe outer
unfolding is_wrong_pipe
is_wrong_pipe-whole outer = λ i. object-is_wrong (codes "pipe") outer i || is_wrong (path_found outer i)

has_internal-whole : (outer : Data) → has_internal (whole outer) ≡ has_internal outer
has_internal-whole outer = object-is_given (codes "envoy_internal_address") outer

internal_name_in-whole : (outer : Data) → internal_name_in (whole outer) ≡ internal_name_in outer
unfolding internal_name_in
internal_name_in-whole outer = λ i. given_or [] (internal_found (codes "server_listener_name") outer i)

internal_id_in-whole : (outer : Data) → internal_id_in (whole outer) ≡ internal_id_in outer
unfolding internal_id_in
internal_id_in-whole outer = λ i. given_or [] (internal_found (codes "endpoint_id") outer i)

is_wrong_internal-whole : (outer : Data) → is_wrong_internal (whole outer) ≡ is_wrong_internal outer
unfolding is_wrong_internal
is_wrong_internal-whole outer = λ i.
    object-is_wrong (codes "envoy_internal_address") outer i
    || is_wrong (internal_found (codes "server_listener_name") outer i)
    || is_wrong (internal_found (codes "endpoint_id") outer i)

addresses_given-whole : (outer : Data) → addresses_given (whole outer) ≡ addresses_given outer
addresses_given-whole outer = λ i. object-is_given (codes "socket_address") outer i ∷ has_pipe-whole outer i ∷ has_internal-whole outer i ∷ []

pub any_text_of-whole : (tree : Data) → any_text_of (whole tree) ≡ any_text_of tree
unfolding any_text_of
any_text_of-whole tree = λ i.
    text_among (at_outer has_pipe has_pipe-whole tree i) (at_outer has_internal has_internal-whole tree i) (at_outer path_in path_in-whole tree i)
    (at_outer internal_name_in internal_name_in-whole tree i) (at_outer internal_id_in internal_id_in-whole tree i) (address_text_of-whole tree i)

pub any_port_of-whole : (tree : Data) → any_port_of (whole tree) ≡ any_port_of tree
unfolding any_port_of
any_port_of-whole tree = λ i.
    port_unless (at_outer has_pipe has_pipe-whole tree i || at_outer has_internal has_internal-whole tree i) (port_of-whole tree i)

pub any_address_broken-whole : (tree : Data) → any_address_broken (whole tree) ≡ any_address_broken tree
unfolding any_address_broken
any_address_broken-whole tree = λ i. record none_broken {
  v6 =
      ap (λ (b : BrokenRules). b.v6) (address_broken-whole tree) i
      || at_outer is_wrong_pipe is_wrong_pipe-whole tree i
      || at_outer is_wrong_internal is_wrong_internal-whole tree i;
  v12 =
      not (exactly_one (at_outer addresses_given addresses_given-whole tree i))
      || not (is_name (any_text_of-whole tree i))
      || (at_outer (λ (t : Data). is_given (object_of (codes "socket_address") t)) (object-is_given (codes "socket_address")) tree i
      && not (is_port ((ap (number_of (codes "port_value")) (socket_of-whole tree) ∙ number_of-whole (codes "port_value") (socket_of tree)) i)));
}

-- ---- in a profile

pub text_in_profile-whole : (profile : Profile) (tree : Data) → text_in_profile profile (whole tree) ≡ text_in_profile profile tree
text_in_profile-whole Own tree = address_text_of-whole tree
text_in_profile-whole Envoy tree = any_text_of-whole tree

pub port_in_profile-whole : (profile : Profile) (tree : Data) → port_in_profile profile (whole tree) ≡ port_in_profile profile tree
port_in_profile-whole Own tree = port_of-whole tree
port_in_profile-whole Envoy tree = any_port_of-whole tree

pub address_broken_in-whole : (profile : Profile) (tree : Data) → address_broken_in profile (whole tree) ≡ address_broken_in profile tree
address_broken_in-whole Own tree = address_broken-whole tree
address_broken_in-whole Envoy tree = any_address_broken-whole tree

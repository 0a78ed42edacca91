-- The address of a host or a listener. By this project's own rules that is a socket address,
-- `{"address":{"socket_address":{"address":..,"port_value":..}}}`;
-- as Envoy reads it, it may be a pipe or an address inside Envoy.
use Rattle.std.specs.Prelude.{ℕ, ◌||◌, ◌&&◌, ◌==◌, List, [], ◌∷◌, ◌++◌, length, Bool, false, not, nat_le, if◌then◌else◌, codes}
use Rattle.serde_json.specs.Data.{Data}
use Rattle.ev_types.specs.declared.events.Profile.{Profile}
use Rattle.ev_types.specs.declared.events.Profile.TheVariants.{Own, Envoy}
use Rattle.ev_tree.specs.declared.limits.TheConstants.{MAX_PORT}
use Rattle.ev_tree.specs.declared.broken.BrokenRules.{BrokenRules}
use Rattle.ev_tree.specs.declared.outcome.Found.{Found}
use Rattle.ev_tree.specs.declared.outcome.Found.TheVariants.{Absent, Wrong, Given}
use Rattle.ev_tree.specs.Forms.{is_wrong, is_given, given_or, inside, text_of, number_of, object_of}
use Rattle.ev_tree.specs.Rules.{is_name}
use Rattle.ev_tree.specs.Broken.{none_broken}
use Rattle.ev_tree.specs.Counts.{exactly_one}
use Rattle.ev_tree.specs.declared.addresses.AddressText.{AddressText}
use Rattle.ev_tree.specs.declared.addresses.AddressText.TheVariants.{Socket, Pipe, Internal}

-- the object of the socket address
unfoldable pub socket_of : Data → Data
socket_of tree = inside (object_of (codes "socket_address") (inside (object_of (codes "address") tree)))

-- the address itself: the empty text where none is given
unfoldable pub address_text_of : Data → List ℕ
address_text_of tree = given_or [] (text_of (codes "address") (socket_of tree))

abbrev pub is_port : Found ℕ → Bool
is_port Absent = false
is_port Wrong = false
is_port (Given n) = nat_le n MAX_PORT

abbrev pub port_or_none : Found ℕ → ℕ
port_or_none Absent = 0
port_or_none Wrong = 0
port_or_none (Given n) = if nat_le n MAX_PORT then n else 0

-- the port: 0 where none is given, or a greater number than a port can be
unfoldable pub port_of : Data → ℕ
port_of tree = port_or_none (number_of (codes "port_value") (socket_of tree))

-- What an address breaks. V6: a field on the way to it, or of it, has the wrong form. V12: none is given, or it is
-- empty, over 512 bytes or without a port of at most 65535.
unfoldable pub address_broken : Data → BrokenRules
address_broken tree = record none_broken {
  v6 =
      is_wrong (object_of (codes "address") tree)
      || is_wrong (object_of (codes "socket_address") (inside (object_of (codes "address") tree)))
      || is_wrong (text_of (codes "address") (socket_of tree))
      || is_wrong (number_of (codes "port_value") (socket_of tree));
  v12 = not (is_name (address_text_of tree)) || not (is_port (number_of (codes "port_value") (socket_of tree)));
}

-- ---- pipes and addresses inside Envoy

-- the object with the address
unfoldable pub outer_of : Data → Data
outer_of tree = inside (object_of (codes "address") tree)

unfoldable pub pipe_in : Data → Data
pipe_in outer = inside (object_of (codes "pipe") outer)

unfoldable pub internal_in : Data → Data
internal_in outer = inside (object_of (codes "envoy_internal_address") outer)

-- the text of a pipe: none where its path is empty
abbrev pub pipe_text : List ℕ → List ℕ
pipe_text path = if length path == 0 then [] else codes "pipe:" ++ path

-- an id after a slash, or nothing
abbrev pub after_slash : List ℕ → List ℕ
after_slash id = if length id == 0 then [] else codes "/" ++ id

-- the text of an address inside Envoy, by the name of a listener and an id: none where the name is empty
abbrev pub internal_text : List ℕ → List ℕ → List ℕ
internal_text name id = if length name == 0 then [] else codes "internal:" ++ (name ++ after_slash id)

-- the text that is found
abbrev pub text_found : AddressText → List ℕ
text_found (Socket text) = text.now
text_found (Pipe path) = pipe_text path.now
text_found (Internal name id) = internal_text name.now id.now

-- What is found of a pipe in the object with the address:
-- whether it is given, its path or the empty text, and whether a form of it is wrong.
abbrev pub has_pipe : Data → Bool
has_pipe outer = is_given (object_of (codes "pipe") outer)

unfoldable pub path_in : Data → List ℕ
path_in outer = given_or [] (text_of (codes "path") (pipe_in outer))

unfoldable pub is_wrong_pipe : Data → Bool
is_wrong_pipe outer = is_wrong (object_of (codes "pipe") outer) || is_wrong (text_of (codes "path") (pipe_in outer))

-- The same of an address inside Envoy, with the name of its listener and its id.
abbrev pub has_internal : Data → Bool
has_internal outer = is_given (object_of (codes "envoy_internal_address") outer)

unfoldable pub internal_name_in : Data → List ℕ
internal_name_in outer = given_or [] (text_of (codes "server_listener_name") (internal_in outer))

unfoldable pub internal_id_in : Data → List ℕ
internal_id_in outer = given_or [] (text_of (codes "endpoint_id") (internal_in outer))

unfoldable pub is_wrong_internal : Data → Bool
is_wrong_internal outer =
    is_wrong (object_of (codes "envoy_internal_address") outer)
    || is_wrong (text_of (codes "server_listener_name") (internal_in outer))
    || is_wrong (text_of (codes "endpoint_id") (internal_in outer))

-- of each kind of address whether it is given
abbrev pub addresses_given : Data → List Bool
addresses_given outer = is_given (object_of (codes "socket_address") outer) ∷ has_pipe outer ∷ has_internal outer ∷ []

-- the text that counts: of a pipe where one is given, else of an address inside Envoy, else of a socket
abbrev pub text_among : Bool → Bool → List ℕ → List ℕ → List ℕ → List ℕ → List ℕ
text_among pipe internal path name id socket = if pipe then pipe_text path else if internal then internal_text name id else socket

-- the text of the address
unfoldable pub any_text_of : Data → List ℕ
any_text_of tree =
    text_among (has_pipe (outer_of tree)) (has_internal (outer_of tree)) (path_in (outer_of tree)) (internal_name_in (outer_of tree))
    (internal_id_in (outer_of tree)) (address_text_of tree)

-- a port that counts where the address has one
abbrev pub port_unless : Bool → ℕ → ℕ
port_unless no_port port = if no_port then 0 else port

-- a pipe and an address inside Envoy have port 0
unfoldable pub any_port_of : Data → ℕ
any_port_of tree = port_unless (has_pipe (outer_of tree) || has_internal (outer_of tree)) (port_of tree)

-- What an address breaks as Envoy reads it. V12: not exactly one kind,
-- a text that is empty or over 512 bytes, or a socket without a port of at most 65535.
unfoldable pub any_address_broken : Data → BrokenRules
any_address_broken tree = record none_broken {
  v6 = (address_broken tree).v6 || is_wrong_pipe (outer_of tree) || is_wrong_internal (outer_of tree);
  v12 =
      not (exactly_one (addresses_given (outer_of tree)))
      || not (is_name (any_text_of tree))
      || (is_given (object_of (codes "socket_address") (outer_of tree)) && not (is_port (number_of (codes "port_value") (socket_of tree))));
}

-- ---- in a profile

abbrev pub text_in_profile : Profile → Data → List ℕ
text_in_profile Own tree = address_text_of tree
text_in_profile Envoy tree = any_text_of tree

abbrev pub port_in_profile : Profile → Data → ℕ
port_in_profile Own tree = port_of tree
port_in_profile Envoy tree = any_port_of tree

abbrev pub address_broken_in : Profile → Data → BrokenRules
address_broken_in Own tree = address_broken tree
address_broken_in Envoy tree = any_address_broken tree

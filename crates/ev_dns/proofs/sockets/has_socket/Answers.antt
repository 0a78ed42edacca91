use Rattle.std.proofs.Common.{◌∙◌, ap, codes}
use Rattle.serde_json.specs.Data.{Data}
use Rattle.ev_tree.specs.Addresses.{outer_of}
use Rattle.ev_tree.specs.Forms.{is_given, object_of}
use Rattle.ev_dns.proofs.sockets.has_socket.Goals as goal

pub returns : goal.returns
returns c = c.in_ok-has.ensures ∙ ap (λ (tree : Data). is_given (object_of (codes "socket_address") tree)) (c.in_ok-address.ensures ∙ ap outer_of c.in_ok-endpoint.ensures)

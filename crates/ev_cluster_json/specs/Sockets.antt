-- The secrets that a cluster's transport sockets refer to: its own, and those that it chooses by a host's metadata.
use Rattle.std.specs.Prelude.{◌==◌, List, [], length, Bool, not, if◌then◌else◌, Option, Some, None, codes}
use Rattle.serde_json.specs.Data.{Data}
use Rattle.ev_types.specs.declared.events.Profile.{Profile}
use Rattle.ev_types.specs.declared.events.Profile.TheVariants.{Own, Envoy}
use Rattle.ev_types.specs.declared.references.Reference.{Reference}
use Rattle.ev_tree.specs.Forms.{is_wrong, listed, objects_of}
use Rattle.ev_tree.specs.Broken.{none_broken, either_broken}
use Rattle.ev_secret_json.specs.declared.referring.References.{References}
use Rattle.ev_secret_json.specs.References.{each_joined}
use Rattle.ev_secret_json.specs.TransportSockets.{transport_secrets}
use Rattle.ev_cluster_json.specs.declared.sockets.ClusterSecrets.{ClusterSecrets}

-- the transport sockets that are chosen by a match, in order
unfoldable pub matches_of : Data → List Data
matches_of tree = listed (objects_of (codes "transport_socket_matches") tree)

-- the secrets of each match, in order
unfoldable pub match_secrets : Data → References
match_secrets tree = each_joined transport_secrets (matches_of tree)

-- these references where there is something that may have any
abbrev pub given_where : Bool → List Reference → Option (List Reference)
given_where some references = if some then Some references else None

-- what is found of a cluster's transport sockets: by the own rules they are passed over
unfoldable pub cluster_secrets : Profile → Data → ClusterSecrets
cluster_secrets Own tree = record { own = []; by_match = None; broken = none_broken }
cluster_secrets Envoy tree = record {
  own = (transport_secrets tree).list;
  by_match = given_where (not (length (matches_of tree) == 0)) (match_secrets tree).list;
  broken =
      either_broken (transport_secrets tree).broken
      (either_broken (match_secrets tree).broken (record none_broken { v6 = is_wrong (objects_of (codes "transport_socket_matches") tree) }));
}

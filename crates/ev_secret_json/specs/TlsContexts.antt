-- TLS contexts (`envoy.extensions.transport_sockets.tls.v3`), and the secrets that they refer to.
use Rattle.std.specs.Prelude.{codes}
use Rattle.serde_json.specs.Data.{Data}
use Rattle.ev_tree.specs.Forms.{is_wrong, inside, object_of}
use Rattle.ev_secret_json.specs.declared.referring.References.{References}
use Rattle.ev_secret_json.specs.References.{wrong_form, joined}
use Rattle.ev_secret_json.specs.SecretConfigs.{secret_in, secrets_in}

-- a `CommonTlsContext`: its certificates, then its validation context, given by itself or combined with another
unfoldable pub common_secrets : Data → References
common_secrets context =
    joined (secrets_in (codes "tls_certificate_sds_secret_configs") context)
    (joined (secret_in (codes "validation_context_sds_secret_config") context)
    (joined (secret_in (codes "validation_context_sds_secret_config") (inside (object_of (codes "combined_validation_context") context)))
    (wrong_form (is_wrong (object_of (codes "combined_validation_context") context)))))

-- an `UpstreamTlsContext`: the secrets of its common context
unfoldable pub upstream_secrets : Data → References
upstream_secrets context =
    joined (common_secrets (inside (object_of (codes "common_tls_context") context)))
    (wrong_form (is_wrong (object_of (codes "common_tls_context") context)))

-- a `DownstreamTlsContext`: those of its common context, then the keys of its session tickets
unfoldable pub downstream_secrets : Data → References
downstream_secrets context = joined (upstream_secrets context) (secret_in (codes "session_ticket_keys_sds_secret_config") context)

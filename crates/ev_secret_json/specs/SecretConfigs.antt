-- Configurations of secrets (`envoy.extensions.transport_sockets.tls.v3.SdsSecretConfig`):
-- each asks for a secret by its name, or names one of the bootstrap.
use Rattle.std.specs.Prelude.{ℕ, ◌||◌, List, [], not, codes}
use Rattle.serde_json.specs.Data.{Data}
use Rattle.ev_types.specs.declared.events.Profile.TheVariants.{Envoy}
use Rattle.ev_tree.specs.declared.broken.BrokenRules.{BrokenRules}
use Rattle.ev_tree.specs.Forms.{is_wrong, is_given, is_absent, given_or, inside, listed, text_of, object_of, objects_of}
use Rattle.ev_tree.specs.Broken.{none_broken, either_broken, broken_where}
use Rattle.ev_tree.specs.Sources.{source_broken_in, source_is_limited}
use Rattle.ev_secret_json.specs.declared.referring.References.{References}
use Rattle.ev_secret_json.specs.References.{wrong_form, joined, each_joined, reference_with, is_bad_name}

-- where the secret comes from
unfoldable pub secret_source_of : Data → Data
secret_source_of config = inside (object_of (codes "sds_config") config)

-- What a configuration breaks: what its source breaks, and what it breaks itself. V2: it has a source, and its name has
-- not 1 to 512 bytes. Without a source the secret is one of the bootstrap, of whose name the form alone is judged.
unfoldable pub secret_config_broken : Data → BrokenRules
secret_config_broken config = either_broken (broken_where (is_given (object_of (codes "sds_config") config)) (source_broken_in Envoy (secret_source_of config))) (record none_broken {
  v2 = is_bad_name (not (is_absent (object_of (codes "sds_config") config))) (text_of (codes "name") config);
  v6 = is_wrong (text_of (codes "name") config) || is_wrong (object_of (codes "sds_config") config);
})

-- the secret that it asks for, where it has a source
unfoldable pub config_secret : Data → References
config_secret config = record {
  list = reference_with (is_given (object_of (codes "sds_config") config)) (given_or [] (text_of (codes "name") config)) (source_is_limited (secret_source_of config));
  broken = secret_config_broken config;
}

-- the secret that a member of an object configures
unfoldable pub secret_in : List ℕ → Data → References
secret_in name tree = joined (config_secret (inside (object_of name tree))) (wrong_form (is_wrong (object_of name tree)))

-- the secrets that the elements of a member configure, in order
unfoldable pub secrets_in : List ℕ → Data → References
secrets_in name tree = joined (each_joined config_secret (listed (objects_of name tree))) (wrong_form (is_wrong (objects_of name tree)))

-- Secrets (`envoy.extensions.transport_sockets.tls.v3.Secret`) and extensions
-- (`envoy.config.core.v3.TypedExtensionConfig`) as resources, and the rules that they break.
-- Their value has no parts: a name has one or hasn't.
use Rattle.std.specs.Prelude.{ℕ, ◌||◌, ◌==◌, List, [], ◌∷◌, length, Bool, not, Result, codes}
use Rattle.serde_json.specs.Data.{Data}
use Rattle.ev_tree.specs.declared.broken.BrokenRules.{BrokenRules}
use Rattle.ev_tree.specs.Forms.{is_wrong, is_given, given_or, inside, text_of, object_of}
use Rattle.ev_tree.specs.Rules.{judged}
use Rattle.ev_tree.specs.Broken.{none_broken, least_of}
use Rattle.ev_tree.specs.Counts.{exactly_one}

-- of each kind of secret whether it is given
abbrev pub secrets_given : Data → List Bool
secrets_given tree =
    is_given (object_of (codes "tls_certificate") tree)
    ∷ is_given (object_of (codes "session_ticket_keys") tree)
    ∷ is_given (object_of (codes "validation_context") tree)
    ∷ is_given (object_of (codes "generic_secret") tree)
    ∷ []

-- what a secret breaks; V28: not exactly one kind of secret is given
unfoldable pub secret_broken : Data → BrokenRules
secret_broken tree = record none_broken {
  v6 =
      is_wrong (text_of (codes "name") tree)
      || is_wrong (object_of (codes "tls_certificate") tree)
      || is_wrong (object_of (codes "session_ticket_keys") tree)
      || is_wrong (object_of (codes "validation_context") tree)
      || is_wrong (object_of (codes "generic_secret") tree);
  v28 = not (exactly_one (secrets_given tree));
}

-- what a secret reads as
abbrev pub secret_reading : Data → Result (Unit {0}) ℕ
secret_reading tree = judged (least_of (secret_broken tree)) tt

-- the configuration of an extension
unfoldable pub typed_config_of : Data → Data
typed_config_of tree = inside (object_of (codes "typed_config") tree)

-- a type is named
abbrev pub has_type : List ℕ → Bool
has_type name = not (length name == 0)

-- what an extension breaks; V29: its configuration is absent, or its type absent or empty
unfoldable pub config_broken : Data → BrokenRules
config_broken tree = record none_broken {
  v6 =
      is_wrong (text_of (codes "name") tree)
      || is_wrong (object_of (codes "typed_config") tree)
      || is_wrong (text_of (codes "@type") (typed_config_of tree));
  v29 = not (has_type (given_or [] (text_of (codes "@type") (typed_config_of tree))));
}

-- what an extension reads as
abbrev pub extension_reading : Data → Result (Unit {0}) ℕ
extension_reading tree = judged (least_of (config_broken tree)) tt

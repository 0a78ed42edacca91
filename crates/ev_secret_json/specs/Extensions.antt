-- Filters whose configuration comes by the extension config discovery service
-- (`envoy.config.core.v3.ExtensionConfigSource`).
use Rattle.std.specs.Prelude.{◌||◌, ◌&&◌, [], Bool, false, not, codes}
use Rattle.serde_json.specs.Data.{Data}
use Rattle.ev_types.specs.declared.events.Profile.TheVariants.{Envoy}
use Rattle.ev_tree.specs.declared.broken.BrokenRules.{BrokenRules}
use Rattle.ev_tree.specs.Forms.{is_wrong, is_given, is_absent, given_or, inside, text_of, boolean_of, object_of}
use Rattle.ev_tree.specs.Broken.{none_broken, either_broken, broken_where}
use Rattle.ev_tree.specs.Sources.{source_broken_in, source_is_limited}
use Rattle.ev_secret_json.specs.declared.referring.References.{References}
use Rattle.ev_secret_json.specs.References.{reference_with, is_bad_name}

-- how a filter's configuration is found
unfoldable pub discovery_of : Data → Data
discovery_of filter = inside (object_of (codes "config_discovery") filter)

-- where it comes from
unfoldable pub extension_source_of : Data → Data
extension_source_of filter = inside (object_of (codes "config_source") (discovery_of filter))

-- it is found by the filter's name
abbrev pub asks_extension : Data → Bool
asks_extension filter = is_given (object_of (codes "config_discovery") filter)

-- the filter's name is judged: that of a filter whose configuration isn't found so is passed over
abbrev pub is_name_judged : Data → Bool
is_name_judged filter = not (is_absent (object_of (codes "config_discovery") filter))

-- it goes by a default configuration until its own is there
unfoldable pub goes_by_default : Data → Bool
goes_by_default filter =
    is_given (object_of (codes "default_config") (discovery_of filter))
    && given_or false (boolean_of (codes "apply_default_config_without_warming") (discovery_of filter))

-- What a filter breaks by this: what the source breaks, and what it breaks itself. V2: its name has not 1 to 512 bytes.
unfoldable pub extension_broken : Data → BrokenRules
extension_broken filter = either_broken (broken_where (asks_extension filter) (source_broken_in Envoy (extension_source_of filter))) (record none_broken {
  v2 = is_bad_name (is_name_judged filter) (text_of (codes "name") filter);
  v6 =
      is_wrong (object_of (codes "config_discovery") filter)
      || is_wrong (object_of (codes "config_source") (discovery_of filter))
      || is_wrong (object_of (codes "default_config") (discovery_of filter))
      || is_wrong (boolean_of (codes "apply_default_config_without_warming") (discovery_of filter))
      || (is_name_judged filter && is_wrong (text_of (codes "name") filter));
})

-- the extension that it waits for
unfoldable pub filter_extension : Data → References
filter_extension filter = record {
  list =
      reference_with (asks_extension filter && not (goes_by_default filter)) (given_or [] (text_of (codes "name") filter))
      (source_is_limited (extension_source_of filter));
  broken = extension_broken filter;
}

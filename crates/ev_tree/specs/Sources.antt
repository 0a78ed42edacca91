-- Config sources: where a resource's values come from.
-- By this project's own rules that is the aggregated stream alone;
-- as Envoy reads them, the stream of the script represents whichever stream or file brings the values.
use Rattle.std.specs.Prelude.{◌||◌, List, [], ◌∷◌, Bool, true, false, not, codes}
use Rattle.serde_json.specs.Data.{Data}
use Rattle.ev_types.specs.declared.events.Profile.{Profile}
use Rattle.ev_types.specs.declared.events.Profile.TheVariants.{Own, Envoy}
use Rattle.ev_tree.specs.declared.broken.BrokenRules.{BrokenRules}
use Rattle.ev_tree.specs.Forms.{is_wrong, is_given, field_of, object_of, duration_of}
use Rattle.ev_tree.specs.Spans.{is_negative, is_zero}
use Rattle.ev_tree.specs.Broken.{none_broken}
use Rattle.ev_tree.specs.Counts.{exactly_one}

-- exactly one of two
abbrev pub one_of : Bool → Bool → Bool
one_of true second = not second
one_of false second = second

-- a source that the profile lacks is given, in any form
abbrev pub has_other_source : Data → Bool
has_other_source source =
    is_given (field_of (codes "path") source)
    || is_given (field_of (codes "path_config_source") source)
    || is_given (field_of (codes "api_config_source") source)

-- What a config source breaks. V6: a field has the wrong form. V10: not exactly one of `ads` and `self`, as where
-- it is absent, another source, or a negative timeout.
unfoldable pub source_broken : Data → BrokenRules
source_broken source = record none_broken {
  v6 =
      is_wrong (object_of (codes "ads") source)
      || is_wrong (object_of (codes "self") source)
      || is_wrong (duration_of (codes "initial_fetch_timeout") source)
      || is_wrong (field_of (codes "path") source)
      || is_wrong (field_of (codes "path_config_source") source)
      || is_wrong (field_of (codes "api_config_source") source);
  v10 =
      not (one_of (is_given (object_of (codes "ads") source)) (is_given (object_of (codes "self") source)))
      || has_other_source source
      || is_negative (duration_of (codes "initial_fetch_timeout") source);
}

-- of each kind of source whether it is given; the last three count in any form
abbrev pub sources_given : Data → List Bool
sources_given source =
    is_given (object_of (codes "ads") source)
    ∷ is_given (object_of (codes "self") source)
    ∷ is_given (field_of (codes "path") source)
    ∷ is_given (field_of (codes "path_config_source") source)
    ∷ is_given (field_of (codes "api_config_source") source)
    ∷ []

-- What it breaks as Envoy reads it. V10: not exactly one kind of source, as where it is absent, or a negative timeout.
unfoldable pub any_source_broken : Data → BrokenRules
any_source_broken source = record (source_broken source) {
  v10 = not (exactly_one (sources_given source)) || is_negative (duration_of (codes "initial_fetch_timeout") source);
}

-- what a config source breaks in a profile
abbrev pub source_broken_in : Profile → Data → BrokenRules
source_broken_in Own source = source_broken source
source_broken_in Envoy source = any_source_broken source

-- whether the wait for the first values ends: a timeout of zero means that it doesn't
unfoldable pub source_is_limited : Data → Bool
source_is_limited source = not (is_zero (duration_of (codes "initial_fetch_timeout") source))

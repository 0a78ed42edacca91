-- Config sources.
use Rattle.std.proofs.Common.{◌≡◌}
use Rattle.std.specs.Prelude.{◌||◌, [], ◌∷◌, not, codes}
use Rattle.serde_json.specs.Data.{Data}
use Rattle.ev_types.specs.declared.events.Profile.{Profile}
use Rattle.ev_types.specs.declared.events.Profile.TheVariants.{Own, Envoy}
use Rattle.ev_tree.specs.Forms.{is_wrong}
use Rattle.ev_tree.specs.Spans.{is_negative, is_zero}
use Rattle.ev_tree.specs.Broken.{none_broken}
use Rattle.ev_tree.specs.Counts.{exactly_one}
use Rattle.ev_tree.specs.Sources.{one_of, has_other_source, source_broken, sources_given, any_source_broken, source_broken_in, source_is_limited}
use Rattle.ev_tree.specs.Floats.{whole}
use Rattle.ev_whole_laws.proofs.Forms.{duration_of-whole, field-is_given, field-is_wrong, object-is_given, object-is_wrong}

pub has_other_source-whole : (source : Data) → has_other_source (whole source) ≡ has_other_source source
has_other_source-whole source = λ i. field-is_given (codes "path") source i || field-is_given (codes "path_config_source") source i || field-is_given (codes "api_config_source") source i

pub source_broken-whole : (source : Data) → source_broken (whole source) ≡ source_broken source
unfolding source_broken
source_broken-whole source = λ i. record none_broken {
  v6 =
      object-is_wrong (codes "ads") source i
      || object-is_wrong (codes "self") source i
      || is_wrong (duration_of-whole (codes "initial_fetch_timeout") source i)
      || field-is_wrong (codes "path") source i
      || field-is_wrong (codes "path_config_source") source i
      || field-is_wrong (codes "api_config_source") source i;
  v10 =
      not (one_of (object-is_given (codes "ads") source i) (object-is_given (codes "self") source i))
      || has_other_source-whole source i
      || is_negative (duration_of-whole (codes "initial_fetch_timeout") source i);
}

sources_given-whole : (source : Data) → sources_given (whole source) ≡ sources_given source
sources_given-whole source = λ i.
    object-is_given (codes "ads") source i
    ∷ object-is_given (codes "self") source i
    ∷ field-is_given (codes "path") source i
    ∷ field-is_given (codes "path_config_source") source i
    ∷ field-is_given (codes "api_config_source") source i
    ∷ []

any_source_broken-whole : (source : Data) → any_source_broken (whole source) ≡ any_source_broken source
unfolding any_source_broken
any_source_broken-whole source = λ i. record (source_broken-whole source i) {
  v10 = not (exactly_one (sources_given-whole source i)) || is_negative (duration_of-whole (codes "initial_fetch_timeout") source i);
}

pub source_broken_in-whole : (profile : Profile) (source : Data) → source_broken_in profile (whole source) ≡ source_broken_in profile source
source_broken_in-whole Own source = source_broken-whole source
source_broken_in-whole Envoy source = any_source_broken-whole source

pub source_is_limited-whole : (source : Data) → source_is_limited (whole source) ≡ source_is_limited source
unfolding source_is_limited
source_is_limited-whole source = λ i. not (is_zero (duration_of-whole (codes "initial_fetch_timeout") source i))

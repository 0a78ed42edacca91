-- Matches of routes (`envoy.config.route.v3.RouteMatch`): which paths a route takes, and the conditions that
-- the profile lacks.
use Rattle.std.specs.Prelude.{ℕ, ◌||◌, ◌-◌, ◌==◌, List, [], ◌∷◌, length, slice_index, Bool, true, false, not, if◌then◌else◌, codes}
use Rattle.std.specs.List.{list_any}
use Rattle.std.specs.Map.Iter.{deref}
use denote.Ref.{Bor}
use Rattle.serde_json.specs.Data.{Data}
use Rattle.ev_types.specs.declared.routes.PathMatch.{PathMatch}
use Rattle.ev_types.specs.declared.routes.PathMatch.TheVariants.{Prefix, Path, Separated}
use Rattle.ev_tree.specs.declared.broken.BrokenRules.{BrokenRules}
use Rattle.ev_tree.specs.declared.outcome.Found.{Found}
use Rattle.ev_tree.specs.declared.outcome.Found.TheVariants.{Absent, Wrong, Given}
use Rattle.ev_tree.specs.Forms.{found_map, is_wrong, is_given, given_or, text_of, boolean_of}
use Rattle.ev_tree.specs.Broken.{none_broken}
use Rattle.ev_tree.specs.Counts.{exactly_one}
use Rattle.ev_route_json.specs.Presence.{any_given, any_doubled, any_filled}

-- conditions that break V21 in any form
abbrev pub barred_conditions : List (List ℕ)
barred_conditions =
    codes "safe_regex" ∷ codes "connect_matcher" ∷ codes "path_match_policy" ∷ codes "runtime_fraction" ∷ codes "grpc"
    ∷ codes "tls_context" ∷ []

-- conditions that break V21 where they aren't an empty array
abbrev pub listed_conditions : List (List ℕ)
listed_conditions = codes "headers" ∷ codes "query_parameters" ∷ codes "dynamic_metadata" ∷ codes "filter_state" ∷ []

abbrev pub is_false : Found Bool → Bool
is_false Absent = false
is_false Wrong = false
is_false (Given true) = false
is_false (Given false) = true

-- `?` and `#` end a path
abbrev pub ends_a_path : ℕ → Bool
ends_a_path byte = byte == 63 || byte == 35

-- a prefix of whole segments that is empty, ends with `/`, or has a `?` or `#`
abbrev pub is_bad_separated : List ℕ → Bool
is_bad_separated text = length text == 0 || slice_index text (length text - 1) == 47 || list_any ends_a_path text

abbrev pub separated_is_bad : Found (List ℕ) → Bool
separated_is_bad Absent = false
separated_is_bad Wrong = false
separated_is_bad (Given text) = is_bad_separated text

-- What a match breaks. V21: not exactly one kind of match, or a condition that the profile lacks.
unfoldable pub match_broken : Data → BrokenRules
match_broken tree = record none_broken {
  v6 =
      is_wrong (text_of (codes "prefix") tree)
      || is_wrong (text_of (codes "path") tree)
      || is_wrong (text_of (codes "path_separated_prefix") tree)
      || is_wrong (boolean_of (codes "case_sensitive") tree)
      || any_doubled barred_conditions tree
      || any_doubled listed_conditions tree;
  v21 =
      not (exactly_one (is_given (text_of (codes "prefix") tree) ∷ is_given (text_of (codes "path") tree) ∷ is_given (text_of (codes "path_separated_prefix") tree) ∷ []))
      || any_given barred_conditions tree
      || any_filled listed_conditions tree
      || is_false (boolean_of (codes "case_sensitive") tree)
      || separated_is_bad (text_of (codes "path_separated_prefix") tree);
}

-- the match of what is given
abbrev pub path_with : Found (List ℕ) → Found (List ℕ) → Found (List ℕ) → PathMatch
path_with prefix path separated =
    if is_given prefix then Prefix (given_or [] prefix)
    else if is_given path then Path (given_or [] path)
    else Separated (given_or [] separated)

-- the match of the texts that were found
abbrev pub path_found : Found (Bor (List ℕ)) → Found (Bor (List ℕ)) → Found (Bor (List ℕ)) → PathMatch
path_found prefix path separated = path_with (found_map deref prefix) (found_map deref path) (found_map deref separated)

unfoldable pub path_of : Data → PathMatch
path_of tree = path_with (text_of (codes "prefix") tree) (text_of (codes "path") tree) (text_of (codes "path_separated_prefix") tree)

-- What a route's match asks of a request, as Envoy reads it.
use Rattle.std.proofs.Common.{◌≡◌, ◌∙◌, ap}
use Rattle.std.specs.Prelude.{ℕ, pos, ◌||◌, ◌==◌, List, [], ◌∷◌, ◌++◌, length, map, true, false, not, codes}
use Rattle.std.specs.Str.{str_to_ascii_lowercase}
use Rattle.serde_json.specs.Data.{Data}
use Rattle.ev_types.specs.declared.events.Profile.{Profile}
use Rattle.ev_types.specs.declared.events.Profile.TheVariants.{Own, Envoy}
use Rattle.ev_types.specs.declared.matchers.HeaderTest.TheVariants.{Range}
use Rattle.ev_types.specs.declared.matchers.RouteCondition.TheVariants.{Header, Query}
use Rattle.ev_types.specs.declared.matchers.PathSpecifier.TheVariants.{Cased}
use Rattle.ev_tree.specs.Forms.{is_wrong, is_given, given_or, listed, objects_of}
use Rattle.ev_tree.specs.Broken.{none_broken, either_broken, any_broken, broken_where}
use Rattle.ev_tree.specs.Counts.{exactly_one, more_than_one}
use Rattle.ev_tree.specs.Floats.{whole}
use Rattle.ev_route_json.specs.declared.header_matchers.MatcherKind.{MatcherKind}
use Rattle.ev_route_json.specs.declared.header_matchers.MatcherKind.TheVariants.{OfHeader, OfQuery}
use Rattle.ev_route_json.specs.Targets.{is_empty_text}
use Rattle.ev_route_json.specs.Matches.{is_false, separated_is_bad}
use Rattle.ev_route_json.specs.Conditions.{pattern_with, matcher_with, string_matcher_of, string_matcher_broken, string_match_of, range_match_of, range_of, range_broken, header_test_with, header_test_of, test_parts_broken, header_test_broken, matched_name_of, turned_over, header_matcher_of, header_matcher_broken, query_test_with, query_matcher_of, query_matcher_broken, condition_of, condition_broken, headers_of, parameters_of, has_elements, is_open, open_wrong, conditions_with, conditions_of, matchers_broken, conditions_broken, specifier_with, path_specifier_of, path_specifier_broken, route_match_of, route_match_broken, own_match_of, match_in, match_broken_in}
use Rattle.ev_whole_laws.proofs.Forms.{boolean_of-whole, integer_of-whole, inside-object, listed-objects, object-is_given, object-is_wrong, objects-is_wrong, text_of-whole}
use Rattle.ev_whole_laws.proofs.Matches.{match_broken-whole, path_of-whole}
use Rattle.ev_whole_laws.proofs.Parts.{any_broken-whole, length-whole, map-whole}

-- ---- a string matcher

string_matcher_of-whole : (tree : Data) → string_matcher_of (whole tree) ≡ string_matcher_of tree
unfolding string_matcher_of
string_matcher_of-whole tree = λ i.
    matcher_with
    (pattern_with (text_of-whole (codes "exact") tree i) (text_of-whole (codes "prefix") tree i) (text_of-whole (codes "suffix") tree i) (text_of-whole (codes "contains") tree i))
    (given_or false (boolean_of-whole (codes "ignore_case") tree i))

string_matcher_broken-whole : (tree : Data) → string_matcher_broken (whole tree) ≡ string_matcher_broken tree
unfolding string_matcher_broken
string_matcher_broken-whole tree = λ i. record none_broken {
  v6 =
      is_wrong (text_of-whole (codes "exact") tree i)
      || is_wrong (text_of-whole (codes "prefix") tree i)
      || is_wrong (text_of-whole (codes "suffix") tree i)
      || is_wrong (text_of-whole (codes "contains") tree i)
      || object-is_wrong (codes "safe_regex") tree i
      || object-is_wrong (codes "custom") tree i
      || is_wrong (boolean_of-whole (codes "ignore_case") tree i);
  v21 =
      not (exactly_one (
      is_given (text_of-whole (codes "exact") tree i) ∷ is_given (text_of-whole (codes "prefix") tree i) ∷ is_given (text_of-whole (codes "suffix") tree i)
      ∷ is_given (text_of-whole (codes "contains") tree i) ∷ object-is_given (codes "safe_regex") tree i ∷ object-is_given (codes "custom") tree i ∷ []))
      || is_empty_text (text_of-whole (codes "prefix") tree i)
      || is_empty_text (text_of-whole (codes "suffix") tree i)
      || is_empty_text (text_of-whole (codes "contains") tree i);
}

-- the same of the tree of `string_match`
string_match_of-whole : (matcher : Data) → string_match_of (whole matcher) ≡ whole (string_match_of matcher)
unfolding string_match_of
string_match_of-whole matcher = inside-object (codes "string_match") matcher

string_match-value : (matcher : Data) → string_matcher_of (string_match_of (whole matcher)) ≡ string_matcher_of (string_match_of matcher)
string_match-value matcher = ap string_matcher_of (string_match_of-whole matcher) ∙ string_matcher_of-whole (string_match_of matcher)

string_match-broken : (matcher : Data) → string_matcher_broken (string_match_of (whole matcher)) ≡ string_matcher_broken (string_match_of matcher)
string_match-broken matcher = ap string_matcher_broken (string_match_of-whole matcher) ∙ string_matcher_broken-whole (string_match_of matcher)

-- ---- a range of numbers

range_match_of-whole : (header : Data) → range_match_of (whole header) ≡ whole (range_match_of header)
unfolding range_match_of
range_match_of-whole header = inside-object (codes "range_match") header

range_of-whole : (tree : Data) → range_of (whole tree) ≡ range_of tree
unfolding range_of
range_of-whole tree = λ i. Range (given_or (pos 0) (integer_of-whole (codes "start") tree i)) (given_or (pos 0) (integer_of-whole (codes "end") tree i))

range_broken-whole : (tree : Data) → range_broken (whole tree) ≡ range_broken tree
unfolding range_broken
range_broken-whole tree = λ i. record none_broken {
  v6 = is_wrong (integer_of-whole (codes "start") tree i) || is_wrong (integer_of-whole (codes "end") tree i);
}

-- ---- the test of a header

header_test_of-whole : (header : Data) → header_test_of (whole header) ≡ header_test_of header
unfolding header_test_of
header_test_of-whole header = λ i.
    header_test_with
    (pattern_with (text_of-whole (codes "exact_match") header i) (text_of-whole (codes "prefix_match") header i) (text_of-whole (codes "suffix_match") header i) (text_of-whole (codes "contains_match") header i))
    (object-is_given (codes "string_match") header i)
    (string_match-value header i)
    (object-is_given (codes "range_match") header i)
    ((ap range_of (range_match_of-whole header) ∙ range_of-whole (range_match_of header)) i)
    (object-is_given (codes "safe_regex_match") header i)

test_parts_broken-whole : (header : Data) → test_parts_broken (whole header) ≡ test_parts_broken header
unfolding test_parts_broken
test_parts_broken-whole header = λ i.
    either_broken (broken_where (object-is_given (codes "string_match") header i) (string_match-broken header i))
    ((ap range_broken (range_match_of-whole header) ∙ range_broken-whole (range_match_of header)) i)

header_test_broken-whole : (header : Data) → header_test_broken (whole header) ≡ header_test_broken header
unfolding header_test_broken
header_test_broken-whole header = λ i. either_broken (test_parts_broken-whole header i) (record none_broken {
  v6 =
      is_wrong (text_of-whole (codes "exact_match") header i)
      || is_wrong (text_of-whole (codes "prefix_match") header i)
      || is_wrong (text_of-whole (codes "suffix_match") header i)
      || is_wrong (text_of-whole (codes "contains_match") header i)
      || is_wrong (boolean_of-whole (codes "present_match") header i)
      || object-is_wrong (codes "string_match") header i
      || object-is_wrong (codes "safe_regex_match") header i
      || object-is_wrong (codes "range_match") header i;
  v21 =
      more_than_one (
      is_given (text_of-whole (codes "exact_match") header i) ∷ is_given (text_of-whole (codes "prefix_match") header i) ∷ is_given (text_of-whole (codes "suffix_match") header i)
      ∷ is_given (text_of-whole (codes "contains_match") header i) ∷ is_given (boolean_of-whole (codes "present_match") header i) ∷ object-is_given (codes "string_match") header i
      ∷ object-is_given (codes "safe_regex_match") header i ∷ object-is_given (codes "range_match") header i ∷ [])
      || is_empty_text (text_of-whole (codes "prefix_match") header i)
      || is_empty_text (text_of-whole (codes "suffix_match") header i)
      || is_empty_text (text_of-whole (codes "contains_match") header i);
})

-- ---- a header matcher

matched_name_of-whole : (matcher : Data) → matched_name_of (whole matcher) ≡ matched_name_of matcher
unfolding matched_name_of
matched_name_of-whole matcher = λ i. given_or [] (text_of-whole (codes "name") matcher i)

header_matcher_of-whole : (header : Data) → header_matcher_of (whole header) ≡ header_matcher_of header
unfolding header_matcher_of
header_matcher_of-whole header = λ i. record {
  name = str_to_ascii_lowercase (matched_name_of-whole header i);
  test = header_test_of-whole header i;
  invert_match = turned_over (is_false (boolean_of-whole (codes "present_match") header i)) (given_or false (boolean_of-whole (codes "invert_match") header i));
  treat_missing_header_as_empty = given_or false (boolean_of-whole (codes "treat_missing_header_as_empty") header i);
}

header_matcher_broken-whole : (header : Data) → header_matcher_broken (whole header) ≡ header_matcher_broken header
unfolding header_matcher_broken
header_matcher_broken-whole header = λ i. either_broken (header_test_broken-whole header i) (record none_broken {
  v6 =
      is_wrong (text_of-whole (codes "name") header i)
      || is_wrong (boolean_of-whole (codes "invert_match") header i)
      || is_wrong (boolean_of-whole (codes "treat_missing_header_as_empty") header i);
  v21 = length (matched_name_of-whole header i) == 0;
})

-- ---- a query parameter's matcher

query_matcher_of-whole : (parameter : Data) → query_matcher_of (whole parameter) ≡ query_matcher_of parameter
unfolding query_matcher_of
query_matcher_of-whole parameter = λ i. record {
  name = matched_name_of-whole parameter i;
  test =
      query_test_with (object-is_given (codes "string_match") parameter i)
      (string_match-value parameter i)
      (given_or true (boolean_of-whole (codes "present_match") parameter i));
}

query_matcher_broken-whole : (parameter : Data) → query_matcher_broken (whole parameter) ≡ query_matcher_broken parameter
unfolding query_matcher_broken
query_matcher_broken-whole parameter = λ i. either_broken (broken_where (object-is_given (codes "string_match") parameter i) (string_match-broken parameter i)) (record none_broken {
  v6 =
      is_wrong (text_of-whole (codes "name") parameter i)
      || object-is_wrong (codes "string_match") parameter i
      || is_wrong (boolean_of-whole (codes "present_match") parameter i);
  v21 =
      (length (matched_name_of-whole parameter i) == 0)
      || more_than_one (object-is_given (codes "string_match") parameter i ∷ is_given (boolean_of-whole (codes "present_match") parameter i) ∷ []);
})

-- ---- the conditions

condition_of-whole : (kind : MatcherKind) (tree : Data) → condition_of kind (whole tree) ≡ condition_of kind tree
condition_of-whole OfHeader tree = λ i. Header (header_matcher_of-whole tree i)
condition_of-whole OfQuery tree = λ i. Query (query_matcher_of-whole tree i)

condition_broken-whole : (kind : MatcherKind) (tree : Data) → condition_broken kind (whole tree) ≡ condition_broken kind tree
condition_broken-whole OfHeader tree = header_matcher_broken-whole tree
condition_broken-whole OfQuery tree = query_matcher_broken-whole tree

headers_of-whole : (tree : Data) → headers_of (whole tree) ≡ map whole (headers_of tree)
unfolding headers_of
headers_of-whole tree = listed-objects (codes "headers") tree

parameters_of-whole : (tree : Data) → parameters_of (whole tree) ≡ map whole (parameters_of tree)
unfolding parameters_of
parameters_of-whole tree = listed-objects (codes "query_parameters") tree

-- a list of objects is given that has elements
elements-whole : (name : List ℕ) (tree : Data) → has_elements (objects_of name (whole tree)) ≡ has_elements (objects_of name tree)
elements-whole name tree = λ i. not ((ap length (listed-objects name tree) ∙ length-whole (listed (objects_of name tree))) i == 0)

is_open-whole : (tree : Data) → is_open (whole tree) ≡ is_open tree
unfolding is_open
is_open-whole tree = λ i.
    object-is_given (codes "runtime_fraction") tree i
    || object-is_given (codes "tls_context") tree i
    || elements-whole (codes "dynamic_metadata") tree i
    || elements-whole (codes "filter_state") tree i

open_wrong-whole : (tree : Data) → open_wrong (whole tree) ≡ open_wrong tree
unfolding open_wrong
open_wrong-whole tree = λ i.
    object-is_wrong (codes "runtime_fraction") tree i
    || object-is_wrong (codes "tls_context") tree i
    || objects-is_wrong (codes "dynamic_metadata") tree i
    || objects-is_wrong (codes "filter_state") tree i

-- what a list of matchers reads as, and what it breaks
matched-whole : (kind : MatcherKind) (trees others : List Data) → trees ≡ map whole others → map (condition_of kind) trees ≡ map (condition_of kind) others
matched-whole kind trees others same = ap (map (condition_of kind)) same ∙ map-whole (condition_of kind) (condition_of-whole kind) others

matched_broken-whole : (kind : MatcherKind) (trees others : List Data) → trees ≡ map whole others → any_broken (condition_broken kind) trees ≡ any_broken (condition_broken kind) others
matched_broken-whole kind trees others same = ap (any_broken (condition_broken kind)) same ∙ any_broken-whole (condition_broken kind) (condition_broken-whole kind) others

conditions_of-whole : (tree : Data) → conditions_of (whole tree) ≡ conditions_of tree
unfolding conditions_of
conditions_of-whole tree = λ i.
    conditions_with
    (matched-whole OfHeader (headers_of (whole tree)) (headers_of tree) (headers_of-whole tree) i
    ++ matched-whole OfQuery (parameters_of (whole tree)) (parameters_of tree) (parameters_of-whole tree) i)
    (object-is_given (codes "grpc") tree i) (is_open-whole tree i)

matchers_broken-whole : (tree : Data) → matchers_broken (whole tree) ≡ matchers_broken tree
unfolding matchers_broken
matchers_broken-whole tree = λ i.
    either_broken (matched_broken-whole OfHeader (headers_of (whole tree)) (headers_of tree) (headers_of-whole tree) i)
    (matched_broken-whole OfQuery (parameters_of (whole tree)) (parameters_of tree) (parameters_of-whole tree) i)

conditions_broken-whole : (tree : Data) → conditions_broken (whole tree) ≡ conditions_broken tree
unfolding conditions_broken
conditions_broken-whole tree = λ i. either_broken (matchers_broken-whole tree i) (record none_broken {
  v6 =
      objects-is_wrong (codes "headers") tree i
      || objects-is_wrong (codes "query_parameters") tree i
      || object-is_wrong (codes "grpc") tree i
      || open_wrong-whole tree i;
})

-- ---- the path

path_specifier_of-whole : (tree : Data) → path_specifier_of (whole tree) ≡ path_specifier_of tree
unfolding path_specifier_of
path_specifier_of-whole tree = λ i.
    specifier_with (object-is_given (codes "connect_matcher") tree i)
    (object-is_given (codes "safe_regex") tree i || object-is_given (codes "path_match_policy") tree i)
    (is_false (boolean_of-whole (codes "case_sensitive") tree i)) (path_of-whole tree i)

path_specifier_broken-whole : (tree : Data) → path_specifier_broken (whole tree) ≡ path_specifier_broken tree
unfolding path_specifier_broken
path_specifier_broken-whole tree = λ i. record none_broken {
  v6 =
      is_wrong (text_of-whole (codes "prefix") tree i)
      || is_wrong (text_of-whole (codes "path") tree i)
      || is_wrong (text_of-whole (codes "path_separated_prefix") tree i)
      || object-is_wrong (codes "safe_regex") tree i
      || object-is_wrong (codes "connect_matcher") tree i
      || object-is_wrong (codes "path_match_policy") tree i
      || is_wrong (boolean_of-whole (codes "case_sensitive") tree i);
  v21 =
      not (exactly_one (
      is_given (text_of-whole (codes "prefix") tree i) ∷ is_given (text_of-whole (codes "path") tree i) ∷ is_given (text_of-whole (codes "path_separated_prefix") tree i)
      ∷ object-is_given (codes "safe_regex") tree i ∷ object-is_given (codes "connect_matcher") tree i ∷ object-is_given (codes "path_match_policy") tree i ∷ []))
      || separated_is_bad (text_of-whole (codes "path_separated_prefix") tree i);
}

-- ---- the match

route_match_of-whole : (tree : Data) → route_match_of (whole tree) ≡ route_match_of tree
unfolding route_match_of
route_match_of-whole tree = λ i. record { path = path_specifier_of-whole tree i; conditions = conditions_of-whole tree i }

route_match_broken-whole : (tree : Data) → route_match_broken (whole tree) ≡ route_match_broken tree
unfolding route_match_broken
route_match_broken-whole tree = λ i. either_broken (path_specifier_broken-whole tree i) (conditions_broken-whole tree i)

own_match_of-whole : (tree : Data) → own_match_of (whole tree) ≡ own_match_of tree
own_match_of-whole tree = λ i. record { path = Cased (path_of-whole tree i); conditions = [] }

pub match_in-whole : (profile : Profile) (tree : Data) → match_in profile (whole tree) ≡ match_in profile tree
match_in-whole Own tree = own_match_of-whole tree
match_in-whole Envoy tree = route_match_of-whole tree

pub match_broken_in-whole : (profile : Profile) (tree : Data) → match_broken_in profile (whole tree) ≡ match_broken_in profile tree
match_broken_in-whole Own tree = match_broken-whole tree
match_broken_in-whole Envoy tree = route_match_broken-whole tree

-- What a route's match asks of a request where resources are read as Envoy reads them
-- (`envoy.config.route.v3.RouteMatch`, with its `HeaderMatcher`s, its `QueryParameterMatcher`s and their
-- `envoy.type.matcher.v3.StringMatcher`, and the `envoy.type.v3.Int64Range` of a header):
-- which paths, and which conditions beside the path.
use Rattle.std.specs.Prelude.{ℕ, pos, ◌||◌, ◌==◌, ◌++◌, List, [], ◌∷◌, length, map, Bool, true, false, not, if◌then◌else◌, Option, Some, None, codes}
use Rattle.std.specs.Map.Iter.{deref}
use Rattle.std.specs.Str.{str_to_ascii_lowercase}
use denote.Ref.{Bor}
use Rattle.serde_json.specs.Data.{Data}
use Rattle.ev_types.specs.declared.events.Profile.{Profile}
use Rattle.ev_types.specs.declared.events.Profile.TheVariants.{Own, Envoy}
use Rattle.ev_types.specs.declared.routes.PathMatch.{PathMatch}
use Rattle.ev_types.specs.declared.matchers.StringPattern.{StringPattern}
use Rattle.ev_types.specs.declared.matchers.StringPattern.TheVariants.{Exact, Prefix, Suffix, Contains}
use Rattle.ev_types.specs.declared.matchers.StringMatcher.{StringMatcher}
use Rattle.ev_types.specs.declared.matchers.HeaderTest.{HeaderTest}
use Rattle.ev_types.specs.declared.matchers.HeaderTest.TheVariants.{Text as by_text, Present, Range, Open as open_test}
use Rattle.ev_types.specs.declared.matchers.HeaderMatcher.{HeaderMatcher}
use Rattle.ev_types.specs.declared.queries.QueryTest.{QueryTest}
use Rattle.ev_types.specs.declared.queries.QueryTest.TheVariants.{Text as by_value, Present as is_there, Open as open_value}
use Rattle.ev_types.specs.declared.queries.QueryParameterMatcher.{QueryParameterMatcher}
use Rattle.ev_types.specs.declared.matchers.RouteCondition.{RouteCondition}
use Rattle.ev_types.specs.declared.matchers.RouteCondition.TheVariants.{Header, Query, Grpc, Open as open_condition}
use Rattle.ev_types.specs.declared.matchers.PathSpecifier.{PathSpecifier}
use Rattle.ev_types.specs.declared.matchers.PathSpecifier.TheVariants.{Cased, Folded, Connect, Open as open_path}
use Rattle.ev_types.specs.declared.matchers.RouteMatch.{RouteMatch}
use Rattle.ev_tree.specs.declared.broken.BrokenRules.{BrokenRules}
use Rattle.ev_tree.specs.declared.outcome.Found.{Found}
use Rattle.ev_tree.specs.Forms.{found_map, is_wrong, is_given, given_or, inside, listed, text_of, integer_of, boolean_of, object_of, objects_of}
use Rattle.ev_tree.specs.Broken.{none_broken, either_broken, any_broken, broken_where}
use Rattle.ev_tree.specs.Counts.{exactly_one, more_than_one}
use Rattle.ev_route_json.specs.declared.header_matchers.MatcherKind.{MatcherKind}
use Rattle.ev_route_json.specs.declared.header_matchers.MatcherKind.TheVariants.{OfHeader, OfQuery}
use Rattle.ev_route_json.specs.declared.string_matchers.Patterns.{Patterns}
use Rattle.ev_route_json.specs.Targets.{is_empty_text}
use Rattle.ev_route_json.specs.Matches.{path_of, match_broken, is_false, separated_is_bad}

-- ---- a text that a value is held against

-- the pattern that is given
abbrev pub pattern_with : Found (List ℕ) → Found (List ℕ) → Found (List ℕ) → Found (List ℕ) → Option StringPattern
pattern_with exact prefix suffix contains =
    if is_given exact then Some (Exact (given_or [] exact))
    else if is_given prefix then Some (Prefix (given_or [] prefix))
    else if is_given suffix then Some (Suffix (given_or [] suffix))
    else if is_given contains then Some (Contains (given_or [] contains))
    else None

-- the pattern of the texts that were found
abbrev pub pattern_found : Found (Bor (List ℕ)) → Found (Bor (List ℕ)) → Found (Bor (List ℕ)) → Found (Bor (List ℕ)) → Option StringPattern
pattern_found exact prefix suffix contains =
    pattern_with (found_map deref exact) (found_map deref prefix) (found_map deref suffix) (found_map deref contains)

-- ---- a string matcher

-- the matcher by a pattern; there is none without one
abbrev pub matcher_with : Option StringPattern → Bool → Option StringMatcher
matcher_with None ignore = None
matcher_with (Some pattern) ignore = Some (record { pattern = pattern; ignore_case = ignore })

-- the texts that a string matcher takes: none is given by `safe_regex` and `custom`, which aren't decided here
unfoldable pub string_matcher_of : Data → Option StringMatcher
string_matcher_of tree =
    matcher_with
    (pattern_with (text_of (codes "exact") tree) (text_of (codes "prefix") tree) (text_of (codes "suffix") tree) (text_of (codes "contains") tree))
    (given_or false (boolean_of (codes "ignore_case") tree))

-- What a string matcher breaks. V21: not exactly one pattern, or an empty one but `exact`.
unfoldable pub string_matcher_broken : Data → BrokenRules
string_matcher_broken tree = record none_broken {
  v6 =
      is_wrong (text_of (codes "exact") tree)
      || is_wrong (text_of (codes "prefix") tree)
      || is_wrong (text_of (codes "suffix") tree)
      || is_wrong (text_of (codes "contains") tree)
      || is_wrong (object_of (codes "safe_regex") tree)
      || is_wrong (object_of (codes "custom") tree)
      || is_wrong (boolean_of (codes "ignore_case") tree);
  v21 =
      not (exactly_one (
      is_given (text_of (codes "exact") tree) ∷ is_given (text_of (codes "prefix") tree) ∷ is_given (text_of (codes "suffix") tree)
      ∷ is_given (text_of (codes "contains") tree) ∷ is_given (object_of (codes "safe_regex") tree) ∷ is_given (object_of (codes "custom") tree) ∷ []))
      || is_empty_text (text_of (codes "prefix") tree)
      || is_empty_text (text_of (codes "suffix") tree)
      || is_empty_text (text_of (codes "contains") tree);
}

-- the tree of `string_match`
unfoldable pub string_match_of : Data → Data
string_match_of matcher = inside (object_of (codes "string_match") matcher)

-- ---- a range of numbers

-- the tree of `range_match`
unfoldable pub range_match_of : Data → Data
range_match_of header = inside (object_of (codes "range_match") header)

-- the range: an end that isn't given is 0
unfoldable pub range_of : Data → HeaderTest
range_of tree = Range (given_or (pos 0) (integer_of (codes "start") tree)) (given_or (pos 0) (integer_of (codes "end") tree))

unfoldable pub range_broken : Data → BrokenRules
range_broken tree = record none_broken {
  v6 = is_wrong (integer_of (codes "start") tree) || is_wrong (integer_of (codes "end") tree);
}

-- ---- the test of a header

-- the test by a string matcher; without a pattern it isn't decided here
abbrev pub text_test : Option StringMatcher → HeaderTest
text_test None = open_test
text_test (Some matcher) = by_text matcher

-- The test of what is given: a pattern, a string matcher, a range, or one that isn't decided here. Without any it is
-- that the header is there.
abbrev pub header_test_with : Option StringPattern → Bool → Option StringMatcher → Bool → HeaderTest → Bool → HeaderTest
header_test_with (Some pattern) by_string matcher by_range range by_regex = by_text (record { pattern = pattern; ignore_case = false })
header_test_with None by_string matcher by_range range by_regex =
    if by_string then text_test matcher else (if by_range then range else (if by_regex then open_test else Present))

unfoldable pub header_test_of : Data → HeaderTest
header_test_of header =
    header_test_with
    (pattern_with (text_of (codes "exact_match") header) (text_of (codes "prefix_match") header) (text_of (codes "suffix_match") header) (text_of (codes "contains_match") header))
    (is_given (object_of (codes "string_match") header))
    (string_matcher_of (string_match_of header))
    (is_given (object_of (codes "range_match") header))
    (range_of (range_match_of header))
    (is_given (object_of (codes "safe_regex_match") header))

-- what the parts of a header's test break: its string matcher, where it has one, and its range
unfoldable pub test_parts_broken : Data → BrokenRules
test_parts_broken header =
    either_broken (broken_where (is_given (object_of (codes "string_match") header)) (string_matcher_broken (string_match_of header)))
    (range_broken (range_match_of header))

-- What the tests of a header break themselves, by what was found of each. V21: more than one test, or an empty pattern
-- but `exact_match`.
abbrev pub tests_broken : {A B E : Type 0} → Patterns → Found Bool → Found A → Found B → Found E → BrokenRules
tests_broken patterns present string regex range = record none_broken {
  v6 =
      is_wrong patterns.exact
      || is_wrong patterns.prefix
      || is_wrong patterns.suffix
      || is_wrong patterns.contains
      || is_wrong present
      || is_wrong string
      || is_wrong regex
      || is_wrong range;
  v21 =
      more_than_one (
      is_given patterns.exact ∷ is_given patterns.prefix ∷ is_given patterns.suffix ∷ is_given patterns.contains ∷ is_given present ∷ is_given string
      ∷ is_given regex ∷ is_given range ∷ [])
      || is_empty_text (found_map deref patterns.prefix)
      || is_empty_text (found_map deref patterns.suffix)
      || is_empty_text (found_map deref patterns.contains);
}

-- What the tests of a header break: what their parts break, and what they break themselves. V21: more than one test, or
-- an empty pattern but `exact_match`.
unfoldable pub header_test_broken : Data → BrokenRules
header_test_broken header = either_broken (test_parts_broken header) (record none_broken {
  v6 =
      is_wrong (text_of (codes "exact_match") header)
      || is_wrong (text_of (codes "prefix_match") header)
      || is_wrong (text_of (codes "suffix_match") header)
      || is_wrong (text_of (codes "contains_match") header)
      || is_wrong (boolean_of (codes "present_match") header)
      || is_wrong (object_of (codes "string_match") header)
      || is_wrong (object_of (codes "safe_regex_match") header)
      || is_wrong (object_of (codes "range_match") header);
  v21 =
      more_than_one (
      is_given (text_of (codes "exact_match") header) ∷ is_given (text_of (codes "prefix_match") header) ∷ is_given (text_of (codes "suffix_match") header)
      ∷ is_given (text_of (codes "contains_match") header) ∷ is_given (boolean_of (codes "present_match") header) ∷ is_given (object_of (codes "string_match") header)
      ∷ is_given (object_of (codes "safe_regex_match") header) ∷ is_given (object_of (codes "range_match") header) ∷ [])
      || is_empty_text (text_of (codes "prefix_match") header)
      || is_empty_text (text_of (codes "suffix_match") header)
      || is_empty_text (text_of (codes "contains_match") header);
})

-- ---- a header matcher

-- the name as it is written, of a header or a query parameter: the empty text where none is given
unfoldable pub matched_name_of : Data → List ℕ
matched_name_of matcher = given_or [] (text_of (codes "name") matcher)

-- turned over, or as it is
abbrev pub turned_over : Bool → Bool → Bool
turned_over turn said = if turn then not said else said

-- That a header isn't there is asked by a `present_match` that is false: it is Present, turned over once more.
unfoldable pub header_matcher_of : Data → HeaderMatcher
header_matcher_of header = record {
  name = str_to_ascii_lowercase (matched_name_of header);
  test = header_test_of header;
  invert_match = turned_over (is_false (boolean_of (codes "present_match") header)) (given_or false (boolean_of (codes "invert_match") header));
  treat_missing_header_as_empty = given_or false (boolean_of (codes "treat_missing_header_as_empty") header);
}

-- What a header matcher breaks: what its test breaks, and what it breaks itself. V21: no name, or an empty one.
unfoldable pub header_matcher_broken : Data → BrokenRules
header_matcher_broken header = either_broken (header_test_broken header) (record none_broken {
  v6 =
      is_wrong (text_of (codes "name") header)
      || is_wrong (boolean_of (codes "invert_match") header)
      || is_wrong (boolean_of (codes "treat_missing_header_as_empty") header);
  v21 = length (matched_name_of header) == 0;
})

-- ---- a query parameter's matcher

-- the test by a string matcher; without a pattern it isn't decided here
abbrev pub value_test : Option StringMatcher → QueryTest
value_test None = open_value
value_test (Some matcher) = by_value matcher

-- the test by a string matcher where one is given, else that the parameter is there, or isn't
abbrev pub query_test_with : Bool → Option StringMatcher → Bool → QueryTest
query_test_with by_string matcher there = if by_string then value_test matcher else is_there there

-- without any test it is that the parameter is there
unfoldable pub query_matcher_of : Data → QueryParameterMatcher
query_matcher_of parameter = record {
  name = matched_name_of parameter;
  test =
      query_test_with (is_given (object_of (codes "string_match") parameter))
      (string_matcher_of (string_match_of parameter))
      (given_or true (boolean_of (codes "present_match") parameter));
}

-- What a query parameter's matcher breaks: what its string matcher breaks, where it has one, and what it breaks itself.
-- V21: no name or an empty one, or both tests.
unfoldable pub query_matcher_broken : Data → BrokenRules
query_matcher_broken parameter = either_broken (broken_where (is_given (object_of (codes "string_match") parameter)) (string_matcher_broken (string_match_of parameter))) (record none_broken {
  v6 =
      is_wrong (text_of (codes "name") parameter)
      || is_wrong (object_of (codes "string_match") parameter)
      || is_wrong (boolean_of (codes "present_match") parameter);
  v21 =
      (length (matched_name_of parameter) == 0)
      || more_than_one (is_given (object_of (codes "string_match") parameter) ∷ is_given (boolean_of (codes "present_match") parameter) ∷ []);
})

-- ---- the conditions

-- an element of `headers` or of `query_parameters` as a condition
abbrev pub condition_of : MatcherKind → Data → RouteCondition
condition_of OfHeader tree = Header (header_matcher_of tree)
condition_of OfQuery tree = Query (query_matcher_of tree)

-- what it breaks
abbrev pub condition_broken : MatcherKind → Data → BrokenRules
condition_broken OfHeader tree = header_matcher_broken tree
condition_broken OfQuery tree = query_matcher_broken tree

unfoldable pub headers_of : Data → List Data
headers_of tree = listed (objects_of (codes "headers") tree)

unfoldable pub parameters_of : Data → List Data
parameters_of tree = listed (objects_of (codes "query_parameters") tree)

-- a list is given that has elements
abbrev pub has_elements : Found (List Data) → Bool
has_elements found = not (length (listed found) == 0)

-- a condition is given that isn't decided here
unfoldable pub is_open : Data → Bool
is_open tree =
    is_given (object_of (codes "runtime_fraction") tree)
    || is_given (object_of (codes "tls_context") tree)
    || has_elements (objects_of (codes "dynamic_metadata") tree)
    || has_elements (objects_of (codes "filter_state") tree)

-- one of these has the wrong form
unfoldable pub open_wrong : Data → Bool
open_wrong tree =
    is_wrong (object_of (codes "runtime_fraction") tree)
    || is_wrong (object_of (codes "tls_context") tree)
    || is_wrong (objects_of (codes "dynamic_metadata") tree)
    || is_wrong (objects_of (codes "filter_state") tree)

-- these conditions, and after them the one where it is given
abbrev pub with_condition : List RouteCondition → Bool → RouteCondition → List RouteCondition
with_condition conditions asked condition = if asked then conditions ++ condition ∷ [] else conditions

-- those on headers and query parameters, then that it is a gRPC request, then one for all that aren't decided here
abbrev pub conditions_with : List RouteCondition → Bool → Bool → List RouteCondition
conditions_with matched grpc undecided = with_condition (with_condition matched grpc Grpc) undecided open_condition

unfoldable pub conditions_of : Data → List RouteCondition
conditions_of tree =
    conditions_with (map (condition_of OfHeader) (headers_of tree) ++ map (condition_of OfQuery) (parameters_of tree))
    (is_given (object_of (codes "grpc") tree)) (is_open tree)

-- what the matchers of headers and of query parameters break
unfoldable pub matchers_broken : Data → BrokenRules
matchers_broken tree = either_broken (any_broken (condition_broken OfHeader) (headers_of tree)) (any_broken (condition_broken OfQuery) (parameters_of tree))

-- what the conditions break: what one of their matchers breaks, and what they break themselves
unfoldable pub conditions_broken : Data → BrokenRules
conditions_broken tree = either_broken (matchers_broken tree) (record none_broken {
  v6 =
      is_wrong (objects_of (codes "headers") tree)
      || is_wrong (objects_of (codes "query_parameters") tree)
      || is_wrong (object_of (codes "grpc") tree)
      || open_wrong tree;
})

-- ---- the path

-- the path specifier of what is given
abbrev pub specifier_with : Bool → Bool → Bool → PathMatch → PathSpecifier
specifier_with connects undecided folds path =
    if connects then Connect else (if undecided then open_path else (if folds then Folded path else Cased path))

-- `safe_regex` and `path_match_policy` aren't decided here; `case_sensitive` counts with the other three kinds of path
unfoldable pub path_specifier_of : Data → PathSpecifier
path_specifier_of tree =
    specifier_with (is_given (object_of (codes "connect_matcher") tree))
    (is_given (object_of (codes "safe_regex") tree) || is_given (object_of (codes "path_match_policy") tree))
    (is_false (boolean_of (codes "case_sensitive") tree)) (path_of tree)

-- What a path specifier breaks. V21: not exactly one kind of path, or a prefix of whole segments that can't be one.
unfoldable pub path_specifier_broken : Data → BrokenRules
path_specifier_broken tree = record none_broken {
  v6 =
      is_wrong (text_of (codes "prefix") tree)
      || is_wrong (text_of (codes "path") tree)
      || is_wrong (text_of (codes "path_separated_prefix") tree)
      || is_wrong (object_of (codes "safe_regex") tree)
      || is_wrong (object_of (codes "connect_matcher") tree)
      || is_wrong (object_of (codes "path_match_policy") tree)
      || is_wrong (boolean_of (codes "case_sensitive") tree);
  v21 =
      not (exactly_one (
      is_given (text_of (codes "prefix") tree) ∷ is_given (text_of (codes "path") tree) ∷ is_given (text_of (codes "path_separated_prefix") tree)
      ∷ is_given (object_of (codes "safe_regex") tree) ∷ is_given (object_of (codes "connect_matcher") tree) ∷ is_given (object_of (codes "path_match_policy") tree) ∷ []))
      || separated_is_bad (text_of (codes "path_separated_prefix") tree);
}

-- ---- the match

unfoldable pub route_match_of : Data → RouteMatch
route_match_of tree = record { path = path_specifier_of tree; conditions = conditions_of tree }

-- what a match breaks: what its path and its conditions break.
-- One that is missing has no kind of path, so it breaks V21.
unfoldable pub route_match_broken : Data → BrokenRules
route_match_broken tree = either_broken (path_specifier_broken tree) (conditions_broken tree)

-- ---- in a profile

-- by this project's own rules a match has a path in its case, and no condition
abbrev pub own_match_of : Data → RouteMatch
own_match_of tree = record { path = Cased (path_of tree); conditions = [] }

abbrev pub match_in : Profile → Data → RouteMatch
match_in Own tree = own_match_of tree
match_in Envoy tree = route_match_of tree

abbrev pub match_broken_in : Profile → Data → BrokenRules
match_broken_in Own tree = match_broken tree
match_broken_in Envoy tree = route_match_broken tree

-- When what routes ask of requests is equal. As values tests that aren't decided are one,
-- and so are such conditions and paths.
use Rattle.std.specs.Prelude.{Bool, true, false, ◌≡◌, ◌&&◌, refl}
use Rattle.std.specs.Bool.{Decides}
use Rattle.std.specs.Str.{bytes_eq}
use Rattle.std.specs.Ordering.{int_eq}
use Rattle.std.specs.Cmp.{signed_Decides}
use Rattle.std.proofs.Common.{ap}
use lib.Pointwise.{pointwise, pointwise_decides}
use Rattle.ev_types.specs.declared.matchers.StringPattern.{StringPattern}
use Rattle.ev_types.specs.declared.matchers.StringPattern.TheVariants.{Exact, Prefix, Suffix, Contains}
use Rattle.ev_types.specs.declared.matchers.StringMatcher.{StringMatcher}
use Rattle.ev_types.specs.declared.matchers.HeaderTest.{HeaderTest}
use Rattle.ev_types.specs.declared.matchers.HeaderTest.TheVariants.{Text as by_text, Present, Range, Open as open_test}
use Rattle.ev_types.specs.declared.matchers.HeaderMatcher.{HeaderMatcher}
use Rattle.ev_types.specs.declared.queries.QueryTest.{QueryTest}
use Rattle.ev_types.specs.declared.queries.QueryTest.TheVariants.{Text as value_text, Present as is_there, Open as open_value}
use Rattle.ev_types.specs.declared.queries.QueryParameterMatcher.{QueryParameterMatcher}
use Rattle.ev_types.specs.declared.matchers.RouteCondition.{RouteCondition}
use Rattle.ev_types.specs.declared.matchers.RouteCondition.TheVariants.{Header, Query, Grpc, Open as open_condition}
use Rattle.ev_types.specs.declared.matchers.PathSpecifier.{PathSpecifier}
use Rattle.ev_types.specs.declared.matchers.PathSpecifier.TheVariants.{Cased, Folded, Connect, Open as open_path}
use Rattle.ev_types.specs.declared.matchers.RouteMatch.{RouteMatch}
use Rattle.ev_types.specs.Same.{bool_same, bool_decides, both_decide, decides_as, bytes_decide}
use Rattle.ev_types.specs.SamePaths.{path_match_same, path_match_decides}

-- the same kind of pattern of the same text
abbrev pub string_pattern_same : StringPattern → StringPattern → Bool
string_pattern_same (Exact a) (Exact b) = bytes_eq a b
string_pattern_same (Prefix a) (Prefix b) = bytes_eq a b
string_pattern_same (Suffix a) (Suffix b) = bytes_eq a b
string_pattern_same (Contains a) (Contains b) = bytes_eq a b
string_pattern_same a b = false

-- the same pattern, in the same case or none
abbrev pub string_matcher_same : StringMatcher → StringMatcher → Bool
string_matcher_same a b = string_pattern_same a.pattern b.pattern && bool_same a.ignore_case b.ignore_case

-- the same kind of test, of the same text or range
abbrev pub header_test_same : HeaderTest → HeaderTest → Bool
header_test_same (by_text a) (by_text b) = string_matcher_same a b
header_test_same Present Present = true
header_test_same (Range start end) (Range other_start other_end) = int_eq start other_start && int_eq end other_end
header_test_same open_test open_test = true
header_test_same a b = false

-- the same test of the same header, with the same marks
abbrev pub header_matcher_same : HeaderMatcher → HeaderMatcher → Bool
header_matcher_same a b =
    bytes_eq a.name b.name
    && header_test_same a.test b.test
    && bool_same a.invert_match b.invert_match
    && bool_same a.treat_missing_header_as_empty b.treat_missing_header_as_empty

-- the same kind of test of a query parameter, of the same text
abbrev pub query_test_same : QueryTest → QueryTest → Bool
query_test_same (value_text a) (value_text b) = string_matcher_same a b
query_test_same (is_there a) (is_there b) = bool_same a b
query_test_same open_value open_value = true
query_test_same a b = false

-- the same test of the same query parameter
abbrev pub query_matcher_same : QueryParameterMatcher → QueryParameterMatcher → Bool
query_matcher_same a b = bytes_eq a.name b.name && query_test_same a.test b.test

-- the same kind of condition, of the same header or query parameter
abbrev pub route_condition_same : RouteCondition → RouteCondition → Bool
route_condition_same (Header a) (Header b) = header_matcher_same a b
route_condition_same (Query a) (Query b) = query_matcher_same a b
route_condition_same Grpc Grpc = true
route_condition_same open_condition open_condition = true
route_condition_same a b = false

-- the same match of paths, compared in the same way
abbrev pub path_specifier_same : PathSpecifier → PathSpecifier → Bool
path_specifier_same (Cased a) (Cased b) = path_match_same a b
path_specifier_same (Folded a) (Folded b) = path_match_same a b
path_specifier_same Connect Connect = true
path_specifier_same open_path open_path = true
path_specifier_same a b = false

-- the same paths, under the same conditions in the same order
abbrev pub route_match_same : RouteMatch → RouteMatch → Bool
route_match_same a b = path_specifier_same a.path b.path && pointwise route_condition_same a.conditions b.conditions

pub string_pattern_decides : (a b : StringPattern) → Decides (string_pattern_same a b) (a ≡ b)
string_pattern_decides (Exact a) (Exact b) = decides_as (bytes_decide a b) (λ e. ap Exact e) (λ e. cc)
string_pattern_decides (Prefix a) (Prefix b) = decides_as (bytes_decide a b) (λ e. ap Prefix e) (λ e. cc)
string_pattern_decides (Suffix a) (Suffix b) = decides_as (bytes_decide a b) (λ e. ap Suffix e) (λ e. cc)
string_pattern_decides (Contains a) (Contains b) = decides_as (bytes_decide a b) (λ e. ap Contains e) (λ e. cc)
string_pattern_decides a b = (λ h. cc, λ e. cc)

pub string_matcher_decides : (a b : StringMatcher) → Decides (string_matcher_same a b) (a ≡ b)
string_matcher_decides a b = decides_as (both_decide (string_pattern_decides a.pattern b.pattern) (bool_decides a.ignore_case b.ignore_case))
    (λ p. λ i. record { pattern = p.0 i; ignore_case = p.1 i })
    (λ e. (ap (λ (m : StringMatcher). m.pattern) e, ap (λ (m : StringMatcher). m.ignore_case) e))

pub header_test_decides : (a b : HeaderTest) → Decides (header_test_same a b) (a ≡ b)
header_test_decides (by_text a) (by_text b) = decides_as (string_matcher_decides a b) (λ e. ap by_text e) (λ e. cc)
header_test_decides Present Present = (λ h. refl, λ e. refl)
header_test_decides (Range a b) (Range c d) =
    decides_as (both_decide (signed_Decides a c) (signed_Decides b d)) (λ p. λ i. Range (p.0 i) (p.1 i)) (λ e. (cc, cc))
header_test_decides open_test open_test = (λ h. refl, λ e. refl)
header_test_decides a b = (λ h. cc, λ e. cc)

pub header_matcher_decides : (a b : HeaderMatcher) → Decides (header_matcher_same a b) (a ≡ b)
header_matcher_decides a b = decides_as
    (both_decide (both_decide (both_decide (bytes_decide a.name b.name) (header_test_decides a.test b.test)) (bool_decides a.invert_match b.invert_match))
    (bool_decides a.treat_missing_header_as_empty b.treat_missing_header_as_empty))
    (λ p. λ i. record { name = p.0.0.0 i; test = p.0.0.1 i; invert_match = p.0.1 i; treat_missing_header_as_empty = p.1 i })
    (λ e. (
      (
        (ap (λ (m : HeaderMatcher). m.name) e, ap (λ (m : HeaderMatcher). m.test) e),
        ap (λ (m : HeaderMatcher). m.invert_match) e,
      ),
      ap (λ (m : HeaderMatcher). m.treat_missing_header_as_empty) e,
    ))

pub query_test_decides : (a b : QueryTest) → Decides (query_test_same a b) (a ≡ b)
query_test_decides (value_text a) (value_text b) = decides_as (string_matcher_decides a b) (λ e. ap value_text e) (λ e. cc)
query_test_decides (is_there a) (is_there b) = decides_as (bool_decides a b) (λ e. ap is_there e) (λ e. cc)
query_test_decides open_value open_value = (λ h. refl, λ e. refl)
query_test_decides a b = (λ h. cc, λ e. cc)

pub query_matcher_decides : (a b : QueryParameterMatcher) → Decides (query_matcher_same a b) (a ≡ b)
query_matcher_decides a b = decides_as (both_decide (bytes_decide a.name b.name) (query_test_decides a.test b.test))
    (λ p. λ i. record { name = p.0 i; test = p.1 i })
    (λ e. (ap (λ (m : QueryParameterMatcher). m.name) e, ap (λ (m : QueryParameterMatcher). m.test) e))

pub route_condition_decides : (a b : RouteCondition) → Decides (route_condition_same a b) (a ≡ b)
route_condition_decides (Header a) (Header b) = decides_as (header_matcher_decides a b) (λ e. ap Header e) (λ e. cc)
route_condition_decides (Query a) (Query b) = decides_as (query_matcher_decides a b) (λ e. ap Query e) (λ e. cc)
route_condition_decides Grpc Grpc = (λ h. refl, λ e. refl)
route_condition_decides open_condition open_condition = (λ h. refl, λ e. refl)
route_condition_decides a b = (λ h. cc, λ e. cc)

pub path_specifier_decides : (a b : PathSpecifier) → Decides (path_specifier_same a b) (a ≡ b)
path_specifier_decides (Cased a) (Cased b) = decides_as (path_match_decides a b) (λ e. ap Cased e) (λ e. cc)
path_specifier_decides (Folded a) (Folded b) = decides_as (path_match_decides a b) (λ e. ap Folded e) (λ e. cc)
path_specifier_decides Connect Connect = (λ h. refl, λ e. refl)
path_specifier_decides open_path open_path = (λ h. refl, λ e. refl)
path_specifier_decides a b = (λ h. cc, λ e. cc)

pub route_match_decides : (a b : RouteMatch) → Decides (route_match_same a b) (a ≡ b)
route_match_decides a b = decides_as (both_decide (path_specifier_decides a.path b.path) (pointwise_decides route_condition_decides a.conditions b.conditions))
    (λ p. λ i. record { path = p.0 i; conditions = p.1 i })
    (λ e. (ap (λ (m : RouteMatch). m.path) e, ap (λ (m : RouteMatch). m.conditions) e))

-- What a route says of a request: no, yes, or that nothing in a script decides it. Source:
-- the Envoy v3 API on route matches, header matchers, query parameter matchers and string matchers.
use Rattle.std.specs.Prelude.{ℕ, ℤ, int_lt, int_le, Bool, true, false, not, ◌||◌, ◌&&◌, ◌==◌, is_some, if◌then◌else◌, List, [], ◌∷◌, find, map, take_while, Option, Some, None, codes, option_map, unwrap_or}
use Rattle.std.specs.List.{list_any, before_first, after_first, slice_split}
use Rattle.std.specs.Str.{bytes_eq, str_to_ascii_lowercase}
use Rattle.ev_types.specs.declared.routes.PathMatch.{PathMatch}
use Rattle.ev_types.specs.declared.routes.PathMatch.TheVariants.{Prefix as by_prefix, Path as by_path, Separated as by_separated}
use Rattle.ev_types.specs.declared.matchers.StringPattern.{StringPattern}
use Rattle.ev_types.specs.declared.matchers.StringPattern.TheVariants.{Exact, Prefix, Suffix, Contains}
use Rattle.ev_types.specs.declared.matchers.HeaderTest.{HeaderTest}
use Rattle.ev_types.specs.declared.matchers.HeaderTest.TheVariants.{Text as by_text, Present, Range, Open as open_test}
use Rattle.ev_types.specs.declared.matchers.HeaderMatcher.{HeaderMatcher}
use Rattle.ev_types.specs.declared.queries.QueryTest.{QueryTest}
use Rattle.ev_types.specs.declared.queries.QueryTest.TheVariants.{Text as by_value, Present as is_there, Open as open_value}
use Rattle.ev_types.specs.declared.queries.QueryParameterMatcher.{QueryParameterMatcher}
use Rattle.ev_types.specs.declared.matchers.RouteCondition.{RouteCondition}
use Rattle.ev_types.specs.declared.matchers.RouteCondition.TheVariants.{Header, Query, Grpc, Open as open_condition}
use Rattle.ev_types.specs.declared.matchers.PathSpecifier.{PathSpecifier}
use Rattle.ev_types.specs.declared.matchers.PathSpecifier.TheVariants.{Cased, Folded, Connect, Open as open_path}
use Rattle.ev_types.specs.declared.matchers.RouteMatch.{RouteMatch}
use Rattle.ev_types.specs.Decimals.{decimal_of}
use Rattle.ev_types.specs.Same.{bool_same}
use Rattle.ev_model.specs.declared.pictures.Taken.{Taken}
use Rattle.ev_model.specs.declared.pictures.Taken.TheVariants.{No, Yes, Undecided}
use Rattle.ev_model.specs.Paths.{begins_with, ends_with, is_path_taken}

-- what a request brings that routes ask for: its host, its path, and its headers, whose names are in lower case
pub record Requested : Type 0 where
  pub host : List ℕ
  pub path : List ℕ
  pub headers : List (List ℕ × List ℕ)

-- the headers with the host and the path before them
abbrev pub headers_of : Requested → List (List ℕ × List ℕ)
headers_of request = (codes ":authority", request.host) ∷ (codes ":path", request.path) ∷ request.headers

-- the value of a header
abbrev pub header_value : Requested → List ℕ → Option (List ℕ)
header_value request name = option_map (λ (header : List ℕ × List ℕ). header.1) (find (λ (header : List ℕ × List ℕ). bytes_eq header.0 name) (headers_of request))

-- yes where it is so, else no
abbrev pub yes_if : Bool → Taken
yes_if so = if so then Yes else No

-- turned over where it is inverted
abbrev pub inverted : Bool → Bool → Bool
inverted invert said = if invert then not said else said

-- a text as it is compared
abbrev pub in_case : Bool → List ℕ → List ℕ
in_case ignore text = if ignore then str_to_ascii_lowercase text else text

-- the text has the other as a part
abbrev pub has_part : List ℕ → List ℕ → Bool
has_part [] part = begins_with [] part
has_part (byte ∷ rest) part = begins_with (byte ∷ rest) part || has_part rest part

-- the pattern takes the text
abbrev pub is_pattern_met : Bool → List ℕ → StringPattern → Bool
is_pattern_met ignore text (Exact other) = bytes_eq (in_case ignore text) (in_case ignore other)
is_pattern_met ignore text (Prefix prefix) = begins_with (in_case ignore text) (in_case ignore prefix)
is_pattern_met ignore text (Suffix back) = ends_with (in_case ignore text) (in_case ignore back)
is_pattern_met ignore text (Contains part) = has_part (in_case ignore text) (in_case ignore part)

-- the text is the decimal text of a number that is at least the start and below the end
abbrev pub is_in_range : ℤ → ℤ → List ℕ → Bool
is_in_range start end text = unwrap_or (option_map (λ number. int_le start number && int_lt number end) (decimal_of text)) false

-- what a test says of a header's value
abbrev pub value_says : HeaderTest → Bool → List ℕ → Taken
value_says (by_text matcher) invert value = yes_if (inverted invert (is_pattern_met matcher.ignore_case value matcher.pattern))
value_says Present invert value = yes_if (inverted invert true)
value_says (Range start end) invert value = yes_if (inverted invert (is_in_range start end value))
value_says open_test invert value = Undecided

-- what it says of a header that is missing: that it isn't there, or no
abbrev pub missing_says : HeaderTest → Bool → Taken
missing_says (by_text matcher) invert = No
missing_says Present invert = yes_if (inverted invert false)
missing_says (Range start end) invert = No
missing_says open_test invert = No

-- what a matcher says of what was found of its header
abbrev pub found_says : HeaderMatcher → Option (List ℕ) → Taken
found_says m (Some value) = value_says m.test m.invert_match value
found_says m None = if m.treat_missing_header_as_empty then value_says m.test m.invert_match [] else missing_says m.test m.invert_match

-- the query of a path: what follows its first `?`
abbrev pub query_of : List ℕ → List ℕ
query_of path = after_first (λ byte. byte == 63) path

-- the pieces of a query, which is cut at each `&`
abbrev pub pieces_of : List ℕ → List (List ℕ)
pieces_of query = slice_split (λ byte. byte == 38) query

-- the key of a piece: what stands before its first `=`
abbrev pub key_of : List ℕ → List ℕ
key_of piece = before_first (λ byte. byte == 61) piece

-- the value of a piece: what follows its first `=`
abbrev pub value_of : List ℕ → List ℕ
value_of piece = after_first (λ byte. byte == 61) piece

-- the piece is of this parameter
abbrev pub is_piece_of : List ℕ → List ℕ → Bool
is_piece_of name piece = bytes_eq (key_of piece) name

-- a text that Envoy may decode to another: it has a `%` or a `+`
abbrev pub may_be_decoded : List ℕ → Bool
may_be_decoded text = list_any (λ byte. byte == 37 || byte == 43) text

-- the key of a piece before the first one of this parameter may be decoded
abbrev pub has_unclear_key : List ℕ → List (List ℕ) → Bool
has_unclear_key name pieces =
    list_any (λ piece. may_be_decoded (key_of piece)) (take_while (λ piece. not (is_piece_of name piece)) pieces)

-- nothing says which piece is the parameter's first: its name may be decoded, or such a key
abbrev pub is_piece_unclear : List ℕ → List (List ℕ) → Bool
is_piece_unclear name pieces = may_be_decoded name || has_unclear_key name pieces

-- what a test says of a parameter's value, or of a parameter that is missing
abbrev pub parameter_says : QueryTest → Option (List ℕ) → Taken
parameter_says (by_value matcher) (Some value) =
    if may_be_decoded value then Undecided else yes_if (is_pattern_met matcher.ignore_case value matcher.pattern)
parameter_says (by_value matcher) None = No
parameter_says (is_there there) found = yes_if (bool_same there (is_some found))
parameter_says open_value (Some value) = Undecided
parameter_says open_value None = No

-- what a query parameter's matcher says of the pieces of a query: the first piece of that name is the parameter
abbrev pub pieces_say : QueryParameterMatcher → List (List ℕ) → Taken
pieces_say m pieces =
    if is_piece_unclear m.name pieces then Undecided else parameter_says m.test (option_map value_of (find (is_piece_of m.name) pieces))

-- the value is the content type of a gRPC request
abbrev pub is_grpc : List ℕ → Bool
is_grpc value = bytes_eq value (codes "application/grpc") || begins_with value (codes "application/grpc+")

-- what a condition says of a request
abbrev pub condition_says : Requested → RouteCondition → Taken
condition_says request (Header matcher) = found_says matcher (header_value request matcher.name)
condition_says request (Query matcher) = pieces_say matcher (pieces_of (query_of request.path))
condition_says request Grpc = yes_if (unwrap_or (option_map is_grpc (header_value request (codes "content-type"))) false)
condition_says request open_condition = Undecided

-- a match of paths with its ASCII letters as lower case
abbrev pub lower_match : PathMatch → PathMatch
lower_match (by_prefix text) = by_prefix (str_to_ascii_lowercase text)
lower_match (by_path text) = by_path (str_to_ascii_lowercase text)
lower_match (by_separated text) = by_separated (str_to_ascii_lowercase text)

-- what is asked of the path says of a request
abbrev pub path_says : Requested → PathSpecifier → Taken
path_says request (Cased path) = yes_if (is_path_taken request.path path)
path_says request (Folded path) = yes_if (is_path_taken (str_to_ascii_lowercase request.path) (lower_match path))
path_says request Connect = yes_if (unwrap_or (option_map (bytes_eq (codes "CONNECT")) (header_value request (codes ":method"))) false)
path_says request open_path = Undecided

-- it is a no
abbrev pub is_no : Taken → Bool
is_no No = true
is_no Yes = false
is_no Undecided = false

-- it is undecided
abbrev pub is_undecided : Taken → Bool
is_undecided No = false
is_undecided Yes = false
is_undecided Undecided = true

-- what all of these say together: no where one of them says no, else undecided where one of them is, else yes
abbrev pub taken_by : List Taken → Taken
taken_by said = if list_any is_no said then No else (if list_any is_undecided said then Undecided else Yes)

-- what a route's match says of a request
abbrev pub match_says : Requested → RouteMatch → Taken
match_says request m = taken_by (path_says request m.path ∷ map (condition_says request) m.conditions)

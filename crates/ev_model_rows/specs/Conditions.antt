-- What a route's match says of a request: no where one of its parts says no, else undecided where one of them is.
use Rattle.std.specs.Prelude.{◌≡◌, ℕ, pos, negsuc, Bool, true, false, List, [], ◌∷◌, codes, map}
use Rattle.ev_types.specs.declared.routes.PathMatch.TheVariants.{Prefix as path_prefix, Path as whole_path}
use Rattle.ev_types.specs.declared.matchers.StringPattern.{StringPattern}
use Rattle.ev_types.specs.declared.matchers.StringPattern.TheVariants.{Exact, Prefix, Suffix, Contains}
use Rattle.ev_types.specs.declared.matchers.HeaderTest.{HeaderTest}
use Rattle.ev_types.specs.declared.matchers.HeaderTest.TheVariants.{Text as by_text, Present, Range, Open as open_test}
use Rattle.ev_types.specs.declared.queries.QueryTest.{QueryTest}
use Rattle.ev_types.specs.declared.queries.QueryTest.TheVariants.{Text as by_value, Present as is_there, Open as open_value}
use Rattle.ev_types.specs.declared.matchers.RouteCondition.{RouteCondition}
use Rattle.ev_types.specs.declared.matchers.RouteCondition.TheVariants.{Header, Query, Grpc, Open as open_condition}
use Rattle.ev_types.specs.declared.matchers.PathSpecifier.{PathSpecifier}
use Rattle.ev_types.specs.declared.matchers.PathSpecifier.TheVariants.{Cased, Folded, Connect, Open as open_path}
use Rattle.ev_types.specs.declared.matchers.RouteMatch.{RouteMatch}
use Rattle.ev_model.specs.declared.pictures.Taken.{Taken}
use Rattle.ev_model.specs.declared.pictures.Taken.TheVariants.{No, Yes, Undecided}
use Rattle.ev_model.specs.Conditions.{Requested, condition_says, match_says, value_says, pieces_of, pieces_say}

-- a request of a gRPC method, with a header of its own and one that is empty
abbrev pub request : Requested
request = record {
  host = codes "a.com";
  path = codes "/Shop/Cart?x=1";
  headers =
      (codes ":method", codes "POST")
      ∷ (codes "content-type", codes "application/grpc+proto")
      ∷ (codes "empty", [])
      ∷ (codes "user", codes "Anna")
      ∷ [];
}

-- a condition on a header
abbrev pub on : List ℕ → HeaderTest → Bool → Bool → RouteCondition
on name test invert empty = Header (record {
  name = name;
  test = test;
  invert_match = invert;
  treat_missing_header_as_empty = empty;
})

-- the test of a text, with its case or without
abbrev pub text : Bool → StringPattern → HeaderTest
text ignore pattern = by_text (record { pattern = pattern; ignore_case = ignore })

-- headers that are there: each test, with its case and without, and turned over;
-- the host is `:authority`, the path `:path`
abbrev pub There : Type 0
There = map (condition_says request)
    (on (codes "user") (text false (Exact (codes "Anna"))) false false
    ∷ on (codes "user") (text false (Exact (codes "anna"))) false false
    ∷ on (codes "user") (text true (Exact (codes "aNNA"))) false false
    ∷ on (codes "user") (text false (Prefix (codes "An"))) false false
    ∷ on (codes "user") (text false (Suffix (codes "na"))) true false
    ∷ on (codes "user") (text false (Contains (codes "nn"))) false false
    ∷ on (codes "user") (text false (Contains (codes "nna "))) true false
    ∷ on (codes "user") Present false false
    ∷ on (codes "user") open_test true false
    ∷ on (codes ":authority") (text false (Exact (codes "a.com"))) false false
    ∷ on (codes ":path") (text false (Prefix (codes "/Shop"))) false false
    ∷ Grpc
    ∷ open_condition
    ∷ [])
    ≡ Yes ∷ No ∷ Yes ∷ Yes ∷ No ∷ Yes ∷ Yes ∷ Yes ∷ Undecided ∷ Yes ∷ Yes ∷ Yes ∷ Undecided ∷ []

-- headers that are missing: only that they are there can be asked of them, unless they count as empty
abbrev pub Missing : Type 0
Missing = map (condition_says request)
    (on (codes "role") Present false false
    ∷ on (codes "role") Present true false
    ∷ on (codes "role") (text false (Exact [])) false false
    ∷ on (codes "role") (text false (Exact [])) true false
    ∷ on (codes "role") open_test true false
    ∷ on (codes "role") (text false (Exact [])) false true
    ∷ on (codes "role") Present false true
    ∷ on (codes "empty") Present false false
    ∷ [])
    ≡ No ∷ Yes ∷ No ∷ No ∷ No ∷ Yes ∷ Yes ∷ Yes ∷ []

-- texts by the range of -3 to 10: its ends, leading zeros, what is no decimal text, and a number beyond 64 bits; then
-- turned over
abbrev pub NumberRanges : Type 0
NumberRanges = (map (value_says (Range (negsuc 2) (pos 10)) false)
    (codes "-3" ∷ codes "9" ∷ codes "-0" ∷ codes "0000000000000000007" ∷ codes "-4" ∷ codes "10" ∷ codes "+7" ∷ codes " 7" ∷ codes "7.0" ∷ codes "-" ∷ []
    ∷ codes "00000000000000000007" ∷ codes "-9999999999999999999" ∷ [])
    ≡ Yes ∷ Yes ∷ Yes ∷ Yes ∷ No ∷ No ∷ No ∷ No ∷ No ∷ No ∷ No ∷ No ∷ No ∷ [])
    × (map (value_says (Range (negsuc 2) (pos 10)) true) (codes "7" ∷ codes "x" ∷ []) ≡ No ∷ Yes ∷ [])

-- what a matcher of the parameter `q` says of a query
abbrev pub of_q : QueryTest → List ℕ → Taken
of_q test query = pieces_say (record { name = codes "q"; test = test }) (pieces_of query)

-- the test that a parameter's value is `1`
abbrev pub is_one : QueryTest
is_one = by_value (record { pattern = Exact (codes "1"); ignore_case = false })

-- a parameter is the first piece of its name; one that is missing says no to all but that it is missing
abbrev pub Queries : Type 0
Queries = (map (of_q is_one) (codes "q=1&q=2" ∷ codes "a&q=1" ∷ codes "q=2&q=1" ∷ codes "q" ∷ codes "Q=1" ∷ codes "q=1=" ∷ codes "&a" ∷ [] ∷ [])
    ≡ Yes ∷ Yes ∷ No ∷ No ∷ No ∷ No ∷ No ∷ No ∷ [])
    × (map (of_q (is_there true)) (codes "a&q" ∷ codes "qq" ∷ []) ≡ Yes ∷ No ∷ [])
    × (map (of_q (is_there false)) (codes "a&q" ∷ codes "qq" ∷ []) ≡ No ∷ Yes ∷ [])
    × (map (of_q open_value) (codes "q=1" ∷ codes "a" ∷ []) ≡ Undecided ∷ No ∷ [])

-- what may be decoded is undecided: a key before the parameter, any key where it is missing, the value that a text test
-- looks at, the name
abbrev pub Unclear : Type 0
Unclear = (map (of_q is_one) (codes "%71=2&q=1" ∷ codes "q=1&%71" ∷ codes "a+" ∷ codes "a=%31" ∷ codes "q=%31" ∷ []) ≡ Undecided ∷ Yes ∷ Undecided ∷ No ∷ Undecided ∷ [])
    × (of_q (is_there true) (codes "q=%31") ≡ Yes)
    × (pieces_say (record { name = codes "q+"; test = is_there false }) (pieces_of []) ≡ Undecided)

-- a condition on a query parameter is asked of the path that a request brings, after its first `?`
abbrev pub OfPath : Type 0
OfPath = map (λ test. condition_says request (Query (record { name = codes "x"; test = test }))) (is_one ∷ is_there false ∷ []) ≡ Yes ∷ No ∷ []

-- a match of a path, with conditions
abbrev pub matched : PathSpecifier → List RouteCondition → RouteMatch
matched path conditions = record { path = path; conditions = conditions }

-- a path with its case and without, a CONNECT, and what isn't decided: beside a no it is a no
abbrev pub Paths : Type 0
Paths = map (match_says request)
    (matched (Cased (path_prefix (codes "/Shop"))) []
    ∷ matched (Cased (whole_path (codes "/shop/cart"))) []
    ∷ matched (Folded (whole_path (codes "/shop/CART"))) []
    ∷ matched Connect []
    ∷ matched open_path (Grpc ∷ [])
    ∷ matched open_path (Grpc ∷ on (codes "role") Present false false ∷ [])
    ∷ matched (Cased (path_prefix (codes "/"))) (Grpc ∷ open_condition ∷ [])
    ∷ [])
    ≡ Yes ∷ No ∷ Yes ∷ No ∷ Undecided ∷ No ∷ Undecided ∷ []

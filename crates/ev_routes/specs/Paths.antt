-- The routes of a virtual host by what they match, so that few are tried.
use Rattle.std.specs.Prelude.{◌≡◌, ℕ, ◌==◌, Bool, true, false, All, ◌&&◌, ◌||◌, nat_eq, List, [], ◌∷◌, length, slice_index_or, Option, Some, None}
use Rattle.std.specs.List.{list_all, list_any, position_or_len}
use Rattle.std.specs.Str.{bytes_eq}
use Rattle.ev_types.specs.declared.routes.Action.TheVariants.{Redirect as redirect}
use Rattle.ev_types.specs.declared.routes.PathMatch.{PathMatch}
use Rattle.ev_types.specs.declared.routes.PathMatch.TheVariants.{Prefix, Path, Separated}
use Rattle.ev_types.specs.declared.matchers.PathSpecifier.{PathSpecifier}
use Rattle.ev_types.specs.declared.matchers.PathSpecifier.TheVariants.{Cased, Folded, Connect, Open as open_path}
use Rattle.ev_types.specs.declared.routes.Route.{Route}
use Rattle.ev_types.specs.declared.routes.VirtualHost.{VirtualHost}
use Rattle.ev_model.specs.Paths.{is_path_taken}

-- a route for places beyond a list
abbrev pub no_route : Route
no_route = record { route_match = record { path = Cased (Prefix []); conditions = [] }; action = redirect }

-- what is asked of the path byte by byte; where it is asked otherwise, the empty path
abbrev pub cased_match : PathSpecifier → PathMatch
cased_match (Cased path) = path
cased_match (Folded path) = Path []
cased_match Connect = Path []
cased_match open_path = Path []

-- the path match of a route
abbrev pub path_of : Route → PathMatch
path_of r = cased_match r.route_match.path

-- the path is asked for byte by byte
abbrev pub is_cased : PathSpecifier → Bool
is_cased (Cased path) = true
is_cased (Folded path) = false
is_cased Connect = false
is_cased open_path = false

-- a route asks for its path alone, byte by byte
abbrev pub is_by_path : Route → Bool
is_by_path r = is_cased r.route_match.path && (length r.route_match.conditions == 0)

-- so does each of these
abbrev pub are_by_path : List Route → Bool
are_by_path routes = list_all is_by_path routes

-- the path match of the route at a place of a virtual host
abbrev pub match_at : VirtualHost → ℕ → PathMatch
match_at host place = path_of (slice_index_or host.routes place no_route)

-- the kind of a path match
abbrev pub match_kind : PathMatch → ℕ
match_kind (Prefix front) = 0
match_kind (Path whole) = 1
match_kind (Separated front) = 2

-- the text of a path match
abbrev pub match_text : PathMatch → List ℕ
match_text (Prefix front) = front
match_text (Path whole) = whole
match_text (Separated front) = front

-- the key of a path match: its kind, then its text
abbrev pub match_key : PathMatch → List ℕ
match_key path = match_kind path ∷ match_text path

-- the first place of a route with this key, or the count of the routes
abbrev pub first_with : List ℕ → List Route → ℕ
first_with key routes = position_or_len (λ (r : Route). bytes_eq (match_key (path_of r)) key) routes

-- the first place of a route that takes the path, or the count of the routes
abbrev pub first_taken : List ℕ → List Route → ℕ
first_taken path routes = position_or_len (λ (r : Route). is_path_taken path (path_of r)) routes

-- the match is of the whole path
abbrev pub is_whole : PathMatch → Bool
is_whole (Prefix front) = false
is_whole (Path whole) = true
is_whole (Separated front) = false

-- the match is by a prefix of this length
abbrev pub has_front : ℕ → PathMatch → Bool
has_front n (Prefix front) = length front == n
has_front n (Path whole) = false
has_front n (Separated front) = length front == n

-- the match is of the whole path, or by a prefix of one of these lengths
abbrev pub is_covered : List ℕ → PathMatch → Bool
is_covered lengths path = is_whole path || list_any (λ n. has_front n path) lengths

-- the match is by a prefix of this length before anything, and takes the path
abbrev pub is_prefix_taken : ℕ → List ℕ → PathMatch → Bool
is_prefix_taken n path (Prefix front) = (length front == n) && is_path_taken path (Prefix front)
is_prefix_taken n path (Path whole) = false
is_prefix_taken n path (Separated front) = false

-- the match is by a prefix of this length before a `/`, and takes the path
abbrev pub is_separated_taken : ℕ → List ℕ → PathMatch → Bool
is_separated_taken n path (Prefix front) = false
is_separated_taken n path (Path whole) = false
is_separated_taken n path (Separated front) = (length front == n) && is_path_taken path (Separated front)

-- a prefix of this length of the path is all of it, or a `/` follows
abbrev pub is_part : ℕ → List ℕ → Bool
is_part n path = (n == length path) || nat_eq (slice_index_or path n 0) 47

-- a place that was found, or else the count
abbrev pub place_or : ℕ → Option ℕ → ℕ
place_or count None = count
place_or count (Some place) = place

-- the table finds the first place of each key
abbrev pub FindsFirst : List Route → (List ℕ → Option ℕ) → Type 0
FindsFirst routes places = (key : List ℕ) → place_or (length routes) (places key) ≡ first_with key routes

-- each match is covered by these lengths
abbrev pub AreCovered : List ℕ → List Route → Type 0
AreCovered lengths routes = All (λ (r : Route). is_covered lengths (path_of r) ≡ true) routes

-- each length of the first list is in the second
abbrev pub KeepsLengths : List ℕ → List ℕ → Type 0
KeepsLengths before after = (n : ℕ) → list_any (nat_eq n) before ≡ true → list_any (nat_eq n) after ≡ true

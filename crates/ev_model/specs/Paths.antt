-- When a text begins or ends with another, and which paths a match takes. Source: the Envoy v3 API on route matches.
use Rattle.std.specs.Prelude.{ℕ, ◌-◌, Bool, not, ◌&&◌, ◌||◌, ◌==◌, nat_le, List, ◌++◌, take, drop, length, take_while, codes}
use Rattle.std.specs.Str.{bytes_eq}
use Rattle.ev_types.specs.declared.routes.PathMatch.{PathMatch}
use Rattle.ev_types.specs.declared.routes.PathMatch.TheVariants.{Prefix, Path, Separated}

-- the text begins with the prefix
abbrev pub begins_with : List ℕ → List ℕ → Bool
begins_with text prefix = bytes_eq (take (length prefix) text) prefix

-- the text ends with the back
abbrev pub ends_with : List ℕ → List ℕ → Bool
ends_with text back = nat_le (length back) (length text) && bytes_eq (drop (length text - length back) text) back

-- a path without its query
abbrev pub without_query : List ℕ → List ℕ
without_query path = take_while (λ byte. not (byte == 63)) path

-- the path is taken by the match: by how it begins, by the whole of it, or up to a `/`,
-- the query left aside in the last two
abbrev pub is_path_taken : List ℕ → PathMatch → Bool
is_path_taken path (Prefix prefix) = begins_with path prefix
is_path_taken path (Path whole) = bytes_eq (without_query path) whole
is_path_taken path (Separated prefix) =
    bytes_eq (without_query path) prefix || begins_with (without_query path) (prefix ++ codes "/")

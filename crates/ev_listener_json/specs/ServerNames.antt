-- The server names that a filter chain's match may have.
use Rattle.std.specs.Prelude.{ℕ, ◌==◌, ◌&&◌, Bool, not, nat_lt, List, length, take, drop, if◌then◌else◌, codes}
use Rattle.std.specs.List.{list_any}
use Rattle.std.specs.Str.{bytes_eq}

-- a star is among the bytes of the name
abbrev pub has_star : List ℕ → Bool
has_star name = list_any (λ byte. byte == 42) name

-- what comes after a leading `*.` that something follows, or the whole name where it doesn't begin so
abbrev pub after_star : List ℕ → List ℕ
after_star name = if nat_lt 2 (length name) && bytes_eq (take 2 name) (codes "*.") then drop 2 name else name

-- a name that isn't empty, with no star but that of a leading `*.` that something follows
abbrev pub is_server_name : List ℕ → Bool
is_server_name name = not (length name == 0) && not (has_star (after_star name))

-- one of these is no server name
abbrev pub has_no_name : List (List ℕ) → Bool
has_no_name names = list_any (λ name. not (is_server_name name)) names

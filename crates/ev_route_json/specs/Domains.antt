-- Domains that occur twice.
use Rattle.std.specs.Prelude.{◌≡◌, ℕ, ◌||◌, List, [], ◌∷◌, ◌++◌, map, Bool, false, String, string_bytes}
use Rattle.std.specs.List.{list_any, flat_map}
use Rattle.std.specs.Str.{bytes_eq, str_to_ascii_lowercase}
use Rattle.ev_types.specs.declared.routes.VirtualHost.{VirtualHost}

-- a text occurs in the list twice
abbrev pub has_repeat : List (List ℕ) → Bool
has_repeat [] = false
has_repeat (text ∷ texts) = list_any (bytes_eq text) texts || has_repeat texts

-- a domain occurs twice among all hosts of a table, ASCII letters taken as lower case
abbrev pub repeats_domain : List VirtualHost → Bool
repeats_domain hosts = has_repeat (map str_to_ascii_lowercase (flat_map (λ host. host.domains) hosts))

-- these texts gained the domains, each in lower case
abbrev pub GainsInLowercase : {Z : Type 0} → List (String Z) → List (String Z) → List (List ℕ) → Type 0
GainsInLowercase old new domains = map string_bytes new ≡ map string_bytes old ++ map str_to_ascii_lowercase domains

-- The two spellings of a field's name, as the proto3 JSON mapping has them.
use Rattle.std.specs.Prelude.{ℕ, ◌==◌, List, [], ◌∷◌, map, Bool, false, if◌then◌else◌}
use Rattle.std.specs.List.{flat_map, zip}
use Rattle.std.specs.Char.{to_ascii_uppercase, encode_utf8}

-- the byte is an underscore
abbrev pub is_underscore : ℕ → Bool
is_underscore b = b == 95

-- what a byte gives, after an underscore or not: an underscore nothing, and a letter after one its capital
abbrev pub cased : Bool → ℕ → List ℕ
cased after_underscore b = if is_underscore b then [] else ((if after_underscore then to_ascii_uppercase b else b) ∷ [])

-- the lowerCamelCase spelling of a name: what each byte gives, by whether the one before it is an underscore
unfoldable pub camel_of : List ℕ → List ℕ
camel_of name = flat_map (λ place. cased place.0 place.1) (zip (false ∷ map is_underscore name) name)

-- what a character gives
abbrev pub cased_char : Bool → ℕ → List ℕ
cased_char after_underscore c = if c == 95 then [] else encode_utf8 (if after_underscore then to_ascii_uppercase c else c)

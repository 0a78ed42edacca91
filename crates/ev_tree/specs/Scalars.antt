-- The forms of single values: what a tree gives as a number, a list or a length of time.
use Rattle.std.specs.Prelude.{ℕ, ◌^◌, ◌&&◌, ◌==◌, ℤ, pos, List, [], ◌∷◌, length, Bool, true, false, nat_lt, nat_le, if◌then◌else◌, Option, Some, None, is_some, option_map, option_and_then, position, codes}
use Rattle.std.specs.List.{list_all, before_first, after_first}
use Rattle.std.specs.Str.{bytes_eq}
use Rattle.std.specs.Str.Parse.{digits_value}
use Rattle.serde_json.specs.Data.{unsigned, negative, float, Data, null, boolean, number, string, array, object, Items, no_items, item}
use Rattle.serde_json.specs.Find.{as_array}
pub use Rattle.ev_types.specs.Decimals.{is_numeral}
use Rattle.ev_types.specs.Decimals.{decimal_of}
use Rattle.ev_tree.specs.declared.limits.TheConstants.{MAX_U32_DIGITS, MAX_SECONDS_DIGITS, MAX_FRACTION_DIGITS, MAX_SECONDS}
use Rattle.ev_tree.specs.declared.span.Span.{Span}
use Rattle.ev_tree.specs.declared.span.Span.TheVariants.{Negative, Zero, Positive}
use Rattle.ev_tree.specs.declared.tables.EnumTable.{EnumTable}
use Rattle.ev_tree.specs.declared.tables.EnumTable.TheVariants.{Discovery, Health, Protocol}

-- the number that 1 to 10 digits write, where 32 bits hold it
unfoldable pub u32_text : List ℕ → Option ℕ
u32_text s = if is_numeral MAX_U32_DIGITS s && nat_lt (digits_value 10 s) (2 ^ 32) then Some (digits_value 10 s) else None

-- u32: a whole number, or a string of digits
unfoldable pub u32_in : Data → Option ℕ
u32_in null = None
u32_in (boolean b) = None
u32_in (number (unsigned n)) = if nat_lt n (2 ^ 32) then Some n else None
u32_in (number (negative z)) = None
u32_in (number (float x)) = None
u32_in (string s) = u32_text s
u32_in (array ds) = None
u32_in (object ms) = None

-- i64: a whole number that isn't negative, or a decimal text
unfoldable pub i64_in : Data → Option ℤ
i64_in null = None
i64_in (boolean b) = None
i64_in (number (unsigned n)) = if nat_lt n (2 ^ 63) then Some (pos n) else None
i64_in (number (negative z)) = None
i64_in (number (float x)) = None
i64_in (string s) = decimal_of s
i64_in (array ds) = None
i64_in (object ms) = None

-- the elements of an array
abbrev pub elements_of : Items → List Data
elements_of no_items = []
elements_of (item d ds) = d ∷ elements_of ds

-- a list: an array
unfoldable pub list_in : Data → Option (List Data)
list_in d = option_map elements_of (as_array d)

-- ---- durations

abbrev pub all_zeros : List ℕ → Bool
all_zeros s = list_all (λ c. c == 48) s

-- where a time lies, of which the digits and the sign are known
abbrev pub span_at : Bool → Bool → Span
span_at minus zeros = if zeros then Zero else (if minus then Negative else Positive)

-- 1 to 12 digits of whole seconds, at most 315576000000 (ten thousand years)
abbrev pub is_seconds : List ℕ → Bool
is_seconds whole = is_numeral MAX_SECONDS_DIGITS whole && nat_le (digits_value 10 whole) MAX_SECONDS

-- seconds with no fraction
unfoldable pub whole_span : Bool → List ℕ → Option Span
whole_span minus s = if is_seconds s then Some (span_at minus (all_zeros s)) else None

-- seconds with a fraction of 1 to 9 digits
unfoldable pub fraction_span : Bool → List ℕ → List ℕ → Option Span
fraction_span minus whole fraction =
    if is_seconds whole && is_numeral MAX_FRACTION_DIGITS fraction then Some (span_at minus (all_zeros whole && all_zeros fraction)) else None

-- seconds with no sign, with a point or without
unfoldable pub seconds_span : Bool → List ℕ → Option Span
seconds_span minus s =
    if is_some (position (λ c. c == 46) s) then fraction_span minus (before_first (λ c. c == 46) s) (after_first (λ c. c == 46) s) else whole_span minus s

-- seconds, after a minus or not
unfoldable pub signed_span : List ℕ → Option Span
signed_span [] = seconds_span false []
signed_span (c ∷ cs) = if c == 45 then seconds_span true cs else seconds_span false (c ∷ cs)

-- what comes before a last byte `s`
unfoldable pub before_unit : List ℕ → Option (List ℕ)
before_unit [] = None
before_unit (c ∷ []) = if c == 115 then Some [] else None
before_unit (c ∷ d ∷ cs) = option_map (λ rest. c ∷ rest) (before_unit (d ∷ cs))

-- the text of a duration
unfoldable pub span_of : List ℕ → Option Span
span_of s = option_and_then signed_span (before_unit s)

-- ---- enums

-- the names of an enum's values, of which each place is the number
abbrev pub names_of : EnumTable → List (List ℕ)
names_of Discovery = codes "STATIC" ∷ codes "STRICT_DNS" ∷ codes "LOGICAL_DNS" ∷ codes "EDS" ∷ codes "ORIGINAL_DST" ∷ []
names_of Health = codes "UNKNOWN" ∷ codes "HEALTHY" ∷ codes "UNHEALTHY" ∷ codes "DRAINING" ∷ codes "TIMEOUT" ∷ codes "DEGRADED" ∷ []
names_of Protocol = codes "TCP" ∷ codes "UDP" ∷ []

-- the number of a name
unfoldable pub named_in : EnumTable → List ℕ → Option ℕ
named_in table s = position (λ name. bytes_eq name s) (names_of table)

-- an enum: a listed name, or a listed number
unfoldable pub enum_in : EnumTable → Data → Option ℕ
enum_in table null = None
enum_in table (boolean b) = None
enum_in table (number (unsigned n)) = if nat_lt n (length (names_of table)) then Some n else None
enum_in table (number (negative z)) = None
enum_in table (number (float x)) = None
enum_in table (string s) = named_in table s
enum_in table (array ds) = None
enum_in table (object ms) = None

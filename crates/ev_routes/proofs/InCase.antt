-- Texts as they are compared: as they are, or with their ASCII letters as lower case.
use Rattle.std.proofs.Common.{◌≡◌, ℕ, ◌+◌, ◌-◌, ◌<◌, ◌≤◌, ◌==◌, ◌&&◌, ◌||◌, ◌++◌, not, min, nat_eq, nat_le, Bool, true, false, cond, List, [], ◌∷◌, length, take, drop, slice_index_or, zero, suc, refl, sym, ap, ◌∙◌, arith}
use Rattle.std.specs.Char.{to_ascii_lowercase}
use Rattle.std.specs.List.{prefix_len}
use Rattle.std.specs.Str.{bytes_eq, str_to_ascii_lowercase}
use Rattle.std.proofs.lemmas.Bool.Decides.{nat_tests}
use Rattle.std.proofs.lemmas.Grind.{common_steps}
use Rattle.std.proofs.lemmas.List.{length-map, take-map, drop-map}
use Rattle.ev_model.specs.Conditions.{has_part, in_case}
use Rattle.ev_model.specs.Paths.{begins_with, ends_with, without_query}
use Rattle.ev_routes.proofs.Fronts.{begins_more, begins_short}

pub length_cased : (ignore : Bool) (text : List ℕ) → length (in_case ignore text) ≡ length text
length_cased true text = length-map text to_ascii_lowercase
length_cased false text = refl

take_cased : (ignore : Bool) (n : ℕ) (text : List ℕ) → take n (in_case ignore text) ≡ in_case ignore (take n text)
take_cased true n text = take-map to_ascii_lowercase n text
take_cased false n text = refl

pub drop_cased : (ignore : Bool) (n : ℕ) (text : List ℕ) → drop n (in_case ignore text) ≡ in_case ignore (drop n text)
drop_cased true n text = drop-map to_ascii_lowercase n text
drop_cased false n text = refl

-- no more is taken than there is
take_min : (n : ℕ) (xs : List ℕ) → take (min n (length xs)) xs ≡ take n xs
take_min n xs = grind (arith, common_steps)

-- how a text begins
pub begins_cased : (ignore : Bool) (text front : List ℕ)
    → begins_with (in_case ignore text) (in_case ignore front) ≡ bytes_eq (in_case ignore (take (min (length front) (length text)) text)) (in_case ignore front)
begins_cased ignore text front =
    ap (λ n. bytes_eq (take n (in_case ignore text)) (in_case ignore front)) (length_cased ignore front)
    ∙ ap (λ xs. bytes_eq xs (in_case ignore front)) (take_cased ignore (length front) text ∙ ap (in_case ignore) (sym (take_min (length front) text)))

-- how a text ends
pub ends_cased : (ignore : Bool) (text back : List ℕ) → length back ≤ length text
    → ends_with (in_case ignore text) (in_case ignore back) ≡ bytes_eq (in_case ignore (drop (length text - length back) text)) (in_case ignore back)
ends_cased ignore text back short =
    let le : nat_le (length (in_case ignore back)) (length (in_case ignore text)) ≡ true =
    (λ i. nat_le (length_cased ignore back i) (length_cased ignore text i)) ∙ grind (arith, nat_tests) in
    (λ i. le i && bytes_eq (drop (length_cased ignore text i - length_cased ignore back i) (in_case ignore text)) (in_case ignore back))
    ∙ ap (λ xs. bytes_eq xs (in_case ignore back)) (drop_cased ignore (length text - length back) text)

pub ends_longer : (ignore : Bool) (text back : List ℕ) → length text < length back → ends_with (in_case ignore text) (in_case ignore back) ≡ false
ends_longer ignore text back long =
    let no : nat_le (length (in_case ignore back)) (length (in_case ignore text)) ≡ false =
    (λ i. nat_le (length_cased ignore back i) (length_cased ignore text i)) ∙ grind (arith, nat_tests) in
    λ i. no i && bytes_eq (drop (length (in_case ignore text) - length (in_case ignore back)) (in_case ignore text)) (in_case ignore back)

-- a part begins here, or further on
pub part_first : (n : ℕ) (text part : List ℕ) → n < length text → has_part (drop n text) part ≡ begins_with (drop n text) part || has_part (drop (n + 1) text) part
part_first n [] part less = absurd (omega arith)
part_first zero (byte ∷ rest) part less = refl
part_first (suc n) (byte ∷ rest) part less =
    let more : suc (n + 1) ≡ suc n + 1 = omega arith in
    part_first n rest part (omega arith) ∙ ap (λ k. begins_with (drop n rest) part || has_part (drop k (byte ∷ rest)) part) more

-- `?` and `/` have no other case
lower_query : (byte : ℕ) → (to_ascii_lowercase byte == 63) ≡ (byte == 63)
lower_query byte = grind (arith, nat_tests)

pub lower_slash : (byte : ℕ) → nat_eq (to_ascii_lowercase byte) 47 ≡ nat_eq byte 47
lower_slash byte = grind (arith, nat_tests)

-- the query of a path in lower case begins where it did
query_place : (path : List ℕ) → prefix_len (λ byte. not (byte == 63)) (str_to_ascii_lowercase path) ≡ prefix_len (λ byte. not (byte == 63)) path
query_place [] = refl
query_place (byte ∷ path) = λ i. cond (not (lower_query byte i)) (1 + query_place path i) 0

pub query_lower : (path : List ℕ) → without_query (str_to_ascii_lowercase path) ≡ str_to_ascii_lowercase (without_query path)
query_lower path =
    ap (λ n. take n (str_to_ascii_lowercase path)) (query_place path)
    ∙ take-map to_ascii_lowercase (prefix_len (λ byte. not (byte == 63)) path) path

byte_lower : (text : List ℕ) (n : ℕ) → nat_eq (slice_index_or (str_to_ascii_lowercase text) n 0) 47 ≡ nat_eq (slice_index_or text n 0) 47
byte_lower [] n = refl
byte_lower (byte ∷ text) zero = lower_slash byte
byte_lower (byte ∷ text) (suc n) = byte_lower text n

-- a longer path in lower case goes on with a `/` where it did
pub goes_on_cased : (path front : List ℕ) → length front < length path
    → begins_with (str_to_ascii_lowercase path) (str_to_ascii_lowercase front ++ 47 ∷ [])
    ≡ begins_with (str_to_ascii_lowercase path) (str_to_ascii_lowercase front) && nat_eq (slice_index_or path (length front) 0) 47
goes_on_cased path front less =
    let lengths : length (str_to_ascii_lowercase front) < length (str_to_ascii_lowercase path) =
    omega (arith, length_cased true front, length_cased true path, less) in
    begins_more (str_to_ascii_lowercase path) (str_to_ascii_lowercase front) 47 lengths
    ∙ ap (λ n. begins_with (str_to_ascii_lowercase path) (str_to_ascii_lowercase front) && nat_eq (slice_index_or (str_to_ascii_lowercase path) n 0) 47) (length_cased true front)
    ∙ ap (λ b. begins_with (str_to_ascii_lowercase path) (str_to_ascii_lowercase front) && b) (byte_lower path (length front))

pub goes_on_short : (path front : List ℕ) → length path ≤ length front
    → begins_with (str_to_ascii_lowercase path) (str_to_ascii_lowercase front ++ 47 ∷ []) ≡ false
goes_on_short path front short =
    let lengths : length (str_to_ascii_lowercase path) ≤ length (str_to_ascii_lowercase front) =
    omega (arith, length_cased true front, length_cased true path, short) in
    begins_short (str_to_ascii_lowercase path) (str_to_ascii_lowercase front) 47 lengths

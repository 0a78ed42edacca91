-- The tests of names, and the names of fields in their two spellings.
use Rattle.std.proofs.Common.{◌≡◌, ℕ, ◌+◌, ◌/◌, ◌<◌, ◌≤◌, ◌++◌, ◌==◌, List, [], ◌∷◌, length, map, Bool, true, false, bytes_eq, refl, ap, ◌∙◌, sym, arith, cond, nat_eq, ltb}
use Rattle.std.proofs.lemmas.Slice.Eq.{bytes_eq-Decides}
use Rattle.std.proofs.lemmas.Bool.Decides.{nat_tests}
use Rattle.std.proofs.lemmas.Str.{encode_ascii}
use Rattle.std.proofs.lemmas.List.{append-nil}
use Rattle.std.proofs.lemmas.Str.Ascii.{uppercase_ascii, uppercase_is}
use Rattle.std.specs.Char.{to_ascii_uppercase}
use Rattle.std.specs.List.{flat_map, zip}
use Rattle.ev_tree.specs.Spelling.{is_underscore, cased, camel_of, cased_char}
use lib.Utf8.{encode, next}

-- texts that differ don't compare as equal
pub bytes_eq_apart : (name s : List ℕ) → (s ≡ name → ⊥) → bytes_eq name s ≡ false
bytes_eq_apart name s other = by_test (bytes_eq name s) refl
  where
    by_test : (b : Bool) → bytes_eq name s ≡ b → bytes_eq name s ≡ false
    by_test true e = absurd (other (sym ((bytes_eq-Decides name s).0 e)))
    by_test false e = e

-- the spelling of the rest of a name, of which the byte before was an underscore or not
abbrev pub camel_from : Bool → List ℕ → List ℕ
camel_from after [] = []
camel_from after (b ∷ bs) = cased after b ++ camel_from (b == 95) bs

camel_from-zip : (after : Bool) (bs : List ℕ) → camel_from after bs ≡ flat_map (λ (place : Bool × ℕ). cased place.0 place.1) (zip (after ∷ map is_underscore bs) bs)
camel_from-zip after [] = refl
camel_from-zip after (b ∷ bs) = ap (λ xs. cased after b ++ xs) (camel_from-zip (b == 95) bs)

pub whole_spelling : (name : List ℕ) → camel_from false name ≡ camel_of name
unfolding camel_of
whole_spelling name = camel_from-zip false name

-- a byte past ASCII represents itself
high_byte : (after : Bool) (b : ℕ) (rest : List ℕ) → 128 ≤ b → camel_from after (b ∷ rest) ≡ b ∷ camel_from false rest
high_byte true b rest h = grind (arith, nat_tests)
high_byte false b rest h = grind (arith, nat_tests)

two : (after : Bool) (a b : ℕ) (rest : List ℕ) → 128 ≤ a → 128 ≤ b → camel_from after (a ∷ b ∷ rest) ≡ a ∷ b ∷ camel_from false rest
two after a b rest ha hb = high_byte after a (b ∷ rest) ha ∙ ap (λ xs. a ∷ xs) (high_byte false b rest hb)

three : (after : Bool) (a b d : ℕ) (rest : List ℕ) → 128 ≤ a → 128 ≤ b → 128 ≤ d → camel_from after (a ∷ b ∷ d ∷ rest) ≡ a ∷ b ∷ d ∷ camel_from false rest
three after a b d rest ha hb hd = high_byte after a (b ∷ d ∷ rest) ha ∙ ap (λ xs. a ∷ xs) (two false b d rest hb hd)

four : (after : Bool) (a b d e : ℕ) (rest : List ℕ) → 128 ≤ a → 128 ≤ b → 128 ≤ d → 128 ≤ e → camel_from after (a ∷ b ∷ d ∷ e ∷ rest) ≡ a ∷ b ∷ d ∷ e ∷ camel_from false rest
four after a b d e rest ha hb hd he = high_byte after a (b ∷ d ∷ e ∷ rest) ha ∙ ap (λ xs. a ∷ xs) (three false b d e rest hb hd he)

-- a character past ASCII represents itself
high_char : (after : Bool) (c : ℕ) (rest : List ℕ) → 128 ≤ c → camel_from after (encode c ++ rest) ≡ encode c ++ camel_from false rest
unfolding encode
high_char after c rest h =
    let past : ltb c 128 ≡ false = grind (arith, nat_tests) in
    rw past (by_size (ltb c 2048) (ltb c 65536))
  where
    by_size : (x y : Bool) → camel_from after (cond x ((192 + c / 64) ∷ next c ∷ []) (cond y ((224 + c / 4096) ∷ next (c / 64) ∷ next c ∷ []) ((240 + c / 262144) ∷ next (c / 4096) ∷ next (c / 64) ∷ next c ∷ [])) ++ rest) ≡ cond x ((192 + c / 64) ∷ next c ∷ []) (cond y ((224 + c / 4096) ∷ next (c / 64) ∷ next c ∷ []) ((240 + c / 262144) ∷ next (c / 4096) ∷ next (c / 64) ∷ next c ∷ [])) ++ camel_from false rest
    by_size true y = two after _ _ rest (omega arith) (omega arith)
    by_size false true = three after _ _ _ rest (omega arith) (omega arith) (omega arith)
    by_size false false = four after _ _ _ _ rest (omega arith) (omega arith) (omega arith) (omega arith)

cased_ascii : (after : Bool) (c : ℕ) → c < 128 → cased_char after c ≡ cased after c
cased_ascii true c h = ap (λ xs. cond (nat_eq c 95) [] xs) (encode_ascii (to_ascii_uppercase c) (uppercase_ascii c h))
cased_ascii false c h = ap (λ xs. cond (nat_eq c 95) [] xs) (encode_ascii c h)

cased_high : (after : Bool) (c : ℕ) → 128 ≤ c → cased_char after c ≡ encode c
cased_high true c h =
    let other : nat_eq c 95 ≡ false = grind (arith, nat_tests) in
    rw other (ap encode ((uppercase_is c).2 (omega arith)))
cased_high false c h = let other : nat_eq c 95 ≡ false = grind (arith, nat_tests) in rw other

-- the bytes of a character, and then the rest
pub camel_from-encode : (after : Bool) (c : ℕ) (rest : List ℕ) → camel_from after (encode c ++ rest) ≡ cased_char after c ++ camel_from (nat_eq c 95) rest
camel_from-encode after c rest = by_size (ltb c 128) refl
  where
    by_size : (b : Bool) → ltb c 128 ≡ b → camel_from after (encode c ++ rest) ≡ cased_char after c ++ camel_from (nat_eq c 95) rest
    by_size true e =
        let low : c < 128 = grind (arith, nat_tests) in
        ap (λ xs. camel_from after (xs ++ rest)) (encode_ascii c low) ∙ ap (λ xs. xs ++ camel_from (nat_eq c 95) rest) (sym (cased_ascii after c low))
    by_size false e =
        let high : 128 ≤ c = grind (arith, nat_tests) in
        let other : nat_eq c 95 ≡ false = grind (arith, nat_tests) in
        high_char after c rest high ∙ ap (λ xs. xs ++ camel_from false rest) (sym (cased_high after c high)) ∙ ap (λ b. cased_char after c ++ camel_from b rest) (sym other)

-- the whole name is spelled
pub all_spelled : (spelled rest name : List ℕ) (after : Bool) → length rest ≡ 0 → spelled ++ camel_from after rest ≡ camel_from false name → spelled ≡ camel_of name
all_spelled spelled [] name after none so = sym (append-nil spelled) ∙ so ∙ whole_spelling name
all_spelled spelled (b ∷ rest) name after none so = absurd (omega (arith, none))

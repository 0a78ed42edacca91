-- Texts that end with a star.
use Rattle.std.proofs.Common.{◌≡◌, ℕ, ◌+◌, ◌-◌, ◌≤◌, ◌++◌, ◌&&◌, Bool, true, false, List, [], ◌∷◌, length, take, nat_eq, zero, suc, refl, sym, ap, ◌∙◌, slice_index_or, arith}
use Rattle.std.specs.Str.{bytes_eq}
use Rattle.std.proofs.lemmas.Bool.Decides.{nat_tests}
use Rattle.std.proofs.lemmas.Grind.{common_steps}

-- texts with one more byte at the end are the same where they were
pub same_before : (xs ys : List ℕ) (byte : ℕ) → bytes_eq (xs ++ byte ∷ []) (ys ++ byte ∷ []) ≡ bytes_eq xs ys
same_before [] [] byte = grind (arith, common_steps, nat_tests)
same_before [] (y ∷ []) byte = grind (arith, common_steps, nat_tests)
same_before [] (y ∷ z ∷ ys) byte = grind (arith, common_steps, nat_tests)
same_before (x ∷ []) [] byte = grind (arith, common_steps, nat_tests)
same_before (x ∷ z ∷ xs) [] byte = grind (arith, common_steps, nat_tests)
same_before (x ∷ xs) (y ∷ ys) byte = grind (arith, common_steps, same_before xs ys byte)

never_empty : (xs : List ℕ) (byte : ℕ) → bytes_eq (xs ++ byte ∷ []) [] ≡ false
never_empty [] byte = refl
never_empty (x ∷ xs) byte = refl

and_false : (a : Bool) → a && false ≡ false
and_false true = refl
and_false false = refl

and_swap : (a p q : Bool) → a && (p && q) ≡ p && (a && q)
and_swap true p q = refl
and_swap false true q = refl
and_swap false false q = refl

ended : (n : ℕ) (front text : List ℕ) (byte : ℕ) → length text ≡ n + 1
    → bytes_eq (front ++ byte ∷ []) text ≡ nat_eq (slice_index_or text n 0) byte && bytes_eq front (take n text)
ended n front [] byte many = absurd (omega (arith, many))
ended zero [] (x ∷ []) byte many = grind (arith, common_steps, nat_tests)
ended zero (f ∷ front) (x ∷ []) byte many =
    ap (λ b. nat_eq f x && b) (never_empty front byte) ∙ and_false (nat_eq f x) ∙ sym (and_false (nat_eq x byte))
ended zero front (x ∷ y ∷ text) byte many = absurd (omega (arith, many))
ended (suc n) [] (x ∷ []) byte many = absurd (omega (arith, many))
ended (suc n) [] (x ∷ y ∷ text) byte many = and_false (nat_eq byte x) ∙ sym (and_false (nat_eq (slice_index_or (y ∷ text) n 0) byte))
ended (suc n) (f ∷ front) (x ∷ text) byte many =
    ap (λ b. nat_eq f x && b) (ended n front text byte (omega (arith, many)))
    ∙ and_swap (nat_eq f x) (nat_eq (slice_index_or text n 0) byte) (bytes_eq front (take n text))

-- a text is another with one more byte at the end
pub same_ended : (front text : List ℕ) (byte : ℕ) → 1 ≤ length text
    → bytes_eq (front ++ byte ∷ []) text ≡ nat_eq (slice_index_or text (length text - 1) 0) byte && bytes_eq front (take (length text - 1) text)
same_ended front text byte some = ended (length text - 1) front text byte (omega arith)

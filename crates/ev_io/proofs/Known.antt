-- What a step of a read or a write does to bytes that are known.
use Rattle.std.proofs.Common.{◌≡◌, ℕ, ◌+◌, ◌-◌, ◌<◌, ◌≤◌, min, List, [], ◌++◌, length, take, drop, length-drop, Option, None, Some, refl, sym, ap, ◌∙◌, append_assoc, arith}
use Rattle.std.proofs.lemmas.List.{take-append-le, take-append-drop, take_rest, drop-drop, drop_all}
use Rattle.std.proofs.Math.Seq.{take-add}
use Rattle.std.specs.Io.KnownBytes.{append_known, prepend_known}
use Rattle.ev_io.specs.Outside.{Takes}

-- to append twice is to append both
pub append_known-append : (known : Option (List ℕ)) (xs ys : List ℕ) → append_known (append_known known xs) ys ≡ append_known known (xs ++ ys)
append_known-append None xs ys = refl
append_known-append (Some zs) xs ys = ap Some (append_assoc zs xs ys)

-- after the first i bytes, n more of the rest
pub appended_more : (before now after : Option (List ℕ)) (bytes : List ℕ) (i n : ℕ) → now ≡ append_known before (take i bytes) → after ≡ append_known now (take n (take (length bytes - i) (drop i bytes))) → after ≡ append_known before (take (i + n) bytes)
appended_more before now after bytes i n e f =
    f
    ∙ ap (λ o. append_known o (take n (take (length bytes - i) (drop i bytes)))) e
    ∙ ap (λ xs. append_known (append_known before (take i bytes)) (take n xs)) (take_rest bytes i)
    ∙ append_known-append before (take i bytes) (take n (drop i bytes))
    ∙ ap (λ xs. append_known before xs) (sym (take-add i n bytes))

-- the rest from a place on is what a read of n bytes put into a buffer, and then the rest after it
pub given_more : (items buf : List ℕ) (given n : ℕ) → take n buf ≡ take n (take (length items - given) (drop given items)) → drop given items ≡ take n buf ++ drop (given + n) items
given_more items buf given n e =
    sym (take-append-drop n (drop given items))
    ∙ ap (λ xs. take n xs ++ drop n (drop given items)) (sym (take_rest items given))
    ∙ ap (λ xs. xs ++ drop n (drop given items)) (sym e)
    ∙ ap (λ xs. take n buf ++ xs) (drop-drop n given items)

-- a read of nothing, where it could have been of something, leaves nothing
pub nothing_left : (items : List ℕ) (given n room most : ℕ) → n ≡ min (length (take (length items - given) (drop given items))) (min room most) → n ≡ 0 → 0 < most → 0 < room → drop (given + n) items ≡ []
nothing_left items given n room most e none some space =
    let shown : n ≡ min (length items - given) (min room most) = e ∙ ap (λ xs. min (length xs) (min room most)) (take_rest items given) ∙ ap (λ k. min k (min room most)) (length-drop given items) in
    drop_all (given + n) items (omega arith)

-- what was taken into the front of a longer buffer
pub takes_front : (before after : Option (List ℕ)) (front rest : List ℕ) (n : ℕ) → Takes before after (take n front) → n ≤ length front → Takes before after (take n (front ++ rest))
takes_front before after front rest n e within =
    e ∙ ap (λ (xs : List ℕ). prepend_known xs after) (sym (take-append-le n front rest within))

-- to put before twice is to put before both
pub prepend_known-append : (xs ys : List ℕ) (known : Option (List ℕ)) → prepend_known xs (prepend_known ys known) ≡ prepend_known (xs ++ ys) known
prepend_known-append xs ys None = refl
prepend_known-append xs ys (Some zs) = ap Some (sym (append_assoc xs ys zs))

-- what was taken first, and what was taken then
pub takes_both : (before now after : Option (List ℕ)) (xs ys : List ℕ) → Takes before now xs → Takes now after ys → Takes before after (xs ++ ys)
takes_both before now after xs ys e f = e ∙ ap (prepend_known xs) f ∙ prepend_known-append xs ys after

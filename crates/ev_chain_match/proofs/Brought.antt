-- What a connection brings, one value after the other:
-- ranges with its address, the longest first, and the endings of its server name after a star.
use Rattle.std.proofs.Common.{◌≡◌, ℕ, ◌+◌, ◌<◌, ◌==◌, ◌++◌, ◌||◌, nat_lt, Bool, true, false, cond, List, [], ◌∷◌, length, map, drop, reverse, find, codes, Some, None, zero, suc, refl, ap, ◌∙◌, arith, add-one}
use Rattle.std.specs.List.{list_any, range_with_len}
use Rattle.std.specs.Option.{option_or}
use Rattle.std.proofs.lemmas.Bool.Decides.{nat_tests}
use Rattle.std.proofs.lemmas.Grind.{common_steps}
use Rattle.std.proofs.lemmas.List.{reverse-append}
use Rattle.ev_types.specs.FilterChains.{has_value}
use Rattle.ev_types.specs.Ips.{cidr_range_same, range_about}
use Rattle.ev_types.specs.declared.filter_chains.FilterChainMatch.{FilterChainMatch}
use Rattle.ev_types.specs.declared.ips.CidrRange.{CidrRange}
use Rattle.ev_types.specs.declared.ips.Ip.{Ip}
use Rattle.ev_model.specs.Narrowing.{is_asked, wildcards}
use Rattle.ev_model.specs.declared.pictures.ServedChain.{ServedChain}
use Rattle.ev_chain_match.specs.RangeCriteria.{ranges_by}
use Rattle.ev_chain_match.specs.declared.criterion.RangeCriterion.{RangeCriterion}
use Rattle.ev_chain_match.specs.Wanted.{asks_range, wildcard_of}

-- one number more, at the end
numbers_more : (a n : ℕ) → range_with_len a (suc n) ≡ range_with_len a n ++ (a + n) ∷ []
numbers_more a zero = grind (arith, common_steps)
numbers_more a (suc n) = ap (λ ns. a ∷ ns) (numbers_more (a + 1) n) ∙ ap (λ k. a ∷ (range_with_len (a + 1) n ++ k ∷ [])) (omega arith)

-- the ranges with an address that are shorter than this, the longest first
abbrev pub ranges_below : Ip → ℕ → List CidrRange
ranges_below ip n = map (range_about ip) (reverse (range_with_len 0 n))

ranges_more : (ip : Ip) (n : ℕ) → ranges_below ip (suc n) ≡ range_about ip n ∷ ranges_below ip n
ranges_more ip n =
    ap (λ ns. map (range_about ip) (reverse ns)) (numbers_more 0 n)
    ∙ ap (map (range_about ip)) (reverse-append (range_with_len 0 n) ((0 + n) ∷ []))
    ∙ ap (λ k. range_about ip k ∷ ranges_below ip n) (omega arith)

-- the first of two lists
first_then : {X : Type 0} (p : X → Bool) (x : X) (xs : List X) → find p (x ∷ xs) ≡ option_or (find p (x ∷ [])) (find p xs)
first_then p x xs = by (p x)
  where
    by : (b : Bool) → cond b (Some x) (find p xs) ≡ option_or (cond b (Some x) None) (find p xs)
    by true = refl
    by false = refl

-- the longest range is the one of the greatest length, or else a shorter one
pub range_first : (p : CidrRange → Bool) (ip : Ip) (n : ℕ)
    → find p (ranges_below ip (n + 1)) ≡ option_or (find p (range_about ip n ∷ [])) (find p (ranges_below ip n))
range_first p ip n =
    ap (λ k. find p (ranges_below ip k)) (add-one n) ∙ ap (find p) (ranges_more ip n) ∙ first_then p (range_about ip n) (ranges_below ip n)

-- the endings of a name: all of it after a star, where it begins with a dot, or else a shorter one
wildcard_first : (p : List ℕ → Bool) (byte : ℕ) (rest : List ℕ)
    → find p (wildcards (byte ∷ rest)) ≡ option_or (find p (wildcard_of (byte ∷ rest))) (find p (wildcards rest))
wildcard_first p byte rest = by (byte == 46)
  where
    by : (b : Bool) → find p (cond b ((codes "*" ++ byte ∷ rest) ∷ wildcards rest) (wildcards rest))
        ≡ option_or (find p (cond b ((codes "*" ++ byte ∷ rest) ∷ []) [])) (find p (wildcards rest))
    by true = first_then p (codes "*" ++ byte ∷ rest) (wildcards rest)
    by false = refl

pub ending_first : (p : List ℕ → Bool) (n : ℕ) (name : List ℕ) → n < length name
    → find p (wildcards (drop n name)) ≡ option_or (find p (wildcard_of (drop n name))) (find p (wildcards (drop (n + 1) name)))
ending_first p n [] less = absurd (omega arith)
ending_first p zero (byte ∷ rest) less = wildcard_first p byte rest
ending_first p (suc n) (byte ∷ rest) less =
    let more : suc (n + 1) ≡ suc n + 1 = omega arith in
    ending_first p n rest (omega arith)
    ∙ ap (λ k. option_or (find p (wildcard_of (drop n rest))) (find p (wildcards (drop k (byte ∷ rest))))) more

-- where no chain asks for a range, none is found
neither : (a b : Bool) → a || b ≡ false → (a ≡ false) × (b ≡ false)
neither true b h = absurd (cc)
neither false b h = (refl, h)

range_unasked : (by : RangeCriterion) (m : FilterChainMatch) (range : CidrRange) → asks_range by m ≡ false
    → has_value cidr_range_same (ranges_by by m) range ≡ false
range_unasked by m range none = among (ranges_by by m) none
  where
    among : (ranges : List CidrRange) → nat_lt 0 (length ranges) ≡ false → has_value cidr_range_same ranges range ≡ false
    among [] is = refl
    among (r ∷ rs) is = grind (arith, common_steps, nat_tests)

no_range : (by : RangeCriterion) (chains : List ServedChain) (range : CidrRange) → list_any (λ (c : ServedChain). asks_range by c.criteria) chains ≡ false
    → is_asked cidr_range_same (ranges_by by) chains range ≡ false
no_range by [] range none = refl
no_range by (c ∷ chains) range none =
    let parts = neither (asks_range by c.criteria) (list_any (λ (c : ServedChain). asks_range by c.criteria) chains) none in
    λ i. range_unasked by c.criteria range parts.0 i || no_range by chains range parts.1 i

pub never_found : {X : Type 0} (p : X → Bool) (xs : List X) → ((x : X) → p x ≡ false) → find p xs ≡ None
never_found p [] never = refl
never_found p (x ∷ xs) never = λ i. cond (never x i) (Some x) (never_found p xs never i)

pub no_range_found : (by : RangeCriterion) (chains : List ServedChain) (ranges : List CidrRange)
    → list_any (λ (c : ServedChain). asks_range by c.criteria) chains ≡ false
    → find (is_asked cidr_range_same (ranges_by by) chains) ranges ≡ None
no_range_found by chains ranges none = never_found (is_asked cidr_range_same (ranges_by by) chains) ranges (λ range. no_range by chains range none)

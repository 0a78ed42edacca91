-- When two lists have a value in common, or both have none.
use Rattle.std.proofs.Common.{◌≡◌, ℕ, ◌+◌, ◌<◌, List, [], ◌∷◌, ◌++◌, length, get_or, take, drop, map, nat_eq, Bool, true, false, ◌||◌, ◌&&◌, refl, ap, sym, ◌∙◌, arith, take-append-drop}
use Rattle.std.specs.List.{list_any}
use Rattle.std.proofs.lemmas.Bool.Decides.{nat_tests}
use Rattle.std.proofs.lemmas.Bool.{false≢true, or_right}
use Rattle.std.proofs.lemmas.List.{take_more}
use Rattle.std.proofs.lemmas.List.Folds.{list_any-append}
use Rattle.ev_types.specs.FilterChains.{has_value, overlap, collide, has_collision}
use Rattle.ev_types.specs.declared.filter_chains.FilterChainMatch.{FilterChainMatch}
use Rattle.ev_types.specs.declared.listeners.FilterChain.{FilterChain}
use Rattle.ev_listener_json.specs.ChainPlaces.{any_collides}

not_empty : {A : Type 0} (x : A) (xs : List A) → nat_eq (length (x ∷ xs)) 0 ≡ false
not_empty x xs = grind (arith, nat_tests)

pub overlap_by : {A : Type 0} (same : A → A → Bool) (a b : List A) → ((nat_eq (length a) 0 && nat_eq (length b) 0) || list_any (has_value same a) b) ≡ overlap same a b
overlap_by same [] [] = refl
overlap_by same [] (y ∷ b) = ap (λ t. t || list_any (has_value same []) (y ∷ b)) (not_empty y b)
overlap_by {A} same (x ∷ a) [] = ap (λ t. (t && nat_eq (length {A = A} []) 0) || list_any (has_value same (x ∷ a)) []) (not_empty x a)
overlap_by same (x ∷ a) (y ∷ b) = ap (λ t. (t && nat_eq (length (y ∷ b)) 0) || list_any (has_value same (x ∷ a)) (y ∷ b)) (not_empty x a)

-- ---- collisions, over chains instead of their criteria

abbrev pub chains_collide : List FilterChain → Bool
chains_collide [] = false
chains_collide (chain ∷ chains) = list_any (λ (other : FilterChain). collide chain.criteria other.criteria) chains || chains_collide chains

pub any_map : {A B : Type 0} (p : B → Bool) (f : A → B) (xs : List A) → list_any p (map f xs) ≡ list_any (λ x. p (f x)) xs
any_map p f [] = refl
any_map p f (x ∷ xs) = ap (λ b. p (f x) || b) (any_map p f xs)

pub has_collision_chains : (chains : List FilterChain) → has_collision (map (λ (c : FilterChain). c.criteria) chains) ≡ chains_collide chains
has_collision_chains [] = refl
has_collision_chains (chain ∷ chains) =
    ap (λ b. b || has_collision (map (λ (c : FilterChain). c.criteria) chains)) (any_map (collide chain.criteria) (λ (c : FilterChain). c.criteria) chains)
    ∙ ap (λ b. list_any (λ (other : FilterChain). collide chain.criteria other.criteria) chains || b) (has_collision_chains chains)

swapped : (a b c d : Bool) → ((a || (b || false)) || (c || d)) ≡ ((a || c) || (b || d))
swapped true b c d = refl
swapped false true true d = refl
swapped false true false d = refl
swapped false false c d = refl

-- one chain more
collide_more : (chains : List FilterChain) (chain : FilterChain) → chains_collide (chains ++ chain ∷ []) ≡ (chains_collide chains || any_collides chains chain.criteria)
collide_more [] chain = refl
collide_more (first ∷ chains) chain =
    let with_first = λ (other : FilterChain). collide first.criteria other.criteria in
    (λ i. list_any-append with_first chains (chain ∷ []) i || collide_more chains chain i)
    ∙ swapped (list_any with_first chains) (collide first.criteria chain.criteria) (chains_collide chains) (any_collides chains chain.criteria)

-- the first of them, where they collide, and others
front_collides : (chains others : List FilterChain) → chains_collide chains ≡ true → chains_collide (chains ++ others) ≡ true
front_collides [] others h = absurd (false≢true h)
front_collides (first ∷ chains) others h = by (list_any with_first chains) refl h (front_collides chains others)
  where
    with_first : FilterChain → Bool
    with_first other = collide first.criteria other.criteria

    by : (t : Bool) → list_any with_first chains ≡ t → (t || chains_collide chains) ≡ true → (chains_collide chains ≡ true → chains_collide (chains ++ others) ≡ true)
        → (list_any with_first (chains ++ others) || chains_collide (chains ++ others)) ≡ true
    by true here h rest = ap (λ b. b || chains_collide (chains ++ others)) (list_any-append with_first chains others ∙ ap (λ b. b || list_any with_first others) here)
    by false here h rest = ap (λ b. list_any with_first (chains ++ others) || b) (rest h) ∙ or_right (list_any with_first (chains ++ others)) true refl

-- in order, each with those before it
module _ (chains : List FilterChain) (place : ℕ) (chain : FilterChain) (one : FilterChainMatch) (lt : place < length chains) (is : chain ≡ get_or chains place chain)
    (own : one ≡ chain.criteria) where
  pub one_more : chains_collide (take (place + 1) chains) ≡ (chains_collide (take place chains) || any_collides (take place chains) one)
  one_more =
      ap chains_collide (take_more chains place chain lt ∙ ap (λ (c : FilterChain). take place chains ++ c ∷ []) (sym is))
      ∙ collide_more (take place chains) chain ∙ ap (λ (m : FilterChainMatch). chains_collide (take place chains) || any_collides (take place chains) m) (sym own)

  pub collides_with_earlier : any_collides (take place chains) one ≡ true → chains_collide chains ≡ true
  collides_with_earlier found =
      ap chains_collide (sym (take-append-drop (place + 1) chains))
      ∙ front_collides (take (place + 1) chains) (drop (place + 1) chains) (one_more ∙ ap (λ b. chains_collide (take place chains) || b) found ∙ or_right (chains_collide (take place chains)) true refl)

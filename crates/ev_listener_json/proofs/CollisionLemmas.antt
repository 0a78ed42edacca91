-- Chains that collide are found under the keys of any one criterion.
use Rattle.std.proofs.Common.{◌≡◌, ℕ, ◌<◌, zero, suc, Bool, true, false, cond, ◌||◌, List, [], ◌∷◌, map, take, slice_get, nat_eq, nat_le, Decides, Option, None, Some, refl, sym, ap, ◌∙◌, arith}
use Rattle.std.specs.List.{list_any}
use Rattle.std.specs.Str.{bytes_eq}
use Rattle.std.specs.Cmp.{first_so, second_so}
use Rattle.std.proofs.lemmas.Bool.{false≢true, or_left, or_right}
use Rattle.std.proofs.lemmas.List.Folds.{Any-from_list_any, list_any-from_Any}
use Rattle.std.proofs.lemmas.Option.{slice_get_within, slice_get-get_or, get_or_from_slice_get}
use Rattle.ev_types.specs.Same.{bytes_decide, numbers_decide}
use Rattle.ev_types.specs.Ips.{cidr_range_same, cidr_range_decides}
use Rattle.ev_types.specs.FilterChains.{nat_same, has_value, overlap, collide, collide_for_destination, collide_for_source, ports}
use Rattle.ev_types.specs.declared.filter_chains.FilterChainMatch.{FilterChainMatch}
use Rattle.ev_types.specs.declared.listeners.FilterChain.{FilterChain}
use Rattle.ev_listener_json.specs.declared.chain_keys.Criterion.{Criterion}
use Rattle.ev_listener_json.specs.declared.chain_keys.Criterion.TheVariants.{Port, Range, Name, Protocol, DirectSource, SourceRange, SourcePort}
use Rattle.ev_listener_json.specs.ChainKeys.{bare_key, port_key, range_key, text_key, or_bare, keys_by}
use Rattle.ev_listener_json.specs.ChainPlaces.{PlacesKept, places_under, has_key, HasFirst, HasAll, collides_given, collides_there, any_under, any_collides, count_under, fewer_keys, fewest_keys}

-- ---- tests of lists

both_true : (a b : Bool) → (a ≡ true → b ≡ true) → (b ≡ true → a ≡ true) → a ≡ b
both_true true b to from = sym (to refl)
both_true false true to from = from refl
both_true false false to from = refl

any_so : {X : Type 0} (p q : X → Bool) → ((x : X) → p x ≡ true → q x ≡ true) → (xs : List X) → list_any p xs ≡ true → list_any q xs ≡ true
any_so p q so [] h = h
any_so p q so (x ∷ xs) h = by (p x) (so x) h (any_so p q so xs)
  where
    by : (t : Bool) → (t ≡ true → q x ≡ true) → (t || list_any p xs) ≡ true → (list_any p xs ≡ true → list_any q xs ≡ true) → (q x || list_any q xs) ≡ true
    by true here h rest = or_left (q x) (list_any q xs) (here refl)
    by false here h rest = or_right (q x) (list_any q xs) (rest h)

-- a test of an element that is among these
any_of : {X : Type 0} (same : X → X → Bool) (decide : (x y : X) → Decides (same x y) (x ≡ y)) (q : X → Bool) (x : X) (xs : List X)
    → list_any (same x) xs ≡ true → q x ≡ true → list_any q xs ≡ true
any_of same decide q x xs among passes = any_so (same x) q (λ y is. ap q (sym ((decide x y).0 is)) ∙ passes) xs among

none_of_none : {X : Type 0} (same : X → X → Bool) (xs : List X) → list_any (has_value same []) xs ≡ true → false ≡ true
none_of_none same [] h = h
none_of_none same (x ∷ xs) h = none_of_none same xs h

-- ---- keys in common

-- a key that is among both
abbrev pub Shares : List (List ℕ) → List (List ℕ) → Type 0
Shares one other = (key : List ℕ) × (has_key one key ≡ true) × (has_key other key ≡ true)

module _ {X : Type 0} (same : X → X → Bool) (decide : (x y : X) → Decides (same x y) (x ≡ y)) (key : X → List ℕ) (mark : ℕ) where
  has_mapped : (x : X) (xs : List X) → list_any (same x) xs ≡ true → has_key (map key xs) (key x) ≡ true
  has_mapped x [] h = h
  has_mapped x (y ∷ xs) h = by (same x y) ((decide x y).0) h (has_mapped x xs)
    where
      by : (t : Bool) → (t ≡ true → x ≡ y) → (t || list_any (same x) xs) ≡ true
          → (list_any (same x) xs ≡ true → has_key (map key xs) (key x) ≡ true) → (bytes_eq (key x) (key y) || has_key (map key xs) (key x)) ≡ true
      by true is h rest = or_left (bytes_eq (key x) (key y)) (has_key (map key xs) (key x)) ((bytes_decide (key x) (key y)).1 (ap key (is refl)))
      by false is h rest = or_right (bytes_eq (key x) (key y)) (has_key (map key xs) (key x)) (rest h)

  has_bare : has_key (bare_key mark ∷ []) (bare_key mark) ≡ true
  has_bare = or_left (bytes_eq (bare_key mark) (bare_key mark)) false ((bytes_decide (bare_key mark) (bare_key mark)).1 refl)

  -- lists that overlap have a key in common
  overlap_shares : (xs ys : List X) → overlap same xs ys ≡ true → Shares (or_bare mark (map key xs)) (or_bare mark (map key ys))
  overlap_shares [] [] h = (bare_key mark, has_bare, has_bare)
  overlap_shares [] (y ∷ ys) h = absurd (false≢true (none_of_none same (y ∷ ys) h))
  overlap_shares (x ∷ xs) [] h = absurd (false≢true h)
  overlap_shares (x ∷ xs) (y ∷ ys) h =
      let (k, v, within, at, has) = Any-from_list_any (has_value same (x ∷ xs)) (y ∷ ys) h in
      (key v, has_mapped v (x ∷ xs) has, has_mapped v (y ∷ ys) (list_any-from_Any (same v) (y ∷ ys) (k, v, within, at, (decide v v).1 refl)))

-- chains that collide have a key in common by each criterion
pub collide_shares : (c : Criterion) (a b : FilterChainMatch) → collide a b ≡ true → Shares (keys_by c a) (keys_by c b)
collide_shares Port a b h =
    overlap_shares nat_same numbers_decide (port_key 1) 0 (ports a) (ports b)
    (first_so _ _ (first_so _ _ (first_so _ _ (first_so _ _ (first_so _ _ h)))))
collide_shares Range a b h =
    overlap_shares cidr_range_same cidr_range_decides (range_key 3) 2 a.prefix_ranges b.prefix_ranges
    (second_so _ _ (first_so _ _ (first_so _ _ (first_so _ _ (first_so _ _ h)))))
collide_shares Name a b h =
    overlap_shares bytes_eq bytes_decide (text_key 6) 5 a.server_names b.server_names
    (second_so _ _ (first_so _ _ (first_so _ _ (first_so _ _ h))))
collide_shares Protocol a b h =
    overlap_shares bytes_eq bytes_decide (text_key 8) 7 a.application_protocols b.application_protocols (second_so _ _ (first_so _ _ h))
collide_shares DirectSource a b h =
    overlap_shares cidr_range_same cidr_range_decides (range_key 10) 9 a.direct_source_prefix_ranges b.direct_source_prefix_ranges
    (first_so _ _ (first_so _ _ (first_so _ _ (second_so (collide_for_destination a b) (collide_for_source a b) h))))
collide_shares SourceRange a b h =
    overlap_shares cidr_range_same cidr_range_decides (range_key 13) 12 a.source_prefix_ranges b.source_prefix_ranges
    (second_so _ _ (first_so _ _ (second_so (collide_for_destination a b) (collide_for_source a b) h)))
collide_shares SourcePort a b h =
    overlap_shares nat_same numbers_decide (port_key 16) 15 a.source_ports b.source_ports
    (second_so _ _ (second_so (collide_for_destination a b) (collide_for_source a b) h))

-- ---- chains by their places

module _ (chains : List FilterChain) (one : FilterChainMatch) where
  given_collides : (place : ℕ) (found : Option FilterChain) → slice_get chains place ≡ found → collides_given one found ≡ true → any_collides chains one ≡ true
  given_collides place None at h = absurd (false≢true h)
  given_collides place (Some chain) at h =
      list_any-from_Any (λ (c : FilterChain). collide c.criteria one) chains
      (place, chain, slice_get_within chains place chain at, get_or_from_slice_get chains place chain chain at, h)

  module _ (kept : PlacesKept) (has : HasAll chains kept) (c : Criterion) where
    under_collides : any_under kept chains one (keys_by c one) ≡ true → any_collides chains one ≡ true
    under_collides h =
        let (i, key, within, at, under) = Any-from_list_any (λ key. list_any (collides_there chains one) (places_under kept key)) (keys_by c one) h in
        let (j, place, inside, is, collides) = Any-from_list_any (collides_there chains one) (places_under kept key) under in
        given_collides place (slice_get chains place) refl collides

    collides_under : any_collides chains one ≡ true → any_under kept chains one (keys_by c one) ≡ true
    collides_under h =
        let (place, chain, within, at, collides) = Any-from_list_any (λ (c : FilterChain). collide c.criteria one) chains h in
        let there : slice_get chains place ≡ Some chain = slice_get-get_or chains place chain within ∙ ap Some at in
        let (key, its, own) = collide_shares c chain.criteria one collides in
        any_of bytes_eq bytes_decide (λ k. list_any (collides_there chains one) (places_under kept k)) key (keys_by c one) own
        (any_of nat_eq numbers_decide (collides_there chains one) place (places_under kept key) (has place chain there c key its) (ap (collides_given one) there ∙ collides))

    pub found_under : any_under kept chains one (keys_by c one) ≡ any_collides chains one
    found_under = both_true (any_under kept chains one (keys_by c one)) (any_collides chains one) under_collides collides_under

-- an element of the front is one of the whole
taken : {X : Type 0} (n place : ℕ) (xs : List X) (x : X) → slice_get (take n xs) place ≡ Some x → slice_get xs place ≡ Some x
taken zero place xs x h = absurd (cc h)
taken (suc n) place [] x h = absurd (cc h)
taken (suc n) zero (y ∷ xs) x h = h
taken (suc n) (suc place) (y ∷ xs) x h = taken n place xs x h

taken_before : {X : Type 0} (n place : ℕ) (xs : List X) (x : X) → slice_get (take n xs) place ≡ Some x → place < n
taken_before zero place xs x h = absurd (cc h)
taken_before (suc n) place [] x h = absurd (cc h)
taken_before (suc n) zero (y ∷ xs) x h = omega arith
taken_before (suc n) (suc place) (y ∷ xs) x h = let before = taken_before n place xs x h in omega (arith, before)

pub has_front : (n : ℕ) (chains : List FilterChain) (kept : PlacesKept) → HasFirst n chains kept → HasAll (take n chains) kept
has_front n chains kept has place chain at = has place chain (taken_before n place chains chain at) (taken n place chains chain at)

-- ---- the criterion with the fewest places

abbrev IsByCriterion : FilterChainMatch → List (List ℕ) → Type 0
IsByCriterion m keys = (c : Criterion) × (keys ≡ keys_by c m)

fewer_by : (m : FilterChainMatch) (kept : PlacesKept) (one other : List (List ℕ)) → IsByCriterion m one → IsByCriterion m other → IsByCriterion m (fewer_keys kept one other)
fewer_by m kept one other a b = by (nat_le (count_under kept one) (count_under kept other))
  where
    by : (t : Bool) → IsByCriterion m (cond t one other)
    by true = a
    by false = b

fewest_by : (m : FilterChainMatch) (kept : PlacesKept) → IsByCriterion m (fewest_keys kept m)
fewest_by m kept =
    fewer_by m kept
    (fewer_keys kept (fewer_keys kept (keys_by Port m) (keys_by Range m)) (fewer_keys kept (keys_by Name m) (keys_by Protocol m)))
    (fewer_keys kept (fewer_keys kept (keys_by DirectSource m) (keys_by SourceRange m)) (keys_by SourcePort m))
    (fewer_by m kept (fewer_keys kept (keys_by Port m) (keys_by Range m)) (fewer_keys kept (keys_by Name m) (keys_by Protocol m))
    (fewer_by m kept (keys_by Port m) (keys_by Range m) (Port, refl) (Range, refl))
    (fewer_by m kept (keys_by Name m) (keys_by Protocol m) (Name, refl) (Protocol, refl)))
    (fewer_by m kept (fewer_keys kept (keys_by DirectSource m) (keys_by SourceRange m)) (keys_by SourcePort m)
    (fewer_by m kept (keys_by DirectSource m) (keys_by SourceRange m) (DirectSource, refl) (SourceRange, refl))
    (SourcePort, refl))

pub found_fewest : (chains : List FilterChain) (one : FilterChainMatch) (kept : PlacesKept) → HasAll chains kept
    → any_under kept chains one (fewest_keys kept one) ≡ any_collides chains one
found_fewest chains one kept has =
    let (c, is) = fewest_by one kept in
    ap (any_under kept chains one) is ∙ found_under chains one kept has c

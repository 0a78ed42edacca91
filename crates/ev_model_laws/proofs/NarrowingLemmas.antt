-- Chains of which no two collide are narrowed to one at most:
-- any two that one criterion leaves overlap in it, and go on doing so.
use Rattle.std.proofs.Common.{◌≡◌, ◌≤◌, ℕ, Bool, true, false, not, ◌&&◌, ◌||◌, ◌==◌, cond, List, [], ◌∷◌, length, map, filter, find, refl, sym, ap, ◌∙◌, subst, inl, inr, ◌⊎◌, Option, Some, None, is_some, ne_eqb, arith}
use Rattle.std.specs.List.{list_any, AllByRecursion as ByRecursion}
use Rattle.std.specs.Str.{bytes_eq, str_to_ascii_lowercase}
use Rattle.std.proofs.lemmas.Bool.{false≢true, cond_both, and_from, or_left, or_right}
use Rattle.ev_types.specs.Same.{bytes_decide, numbers_decide}
use Rattle.ev_types.specs.Ips.{cidr_range_same, cidr_range_decides, ranges_about}
use Rattle.ev_types.specs.FilterChains.{nat_same, source_type_same, source_type_decides, has_value, has_any, asks_source, overlap, collide, has_collision, ports, prefix_ranges, server_names, transports, application_protocols, direct_ranges, source_types, source_ranges, source_ports}
use Rattle.ev_types.specs.declared.events.Peer.{Peer}
use Rattle.ev_types.specs.declared.filter_chains.FilterChainMatch.{FilterChainMatch}
use Rattle.ev_types.specs.declared.filter_chains.SourceType.{SourceType}
use Rattle.ev_types.specs.declared.ips.CidrRange.{CidrRange}
use Rattle.ev_types.specs.declared.ips.Ip.{Ip}
use Rattle.ev_model.specs.declared.pictures.ServedChain.{ServedChain}
use Rattle.ev_model.specs.Narrowing.{Incoming, is_asked, chains_with, narrowed, names_brought, transport_of, source_type_of, by_port, by_address, by_server_name, by_transport, by_destination, by_direct_source, by_source_type, by_source_range, by_source}
use Rattle.ev_model_laws.proofs.AnyLemmas.{or_so, any_so}
use Rattle.ev_model_laws.specs.Narrowing.{NarrowsToOne}

-- what passes a filter passes its test
each_passes : {X : Type 0} (p : X → Bool) (xs : List X) → ByRecursion (λ x. p x ≡ true) (filter p xs)
each_passes p [] = tt
each_passes p (x ∷ xs) =
    cond_both (p x) (x ∷ filter p xs) (filter p xs) (ByRecursion (λ y. p y ≡ true)) (λ is. (is, each_passes p xs)) (λ isnt. each_passes p xs)

-- what holds of each element holds of each that a filter leaves
each_left : {X : Type 0} (p : X → Bool) (P : X → Type 0) (xs : List X) → ByRecursion P xs → ByRecursion P (filter p xs)
each_left p P [] all = tt
each_left p P (x ∷ xs) all =
    cond_both (p x) (x ∷ filter p xs) (filter p xs) (ByRecursion P) (λ is. (all.0, each_left p P xs all.1)) (λ isnt. each_left p P xs all.1)

abbrev matches : List ServedChain → List FilterChainMatch
matches chains = map (λ (c : ServedChain). c.criteria) chains

any_match_left : (q : FilterChainMatch → Bool) (p : ServedChain → Bool) (cs : List ServedChain)
    → list_any q (matches (filter p cs)) ≡ true → list_any q (matches cs) ≡ true
any_match_left q p [] h = h
any_match_left q p (c ∷ cs) h =
    cond_both (p c) (c ∷ filter p cs) (filter p cs) (λ ys. list_any q (matches ys) ≡ true → list_any q (matches (c ∷ cs)) ≡ true)
    (λ kept. or_so (q c.criteria) (list_any q (matches (filter p cs))) (λ first. or_left (q c.criteria) (list_any q (matches cs)) first)
    (λ rest. or_right (q c.criteria) (list_any q (matches cs)) (any_match_left q p cs rest)))
    (λ gone rest. or_right (q c.criteria) (list_any q (matches cs)) (any_match_left q p cs rest))
    h

collision_left : (p : ServedChain → Bool) (cs : List ServedChain) → has_collision (matches (filter p cs)) ≡ true → has_collision (matches cs) ≡ true
collision_left p [] h = h
collision_left p (c ∷ cs) h =
    let first = list_any (collide c.criteria) (matches cs) in
    cond_both (p c) (c ∷ filter p cs) (filter p cs) (λ ys. has_collision (matches ys) ≡ true → has_collision (matches (c ∷ cs)) ≡ true)
    (λ kept. or_so (list_any (collide c.criteria) (matches (filter p cs))) (has_collision (matches (filter p cs)))
    (λ here. or_left first (has_collision (matches cs)) (any_match_left (collide c.criteria) p cs here))
    (λ rest. or_right first (has_collision (matches cs)) (collision_left p cs rest)))
    (λ gone rest. or_right first (has_collision (matches cs)) (collision_left p cs rest))
    h

-- all chains ask for one value by a criterion, or all for none
abbrev Agree : {A : Type 0} → (A → A → Bool) → (FilterChainMatch → List A) → List ServedChain → Type 0
Agree {A} same values cs =
    ((value : A) × ByRecursion (λ (c : ServedChain). has_value same (values c.criteria) value ≡ true) cs)
    ⊎ ByRecursion (λ (c : ServedChain). (length (values c.criteria) == 0) ≡ true) cs

-- those that a criterion leaves agree in it
agree_by : {A : Type 0} (same : A → A → Bool) (values : FilterChainMatch → List A) (cs : List ServedChain) (found : Option A)
    → Agree same values (chains_with same values cs found)
agree_by same values cs (Some value) = inl (value, each_passes (λ (c : ServedChain). has_value same (values c.criteria) value) cs)
agree_by same values cs None = inr (each_passes (λ (c : ServedChain). length (values c.criteria) == 0) cs)

agree_left : {A : Type 0} (same : A → A → Bool) (values : FilterChainMatch → List A) (p : ServedChain → Bool) (cs : List ServedChain)
    → Agree same values cs → Agree same values (filter p cs)
agree_left same values p cs (inl (value, all)) = inl (value, each_left p (λ (c : ServedChain). has_value same (values c.criteria) value ≡ true) cs all)
agree_left same values p cs (inr none) = inr (each_left p (λ (c : ServedChain). (length (values c.criteria) == 0) ≡ true) cs none)

-- a filter of what a filter leaves is one
filter_twice : {X : Type 0} (p q : X → Bool) (xs : List X) → filter q (filter p xs) ≡ filter (λ x. p x && q x) xs
filter_twice p q [] = refl
filter_twice p q (x ∷ xs) = by (p x) (filter_twice p q xs)
  where
    by : (b : Bool) → filter q (filter p xs) ≡ filter (λ y. p y && q y) xs
        → filter q (cond b (x ∷ filter p xs) (filter p xs))
        ≡ cond (b && q x) (x ∷ filter (λ y. p y && q y) xs) (filter (λ y. p y && q y) xs)
    by true rest = ap (λ ys. cond (q x) (x ∷ ys) ys) rest
    by false rest = rest

-- these chains are what a test leaves of others
record IsLeftOf (cs left : List ServedChain) : Type 0 where
  test : ServedChain → Bool
  is : left ≡ filter test cs

left_by : {A : Type 0} (same : A → A → Bool) (values : FilterChainMatch → List A) (cs : List ServedChain) (found : Option A)
    → IsLeftOf cs (chains_with same values cs found)
left_by same values cs (Some value) = record { test = λ (c : ServedChain). has_value same (values c.criteria) value; is = refl }
left_by same values cs None = record { test = λ (c : ServedChain). length (values c.criteria) == 0; is = refl }

-- of two narrowings, one after the other
left_again : {first second third : List ServedChain} → IsLeftOf first second → IsLeftOf second third → IsLeftOf first third
left_again {first} before after = record {
  test = λ c. before.test c && after.test c;
  is = after.is ∙ ap (filter after.test) before.is ∙ filter_twice before.test after.test first;
}

-- what agrees goes on doing so, and what collides collided before
agree_kept : {cs left : List ServedChain} → IsLeftOf cs left → {A : Type 0} (same : A → A → Bool) (values : FilterChainMatch → List A)
    → Agree same values cs → Agree same values left
agree_kept {cs} by_test same values all = subst (λ ds. Agree same values ds) (sym by_test.is) (agree_left same values by_test.test cs all)

collision_kept : {cs left : List ServedChain} → IsLeftOf cs left → has_collision (matches left) ≡ true → has_collision (matches cs) ≡ true
collision_kept {cs} by_test h = collision_left by_test.test cs (subst (λ ds. has_collision (matches ds) ≡ true) by_test.is h)

-- the same of one criterion
left_now : {A : Type 0} (same : A → A → Bool) (values : FilterChainMatch → List A) (brought : List A) (cs : List ServedChain)
    → IsLeftOf cs (narrowed same values brought cs)
left_now same values brought cs = left_by same values cs (find (is_asked same values cs) brought)

agree_now : {A : Type 0} (same : A → A → Bool) (values : FilterChainMatch → List A) (brought : List A) (cs : List ServedChain)
    → Agree same values (narrowed same values brought cs)
agree_now same values brought cs = agree_by same values cs (find (is_asked same values cs) brought)

-- two lists that have a value in common, and two that have none, overlap
both_have : {A : Type 0} (same : A → A → Bool) (decides : (x y : A) → same x y ≡ true → x ≡ y) (xs ys : List A) (value : A)
    → has_value same xs value ≡ true → has_value same ys value ≡ true → overlap same xs ys ≡ true
both_have same decides [] ys value first second = absurd (false≢true first)
both_have same decides (x ∷ xs) [] value first second = absurd (false≢true second)
both_have same decides (x ∷ xs) (y ∷ ys) value first second =
    any_so (same value) (has_value same (x ∷ xs)) (y ∷ ys)
    (λ z e. subst (λ v. has_value same (x ∷ xs) v ≡ true) (decides value z e) first) second

both_lack : {A : Type 0} (same : A → A → Bool) (xs ys : List A) → (length xs == 0) ≡ true → (length ys == 0) ≡ true → overlap same xs ys ≡ true
both_lack same [] [] first second = refl
both_lack same [] (y ∷ ys) first second = absurd (false≢true (sym (ne_eqb (length (y ∷ ys)) 0 (omega arith)) ∙ second))
both_lack same (x ∷ xs) ys first second = absurd (false≢true (sym (ne_eqb (length (x ∷ xs)) 0 (omega arith)) ∙ first))

overlap_of : {A : Type 0} (same : A → A → Bool) (decides : (x y : A) → same x y ≡ true → x ≡ y) (values : FilterChainMatch → List A)
    (a b : ServedChain) (rest : List ServedChain) → Agree same values (a ∷ b ∷ rest) → overlap same (values a.criteria) (values b.criteria) ≡ true
overlap_of same decides values a b rest (inl (value, all)) = both_have same decides (values a.criteria) (values b.criteria) value all.0 all.1.0
overlap_of same decides values a b rest (inr none) = both_lack same (values a.criteria) (values b.criteria) none.0 none.1.0

-- no `or` of a false one is true
neither : (s t : Bool) → (s || t) ≡ false → (s ≡ false) × (t ≡ false)
neither false t h = (refl, h)
neither true t h = absurd (false≢true (sym h))

-- ---- the criteria of where a connection goes and what it offers

-- chains agree in each of them
record AgreeForDestination (cs : List ServedChain) : Type 0 where
  port : Agree nat_same ports cs
  range : Agree cidr_range_same prefix_ranges cs
  name : Agree bytes_eq server_names cs
  transport : Agree bytes_eq transports cs
  protocol : Agree bytes_eq application_protocols cs

kept_for_destination : {cs left : List ServedChain} → IsLeftOf cs left → AgreeForDestination cs → AgreeForDestination left
kept_for_destination by_test all = record {
  port = agree_kept by_test nat_same ports all.port;
  range = agree_kept by_test cidr_range_same prefix_ranges all.range;
  name = agree_kept by_test bytes_eq server_names all.name;
  transport = agree_kept by_test bytes_eq transports all.transport;
  protocol = agree_kept by_test bytes_eq application_protocols all.protocol;
}

destination_left : (incoming : Incoming) (chains : List ServedChain)
    → AgreeForDestination (by_destination incoming chains) × IsLeftOf chains (by_destination incoming chains)
destination_left incoming chains =
    let names = names_brought (str_to_ascii_lowercase incoming.server_name) in
    let port = by_port incoming chains in
    let address = by_address incoming port in
    let name = by_server_name incoming address in
    let transport = by_transport incoming name in
    let after_transport = left_now bytes_eq application_protocols incoming.alpn transport in
    let after_name = left_again (left_now bytes_eq transports (transport_of incoming.tls ∷ []) name) after_transport in
    let after_address = left_again (left_now bytes_eq server_names names address) after_name in
    let after_port = left_again (left_now cidr_range_same prefix_ranges (ranges_about incoming.ip) port) after_address in (
      record {
        port = agree_kept after_port nat_same ports (agree_now nat_same ports (incoming.port ∷ []) chains);
        range = agree_kept after_address cidr_range_same prefix_ranges (agree_now cidr_range_same prefix_ranges (ranges_about incoming.ip) port);
        name = agree_kept after_name bytes_eq server_names (agree_now bytes_eq server_names names address);
        transport = agree_kept after_transport bytes_eq transports (agree_now bytes_eq transports (transport_of incoming.tls ∷ []) name);
        protocol = agree_now bytes_eq application_protocols incoming.alpn transport;
      },
      left_again (left_now nat_same ports (incoming.port ∷ []) chains) after_port,
    )

-- ---- the criteria of where it comes from

-- chains agree in each of them
record AgreeForSource (cs : List ServedChain) : Type 0 where
  direct : Agree cidr_range_same direct_ranges cs
  kind : Agree source_type_same source_types cs
  range : Agree cidr_range_same source_ranges cs
  port : Agree nat_same source_ports cs

source_left : (local_ip : Option Ip) (source : Peer) (cs : List ServedChain)
    → AgreeForSource (by_source local_ip (Some source) cs) × IsLeftOf cs (by_source local_ip (Some source) cs)
source_left local_ip source cs =
    let kind_brought = source_type_of local_ip source.ip ∷ [] in
    let direct = by_direct_source source cs in
    let kind = by_source_type local_ip source direct in
    let range = by_source_range source kind in
    let after_range = left_now nat_same source_ports (source.host.port ∷ []) range in
    let after_kind = left_again (left_now cidr_range_same source_ranges (ranges_about source.ip) kind) after_range in
    let after_direct = left_again (left_now source_type_same source_types kind_brought direct) after_kind in (
      record {
        direct = agree_kept after_direct cidr_range_same direct_ranges (agree_now cidr_range_same direct_ranges (ranges_about source.ip) cs);
        kind = agree_kept after_kind source_type_same source_types (agree_now source_type_same source_types kind_brought direct);
        range = agree_kept after_range cidr_range_same source_ranges (agree_now cidr_range_same source_ranges (ranges_about source.ip) kind);
        port = agree_now nat_same source_ports (source.host.port ∷ []) range;
      },
      left_again (left_now cidr_range_same direct_ranges (ranges_about source.ip) cs) after_direct,
    )

-- chains of which none asks for a source agree in asking for nothing
none_asked : {A : Type 0} (values : List A) → has_any values ≡ false → (length values == 0) ≡ true
none_asked [] none = refl
none_asked (value ∷ values) none = absurd (false≢true (sym none))

record AsksForNone (m : FilterChainMatch) : Type 0 where
  direct : (length (direct_ranges m) == 0) ≡ true
  kind : (length (source_types m) == 0) ≡ true
  range : (length (source_ranges m) == 0) ≡ true
  port : (length (source_ports m) == 0) ≡ true

asks_for_none : (m : FilterChainMatch) → asks_source m ≡ false → AsksForNone m
asks_for_none m none =
    let port = neither _ (has_any (source_ports m)) none in
    let range = neither _ (has_any (source_ranges m)) port.0 in
    let first = neither (has_any (direct_ranges m)) (has_any (source_types m)) range.0 in
    record {
      direct = none_asked (direct_ranges m) first.0;
      kind = none_asked (source_types m) first.1;
      range = none_asked (source_ranges m) range.1;
      port = none_asked (source_ports m) port.1;
    }

each_then : {X : Type 0} (P Q : X → Type 0) (xs : List X) → ((x : X) → P x → Q x) → ByRecursion P xs → ByRecursion Q xs
each_then P Q [] so all = tt
each_then P Q (x ∷ xs) so all = (so x all.0, each_then P Q xs so all.1)

each_asks_for_none : (cs : List ServedChain) → list_any (λ (c : ServedChain). asks_source c.criteria) cs ≡ false
    → ByRecursion (λ (c : ServedChain). AsksForNone c.criteria) cs
each_asks_for_none [] none = tt
each_asks_for_none (c ∷ cs) none =
    let parts = neither (asks_source c.criteria) _ none in (asks_for_none c.criteria parts.0, each_asks_for_none cs parts.1)

none_for_source : (cs : List ServedChain) → list_any (λ (c : ServedChain). asks_source c.criteria) cs ≡ false → AgreeForSource cs
none_for_source cs none =
    let all = each_asks_for_none cs none in
    let none_of = λ (Q : ServedChain → Type 0) (so : (c : ServedChain) → AsksForNone c.criteria → Q c).
    each_then (λ (c : ServedChain). AsksForNone c.criteria) Q cs so all in
    record {
      direct = inr (none_of (λ (c : ServedChain). (length (direct_ranges c.criteria) == 0) ≡ true) (λ c n. n.direct));
      kind = inr (none_of (λ (c : ServedChain). (length (source_types c.criteria) == 0) ≡ true) (λ c n. n.kind));
      range = inr (none_of (λ (c : ServedChain). (length (source_ranges c.criteria) == 0) ≡ true) (λ c n. n.range));
      port = inr (none_of (λ (c : ServedChain). (length (source_ports c.criteria) == 0) ≡ true) (λ c n. n.port));
    }

-- ---- all of them

two_collide : (a b : ServedChain) (rest : List ServedChain) → AgreeForDestination (a ∷ b ∷ rest) → AgreeForSource (a ∷ b ∷ rest)
    → collide a.criteria b.criteria ≡ true
two_collide a b rest to from =
    let bytes = λ (x y : List ℕ). (bytes_decide x y).0 in
    let numbers = λ (x y : ℕ). (numbers_decide x y).0 in
    let range = λ (x y : CidrRange). (cidr_range_decides x y).0 in
    let kind = λ (x y : SourceType). (source_type_decides x y).0 in
    and_from _ _
    (and_from _ _ (and_from _ _ (and_from _ _ (and_from _ _
    (overlap_of nat_same numbers ports a b rest to.port)
    (overlap_of cidr_range_same range prefix_ranges a b rest to.range))
    (overlap_of bytes_eq bytes server_names a b rest to.name))
    (overlap_of bytes_eq bytes transports a b rest to.transport))
    (overlap_of bytes_eq bytes application_protocols a b rest to.protocol))
    (and_from _ _ (and_from _ _ (and_from _ _
    (overlap_of cidr_range_same range direct_ranges a b rest from.direct)
    (overlap_of source_type_same kind source_types a b rest from.kind))
    (overlap_of cidr_range_same range source_ranges a b rest from.range))
    (overlap_of nat_same numbers source_ports a b rest from.port))

few : (cs : List ServedChain) → (has_collision (matches cs) ≡ true → false ≡ true) → AgreeForDestination cs → AgreeForSource cs → length cs ≤ 1
few [] apart to from = omega arith
few (c ∷ []) apart to from = omega arith
few (a ∷ b ∷ rest) apart to from =
    absurd (false≢true (apart (or_left _ _ (or_left (collide a.criteria b.criteria) _ (two_collide a b rest to from)))))

few_by_source : (local_ip : Option Ip) (source : Option Peer) (cs : List ServedChain) → (has_collision (matches cs) ≡ true → false ≡ true)
    → AgreeForDestination cs
    → (not (is_some source) && list_any (λ (c : ServedChain). asks_source c.criteria) (by_source local_ip source cs)) ≡ false
    → length (by_source local_ip source cs) ≤ 1
few_by_source local_ip None cs apart to known = few cs apart to (none_for_source cs known)
few_by_source local_ip (Some source) cs apart to known =
    let left = source_left local_ip source cs in
    few (by_source local_ip (Some source) cs) (λ h. apart (collision_kept left.1 h)) (kept_for_destination left.1 to) left.0

pub one_is_left : NarrowsToOne
one_is_left incoming chains apart known =
    let left = destination_left incoming chains in
    few_by_source incoming.ip incoming.source (by_destination incoming chains) (λ h. sym apart ∙ collision_kept left.1 h) left.0 known

-- The places that are due at a line.
use Rattle.std.proofs.Common.{◌≡◌, ◌∙◌, inl, inr, ℕ, zero, suc, ◌+◌, ◌<◌, ◌≤◌, Bool, true, false, cond, List, [], ◌∷◌, ◌++◌, length, map, take, filter, flat_map, decimal, Some, codes, refl, sym, ap, subst, arith, length-append}
use Rattle.std.specs.Prelude.{drop, slice_get}
use Rattle.std.specs.List.{enumerate_from, list_any}
use Rattle.std.specs.Str.{bytes_eq}
use Rattle.std.proofs.lemmas.Grind.{flat_map-append}
use Rattle.std.proofs.lemmas.List.{take-append-drop}
use Rattle.serde_json.specs.Data.{Data}
use Rattle.ev_types.specs.Same.{bytes_decide}
use Rattle.ev_types.specs.declared.limits.TheConstants.{ITEM_LIMIT}
use Rattle.ev_types.specs.declared.events.Profile.{Profile}
use Rattle.ev_model_laws.proofs.AnyLemmas.{any_flat}
use Rattle.ev_model_laws.proofs.OperationLists.{IsIn}
use Rattle.ev_expand.specs.Expanding.{due_at, gives, guarded_at, lines_due, place_of, written_line}
use Rattle.ev_expand.specs.Following.{DueParts, following_line}
use Rattle.ev_expand.specs.Fronts.{Front, up_to}
use Rattle.ev_expand.specs.Guarding.{Guarded, each_once, guarded_by, guarded_in, place_in}
use Rattle.ev_expand.specs.Keys.{key_decides, key_same}
use Rattle.ev_expand.proofs.DistinctLemmas.{IsExtended, once_distinct, once_extends, own_place, place_has}
use Rattle.ev_expand.proofs.CountLemmas.{places_same}
use Rattle.ev_expand.proofs.ListLemmas.{back_get, got, in_kept, map_in, some_same}
use Rattle.ev_expand.proofs.DueLemmas.{guarded_stays}
use Rattle.ev_dns.specs.Hosts.{endpoints_tree}
use Rattle.ev_dns.specs.Resolving.{dns_rules, is_due, resolved_hosts}
use Rattle.ev_dns.specs.Templates.{by_names}
use Rattle.ev_dns.specs.LastAnswers.{name_of_place}
use Rattle.ev_dns.proofs.DueLemmas.{was_guarded}
use Rattle.ev_expand.proofs.GuardLemmas.{once_has, place_within}
use Rattle.ev_dns.proofs.TextLemmas.{IsFollower}

-- ---- places so far

-- a key that was guarded has its place already
pub guarded_early : (profile : Profile) (lines : List Data) (n place : ℕ) (g : Guarded) → slice_get (guarded_by (by_names profile) lines) place ≡ Some g → was_guarded profile (take n lines) g.key ≡ true
    → slice_get (guarded_by (by_names profile) (take n lines)) place ≡ Some g
guarded_early profile lines n place g there seen =
    let first : List Guarded = guarded_by (by_names profile) (take n lines) in
    let all : List Guarded = guarded_by (by_names profile) lines in
    let any : list_any (λ (x : Guarded). key_same g.key x.key) first ≡ true =
    once_has g.key (flat_map (guarded_in (by_names profile)) (take n lines))
    (any_flat (λ (x : Guarded). key_same g.key x.key) (guarded_in (by_names profile)) (take n lines) ∙ seen) in
    let found = got first (place_in first g.key) (place_within g.key first any) in
    let same : g.key ≡ found.0.key = (key_decides g.key found.0.key).0 (place_has first g.key (place_in first g.key) found.0 refl found.1) in
    let later : slice_get all (place_in first g.key) ≡ Some found.0 = guarded_stays (by_names profile) lines n (place_in first g.key) found.0 found.1 in
    let own : place_in all g.key ≡ place = own_place all place g (once_distinct (flat_map (guarded_in (by_names profile)) lines)) there in
    let other : place_in all found.0.key ≡ place_in first g.key =
    own_place all (place_in first g.key) found.0 (once_distinct (flat_map (guarded_in (by_names profile)) lines)) later in
    let at : place_in first g.key ≡ place = sym other ∙ ap (place_in all) (sym same) ∙ own in
    let one : found.0 ≡ g = some_same (sym later ∙ ap (slice_get all) at ∙ there) in
    ap (slice_get first) (sym at) ∙ found.1 ∙ ap (λ (x : Guarded). Some x) one

-- no more was guarded so far than in all lines
pub guarded_fewer : (profile : Profile) (lines : List Data) (n : ℕ) → length (guarded_by (by_names profile) (take n lines)) ≤ length (guarded_by (by_names profile) lines)
guarded_fewer profile lines n =
    let first : List Guarded = flat_map (guarded_in (by_names profile)) (take n lines) in
    let rest : List Guarded = flat_map (guarded_in (by_names profile)) (drop n lines) in
    let extended : IsExtended (each_once first) (each_once (first ++ rest)) rest = once_extends first rest in
    let joined : first ++ rest ≡ flat_map (guarded_in (by_names profile)) lines =
    sym (flat_map-append (guarded_in (by_names profile)) (take n lines) (drop n lines)) ∙ ap (flat_map (guarded_in (by_names profile))) (take-append-drop n lines) in
    omega (arith, ap (λ gs. length (each_once gs)) joined, ap length extended.grown, length-append (each_once first) extended.more)

-- ---- what is due

-- what is due of a place
abbrev pub parts_of : Front → ℕ × Guarded → DueParts
parts_of front p = record { place = p.0; endpoints = Some (endpoints_tree (resolved_hosts (up_to front) p.1.key)) }

in_enum : {X : Type 0} (m : ℕ) (xs : List X) (i : ℕ) (x : X) → slice_get xs i ≡ Some x → IsIn (m + i, x) (enumerate_from m xs)
in_enum m [] i x h = absurd (cc)
in_enum m (y ∷ xs) zero x h =
    let same : y ≡ x = cc in
    let none : m ≡ m + 0 = omega arith in
    inl (λ j. (none j, same j))
in_enum m (y ∷ xs) (suc i) x h =
    let place : m + 1 + i ≡ m + suc i = omega arith in
    inr (subst (λ n. IsIn (n, x) (enumerate_from (m + 1) xs)) place (in_enum (m + 1) xs i x h))

-- a place that is due is among these
pub among_due : (profile : Profile) (front : Front) (place : ℕ) (g : Guarded) → slice_get (guarded_at (dns_rules profile) front) place ≡ Some g → is_due profile front g ≡ true
    → IsIn (parts_of front (place, g)) (due_at (dns_rules profile) front)
among_due profile front place g there due =
    let gs : List Guarded = guarded_at (dns_rules profile) front in
    let none : 0 + place ≡ place = omega arith in
    map_in (parts_of front) (filter (λ (p : ℕ × Guarded). is_due profile front p.1) (enumerate_from 0 gs)) (place, g)
    (in_kept (λ (p : ℕ × Guarded). is_due profile front p.1) (enumerate_from 0 gs) (place, g) (subst (λ n. IsIn (n, g) (enumerate_from 0 gs)) none (in_enum 0 gs place g there)) due)

-- ---- the line that follows

-- the line that follows is given at this place
pub record HasFollower (profile : Profile) (front : Front) : Type 0 where
  pub inner : ℕ
  pub tree : Data
  pub among : slice_get (gives (dns_rules profile) front) inner ≡ Some tree
  pub follows : IsFollower profile front inner tree

pub follower_there : (profile : Profile) (front : Front) (due : DueParts) → IsIn due (due_at (dns_rules profile) front) → HasFollower profile front
follower_there profile front due is = by (due_at (dns_rules profile) front) refl is
  where
    own : List Data
    own = written_line (dns_rules profile) (guarded_at (dns_rules profile) front) front.line

    by : (parts : List DueParts) → due_at (dns_rules profile) front ≡ parts → IsIn due parts → HasFollower profile front
    by [] at none = absurd none
    by (first ∷ others) at among =
        let tree : Data = following_line (codes "dns/") (codes "dns-") (decimal (place_of front)) (first ∷ others) in
        let rest : lines_due (codes "dns/") (codes "dns-") (place_of front) (due_at (dns_rules profile) front) ≡ tree ∷ [] =
        ap (lines_due (codes "dns/") (codes "dns-") (place_of front)) at in
        let joined : length (gives (dns_rules profile) front) ≡ length own + 1 =
        length-append own (lines_due (codes "dns/") (codes "dns-") (place_of front) (due_at (dns_rules profile) front)) ∙ ap (λ ls. length own + length ls) rest in
        let none : length own + 0 ≡ length own = omega arith in
        record {
          inner = length own;
          tree = tree;
          among = ap (slice_get (gives (dns_rules profile) front)) (sym none) ∙ back_get own (lines_due (codes "dns/") (codes "dns-") (place_of front) (due_at (dns_rules profile) front)) 0
              ∙ ap (λ ls. slice_get ls 0) rest;
          follows = record {
            is = sym (ap (following_line (codes "dns/") (codes "dns-") (decimal (place_of front))) at);
            last = omega (arith, joined);
          };
        }

-- ---- names of places that are due

abbrev names_from : (ℕ × Guarded → Bool) → ℕ → List Guarded → List (List ℕ)
names_from test n gs = map (λ (p : ℕ × Guarded). name_of_place p.0) (filter test (enumerate_from n gs))

module _ (test : ℕ × Guarded → Bool) (place : ℕ) (below : place < ITEM_LIMIT) where
  abbrev counted : List (List ℕ) → ℕ
  counted names = length (filter (λ n. bytes_eq n (name_of_place place)) names)

  named_as : (n : ℕ) → n < ITEM_LIMIT → bytes_eq (name_of_place n) (name_of_place place) ≡ true → n ≡ place
  named_as n less same = places_same (codes "dns/") n place less below ((bytes_decide (name_of_place n) (name_of_place place)).0 same)

  one_more : (b : Bool) (name : List ℕ) (names : List (List ℕ)) → bytes_eq name (name_of_place place) ≡ b
      → counted (name ∷ names) ≡ cond b (counted names + 1) (counted names)
  one_more true name names is = ap (λ b. length (cond b (name ∷ filter (λ n. bytes_eq n (name_of_place place)) names) (filter (λ n. bytes_eq n (name_of_place place)) names))) is ∙ omega arith
  one_more false name names is = ap (λ b. length (cond b (name ∷ filter (λ n. bytes_eq n (name_of_place place)) names) (filter (λ n. bytes_eq n (name_of_place place)) names))) is

  none_named : (n : ℕ) (gs : List Guarded) → place < n → n + length gs ≤ ITEM_LIMIT → counted (names_from test n gs) ≤ 0
  none_named n [] less within = omega arith
  none_named n (g ∷ gs) less within = by (test (n, g)) (bytes_eq (name_of_place n) (name_of_place place)) refl (none_named (n + 1) gs (omega (arith, less)) (omega (arith, within)))
    where
      by : (b c : Bool) → bytes_eq (name_of_place n) (name_of_place place) ≡ c → counted (names_from test (n + 1) gs) ≤ 0
          → counted (map (λ (p : ℕ × Guarded). name_of_place p.0) (cond b ((n, g) ∷ filter test (enumerate_from (n + 1) gs)) (filter test (enumerate_from (n + 1) gs)))) ≤ 0
      by false c is rest = rest
      by true true is rest = absurd (omega (arith, less, named_as n (omega (arith, within)) is))
      by true false is rest = omega (arith, rest, one_more false (name_of_place n) (names_from test (n + 1) gs) is)

  once_named : (n : ℕ) (gs : List Guarded) → n + length gs ≤ ITEM_LIMIT → counted (names_from test n gs) ≤ 1
  once_named n [] within = omega arith
  once_named n (g ∷ gs) within = by (test (n, g)) (bytes_eq (name_of_place n) (name_of_place place)) refl (once_named (n + 1) gs (omega (arith, within)))
    where
      by : (b c : Bool) → bytes_eq (name_of_place n) (name_of_place place) ≡ c → counted (names_from test (n + 1) gs) ≤ 1
          → counted (map (λ (p : ℕ × Guarded). name_of_place p.0) (cond b ((n, g) ∷ filter test (enumerate_from (n + 1) gs)) (filter test (enumerate_from (n + 1) gs)))) ≤ 1
      by false c is rest = rest
      by true true is rest =
          omega (
            arith,
            one_more true (name_of_place n) (names_from test (n + 1) gs) is,
            none_named (n + 1) gs (omega (arith, named_as n (omega (arith, within)) is)) (omega (arith, within)),
          )
      by true false is rest = omega (arith, rest, one_more false (name_of_place n) (names_from test (n + 1) gs) is)

-- no name of a place is due twice
pub due_once : (profile : Profile) (front : Front) (place : ℕ) → place < ITEM_LIMIT → length (guarded_at (dns_rules profile) front) ≤ ITEM_LIMIT
    → length (filter (λ n. bytes_eq n (name_of_place place)) (map (λ (d : DueParts). name_of_place d.place) (due_at (dns_rules profile) front))) ≤ 1
due_once profile front place below few =
    let test : ℕ × Guarded → Bool = λ p. is_due profile front p.1 in
    let same : map (λ (d : DueParts). name_of_place d.place) (due_at (dns_rules profile) front) ≡ names_from test 0 (guarded_at (dns_rules profile) front) =
    mapped (filter test (enumerate_from 0 (guarded_at (dns_rules profile) front))) in
    omega (arith, ap (λ ns. length (filter (λ n. bytes_eq n (name_of_place place)) ns)) same, once_named test place below 0 (guarded_at (dns_rules profile) front) (omega (arith, few)))
  where
    mapped : (ps : List (ℕ × Guarded)) → map (λ (d : DueParts). name_of_place d.place) (map (parts_of front) ps) ≡ map (λ (p : ℕ × Guarded). name_of_place p.0) ps
    mapped [] = refl
    mapped (p ∷ ps) = ap (λ ns. name_of_place p.0 ∷ ns) (mapped ps)

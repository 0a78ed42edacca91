-- Where chains began: each chain of a generation began with one of its kind and name, by a chain with the same body.
use Rattle.std.proofs.Common.{◌≡◌, ℕ, zero, suc, ◌+◌, ◌<◌, ◌≤◌, ◌⊎◌, inl, inr, true, List, [], ◌∷◌, length, filter_map, get_or, Option, Some, None, refl, sym, ap, ◌∙◌, subst, arith}
use Rattle.std.specs.Prelude.{find, option_map, option_to_list, unwrap_or}
use Rattle.std.specs.Cmp.{second_so}
use Rattle.std.specs.List.{All, Contains, cons_option}
use Rattle.std.specs.Option.{IfSome}
use Rattle.std.specs.Str.{bytes_eq}
use Rattle.std.proofs.lemmas.List.Elements.{All-nil, All-cons, All-weaker, All-contains, Contains-append_cases}
use Rattle.ev_types.specs.Same.{bytes_decide}
use Rattle.ev_types.specs.Origins.{chain_place_same, chain_place_decides}
use Rattle.ev_types.specs.declared.contents.Kind.{Kind}
use Rattle.ev_types.specs.declared.contents.Content.{Content}
use Rattle.ev_types.specs.declared.contents.Content.TheVariants.{Cluster as a_cluster, Assignment as an_assignment, Listener as a_listener, Routes as routes, Secret as a_secret, Extension as an_extension}
use Rattle.ev_types.specs.declared.listeners.FilterChain.{FilterChain}
use Rattle.ev_types.specs.declared.listeners.Listener.{Listener}
use Rattle.ev_types.specs.declared.origins.ChainPlace.TheVariants.{At, Default}
use Rattle.ev_types.specs.declared.origins.KeptChain.{KeptChain}
use Rattle.ev_types.specs.declared.origins.Origin.{Origin}
use Rattle.ev_types.specs.declared.rows.GenRow.{GenRow}
use Rattle.ev_model.specs.Origins.{PlacedChain, placed_from, placed_default, placed, placed_in, is_as_default, stays_as, origin_at, kept_as, kept_of, kept_from}
use Rattle.ev_model.specs.Entries.{MadeRow}
use Rattle.ev_model_laws.specs.Kept.{IsMadeAs, BeginsAs, BeginChains}
use Rattle.ev_model_laws.proofs.TidyLists.{found_in, first_in, rest_in}

cons_at : {X : Type 0} (x : X) (xs : List X) (y : X) (k : ℕ) → k < length (x ∷ xs) → get_or (x ∷ xs) k y ≡ y → (x ≡ y) ⊎ Contains xs y
cons_at x xs y zero lt at = inl at
cons_at x xs y (suc k) lt at = inr (k, omega arith, at)

-- an element of a list is its first one, or one of the rest
pub cons_cases : {X : Type 0} (x : X) (xs : List X) (y : X) → Contains (x ∷ xs) y → (x ≡ y) ⊎ Contains xs y
cons_cases x xs y there = cons_at x xs y there.0 there.1 there.2

pub none_in : {X : Type 0} (y : X) → Contains [] y → ⊥
none_in y there = absurd (omega (arith, there.1))

-- the chain stands at this place of a list, or further on
abbrev IsFrom : ℕ → PlacedChain → Type 0
IsFrom place p = (k : ℕ) × (p.place ≡ At k) × (place ≤ k)

all_from : (place : ℕ) (chains : List FilterChain) → All (IsFrom place) (placed_from place chains)
all_from place [] = All-nil _
all_from place (chain ∷ chains) =
    All-cons (IsFrom place) (record { place = At place; chain = chain }) (placed_from (place + 1) chains) (place, refl, omega arith)
    (All-weaker (IsFrom (place + 1)) (IsFrom place) (λ p h. (h.0, h.1, omega (arith, h.2))) (placed_from (place + 1) chains) (all_from (place + 1) chains))

apart_from : (place : ℕ) (first : PlacedChain) (p : PlacedChain) → first.place ≡ At place → IsFrom (place + 1) p → first.place ≡ p.place → ⊥
apart_from place first p at from same =
    let one : At place ≡ At from.0 = sym at ∙ same ∙ from.1 in
    let number : place ≡ from.0 = cc in
    absurd (omega (arith, from.2, number))

once_from : (place : ℕ) (chains : List FilterChain) (p q : PlacedChain) → Contains (placed_from place chains) p → Contains (placed_from place chains) q
    → p.place ≡ q.place → p ≡ q
once_from place [] p q first second same = absurd (none_in p first)
once_from place (chain ∷ chains) p q first second same =
    let head : PlacedChain = record { place = At place; chain = chain } in
    let rest : List PlacedChain = placed_from (place + 1) chains in
    let above : (r : PlacedChain) → Contains rest r → IsFrom (place + 1) r =
    λ r there. All-contains (IsFrom (place + 1)) rest r (all_from (place + 1) chains) there in
    elim (cons_cases head rest p first) [
      | inl here ↦ elim (cons_cases head rest q second) [
        | inl also ↦ sym here ∙ also
        | inr further ↦ absurd (apart_from place head q refl (above q further) (ap (λ (r : PlacedChain). r.place) here ∙ same))
      ]
      | inr there ↦ elim (cons_cases head rest q second) [
        | inl also ↦ absurd (apart_from place head p refl (above p there) (ap (λ (r : PlacedChain). r.place) also ∙ sym same))
        | inr further ↦ once_from (place + 1) chains p q there further same
      ]
    ]

abbrev defaults : Option FilterChain → List PlacedChain
defaults chain = option_to_list (option_map placed_default chain)

default_is : (chain : Option FilterChain) (p q : PlacedChain) → Contains (defaults chain) p → Contains (defaults chain) q → (p ≡ q) × (p.place ≡ Default)
default_is None p q first second = absurd (none_in p first)
default_is (Some chain) p q first second =
    elim (cons_cases (placed_default chain) [] p first) [
      | inl here ↦ elim (cons_cases (placed_default chain) [] q second) [
        | inl also ↦ (sym here ∙ also, sym (ap (λ (r : PlacedChain). r.place) here))
        | inr further ↦ absurd (none_in q further)
      ]
      | inr there ↦ absurd (none_in p there)
    ]

matched_apart : (chains : List FilterChain) (default : Option FilterChain) (p q : PlacedChain) → Contains (placed_from 0 chains) p
    → Contains (defaults default) q → p.place ≡ q.place → ⊥
matched_apart chains default p q first second same =
    let from : IsFrom 0 p = All-contains (IsFrom 0) (placed_from 0 chains) p (all_from 0 chains) first in
    let never : At from.0 ≡ Default = sym from.1 ∙ same ∙ (default_is default q q second second).1 in
    absurd (cc)

listener_once : (listener : Listener) (p q : PlacedChain) → Contains (placed listener) p → Contains (placed listener) q → p.place ≡ q.place → p ≡ q
listener_once listener p q first second same =
    let chains : List FilterChain = listener.filter_chains in
    let default : Option FilterChain = listener.default_filter_chain in
    elim (Contains-append_cases (placed_from 0 chains) (defaults default) p first) [
      | inl here ↦ elim (Contains-append_cases (placed_from 0 chains) (defaults default) q second) [
        | inl also ↦ once_from 0 chains p q here also same
        | inr other ↦ absurd (matched_apart chains default p q here other same)
      ]
      | inr there ↦ elim (Contains-append_cases (placed_from 0 chains) (defaults default) q second) [
        | inl also ↦ absurd (matched_apart chains default q p also there (sym same))
        | inr other ↦ (default_is default p q there other).0
      ]
    ]

-- a content has one chain at a place
pub placed_once : (content : Content) (p q : PlacedChain) → Contains (placed_in content) p → Contains (placed_in content) q → p.place ≡ q.place → p ≡ q
placed_once (a_listener listener) p q first second same = listener_once listener p q first second same
placed_once (a_cluster cluster) p q first second same = absurd (none_in p first)
placed_once (an_assignment rows) p q first second same = absurd (none_in p first)
placed_once (routes table) p q first second same = absurd (none_in p first)
placed_once a_secret p q first second same = absurd (none_in p first)
placed_once an_extension p q first second same = absurd (none_in p first)

left_by : {X Y : Type 0} (h : X → Option Y) (xs : List X) (y : Y) (made : Option Y)
    → Contains (cons_option made (filter_map h xs)) y → Contains (filter_map h xs) y ⊎ (made ≡ Some y)
left_by h xs y None there = inl there
left_by h xs y (Some z) there =
    elim (cons_cases z (filter_map h xs) y there) [
      | inl same ↦ inr (ap Some same)
      | inr further ↦ inl further
    ]

-- what was made of an element is what a map to some left of it
left_from : {X Y : Type 0} (h : X → Option Y) (xs : List X) (y : Y) → Contains (filter_map h xs) y → (x : X) × Contains xs x × (h x ≡ Some y)
left_from {X = X} h [] y there = absurd (none_in y there)
left_from {X = X} h (x ∷ xs) y there =
    elim (left_by h xs y (h x) there) [
      | inl further ↦ let found : (z : X) × Contains xs z × (h z ≡ Some y) = left_from h xs y further in (found.0, rest_in x xs found.0 found.1, found.2)
      | inr here ↦ (x, first_in x xs, here)
    ]

-- a chain that is kept is one of the content that stays as one of the generation before
record IsKeptFrom (row : GenRow) (content : Content) (kept : KeptChain) : Type 0 where
  chain : PlacedChain
  there : Contains (placed_in content) chain
  before : PlacedChain
  among : Contains (placed_in row.content) before
  stays : stays_as chain before ≡ true
  place : kept.place ≡ chain.place
  origin : kept.origin ≡ origin_at row.number row.kept before.place

kept_by : (row : GenRow) (content : Content) (chain : PlacedChain) (kept : KeptChain) (found : Option PlacedChain) → Contains (placed_in content) chain
    → IfSome found (λ b. Contains (placed_in row.content) b × (stays_as chain b ≡ true))
    → option_map (λ (b : PlacedChain). record { place = chain.place; origin = origin_at row.number row.kept b.place }) found ≡ Some kept
    → IsKeptFrom row content kept
kept_by row content chain kept None there known is = absurd (cc)
kept_by row content chain kept (Some b) there known is =
    let made : KeptChain = record { place = chain.place; origin = origin_at row.number row.kept b.place } in
    let same : made ≡ kept = cc in
    record {
      chain = chain;
      there = there;
      before = b;
      among = known.0;
      stays = known.1;
      place = sym (ap (λ (k : KeptChain). k.place) same);
      origin = sym (ap (λ (k : KeptChain). k.origin) same);
    }

kept_is : (row : GenRow) (content : Content) (kept : KeptChain) → Contains (kept_of row content) kept → IsKeptFrom row content kept
kept_is row content kept there =
    let found : (p : PlacedChain) × Contains (placed_in content) p × (kept_as row (placed_in row.content) p ≡ Some kept) =
    left_from (kept_as row (placed_in row.content)) (placed_in content) kept there in
    kept_by row content found.0 kept (find (stays_as found.0) (placed_in row.content)) found.1 (found_in (stays_as found.0) (placed_in row.content)) found.2

-- more was made
pub record MakesMore (made more : ℕ → Option MadeRow) : Type 0 where
  pub is : (number : ℕ) (row : MadeRow) → made number ≡ Some row → more number ≡ Some row

pub made_as_more : (made more : ℕ → Option MadeRow) (kind : Kind) (name : List ℕ) (number : ℕ) → MakesMore made more
    → IsMadeAs made kind name number → IsMadeAs more kind name number
made_as_more made more kind name number makes was =
    record { row = was.row; is = makes.is number was.row was.is; of_kind = was.of_kind; named = was.named }

pub begins_more : (made more : ℕ → Option MadeRow) (kind : Kind) (name : List ℕ) (origin : Origin) (body : List ℕ) → MakesMore made more
    → BeginsAs made kind name origin body → BeginsAs more kind name origin body
begins_more made more kind name origin body makes begins = record {
  generation = record {
    row = begins.generation.row;
    is = makes.is origin.listener begins.generation.row begins.generation.is;
    of_kind = begins.generation.of_kind;
    named = begins.generation.named;
  };
  placed = begins.placed;
  there = begins.there;
  at = begins.at;
  same = begins.same;
}

pub chains_more : (made more : ℕ → Option MadeRow) (row : GenRow) → MakesMore made more → BeginChains made row → BeginChains more row
chains_more made more row makes begin p there =
    begins_more made more row.kind row.name (origin_at row.number row.kept p.place) p.chain.body_text makes (begin p there)

-- the chains of a new generation, of this number, kind, name and content
module _ (made : ℕ → Option MadeRow) (kind : Kind) (name : List ℕ) (content : Content) (number : ℕ)
    (is : made number ≡ Some (record { kind = kind; name = name; content = content })) where
  own_begins : (p : PlacedChain) → Contains (placed_in content) p → BeginsAs made kind name (record { listener = number; place = p.place }) p.chain.body_text
  own_begins p there = record {
    generation = record { row = record { kind = kind; name = name; content = content }; is = is; of_kind = refl; named = refl };
    placed = p;
    there = there;
    at = refl;
    same = refl;
  }

  -- those that are kept of a generation of the same kind and name, whose chains began so
  module _ (row : GenRow) (of : row.kind ≡ kind) (named : row.name ≡ name) (begin : BeginChains made row) where
    kept_begins : (p : PlacedChain) → Contains (placed_in content) p → (kept : KeptChain) → IsKeptFrom row content kept
        → chain_place_same kept.place p.place ≡ true → BeginsAs made kind name kept.origin p.chain.body_text
    kept_begins p there kept from same =
        let one : from.chain ≡ p =
        placed_once content from.chain p from.there there (sym from.place ∙ (chain_place_decides kept.place p.place).0 same) in
        let body : from.before.chain.body_text ≡ p.chain.body_text =
        sym ((bytes_decide from.chain.chain.body_text from.before.chain.body_text).0
        (second_so (is_as_default from.chain.place from.before.place) (bytes_eq from.chain.chain.body_text from.before.chain.body_text) from.stays))
        ∙ ap (λ (r : PlacedChain). r.chain.body_text) one in
        let begins : BeginsAs made row.kind row.name (origin_at row.number row.kept from.before.place) from.before.chain.body_text =
        begin from.before from.among in
        subst (λ (k : Kind). BeginsAs made k name kept.origin p.chain.body_text) of
        (subst (λ (n : List ℕ). BeginsAs made row.kind n kept.origin p.chain.body_text) named
        (subst (λ (o : Origin). BeginsAs made row.kind row.name o p.chain.body_text) (sym from.origin)
        (subst (BeginsAs made row.kind row.name (origin_at row.number row.kept from.before.place)) body begins)))

    found_begins : (p : PlacedChain) → Contains (placed_in content) p → (found : Option KeptChain)
        → IfSome found (λ k. Contains (kept_of row content) k × (chain_place_same k.place p.place ≡ true))
        → BeginsAs made kind name (unwrap_or (option_map (λ (k : KeptChain). k.origin) found) (record { listener = number; place = p.place })) p.chain.body_text
    found_begins p there None known = own_begins p there
    found_begins p there (Some kept) known = kept_begins p there kept (kept_is row content kept known.0) known.1

    in_place_begins : (p : PlacedChain) → Contains (placed_in content) p → BeginsAs made kind name (origin_at number (kept_of row content) p.place) p.chain.body_text
    in_place_begins p there =
        found_begins p there (find (λ (k : KeptChain). chain_place_same k.place p.place) (kept_of row content))
        (found_in (λ (k : KeptChain). chain_place_same k.place p.place) (kept_of row content))

  -- where they are kept of the generation that serves, if there is one
  pub serving_begins : (serving : Option GenRow) → IfSome serving (λ row. (row.kind ≡ kind) × (row.name ≡ name) × BeginChains made row)
      → (p : PlacedChain) → Contains (placed_in content) p → BeginsAs made kind name (origin_at number (kept_from serving content) p.place) p.chain.body_text
  serving_begins None known p there = own_begins p there
  serving_begins (Some row) known p there = in_place_begins row known.0 known.1 known.2 p there

-- The numbers of chains: none represents two chains, and no chain that serves has two.
use Rattle.std.proofs.Common.{◌≡◌, ℕ, ◌+◌, ◌<◌, ◌≤◌, ◌==◌, Bool, true, false, ◌&&◌, ◌||◌, cond, List, [], ◌∷◌, map, Option, Some, None, refl, sym, ap, ◌∙◌, subst, arith, inl, inr, unwrap_or}
use Rattle.std.specs.Prelude.{◌⊎◌}
use Rattle.std.specs.List.{list_any, find}
use Rattle.std.specs.Str.{str_to_ascii_lowercase}
use Rattle.std.proofs.lemmas.Bool.{true≢false, false≢true, or_parts}
use Rattle.std.proofs.lemmas.Bool.Decides.{nat_tests}
use Rattle.ev_chains.specs.declared.keys.ChainKey.{ChainKey}
use Rattle.ev_chains.specs.declared.matches.ChainMatch.{ChainMatch}
use Rattle.ev_chains.specs.declared.rows.Chain.{Chain}
use Rattle.ev_chains.specs.declared.rows.Row.{Row}
use Rattle.ev_chains.specs.Keys.{key_same, key_decides}
use Rattle.ev_chains.specs.Rows.{keyed_names, clashes, has_clash, chain_same, chain_decides}
use Rattle.ev_chains.specs.Listed.{number_in, is_chain, number_for}
use Rattle.ev_chains.specs.Listeners.{matches_of}
use Rattle.ev_chains.specs.State.{numbered, made_after, made_by}
use Rattle.ev_chains.specs.Kept.{HasRow, Sound}
use Rattle.ev_chains.proofs.ChoiceLemmas.{key_clash}

-- the chain is among these
abbrev pub HasChain : Chain → List Chain → Type 0
HasChain chain [] = ⊥
HasChain chain (other ∷ others) = (other ≡ chain) ⊎ HasChain chain others

-- ---- by tests

pub same_number : (a b : ℕ) → (a == b) ≡ true → a ≡ b
same_number a b h = grind (arith, nat_tests)

own_number : (a b : ℕ) → a ≡ b → (a == b) ≡ true
own_number a b h = grind (arith, nat_tests)

pub and_parts : (a b : Bool) → (a && b) ≡ true → (a ≡ true) × (b ≡ true)
and_parts true b h = (refl, h)
and_parts false b h = absurd (false≢true h)

pub or_true : (a b : Bool) → (a || b) ≡ true → (a ≡ true) ⊎ (b ≡ true)
or_true true b h = inl refl
or_true false b h = inr h

pub right_true : (a b : Bool) → b ≡ true → (a || b) ≡ true
right_true true b h = refl
right_true false b h = h

pub number_true : (number : ℕ) (chain : Chain) (rows : List Row) → HasRow number chain rows → list_any (λ (row : Row). row.number == number) rows ≡ true
number_true number chain [] has = elim has [ ]
number_true number chain (row ∷ rows) has = elim has [
  | inl here ↦ ap (λ b. b || list_any (λ (other : Row). other.number == number) rows) (own_number row.number number here.0)
  | inr there ↦ right_true (row.number == number) (list_any (λ (other : Row). other.number == number) rows) (number_true number chain rows there)
]

-- without a row of the number, the number doesn't serve
pub number_false : (number : ℕ) (rows : List Row) → ((chain : Chain) → HasRow number chain rows → ⊥) → list_any (λ (row : Row). row.number == number) rows ≡ false
number_false number [] none = refl
number_false number (row ∷ rows) none = by (row.number == number) refl (number_false number rows (λ chain has. none chain (inr has)))
  where
    by : (t : Bool) → (row.number == number) ≡ t → list_any (λ (other : Row). other.number == number) rows ≡ false → (t || list_any (λ (other : Row). other.number == number) rows) ≡ false
    by true h rest = absurd (none row.chain (inl (same_number row.number number h, refl)))
    by false h rest = rest

pub chain_has : (chain : Chain) (chains : List Chain) → list_any (λ other. chain_same other chain) chains ≡ true → HasChain chain chains
chain_has chain [] h = absurd (false≢true h)
chain_has chain (other ∷ others) h = elim (or_true (chain_same other chain) (list_any (λ o. chain_same o chain) others) h) [
  | inl here ↦ inl ((chain_decides other chain).0 here)
  | inr there ↦ inr (chain_has chain others there)
]

pub chain_true : (chain : Chain) (chains : List Chain) → HasChain chain chains → list_any (λ other. chain_same other chain) chains ≡ true
chain_true chain [] has = elim has [ ]
chain_true chain (other ∷ others) has = elim has [
  | inl here ↦ ap (λ b. b || list_any (λ o. chain_same o chain) others) ((chain_decides other chain).1 here)
  | inr there ↦ right_true (chain_same other chain) (list_any (λ o. chain_same o chain) others) (chain_true chain others there)
]

-- ---- the number of the row that equals a chain

pub for_some : (chain : Chain) (rows : List Row) (number : ℕ) → number_for chain rows ≡ Some number → HasRow number chain rows
for_some chain [] number h = absurd (cc h)
for_some chain (row ∷ rows) number h = by (chain_same row.chain chain) refl h (for_some chain rows number)
  where
    by : (t : Bool) → chain_same row.chain chain ≡ t → number_in (cond t (Some row) (find (is_chain chain) rows)) ≡ Some number
        → (number_for chain rows ≡ Some number → HasRow number chain rows) → HasRow number chain (row ∷ rows)
    by true is h rest = inl (cc h, (chain_decides row.chain chain).0 is)
    by false is h rest = inr (rest h)

pub for_none : (chain : Chain) (rows : List Row) (number : ℕ) → number_for chain rows ≡ None → HasRow number chain rows → ⊥
for_none chain [] number h has = has
for_none chain (row ∷ rows) number h has = by (chain_same row.chain chain) refl h (for_none chain rows number) has
  where
    by : (t : Bool) → chain_same row.chain chain ≡ t → number_in (cond t (Some row) (find (is_chain chain) rows)) ≡ None
        → (number_for chain rows ≡ None → HasRow number chain rows → ⊥) → ((row.number ≡ number) × (row.chain ≡ chain)) ⊎ HasRow number chain rows → ⊥
    by true is h rest has = absurd (cc h)
    by false is h rest (inl here) = false≢true (sym is ∙ (chain_decides row.chain chain).1 here.1)
    by false is h rest (inr there) = rest h there

-- a chain's number is found, or it is new
pub cases_for : (chain : Chain) (rows : List Row) → ((number : ℕ) × (number_for chain rows ≡ Some number)) ⊎ (number_for chain rows ≡ None)
cases_for chain rows = by (number_for chain rows) refl
  where
    by : (found : Option ℕ) → number_for chain rows ≡ found → ((number : ℕ) × (number_for chain rows ≡ Some number)) ⊎ (number_for chain rows ≡ None)
    by None is = inr is
    by (Some number) is = inl (number, is)

-- ---- rows whose numbers and chains are apart

-- how a chain of the next listener got its number: it has that of the serving chain that equals it, or a new one
abbrev pub GotNumber : ℕ → List Row → Chain → ℕ → Type 0
GotNumber made old chain number = (number_for chain old ≡ Some number) ⊎ ((number_for chain old ≡ None) × (made < number))

module _ (old : List Row) where
  later : (found : Option ℕ) (made : ℕ) → made ≤ made_after found made
  later None made = omega arith
  later (Some number) made = omega arith

  pub made_more : (made : ℕ) (chains : List Chain) → made ≤ made_by made old chains
  made_more made [] = omega arith
  made_more made (chain ∷ chains) =
      let first = later (number_for chain old) made in
      let rest = made_more (made_after (number_for chain old) made) chains in
      omega (arith, first, rest)

  head_number : (made : ℕ) (chain : Chain) (number : ℕ) → unwrap_or (number_for chain old) (made + 1) ≡ number → GotNumber made old chain number
  head_number made chain number h = by (number_for chain old) refl h
    where
      by : (found : Option ℕ) → number_for chain old ≡ found → unwrap_or found (made + 1) ≡ number → GotNumber made old chain number
      by None is h = inr (is, omega (arith, h))
      by (Some n) is h = inl (is ∙ ap Some h)

  got_earlier : (made next : ℕ) (chain : Chain) (number : ℕ) → made ≤ next → GotNumber next old chain number → GotNumber made old chain number
  got_earlier made next chain number le (inl found) = inl found
  got_earlier made next chain number le (inr fresh) = let lt = fresh.1 in inr (fresh.0, omega (arith, le, lt))

  -- a row of the next is a chain of the listener, and got its number
  pub row_chain : (made : ℕ) (chains : List Chain) (number : ℕ) (chain : Chain) → HasRow number chain (numbered made old chains) → HasChain chain chains
  row_chain made [] number chain has = has
  row_chain made (c ∷ chains) number chain (inl here) = inl here.1
  row_chain made (c ∷ chains) number chain (inr there) = inr (row_chain (made_after (number_for c old) made) chains number chain there)

  pub row_number : (made : ℕ) (chains : List Chain) (number : ℕ) (chain : Chain) → HasRow number chain (numbered made old chains) → GotNumber made old chain number
  row_number made [] number chain has = elim has [ ]
  row_number made (c ∷ chains) number chain (inl here) = subst (λ x. GotNumber made old x number) here.1 (head_number made c number here.0)
  row_number made (c ∷ chains) number chain (inr there) =
      got_earlier made (made_after (number_for c old) made) chain number (later (number_for c old) made) (row_number (made_after (number_for c old) made) chains number chain there)

  -- a chain of the listener that serves keeps its number
  pub row_kept : (made : ℕ) (chains : List Chain) (number : ℕ) (chain : Chain) → HasChain chain chains → number_for chain old ≡ Some number → HasRow number chain (numbered made old chains)
  row_kept made [] number chain has found = has
  row_kept made (c ∷ chains) number chain (inl here) found = inl (ap (λ x. unwrap_or (number_for x old) (made + 1)) here ∙ ap (λ f. unwrap_or f (made + 1)) found, here)
  row_kept made (c ∷ chains) number chain (inr there) found = inr (row_kept (made_after (number_for c old) made) chains number chain there found)

  -- numbers are no greater than those allocated
  within : (made : ℕ) (chains : List Chain) (number : ℕ) (chain : Chain) (base : ℕ) → base ≤ made → ((n : ℕ) (x : Chain) → HasRow n x old → n ≤ base)
      → HasRow number chain (numbered made old chains) → number ≤ made_by made old chains
  within made [] number chain base le below has = elim has [ ]
  within made (c ∷ chains) number chain base le below (inl here) =
      by (number_for c old) refl here.0 (made_more (made_after (number_for c old) made) chains) (later (number_for c old) made)
    where
      by : (found : Option ℕ) → number_for c old ≡ found → unwrap_or found (made + 1) ≡ number
          → made_after (number_for c old) made ≤ made_by (made_after (number_for c old) made) old chains → made ≤ made_after (number_for c old) made
          → number ≤ made_by (made_after (number_for c old) made) old chains
      by None is h rest up = let next : made_after (number_for c old) made ≡ made + 1 = ap (λ f. made_after f made) is in omega (arith, h, rest, next)
      by (Some n) is h rest up = let low = below n c (for_some c old n is) in omega (arith, h, rest, up, low, le)
  within made (c ∷ chains) number chain base le below (inr there) =
      let up = later (number_for c old) made in
      within (made_after (number_for c old) made) chains number chain base (omega (arith, up, le)) below there

  -- no number represents two chains
  apart_head : (made base : ℕ) (c chain : Chain) (number : ℕ) → Sound base old → base ≤ made → GotNumber made old c number → unwrap_or (number_for c old) (made + 1) ≡ number
      → GotNumber (made_after (number_for c old) made) old chain number → c ≡ chain
  apart_head made base c chain number sound le (inl mine) head (inl other) = sound.one_chain number c chain (for_some c old number mine) (for_some chain old number other)
  apart_head made base c chain number sound le (inl mine) head (inr fresh) =
      let low = sound.below number c (for_some c old number mine) in
      let up = later (number_for c old) made in
      let high = fresh.1 in
      absurd (omega (arith, low, up, high, le))
  apart_head made base c chain number sound le (inr mine) head (inl other) =
      let low = sound.below number chain (for_some chain old number other) in
      let high = mine.1 in
      absurd (omega (arith, low, high, le))
  apart_head made base c chain number sound le (inr mine) head (inr fresh) =
      let first : made + 1 ≡ number = sym (ap (λ f. unwrap_or f (made + 1)) mine.0) ∙ head in
      let next : made_after (number_for c old) made ≡ made + 1 = ap (λ f. made_after f made) mine.0 in
      let high = fresh.1 in
      absurd (omega (arith, first, next, high))

  one_chain : (made base : ℕ) (chains : List Chain) → Sound base old → base ≤ made → (number : ℕ) (one other : Chain)
      → HasRow number one (numbered made old chains) → HasRow number other (numbered made old chains) → one ≡ other
  one_chain made base [] sound le number one other has has' = elim has [ ]
  one_chain made base (c ∷ chains) sound le number one other (inl here) (inl here') = sym here.1 ∙ here'.1
  one_chain made base (c ∷ chains) sound le number one other (inl here) (inr there') =
      sym here.1 ∙ apart_head made base c other number sound le (head_number made c number here.0) here.0 (row_number (made_after (number_for c old) made) chains number other there')
  one_chain made base (c ∷ chains) sound le number one other (inr there) (inl here') =
      sym (sym here'.1 ∙ apart_head made base c one number sound le (head_number made c number here'.0) here'.0 (row_number (made_after (number_for c old) made) chains number one there))
  one_chain made base (c ∷ chains) sound le number one other (inr there) (inr there') =
      let up = later (number_for c old) made in
      one_chain (made_after (number_for c old) made) base chains sound (omega (arith, up, le)) number one other there there'

  -- where no two chains clash, no chain has two numbers
  some_key : (names : List (List ℕ)) (port : Option ℕ) → (key : ChainKey) × (list_any (λ own. key_same own key) (map (λ name. record { port = port; name = name }) (keyed_names names)) ≡ true)
  some_key [] port = (record { port = port; name = None }, ap (λ b. b || false) ((key_decides record { port = port; name = None } record { port = port; name = None }).1 refl))
  some_key (name ∷ names) port =
      let key : ChainKey = record { port = port; name = Some (str_to_ascii_lowercase name) } in
      (key, ap (λ b. b || list_any (λ own. key_same own key) (map (λ n. record { port = port; name = n }) (map (λ n. Some (str_to_ascii_lowercase n)) names))) ((key_decides key key).1 refl))

  pub own_clash : (m : ChainMatch) → clashes m m ≡ true
  own_clash m = let key = some_key m.names m.port in key_clash key.0 m m key.1 key.1

  no_twin : (c : Chain) (chains : List Chain) → list_any (clashes c.matches) (matches_of chains) ≡ false → HasChain c chains → ⊥
  no_twin c [] none has = has
  no_twin c (d ∷ chains) none (inl here) =
      true≢false (sym (own_clash c.matches) ∙ ap (λ (x : Chain). clashes c.matches x.matches) (sym here) ∙ (or_parts (clashes c.matches d.matches) (list_any (clashes c.matches) (matches_of chains)) none).0)
  no_twin c (d ∷ chains) none (inr there) = no_twin c chains (or_parts (clashes c.matches d.matches) (list_any (clashes c.matches) (matches_of chains)) none).1 there

  one_number : (made : ℕ) (chains : List Chain) → has_clash (matches_of chains) ≡ false → (chain : Chain) (one other : ℕ)
      → HasRow one chain (numbered made old chains) → HasRow other chain (numbered made old chains) → one ≡ other
  one_number made [] clear chain one other has has' = elim has [ ]
  one_number made (c ∷ chains) clear chain one other (inl here) (inl here') = sym here.0 ∙ here'.0
  one_number made (c ∷ chains) clear chain one other (inl here) (inr there') =
      absurd (no_twin c chains (or_parts (list_any (clashes c.matches) (matches_of chains)) (has_clash (matches_of chains)) clear).0
      (subst (λ x. HasChain x chains) (sym here.1) (row_chain (made_after (number_for c old) made) chains other chain there')))
  one_number made (c ∷ chains) clear chain one other (inr there) (inl here') =
      absurd (no_twin c chains (or_parts (list_any (clashes c.matches) (matches_of chains)) (has_clash (matches_of chains)) clear).0
      (subst (λ x. HasChain x chains) (sym here'.1) (row_chain (made_after (number_for c old) made) chains one chain there)))
  one_number made (c ∷ chains) clear chain one other (inr there) (inr there') =
      one_number (made_after (number_for c old) made) chains (or_parts (list_any (clashes c.matches) (matches_of chains)) (has_clash (matches_of chains)) clear).1 chain one other there there'

  pub sound_next : (made : ℕ) (chains : List Chain) → has_clash (matches_of chains) ≡ false → Sound made old → Sound (made_by made old chains) (numbered made old chains)
  sound_next made chains clear sound = record {
    one_chain = one_chain made made chains sound (omega arith);
    one_number = one_number made chains clear;
    below = λ number chain has. within made chains number chain made (omega arith) sound.below has;
  }

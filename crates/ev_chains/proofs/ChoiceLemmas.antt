-- Which chain is found by a key, and by the names of a connection.
use Rattle.std.proofs.Common.{◌≡◌, ℕ, Bool, true, false, ◌||◌, cond, List, [], ◌∷◌, ◌++◌, map, Option, None, Some, refl, sym, ap, ◌∙◌}
use Rattle.std.specs.List.{list_any, find}
use Rattle.std.specs.Option.{option_or}
use Rattle.std.proofs.lemmas.Bool.{or_parts, true≢false, false≢true}
use Rattle.ev_chains.specs.declared.keys.ChainKey.{ChainKey}
use Rattle.ev_chains.specs.declared.matches.ChainMatch.{ChainMatch}
use Rattle.ev_chains.specs.declared.rows.Chain.{Chain}
use Rattle.ev_chains.specs.declared.rows.Row.{Row}
use Rattle.ev_chains.specs.Names.{asked_names, wild_names}
use Rattle.ev_chains.specs.Keys.{key_same, key_decides}
use Rattle.ev_chains.specs.Rows.{keys_of, has_key, clashes, has_clash, match_of, row_has, first_named, chain_decides}
use Rattle.ev_chains.specs.Listed.{number_in, number_under, number_other, is_chain}

-- ---- the choice by names

number_or : (a b : Option Row) → number_in (option_or a b) ≡ option_or (number_in a) (number_in b)
number_or None b = refl
number_or (Some row) b = refl

or_none : {X : Type 0} (a : Option X) → option_or a None ≡ a
or_none None = refl
or_none (Some x) = refl

or_or : {X : Type 0} (a b c : Option X) → option_or a (option_or b c) ≡ option_or (option_or a b) c
or_or None b c = refl
or_or (Some x) b c = refl

first_append : (port : Option ℕ) (xs ys : List (Option (List ℕ))) (rows : List Row)
    → first_named port (xs ++ ys) rows ≡ option_or (first_named port xs rows) (first_named port ys rows)
first_append port [] ys rows = refl
first_append port (x ∷ xs) ys rows =
    ap (option_or (find (row_has record { port = port; name = x }) rows)) (first_append port xs ys rows)
    ∙ or_or (find (row_has record { port = port; name = x }) rows) (first_named port xs rows) (first_named port ys rows)

-- the name itself first, then the others
pub asked_number : (port : Option ℕ) (name : List ℕ) (rows : List Row)
    → number_in (first_named port (asked_names name) rows) ≡ option_or (number_under record { port = port; name = Some name } rows) (number_other port name rows)
asked_number port name rows =
    number_or (find (row_has record { port = port; name = Some name }) rows) (first_named port (map Some (wild_names name) ++ None ∷ []) rows)
    ∙ ap (option_or (number_under record { port = port; name = Some name } rows))
    (ap number_in
    (first_append port (map Some (wild_names name)) (None ∷ []) rows
    ∙ ap (option_or (first_named port (map Some (wild_names name)) rows)) (or_none (find (row_has record { port = port; name = None }) rows)))
    ∙ number_or (first_named port (map Some (wild_names name)) rows) (find (row_has record { port = port; name = None }) rows))

-- ---- the chain that equals another

any_so : {X : Type 0} (p q : X → Bool) → ((x : X) → p x ≡ true → q x ≡ true) → (xs : List X) → list_any p xs ≡ true → list_any q xs ≡ true
any_so p q so [] h = absurd (false≢true h)
any_so p q so (x ∷ xs) h = by (p x) (q x) (so x) (any_so p q so xs) h
  where
    by : (t u : Bool) → (t ≡ true → u ≡ true) → (list_any p xs ≡ true → list_any q xs ≡ true) → (t || list_any p xs) ≡ true → (u || list_any q xs) ≡ true
    by true u here rest h = ap (λ b. b || list_any q xs) (here refl)
    by false true here rest h = refl
    by false false here rest h = rest h

-- two matches with one key clash
pub key_clash : (key : ChainKey) (one other : ChainMatch) → has_key key one ≡ true → has_key key other ≡ true → clashes one other ≡ true
key_clash key one other a b =
    any_so (λ own. key_same own key) (λ own. has_key own other) (λ own same. ap (λ k. has_key k other) ((key_decides own key).0 same) ∙ b) (keys_of one) a

-- a row that equals a chain has its keys
equal_key : (key : ChainKey) (chain : Chain) (row : Row) → has_key key chain.matches ≡ true → is_chain chain row ≡ true → row_has key row ≡ true
equal_key key chain row has same = ap (λ (c : Chain). has_key key c.matches) ((chain_decides row.chain chain).0 same) ∙ has

-- where a row has the key and clashes with none of the others, none of these equals the chain
none_equal : (key : ChainKey) (chain : Chain) (row : Row) (rows : List Row) → has_key key chain.matches ≡ true → row_has key row ≡ true
    → list_any (clashes (match_of row)) (map match_of rows) ≡ false → find (is_chain chain) rows ≡ None
none_equal key chain row [] has own apart = refl
none_equal key chain row (other ∷ rows) has own apart =
    let parts = or_parts (clashes (match_of row) (match_of other)) (list_any (clashes (match_of row)) (map match_of rows)) apart in
    by (is_chain chain other) (λ same. key_clash key (match_of row) (match_of other) own (equal_key key chain other has same)) parts.0
    ∙ none_equal key chain row rows has own parts.1
  where
    by : (t : Bool) → (t ≡ true → clashes (match_of row) (match_of other) ≡ true) → clashes (match_of row) (match_of other) ≡ false
        → cond t (Some other) (find (is_chain chain) rows) ≡ find (is_chain chain) rows
    by true so none = absurd (true≢false (sym (so refl) ∙ none))
    by false so none = refl

-- the row that was found, where it equals the chain
abbrev pub if_equal : Chain → Option Row → Option Row
if_equal chain None = None
if_equal chain (Some row) = cond (is_chain chain row) (Some row) None

-- of chains that don't clash the one with a key of a chain is the only one that may equal it
pub same_found : (key : ChainKey) (chain : Chain) (rows : List Row) → has_key key chain.matches ≡ true → has_clash (map match_of rows) ≡ false
    → find (is_chain chain) rows ≡ if_equal chain (find (row_has key) rows)
same_found key chain [] has apart = refl
same_found key chain (row ∷ rows) has apart =
    let parts = or_parts (list_any (clashes (match_of row)) (map match_of rows)) (has_clash (map match_of rows)) apart in
    by (row_has key row) (is_chain chain row) refl refl (equal_key key chain row has)
    (λ own. none_equal key chain row rows has own parts.0) (same_found key chain rows has parts.1)
  where
    by : (t u : Bool) → row_has key row ≡ t → is_chain chain row ≡ u → (is_chain chain row ≡ true → row_has key row ≡ true)
        → (row_has key row ≡ true → find (is_chain chain) rows ≡ None) → find (is_chain chain) rows ≡ if_equal chain (find (row_has key) rows)
        → cond u (Some row) (find (is_chain chain) rows) ≡ if_equal chain (cond t (Some row) (find (row_has key) rows))
    by true true own same so none rest = sym (ap (λ b. cond b (Some row) None) same)
    by true false own same so none rest = none own ∙ sym (ap (λ b. cond b (Some row) None) same)
    by false true own same so none rest = absurd (true≢false (sym (so same) ∙ own))
    by false false own same so none rest = rest

pub equal_number : (key : ChainKey) (chain : Chain) (rows : List Row) (found : Option Row) → has_key key chain.matches ≡ true → has_clash (map match_of rows) ≡ false
    → found ≡ find (row_has key) rows → number_in (if_equal chain found) ≡ number_in (find (is_chain chain) rows)
equal_number key chain rows found has apart is = ap (λ f. number_in (if_equal chain f)) is ∙ sym (ap number_in (same_found key chain rows has apart))

pub number_if : (chain : Chain) (row : Row) → cond (is_chain chain row) (Some row.number) None ≡ number_in (if_equal chain (Some row))
number_if chain row = by (is_chain chain row)
  where
    by : (t : Bool) → cond t (Some row.number) None ≡ number_in (cond t (Some row) None)
    by true = refl
    by false = refl

-- The table by name of what a response made.
use Rattle.std.proofs.Common.{◌≡◌, ℕ, Bool, true, false, ◌||◌, List, [], ◌∷◌, ◌++◌, filter, map, Option, Some, cond, refl, ap, ◌∙◌}
use Rattle.std.specs.Map.{lookup}
use Rattle.indexmap.specs.IndexMap.{insert_entry}
use Rattle.std.proofs.lemmas.List.{map-append}
use Rattle.std.proofs.lemmas.List.Elements.{filter-append}
use Rattle.ev_model.specs.Verdicts.{shares_address}
use Rattle.std.specs.Option.{is_some}
use Rattle.std.specs.Str.{bytes_eq}
use Rattle.std.proofs.lemmas.Bool.{true≢false, false≢true}
use Rattle.std.proofs.lemmas.Cmp.{nat_list_eq_equiv}
use Rattle.ev_types.specs.declared.hosts.SocketAddress.{SocketAddress}
use Rattle.ev_verdicts.specs.Judged.{MadeKept, is_made, names_at}

-- a name is found exactly where one of it was made
pub found_made : (name : List ℕ) (made : MadeKept) → is_some (lookup (bytes_eq name) made) ≡ is_made made name
found_made name [] = refl
found_made name (m ∷ made) = by (bytes_eq name m.0) (bytes_eq m.0 name) (nat_list_eq_equiv.symm name m.0) (found_made name made)
  where
    by : (t u : Bool) → t ≡ u → is_some (lookup (bytes_eq name) made) ≡ is_made made name
        → is_some (cond t (Some m.1) (lookup (bytes_eq name) made)) ≡ (u || is_made made name)
    by true true h rest = refl
    by true false h rest = absurd (true≢false h)
    by false true h rest = absurd (false≢true h)
    by false false h rest = rest

-- a name that isn't there goes last
pub put_last : (name : List ℕ) (place : Option SocketAddress) (made : MadeKept) → is_made made name ≡ false → insert_entry bytes_eq made name place ≡ made ++ (name, place) ∷ []
put_last name place [] none = refl
put_last name place (m ∷ made) none = by (bytes_eq name m.0) (bytes_eq m.0 name) (nat_list_eq_equiv.symm name m.0) none (put_last name place made)
  where
    by : (t u : Bool) → t ≡ u → (u || is_made made name) ≡ false → (is_made made name ≡ false → insert_entry bytes_eq made name place ≡ made ++ (name, place) ∷ [])
        → cond t ((m.0, place) ∷ made) (m ∷ insert_entry bytes_eq made name place) ≡ m ∷ (made ++ (name, place) ∷ [])
    by true true h isnt rest = absurd (true≢false isnt)
    by true false h isnt rest = absurd (true≢false h)
    by false true h isnt rest = absurd (true≢false isnt)
    by false false h isnt rest = ap (λ ms. m ∷ ms) (rest isnt)

-- the names at an address, with one more
pub at_more : (made : MadeKept) (name : List ℕ) (place : Option SocketAddress) (address : SocketAddress)
    → names_at address (made ++ (name, place) ∷ []) ≡ names_at address made ++ (cond (shares_address place (Some address)) (name ∷ []) [])
at_more made name place address =
    let at = λ (m : List ℕ × Option SocketAddress). shares_address m.1 (Some address) in
    let first = λ (m : List ℕ × Option SocketAddress). m.0 in
    ap (map first) (filter-append at made ((name, place) ∷ []))
    ∙ map-append first (filter at made) (filter at ((name, place) ∷ []))
    ∙ ap (λ ns. names_at address made ++ ns) (by (shares_address place (Some address)) refl)
  where
    by : (t : Bool) → shares_address place (Some address) ≡ t → names_at address ((name, place) ∷ []) ≡ cond t (name ∷ []) []
    by true is = simp (is) refl
    by false is = simp (is) refl

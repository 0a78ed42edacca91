-- Names that generations began or ceased to depend on: what a walk over numbers gathers, and where a name is held.
use Rattle.std.proofs.Common.{◌≡◌, ◌∙◌, ℕ, suc, ◌+◌, ◌-◌, ◌<◌, ◌≤◌, Bool, true, false, cond, ◌&&◌, ◌||◌, List, [], ◌∷◌, ◌++◌, Option, filter, unwrap_or, refl, sym, ap, arith}
use Rattle.std.proofs.lemmas.List.{append-nil}
use Rattle.std.specs.Prelude.{nat_le}
use Rattle.std.specs.List.{list_any, flat_map}
use Rattle.std.specs.Map.{lookup}
use Rattle.std.proofs.lemmas.Bool.{leb-true, leb-false}
use Rattle.std.proofs.lemmas.Grind.{flat_map-append}
use Rattle.ev_types.specs.declared.rows.GenRow.{GenRow}
use Rattle.ev_indexes.specs.Tables.{numbers_of}
use Rattle.ev_lookups.specs.Keys.{key_same}
use Rattle.ev_lookups.specs.declared.kind_keys.Key.{Key}
use Rattle.ev_indexes.specs.declared.state.State.{State}
use Rattle.ev_indexes.specs.declared.watches.Watch.{Watch}
use Rattle.ev_indexes.specs.Watched.{unwatched}
use Rattle.ev_indexes.specs.Indexes.{IsIndexed, depends_on, waits, numbers_where}
use Rattle.ev_indexes.specs.Moved.{is_held, numbers_after}
use Rattle.ev_indexes.proofs.KeptLemmas.{kept_at-found}
use Rattle.ev_indexes.proofs.WaitLemmas.{any-either, depends_on-waits}

-- a walk begins with no number
pub after-none : {X : Type 0} (f : ℕ → List X) (made : ℕ) → [] ≡ flat_map f (numbers_after made (made - made))
after-none f made =
    let none : 0 ≡ made - made = omega arith in
    λ i. flat_map f (numbers_after made (none i))

-- and goes on by one
pub after-more : {X : Type 0} (f : ℕ → List X) (made number : ℕ) → made ≤ number
    → flat_map f (numbers_after made (number - made)) ++ f (number + 1) ≡ flat_map f (numbers_after made ((number + 1) - made))
after-more f made number later =
    let next : suc (number - made) ≡ (number + 1) - made = omega arith in
    let last : number + 1 ≡ made + suc (number - made) = omega arith in
    (λ i. flat_map f (numbers_after made (number - made)) ++ sym (append-nil (f (last i))) i)
    ∙ sym (flat_map-append f (numbers_after made (number - made)) ((made + suc (number - made)) ∷ []))
    ∙ (λ i. flat_map f (numbers_after made (next i)))

-- it ends with the last number
pub after-all : {X : Type 0} (f : ℕ → List X) (made drawn number : ℕ) → drawn ≤ number → (made ≤ drawn → number ≤ drawn) → (drawn ≤ made → number ≡ made)
    → flat_map f (numbers_after made (number - made)) ≡ flat_map f (numbers_after made (drawn - made))
after-all f made drawn number late early none =
    let all : number - made ≡ drawn - made = by (nat_le drawn made) refl in
    λ i. flat_map f (numbers_after made (all i))
  where
    by : (b : Bool) → nat_le drawn made ≡ b → number - made ≡ drawn - made
    by true is =
        let low : drawn ≤ made = leb-true drawn made is in
        let same : number ≡ made = none low in
        omega arith
    by false isnt =
        let high : made < drawn = leb-false drawn made isnt in
        let last : number ≤ drawn = early (omega arith) in
        omega arith

-- one of the numbers of the rows that pass is one of the first where one of the first rows passes
first-where : (made : ℕ) (test : GenRow → Bool) (rows : List GenRow) → list_any (λ n. nat_le n made) (numbers_where test rows) ≡ list_any (λ (row : GenRow). nat_le row.number made && test row) rows
first-where made test [] = refl
first-where made test (row ∷ rows) = by (test row) (first-where made test rows)
  where
    and_true : (b : Bool) → b ≡ (b && true)
    and_true true = refl
    and_true false = refl

    and_false : (b : Bool) → false ≡ (b && false)
    and_false true = refl
    and_false false = refl

    by : (b : Bool) → list_any (λ n. nat_le n made) (numbers_where test rows) ≡ list_any (λ (row : GenRow). nat_le row.number made && test row) rows
        → list_any (λ n. nat_le n made) (numbers_of (cond b (row ∷ filter test rows) (filter test rows)))
        ≡ ((nat_le row.number made && b) || list_any (λ (row : GenRow). nat_le row.number made && test row) rows)
    by true rest = λ i. and_true (nat_le row.number made) i || rest i
    by false rest = rest ∙ (λ i. and_false (nat_le row.number made) i || list_any (λ (row : GenRow). nat_le row.number made && test row) rows)

-- a name is held where one of those that wait for it, without a limit or within one, is one of the first
held-by : (made : ℕ) (key : Key) (rows : List GenRow)
    → (list_any (λ n. nat_le n made) (numbers_where (waits key false) rows) || list_any (λ n. nat_le n made) (numbers_where (waits key true) rows)) ≡ is_held made rows key
held-by made key rows =
    (λ i. first-where made (waits key false) rows i || first-where made (waits key true) rows i)
    ∙ sym (any-either (λ (row : GenRow). nat_le row.number made && depends_on key row) (λ (row : GenRow). nat_le row.number made && waits key false row)
    (λ (row : GenRow). nat_le row.number made && waits key true row)
    (λ row. ap (λ b. nat_le row.number made && b) (depends_on-waits key row) ∙ spread (nat_le row.number made) (waits key false row) (waits key true row)) rows)
  where
    spread : (m a b : Bool) → (m && (a || b)) ≡ ((m && a) || (m && b))
    spread true a b = refl
    spread false a b = refl

pub held-found : (s : State) (x : IsIndexed s) (made : ℕ) (key : Key) (o : Option Watch) → lookup (key_same key) s.watches ≡ o
    → (list_any (λ n. nat_le n made) (unwrap_or o unwatched).unlimited || list_any (λ n. nat_le n made) (unwrap_or o unwatched).limited) ≡ is_held made s.table.rows key
held-found s x made key o found =
    (λ i. list_any (λ n. nat_le n made) (sym (kept_at-found unwatched s.watches key o found) i).unlimited
    || list_any (λ n. nat_le n made) (sym (kept_at-found unwatched s.watches key o found) i).limited)
    ∙ (λ i. list_any (λ n. nat_le n made) (x.unlimited key i) || list_any (λ n. nat_le n made) (x.limited key i))
    ∙ held-by made key s.table.rows

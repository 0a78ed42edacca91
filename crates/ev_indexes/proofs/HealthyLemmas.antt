-- A host that is as healthy as a result says, of a state and of the worlds that it represents.
use Rattle.std.proofs.Common.{◌≡◌, ◌∙◌, ℕ, Bool, true, false, true≢false, ◌||◌, nat_eq, List, [], ◌∷◌, Option, None, Some, IsSome, unwrap_or, refl, sym, ap}
use Rattle.std.specs.List.{list_all}
use Rattle.std.proofs.lemmas.Bool.{and_parts, eqb-true}
use Rattle.ev_types.specs.Same.{bool_same, bool_decides}
use Rattle.ev_types.specs.declared.hosts.Host.{Host}
use Rattle.ev_types.specs.declared.rows.GenRow.{GenRow}
use Rattle.ev_model.specs.Warming.{is_healthy}
use Rattle.ev_model.specs.World.{World}
use Rattle.ev_indexes.specs.KeptEndpoints.{result_in}
use Rattle.ev_indexes.specs.Tables.{row_in}
use Rattle.ev_lookups.specs.declared.kind_keys.Key.{Key}
use Rattle.ev_indexes.specs.declared.state.State.{State}
use Rattle.ev_indexes.specs.Due.{is_one_of}
use Rattle.ev_indexes.specs.Indexes.{IsIndexed, numbers_where, passes, serves}
use Rattle.ev_indexes.specs.Reads.{is_as_healthy}
use Rattle.ev_indexes.specs.Worlds.{HasRows}
use Rattle.ev_indexes.proofs.WhereLemmas.{among-row}

-- what holds of all numbers holds of one of them
all-one : (p : ℕ → Bool) (ns : List ℕ) (n : ℕ) → list_all p ns ≡ true → is_one_of ns n ≡ true → p n ≡ true
all-one p [] n all one = absurd (true≢false (sym one))
all-one p (m ∷ ns) n all one =
    let parts = and_parts (p m) (list_all p ns) all in
    by parts.0 (nat_eq n m) refl one (all-one p ns n parts.1)
  where
    by : p m ≡ true → (b : Bool) → nat_eq n m ≡ b → (b || is_one_of ns n) ≡ true → (is_one_of ns n ≡ true → p n ≡ true) → p n ≡ true
    by here true e h rest = ap p (eqb-true n m e) ∙ here
    by here false e h rest = rest h

pub as-healthy-world : (s : State) (world : World) → HasRows s world → IsIndexed s → (key : Key) (host : Host) (healthy : Bool)
    → is_as_healthy s key host healthy ≡ true → (n : ℕ) → is_one_of (numbers_where (serves key) s.table.rows) n ≡ true
    → is_healthy world.results n host ≡ healthy
as-healthy-world s world stands x key host healthy all n one =
    sym (stands.healthy n host (found (row_in n s.table.rows) (sym (among-row (serves key) n s.table.rows x.table.apart) ∙ one)))
    ∙ (bool_decides (unwrap_or (result_in s.results n host) false) healthy).0
    (all-one (λ m. bool_same (unwrap_or (result_in s.results m host) false) healthy) (numbers_where (serves key) s.table.rows) n all one)
  where
    found : (o : Option GenRow) → passes (serves key) o ≡ true → IsSome o
    found None h = absurd (true≢false (sym h))
    found (Some row) h = refl

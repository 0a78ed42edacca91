-- Who holds an address: by the index, by the rows, and in the world.
use Rattle.std.proofs.Common.{◌≡◌, ◌∙◌, ◌&&◌, Bool, true, false, cond, List, [], ◌∷◌, ◌++◌, Some, option_to_list, filter, map, refl, ap}
use Rattle.std.specs.List.{flat_map, AllByRecursion}
use Rattle.ev_types.specs.Statuses.{is_live}
use Rattle.ev_types.specs.declared.hosts.SocketAddress.{SocketAddress}
use Rattle.ev_types.specs.declared.rows.GenRow.{GenRow}
use Rattle.ev_model.specs.World.{World}
use Rattle.ev_model.specs.Live.{live_of}
use Rattle.ev_indexes.specs.Tables.{row_in, numbers_of}
use Rattle.ev_lookups.specs.Lives.{is_at}
use Rattle.ev_indexes.specs.declared.state.State.{State}
use Rattle.ev_indexes.specs.Addresses.{listens_at, lives_numbered, lives_listed}
use Rattle.ev_indexes.specs.Indexes.{IsIndexed, holds, numbers_where}
use Rattle.ev_indexes.specs.Reads.{holders_in, holders_of}
use Rattle.ev_indexes.specs.Worlds.{HasRows}
use Rattle.ev_indexes.proofs.WhereLemmas.{own-rows}

found_all : (test : GenRow → Bool) (full rows : List GenRow) → AllByRecursion (λ (r : GenRow). row_in r.number full ≡ Some r) rows
    → flat_map (λ number. option_to_list (row_in number full)) (numbers_where test rows) ≡ filter test rows
found_all test full [] own = refl
found_all test full (row ∷ rows) own = by (test row) (found_all test full rows own.1)
  where
    by : (t : Bool) → flat_map (λ number. option_to_list (row_in number full)) (numbers_where test rows) ≡ filter test rows
        → flat_map (λ number. option_to_list (row_in number full)) (numbers_of (cond t (row ∷ filter test rows) (filter test rows))) ≡ cond t (row ∷ filter test rows) (filter test rows)
    by true more = λ i. option_to_list (own.0 i) ++ more i
    by false more = more

-- who holds an address in the world
among_holders : (address : SocketAddress) (rows : List GenRow)
    → map live_of (filter (holds address) rows) ≡ filter (is_at address) (map live_of (filter (λ (row : GenRow). is_live row.status) rows))
among_holders address [] = refl
among_holders address (row ∷ rows) = by (is_live row.status) (listens_at address row.content) refl (among_holders address rows)
  where
    by : (l a : Bool) → listens_at address row.content ≡ a
        → map live_of (filter (holds address) rows) ≡ filter (is_at address) (map live_of (filter (λ (r : GenRow). is_live r.status) rows))
        → map live_of (cond (l && a) (row ∷ filter (holds address) rows) (filter (holds address) rows))
        ≡ filter (is_at address) (map live_of (cond l (row ∷ filter (λ (r : GenRow). is_live r.status) rows) (filter (λ (r : GenRow). is_live r.status) rows)))
    by true true a more = simp (a) (ap (λ ls. live_of row ∷ ls) more)
    by true false a more = simp (a) more
    by false a at more = more

module _ (s : State) (x : IsIndexed s) (address : SocketAddress) where
  -- the generations that the index has at an address are the rows that hold it
  pub holders-rows : lives_listed s.table.rows s.addresses address ≡ holders_in s.table.rows address
  holders-rows = ap (lives_numbered s.table.rows) (x.holders address) ∙ ap (map live_of) (found_all (holds address) s.table.rows s.table.rows (own-rows s.table.rows x.table.apart))

  -- and those of the world
  pub holders-world : (world : World) → HasRows s world → holders_in s.table.rows address ≡ holders_of world address
  holders-world world stands = ap (λ (rows : List GenRow). holders_in rows address) stands.rows ∙ among_holders address world.rows

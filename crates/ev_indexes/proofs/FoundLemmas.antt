-- What is shown of one generation of a state that represents a world is what the machine shows of it.
use Rattle.std.proofs.Common.{◌≡◌, ◌∙◌, ℕ, cond, ◌&&◌, Option, None, Some, IsSome, refl, sym, subst}
use Rattle.ev_types.specs.Kinds.{kind_same}
use Rattle.ev_types.specs.Statuses.{is_active}
use Rattle.ev_types.specs.declared.contents.Kind.TheVariants.{Cds, Lds}
use Rattle.ev_types.specs.declared.rows.GenRow.{GenRow}
use Rattle.ev_model.specs.World.{World}
use Rattle.ev_indexes.specs.Tables.{row_in}
use Rattle.ev_indexes.proofs.TableLemmas.{number-row_in}
use Rattle.ev_indexes.specs.declared.state.State.{State}
use Rattle.ev_indexes.specs.Worlds.{HasRows}
use Rattle.ev_indexes.specs.Shown.{cluster_shown, cluster_at, first_of, listener_shown, cluster_shown_in, listener_shown_in}
use Rattle.ev_indexes.proofs.ShownLemmas.{cluster-world, listener-world}

module _ (s : State) (world : World) (stands : HasRows s world) (n : ℕ) where
  pub cluster-found : cluster_shown_in s.watches s.results (row_in n s.table.rows) ≡ cluster_at world n
  cluster-found = by (row_in n s.table.rows) refl ∙ (λ i. cluster_shown world.arrivals world.results (row_in n (stands.rows i)))
    where
      by : (o : Option GenRow) → row_in n s.table.rows ≡ o → cluster_shown_in s.watches s.results o ≡ cluster_shown world.arrivals world.results o
      by None at = refl
      by (Some r) at =
          let there : IsSome (row_in r.number s.table.rows) = subst IsSome (sym ((λ i. row_in (number-row_in n r s.table.rows at i) s.table.rows) ∙ at)) refl in
          λ i. cond (kind_same r.kind Cds && is_active r.status) (Some (cluster-world s world stands r there i)) None

  pub listener-found : listener_shown_in s.watches (row_in n s.table.rows) ≡ listener_shown world.arrivals (row_in n world.rows)
  listener-found = by (row_in n s.table.rows) ∙ (λ i. listener_shown world.arrivals (row_in n (stands.rows i)))
    where
      by : (o : Option GenRow) → listener_shown_in s.watches o ≡ listener_shown world.arrivals o
      by None = refl
      by (Some r) = λ i. cond (kind_same r.kind Lds && is_active r.status) (first_of (listener-world s world stands r i)) None

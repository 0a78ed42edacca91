-- A state in which nothing is known: its indexes are searches of no rows,
-- and it represents a world in which nothing happened.
use Rattle.std.proofs.Common.{◌≡◌, ◌∙◌, ℕ, true, false, List, [], IsSome, option_to_list, refl, sym, subst}
use Rattle.std.specs.List.{IsDistinct}
use Rattle.ev_types.specs.declared.rows.GenRow.{GenRow}
use Rattle.ev_model.specs.World.{opening}
use Rattle.ev_indexes.specs.KeptEndpoints.{result_in, marked_in}
use Rattle.ev_indexes.specs.Tables.{IsTable, row_in}
use Rattle.ev_indexes.specs.declared.state.State.{State}
use Rattle.ev_indexes.specs.Addresses.{numbers_at}
use Rattle.ev_indexes.specs.Due.{is_one_of}
use Rattle.ev_indexes.specs.Standings.{standing_in}
use Rattle.ev_indexes.specs.Watched.{watch_in}
use Rattle.ev_indexes.specs.Ready.{is_due_at}
use Rattle.ev_indexes.specs.Indexes.{IsIndexed, serves, warms, waits, holds, numbers_where}
use Rattle.ev_indexes.specs.Worlds.{HasRows}

empty_table : (made : ℕ) → IsTable (record { rows = []; made = made })
unfolding IsDistinct
empty_table made = record { apart = tt; drawn = λ number above. refl }

module _ (s : State) (rows : s.table.rows ≡ []) (made : s.table.made ≡ 0) (names : s.names ≡ []) (watches : s.watches ≡ []) (addresses : s.addresses ≡ []) (results : s.results ≡ record { hosts = []; marked = [] }) (due : s.due ≡ []) where
  pub indexed-new : IsIndexed s
  indexed-new = record {
    table =
        let same : s.table ≡ record { rows = []; made = s.table.made } = λ i. record { rows = rows i; made = s.table.made } in
        subst IsTable (sym same) (empty_table s.table.made);
    active = λ q. (λ i. option_to_list (standing_in (names i) q).active) ∙ (λ i. numbers_where (serves q) (sym rows i));
    warming = λ q. (λ i. option_to_list (standing_in (names i) q).warming) ∙ (λ i. numbers_where (warms q) (sym rows i));
    unlimited = λ q. (λ i. (watch_in (watches i) q).unlimited) ∙ (λ i. numbers_where (waits q false) (sym rows i));
    limited = λ q. (λ i. (watch_in (watches i) q).limited) ∙ (λ i. numbers_where (waits q true) (sym rows i));
    holders = λ a. (λ i. numbers_at (addresses i) a) ∙ (λ i. numbers_where (holds a) (sym rows i));
    due = λ n. (λ i. is_one_of (due i) n) ∙ (λ i. is_due_at s.watches s.results n (sym rows i));
    drawn = λ n h above. (λ i. result_in (results i) n h);
    unmarked = λ n above. (λ i. marked_in (results i) n);
  }

  pub stands-new : (workers : ℕ) (node : List ℕ) → HasRows s (opening workers node)
  stands-new workers node = record {
    sound = record { table = empty_table 0; typed = tt; named = tt; heard = λ n h above. refl };
    rows = rows;
    made = made;
    told = λ q. λ i. (watch_in (watches i) q).told;
    timed = λ q. λ i. (watch_in (watches i) q).timed;
    value = λ q. λ i. (watch_in (watches i) q).value;
    resulted = λ n h there. nobody n there;
    healthy = λ n h there. nobody n there;
  }
    where
      nobody : {A : Type 0} (n : ℕ) → IsSome (row_in n s.table.rows) → A
      nobody n there =
          let none : IsSome (row_in n []) = subst (λ (rs : List GenRow). IsSome (row_in n rs)) rows there in
          absurd (true_is_false none)
        where
          true_is_false : false ≡ true → ⊥
          true_is_false e = cc

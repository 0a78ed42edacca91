-- Where listeners come to serve, a picture may show something else of each that is live.
use Rattle.std.proofs.Common.{◌≡◌, ◌∙◌, ℕ, Bool, true, false, cond, not, ◌&&◌, List, [], Option, None, Some, refl, sym}
use Rattle.std.specs.Option.{option_and_then}
use Rattle.std.proofs.lemmas.Bool.{false≢true}
use Rattle.ev_types.specs.declared.contents.Kind.TheVariants.{Lds}
use Rattle.ev_types.specs.declared.rows.Phase.{Phase}
use Rattle.ev_types.specs.declared.rows.Phase.TheVariants.{Clusters, Listeners, Serving}
use Rattle.ev_types.specs.declared.rows.GenRow.{GenRow}
use Rattle.ev_model.specs.World.{World}
use Rattle.ev_model.specs.Phase.{is_serving, clusters_have_come, listeners_have_come, phase_from, phase_after}
use Rattle.ev_model.specs.Tidy.{with_phase}
use Rattle.ev_indexes.specs.Tables.{row_in}
use Rattle.ev_indexes.specs.declared.state.State.{State}
use Rattle.ev_indexes.specs.Due.{is_one_of}
use Rattle.ev_indexes.specs.Indexes.{numbers_where}
use Rattle.ev_indexes.specs.Reads.{lives_as}
use Rattle.ev_indexes.specs.Shown.{listener_shown}
use Rattle.ev_indexes.proofs.WhereLemmas.{among-where}
use Rattle.ev_state.specs.Changed.{HaveChanged, listeners_begun}
use Rattle.ev_state.proofs.StillLemmas.{serving}
use Rattle.ev_state.proofs.KeepLemmas.{served-is, active-live}
use Rattle.ev_state.proofs.SameLemmas.{first_served, listener-served}
use Rattle.ev_state.proofs.DependLemmas.{served-at}

-- listeners that serve don't cease to
stays_serving : (clusters_come listeners_come : Bool) (phase : Phase) → is_serving phase ≡ true → is_serving (phase_from clusters_come listeners_come phase) ≡ true
stays_serving c l Clusters h = absurd (false≢true h)
stays_serving c l Listeners h = absurd (false≢true h)
stays_serving c l Serving h = refl

-- a number that no live listener has is shown in neither phase
dead_hidden : (n : ℕ) (s : State) (world : World) → s.table.rows ≡ world.rows → is_one_of (numbers_where (lives_as Lds) s.table.rows) n ≡ false
    → listener_shown world.arrivals (row_in n world.rows) ≡ None
dead_hidden n s world are none = listener-served world.arrivals (row_in n world.rows) ∙ by (serving Lds (row_in n world.rows)) refl
  where
    by : (found : Option GenRow) → serving Lds (row_in n world.rows) ≡ found → option_and_then (first_served world.arrivals) found ≡ None
    by None at = refl
    by (Some row) at =
        let served = served-is Lds (row_in n world.rows) row at in
        absurd (false≢true (sym none
        ∙ among-where (lives_as Lds) n row s.table.rows (served-at Lds n row world.rows s.table.rows are at)
        (λ i. active-live row.status served.active i && served.same i)))

pub begun-changed : (changed : List ℕ) (s : State) (world : World) → s.table.rows ≡ world.rows
    → ((n : ℕ) → is_one_of changed n ≡ false → is_one_of (listeners_begun world.phase (phase_after world) s) n ≡ false)
    → HaveChanged changed world (with_phase world)
begun-changed changed s world are told = record {
  clusters = λ n other. refl;
  listeners = λ n other.
      by n (is_serving world.phase) (is_serving (phase_after world)) (told n other) (stays_serving (clusters_have_come world) (listeners_have_come world) world.phase);
}
  where
    by : (n : ℕ) (b c : Bool) → is_one_of (cond (not b && c) (numbers_where (lives_as Lds) s.table.rows) []) n ≡ false → (b ≡ true → c ≡ true)
        → cond c (listener_shown world.arrivals (row_in n world.rows)) None ≡ cond b (listener_shown world.arrivals (row_in n world.rows)) None
    by n true true none stays = refl
    by n true false none stays = absurd (false≢true (stays refl))
    by n false true none stays = dead_hidden n s world are none
    by n false false none stays = refl

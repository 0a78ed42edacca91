-- A generation that is over goes: which rows are left, and that the live ones stay.
use Rattle.std.proofs.Common.{◌≡◌, ◌∙◌, ℕ, Bool, true, false, cond, not, ◌&&◌, nat_eq, List, [], ◌∷◌, Option, None, Some, filter, map, refl, sym, ap, subst}
use Rattle.std.specs.List.{All, IsDistinct}
use Rattle.std.proofs.lemmas.Bool.{false≢true, true≢false}
use Rattle.std.proofs.lemmas.Map.Keys.{IsDistinct-tail}
use Rattle.ev_types.specs.Statuses.{is_live}
use Rattle.ev_types.specs.declared.rows.GenRow.{GenRow}
use Rattle.ev_types.specs.declared.rows.Live.{Live}
use Rattle.ev_model.specs.World.{World}
use Rattle.ev_model.specs.Live.{live_of}
use Rattle.ev_indexes.specs.Tables.{is_number, row_in, numbers_of, without_row}
use Rattle.ev_indexes.proofs.TableLemmas.{without_row-absent}
use Rattle.ev_warming.specs.Changes.{is_over}
use Rattle.ev_managers.specs.declared.managers.Managers.{Managers}
use Rattle.ev_managers.specs.Managers.{AreForgotten, AreManagersKept, StandFor}
use Rattle.ev_state.specs.declared.state.State.{State}
use Rattle.ev_state.specs.States.{ManagesAt, over_in, where_over, without_over}
use Rattle.ev_state.proofs.AgeLemmas.{later-same}
use Rattle.ev_state.proofs.FindLemmas.{none-behind}
use Rattle.ev_state.proofs.HeardLemmas.{IsDue}
use Rattle.ev_state.proofs.RestLemmas.{rest_boots}
use Rattle.ev_state.proofs.WholeLemmas.{left-whole}

-- no row has the number
absent_stay : (n : ℕ) (rows : List GenRow) → row_in n rows ≡ None → without_over n rows ≡ rows
absent_stay n [] none = refl
absent_stay n (row ∷ rows) none = by (nat_eq n row.number) none (absent_stay n rows)
  where
    by : (b : Bool) → cond b (Some row) (row_in n rows) ≡ None → (row_in n rows ≡ None → without_over n rows ≡ rows)
        → cond (not (b && not (is_live row.status))) (row ∷ without_over n rows) (without_over n rows) ≡ row ∷ rows
    by true none rest = absurd (cc)
    by false none rest = ap (λ (rs : List GenRow). row ∷ rs) (rest none)

-- where the one of the number isn't over, all stay
pub over-stays : (n : ℕ) (rows : List GenRow) → IsDistinct nat_eq (numbers_of rows) → is_over (row_in n rows) ≡ false → without_over n rows ≡ rows
over-stays n [] apart isnt = refl
over-stays n (row ∷ rows) apart isnt = by (nat_eq n row.number) refl isnt (over-stays n rows (IsDistinct-tail nat_eq row.number (numbers_of rows) apart))
  where
    by : (b : Bool) → nat_eq n row.number ≡ b → is_over (cond b (Some row) (row_in n rows)) ≡ false → (is_over (row_in n rows) ≡ false → without_over n rows ≡ rows)
        → cond (not (b && not (is_live row.status))) (row ∷ without_over n rows) (without_over n rows) ≡ row ∷ rows
    by true is isnt rest =
        (λ i. cond (not (isnt i)) (row ∷ without_over n rows) (without_over n rows))
        ∙ ap (λ (rs : List GenRow). row ∷ rs) (absent_stay n rows (none-behind n row rows apart is))
    by false other isnt rest = ap (λ (rs : List GenRow). row ∷ rs) (rest isnt)

-- where it is over, it alone goes
pub over-goes : (n : ℕ) (rows : List GenRow) → IsDistinct nat_eq (numbers_of rows) → is_over (row_in n rows) ≡ true → without_over n rows ≡ without_row n rows
over-goes n [] apart over = absurd (false≢true over)
over-goes n (row ∷ rows) apart over = by (nat_eq n row.number) refl over (over-goes n rows (IsDistinct-tail nat_eq row.number (numbers_of rows) apart))
  where
    by : (b : Bool) → nat_eq n row.number ≡ b → is_over (cond b (Some row) (row_in n rows)) ≡ true → (is_over (row_in n rows) ≡ true → without_over n rows ≡ without_row n rows)
        → cond (not (b && not (is_live row.status))) (row ∷ without_over n rows) (without_over n rows) ≡ cond (not b) (row ∷ without_row n rows) (without_row n rows)
    by true is over rest =
        let none : row_in n rows ≡ None = none-behind n row rows apart is in
        (λ i. cond (not (over i)) (row ∷ without_over n rows) (without_over n rows)) ∙ absent_stay n rows none ∙ sym (without_row-absent n rows none)
    by false other over rest = ap (λ (rs : List GenRow). row ∷ rs) (rest over)

-- the live ones stay
live_stay : (n : ℕ) (rows : List GenRow) → filter (λ (row : GenRow). is_live row.status) (without_over n rows) ≡ filter (λ (row : GenRow). is_live row.status) rows
live_stay n [] = refl
live_stay n (row ∷ rows) = by (nat_eq n row.number) (is_live row.status) refl (live_stay n rows)
  where
    lives : List GenRow → List GenRow
    lives rs = filter (λ (r : GenRow). is_live r.status) rs

    by : (b l : Bool) → is_live row.status ≡ l → lives (without_over n rows) ≡ lives rows
        → lives (cond (not (b && not l)) (row ∷ without_over n rows) (without_over n rows)) ≡ cond l (row ∷ lives rows) (lives rows)
    by true true is rest = (λ i. cond (is i) (row ∷ lives (without_over n rows)) (lives (without_over n rows))) ∙ ap (λ (rs : List GenRow). row ∷ rs) rest
    by true false isnt rest = rest
    by false true is rest = (λ i. cond (is i) (row ∷ lives (without_over n rows)) (lives (without_over n rows))) ∙ ap (λ (rs : List GenRow). row ∷ rs) rest
    by false false isnt rest = (λ i. cond (isnt i) (row ∷ lives (without_over n rows)) (lives (without_over n rows))) ∙ rest

-- after a removal
pub at-removed : (s : State) (m : Managers) (n : ℕ) (world : World) → ManagesAt s world → AreManagersKept m → AreForgotten m
    → StandFor m (record world { rows = without_over n world.rows }) → ManagesAt (record s { managers = m }) (record world { rows = without_over n world.rows })
at-removed s m n world at kept forgotten stand =
    let after : World = record world { rows = without_over n world.rows } in
    let had = at.follows.stands.subscription in
    record {
      kept = kept;
      forgotten = forgotten;
      follows = record {
        stands = record {
          managers = stand;
          subscription = record { node = had.node; stream = had.stream; versions = had.versions; kept_once = had.kept_once };
          targets = rest_boots s.targets world after (record { first_clusters = refl; first_listeners = refl; late_clusters = refl; late_listeners = refl; phase = refl }) at.follows.stands.targets;
        };
        sound = stand.sound;
        later = later-same world.made (without_over n world.rows);
        heard = subst (λ (lives : List Live). All (IsDue lives) world.versions) (ap (map live_of) (sym (live_stay n world.rows))) at.follows.heard;
        phase = refl;
      };
      whole = left-whole (λ (row : GenRow). not (is_number n row && not (is_live row.status))) world.rows at.whole;
    }

-- one that is over goes
pub one-goes : (s : State) (m : Managers) (n : ℕ) (world : World) → ManagesAt s world
    → is_over (row_in n s.managers.core.state.table.rows) ≡ true → AreManagersKept m → AreForgotten m → StandFor m (record world { rows = without_row n world.rows })
    → ManagesAt (record s { managers = m }) (record world { rows = without_over n world.rows })
one-goes s m n world at over kept forgotten stand =
    let ended : is_over (row_in n world.rows) ≡ true = (λ i. is_over (row_in n (sym at.follows.stands.managers.rows i))) ∙ over in
    at-removed s m n world at kept forgotten
    (subst (λ (left : List GenRow). StandFor m (record world { rows = left })) (sym (over-goes n world.rows at.follows.sound.table.apart ended)) stand)

-- where none of the number is over in the table, none is in the world
nothing-over : (s : State) (n : ℕ) (world : World) → ManagesAt s world → is_over (row_in n s.managers.core.state.table.rows) ≡ false → is_over (row_in n world.rows) ≡ false
nothing-over s n world at isnt = (λ i. is_over (row_in n (sym at.follows.stands.managers.rows i))) ∙ isnt

-- and nothing goes
pub nothing-goes : (s : State) (n : ℕ) (world : World) → ManagesAt s world → is_over (row_in n s.managers.core.state.table.rows) ≡ false
    → ManagesAt s (record world { rows = without_over n world.rows })
nothing-goes s n world at isnt =
    subst (λ (left : List GenRow). ManagesAt s (record world { rows = left }))
    (sym (over-stays n world.rows at.follows.sound.table.apart (nothing-over s n world at isnt))) at

-- what goes is the world's generation of its number
gone-over : (n : ℕ) (row : GenRow) (rows : List GenRow) → row_in n rows ≡ Some row → is_over (Some row) ≡ true → Some row ≡ over_in n rows
gone-over n row rows at over = sym ((λ i. where_over (at i)) ∙ by (is_live row.status) over)
  where
    by : (l : Bool) → not l ≡ true → cond l None (Some row) ≡ Some row
    by true isnt = absurd (false≢true isnt)
    by false is = refl

pub one-gone : (s : State) (n : ℕ) (row : GenRow) (world : World) → ManagesAt s world → row_in n s.managers.core.state.table.rows ≡ Some row
    → is_over (row_in n s.managers.core.state.table.rows) ≡ true → Some row ≡ over_in n world.rows
one-gone s n row world at found over =
    gone-over n row world.rows ((λ i. row_in n (sym at.follows.stands.managers.rows i)) ∙ found) (ap is_over (sym found) ∙ over)

none-over : (found : Option GenRow) → is_over found ≡ false → None ≡ where_over found
none-over None isnt = refl
none-over (Some row) isnt = by (is_live row.status) isnt
  where
    by : (l : Bool) → not l ≡ false → None ≡ cond l None (Some row)
    by true is = refl
    by false isnt = absurd (true≢false isnt)

pub nothing-gone : (s : State) (n : ℕ) (world : World) → ManagesAt s world → is_over (row_in n s.managers.core.state.table.rows) ≡ false → None ≡ over_in n world.rows
nothing-gone s n world at isnt = none-over (row_in n world.rows) (nothing-over s n world at isnt)

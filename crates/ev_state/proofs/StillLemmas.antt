-- Generations that stay as they were or retire: those that serve after an event served before it.
use Rattle.std.proofs.Common.{◌≡◌, ◌∙◌, ℕ, Bool, true, false, cond, not, ◌&&◌, nat_eq, List, [], ◌∷◌, ◌++◌, Option, None, Some, refl, sym, ap}
use Rattle.std.specs.Prelude.{⊤}
use Rattle.std.proofs.lemmas.Bool.{false≢true}
use Rattle.ev_types.specs.Kinds.{kind_same}
use Rattle.ev_types.specs.Statuses.{is_live, is_active}
use Rattle.ev_types.specs.declared.contents.Kind.{Kind}
use Rattle.ev_types.specs.declared.rows.RowStatus.{RowStatus}
use Rattle.ev_types.specs.declared.rows.RowStatus.TheVariants.{Warming, Active, Draining, Dropped}
use Rattle.ev_types.specs.declared.rows.GenRow.{GenRow}
use Rattle.ev_model.specs.Rows.{with_statuses}
use Rattle.ev_indexes.specs.Tables.{row_in}
use Rattle.ev_warming.specs.Changes.{is_over}

-- it is the same generation, but for its status, and that too where it is live after
pub record IsStill (before after : GenRow) : Type 0 where
  pub same : after ≡ record before { status = after.status }
  pub live : is_live after.status ≡ true → after.status ≡ before.status

-- what is found of a number after is what was found before, or a new one that doesn't serve
abbrev pub Still : Option GenRow → Option GenRow → Type 0
Still None None = ⊤
Still None (Some row) = is_active row.status ≡ false
Still (Some row) None = ⊥
Still (Some row) (Some other) = IsStill row other

pub still-itself : (found : Option GenRow) → Still found found
still-itself None = tt
still-itself (Some row) = record { same = refl; live = λ h. refl }

idle : (status : RowStatus) → is_live status ≡ false → is_active status ≡ false
idle Warming h = absurd (false≢true (sym h))
idle Active h = h
idle Draining h = refl
idle Dropped h = refl

pub still-then : (a b c : Option GenRow) → Still a b → Still b c → Still a c
still-then None None c x y = y
still-then None (Some row) None x y = absurd y
still-then None (Some row) (Some other) x y = by (is_live other.status) refl
  where
    by : (b : Bool) → is_live other.status ≡ b → is_active other.status ≡ false
    by true is = ap is_active (y.live is) ∙ x
    by false isnt = idle other.status isnt
still-then (Some row) None c x y = absurd x
still-then (Some row) (Some other) None x y = absurd y
still-then (Some row) (Some other) (Some last) x y = record {
  same = y.same ∙ (λ i. record (x.same i) { status = last.status });
  live = λ h. y.live h ∙ x.live (ap is_live (sym (y.live h)) ∙ h);
}

-- other statuses, of which none is new and live
pub still-statused : (f : GenRow → RowStatus) → ((row : GenRow) → is_live (f row) ≡ true → f row ≡ row.status) → (number : ℕ) (rows : List GenRow)
    → Still (row_in number rows) (row_in number (with_statuses f rows))
still-statused f stays number [] = tt
still-statused f stays number (row ∷ rows) = by (nat_eq number row.number) (still-statused f stays number rows)
  where
    by : (b : Bool) → Still (row_in number rows) (row_in number (with_statuses f rows))
        → Still (cond b (Some row) (row_in number rows)) (cond b (Some (record row { status = f row })) (row_in number (with_statuses f rows)))
    by true rest = record { same = refl; live = stays row }
    by false rest = rest

-- a new one after the others
pub still-more : (number : ℕ) (rows : List GenRow) (new : GenRow) → is_active new.status ≡ false → Still (row_in number rows) (row_in number (rows ++ new ∷ []))
still-more number [] new waits = by (nat_eq number new.number)
  where
    by : (b : Bool) → Still None (cond b (Some new) None)
    by true = waits
    by false = tt
still-more number (row ∷ rows) new waits = by (nat_eq number row.number) (still-more number rows new waits)
  where
    by : (b : Bool) → Still (row_in number rows) (row_in number (rows ++ new ∷ []))
        → Still (cond b (Some row) (row_in number rows)) (cond b (Some row) (row_in number (rows ++ new ∷ [])))
    by true rest = still-itself (Some row)
    by false rest = rest

-- what is found, where it is of the kind and serves
abbrev pub serving : Kind → Option GenRow → Option GenRow
serving kind None = None
serving kind (Some row) = cond (kind_same row.kind kind && is_active row.status) (Some row) None

none_serves : (b : Bool) (row : GenRow) → cond (b && false) (Some row) None ≡ None
none_serves true row = refl
none_serves false row = refl

-- where none retired, those that serve after served before
pub still-serves : (kind : Kind) (a b : Option GenRow) → Still a b → (is_over b && not (is_over a)) ≡ false → serving kind b ≡ serving kind a
still-serves kind None None x h = refl
still-serves kind None (Some row) x h = (λ i. cond (kind_same row.kind kind && x i) (Some row) None) ∙ none_serves (kind_same row.kind kind) row
still-serves kind (Some row) None x h = absurd x
still-serves kind (Some row) (Some other) x h =
    (λ i. serving kind (Some (x.same i)))
    ∙ by (kind_same row.kind kind) other.status row.status x.live h
  where
    by : (k : Bool) (st old : RowStatus) → (is_live st ≡ true → st ≡ old) → (not (is_live st) && not (not (is_live old))) ≡ false
        → cond (k && is_active st) (Some (record row { status = st })) None ≡ cond (k && is_active old) (Some (record row { status = old })) None
    by false st old live h = refl
    by true Warming Warming live h = refl
    by true Warming Active live h = absurd (let e : Warming ≡ Active = live refl in cc)
    by true Warming Draining live h = refl
    by true Warming Dropped live h = refl
    by true Active Warming live h = absurd (let e : Active ≡ Warming = live refl in cc)
    by true Active Active live h = refl
    by true Active Draining live h = absurd (let e : Active ≡ Draining = live refl in cc)
    by true Active Dropped live h = absurd (let e : Active ≡ Dropped = live refl in cc)
    by true Draining Warming live h = refl
    by true Draining Active live h = absurd (false≢true (sym h))
    by true Draining Draining live h = refl
    by true Draining Dropped live h = refl
    by true Dropped Warming live h = refl
    by true Dropped Active live h = absurd (false≢true (sym h))
    by true Dropped Draining live h = refl
    by true Dropped Dropped live h = refl

-- Generations after an event: which changes keep each in its place, and that one is found by its number as before.
use Rattle.std.proofs.Common.{◌≡◌, ◌∙◌, ℕ, ◌<◌, ◌≤◌, Bool, true, false, cond, ◌&&◌, nat_eq, List, [], ◌∷◌, ◌++◌, None, Some, refl, sym, ap, subst, arith}
use Rattle.std.specs.List.{AllByRecursion, fold, zip}
use Rattle.std.proofs.lemmas.Bool.{eqb-true, false≢true}
use Rattle.ev_types.specs.Items.{ItemParts, ResponseParts}
use Rattle.ev_types.specs.Kinds.{kind_same}
use Rattle.ev_types.specs.Statuses.{is_live, is_warming}
use Rattle.ev_types.specs.declared.contents.Kind.{Kind}
use Rattle.ev_types.specs.declared.contents.Kind.TheVariants.{Cds, Eds, Lds, Rds, Sds, Ecds}
use Rattle.ev_types.specs.declared.contents.Body.{Body}
use Rattle.ev_types.specs.declared.contents.Body.TheVariants.{Good, Bad, Beat}
use Rattle.ev_types.specs.declared.contents.Content.{Content}
use Rattle.ev_types.specs.declared.events.Verdict.{Verdict}
use Rattle.ev_types.specs.declared.events.Verdict.TheVariants.{New, InPlace, Back, Same, Kept, Unasked, Renewed, Refused}
use Rattle.ev_types.specs.declared.origins.KeptChain.{KeptChain}
use Rattle.ev_types.specs.declared.rows.RowStatus.{RowStatus}
use Rattle.ev_types.specs.declared.rows.RowStatus.TheVariants.{Warming, Active, Draining, Dropped}
use Rattle.ev_types.specs.declared.rows.GenRow.{GenRow}
use Rattle.ev_model.specs.World.{World}
use Rattle.ev_model.specs.Live.{lives_of}
use Rattle.ev_model.specs.Watching.{is_watched}
use Rattle.ev_model.specs.Rows.{with_statuses, removed_status, replaced_status, status_left, is_row_of, new_row, rows_with_new, serving_row, with_removals, add_row, go_back, keep_version, keep_value, with_content, refuse, add_item, add_items}
use Rattle.ev_model.specs.Origins.{kept_from}
use Rattle.ev_model.specs.Signals.{ended_status, with_end, forget_version}
use Rattle.ev_model.specs.Tidy.{status_by}
use Rattle.ev_model.specs.Verdicts.{is_removed}
use Rattle.ev_indexes.specs.Tables.{row_in}
use Rattle.ev_state.specs.Ages.{IsLater, AreLater}

abbrev AreNew : ℕ → List GenRow → Type 0
AreNew made rows = AllByRecursion (λ (row : GenRow). made < row.number) rows

itself : (row : GenRow) → IsLater row row
itself row = record { same = refl; over = λ h. refl }

pub later-same : (made : ℕ) (rows : List GenRow) → AreLater made rows rows
later-same made [] = tt
later-same made (row ∷ rows) = (itself row, later-same made rows)

one_then : (a b c : GenRow) → IsLater a b → IsLater b c → IsLater a c
one_then a b c x y = record { same = y.same ∙ (λ i. record (x.same i) { status = c.status }); over = λ h. y.over (ap is_live (x.over h) ∙ h) ∙ x.over h }

new_then : (made : ℕ) (b c : List GenRow) → AreNew made b → AreLater made b c → AreNew made c
new_then made [] c new y = y
new_then made (r ∷ rs) [] new y = absurd y
new_then made (r ∷ rs) (s ∷ ss) new y = (subst (λ n. made < n) (sym (ap (λ (t : GenRow). t.number) y.0.same)) new.0, new_then made rs ss new.1 y.1)

pub later-then : (made : ℕ) (a b c : List GenRow) → AreLater made a b → AreLater made b c → AreLater made a c
later-then made [] b c x y = new_then made b c x y
later-then made (r ∷ rs) [] c x y = absurd x
later-then made (r ∷ rs) (s ∷ ss) [] x y = absurd y
later-then made (r ∷ rs) (s ∷ ss) (t ∷ ts) x y = (one_then r s t x.0 y.0, later-then made rs ss ts x.1 y.1)

-- other statuses, of live generations alone
later-statused : (made : ℕ) (f : GenRow → RowStatus) → ((row : GenRow) → is_live row.status ≡ false → f row ≡ row.status) → (rows : List GenRow)
    → AreLater made rows (with_statuses f rows)
later-statused made f stays [] = tt
later-statused made f stays (row ∷ rows) = (record { same = refl; over = stays row }, later-statused made f stays rows)

later-more : (made : ℕ) (rows : List GenRow) (new : GenRow) → made < new.number → AreLater made rows (rows ++ new ∷ [])
later-more made [] new behind = (behind, tt)
later-more made (row ∷ rows) new behind = (itself row, later-more made rows new behind)

-- a generation is found as before
pub record Found (rows : List GenRow) (number : ℕ) (P : GenRow → Type 0) : Type 0 where
  pub row : GenRow
  pub at : row_in number rows ≡ Some row
  pub so : P row

same_row : {a b : GenRow} → Some a ≡ Some b → a ≡ b
same_row h = cc

nothing_found : {a : GenRow} → None ≡ Some a → ⊥
nothing_found h = cc

pub found-later : (made number : ℕ) (row : GenRow) (before after : List GenRow) → AreLater made before after → row_in number before ≡ Some row
    → Found after number (λ other. IsLater row other)
found-later made number row [] after x at = absurd (nothing_found at)
found-later made number row (r ∷ rs) [] x at = absurd x
found-later made number row (r ∷ rs) (s ∷ ss) x at = by (nat_eq number r.number) refl at (λ rest. found-later made number row rs ss x.1 rest)
  where
    place : nat_eq number s.number ≡ nat_eq number r.number
    place = ap (λ (t : GenRow). nat_eq number t.number) x.0.same

    by : (b : Bool) → nat_eq number r.number ≡ b → cond b (Some r) (row_in number rs) ≡ Some row
        → (row_in number rs ≡ Some row → Found ss number (λ other. IsLater row other)) → Found (s ∷ ss) number (λ other. IsLater row other)
    by true is here rest = record {
      row = s;
      at = λ i. cond ((place ∙ is) i) (Some s) (row_in number ss);
      so = subst (λ (t : GenRow). IsLater t s) (same_row here) x.0;
    }
    by false isnt here rest =
        let there = rest here in
        record { row = there.row; at = (λ i. cond ((place ∙ isnt) i) (Some s) (row_in number ss)) ∙ there.at; so = there.so }

-- a new one has a later number
new_absent : (made number : ℕ) (rows : List GenRow) → number ≤ made → AreNew made rows → row_in number rows ≡ None
new_absent made number [] low new = refl
new_absent made number (r ∷ rs) low new = by (nat_eq number r.number) refl (new_absent made number rs low new.1)
  where
    by : (b : Bool) → nat_eq number r.number ≡ b → row_in number rs ≡ None → cond b (Some r) (row_in number rs) ≡ None
    by true is rest =
        let same : number ≡ r.number = eqb-true number r.number is in
        let behind : made < r.number = new.0 in
        absurd (omega arith)
    by false isnt rest = rest

pub found-earlier : (made number : ℕ) (row : GenRow) (before after : List GenRow) → AreLater made before after → number ≤ made → row_in number after ≡ Some row
    → Found before number (λ other. IsLater other row)
found-earlier made number row [] after x low at = absurd (nothing_found (sym (new_absent made number after low x) ∙ at))
found-earlier made number row (r ∷ rs) [] x low at = absurd x
found-earlier made number row (r ∷ rs) (s ∷ ss) x low at = by (nat_eq number s.number) refl at (λ rest. found-earlier made number row rs ss x.1 low rest)
  where
    place : nat_eq number r.number ≡ nat_eq number s.number
    place = ap (λ (t : GenRow). nat_eq number t.number) (sym x.0.same)

    by : (b : Bool) → nat_eq number s.number ≡ b → cond b (Some s) (row_in number ss) ≡ Some row
        → (row_in number ss ≡ Some row → Found rs number (λ other. IsLater other row)) → Found (r ∷ rs) number (λ other. IsLater other row)
    by true is here rest = record {
      row = r;
      at = λ i. cond ((place ∙ is) i) (Some r) (row_in number rs);
      so = subst (λ (t : GenRow). IsLater r t) (same_row here) x.0;
    }
    by false isnt here rest =
        let there = rest here in
        record { row = there.row; at = (λ i. cond ((place ∙ isnt) i) (Some r) (row_in number rs)) ∙ there.at; so = there.so }

-- no change of the machine's is of a generation that is over
removed_over : (status : RowStatus) → is_live status ≡ false → removed_status status ≡ status
removed_over Warming h = absurd (false≢true (sym h))
removed_over Active h = absurd (false≢true (sym h))
removed_over Draining h = refl
removed_over Dropped h = refl

chosen_over : (b : Bool) (status other : RowStatus) → other ≡ status → cond b other status ≡ status
chosen_over true status other same = same
chosen_over false status other same = refl

replaced_over : (b : Bool) (status : RowStatus) → is_live status ≡ false → cond (b && is_warming status) Dropped status ≡ status
replaced_over b Warming h = absurd (false≢true (sym h))
replaced_over b Active h = absurd (false≢true (sym h))
replaced_over true Draining h = refl
replaced_over false Draining h = refl
replaced_over true Dropped h = refl
replaced_over false Dropped h = refl

promoted_over : (succeeded ready : Bool) (status : RowStatus) → is_live status ≡ false → status_by succeeded ready status ≡ status
promoted_over succeeded ready Warming h = absurd (false≢true (sym h))
promoted_over succeeded ready Active h = absurd (false≢true (sym h))
promoted_over succeeded ready Draining h = refl
promoted_over succeeded ready Dropped h = refl

pub later-promoted : (made : ℕ) (succeeded ready : GenRow → Bool) (rows : List GenRow)
    → AreLater made rows (with_statuses (λ (row : GenRow). status_by (succeeded row) (ready row) row.status) rows)
later-promoted made succeeded ready rows =
    later-statused made (λ (row : GenRow). status_by (succeeded row) (ready row) row.status) (λ row. promoted_over (succeeded row) (ready row) row.status) rows

later-ended : (made : ℕ) (kind : Kind) (name : List ℕ) (rows : List GenRow) → AreLater made rows (with_statuses (ended_status kind name) rows)
later-ended made kind name rows =
    later-statused made (ended_status kind name) (λ row h. chosen_over (is_row_of kind name row) row.status (removed_status row.status) (removed_over row.status h)) rows

-- a resource that has come to its end
pub end-later : (made : ℕ) (kind : Kind) (name : List ℕ) (world : World) → AreLater made world.rows (with_end kind name (forget_version kind name world)).rows
end-later made Cds name world = later-ended made Cds name world.rows
end-later made Eds name world = later-same made world.rows
end-later made Lds name world = later-ended made Lds name world.rows
end-later made Rds name world = later-same made world.rows
end-later made Sds name world = later-same made world.rows
end-later made Ecds name world = later-same made world.rows

-- from one world to another generations go on, and numbers too
record Grows (made : ℕ) (before after : World) : Type 0 where
  rows : AreLater made before.rows after.rows
  drawn : made ≤ after.made

grows_as : (made : ℕ) (before after : World) → made ≤ before.made → after.rows ≡ before.rows → after.made ≡ before.made → Grows made before after
grows_as made before after low rows drawn = record {
  rows = subst (AreLater made before.rows) (sym rows) (later-same made before.rows);
  drawn = subst (λ n. made ≤ n) (sym drawn) low;
}

module _ (made : ℕ) (kind : Kind) (item : ItemParts) where
  -- a new generation, whichever chains it keeps
  new_grows : (kept : Content → World → List KeptChain) (body : Body) (world : World) → made ≤ world.made
      → Grows made world (with_content (λ content w. add_row kind item content (kept content w) w) body world)
  new_grows kept (Good content) world low = record {
    rows = later-then made world.rows (with_statuses (replaced_status kind item.name) world.rows)
        (rows_with_new kind world.made item.name content (kept content world) world.rows)
        (later-statused made (replaced_status kind item.name) (λ row h. replaced_over (is_row_of kind item.name row) row.status h) world.rows)
        (later-more made (with_statuses (replaced_status kind item.name) world.rows) (new_row kind world.made item.name content (kept content world)) (omega arith));
    drawn = omega arith;
  }
  new_grows kept (Bad rule) world low = grows_as made world world low refl refl
  new_grows kept Beat world low = grows_as made world world low refl refl

  back_grows : (body : Body) (world : World) → made ≤ world.made → Grows made world (with_content (λ content. go_back kind item) body world)
  back_grows (Good content) world low = record {
    rows = later-statused made (replaced_status kind item.name) (λ row h. replaced_over (is_row_of kind item.name row) row.status h) world.rows;
    drawn = low;
  }
  back_grows (Bad rule) world low = grows_as made world world low refl refl
  back_grows Beat world low = grows_as made world world low refl refl

  same_grows : (body : Body) (world : World) → made ≤ world.made → Grows made world (with_content (λ content. keep_version kind item) body world)
  same_grows (Good content) world low = grows_as made world (keep_version kind item world) low refl refl
  same_grows (Bad rule) world low = grows_as made world world low refl refl
  same_grows Beat world low = grows_as made world world low refl refl

  value_grows : (body : Body) (world : World) → made ≤ world.made → Grows made world (with_content (keep_value kind item) body world)
  value_grows (Good content) world low = grows_as made world (keep_value kind item content world) low refl refl
  value_grows (Bad rule) world low = grows_as made world world low refl refl
  value_grows Beat world low = grows_as made world world low refl refl

told_grows : (made : ℕ) (watched : Bool) (more world : World) → made ≤ world.made → more.rows ≡ world.rows → more.made ≡ world.made → Grows made world (cond watched more world)
told_grows made true more world low rows drawn = grows_as made world more low rows drawn
told_grows made false more world low rows drawn = grows_as made world world low refl refl

refused_grows : (made : ℕ) (kind : Kind) (name : List ℕ) (world : World) → made ≤ world.made → Grows made world (refuse kind name world)
refused_grows made Cds name world low = grows_as made world world low refl refl
refused_grows made Eds name world low = told_grows made (is_watched (lives_of world) Eds name) _ world low refl refl
refused_grows made Lds name world low = grows_as made world world low refl refl
refused_grows made Rds name world low = told_grows made (is_watched (lives_of world) Rds name) _ world low refl refl
refused_grows made Sds name world low = told_grows made (is_watched (lives_of world) Sds name) _ world low refl refl
refused_grows made Ecds name world low = told_grows made (is_watched (lives_of world) Ecds name) _ world low refl refl

item_grows : (made : ℕ) (kind : Kind) (verdict : Verdict) (item : ItemParts) (world : World) → made ≤ world.made → Grows made world (add_item kind verdict item world)
item_grows made kind New item world low = new_grows made kind item (λ content w. []) item.body world low
item_grows made kind InPlace item world low =
    new_grows made kind item (λ content w. kept_from (serving_row kind item.name w.rows) content) item.body world low
item_grows made kind Back item world low = back_grows made kind item item.body world low
item_grows made kind Same item world low = same_grows made kind item item.body world low
item_grows made kind Kept item world low = value_grows made kind item item.body world low
item_grows made kind Unasked item world low = grows_as made world world low refl refl
item_grows made kind Renewed item world low = grows_as made world (add_item kind Renewed item world) low refl refl
item_grows made kind (Refused rule) item world low = refused_grows made kind item.name world low

items_grow : (made : ℕ) (kind : Kind) (judged : List (Verdict × ItemParts)) (world : World) → made ≤ world.made
    → Grows made world (fold (λ (w : World) (one : Verdict × ItemParts). add_item kind one.0 one.1 w) world judged)
items_grow made kind [] world low = grows_as made world world low refl refl
items_grow made kind (one ∷ judged) world low =
    let first = item_grows made kind one.0 one.1 world low in
    let rest = items_grow made kind judged (add_item kind one.0 one.1 world) first.drawn in
    record { rows = later-then made world.rows (add_item kind one.0 one.1 world).rows _ first.rows rest.rows; drawn = rest.drawn }

removals_grow : (kind : Kind) (response : ResponseParts) (world : World) → Grows world.made world (with_removals kind response world)
removals_grow Cds response world = record {
  rows = later-statused world.made (status_left Cds response) (λ row h. chosen_over (kind_same row.kind Cds && is_removed response row.name) row.status (removed_status row.status) (removed_over row.status h)) world.rows;
  drawn = omega arith;
}
removals_grow Eds response world = grows_as world.made world (with_removals Eds response world) (omega arith) refl refl
removals_grow Lds response world = record {
  rows = later-statused world.made (status_left Lds response) (λ row h. chosen_over (kind_same row.kind Lds && is_removed response row.name) row.status (removed_status row.status) (removed_over row.status h)) world.rows;
  drawn = omega arith;
}
removals_grow Rds response world = grows_as world.made world (with_removals Rds response world) (omega arith) refl refl
removals_grow Sds response world = grows_as world.made world (with_removals Sds response world) (omega arith) refl refl
removals_grow Ecds response world = grows_as world.made world (with_removals Ecds response world) (omega arith) refl refl

-- a response
pub response-later : (kind : Kind) (response : ResponseParts) (verdicts : List Verdict) (world : World)
    → AreLater world.made world.rows (add_items kind verdicts response.items (with_removals kind response world)).rows
response-later kind response verdicts world =
    let left = removals_grow kind response world in
    later-then world.made world.rows (with_removals kind response world).rows _ left.rows
    (items_grow world.made kind (zip verdicts response.items) (with_removals kind response world) left.drawn).rows

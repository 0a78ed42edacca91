-- Which generations retired: what each step reports, and what steps report together.
use Rattle.std.proofs.Common.{◌≡◌, ◌∙◌, ℕ, Bool, true, false, cond, not, ◌&&◌, ◌||◌, nat_eq, List, [], ◌∷◌, ◌++◌, Option, None, Some, option_map, option_to_list, refl, sym, ap, true≢false}
use Rattle.std.specs.List.{IsDistinct}
use Rattle.std.specs.Option.{option_or}
use Rattle.std.proofs.lemmas.Bool.{not-true}
use Rattle.std.proofs.lemmas.List.Folds.{list_any-append, find-append}
use Rattle.ev_types.specs.Statuses.{is_warming, is_active, is_live}
use Rattle.ev_types.specs.declared.contents.Kind.{Kind}
use Rattle.ev_types.specs.declared.contents.Content.{Content}
use Rattle.ev_types.specs.declared.rows.RowStatus.{RowStatus}
use Rattle.ev_types.specs.declared.origins.KeptChain.{KeptChain}
use Rattle.ev_types.specs.declared.rows.RowStatus.TheVariants.{Warming, Active, Draining, Dropped}
use Rattle.ev_types.specs.declared.rows.GenRow.{GenRow}
use Rattle.ev_model.specs.Rows.{is_row_of, with_statuses, replaced_status, removed_status, new_row, rows_with_new}
use Rattle.ev_model.specs.Signals.{ended_status, rows_ended}
use Rattle.ev_indexes.specs.Tables.{is_number, row_in, numbers_of}
use Rattle.ev_indexes.proofs.TableLemmas.{row_in-with_statuses}
use Rattle.ev_lookups.specs.Keys.{named}
use Rattle.ev_indexes.specs.Due.{is_one_of}
use Rattle.ev_indexes.specs.Indexes.{serves, warms, numbers_where}
use Rattle.ev_warming.specs.Changes.{is_over, has_retired, Tells}
use Rattle.ev_indexes.proofs.WhereLemmas.{among-where}
use Rattle.ev_warming.proofs.DrainLemmas.{absent-where, fails-where}

-- nothing changed, and nothing is reported
pub tells-none : (rows : List GenRow) (numbers : List ℕ) → Tells rows rows numbers numbers
tells-none rows numbers = record { told = λ n. by (is_one_of numbers n) (is_over (row_in n rows)); stays = λ n h. h }
  where
    by : (a b : Bool) → a ≡ (a || (b && not b))
    by true b = refl
    by false true = refl
    by false false = refl

-- one change after another
pub tells-then : (first second third : List GenRow) (xs ys zs : List ℕ) → Tells first second xs ys → Tells second third ys zs → Tells first third xs zs
tells-then first second third xs ys zs p q = record {
  told = λ n. q.told n ∙ (λ i. p.told n i || has_retired n second third) ∙ by (is_one_of xs n) (is_over (row_in n first)) (is_over (row_in n second)) (is_over (row_in n third)) (p.stays n) (q.stays n);
  stays = λ n h. q.stays n (p.stays n h);
}
  where
    by : (x a b c : Bool) → (a ≡ true → b ≡ true) → (b ≡ true → c ≡ true) → ((x || (b && not a)) || (c && not b)) ≡ (x || (c && not a))
    by x true false c p q = absurd (true≢false (sym (p refl)))
    by x a true false p q = absurd (true≢false (sym (q refl)))
    by true true true true p q = refl
    by false true true true p q = refl
    by true false true true p q = refl
    by false false true true p q = refl
    by true false false c p q = refl
    by false false false c p q = refl

-- other statuses
pub tells-statused : (f : GenRow → RowStatus) (before after : List GenRow) (numbers more : List ℕ) → after ≡ with_statuses f before
    → ((n : ℕ) (row : GenRow) → row_in n before ≡ Some row → is_one_of more n ≡ (is_live row.status && not (is_live (f row))))
    → ((n : ℕ) → row_in n before ≡ None → is_one_of more n ≡ false)
    → ((row : GenRow) → is_live row.status ≡ false → is_live (f row) ≡ false)
    → Tells before after numbers (numbers ++ more)
tells-statused f before after numbers more rows some none ended = record {
  told = λ n. list_any-append (nat_eq n) numbers more ∙ (λ i. is_one_of numbers n || gone n (row_in n before) refl i);
  stays = λ n h. (λ i. is_over (found n i)) ∙ stays (row_in n before) h;
}
  where
    found : (n : ℕ) → row_in n after ≡ option_map (λ (r : GenRow). record r { status = f r }) (row_in n before)
    found n = (λ i. row_in n (rows i)) ∙ row_in-with_statuses n f before

    flip : (a b : Bool) → (a && not b) ≡ (not b && not (not a))
    flip true true = refl
    flip true false = refl
    flip false true = refl
    flip false false = refl

    gone : (n : ℕ) (o : Option GenRow) → row_in n before ≡ o → is_one_of more n ≡ has_retired n before after
    gone n None at =
        none n at ∙ (λ i. is_over (option_map (λ (r : GenRow). record r { status = f r }) (sym at i)) && not (is_over (row_in n before)))
        ∙ (λ i. is_over (sym (found n) i) && not (is_over (row_in n before)))
    gone n (Some r) at =
        some n r at ∙ flip (is_live r.status) (is_live (f r))
        ∙ (λ i. is_over (option_map (λ (r : GenRow). record r { status = f r }) (sym at i)) && not (is_over (sym at i)))
        ∙ (λ i. is_over (sym (found n) i) && not (is_over (row_in n before)))

    stays : (o : Option GenRow) → is_over o ≡ true → is_over (option_map (λ (r : GenRow). record r { status = f r }) o) ≡ true
    stays None h = h
    stays (Some r) h = ap not (ended r (not-true (is_live r.status) h))

-- one row more, which warms
pub tells-more : (before after : List GenRow) (new : GenRow) (numbers : List ℕ) → after ≡ before ++ new ∷ [] → is_live new.status ≡ true → Tells before after numbers numbers
tells-more before after new numbers rows live = record {
  told = λ n. by (is_one_of numbers n) (is_over (row_in n before)) ∙ (λ i. is_one_of numbers n || (sym (same n) i && not (is_over (row_in n before))));
  stays = λ n h. same n ∙ h;
}
  where
    by : (a b : Bool) → a ≡ (a || (b && not b))
    by true b = refl
    by false true = refl
    by false false = refl

    over : (o : Option GenRow) (b : Bool) → is_over (option_or o (cond b (Some new) None)) ≡ is_over o
    over (Some r) b = refl
    over None true = ap not live
    over None false = refl

    same : (n : ℕ) → is_over (row_in n after) ≡ is_over (row_in n before)
    same n =
        (λ i. is_over (row_in n (rows i))) ∙ ap is_over (find-append (is_number n) before (new ∷ []))
        ∙ over (row_in n before) (nat_eq n new.number)

-- whether the number of a row is among those that pass
passing : (test : GenRow → Bool) (n : ℕ) (row : GenRow) (rows : List GenRow) → IsDistinct nat_eq (numbers_of rows) → row_in n rows ≡ Some row → is_one_of (numbers_where test rows) n ≡ test row
passing test n row rows apart at = by (test row) refl
  where
    by : (b : Bool) → test row ≡ b → is_one_of (numbers_where test rows) n ≡ b
    by true e = among-where test n row rows at e
    by false e = fails-where test n row rows apart at e

module _ (kind : Kind) (name : List ℕ) (rows : List GenRow) (apart : IsDistinct nat_eq (numbers_of rows)) where
  -- a name comes to its end
  pub tells-ended : (warming active : Option ℕ) (after : List GenRow) (numbers : List ℕ) → option_to_list warming ≡ numbers_where (warms (named kind name)) rows → option_to_list active ≡ numbers_where (serves (named kind name)) rows
      → after ≡ rows_ended kind name rows → Tells rows after numbers (numbers ++ (option_to_list warming ++ option_to_list active))
  tells-ended warming active after numbers w a e =
      tells-statused (ended_status kind name) rows after numbers (option_to_list warming ++ option_to_list active) e some none ended
    where
      by : (st : RowStatus) (b : Bool) → ((is_warming st && b) || (is_active st && b)) ≡ (is_live st && not (is_live (cond b (removed_status st) st)))
      by Warming true = refl
      by Warming false = refl
      by Active true = refl
      by Active false = refl
      by Draining b = refl
      by Dropped b = refl

      some : (n : ℕ) (row : GenRow) → row_in n rows ≡ Some row → is_one_of (option_to_list warming ++ option_to_list active) n ≡ (is_live row.status && not (is_live (ended_status kind name row)))
      some n row at =
          list_any-append (nat_eq n) (option_to_list warming) (option_to_list active)
          ∙ (λ i. is_one_of (w i) n || is_one_of (a i) n)
          ∙ (λ i. passing (warms (named kind name)) n row rows apart at i || passing (serves (named kind name)) n row rows apart at i)
          ∙ by row.status (is_row_of kind name row)

      none : (n : ℕ) → row_in n rows ≡ None → is_one_of (option_to_list warming ++ option_to_list active) n ≡ false
      none n at =
          list_any-append (nat_eq n) (option_to_list warming) (option_to_list active)
          ∙ (λ i. is_one_of (w i) n || is_one_of (a i) n)
          ∙ (λ i. absent-where (warms (named kind name)) n rows apart at i || absent-where (serves (named kind name)) n rows apart at i)

      ended : (row : GenRow) → is_live row.status ≡ false → is_live (ended_status kind name row) ≡ false
      ended row over = ended-by row.status (is_row_of kind name row) over
        where
          ended-by : (st : RowStatus) (b : Bool) → is_live st ≡ false → is_live (cond b (removed_status st) st) ≡ false
          ended-by Warming b h = absurd (true≢false h)
          ended-by Active b h = absurd (true≢false h)
          ended-by Draining true h = refl
          ended-by Draining false h = refl
          ended-by Dropped true h = refl
          ended-by Dropped false h = refl

  -- the one that warms under the name is dropped
  pub tells-replaced : (warming : Option ℕ) (after : List GenRow) (numbers : List ℕ) → option_to_list warming ≡ numbers_where (warms (named kind name)) rows
      → after ≡ with_statuses (replaced_status kind name) rows → Tells rows after numbers (numbers ++ option_to_list warming)
  tells-replaced warming after numbers w e = tells-statused (replaced_status kind name) rows after numbers (option_to_list warming) e some none ended
    where
      by : (st : RowStatus) (b : Bool) → (is_warming st && b) ≡ (is_live st && not (is_live (cond (b && is_warming st) Dropped st)))
      by Warming true = refl
      by Warming false = refl
      by Active true = refl
      by Active false = refl
      by Draining b = refl
      by Dropped b = refl

      some : (n : ℕ) (row : GenRow) → row_in n rows ≡ Some row → is_one_of (option_to_list warming) n ≡ (is_live row.status && not (is_live (replaced_status kind name row)))
      some n row at =
          (λ i. is_one_of (w i) n) ∙ passing (warms (named kind name)) n row rows apart at
          ∙ by row.status (is_row_of kind name row)

      none : (n : ℕ) → row_in n rows ≡ None → is_one_of (option_to_list warming) n ≡ false
      none n at = (λ i. is_one_of (w i) n) ∙ absent-where (warms (named kind name)) n rows apart at

      ended : (row : GenRow) → is_live row.status ≡ false → is_live (replaced_status kind name row) ≡ false
      ended row over = ended-by row.status (is_row_of kind name row) over
        where
          ended-by : (st : RowStatus) (b : Bool) → is_live st ≡ false → is_live (cond (b && is_warming st) Dropped st) ≡ false
          ended-by Warming b h = absurd (true≢false h)
          ended-by Active b h = absurd (true≢false h)
          ended-by Draining true h = refl
          ended-by Draining false h = refl
          ended-by Dropped true h = refl
          ended-by Dropped false h = refl

  -- a new generation warms
  pub tells-added : (made : ℕ) (content : Content) (kept : List KeptChain) (warming : Option ℕ) (after : List GenRow) (numbers : List ℕ)
      → option_to_list warming ≡ numbers_where (warms (named kind name)) rows
      → after ≡ rows_with_new kind made name content kept rows → Tells rows after numbers (numbers ++ option_to_list warming)
  tells-added made content kept warming after numbers w e =
      tells-then rows (with_statuses (replaced_status kind name) rows) after numbers (numbers ++ option_to_list warming) (numbers ++ option_to_list warming)
      (tells-replaced warming (with_statuses (replaced_status kind name) rows) numbers w refl)
      (tells-more (with_statuses (replaced_status kind name) rows) after (new_row kind made name content kept) (numbers ++ option_to_list warming) e refl)

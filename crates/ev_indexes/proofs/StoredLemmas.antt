-- The rows of a table as the values of a map by number: what each change of the map does to the rows.
use Rattle.std.proofs.Common.{◌≡◌, ◌∙◌, ℕ, Bool, true, false, cond, not, nat_eq, ◌<◌, ◌≤◌, ◌+◌, List, [], ◌∷◌, ◌++◌, Option, None, Some, IsSome, refl, sym, ap, subst, arith, is_some}
use Rattle.std.specs.List.{IsDistinct, AllByRecursion}
use Rattle.std.specs.Map.{keys_of, values_of, lookup, set_value, remove_entry}
use Rattle.std.specs.Cmp.{nat_eq_equiv}
use Rattle.std.specs.BTreeMap.{insert_entry, is_at}
use Rattle.std.specs.List.Sorted.{IsStrictlySortedBy}
use Rattle.std.specs.Ordering.{match_ordering, nat_cmp}
use Rattle.std.specs.declared.cmp.Ordering.{Ordering}
use Rattle.std.specs.declared.cmp.Ordering.TheVariants.{Less, Equal, Greater}
use Rattle.std.proofs.lemmas.Bool.Decides.{nat_tests}
use Rattle.std.proofs.lemmas.Map.{lookup-none, lookup-remove_entry}
use Rattle.std.proofs.lemmas.Bool.{ne_eqb}
use Rattle.std.proofs.lemmas.List.Folds.{find-append}
use Rattle.std.specs.Option.{option_or}
use Rattle.std.proofs.lemmas.Map.Entries.{none_past_head}
use Rattle.std.proofs.lemmas.Map.Keys.{IsDistinct-tail, IsDistinct-from_sorted, sorted_head, sorted_tail}
use Rattle.ev_types.specs.declared.rows.RowStatus.{RowStatus}
use Rattle.ev_types.specs.declared.rows.GenRow.{GenRow}
use Rattle.ev_indexes.specs.Tables.{is_number, row_in, numbers_of, with_status, without_row, IsTable, IsStored}
use Rattle.ev_indexes.proofs.TableLemmas.{below_next, with_status-absent, without_row-absent, number-row_in, table-with_status}

-- an order finds a number where equality does
pub equal_test : (n k : ℕ) → is_at (nat_cmp n) k ≡ nat_eq n k
equal_test n k = grind (arith, nat_tests)

pub lookup_is : {X : Type 0} (number : ℕ) (es : List (ℕ × X)) → lookup (is_at (nat_cmp number)) es ≡ lookup (nat_eq number) es
lookup_is number es i = lookup (λ k. equal_test number k i) es

pub remove_entry_is : {X : Type 0} (number : ℕ) (es : List (ℕ × X)) → remove_entry (is_at (nat_cmp number)) es ≡ remove_entry (nat_eq number) es
remove_entry_is number es i = remove_entry (λ k. equal_test number k i) es

pub set_value_is : {X : Type 0} (number : ℕ) (es : List (ℕ × X)) (value : X) → set_value (is_at (nat_cmp number)) es value ≡ set_value (nat_eq number) es value
set_value_is number es value i = set_value (λ k. equal_test number k i) es value

-- numbers that rise differ
pub apart_from_sorted : (numbers : List ℕ) → IsStrictlySortedBy nat_cmp numbers → IsDistinct nat_eq numbers
apart_from_sorted numbers sorted = subst (λ (e : ℕ → ℕ → Bool). IsDistinct e numbers) (λ i n k. equal_test n k i) (IsDistinct-from_sorted nat_cmp numbers sorted)

-- each row is kept under its number
abbrev pub AreNumbered : List (ℕ × GenRow) → Type 0
AreNumbered es = keys_of es ≡ numbers_of (values_of es)

first_numbered : (e : ℕ × GenRow) (es : List (ℕ × GenRow)) → AreNumbered (e ∷ es) → e.0 ≡ e.1.number
first_numbered e es h = cc

rest_numbered : (e : ℕ × GenRow) (es : List (ℕ × GenRow)) → AreNumbered (e ∷ es) → AreNumbered es
rest_numbered e es h = cc

-- a look-up by key finds the row of the number
pub lookup-row_in : (number : ℕ) (es : List (ℕ × GenRow)) → AreNumbered es → lookup (nat_eq number) es ≡ row_in number (values_of es)
lookup-row_in number [] h = refl
lookup-row_in number (e ∷ es) h =
    let same = first_numbered e es h in
    let rest = lookup-row_in number es (rest_numbered e es h) in
    λ i. cond (nat_eq number (same i)) (Some e.1) (rest i)

-- no later row has the number of the first
later_absent : (number : ℕ) (e : ℕ × GenRow) (es : List (ℕ × GenRow)) → AreNumbered (e ∷ es) → IsDistinct nat_eq (keys_of (e ∷ es)) → nat_eq number e.0 ≡ true
    → row_in number (values_of es) ≡ None
later_absent number e es h apart here =
    sym (lookup-row_in number es (rest_numbered e es h)) ∙ lookup-none (nat_eq number) es (none_past_head nat_eq_equiv number e es apart here)

-- a written status
pub values_of-set_value : (number : ℕ) (status : RowStatus) (old : GenRow) (es : List (ℕ × GenRow)) → AreNumbered es → IsDistinct nat_eq (keys_of es)
    → lookup (nat_eq number) es ≡ Some old
    → values_of (set_value (nat_eq number) es (record old { status = status })) ≡ with_status number status (values_of es)
values_of-set_value number status old [] h apart found = refl
values_of-set_value number status old (e ∷ es) h apart found =
    by (nat_eq number e.0) found (λ here. with_status-absent number status (values_of es) (later_absent number e es h apart here))
    (values_of-set_value number status old es (rest_numbered e es h) (IsDistinct-tail nat_eq e.0 (keys_of es) apart))
    ∙ (λ i. (record e.1 { status = cond (nat_eq number (first_numbered e es h i)) status e.1.status }) ∷ with_status number status (values_of es))
  where
    by : (b : Bool) → cond b (Some e.1) (lookup (nat_eq number) es) ≡ Some old
        → (b ≡ true → with_status number status (values_of es) ≡ values_of es)
        → (lookup (nat_eq number) es ≡ Some old → values_of (set_value (nat_eq number) es (record old { status = status })) ≡ with_status number status (values_of es))
        → values_of (cond b ((e.0, record old { status = status }) ∷ es) (e ∷ set_value (nat_eq number) es (record old { status = status })))
        ≡ (record e.1 { status = cond b status e.1.status }) ∷ with_status number status (values_of es)
    by true at past rest =
        let same : old ≡ e.1 = cc in
        λ i. (record (same i) { status = status }) ∷ sym (past refl) i
    by false at past rest = ap (λ (rs : List GenRow). e.1 ∷ rs) (rest at)

-- a row taken out
pub values_of-remove_entry : (number : ℕ) (es : List (ℕ × GenRow)) → AreNumbered es → IsDistinct nat_eq (keys_of es)
    → values_of (remove_entry (nat_eq number) es) ≡ without_row number (values_of es)
values_of-remove_entry number [] h apart = refl
values_of-remove_entry number (e ∷ es) h apart =
    by (nat_eq number e.0) (λ here. without_row-absent number (values_of es) (later_absent number e es h apart here))
    (values_of-remove_entry number es (rest_numbered e es h) (IsDistinct-tail nat_eq e.0 (keys_of es) apart))
    ∙ (λ i. cond (not (nat_eq number (first_numbered e es h i))) (e.1 ∷ without_row number (values_of es)) (without_row number (values_of es)))
  where
    by : (b : Bool) → (b ≡ true → without_row number (values_of es) ≡ values_of es)
        → values_of (remove_entry (nat_eq number) es) ≡ without_row number (values_of es)
        → values_of (cond b es (e ∷ remove_entry (nat_eq number) es)) ≡ cond (not b) (e.1 ∷ without_row number (values_of es)) (without_row number (values_of es))
    by true past rest = sym (past refl)
    by false past rest = ap (λ (rs : List GenRow). e.1 ∷ rs) rest

-- the rest of the entries stays numbered
pub remove_entry-numbered : (number : ℕ) (es : List (ℕ × GenRow)) → AreNumbered es → AreNumbered (remove_entry (nat_eq number) es)
remove_entry-numbered number [] h = refl
remove_entry-numbered number (e ∷ es) h = by (nat_eq number e.0) (remove_entry-numbered number es (rest_numbered e es h))
  where
    by : (b : Bool) → AreNumbered (remove_entry (nat_eq number) es) → AreNumbered (cond b es (e ∷ remove_entry (nat_eq number) es))
    by true rest = rest_numbered e es h
    by false rest = λ i. first_numbered e es h i ∷ rest i

-- a written status leaves the numbers
pub set_value-numbered : (number : ℕ) (row : GenRow) (es : List (ℕ × GenRow)) → AreNumbered es → row.number ≡ number → AreNumbered (set_value (nat_eq number) es row)
set_value-numbered number row [] h own = refl
set_value-numbered number row (e ∷ es) h own = by (nat_eq number e.0) refl (set_value-numbered number row es (rest_numbered e es h) own)
  where
    by : (b : Bool) → nat_eq number e.0 ≡ b → AreNumbered (set_value (nat_eq number) es row)
        → AreNumbered (cond b ((e.0, row) ∷ es) (e ∷ set_value (nat_eq number) es row))
    by true here rest =
        let same : e.0 ≡ row.number = grind arith in
        λ i. same i ∷ rest_numbered e es h i
    by false here rest = λ i. first_numbered e es h i ∷ rest i

-- one more entry
pub push-numbered : (row : GenRow) (es : List (ℕ × GenRow)) → AreNumbered es → AreNumbered (es ++ (row.number, row) ∷ [])
push-numbered row [] h = refl
push-numbered row (e ∷ es) h = λ i. first_numbered e es h i ∷ push-numbered row es (rest_numbered e es h) i

pub values_of-push : (key : ℕ) (row : GenRow) (es : List (ℕ × GenRow)) → values_of (es ++ (key, row) ∷ []) ≡ values_of es ++ row ∷ []
values_of-push key row [] = refl
values_of-push key row (e ∷ es) = ap (λ (rs : List GenRow). e.1 ∷ rs) (values_of-push key row es)

-- entries that are numbered, of different numbers, none above those allocated, are a table
pub stored_from : (es : List (ℕ × GenRow)) (made : ℕ) → AreNumbered es → IsDistinct nat_eq (keys_of es)
    → ((number : ℕ) → made < number → lookup (nat_eq number) es ≡ None) → IsStored es made
stored_from es made h apart drawn = record {
  numbered = h;
  table = record {
    apart = subst (IsDistinct nat_eq) h apart;
    drawn = λ number above. sym (lookup-row_in number es h) ∙ drawn number above;
  };
}

-- no entry
pub stored_none : (made : ℕ) → IsStored [] made
unfolding IsDistinct
stored_none made = stored_from [] made refl tt (λ number above. refl)

-- and a table has them
pub apart_of : (es : List (ℕ × GenRow)) (made : ℕ) → IsStored es made → IsDistinct nat_eq (keys_of es)
apart_of es made s = subst (IsDistinct nat_eq) (sym s.numbered) s.table.apart

pub drawn_of : (es : List (ℕ × GenRow)) (made : ℕ) → IsStored es made → (number : ℕ) → made < number → lookup (nat_eq number) es ≡ None
drawn_of es made s number above = lookup-row_in number es s.numbered ∙ s.table.drawn number above

-- a look-up that finds nothing, of a row that is there
pub found_in : (number : ℕ) (es : List (ℕ × GenRow)) (made : ℕ) → IsStored es made → IsSome (row_in number (values_of es)) → lookup (nat_eq number) es ≡ None → ⊥
found_in number es made s there none =
    let gone : row_in number (values_of es) ≡ None = sym (lookup-row_in number es s.numbered) ∙ none in
    let there_too : is_some (row_in number (values_of es)) ≡ true = there in
    cc (ap is_some gone)

-- a written status
pub stored-set_value : (number : ℕ) (status : RowStatus) (old : GenRow) (es : List (ℕ × GenRow)) (made : ℕ) → IsStored es made → lookup (nat_eq number) es ≡ Some old
    → IsStored (set_value (nat_eq number) es (record old { status = status })) made
stored-set_value number status old es made s found = record {
  numbered = set_value-numbered number (record old { status = status }) es s.numbered (number-row_in number old (values_of es) (sym (lookup-row_in number es s.numbered) ∙ found));
  table = subst (λ (rows : List GenRow). IsTable (record { rows = rows; made = made })) (sym (values_of-set_value number status old es s.numbered (apart_of es made s) found))
      (table-with_status number status (values_of es) made s.table);
}

-- a row taken out
pub stored-remove_entry : (number : ℕ) (es : List (ℕ × GenRow)) (made : ℕ) → IsStored es made → IsDistinct nat_eq (keys_of (remove_entry (nat_eq number) es))
    → IsStored (remove_entry (nat_eq number) es) made
stored-remove_entry number es made s apart =
    stored_from (remove_entry (nat_eq number) es) made (remove_entry-numbered number es s.numbered) apart
    (λ n above. lookup-remove_entry nat_eq_equiv (nat_eq number) (nat_eq_equiv.congr number) n es (apart_of es made s)
    ∙ by (nat_eq number n) (drawn_of es made s n above))
  where
    by : (b : Bool) {r : Option GenRow} → r ≡ None → cond b None r ≡ None
    by true h = refl
    by false h = h

-- one more row, whose number is allocated
pub stored-push : (row : GenRow) (es : List (ℕ × GenRow)) (made drawn : ℕ) → IsStored es made → made ≤ drawn → row.number ≤ drawn
    → IsDistinct nat_eq (keys_of (es ++ (row.number, row) ∷ [])) → IsStored (es ++ (row.number, row) ∷ []) drawn
stored-push row es made drawn s more within apart = record {
  numbered = push-numbered row es s.numbered;
  table = record {
    apart = subst (IsDistinct nat_eq) (push-numbered row es s.numbered) apart;
    drawn = λ n above.
        ap (row_in n) (values_of-push row.number row es)
        ∙ find-append (is_number n) (values_of es) (row ∷ [])
        ∙ (λ i. option_or (s.table.drawn n (omega arith) i) (cond (ne_eqb n row.number (λ e. absurd (omega arith)) i) (Some row) None));
  };
}

-- an entry whose number is above the others goes last
pub insert_entry-last : {X : Type 0} (number : ℕ) (value : X) (es : List (ℕ × X)) → AllByRecursion (λ n. n < number) (keys_of es)
    → insert_entry nat_cmp es number value ≡ es ++ (number, value) ∷ []
insert_entry-last number value [] below = refl
insert_entry-last {X} number value (e ∷ es) below = by (nat_cmp number e.0) (grind (arith, nat_tests, below.0)) (insert_entry-last number value es below.1)
  where
    by : (o : Ordering) → o ≡ Greater → insert_entry nat_cmp es number value ≡ es ++ (number, value) ∷ []
        → match_ordering o ((number, value) ∷ e ∷ es) ((e.0, value) ∷ es) (e ∷ insert_entry nat_cmp es number value) ≡ e ∷ es ++ (number, value) ∷ []
    by Less h rest = cc
    by Equal h rest = cc
    by Greater h rest = ap (λ (fs : List (ℕ × X)). e ∷ fs) rest

last_above : {X : Type 0} (low : ℕ) (number : ℕ) (value : X) (es rest : List (ℕ × X)) → AllByRecursion (λ n. nat_cmp low n ≡ Less) (keys_of (es ++ (number, value) ∷ rest)) → low < number
last_above low number value [] rest all = grind (arith, nat_tests, all.0)
last_above low number value (e ∷ es) rest all = last_above low number value es rest all.1

-- among entries whose numbers rise, those before one have lower numbers
pub below_from_sorted : {X : Type 0} (number : ℕ) (value : X) (es rest : List (ℕ × X)) → IsStrictlySortedBy nat_cmp (keys_of (es ++ (number, value) ∷ rest))
    → AllByRecursion (λ n. n < number) (keys_of es)
below_from_sorted number value [] rest sorted = tt
below_from_sorted number value (e ∷ es) rest sorted = (
  last_above e.0 number value es rest (sorted_head nat_cmp e.0 (keys_of (es ++ (number, value) ∷ rest)) sorted),
  below_from_sorted number value es rest (sorted_tail nat_cmp e.0 (keys_of (es ++ (number, value) ∷ rest)) sorted),
)

-- the next number is above those of the entries
pub keys_below : (es : List (ℕ × GenRow)) (made : ℕ) → IsStored es made → AllByRecursion (λ n. n < made + 1) (keys_of es)
keys_below es made s = subst (AllByRecursion (λ n. n < made + 1)) (sym s.numbered) (below_next (values_of es) made s.table.drawn)

-- a row that is inserted under its number, which is above the others, goes last
module _ (es : List (ℕ × GenRow)) (number : ℕ) (row : GenRow) (own : row.number ≡ number) (below : AllByRecursion (λ n. n < number) (keys_of es)) where
  inserted : (fs : List (ℕ × GenRow)) → fs ≡ insert_entry nat_cmp es number row → fs ≡ es ++ (row.number, row) ∷ []
  inserted fs e = e ∙ insert_entry-last number row es below ∙ (λ i. es ++ (sym own i, row) ∷ [])

  pub values_of-insert : (fs : List (ℕ × GenRow)) → fs ≡ insert_entry nat_cmp es number row → values_of fs ≡ values_of es ++ row ∷ []
  values_of-insert fs e = ap values_of (inserted fs e) ∙ values_of-push row.number row es

  pub stored-insert : (made drawn : ℕ) (fs : List (ℕ × GenRow)) → IsStored es made → made ≤ drawn → number ≤ drawn
      → fs ≡ insert_entry nat_cmp es number row → IsStrictlySortedBy nat_cmp (keys_of fs) → IsStored fs drawn
  stored-insert made drawn fs s more within e sorted =
      subst (λ gs. IsStored gs drawn) (sym (inserted fs e))
      (stored-push row es made drawn s more (omega arith)
      (subst (λ (gs : List (ℕ × GenRow)). IsDistinct nat_eq (keys_of gs)) (inserted fs e) (apart_from_sorted (keys_of fs) sorted)))

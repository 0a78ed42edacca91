-- The entries of the drain's map as rows.
use Rattle.std.proofs.Common.{◌≡◌, ℕ, suc, Bool, true, false, not, ◌&&◌, ◌||◌, ◌==◌, cond, List, [], ◌∷◌, filter, map, length, Some, refl, sym, ap, ◌∙◌, arith}
use Rattle.std.specs.List.{list_any, find}
use Rattle.std.specs.List.Sorted.{IsStrictlySortedBy}
use Rattle.std.specs.Option.{is_some, option_map, unwrap_or}
use Rattle.std.specs.Map.{keys_of, lookup, remove_entry}
use Rattle.std.specs.BTreeMap.{insert_entry, is_at}
use Rattle.std.specs.Ordering.{is_eq, is_le, match_ordering, nat_cmp}
use Rattle.std.specs.declared.cmp.Ordering.{Ordering}
use Rattle.std.specs.declared.cmp.Ordering.TheVariants.{Less, Equal, Greater}
use Rattle.std.specs.Cmp.{eq_by_cmp_equiv}
use Rattle.std.proofs.lemmas.Bool.{true≢false, false≢true}
use Rattle.std.proofs.lemmas.Bool.Decides.{nat_tests}
use Rattle.std.proofs.lemmas.Cmp.{nat_cmp_total}
use Rattle.std.proofs.lemmas.Map.{NonePasses}
use Rattle.std.proofs.lemmas.Map.Entries.{none_past_head}
use Rattle.std.proofs.lemmas.Map.Keys.{IsDistinct-from_sorted}
use Rattle.ev_model.specs.Sorted.{put_by}
use Rattle.ev_drain.specs.declared.notes.Note.{Note}
use Rattle.ev_drain.specs.Retired.{Retired, row_before, is_numbered, has_row, is_dead_row, dead_of, is_dead_in}
use Rattle.ev_drain.specs.Notes.{row_of, rows_of, is_dead_note}
use Rattle.ev_types.specs.declared.journals.Format.{Format}
use Rattle.ev_model.specs.World.{OpenMember}
use Rattle.ev_model.specs.Dead.{is_dead_at, is_open_on, waits_for_timer}

-- the entry of a number is found exactly at the row of this number
pub same_number : (n k : ℕ) → is_eq (nat_cmp n k) ≡ (k == n)
same_number n k = grind (arith, nat_tests)

-- what the test of numbers passes is equal
pub number_same : (a n : ℕ) → (a == n) ≡ true → n ≡ a
number_same a n h = grind (arith, nat_tests)

pub found_row : (n : ℕ) (es : List (ℕ × Note)) → is_some (lookup (is_at (nat_cmp n)) es) ≡ has_row (rows_of es) n
found_row n [] = refl
found_row n (e ∷ es) = by (is_at (nat_cmp n) e.0) (e.0 == n) (same_number n e.0) (found_row n es)
  where
    by : (t u : Bool) → t ≡ u → is_some (lookup (is_at (nat_cmp n)) es) ≡ has_row (rows_of es) n
        → is_some (cond t (Some e.1) (lookup (is_at (nat_cmp n)) es)) ≡ (u || has_row (rows_of es) n)
    by true true h rest = refl
    by true false h rest = absurd (true≢false h)
    by false true h rest = absurd (false≢true h)
    by false false h rest = rest

-- what a row of this number has is what its note has
pub of_row : {B : Type 0} (f : Retired → B) (g : Note → B) → ((k : ℕ) (v : Note) → f (row_of (k, v)) ≡ g v) → (n : ℕ) (es : List (ℕ × Note))
    → option_map g (lookup (is_at (nat_cmp n)) es) ≡ option_map f (find (is_numbered n) (rows_of es))
of_row f g same n [] = refl
of_row {B} f g same n (e ∷ es) = by (is_at (nat_cmp n) e.0) (e.0 == n) (same_number n e.0) (of_row f g same n es)
  where
    by : (t u : Bool) → t ≡ u → option_map g (lookup (is_at (nat_cmp n)) es) ≡ option_map f (find (is_numbered n) (rows_of es))
        → option_map g (cond t (Some e.1) (lookup (is_at (nat_cmp n)) es)) ≡ option_map f (cond u (Some (row_of e)) (find (is_numbered n) (rows_of es)))
    by true true h rest = ap (λ b. Some b) (sym (same e.0 e.1))
    by true false h rest = absurd (true≢false h)
    by false true h rest = absurd (false≢true h)
    by false false h rest = rest

-- a new entry is a row put in its place
pub put_rows : (k : ℕ) (v : Note) (es : List (ℕ × Note)) → is_some (lookup (is_at (nat_cmp k)) es) ≡ false
    → rows_of (insert_entry nat_cmp es k v) ≡ put_by row_before (row_of (k, v)) (rows_of es)
put_rows k v [] h = refl
put_rows k v (e ∷ es) h = by (nat_cmp k e.0) h (put_rows k v es)
  where
    by : (r : Ordering) → is_some (cond (is_eq r) (Some e.1) (lookup (is_at (nat_cmp k)) es)) ≡ false
        → (is_some (lookup (is_at (nat_cmp k)) es) ≡ false → rows_of (insert_entry nat_cmp es k v) ≡ put_by row_before (row_of (k, v)) (rows_of es))
        → map row_of (match_ordering r ((k, v) ∷ e ∷ es) ((e.0, v) ∷ es) (e ∷ insert_entry nat_cmp es k v))
        ≡ cond (is_le r) (row_of (k, v) ∷ row_of e ∷ rows_of es) (row_of e ∷ put_by row_before (row_of (k, v)) (rows_of es))
    by Less none rest = refl
    by Equal none rest = absurd (true≢false none)
    by Greater none rest = ap (λ rs. row_of e ∷ rs) (rest none)

-- where no key is found, a filter of the others leaves all
all_left : (n : ℕ) (es : List (ℕ × Note)) → NonePasses (is_at (nat_cmp n)) es → rows_of es ≡ filter (λ r. not (is_numbered n r)) (rows_of es)
all_left n [] none = refl
all_left n (e ∷ es) none = by (e.0 == n) (sym (same_number n e.0) ∙ none.0) (all_left n es none.1)
  where
    by : (t : Bool) → t ≡ false → rows_of es ≡ filter (λ r. not (is_numbered n r)) (rows_of es)
        → row_of e ∷ rows_of es ≡ cond (not t) (row_of e ∷ filter (λ r. not (is_numbered n r)) (rows_of es)) (filter (λ r. not (is_numbered n r)) (rows_of es))
    by true h rest = absurd (true≢false h)
    by false h rest = ap (λ rs. row_of e ∷ rs) rest

-- an entry that is taken out is a row taken out
pub remove_rows : (n : ℕ) (es : List (ℕ × Note)) → IsStrictlySortedBy nat_cmp (keys_of es)
    → rows_of (remove_entry (is_at (nat_cmp n)) es) ≡ filter (λ r. not (is_numbered n r)) (rows_of es)
unfolding IsStrictlySortedBy
remove_rows n [] sorted = refl
remove_rows n (e ∷ es) sorted = by (is_at (nat_cmp n) e.0) (e.0 == n) refl (same_number n e.0) (remove_rows n es sorted.1)
  where
    by : (t u : Bool) → is_at (nat_cmp n) e.0 ≡ t → t ≡ u
        → rows_of (remove_entry (is_at (nat_cmp n)) es) ≡ filter (λ r. not (is_numbered n r)) (rows_of es)
        → rows_of (cond t es (e ∷ remove_entry (is_at (nat_cmp n)) es))
        ≡ cond (not u) (row_of e ∷ filter (λ r. not (is_numbered n r)) (rows_of es)) (filter (λ r. not (is_numbered n r)) (rows_of es))
    by true true at h rest =
        all_left n es (none_past_head (eq_by_cmp_equiv nat_cmp_total) n e es (IsDistinct-from_sorted nat_cmp (keys_of (e ∷ es)) sorted) at)
    by true false at h rest = absurd (true≢false h)
    by false true at h rest = absurd (false≢true h)
    by false false at h rest = ap (λ rs. row_of e ∷ rs) rest

pub rows_left : (n : ℕ) (es left : List (ℕ × Note)) (rows : List Retired) → left ≡ remove_entry (is_at (nat_cmp n)) es → IsStrictlySortedBy nat_cmp (keys_of es)
    → rows_of es ≡ rows → rows_of left ≡ filter (λ r. not (is_numbered n r)) rows
rows_left n es left rows is sorted are = ap rows_of is ∙ remove_rows n es sorted ∙ ap (filter (λ r. not (is_numbered n r))) are

-- a count is none exactly where no element passes
some_counted : (n : ℕ) → not (suc n == 0) ≡ true
some_counted n = grind (arith, nat_tests)

pub counted_any : {X : Type 0} (p : X → Bool) (xs : List X) → not (length (filter p xs) == 0) ≡ list_any p xs
counted_any p [] = refl
counted_any p (x ∷ xs) = by (p x) (counted_any p xs)
  where
    by : (t : Bool) → not (length (filter p xs) == 0) ≡ list_any p xs → not (length (cond t (x ∷ filter p xs) (filter p xs)) == 0) ≡ (t || list_any p xs)
    by true rest = some_counted (length (filter p xs))
    by false rest = rest

-- the dead entries are the dead rows
dead_entry : (format : Format) (shown : ℕ → Bool) (opened : List OpenMember)
    → (e : ℕ × Note) → is_dead_note format shown opened e ≡ is_dead_row format shown opened (row_of e)
dead_entry format shown opened e =
    ap (λ t. is_dead_at e.1.status ((shown e.0 || t) || (waits_for_timer format e.1.kind && not e.1.expired))) (counted_any (is_open_on e.0) opened)

pub dead_rows : (format : Format) (shown : ℕ → Bool) (opened : List OpenMember)
    → (es : List (ℕ × Note)) → map (λ e. e.0) (filter (is_dead_note format shown opened) es) ≡ dead_of format shown opened (rows_of es)
dead_rows format shown opened [] = refl
dead_rows format shown opened (e ∷ es) =
    by (is_dead_note format shown opened e) (is_dead_row format shown opened (row_of e)) (dead_entry format shown opened e)
    (dead_rows format shown opened es)
  where
    by : (t u : Bool) → t ≡ u → map (λ x. x.0) (filter (is_dead_note format shown opened) es) ≡ dead_of format shown opened (rows_of es)
        → map (λ x. x.0) (cond t (e ∷ filter (is_dead_note format shown opened) es) (filter (is_dead_note format shown opened) es))
        ≡ map (λ r. r.number) (cond u (row_of e ∷ filter (is_dead_row format shown opened) (rows_of es)) (filter (is_dead_row format shown opened) (rows_of es)))
    by true true h rest = ap (λ ns. e.0 ∷ ns) rest
    by true false h rest = absurd (true≢false h)
    by false true h rest = absurd (false≢true h)
    by false false h rest = rest

-- where no key is found, no row of this number passes a test
none_numbered : (q : Retired → Bool) (n : ℕ) (es : List (ℕ × Note)) → NonePasses (is_at (nat_cmp n)) es → list_any (λ r. is_numbered n r && q r) (rows_of es) ≡ false
none_numbered q n [] none = refl
none_numbered q n (e ∷ es) none =
    ap (λ t. (t && q (row_of e)) || list_any (λ r. is_numbered n r && q r) (rows_of es)) (sym (same_number n e.0) ∙ none.0)
    ∙ none_numbered q n es none.1

or_none : (t u : Bool) → u ≡ false → (t || u) ≡ t
or_none true u h = refl
or_none false u h = h

-- the row of a number is dead exactly where its note is
pub dead_found : (format : Format) (shown : ℕ → Bool) (opened : List OpenMember) (n : ℕ) (es : List (ℕ × Note)) → IsStrictlySortedBy nat_cmp (keys_of es)
    → unwrap_or (option_map (λ v. is_dead_note format shown opened (n, v)) (lookup (is_at (nat_cmp n)) es)) false ≡ is_dead_in format shown opened n (rows_of es)
unfolding IsStrictlySortedBy
dead_found format shown opened n [] sorted = refl
dead_found format shown opened n (e ∷ es) sorted = by (is_at (nat_cmp n) e.0) (e.0 == n) refl (same_number n e.0) (dead_found format shown opened n es sorted.1)
  where
    q : Retired → Bool
    q = is_dead_row format shown opened

    own : (e.0 == n) ≡ true → is_dead_note format shown opened (n, e.1) ≡ q (row_of e)
    own h = ap (λ k. is_dead_note format shown opened (k, e.1)) (number_same e.0 n h) ∙ dead_entry format shown opened e

    by : (t u : Bool) → is_at (nat_cmp n) e.0 ≡ t → t ≡ u
        → unwrap_or (option_map (λ v. is_dead_note format shown opened (n, v)) (lookup (is_at (nat_cmp n)) es)) false ≡ list_any (λ r. is_numbered n r && q r) (rows_of es)
        → unwrap_or (option_map (λ v. is_dead_note format shown opened (n, v)) (cond t (Some e.1) (lookup (is_at (nat_cmp n)) es))) false
        ≡ ((u && q (row_of e)) || list_any (λ r. is_numbered n r && q r) (rows_of es))
    by true true at h rest =
        own (sym (same_number n e.0) ∙ at)
        ∙ sym (or_none (q (row_of e)) (list_any (λ r. is_numbered n r && q r) (rows_of es))
        (none_numbered q n es (none_past_head (eq_by_cmp_equiv nat_cmp_total) n e es (IsDistinct-from_sorted nat_cmp (keys_of (e ∷ es)) sorted) at)))
    by true false at h rest = absurd (true≢false h)
    by false true at h rest = absurd (false≢true h)
    by false false at h rest = rest

-- A drain by its numbers: what is found in it of each is all that there is to it.
use Rattle.std.proofs.Common.{◌≡◌, ℕ, ◌<◌, Bool, true, false, not, ◌&&◌, ◌||◌, ◌==◌, cond, List, [], ◌∷◌, filter, map, Option, None, Some, is_some, find, refl, sym, ap, ◌∙◌, subst, arith}
use Rattle.std.specs.Prelude.{⊤}
use Rattle.std.specs.List.{list_any, AllByRecursion}
use Rattle.std.specs.Ordering.{nat_cmp, is_le}
use Rattle.std.proofs.lemmas.Bool.{true≢false, false≢true, or_parts}
use Rattle.std.proofs.lemmas.Bool.Decides.{nat_tests}
use Rattle.ev_types.specs.Statuses.{is_live}
use Rattle.ev_types.specs.declared.rows.GenRow.{GenRow}
use Rattle.ev_types.specs.declared.rows.RowStatus.{RowStatus}
use Rattle.ev_types.specs.declared.rows.RowStatus.TheVariants.{Warming, Active, Draining, Dropped}
use Rattle.ev_model.specs.Sorted.{put_by, sorted_by}
use Rattle.ev_model.specs.Picture.{has_number}
use Rattle.ev_model.specs.World.{World, OpenMember}
use Rattle.ev_model.specs.declared.pictures.Shown.{Shown}
use Rattle.ev_retirement.specs.Pictures.{HasPictures}
use Rattle.ev_ledger.specs.Members.{HasOpened}
use Rattle.ev_indexes.specs.Tables.{row_in}
use Rattle.ev_drain.specs.Retired.{Retired, row_before, has_row, is_numbered, is_retired, newly_retired, retired_in, retired_of, retired_status, HasRetired}
use Rattle.ev_retirement.specs.Holders.{HoldersParts, AreNumbered, HoldsFor}
use Rattle.ev_retirement.specs.Retiring.{AreInOrder, is_dropped, has_ceased, noted, noted_where, noted_all, CeasedBetween, HoldTheSame}

clash : (n a b : ℕ) → is_le (nat_cmp a b) ≡ false → (a == n) ≡ true → (b == n) ≡ true → ⊥
clash n a b order at also = grind (arith, nat_tests)

less_of : (a b : ℕ) → is_le (nat_cmp a b) ≡ true → (b == a) ≡ false → a < b
less_of a b order apart = grind (arith, nat_tests)

more_of : (a b : ℕ) → is_le (nat_cmp a b) ≡ false → b < a
more_of a b order = grind (arith, nat_tests)

pub is_itself : (n : ℕ) → (n == n) ≡ true
is_itself n = grind (arith, nat_tests)

turned : (a b : ℕ) → (a == b) ≡ (b == a)
turned a b = grind (arith, nat_tests)

pub same_of : (a b : ℕ) → (a == b) ≡ true → a ≡ b
same_of a b at = grind (arith, nat_tests)

apart_of : (a b : ℕ) → a < b → (b == a) ≡ false
apart_of a b less = grind (arith, nat_tests)

-- the row of a number, where one is put into the list
swapped : {X : Type 0} (s t : Bool) (one other rest : X) → (s ≡ true → t ≡ true → ⊥) → cond t other (cond s one rest) ≡ cond s one (cond t other rest)
swapped true true one other rest never = absurd (never refl refl)
swapped true false one other rest never = refl
swapped false t one other rest never = refl

find_put : (n : ℕ) (one : Retired) (rows : List Retired)
    → find (is_numbered n) (put_by row_before one rows) ≡ cond (one.number == n) (Some one) (find (is_numbered n) rows)
find_put n one [] = refl
find_put n one (row ∷ rows) = by (row_before one row) refl (find_put n one rows)
  where
    by : (b : Bool) → row_before one row ≡ b
        → find (is_numbered n) (put_by row_before one rows) ≡ cond (one.number == n) (Some one) (find (is_numbered n) rows)
        → find (is_numbered n) (cond b (one ∷ row ∷ rows) (row ∷ put_by row_before one rows))
        ≡ cond (one.number == n) (Some one) (cond (row.number == n) (Some row) (find (is_numbered n) rows))
    by true is rest = refl
    by false is rest =
        ap (λ found. cond (row.number == n) (Some row) found) rest
        ∙ swapped (one.number == n) (row.number == n) (Some one) (Some row) (find (is_numbered n) rows) (clash n one.number row.number is)

-- the order of the rows
above : (k m : ℕ) → k < m → (rows : List Retired) → AllByRecursion (λ (other : Retired). m < other.number) rows → AllByRecursion (λ (other : Retired). k < other.number) rows
above k m less [] all = tt
above k m less (row ∷ rows) all = (omega (arith, less, all.0), above k m less rows all.1)

put_above : (k : ℕ) (one : Retired) (rows : List Retired) → k < one.number → AllByRecursion (λ (other : Retired). k < other.number) rows
    → AllByRecursion (λ (other : Retired). k < other.number) (put_by row_before one rows)
put_above k one [] less all = (less, tt)
put_above k one (row ∷ rows) less all = by (row_before one row) (put_above k one rows less all.1)
  where
    by : (b : Bool) → AllByRecursion (λ (other : Retired). k < other.number) (put_by row_before one rows) → AllByRecursion (λ (other : Retired). k < other.number) (cond b (one ∷ row ∷ rows) (row ∷ put_by row_before one rows))
    by true rest = (less, all)
    by false rest = (all.0, rest)

pub put_ascending : (one : Retired) (rows : List Retired) → has_row rows one.number ≡ false → AreInOrder rows → AreInOrder (put_by row_before one rows)
put_ascending one [] none up = (tt, tt)
put_ascending one (row ∷ rows) none up =
    by (row_before one row) refl (put_ascending one rows (or_parts (is_numbered one.number row) (has_row rows one.number) none).1 up.1)
  where
    by : (b : Bool) → row_before one row ≡ b → AreInOrder (put_by row_before one rows) → AreInOrder (cond b (one ∷ row ∷ rows) (row ∷ put_by row_before one rows))
    by true is rest =
        let less : one.number < row.number = less_of one.number row.number is (or_parts (is_numbered one.number row) (has_row rows one.number) none).0 in
        ((less, above one.number row.number less rows up.0), up)
    by false is rest =
        (put_above row.number one rows (more_of one.number row.number is) up.0, rest)

-- a number below all of them is that of none
none_at : (k n : ℕ) (rows : List Retired) → (k == n) ≡ true → AllByRecursion (λ (other : Retired). k < other.number) rows → find (is_numbered n) rows ≡ None
none_at k n [] at all = refl
none_at k n (row ∷ rows) at all =
    ap (λ b. cond b (Some row) (find (is_numbered n) rows)) (subst (λ m. (row.number == m) ≡ false) (same_of k n at) (apart_of k row.number all.0)) ∙ none_at k n rows at all.1

found_above : (k n : ℕ) (rows : List Retired) (found : Retired) → AllByRecursion (λ (other : Retired). k < other.number) rows → find (is_numbered n) rows ≡ Some found → k < n
found_above k n [] found all is = absurd (cc is)
found_above k n (row ∷ rows) found all is = by (row.number == n) refl (found_above k n rows found all.1) is
  where
    by : (t : Bool) → (row.number == n) ≡ t → (find (is_numbered n) rows ≡ Some found → k < n) → cond t (Some row) (find (is_numbered n) rows) ≡ Some found → k < n
    by true at rest is = subst (λ m. k < m) (same_of row.number n at) all.0
    by false at rest is = rest is

own : (row : Retired) (rows : List Retired) → find (is_numbered row.number) (row ∷ rows) ≡ Some row
own row rows = ap (λ b. cond b (Some row) (find (is_numbered row.number) rows)) (is_itself row.number)

-- two lists in order with one first row, in which each number finds the same
rests : (row : Retired) (xs ys : List Retired) → AllByRecursion (λ (other : Retired). row.number < other.number) xs → AllByRecursion (λ (other : Retired). row.number < other.number) ys
    → ((n : ℕ) → find (is_numbered n) (row ∷ xs) ≡ find (is_numbered n) (row ∷ ys)) → (n : ℕ) → find (is_numbered n) xs ≡ find (is_numbered n) ys
rests row xs ys low also same n = by (row.number == n) refl (same n)
  where
    by : (t : Bool) → (row.number == n) ≡ t → cond t (Some row) (find (is_numbered n) xs) ≡ cond t (Some row) (find (is_numbered n) ys) → find (is_numbered n) xs ≡ find (is_numbered n) ys
    by true at is = none_at row.number n xs at low ∙ sym (none_at row.number n ys at also)
    by false at is = is

heads : (x y : Retired) (xs ys : List Retired) → AreInOrder (x ∷ xs) → AreInOrder (y ∷ ys)
    → ((n : ℕ) → find (is_numbered n) (x ∷ xs) ≡ find (is_numbered n) (y ∷ ys)) → x ≡ y
heads x y xs ys up also same = by (y.number == x.number) (x.number == y.number) refl refl (sym (own x xs) ∙ same x.number) (same y.number ∙ own y ys)
  where
    by : (t u : Bool) → (y.number == x.number) ≡ t → (x.number == y.number) ≡ u → Some x ≡ cond t (Some y) (find (is_numbered x.number) ys)
        → cond u (Some x) (find (is_numbered y.number) xs) ≡ Some y → x ≡ y
    by true u at turn is other = cc is
    by false true at turn is other = cc other
    by false false at turn is other =
        let one : y.number < x.number = found_above y.number x.number ys x also.0 (sym is) in
        let two : x.number < y.number = found_above x.number y.number xs y up.0 other in
        absurd (omega (arith, one, two))

same_lists : (xs ys : List Retired) → AreInOrder xs → AreInOrder ys → ((n : ℕ) → find (is_numbered n) xs ≡ find (is_numbered n) ys) → xs ≡ ys
same_lists [] [] up also same = refl
same_lists [] (y ∷ ys) up also same = absurd (cc (same y.number ∙ own y ys))
same_lists (x ∷ xs) [] up also same = absurd (cc (sym (own x xs) ∙ same x.number))
same_lists (x ∷ xs) (y ∷ ys) up also same =
    let head : x ≡ y = heads x y xs ys up also same in
    let low : AllByRecursion (λ (other : Retired). x.number < other.number) ys =
    subst (λ (z : Retired). AllByRecursion (λ (other : Retired). z.number < other.number) ys) (sym head) also.0 in
    let rest : (n : ℕ) → find (is_numbered n) xs ≡ find (is_numbered n) ys =
    rests x xs ys up.0 low (subst (λ (z : Retired). (n : ℕ) → find (is_numbered n) (x ∷ xs) ≡ find (is_numbered n) (z ∷ ys)) (sym head) same) in
    λ i. head i ∷ same_lists xs ys up.1 also.1 rest i

-- a sort finds what was there
find_sorted : (n : ℕ) (rows : List Retired) → find (is_numbered n) (sorted_by row_before rows) ≡ find (is_numbered n) rows
find_sorted n [] = refl
find_sorted n (row ∷ rows) = find_put n row (sorted_by row_before rows) ∙ ap (λ found. cond (row.number == n) (Some row) found) (find_sorted n rows)

has_found : (n : ℕ) (rows : List Retired) → has_row rows n ≡ is_some (find (is_numbered n) rows)
has_found n [] = refl
has_found n (row ∷ rows) = by (row.number == n) (has_found n rows)
  where
    by : (t : Bool) → has_row rows n ≡ is_some (find (is_numbered n) rows) → (t || has_row rows n) ≡ is_some (cond t (Some row) (find (is_numbered n) rows))
    by true rest = refl
    by false rest = rest

abbrev Apart : List Retired → Type 0
Apart [] = ⊤
Apart (row ∷ rows) = (has_row rows row.number ≡ false) × Apart rows

sorted_ascending : (rows : List Retired) → Apart rows → AreInOrder (sorted_by row_before rows)
sorted_ascending [] apart = tt
sorted_ascending (row ∷ rows) apart =
    put_ascending row (sorted_by row_before rows)
    (has_found row.number (sorted_by row_before rows) ∙ ap is_some (find_sorted row.number rows) ∙ sym (has_found row.number rows) ∙ apart.0)
    (sorted_ascending rows apart.1)

none_left : (n : ℕ) (expired : List ℕ) (rows : List GenRow) → list_any (λ (other : GenRow). other.number == n) rows ≡ false
    → has_row (map (retired_in expired) (filter is_retired rows)) n ≡ false
none_left n expired [] none = refl
none_left n expired (row ∷ rows) none =
    by (is_retired row) (none_left n expired rows (or_parts (row.number == n) (list_any (λ (other : GenRow). other.number == n) rows) none).1)
  where
    parts : ((row.number == n) ≡ false) × (list_any (λ (other : GenRow). other.number == n) rows ≡ false)
    parts = or_parts (row.number == n) (list_any (λ (other : GenRow). other.number == n) rows) none

    by : (s : Bool) → has_row (map (retired_in expired) (filter is_retired rows)) n ≡ false
        → has_row (map (retired_in expired) (cond s (row ∷ filter is_retired rows) (filter is_retired rows))) n ≡ false
    by true rest = ap (λ b. b || has_row (map (retired_in expired) (filter is_retired rows)) n) parts.0 ∙ rest
    by false rest = rest

retired_apart : (expired : List ℕ) (rows : List GenRow) → AreNumbered rows → Apart (map (retired_in expired) (filter is_retired rows))
retired_apart expired [] apart = tt
retired_apart expired (row ∷ rows) apart = by (is_retired row) (retired_apart expired rows apart.1)
  where
    by : (s : Bool) → Apart (map (retired_in expired) (filter is_retired rows)) → Apart (map (retired_in expired) (cond s (row ∷ filter is_retired rows) (filter is_retired rows)))
    by true rest = (none_left row.number expired rows apart.0, rest)
    by false rest = rest

retired_ascending : (expired : List ℕ) (rows : List GenRow) → AreNumbered rows → AreInOrder (retired_of expired rows)
retired_ascending expired rows apart = sorted_ascending (map (retired_in expired) (filter is_retired rows)) (retired_apart expired rows apart)

-- what a drain has of a row that was found
abbrev found_in : List ℕ → Option GenRow → Option Retired
found_in expired None = None
found_in expired (Some row) = cond (is_retired row) (Some (retired_in expired row)) None

none_of : (n : ℕ) (rows : List GenRow) → list_any (λ (other : GenRow). other.number == n) rows ≡ false → row_in n rows ≡ None
none_of n [] none = refl
none_of n (row ∷ rows) none =
    let parts = or_parts (row.number == n) (list_any (λ (other : GenRow). other.number == n) rows) none in
    ap (λ b. cond b (Some row) (row_in n rows)) (turned n row.number ∙ parts.0) ∙ none_of n rows parts.1

find_retired : (n : ℕ) (expired : List ℕ) (rows : List GenRow) → AreNumbered rows
    → find (is_numbered n) (map (retired_in expired) (filter is_retired rows)) ≡ found_in expired (row_in n rows)
find_retired n expired [] apart = refl
find_retired n expired (row ∷ rows) apart = by (is_retired row) (n == row.number) refl refl (find_retired n expired rows apart.1)
  where
    by : (s t : Bool) → is_retired row ≡ s → (n == row.number) ≡ t
        → find (is_numbered n) (map (retired_in expired) (filter is_retired rows)) ≡ found_in expired (row_in n rows)
        → find (is_numbered n) (map (retired_in expired) (cond s (row ∷ filter is_retired rows) (filter is_retired rows))) ≡ found_in expired (cond t (Some row) (row_in n rows))
    by true true over at rest =
        ap (λ b. cond b (Some (retired_in expired row)) (find (is_numbered n) (map (retired_in expired) (filter is_retired rows)))) (turned row.number n ∙ at)
        ∙ sym (ap (λ b. cond b (Some (retired_in expired row)) None) over)
    by true false over at rest =
        ap (λ b. cond b (Some (retired_in expired row)) (find (is_numbered n) (map (retired_in expired) (filter is_retired rows)))) (turned row.number n ∙ at) ∙ rest
    by false true over at rest =
        rest ∙ ap (found_in expired) (none_of n rows (subst (λ k. list_any (λ (other : GenRow). other.number == k) rows ≡ false) (sym (same_of n row.number at)) apart.0))
        ∙ sym (ap (λ b. cond b (Some (retired_in expired row)) None) over)
    by false false over at rest = rest

find_of : (n : ℕ) (expired : List ℕ) (rows : List GenRow) → AreNumbered rows → find (is_numbered n) (retired_of expired rows) ≡ found_in expired (row_in n rows)
find_of n expired rows apart = find_sorted n (map (retired_in expired) (filter is_retired rows)) ∙ find_retired n expired rows apart

-- the first, and otherwise the second
abbrev or_else : Option Retired → Option Retired → Option Retired
or_else None other = other
or_else (Some row) other = Some row

or_none : (found : Option Retired) → or_else found None ≡ found
or_none None = refl
or_none (Some row) = refl

-- what is noted of a row that was found
abbrev noted_of : Option GenRow → Option Retired
noted_of None = None
noted_of (Some row) = Some (retired_in [] row)

noted_find : (n : ℕ) (drain : List Retired) (row : GenRow)
    → find (is_numbered n) (noted drain row) ≡ or_else (find (is_numbered n) drain) (cond (row.number == n) (Some (retired_in [] row)) None)
noted_find n drain row = by (has_row drain row.number) refl
  where
    there : (found : Option Retired) (t : Bool) → (t ≡ true → is_some found ≡ true) → found ≡ or_else found (cond t (Some (retired_in [] row)) None)
    there None true has = absurd (false≢true (has refl))
    there None false has = refl
    there (Some other) t has = refl

    absent : (found : Option Retired) (t : Bool) → (t ≡ true → is_some found ≡ false)
        → cond t (Some (retired_in [] row)) found ≡ or_else found (cond t (Some (retired_in [] row)) None)
    absent None true none = refl
    absent None false none = refl
    absent (Some other) true none = absurd (true≢false (none refl))
    absent (Some other) false none = refl

    found_by : (b : Bool) → has_row drain row.number ≡ b → (row.number == n) ≡ true → is_some (find (is_numbered n) drain) ≡ b
    found_by b is at = sym (has_found n drain) ∙ subst (λ m. has_row drain m ≡ b) (same_of row.number n at) is

    by : (b : Bool) → has_row drain row.number ≡ b
        → find (is_numbered n) (cond b drain (put_by row_before (retired_in [] row) drain)) ≡ or_else (find (is_numbered n) drain) (cond (row.number == n) (Some (retired_in [] row)) None)
    by true is = there (find (is_numbered n) drain) (row.number == n) (found_by true is)
    by false is = find_put n (retired_in [] row) drain ∙ absent (find (is_numbered n) drain) (row.number == n) (found_by false is)

noted_ascending : (drain : List Retired) (row : GenRow) → AreInOrder drain → AreInOrder (noted drain row)
noted_ascending drain row up = by (has_row drain row.number) refl
  where
    by : (b : Bool) → has_row drain row.number ≡ b → AreInOrder (cond b drain (put_by row_before (retired_in [] row) drain))
    by true is = up
    by false is = put_ascending (retired_in [] row) drain is up

number_found : (m : ℕ) (rows : List GenRow) (row : GenRow) → row_in m rows ≡ Some row → m ≡ row.number
number_found m [] row is = absurd (cc is)
number_found m (other ∷ rows) row is = by (m == other.number) refl (number_found m rows row) is
  where
    some_number : Some other ≡ Some row → other.number ≡ row.number
    some_number same = cc same

    by : (t : Bool) → (m == other.number) ≡ t → (row_in m rows ≡ Some row → m ≡ row.number) → cond t (Some other) (row_in m rows) ≡ Some row → m ≡ row.number
    by true at rest is = same_of m other.number at ∙ some_number is
    by false at rest is = rest is

where_find : (n m : ℕ) (rows : List GenRow) (drain : List Retired)
    → find (is_numbered n) (noted_where drain (row_in m rows)) ≡ or_else (find (is_numbered n) drain) (cond (m == n) (noted_of (row_in n rows)) None)
where_find n m rows drain = by (row_in m rows) refl
  where
    missing : (t : Bool) → (m == n) ≡ t → row_in m rows ≡ None → cond t (noted_of (row_in n rows)) None ≡ None
    missing true at is = ap noted_of (subst (λ k. row_in k rows ≡ None) (same_of m n at) is)
    missing false at is = refl

    there : (row : GenRow) (t : Bool) → (m == n) ≡ t → row_in m rows ≡ Some row → cond t (Some (retired_in [] row)) None ≡ cond t (noted_of (row_in n rows)) None
    there row true at is = sym (ap noted_of (subst (λ k. row_in k rows ≡ Some row) (same_of m n at) is))
    there row false at is = refl

    by : (found : Option GenRow) → row_in m rows ≡ found
        → find (is_numbered n) (noted_where drain found) ≡ or_else (find (is_numbered n) drain) (cond (m == n) (noted_of (row_in n rows)) None)
    by None is = sym (or_none (find (is_numbered n) drain)) ∙ ap (or_else (find (is_numbered n) drain)) (sym (missing (m == n) refl is))
    by (Some row) is =
        noted_find n drain row
        ∙ ap (λ k. or_else (find (is_numbered n) drain) (cond (k == n) (Some (retired_in [] row)) None)) (sym (number_found m rows row is))
        ∙ ap (or_else (find (is_numbered n) drain)) (there row (m == n) refl is)

where_ascending : (drain : List Retired) (found : Option GenRow) → AreInOrder drain → AreInOrder (noted_where drain found)
where_ascending drain None up = up
where_ascending drain (Some row) up = noted_ascending drain row up

all_find : (n : ℕ) (rows : List GenRow) (numbers : List ℕ) (drain : List Retired)
    → find (is_numbered n) (noted_all rows numbers drain) ≡ or_else (find (is_numbered n) drain) (cond (has_number n numbers) (noted_of (row_in n rows)) None)
all_find n rows [] drain = sym (or_none (find (is_numbered n) drain))
all_find n rows (m ∷ numbers) drain =
    all_find n rows numbers (noted_where drain (row_in m rows))
    ∙ ap (λ found. or_else found (cond (has_number n numbers) (noted_of (row_in n rows)) None)) (where_find n m rows drain)
    ∙ by (find (is_numbered n) drain) (noted_of (row_in n rows)) (m == n) (has_number n numbers)
  where
    by : (had more : Option Retired) (s t : Bool) → or_else (or_else had (cond s more None)) (cond t more None) ≡ or_else had (cond (s || t) more None)
    by (Some row) more s t = refl
    by None None true true = refl
    by None None true false = refl
    by None None false t = refl
    by None (Some row) true t = refl
    by None (Some row) false t = refl

all_ascending : (rows : List GenRow) (numbers : List ℕ) (drain : List Retired) → AreInOrder drain → AreInOrder (noted_all rows numbers drain)
all_ascending rows [] drain up = up
all_ascending rows (m ∷ numbers) drain up = all_ascending rows numbers (noted_where drain (row_in m rows)) (where_ascending drain (row_in m rows) up)

rows_stand : (drain : List Retired) (numbers expired : List ℕ) (before after : List GenRow)
    → HasRetired drain before expired → AreNumbered before → AreNumbered after
    → ((number : ℕ) → has_number number expired ≡ true → has_row drain number ≡ true)
    → CeasedBetween numbers before after
    → HasRetired (noted_all after numbers drain) after expired
rows_stand drain numbers expired before after stands apart also marks retired =
    same_lists (noted_all after numbers drain) (retired_of expired after)
    (all_ascending after numbers drain (subst AreInOrder (sym stands) (retired_ascending expired before apart)))
    (retired_ascending expired after also)
    (λ n. all_find n after numbers drain
    ∙ ap (λ found. or_else found (cond (has_number n numbers) (noted_of (row_in n after)) None)) (had n)
    ∙ ap (λ b. or_else (found_in expired (row_in n before)) (cond b (noted_of (row_in n after)) None)) (retired.told n)
    ∙ by n (row_in n before) (row_in n after) refl refl
    ∙ sym (find_of n expired after also))
  where
    had : (n : ℕ) → find (is_numbered n) drain ≡ found_in expired (row_in n before)
    had n = ap (find (is_numbered n)) stands ∙ find_of n expired before apart

    -- where it wasn't over before, it isn't marked
    fresh : (n : ℕ) (b : Bool) → has_number n expired ≡ b → found_in expired (row_in n before) ≡ None → b ≡ false
    fresh n true is none = absurd (true≢false (sym (marks n is) ∙ has_found n drain ∙ ap is_some (had n ∙ none)))
    fresh n false is none = refl

    note : (n : ℕ) (found : Option GenRow) → row_in n after ≡ found → found_in expired (row_in n before) ≡ None
        → cond (has_ceased found && true) (noted_of found) None ≡ found_in expired found
    note n None is none = refl
    note n (Some row) is none =
        let unmarked : has_number row.number expired ≡ false =
        subst (λ k. has_number k expired ≡ false) (number_found n after row is) (fresh n (has_number n expired) refl none) in
        ended row (is_live row.status) (has_number row.number expired) unmarked
      where
        ended : (r : GenRow) (live mark : Bool) → mark ≡ false
            → cond (not live && true) (Some (retired_in [] r)) None ≡ cond (not live) (Some (record { kind = r.kind; number = r.number; name = r.name; status = r.status; expired = mark })) None
        ended r true mark unset = refl
        ended r false mark unset = ap (λ b. Some (record { kind = r.kind; number = r.number; name = r.name; status = r.status; expired = b })) (sym unset)

    by : (n : ℕ) (was is_now : Option GenRow) → row_in n before ≡ was → row_in n after ≡ is_now
        → or_else (found_in expired was) (cond (has_ceased is_now && not (has_ceased was)) (noted_of is_now) None) ≡ found_in expired is_now
    by n None is_now had_it has_it = note n is_now has_it (ap (found_in expired) had_it)
    by n (Some row) is_now had_it has_it = live_or_over (is_live row.status) refl
      where
        live_or_over : (live : Bool) → is_live row.status ≡ live
            → or_else (cond (not (is_live row.status)) (Some (retired_in expired row)) None) (cond (has_ceased is_now && not (not (is_live row.status))) (noted_of is_now) None) ≡ found_in expired is_now
        live_or_over true live =
            ap (λ b. or_else (cond (not b) (Some (retired_in expired row)) None) (cond (has_ceased is_now && not (not b)) (noted_of is_now) None)) live
            ∙ note n is_now has_it (ap (found_in expired) had_it ∙ ap (λ b. cond (not b) (Some (retired_in expired row)) None) live)
        live_or_over false live =
            ap (λ b. or_else (cond (not b) (Some (retired_in expired row)) None) (cond (has_ceased is_now && not (not b)) (noted_of is_now) None)) live
            ∙ sym (ap (found_in expired) (sym has_it ∙ retired.stays n row had_it live) ∙ ap (λ b. cond (not b) (Some (retired_in expired row)) None) live)

marked_there : (drain : List Retired) (expired : List ℕ) → AllByRecursion (λ n. has_row drain n ≡ true) expired → (n : ℕ) → has_number n expired ≡ true → has_row drain n ≡ true
marked_there drain [] all n is = absurd (false≢true is)
marked_there drain (m ∷ expired) all n is = by (m == n) refl is (marked_there drain expired all.1 n)
  where
    by : (t : Bool) → (m == n) ≡ t → (t || has_number n expired) ≡ true → (has_number n expired ≡ true → has_row drain n ≡ true) → has_row drain n ≡ true
    by true at is rest = subst (λ k. has_row drain k ≡ true) (same_of m n at) all.0
    by false at is rest = rest is

still_there : (rows : List GenRow) (numbers : List ℕ) (drain : List Retired) (n : ℕ) → has_row drain n ≡ true → has_row (noted_all rows numbers drain) n ≡ true
still_there rows numbers drain n there =
    has_found n (noted_all rows numbers drain) ∙ ap is_some (all_find n rows numbers drain)
    ∙ by (find (is_numbered n) drain) (cond (has_number n numbers) (noted_of (row_in n rows)) None) (sym (has_found n drain) ∙ there)
  where
    by : (found other : Option Retired) → is_some found ≡ true → is_some (or_else found other) ≡ true
    by None other there = absurd (false≢true there)
    by (Some row) other there = refl

still_marked : (rows : List GenRow) (numbers : List ℕ) (drain : List Retired) (expired : List ℕ) → AllByRecursion (λ n. has_row drain n ≡ true) expired
    → AllByRecursion (λ n. has_row (noted_all rows numbers drain) n ≡ true) expired
still_marked rows numbers drain [] all = tt
still_marked rows numbers drain (n ∷ expired) all = (still_there rows numbers drain n all.0, still_marked rows numbers drain expired all.1)

-- what holds generations, once those that ceased to be live are noted
pub retirements_stand : (holders : HoldersParts) (numbers : List ℕ) (before after : World)
    → HoldsFor holders before → AreNumbered before.rows → AreNumbered after.rows → HoldTheSame before after → CeasedBetween numbers before.rows after.rows
    → HoldsFor (record holders { drain = noted_all after.rows numbers holders.drain }) after
retirements_stand holders numbers before after stands apart also same ceased =
    let drain : List Retired = noted_all after.rows numbers holders.drain in
    let had = stands.pictures in
    record {
      pictures = subst (λ (ps : List Shown). HasPictures holders.pictures (record after { pictures = ps })) (sym same.pictures)
          (subst (λ (versions : List ℕ). HasPictures holders.pictures (record after { pictures = before.pictures; held = versions })) (sym same.held)
          (record { published = had.published; last = had.last; held = had.held; known = had.known }));
      opened = subst (λ (members : List OpenMember). HasOpened holders.ledger members) (sym same.opened) stands.opened;
      retired = subst (λ es. HasRetired drain after.rows es) (sym same.expired)
          (rows_stand holders.drain numbers before.expired before.rows after.rows stands.retired apart also (marked_there holders.drain before.expired stands.marked) ceased);
      marked = subst (λ es. AllByRecursion (λ n. has_row drain n ≡ true) es) (sym same.expired) (still_marked after.rows numbers holders.drain before.expired stands.marked);
    }

-- a row that is over, as a new one of the drain
pub noted_same : (row : GenRow) (dropped : Bool) → is_live row.status ≡ false → dropped ≡ is_dropped row.status
    → newly_retired row.kind row.number row.name dropped ≡ retired_in [] row
noted_same row dropped over is =
    ap (newly_retired row.kind row.number row.name) is
    ∙ ap (λ (status : RowStatus). record { kind = row.kind; number = row.number; name = row.name; status = status; expired = false }) (by row.status over)
  where
    by : (status : RowStatus) → is_live status ≡ false → retired_status (is_dropped status) ≡ status
    by Warming h = absurd (true≢false h)
    by Active h = absurd (true≢false h)
    by Draining h = refl
    by Dropped h = refl

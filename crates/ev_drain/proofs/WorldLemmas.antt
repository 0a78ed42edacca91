-- The drain's rows as the retired rows of a world.
use Rattle.std.proofs.Common.{◌≡◌, ℕ, Bool, true, false, not, ◌&&◌, ◌||◌, ◌==◌, cond, nat_le, List, [], ◌∷◌, ◌++◌, filter, map, refl, sym, ap, ◌∙◌, subst, arith}
use Rattle.std.specs.List.{list_any, AllByRecursion}
use Rattle.ev_types.specs.declared.contents.Kind.TheVariants.{Lds}
use Rattle.ev_model.specs.Rows.{is_row_of}
use Rattle.ev_model.specs.Signals.{is_draining, is_unexpired, unexpired}
use Rattle.std.specs.Ordering.{nat_cmp, is_le, is_eq}
use Rattle.std.specs.declared.cmp.Ordering.TheVariants.{Less}
use Rattle.std.specs.List.Sorted.{IsStrictlySortedBy}
use Rattle.std.specs.Map.{keys_of}
use Rattle.ev_drain.specs.declared.notes.Note.{Note}
use Rattle.ev_drain.specs.Notes.{rows_of}
use Rattle.ev_drain.proofs.RowLemmas.{same_number}
use Rattle.std.proofs.lemmas.Bool.{true≢false, false≢true, or_parts}
use Rattle.std.proofs.lemmas.Bool.Decides.{nat_tests}
use Rattle.std.proofs.lemmas.Cmp.{nat_cmp_total, on_total}
use Rattle.std.proofs.lemmas.List.Folds.{list_any-append}
use Rattle.ev_types.specs.Statuses.{is_live}
use Rattle.ev_types.specs.declared.journals.Format.{Format}
use Rattle.ev_types.specs.declared.rows.RowStatus.{RowStatus}
use Rattle.ev_types.specs.declared.rows.RowStatus.TheVariants.{Warming, Active, Draining, Dropped}
use Rattle.ev_types.specs.declared.rows.GenRow.{GenRow}
use Rattle.ev_model.specs.World.{World, OpenMember}
use Rattle.ev_model.specs.Sorted.{put_by, sorted_by}
use Rattle.ev_model.specs.Picture.{has_number}
use Rattle.ev_model.specs.Dead.{is_dead, is_dead_at, is_open_on, waits_for_timer, numbers_in_use}
use Rattle.ev_model.specs.Publishing.{ascending, dead_numbers}
use Rattle.ev_ledger.specs.Members.{member_before}
use Rattle.ev_ledger.proofs.OrderLemmas.{IsOrder, any_sorted, filter_sorted, put_put, any_put}
use Rattle.ev_ledger.proofs.PlaceLemmas.{le_order}
use Rattle.ev_drain.specs.Retired.{Retired, row_before, is_numbered, is_retired, retired_in, dead_of, is_dead_row, HasRetired, is_waiting, marked, has_row, newly_retired, retired_status}

number_order : IsOrder row_before
number_order = le_order (λ (a b : Retired). nat_cmp a.number b.number) (on_total (λ (r : Retired). r.number) nat_cmp_total)

-- a map that keeps the order may be made before or after a sort
module _ {X Y : Type 0} (le : X → X → Bool) (after : Y → Y → Bool) (f : X → Y) (same : (x y : X) → le x y ≡ after (f x) (f y)) where
  put_mapped : (x : X) (ys : List X) → map f (put_by le x ys) ≡ put_by after (f x) (map f ys)
  put_mapped x [] = refl
  put_mapped x (y ∷ ys) = by (le x y) (after (f x) (f y)) (same x y) (put_mapped x ys)
    where
      by : (t u : Bool) → t ≡ u → map f (put_by le x ys) ≡ put_by after (f x) (map f ys)
          → map f (cond t (x ∷ y ∷ ys) (y ∷ put_by le x ys)) ≡ cond u (f x ∷ f y ∷ map f ys) (f y ∷ put_by after (f x) (map f ys))
      by true true h rest = refl
      by true false h rest = absurd (true≢false h)
      by false true h rest = absurd (false≢true h)
      by false false h rest = ap (λ zs. f y ∷ zs) rest

  pub sorted_mapped : (xs : List X) → map f (sorted_by le xs) ≡ sorted_by after (map f xs)
  sorted_mapped [] = refl
  sorted_mapped (x ∷ xs) = put_mapped x (sorted_by le xs) ∙ ap (put_by after (f x)) (sorted_mapped xs)

-- a filter of what is made is made of a filter
filter_mapped : {X Y : Type 0} (q : Y → Bool) (f : X → Y) (xs : List X) → filter q (map f xs) ≡ map f (filter (λ x. q (f x)) xs)
filter_mapped q f [] = refl
filter_mapped q f (x ∷ xs) = by (q (f x)) (filter_mapped q f xs)
  where
    by : (t : Bool) → filter q (map f xs) ≡ map f (filter (λ y. q (f y)) xs)
        → cond t (f x ∷ filter q (map f xs)) (filter q (map f xs)) ≡ map f (cond t (x ∷ filter (λ y. q (f y)) xs) (filter (λ y. q (f y)) xs))
    by true rest = ap (λ ys. f x ∷ ys) rest
    by false rest = rest

-- two filters are one by both tests
filter_both : {X : Type 0} (p q both : X → Bool) → ((x : X) → (p x && q x) ≡ both x) → (xs : List X) → filter q (filter p xs) ≡ filter both xs
filter_both p q both same [] = refl
filter_both p q both same (x ∷ xs) = by (p x) (q x) (both x) (same x) refl (filter_both p q both same xs)
  where
    by : (s t u : Bool) → (s && t) ≡ u → q x ≡ t → filter q (filter p xs) ≡ filter both xs
        → filter q (cond s (x ∷ filter p xs) (filter p xs)) ≡ cond u (x ∷ filter both xs) (filter both xs)
    by true true true h at rest = ap (λ b. cond b (x ∷ filter q (filter p xs)) (filter q (filter p xs))) at ∙ ap (λ ys. x ∷ ys) rest
    by true true false h at rest = absurd (true≢false h)
    by true false true h at rest = absurd (false≢true h)
    by true false false h at rest = ap (λ b. cond b (x ∷ filter q (filter p xs)) (filter q (filter p xs))) at ∙ rest
    by false t true h at rest = absurd (false≢true h)
    by false t false h at rest = rest

mapped_twice : {X Y Z : Type 0} (g : Y → Z) (f : X → Y) (xs : List X) → map g (map f xs) ≡ map (λ x. g (f x)) xs
mapped_twice g f [] = refl
mapped_twice g f (x ∷ xs) = ap (λ ys. g (f x) ∷ ys) (mapped_twice g f xs)

le_same : (a b : ℕ) → is_le (nat_cmp a b) ≡ nat_le a b
le_same a b = grind (arith, nat_tests)

-- a row of the world is dead exactly where it is retired, and dead as such
dead_same : (format : Format) (shown : ℕ → Bool) (opened : List OpenMember) (world : World)
    → ((n : ℕ) → shown n ≡ has_number n (numbers_in_use world)) → ((n : ℕ) → list_any (is_open_on n) opened ≡ list_any (is_open_on n) world.opened)
    → (row : GenRow) → (is_retired row && is_dead_row format shown opened (retired_in world.expired row)) ≡ is_dead format world row
dead_same format shown opened world shows opens row =
    ap (λ s. is_retired row && is_dead_at row.status ((s || list_any (is_open_on row.number) opened) || (waits_for_timer format row.kind && not (has_number row.number world.expired)))) (shows row.number)
    ∙ ap (λ s. is_retired row && is_dead_at row.status ((has_number row.number (numbers_in_use world) || s) || (waits_for_timer format row.kind && not (has_number row.number world.expired)))) (opens row.number)
    ∙ by row.status ((has_number row.number (numbers_in_use world) || list_any (is_open_on row.number) world.opened) || (waits_for_timer format row.kind && not (has_number row.number world.expired)))
  where
    by : (status : RowStatus) (held : Bool) → (not (is_live status) && is_dead_at status held) ≡ is_dead_at status held
    by Warming held = refl
    by Active held = refl
    by Draining held = refl
    by Dropped held = refl

-- the dead rows of a drain are those of the world that it represents
pub dead_stands : (format : Format) (shown : ℕ → Bool) (drain : List Retired) (opened : List OpenMember) (world : World)
    → HasRetired drain world.rows world.expired → opened ≡ sorted_by member_before world.opened
    → ((n : ℕ) → shown n ≡ has_number n (numbers_in_use world)) → dead_of format shown opened drain ≡ dead_numbers format world
dead_stands format shown drain opened world stands holds shows =
    let dead : Retired → Bool = is_dead_row format shown opened in
    let retired : GenRow → Retired = retired_in world.expired in
    let opens : (n : ℕ) → list_any (is_open_on n) opened ≡ list_any (is_open_on n) world.opened =
    λ n. ap (list_any (is_open_on n)) holds ∙ any_sorted member_before (is_open_on n) world.opened in
    ap (λ rs. map (λ (r : Retired). r.number) (filter dead rs)) stands
    ∙ ap (map (λ (r : Retired). r.number)) (filter_sorted row_before number_order dead (map retired (filter is_retired world.rows)))
    ∙ sorted_mapped row_before nat_le (λ (r : Retired). r.number) (λ x y. le_same x.number y.number) (filter dead (map retired (filter is_retired world.rows)))
    ∙ ap (λ rs. ascending (map (λ (r : Retired). r.number) rs)) (filter_mapped dead retired (filter is_retired world.rows))
    ∙ ap ascending (mapped_twice (λ (r : Retired). r.number) retired (filter (λ row. dead (retired row)) (filter is_retired world.rows)))
    ∙ ap (λ rs. ascending (map (λ (r : GenRow). r.number) rs))
    (filter_both is_retired (λ row. dead (retired row)) (is_dead format world) (dead_same format shown opened world shows opens) world.rows)

pub any_mapped : {X Y : Type 0} (q : Y → Bool) (f : X → Y) (xs : List X) → list_any q (map f xs) ≡ list_any (λ x. q (f x)) xs
any_mapped q f [] = refl
any_mapped q f (x ∷ xs) = ap (λ b. q (f x) || b) (any_mapped q f xs)

-- what one test leaves passes another where both pass
any_both : {X : Type 0} (p q both : X → Bool) → ((x : X) → (p x && q x) ≡ both x) → (xs : List X) → list_any q (filter p xs) ≡ list_any both xs
any_both p q both same [] = refl
any_both p q both same (x ∷ xs) = by (p x) (both x) (same x) (any_both p q both same xs)
  where
    by : (s u : Bool) → (s && q x) ≡ u → list_any q (filter p xs) ≡ list_any both xs → list_any q (cond s (x ∷ filter p xs) (filter p xs)) ≡ (u || list_any both xs)
    by true u h rest = ap (λ b. b || list_any q (filter p xs)) h ∙ ap (λ b. u || b) rest
    by false true h rest = absurd (false≢true h)
    by false false h rest = rest

mapped_left : {X Y : Type 0} (p : X → Bool) (f g : X → Y) → ((x : X) → p x ≡ true → f x ≡ g x) → (xs : List X) → map f (filter p xs) ≡ map g (filter p xs)
mapped_left p f g same [] = refl
mapped_left p f g same (x ∷ xs) = by (p x) refl (mapped_left p f g same xs)
  where
    by : (t : Bool) → p x ≡ t → map f (filter p xs) ≡ map g (filter p xs) → map f (cond t (x ∷ filter p xs) (filter p xs)) ≡ map g (cond t (x ∷ filter p xs) (filter p xs))
    by true h rest = ap (λ y. y ∷ map f (filter p xs)) (same x h) ∙ ap (λ ys. g x ∷ ys) rest
    by false h rest = rest

and_turned : (a b : Bool) → (a && b) ≡ (b && a)
and_turned true true = refl
and_turned true false = refl
and_turned false true = refl
and_turned false false = refl

other_number : (m k n : ℕ) → (m == n) ≡ true → not (k == n) ≡ true → (m == k) ≡ false
other_number m k n at apart = grind (arith, nat_tests)

-- a number that stays is marked as before
pub number_left : (k n : ℕ) (es : List ℕ) → not (k == n) ≡ true → has_number k es ≡ has_number k (filter (λ m. not (m == n)) es)
number_left k n [] apart = refl
number_left k n (m ∷ es) apart = by (m == n) refl (number_left k n es apart)
  where
    by : (t : Bool) → (m == n) ≡ t → has_number k es ≡ has_number k (filter (λ x. not (x == n)) es)
        → ((m == k) || has_number k es) ≡ has_number k (cond (not t) (m ∷ filter (λ x. not (x == n)) es) (filter (λ x. not (x == n)) es))
    by true at rest = ap (λ b. b || has_number k es) (other_number m k n at apart) ∙ rest
    by false at rest = ap (λ b. (m == k) || b) rest

-- a row that is taken out of the drain, and of the world with its mark
pub remove_stands : (n : ℕ) (drain : List Retired) (rows : List GenRow) (expired : List ℕ) → HasRetired drain rows expired
    → HasRetired (filter (λ r. not (is_numbered n r)) drain) (filter (λ row. not (row.number == n)) rows) (filter (λ m. not (m == n)) expired)
remove_stands n drain rows expired stands =
    let stays : GenRow → Bool = λ row. not (row.number == n) in
    let left : Retired → Bool = λ r. not (is_numbered n r) in
    let marks : List ℕ = filter (λ m. not (m == n)) expired in
    ap (filter left) stands
    ∙ filter_sorted row_before number_order left (map (retired_in expired) (filter is_retired rows))
    ∙ ap (sorted_by row_before) (filter_mapped left (retired_in expired) (filter is_retired rows)
    ∙ mapped_left stays (retired_in expired) (retired_in marks)
    (λ row h. ap (λ b. record { kind = row.kind; number = row.number; name = row.name; status = row.status; expired = b }) (number_left row.number n expired h))
    (filter is_retired rows)
    ∙ ap (map (retired_in marks)) (filter_both is_retired stays (λ row. is_retired row && stays row) (λ row. refl) rows
    ∙ sym (filter_both stays is_retired (λ row. is_retired row && stays row) (λ row. and_turned (stays row) (is_retired row)) rows)))

-- a listener of the name waits in the drain exactly where one does in the world
pub waiting_stands : (name : List ℕ) (drain : List Retired) (rows : List GenRow) (expired : List ℕ) → HasRetired drain rows expired
    → list_any (is_waiting name) drain ≡ list_any (is_unexpired expired name) rows
waiting_stands name drain rows expired stands =
    ap (list_any (is_waiting name)) stands
    ∙ any_sorted row_before (is_waiting name) (map (retired_in expired) (filter is_retired rows))
    ∙ any_mapped (is_waiting name) (retired_in expired) (filter is_retired rows)
    ∙ any_both is_retired (λ row. is_waiting name (retired_in expired row)) (is_unexpired expired name)
    (λ row. by (is_row_of Lds name row) row.status (has_number row.number expired)) rows
  where
    by : (named : Bool) (status : RowStatus) (mark : Bool) → (not (is_live status) && ((named && is_draining status) && not mark)) ≡ ((named && is_draining status) && not mark)
    by true Warming mark = refl
    by true Active mark = refl
    by true Draining mark = refl
    by true Dropped mark = refl
    by false status true = grind arith
    by false status false = grind arith

-- the elements from one on, in the order of a further one before them
module _ {X : Type 0} (le : X → X → Bool) (o : IsOrder le) where
  sorted_middle : (x : X) (us bs : List X) → AllByRecursion (λ a. le a x ≡ not (le x a)) us → sorted_by le (us ++ x ∷ bs) ≡ put_by le x (sorted_by le (us ++ bs))
  sorted_middle x [] bs all = refl
  sorted_middle x (a ∷ us) bs all = ap (put_by le a) (sorted_middle x us bs all.1) ∙ put_put le o a x all.0 (sorted_by le (us ++ bs))

-- where none of two lists after one another passes, none of the first does
any_first : {X : Type 0} (p : X → Bool) (xs ys : List X) → list_any p (xs ++ ys) ≡ false → list_any p xs ≡ false
any_first p [] ys h = refl
any_first p (x ∷ xs) ys h =
    let parts = or_parts (p x) (list_any p (xs ++ ys)) h in
    ap (λ b. b || list_any p xs) parts.0 ∙ any_first p xs ys parts.1

mapped_append : {X Y : Type 0} (f : X → Y) (xs ys : List X) → map f (xs ++ ys) ≡ map f xs ++ map f ys
mapped_append f [] ys = refl
mapped_append f (x ∷ xs) ys = ap (λ zs. f x ∷ zs) (mapped_append f xs ys)

filter_append : {X : Type 0} (p : X → Bool) (xs ys : List X) → filter p (xs ++ ys) ≡ filter p xs ++ filter p ys
filter_append p [] ys = refl
filter_append p (x ∷ xs) ys = by (p x) (filter_append p xs ys)
  where
    by : (t : Bool) → filter p (xs ++ ys) ≡ filter p xs ++ filter p ys
        → cond t (x ∷ filter p (xs ++ ys)) (filter p (xs ++ ys)) ≡ cond t (x ∷ filter p xs) (filter p xs) ++ filter p ys
    by true rest = ap (λ zs. x ∷ zs) rest
    by false rest = rest

apart_numbers : (a n : ℕ) → (a == n) ≡ false → is_le (nat_cmp a n) ≡ not (is_le (nat_cmp n a))
apart_numbers a n h = grind (arith, nat_tests)

-- rows none of which has a number are apart from one that has
apart_rows : (one : Retired) (rs : List Retired) → list_any (is_numbered one.number) rs ≡ false → AllByRecursion (λ a. row_before a one ≡ not (row_before one a)) rs
apart_rows one [] h = tt
apart_rows one (r ∷ rs) h =
    let parts = or_parts (is_numbered one.number r) (list_any (is_numbered one.number) rs) h in
    (apart_numbers r.number one.number parts.0, apart_rows one rs parts.1)

-- the rows of a world, one of which is another now
abbrev retired_around : List ℕ → List GenRow → List GenRow → List Retired
retired_around expired before after = map (retired_in expired) (filter is_retired before) ++ map (retired_in expired) (filter is_retired after)

split_retired : (expired : List ℕ) (before after : List GenRow)
    → map (retired_in expired) (filter is_retired (before ++ after)) ≡ retired_around expired before after
split_retired expired before after =
    ap (map (retired_in expired)) (filter_append is_retired before after) ∙ mapped_append (retired_in expired) (filter is_retired before) (filter is_retired after)

live_gone : (row : GenRow) (after : List GenRow) → is_live row.status ≡ true → filter is_retired (row ∷ after) ≡ filter is_retired after
live_gone row after live = ap (λ t. cond (not t) (row ∷ filter is_retired after) (filter is_retired after)) live

dead_kept : (dropped : Bool) → not (is_live (retired_status dropped)) ≡ true
dead_kept true = refl
dead_kept false = refl

now_retired : (row : GenRow) (dropped : Bool) (after : List GenRow)
    → filter is_retired (record row { status = retired_status dropped } ∷ after) ≡ record row { status = retired_status dropped } ∷ filter is_retired after
now_retired row dropped after =
    ap (λ t. cond t (record row { status = retired_status dropped } ∷ filter is_retired after) (filter is_retired after)) (dead_kept dropped)

-- a live row of the world that drains now, or was dropped, and is noted
pub retire_stands : (row : GenRow) (dropped : Bool) (drain : List Retired) (before after : List GenRow) (expired : List ℕ)
    → HasRetired drain (before ++ row ∷ after) expired → is_live row.status ≡ true → has_row drain row.number ≡ false → has_number row.number expired ≡ false
    → HasRetired (put_by row_before (newly_retired row.kind row.number row.name dropped) drain) (before ++ record row { status = retired_status dropped } ∷ after) expired
retire_stands row dropped drain before after expired stands live absent unmarked =
    let one : Retired = newly_retired row.kind row.number row.name dropped in
    let others : List Retired = retired_around expired before after in
    let was : map (retired_in expired) (filter is_retired (before ++ row ∷ after)) ≡ others =
    split_retired expired before (row ∷ after) ∙ ap (λ rs. map (retired_in expired) (filter is_retired before) ++ map (retired_in expired) rs) (live_gone row after live) in
    let none : list_any (is_numbered row.number) others ≡ false =
    sym (any_sorted row_before (is_numbered row.number) others) ∙ ap (λ rs. list_any (is_numbered row.number) (sorted_by row_before rs)) (sym was)
    ∙ ap (list_any (is_numbered row.number)) (sym stands) ∙ absent in
    ap (put_by row_before one) (stands ∙ ap (sorted_by row_before) was)
    ∙ sym (sorted_middle row_before number_order one (map (retired_in expired) (filter is_retired before)) (map (retired_in expired) (filter is_retired after))
    (apart_rows one (map (retired_in expired) (filter is_retired before)) (any_first (is_numbered row.number) (map (retired_in expired) (filter is_retired before)) (map (retired_in expired) (filter is_retired after)) none)))
    ∙ ap (λ b. sorted_by row_before (map (retired_in expired) (filter is_retired before) ++ record one { expired = b } ∷ map (retired_in expired) (filter is_retired after))) (sym unmarked)
    ∙ sym (ap (sorted_by row_before) (split_retired expired before (record row { status = retired_status dropped } ∷ after)
    ∙ ap (λ rs. map (retired_in expired) (filter is_retired before) ++ map (retired_in expired) rs) (now_retired row dropped after)))

-- no two elements have one number
abbrev pub Distinct : {X : Type 0} → (X → ℕ) → List X → Type 0
Distinct f [] = Unit {0}
Distinct f (x ∷ xs) = (list_any (λ y. f y == f x) xs ≡ false) × Distinct f xs

number_turned : (a b : ℕ) → (a == b) ≡ false → (b == a) ≡ false
number_turned a b h = grind (arith, nat_tests)

pub number_own : (a : ℕ) → (a == a) ≡ true
number_own a = grind (arith, nat_tests)

module _ {X : Type 0} (f : X → ℕ) where
  put_distinct : (le : X → X → Bool) (x : X) (ys : List X) → Distinct f (put_by le x ys) → (list_any (λ y. f y == f x) ys ≡ false) × Distinct f ys
  put_distinct le x [] h = (refl, tt)
  put_distinct le x (y ∷ ys) h = by (le x y) h (put_distinct le x ys)
    where
      by : (t : Bool) → Distinct f (cond t (x ∷ y ∷ ys) (y ∷ put_by le x ys)) → (Distinct f (put_by le x ys) → (list_any (λ z. f z == f x) ys ≡ false) × Distinct f ys)
          → (list_any (λ z. f z == f x) (y ∷ ys) ≡ false) × Distinct f (y ∷ ys)
      by true h rest = h
      by false h rest =
          let others = rest h.1 in
          let parts = or_parts (f x == f y) (list_any (λ z. f z == f y) ys) (sym (any_put le (λ z. f z == f y) x ys) ∙ h.0) in
          (ap (λ b. b || list_any (λ z. f z == f x) ys) (number_turned (f x) (f y) parts.0) ∙ others.0, (parts.1, others.1))

  sorted_distinct : (le : X → X → Bool) (xs : List X) → Distinct f (sorted_by le xs) → Distinct f xs
  sorted_distinct le [] h = tt
  sorted_distinct le (x ∷ xs) h =
      let parts = put_distinct le x (sorted_by le xs) h in
      (sym (any_sorted le (λ y. f y == f x) xs) ∙ parts.0, sorted_distinct le xs parts.1)

  none_left : (p w : X → Bool) (xs : List X) → list_any p xs ≡ false → list_any p (filter w xs) ≡ false
  none_left p w [] h = h
  none_left p w (x ∷ xs) h = by (w x) (or_parts (p x) (list_any p xs) h).0 (none_left p w xs (or_parts (p x) (list_any p xs) h).1)
    where
      by : (t : Bool) → p x ≡ false → list_any p (filter w xs) ≡ false → list_any p (cond t (x ∷ filter w xs) (filter w xs)) ≡ false
      by true here rest = ap (λ b. b || list_any p (filter w xs)) here ∙ rest
      by false here rest = rest

  -- an element's number is among those that a test leaves exactly where it passes
  own_later : (w : X → Bool) (x : X) (xs zs : List X) → list_any (λ y. f y == f x) zs ≡ false
      → AllByRecursion (λ z. list_any (λ y. f y == f z) (filter w xs) ≡ w z) zs
      → AllByRecursion (λ z. list_any (λ y. f y == f z) (filter w (x ∷ xs)) ≡ w z) zs
  own_later w x xs [] none all = tt
  own_later w x xs (z ∷ zs) none all =
      let parts = or_parts (f z == f x) (list_any (λ y. f y == f x) zs) none in
      (by (w x) (number_turned (f z) (f x) parts.0) all.0, own_later w x xs zs parts.1 all.1)
    where
      by : (t : Bool) → (f x == f z) ≡ false → list_any (λ y. f y == f z) (filter w xs) ≡ w z
          → list_any (λ y. f y == f z) (cond t (x ∷ filter w xs) (filter w xs)) ≡ w z
      by true apart rest = ap (λ b. b || list_any (λ y. f y == f z) (filter w xs)) apart ∙ rest
      by false apart rest = rest

  own_number : (w : X → Bool) (xs : List X) → Distinct f xs → AllByRecursion (λ z. list_any (λ y. f y == f z) (filter w xs) ≡ w z) xs
  own_number w [] h = tt
  own_number w (x ∷ xs) h = (by (w x), own_later w x xs xs h.0 (own_number w xs h.1))
    where
      by : (t : Bool) → list_any (λ y. f y == f x) (cond t (x ∷ filter w xs) (filter w xs)) ≡ t
      by true = ap (λ b. b || list_any (λ y. f y == f x) (filter w xs)) (number_own (f x))
      by false = none_left (λ y. f y == f x) w xs h.0

mapped_distinct : (expired : List ℕ) (rows : List GenRow) → Distinct (λ (r : Retired). r.number) (map (retired_in expired) rows) → Distinct (λ (r : GenRow). r.number) rows
mapped_distinct expired [] h = tt
mapped_distinct expired (row ∷ rows) h =
    (sym (any_mapped (λ (r : Retired). r.number == row.number) (retired_in expired) rows) ∙ h.0, mapped_distinct expired rows h.1)

mapped_same : {X Y : Type 0} (f g : X → Y) (xs : List X) → AllByRecursion (λ x. f x ≡ g x) xs → map f xs ≡ map g xs
mapped_same f g [] all = refl
mapped_same f g (x ∷ xs) all = ap (λ y. y ∷ map f xs) all.0 ∙ ap (λ ys. g x ∷ ys) (mapped_same f g xs all.1)

all_so : {X : Type 0} (P Q : X → Type 0) → ((x : X) → P x → Q x) → (xs : List X) → AllByRecursion P xs → AllByRecursion Q xs
all_so P Q so [] all = tt
all_so P Q so (x ∷ xs) all = (so x all.0, all_so P Q so xs all.1)

unexpired_retired : (expired name : List ℕ) (row : GenRow) → (is_retired row && is_unexpired expired name row) ≡ is_unexpired expired name row
unexpired_retired expired name row = by (is_row_of Lds name row) row.status (has_number row.number expired)
  where
    by : (named : Bool) (status : RowStatus) (mark : Bool) → (not (is_live status) && ((named && is_draining status) && not mark)) ≡ ((named && is_draining status) && not mark)
    by true Warming mark = refl
    by true Active mark = refl
    by true Draining mark = refl
    by true Dropped mark = refl
    by false status true = grind arith
    by false status false = grind arith

marked_either : (was named : Bool) → (was || (named && not was)) ≡ (was || named)
marked_either true named = refl
marked_either false true = refl
marked_either false false = refl

-- the drain timeout of a name marks in the drain what it marks in the world
pub expire_stands : (name : List ℕ) (drain : List Retired) (rows : List GenRow) (expired : List ℕ) → Distinct (λ (r : Retired). r.number) drain
    → HasRetired drain rows expired → HasRetired (map (marked name) drain) rows (expired ++ unexpired expired name rows)
expire_stands name drain rows expired distinct stands =
    let kept : List GenRow = filter is_retired rows in
    let marks : List ℕ = unexpired expired name rows in
    let apart : Distinct (λ (r : GenRow). r.number) kept =
    mapped_distinct expired kept (sorted_distinct (λ (r : Retired). r.number) row_before (map (retired_in expired) kept) (subst (Distinct (λ (r : Retired). r.number)) stands distinct)) in
    let same : marks ≡ map (λ (r : GenRow). r.number) (filter (is_unexpired expired name) kept) =
    ap (map (λ (r : GenRow). r.number)) (sym (filter_both is_retired (is_unexpired expired name) (is_unexpired expired name) (unexpired_retired expired name) rows)) in
    ap (map (marked name)) stands
    ∙ sorted_mapped row_before row_before (marked name) (λ x y. refl) (map (retired_in expired) kept)
    ∙ ap (sorted_by row_before) (mapped_twice (marked name) (retired_in expired) kept
    ∙ mapped_same (λ row. marked name (retired_in expired row)) (retired_in (expired ++ marks)) kept
    (all_so (λ z. list_any (λ (y : GenRow). y.number == z.number) (filter (is_unexpired expired name) kept) ≡ is_unexpired expired name z)
    (λ z. marked name (retired_in expired z) ≡ retired_in (expired ++ marks) z)
    (λ z own. ap (λ b. record { kind = z.kind; number = z.number; name = z.name; status = z.status; expired = b })
    (sym (list_any-append (λ n. n == z.number) expired marks
    ∙ ap (λ b. has_number z.number expired || b) (ap (has_number z.number) same ∙ any_mapped (λ n. n == z.number) (λ (r : GenRow). r.number) (filter (is_unexpired expired name) kept) ∙ own)
    ∙ marked_either (has_number z.number expired) (is_row_of Lds name z && is_draining z.status))))
    kept (own_number (λ (r : GenRow). r.number) (is_unexpired expired name) kept apart)))

-- the rows of the drain's map have different numbers
later_none : (k : ℕ) (es : List (ℕ × Note)) → AllByRecursion (λ y. nat_cmp k y ≡ Less) (keys_of es) → list_any (λ (r : Retired). r.number == k) (rows_of es) ≡ false
later_none k [] all = refl
later_none k (e ∷ es) all =
    ap (λ b. b || list_any (λ (r : Retired). r.number == k) (rows_of es)) (sym (same_number k e.0) ∙ ap is_eq all.0) ∙ later_none k es all.1

pub distinct_rows : (es : List (ℕ × Note)) → IsStrictlySortedBy nat_cmp (keys_of es) → Distinct (λ (r : Retired). r.number) (rows_of es)
unfolding IsStrictlySortedBy
distinct_rows [] sorted = tt
distinct_rows (e ∷ es) sorted = (later_none e.0 es sorted.0, distinct_rows es sorted.1)

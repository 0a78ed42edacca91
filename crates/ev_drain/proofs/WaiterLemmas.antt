-- The index of the generations that may wait for a drain timeout.
use Rattle.std.proofs.Common.{◌≡◌, ◌∙◌, ℕ, Bool, true, false, not, ◌&&◌, ◌||◌, ◌==◌, cond, List, [], ◌∷◌, ◌++◌, filter, map, length, None, Some, unwrap_or, refl, sym, ap, arith}
use Rattle.std.specs.Cmp.{both_ways}
use Rattle.std.specs.List.{list_any, IsDistinct, AllByRecursion}
use Rattle.std.specs.Map.{lookup, keys_of}
use Rattle.std.specs.Str.{bytes_eq}
use Rattle.std.proofs.lemmas.Map.Keys.{IsDistinct-head, IsDistinct-tail}
use Rattle.ev_types.specs.Same.{bytes_decide}
use Rattle.std.proofs.lemmas.Bool.{true≢false, false≢true}
use Rattle.std.proofs.lemmas.Bool.Decides.{nat_tests}
use Rattle.std.proofs.lemmas.List.Folds.{list_any-append}
use Rattle.ev_types.specs.Kinds.{kind_same}
use Rattle.ev_types.specs.declared.contents.Kind.{Kind}
use Rattle.ev_types.specs.declared.contents.Kind.TheVariants.{Lds}
use Rattle.ev_model.specs.Picture.{has_number}
use Rattle.ev_model.specs.Signals.{is_draining}
use Rattle.ev_model.specs.Sorted.{put_by}
use Rattle.ev_ledger.proofs.OrderLemmas.{any_put}
use Rattle.ev_drain.specs.declared.notes.Note.{Note}
use Rattle.ev_drain.specs.Retired.{Retired, row_before, is_numbered, is_draining_listener, is_waiting, newly_retired, numbers_waiting, marked, retired_status}
use Rattle.ev_drain.specs.Waiters.{WaitersKept, numbers_under, without_number, HaveWaiters}
use Rattle.ev_drain.specs.Notes.{row_of, rows_of, is_waiting_note, marked_note, is_waiting_among, marked_among}
use Rattle.ev_drain.proofs.WorldLemmas.{any_mapped, number_left, number_own}

and_second : (a b : Bool) → (a && b) ≡ true → b ≡ true
and_second true b h = h
and_second false b h = absurd (false≢true h)

or_second : (a b : Bool) → b ≡ true → (a || b) ≡ true
or_second true b h = refl
or_second false b h = h

pub none_of_none : (numbers : List ℕ) → length numbers ≡ 0 → numbers ≡ []
none_of_none [] h = refl
none_of_none (n ∷ ns) h = cc

-- an index without the entry of a name that has none says the same
pub trimmed : (old new : WaitersKept) (name : List ℕ) → ((n : List ℕ) → lookup (bytes_eq n) new ≡ cond (bytes_eq name n) None (lookup (bytes_eq n) old))
    → numbers_under old name ≡ [] → (n : List ℕ) → numbers_under new n ≡ numbers_under old n
trimmed old new name now empty n = by (bytes_eq name n) refl (now n)
  where
    by : (b : Bool) → bytes_eq name n ≡ b → lookup (bytes_eq n) new ≡ cond b None (lookup (bytes_eq n) old) → numbers_under new n ≡ numbers_under old n
    by true here at = (λ i. unwrap_or (at i) []) ∙ sym ((λ i. numbers_under old (sym ((bytes_decide name n).0 here) i)) ∙ empty)
    by false here at = λ i. unwrap_or (at i) []

turned : (a b : List ℕ) → bytes_eq a b ≡ bytes_eq b a
turned a b = both_ways (bytes_eq a b) (bytes_eq b a) (λ h. (bytes_decide b a).1 (sym ((bytes_decide a b).0 h))) (λ h. (bytes_decide a b).1 (sym ((bytes_decide b a).0 h)))

later : (P : List ℕ → Type 0) (es : WaitersKept) (k : List ℕ) (v : List ℕ) (rest : WaitersKept) → AllByRecursion P (keys_of (es ++ (k, v) ∷ rest)) → P k
later P [] k v rest all = all.0
later P (e ∷ es) k v rest all = later P es k v rest all.1

-- of different names none has an entry before its own
pub absent_before : (es : WaitersKept) (k : List ℕ) (v : List ℕ) (rest : WaitersKept) → IsDistinct bytes_eq (keys_of (es ++ (k, v) ∷ rest)) → lookup (bytes_eq k) es ≡ None
absent_before [] k v rest apart = refl
absent_before (e ∷ es) k v rest apart =
    (λ i. cond ((turned k e.0 ∙ later (λ y. bytes_eq e.0 y ≡ false) es k v rest (IsDistinct-head bytes_eq e.0 (keys_of (es ++ (k, v) ∷ rest)) apart)) i) (Some e.1) (lookup (bytes_eq k) es))
    ∙ absent_before es k v rest (IsDistinct-tail bytes_eq e.0 (keys_of (es ++ (k, v) ∷ rest)) apart)

-- a number is among those that wait where a waiting row has it
any_waiter : (name : List ℕ) (k : ℕ) (rows : List Retired) → has_number k (numbers_waiting name rows) ≡ list_any (λ r. is_waiting name r && is_numbered k r) rows
any_waiter name k [] = refl
any_waiter name k (r ∷ rs) = by (is_waiting name r) (any_waiter name k rs)
  where
    by : (t : Bool) → has_number k (numbers_waiting name rs) ≡ list_any (λ x. is_waiting name x && is_numbered k x) rs
        → has_number k (map (λ (x : Retired). x.number) (cond t (r ∷ filter (is_waiting name) rs) (filter (is_waiting name) rs)))
        ≡ ((t && is_numbered k r) || list_any (λ x. is_waiting name x && is_numbered k x) rs)
    by true rest = ap (λ b. is_numbered k r || b) rest
    by false rest = rest

-- the index with the number of one more row, where that waits
abbrev pub Entered : WaitersKept → WaitersKept → Retired → Type 0
Entered old new one = (n : List ℕ) → numbers_under new n ≡ numbers_under old n ++ cond (is_waiting n one) (one.number ∷ []) []

-- a draining listener that is retired now waits under its own name
pub waits_now : (kind : Kind) (number : ℕ) (name n : List ℕ) (dropped : Bool) → dropped ≡ false → kind_same kind Lds ≡ true
    → bytes_eq name n ≡ is_waiting n (newly_retired kind number name dropped)
waits_now kind number name n dropped drains listens =
    sym (always (bytes_eq name n)) ∙ (λ i. ((sym listens i && bytes_eq name n) && is_draining (retired_status (sym drains i))) && not false)
  where
    always : (b : Bool) → ((b && true) && true) ≡ b
    always true = refl
    always false = refl

had_before : (k : ℕ) (ns ms : List ℕ) → has_number k ns ≡ true → has_number k (ns ++ ms) ≡ true
had_before k ns ms h = list_any-append (λ n. n == k) ns ms ∙ ap (λ b. b || has_number k ms) h

-- those that waited before do so with it
others_wait : (old new : WaitersKept) (one : Retired) (rows : List Retired) → Entered old new one → HaveWaiters old rows → HaveWaiters new rows
others_wait old new one rows entered had n k h =
    ap (has_number k) (entered n) ∙ had_before k (numbers_under old n) (cond (is_waiting n one) (one.number ∷ []) []) (had n k h)

-- and the row does too
pub retired_waits : (old new : WaitersKept) (one : Retired) (rows : List Retired) → Entered old new one → HaveWaiters old rows → HaveWaiters new (put_by row_before one rows)
retired_waits old new one rows entered had n k h =
    by (is_waiting n one) (is_numbered k one) refl refl
    (sym (any_put row_before (λ r. is_waiting n r && is_numbered k r) one rows) ∙ sym (any_waiter n k (put_by row_before one rows)) ∙ h)
  where
    others : list_any (λ r. is_waiting n r && is_numbered k r) rows ≡ true → has_number k (numbers_under new n) ≡ true
    others h' = others_wait old new one rows entered had n k (any_waiter n k rows ∙ h')

    by : (w s : Bool) → is_waiting n one ≡ w → is_numbered k one ≡ s → ((w && s) || list_any (λ r. is_waiting n r && is_numbered k r) rows) ≡ true
        → has_number k (numbers_under new n) ≡ true
    by true true waits has h' =
        ap (has_number k) (entered n ∙ ap (λ t. numbers_under old n ++ cond t (one.number ∷ []) []) waits)
        ∙ list_any-append (λ m. m == k) (numbers_under old n) (one.number ∷ [])
        ∙ or_second (has_number k (numbers_under old n)) (is_numbered k one || false) (ap (λ b. b || false) has)
    by true false waits has h' = others h'
    by false s waits has h' = others h'

-- rows that were there before wait as before
fewer_wait : (old new : WaitersKept) (before after : List Retired)
    → ((n : List ℕ) (k : ℕ) → list_any (λ r. is_waiting n r && is_numbered k r) after ≡ true
    → (list_any (λ r. is_waiting n r && is_numbered k r) before ≡ true) × (has_number k (numbers_under old n) ≡ true → has_number k (numbers_under new n) ≡ true))
    → HaveWaiters old before → HaveWaiters new after
fewer_wait old new before after so had n k h =
    let both = so n k (sym (any_waiter n k after) ∙ h) in
    both.1 (had n k (any_waiter n k before ∙ both.0))

apart_of : (m k n : ℕ) → (m == k) ≡ true → not (m == n) ≡ true → not (k == n) ≡ true
apart_of m k n at apart = grind (arith, nat_tests)

-- a row that is left has another number, and was there before
left_waits : (w : Retired → Bool) (k n : ℕ) (rows : List Retired) → list_any (λ r. w r && is_numbered k r) (filter (λ r. not (is_numbered n r)) rows) ≡ true
    → (list_any (λ r. w r && is_numbered k r) rows ≡ true) × (not (k == n) ≡ true)
left_waits w k n [] h = absurd (false≢true h)
left_waits w k n (r ∷ rs) h = by (not (is_numbered n r)) refl h (left_waits w k n rs)
  where
    later : (a : Bool) → (list_any (λ x. w x && is_numbered k x) rs ≡ true) × (not (k == n) ≡ true)
        → ((a || list_any (λ x. w x && is_numbered k x) rs) ≡ true) × (not (k == n) ≡ true)
    later true both = (refl, both.1)
    later false both = both

    by : (left : Bool) → not (is_numbered n r) ≡ left
        → list_any (λ x. w x && is_numbered k x) (cond left (r ∷ filter (λ x. not (is_numbered n x)) rs) (filter (λ x. not (is_numbered n x)) rs)) ≡ true
        → (list_any (λ x. w x && is_numbered k x) (filter (λ x. not (is_numbered n x)) rs) ≡ true → (list_any (λ x. w x && is_numbered k x) rs ≡ true) × (not (k == n) ≡ true))
        → (((w r && is_numbered k r) || list_any (λ x. w x && is_numbered k x) rs) ≡ true) × (not (k == n) ≡ true)
    by false gone h' rest = later (w r && is_numbered k r) (rest h')
    by true apart h' rest = here (w r && is_numbered k r) refl h'
      where
        here : (b : Bool) → (w r && is_numbered k r) ≡ b → (b || list_any (λ x. w x && is_numbered k x) (filter (λ x. not (is_numbered n x)) rs)) ≡ true
            → ((b || list_any (λ x. w x && is_numbered k x) rs) ≡ true) × (not (k == n) ≡ true)
        here true both h'' = (refl, apart_of r.number k n (and_second (w r) (is_numbered k r) both) apart)
        here false both h'' = rest h''

-- a row that is taken out, and its number with it
pub removed_waits : (old new : WaitersKept) (name : List ℕ) (n : ℕ) (rows : List Retired)
    → ((m : List ℕ) → numbers_under new m ≡ cond (bytes_eq name m) (without_number n (numbers_under old m)) (numbers_under old m))
    → HaveWaiters old rows → HaveWaiters new (filter (λ r. not (is_numbered n r)) rows)
removed_waits old new name n rows now =
    fewer_wait old new rows (filter (λ r. not (is_numbered n r)) rows)
    (λ m k h.
    let both = left_waits (is_waiting m) k n rows h in
    (both.0, λ had. ap (has_number k) (now m) ∙ by (bytes_eq name m) m k both.1 had))
  where
    by : (t : Bool) (m : List ℕ) (k : ℕ) → not (k == n) ≡ true → has_number k (numbers_under old m) ≡ true
        → has_number k (cond t (without_number n (numbers_under old m)) (numbers_under old m)) ≡ true
    by true m k apart had = sym (number_left k n (numbers_under old m) apart) ∙ had
    by false m k apart had = had

-- a row that is taken out, and its number stays
pub kept_waits : (kept : WaitersKept) (n : ℕ) (rows : List Retired) → HaveWaiters kept rows → HaveWaiters kept (filter (λ r. not (is_numbered n r)) rows)
kept_waits kept n rows = fewer_wait kept kept rows (filter (λ r. not (is_numbered n r)) rows) (λ m k h. ((left_waits (is_waiting m) k n rows h).0, λ had. had))

-- a marked row waits under no name under which it didn't, and not under the name of the mark
still_waits : (here named was : Bool) → (here && not (was || named)) ≡ true → (here && not was) ≡ true
still_waits true named true h = h
still_waits true named false h = refl
still_waits false named was h = h

never_waits : (named was : Bool) → (named && not (was || named)) ≡ false
never_waits true true = refl
never_waits true false = refl
never_waits false was = refl

any_so : {X : Type 0} (p q : X → Bool) → ((x : X) → p x ≡ true → q x ≡ true) → (xs : List X) → list_any p xs ≡ true → list_any q xs ≡ true
any_so p q so [] h = h
any_so p q so (x ∷ xs) h = by (p x) refl h (any_so p q so xs)
  where
    by : (t : Bool) → p x ≡ t → (t || list_any p xs) ≡ true → (list_any p xs ≡ true → list_any q xs ≡ true) → (q x || list_any q xs) ≡ true
    by true at h' rest = ap (λ b. b || list_any q xs) (so x at)
    by false at h' rest = or_second (q x) (list_any q xs) (rest h')

none_so : {X : Type 0} (p : X → Bool) → ((x : X) → p x ≡ false) → (xs : List X) → list_any p xs ≡ false
none_so p none [] = refl
none_so p none (x ∷ xs) = ap (λ b. b || list_any p xs) (none x) ∙ none_so p none xs

and_so : (a b c : Bool) → (a ≡ true → b ≡ true) → (a && c) ≡ true → (b && c) ≡ true
and_so true b c so h = ap (λ t. t && c) (so refl) ∙ h
and_so false b c so h = absurd (false≢true h)

-- the drain timeout of a name came, and its numbers were taken out
pub expired_waits : (old new : WaitersKept) (name : List ℕ) (rows : List Retired)
    → ((m : List ℕ) → numbers_under new m ≡ cond (bytes_eq name m) [] (numbers_under old m)) → HaveWaiters old rows → HaveWaiters new (map (marked name) rows)
expired_waits old new name rows now =
    fewer_wait old new rows (map (marked name) rows)
    (λ m k h.
    let were : list_any (λ r. is_waiting m (marked name r) && is_numbered k r) rows ≡ true = sym (any_mapped (λ r. is_waiting m r && is_numbered k r) (marked name) rows) ∙ h in (
      any_so (λ r. is_waiting m (marked name r) && is_numbered k r) (λ r. is_waiting m r && is_numbered k r)
          (λ r. and_so (is_waiting m (marked name r)) (is_waiting m r) (is_numbered k r) (still_waits (is_draining_listener m r) (is_draining_listener name r) r.expired)) rows were,
      λ had. ap (has_number k) (now m) ∙ by (bytes_eq name m) m k refl were had,
    ))
  where
    by : (t : Bool) (m : List ℕ) (k : ℕ) → bytes_eq name m ≡ t → list_any (λ r. is_waiting m (marked name r) && is_numbered k r) rows ≡ true
        → has_number k (numbers_under old m) ≡ true → has_number k (cond t [] (numbers_under old m)) ≡ true
    by true m k same were had =
        absurd (true≢false (sym were
        ∙ ap (λ n. list_any (λ r. is_waiting n (marked name r) && is_numbered k r) rows) (sym ((bytes_decide name m).0 same))
        ∙ none_so (λ r. is_waiting name (marked name r) && is_numbered k r) (λ r. ap (λ b. b && is_numbered k r) (never_waits (is_draining_listener name r) r.expired)) rows))
    by false m k apart were had = had

-- each entry that waits under a name has its number there
own_numbers : (name numbers : List ℕ) (es : List (ℕ × Note)) → ((k : ℕ) → list_any (λ r. is_waiting name r && is_numbered k r) (rows_of es) ≡ true → has_number k numbers ≡ true)
    → AllByRecursion (λ e. is_waiting_note name e.1 ≡ true → has_number e.0 numbers ≡ true) es
own_numbers name numbers [] so = tt
own_numbers name numbers (e ∷ es) so = (
  λ h. so e.0 (ap (λ b. (b && (e.0 == e.0)) || list_any (λ r. is_waiting name r && is_numbered e.0 r) (rows_of es)) h
      ∙ ap (λ b. b || list_any (λ r. is_waiting name r && is_numbered e.0 r) (rows_of es)) (number_own e.0)),
  own_numbers name numbers es (λ k h. so k (or_second (is_waiting_note name e.1 && (e.0 == k)) (list_any (λ r. is_waiting name r && is_numbered k r) (rows_of es)) h)),
)

all_own : (kept : WaitersKept) (name numbers : List ℕ) (es : List (ℕ × Note)) → HaveWaiters kept (rows_of es) → numbers ≡ numbers_under kept name
    → AllByRecursion (λ e. is_waiting_note name e.1 ≡ true → has_number e.0 numbers ≡ true) es
all_own kept name numbers es had are = own_numbers name numbers es (λ k h. ap (has_number k) are ∙ had name k (any_waiter name k (rows_of es) ∙ h))

-- so what is marked by number is all that is to be marked
pub marks_all : (kept : WaitersKept) (name numbers : List ℕ) (es : List (ℕ × Note)) → HaveWaiters kept (rows_of es) → numbers ≡ numbers_under kept name
    → rows_of (map (marked_among name numbers) es) ≡ map (marked name) (rows_of es)
marks_all kept name numbers es had are = over es (all_own kept name numbers es had are)
  where
    unmarked : (named was : Bool) → (named && not was) ≡ false → was ≡ (was || named)
    unmarked true true h = refl
    unmarked true false h = absurd (true≢false h)
    unmarked false true h = refl
    unmarked false false h = refl

    one : (t w : Bool) (e : ℕ × Note) → is_waiting_note name e.1 ≡ w → (w ≡ true → t ≡ true)
        → row_of (e.0, cond t (marked_note name e.1) e.1) ≡ marked name (row_of e)
    one true w e at so = refl
    one false true e at so = absurd (false≢true (so refl))
    one false false e at so = ap (λ b. record (row_of e) { expired = b }) (unmarked (is_draining_listener name (row_of e)) e.1.expired at)

    over : (xs : List (ℕ × Note)) → AllByRecursion (λ e. is_waiting_note name e.1 ≡ true → has_number e.0 numbers ≡ true) xs
        → rows_of (map (marked_among name numbers) xs) ≡ map (marked name) (rows_of xs)
    over [] all = refl
    over (e ∷ xs) all = λ i. one (has_number e.0 numbers) (is_waiting_note name e.1) e refl all.0 i ∷ over xs all.1 i

pub waits_all : (kept : WaitersKept) (name numbers : List ℕ) (es : List (ℕ × Note)) → HaveWaiters kept (rows_of es) → numbers ≡ numbers_under kept name
    → list_any (is_waiting_among name numbers) es ≡ list_any (is_waiting name) (rows_of es)
waits_all kept name numbers es had are = over es (all_own kept name numbers es had are)
  where
    one : (t w : Bool) → (w ≡ true → t ≡ true) → (t && w) ≡ w
    one true w so = refl
    one false true so = so refl
    one false false so = refl

    over : (xs : List (ℕ × Note)) → AllByRecursion (λ e. is_waiting_note name e.1 ≡ true → has_number e.0 numbers ≡ true) xs
        → list_any (is_waiting_among name numbers) xs ≡ list_any (is_waiting name) (rows_of xs)
    over [] all = refl
    over (e ∷ xs) all = λ i. one (has_number e.0 numbers) (is_waiting_note name e.1) all.0 i || over xs all.1 i

-- The entries of the ledger's map as connections.
use Rattle.std.proofs.Common.{◌≡◌, ℕ, ◌+◌, ◌≤◌, Bool, true, false, not, ◌||◌, ◌==◌, cond, List, [], ◌∷◌, filter, map, length, Option, None, Some, refl, sym, ap, ◌∙◌, arith}
use Rattle.std.specs.List.{find, sum_by, count_by, AllByRecursion}
use Rattle.std.specs.List.Sorted.{IsStrictlySortedBy}
use Rattle.std.specs.Option.{is_some, unwrap_or, option_map}
use Rattle.std.specs.Map.{keys_of, values_of, lookup, remove_entry}
use Rattle.std.specs.BTreeMap.{insert_entry, is_at}
use Rattle.std.specs.BTreeMap.Range.{range_contains, entries_between}
use Rattle.std.specs.declared.ops.Bound.TheVariants.{Included, Excluded}
use Rattle.std.proofs.lemmas.Bool.Decides.{nat_tests}
use Rattle.std.specs.Ordering.{is_eq, is_le, match_ordering}
use Rattle.std.specs.declared.cmp.Ordering.{Ordering}
use Rattle.std.specs.declared.cmp.Ordering.TheVariants.{Less, Equal, Greater}
use Rattle.std.specs.Cmp.{IsTotalOrder, eq_by_cmp_equiv}
use Rattle.std.proofs.lemmas.Bool.{true≢false, false≢true}
use Rattle.std.proofs.lemmas.Cmp.{nat_cmp_total, then_total, on_total}
use Rattle.std.proofs.lemmas.List.Sums.{sum_by-cons, length-filter, count_by-le-length}
use Rattle.std.proofs.lemmas.Map.{NonePasses}
use Rattle.std.proofs.lemmas.Map.Entries.{none_past_head, sum_by-remove_entry, sum_by-insert_entry, length-values_of}
use Rattle.std.proofs.lemmas.Map.Keys.{IsDistinct-from_sorted}
use Rattle.ev_model.specs.Sorted.{put_by}
use Rattle.ev_model.specs.Dead.{is_open_on, is_forwarded_to}
use Rattle.ev_model.specs.Connections.{is_member, is_open, closed}
use Rattle.ev_ledger.specs.Members.{AreApart, member_before, count_of, on_in, on_of}
use Rattle.ev_ledger.specs.declared.open_on.On.{On}
use Rattle.ev_ledger.specs.Entries.{key_order, member_of, members_of, weight, is_at_worker}
use Rattle.ev_ledger.proofs.PlaceLemmas.{same_place, closed_leaves}

pub key_order_total : IsTotalOrder key_order
key_order_total = then_total (on_total (λ (k : ℕ × ℕ). k.0) nat_cmp_total) (on_total (λ (k : ℕ × ℕ). k.1) nat_cmp_total)

-- the entry at a worker and number is there exactly where the connection is open
pub found_open : (w c : ℕ) (es : List ((ℕ × ℕ) × On)) → is_some (lookup (is_at (key_order (w, c))) es) ≡ is_open (members_of es) w c
found_open w c [] = refl
found_open w c (e ∷ es) = by (is_at (key_order (w, c)) e.0) (is_member w c (member_of e)) (same_place w c e.0.0 e.0.1) (found_open w c es)
  where
    by : (t u : Bool) → t ≡ u → is_some (lookup (is_at (key_order (w, c))) es) ≡ is_open (members_of es) w c → is_some (cond t (Some e.1) (lookup (is_at (key_order (w, c))) es)) ≡ (u || is_open (members_of es) w c)
    by true true h rest = refl
    by true false h rest = absurd (true≢false h)
    by false true h rest = absurd (false≢true h)
    by false false h rest = rest

-- and what it has is what the connection is open on
pub found_on : (w c : ℕ) (es : List ((ℕ × ℕ) × On)) → lookup (is_at (key_order (w, c))) es ≡ on_in w c (members_of es)
found_on w c [] = refl
found_on w c (e ∷ es) = by (is_at (key_order (w, c)) e.0) (is_member w c (member_of e)) (same_place w c e.0.0 e.0.1) (found_on w c es)
  where
    by : (t u : Bool) → t ≡ u → lookup (is_at (key_order (w, c))) es ≡ on_in w c (members_of es)
        → cond t (Some e.1) (lookup (is_at (key_order (w, c))) es)
        ≡ option_map on_of (cond u (Some (member_of e)) (find (is_member w c) (members_of es)))
    by true true h rest = refl
    by true false h rest = absurd (true≢false h)
    by false true h rest = absurd (false≢true h)
    by false false h rest = rest

-- a new entry is a connection put in its place
pub put_members : (k : ℕ × ℕ) (v : On) (es : List ((ℕ × ℕ) × On)) → is_some (lookup (is_at (key_order k)) es) ≡ false
    → members_of (insert_entry key_order es k v) ≡ put_by member_before (member_of (k, v)) (members_of es)
put_members k v [] h = refl
put_members k v (e ∷ es) h = by (key_order k e.0) h (put_members k v es)
  where
    by : (r : Ordering) → is_some (cond (is_eq r) (Some e.1) (lookup (is_at (key_order k)) es)) ≡ false
        → (is_some (lookup (is_at (key_order k)) es) ≡ false → members_of (insert_entry key_order es k v) ≡ put_by member_before (member_of (k, v)) (members_of es))
        → map member_of (match_ordering r ((k, v) ∷ e ∷ es) ((e.0, v) ∷ es) (e ∷ insert_entry key_order es k v))
        ≡ cond (is_le r) (member_of (k, v) ∷ member_of e ∷ members_of es) (member_of e ∷ put_by member_before (member_of (k, v)) (members_of es))
    by Less none rest = refl
    by Equal none rest = absurd (true≢false none)
    by Greater none rest = ap (λ ms. member_of e ∷ ms) (rest none)

-- where no key is found, a filter of the others leaves all
all_left : (w c : ℕ) (es : List ((ℕ × ℕ) × On)) → NonePasses (is_at (key_order (w, c))) es
    → members_of es ≡ filter (λ m. not (is_member w c m)) (members_of es)
all_left w c [] none = refl
all_left w c (e ∷ es) none = by (is_member w c (member_of e)) (sym (same_place w c e.0.0 e.0.1) ∙ none.0) (all_left w c es none.1)
  where
    by : (t : Bool) → t ≡ false → members_of es ≡ filter (λ m. not (is_member w c m)) (members_of es)
        → member_of e ∷ members_of es ≡ cond (not t) (member_of e ∷ filter (λ m. not (is_member w c m)) (members_of es)) (filter (λ m. not (is_member w c m)) (members_of es))
    by true h rest = absurd (true≢false h)
    by false h rest = ap (λ ms. member_of e ∷ ms) rest

-- an entry that is taken out is a connection closed
pub remove_members : (w c : ℕ) (es : List ((ℕ × ℕ) × On)) → IsStrictlySortedBy key_order (keys_of es)
    → members_of (remove_entry (is_at (key_order (w, c))) es) ≡ filter (λ m. not (is_member w c m)) (members_of es)
unfolding IsStrictlySortedBy
remove_members w c [] sorted = refl
remove_members w c (e ∷ es) sorted = by (is_at (key_order (w, c)) e.0) (is_member w c (member_of e)) refl (same_place w c e.0.0 e.0.1) (remove_members w c es sorted.1)
  where
    by : (t u : Bool) → is_at (key_order (w, c)) e.0 ≡ t → t ≡ u
        → members_of (remove_entry (is_at (key_order (w, c))) es) ≡ filter (λ m. not (is_member w c m)) (members_of es)
        → members_of (cond t es (e ∷ remove_entry (is_at (key_order (w, c))) es))
        ≡ cond (not u) (member_of e ∷ filter (λ m. not (is_member w c m)) (members_of es)) (filter (λ m. not (is_member w c m)) (members_of es))
    by true true at h rest =
        all_left w c es (none_past_head (eq_by_cmp_equiv key_order_total) (w, c) e es (IsDistinct-from_sorted key_order (keys_of (e ∷ es)) sorted) at)
    by true false at h rest = absurd (true≢false h)
    by false true at h rest = absurd (false≢true h)
    by false false at h rest = ap (λ ms. member_of e ∷ ms) rest

-- the count of a generation is the sum of what each entry counts for it
pub count_members : (number : ℕ) (es : List ((ℕ × ℕ) × On)) → sum_by (weight number) (values_of es) ≡ count_of number (members_of es)
count_members number es = summed es ∙ sym (length-filter (is_open_on number) (members_of es))
  where
    summed : (xs : List ((ℕ × ℕ) × On)) → sum_by (weight number) (values_of xs) ≡ count_by (is_open_on number) (members_of xs)
    summed [] = refl
    summed (e ∷ xs) =
        sum_by-cons (weight number) e.1 (values_of xs) ∙ ap (λ n. weight number e.1 + n) (summed xs)
        ∙ sym (sum_by-cons (λ m. cond (is_open_on number m) 1 0) (member_of e) (members_of xs))

-- taking an entry out takes what it counts out of each sum
pub sum_taken : (number : ℕ) (k : ℕ × ℕ) (taken : Option On) (es left : List ((ℕ × ℕ) × On)) (found : Option On)
    → taken ≡ lookup (is_at (key_order k)) es → left ≡ remove_entry (is_at (key_order k)) es → taken ≡ found
    → sum_by (weight number) (values_of left) + unwrap_or (option_map (weight number) found) 0 ≡ sum_by (weight number) (values_of es)
sum_taken number k taken es left found there is was =
    ap (λ xs. sum_by (weight number) (values_of xs) + unwrap_or (option_map (weight number) found) 0) is
    ∙ ap (λ v. sum_by (weight number) (values_of (remove_entry (is_at (key_order k)) es)) + unwrap_or (option_map (weight number) v) 0) (sym was ∙ there)
    ∙ sum_by-remove_entry (weight number) (is_at (key_order k)) es

-- and leaves the connections that the machine leaves
pub closed_members : (w c : ℕ) (es : List ((ℕ × ℕ) × On)) → IsStrictlySortedBy key_order (keys_of es)
    → members_of (remove_entry (is_at (key_order (w, c))) es) ≡ (closed c w (members_of es)).opened
closed_members w c es sorted = remove_members w c es sorted ∙ sym (closed_leaves w c (members_of es))

-- a new entry adds what it counts to each sum
pub sum_put : (number : ℕ) (k : ℕ × ℕ) (v : On) (es : List ((ℕ × ℕ) × On)) → IsStrictlySortedBy key_order (keys_of es)
    → is_some (lookup (is_at (key_order k)) es) ≡ false
    → sum_by (weight number) (values_of (insert_entry key_order es k v)) ≡ sum_by (weight number) (values_of es) + weight number v
sum_put number k v es sorted none = by (lookup (is_at (key_order k)) es) none (sum_by-insert_entry (weight number) key_order_total es k v sorted)
  where
    by : (found : Option On) → is_some found ≡ false
        → sum_by (weight number) (values_of (insert_entry key_order es k v)) + unwrap_or (option_map (weight number) found) 0 ≡ sum_by (weight number) (values_of es) + weight number v
        → sum_by (weight number) (values_of (insert_entry key_order es k v)) ≡ sum_by (weight number) (values_of es) + weight number v
    by None none h = omega (arith, h)
    by (Some v') none h = absurd (true≢false none)

-- the sums are no greater than the number of entries
pub sum_few : (number : ℕ) (es : List ((ℕ × ℕ) × On)) → sum_by (weight number) (values_of es) ≤ length es
sum_few number es = omega (arith, count_by-le-length (λ v. v.listener == number || is_forwarded_to number v.cluster) (values_of es), length-values_of es)

-- the entries from a worker's first place on and before the next worker's are the worker's
range_is : (w : ℕ) (k : ℕ × ℕ) → range_contains key_order (Included (w, 0)) (Excluded (w + 1, 0)) k ≡ (k.0 == w)
range_is w k = grind (arith, nat_tests)

pub range_of_worker : (w : ℕ) (es : List ((ℕ × ℕ) × On))
    → entries_between key_order (Included (w, 0)) (Excluded (w + 1, 0)) es ≡ filter (is_at_worker w) es
range_of_worker w es = λ i. filter (λ e. range_is w e.0 i) es

-- no two entries have one place
apart_later : (k : ℕ × ℕ) (es : List ((ℕ × ℕ) × On)) → AllByRecursion (λ y. key_order k y ≡ Less) (keys_of es) → is_open (members_of es) k.0 k.1 ≡ false
apart_later k [] all = refl
apart_later k (e ∷ es) all =
    ap (λ b. b || is_open (members_of es) k.0 k.1) (sym (same_place k.0 k.1 e.0.0 e.0.1) ∙ ap is_eq all.0) ∙ apart_later k es all.1

pub apart_members : (es : List ((ℕ × ℕ) × On)) → IsStrictlySortedBy key_order (keys_of es) → AreApart (members_of es)
unfolding IsStrictlySortedBy
apart_members [] sorted = tt
apart_members (e ∷ es) sorted = (apart_later e.0 es sorted.0, apart_members es sorted.1)

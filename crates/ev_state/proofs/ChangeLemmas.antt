-- Which names began and ceased to be watched, by the generations that an event made and retired.
use Rattle.std.proofs.Common.{◌≡◌, ◌∙◌, ℕ, suc, zero, ◌+◌, ◌<◌, ◌≤◌, ◌-◌, Bool, true, false, cond, not, ◌&&◌, ◌||◌, nat_eq, List, [], ◌∷◌, Option, None, Some, refl, sym, ap, arith}
use Rattle.std.specs.Prelude.{nat_le}
use Rattle.std.specs.Cmp.{both_ways}
use Rattle.std.specs.List.{AllByRecursion, list_any, flat_map}
use Rattle.std.proofs.lemmas.Bool.{false≢true, eqb-true, eq-eqb, leb-true, leb-false, le-leb, and_parts, or_left, or_right}
use Rattle.std.proofs.lemmas.List.Folds.{list_any-append}
use Rattle.ev_types.specs.Statuses.{is_live}
use Rattle.ev_types.specs.declared.contents.Kind.{Kind}
use Rattle.ev_types.specs.declared.rows.GenRow.{GenRow}
use Rattle.ev_model.specs.Requests.{other_than}
use Rattle.ev_model.specs.Watching.{dependencies_of}
use Rattle.ev_model_laws.proofs.AnyLemmas.{or_so, any_so}
use Rattle.ev_indexes.specs.Tables.{IsTable, row_in}
use Rattle.ev_indexes.proofs.TableLemmas.{number-row_in}
use Rattle.ev_lookups.specs.Keys.{named}
use Rattle.ev_lookups.specs.declared.kind_keys.Key.{Key}
use Rattle.ev_indexes.specs.Due.{is_one_of}
use Rattle.ev_warming.specs.Changes.{is_over, has_retired}
use Rattle.ev_indexes.specs.Indexes.{depends_on}
use Rattle.ev_indexes.specs.Reads.{names_watched, names_needed}
use Rattle.ev_indexes.specs.Moved.{is_held, needs_lost, needs_gained, numbers_after, names_lost, names_gained}
use Rattle.ev_indexes.specs.Needs.{is_needed}
use Rattle.ev_indexes.proofs.WhereLemmas.{own-rows}
use Rattle.ev_state.specs.Ages.{IsLater, AreLater}
use Rattle.ev_state.proofs.AgeLemmas.{found-later, found-earlier}
use Rattle.ev_state.proofs.NameLists.{needs_it, is_watcher, among-lost, among-gained}
use Rattle.ev_indexes.proofs.NameLemmas.{among_other, sorted-in_order, other-in_order, same-names, among-watched}

-- an element that passes is there
record Passing {X : Type 0} (Q : X → Type 0) (p : X → Bool) : Type 0 where
  one : X
  so : Q one
  passes : p one ≡ true

pick : {X : Type 0} (Q : X → Type 0) (p : X → Bool) (xs : List X) → AllByRecursion Q xs → list_any p xs ≡ true → Passing Q p
pick Q p [] all any = absurd (false≢true any)
pick Q p (x ∷ xs) all any = by (p x) refl any (pick Q p xs all.1)
  where
    by : (b : Bool) → p x ≡ b → (b || list_any p xs) ≡ true → (list_any p xs ≡ true → Passing Q p) → Passing Q p
    by true is any rest = record { one = x; so = all.0; passes = is }
    by false isnt any rest = rest any

-- a number that passes is there
pick_number : (p : ℕ → Bool) (ns : List ℕ) → list_any p ns ≡ true → Passing (λ n. is_one_of ns n ≡ true) p
pick_number p [] any = absurd (false≢true any)
pick_number p (n ∷ ns) any = by (p n) refl any (pick_number p ns)
  where
    or_true : (b : Bool) → (b || true) ≡ true
    or_true true = refl
    or_true false = refl

    by : (b : Bool) → p n ≡ b → (b || list_any p ns) ≡ true → (list_any p ns ≡ true → Passing (λ m. is_one_of ns m ≡ true) p) → Passing (λ m. is_one_of (n ∷ ns) m ≡ true) p
    by true is any rest = record { one = n; so = ap (λ b. b || is_one_of ns n) (eq-eqb n n refl); passes = is }
    by false isnt any rest =
        let other = rest any in
        record { one = other.one; so = ap (λ b. nat_eq other.one n || b) other.so ∙ or_true (nat_eq other.one n); passes = other.passes }

both_true : (a b : Bool) → a ≡ true → b ≡ true → (a && b) ≡ true
both_true a b x y = (λ i. x i && b) ∙ y

any_found : (p : GenRow → Bool) (number : ℕ) (row : GenRow) (rows : List GenRow) → row_in number rows ≡ Some row → p row ≡ true → list_any p rows ≡ true
any_found p number row [] at is = absurd (cc)
any_found p number row (r ∷ rs) at is = by (nat_eq number r.number) at (λ rest. any_found p number row rs rest is)
  where
    same : {a b : GenRow} → Some a ≡ Some b → a ≡ b
    same h = cc

    by : (b : Bool) → cond b (Some r) (row_in number rs) ≡ Some row → (row_in number rs ≡ Some row → list_any p rs ≡ true) → (p r || list_any p rs) ≡ true
    by true here rest = or_left (p r) (list_any p rs) (ap p (same here) ∙ is)
    by false here rest = or_right (p r) (list_any p rs) (rest here)

any_number : (p : ℕ → Bool) (n : ℕ) (ns : List ℕ) → is_one_of ns n ≡ true → p n ≡ true → list_any p ns ≡ true
any_number p n [] there is = absurd (false≢true there)
any_number p n (m ∷ ms) there is = by (nat_eq n m) refl there (λ rest. any_number p n ms rest is)
  where
    by : (b : Bool) → nat_eq n m ≡ b → (b || is_one_of ms n) ≡ true → (is_one_of ms n ≡ true → list_any p ms ≡ true) → (p m || list_any p ms) ≡ true
    by true same there rest = or_left (p m) (list_any p ms) (ap p (sym (eqb-true n m same)) ∙ is)
    by false other there rest = or_right (p m) (list_any p ms) (rest there)

-- the numbers behind this one, so many of them
behind : (made count number : ℕ) → made < number → number ≤ made + count → is_one_of (numbers_after made count) number ≡ true
behind made zero number low high = absurd (omega arith)
behind made (suc count) number low high =
    list_any-append (nat_eq number) (numbers_after made count) ((made + suc count) ∷ [])
    ∙ by (nat_le number (made + count)) refl (behind made count number low)
  where
    by : (b : Bool) → nat_le number (made + count) ≡ b → (number ≤ made + count → is_one_of (numbers_after made count) number ≡ true)
        → (is_one_of (numbers_after made count) number || (nat_eq number (made + suc count) || false)) ≡ true
    by true is rest = or_left (is_one_of (numbers_after made count) number) (nat_eq number (made + suc count) || false) (rest (leb-true number (made + count) is))
    by false isnt rest =
        let above : made + count < number = leb-false number (made + count) isnt in
        let last : number ≡ made + suc count = omega arith in
        or_right (is_one_of (numbers_after made count) number) (nat_eq number (made + suc count) || false) (or_left (nat_eq number (made + suc count)) false (eq-eqb number (made + suc count) last))

not_true : (b : Bool) → not b ≡ true → b ≡ false
not_true true h = sym h
not_true false h = refl

not_false : (b : Bool) → not b ≡ false → b ≡ true
not_false true h = refl
not_false false h = absurd (false≢true (sym h))

-- a row that is found has a number that was allocated
low_number : (made number : ℕ) (row : GenRow) (rows : List GenRow) → IsTable (record { rows = rows; made = made }) → row_in number rows ≡ Some row → number ≤ made
low_number made number row rows table at = by (nat_le number made) refl
  where
    nothing : {a : GenRow} → None ≡ Some a → ⊥
    nothing h = cc

    by : (b : Bool) → nat_le number made ≡ b → number ≤ made
    by true is = leb-true number made is
    by false isnt = absurd (nothing (sym (table.drawn number (leb-false number made isnt)) ∙ at))

abbrev IsAt : List GenRow → GenRow → Type 0
IsAt rows row = row_in row.number rows ≡ Some row

module _ (kind : Kind) (before after : List GenRow) (made drawn : ℕ) (first : IsTable (record { rows = before; made = made })) (second : IsTable (record { rows = after; made = drawn }))
    (later : AreLater made before after) (retired : List ℕ) (told : (number : ℕ) → has_retired number before after ≡ true → is_one_of retired number ≡ true)
    (back : (number : ℕ) (row : GenRow) → row_in number after ≡ Some row → is_one_of retired number ≡ true → has_retired number before after ≡ true) where
  abbrev key : List ℕ → Key
  key name = named kind name

  abbrev first_watcher : List ℕ → GenRow → Bool
  first_watcher name row = nat_le row.number made && depends_on (key name) row

  abbrev leaves : List ℕ → ℕ → Bool
  leaves name n = nat_le n made && needs_it (key name) (row_in n after)

  abbrev comes : List ℕ → ℕ → Bool
  comes name n = is_watcher (key name) (row_in n after)

  abbrev new_numbers : List ℕ
  new_numbers = numbers_after made (drawn - made)

  -- a name is watched now where it is held or a new generation depends on it
  module _ (name : List ℕ) where
    now_there : list_any (depends_on (key name)) after ≡ true → (is_held made after (key name) || list_any (comes name) new_numbers) ≡ true
    now_there any =
        let p = pick (IsAt after) (depends_on (key name)) after (own-rows after second.apart) any in
        by p.one p.so p.passes (nat_le p.one.number made) refl
      where
        by : (row : GenRow) → IsAt after row → depends_on (key name) row ≡ true → (b : Bool) → nat_le row.number made ≡ b
            → (is_held made after (key name) || list_any (comes name) new_numbers) ≡ true
        by row at passes true low =
            or_left (is_held made after (key name)) (list_any (comes name) new_numbers)
            (any_found (first_watcher name) row.number row after at (both_true (nat_le row.number made) (depends_on (key name) row) low passes))
        by row at passes false high =
            let above : made < row.number = leb-false row.number made high in
            let known : row.number ≤ drawn = low_number drawn row.number row after second at in
            or_right (is_held made after (key name)) (list_any (comes name) new_numbers)
            (any_number (comes name) row.number new_numbers (behind made (drawn - made) row.number above (omega arith)) ((λ i. is_watcher (key name) (at i)) ∙ passes))

    now_back : (is_held made after (key name) || list_any (comes name) new_numbers) ≡ true → list_any (depends_on (key name)) after ≡ true
    now_back any =
        or_so (is_held made after (key name)) (list_any (comes name) new_numbers)
        (λ held. any_so (first_watcher name) (depends_on (key name)) after (λ row h. (and_parts (nat_le row.number made) (depends_on (key name) row) h).1) held)
        (λ new. let q = pick_number (comes name) new_numbers new in by q.one (row_in q.one after) refl q.passes) any
      where
        by : (n : ℕ) (o : Option GenRow) → row_in n after ≡ o → is_watcher (key name) o ≡ true → list_any (depends_on (key name)) after ≡ true
        by n None at passes = absurd (false≢true passes)
        by n (Some row) at passes = any_found (depends_on (key name)) n row after at passes

    now : list_any (depends_on (key name)) after ≡ (is_held made after (key name) || list_any (comes name) new_numbers)
    now = both_ways (list_any (depends_on (key name)) after) (is_held made after (key name) || list_any (comes name) new_numbers) now_there now_back

    -- it was watched before where it is held or a generation that retired depended on it
    then_there : list_any (depends_on (key name)) before ≡ true → (is_held made after (key name) || list_any (leaves name) retired) ≡ true
    then_there any =
        let p = pick (IsAt before) (depends_on (key name)) before (own-rows before first.apart) any in
        let f = found-later made p.one.number p.one before after later p.so in
        by p.one f.row p.so f.at f.so (and_parts (is_live p.one.status) (is_needed (key name) (dependencies_of p.one.content)) p.passes).0
        (and_parts (is_live p.one.status) (is_needed (key name) (dependencies_of p.one.content)) p.passes).1
        (low_number made p.one.number p.one before first p.so) (is_live f.row.status) refl
      where
        by : (row other : GenRow) → row_in row.number before ≡ Some row → row_in row.number after ≡ Some other → IsLater row other
            → is_live row.status ≡ true → is_needed (key name) (dependencies_of row.content) ≡ true → row.number ≤ made
            → (b : Bool) → is_live other.status ≡ b → (is_held made after (key name) || list_any (leaves name) retired) ≡ true
        by row other at there is live needs low true lives =
            or_left (is_held made after (key name)) (list_any (leaves name) retired)
            (any_found (first_watcher name) row.number other after there
            (both_true (nat_le other.number made) (depends_on (key name) other)
            ((λ i. nat_le (number-row_in row.number other after there i) made) ∙ le-leb row.number made low)
            (both_true (is_live other.status) (is_needed (key name) (dependencies_of other.content)) lives
            (ap (λ (r : GenRow). is_needed (key name) (dependencies_of r.content)) is.same ∙ needs))))
        by row other at there is live needs low false over =
            or_right (is_held made after (key name)) (list_any (leaves name) retired)
            (any_number (leaves name) row.number retired
            (told row.number
            ((λ i. is_over (there i) && not (is_over (at i)))
            ∙ both_true (not (is_live other.status)) (not (not (is_live row.status))) (ap not over) (λ i. not (not (live i)))))
            (both_true (nat_le row.number made) (needs_it (key name) (row_in row.number after)) (le-leb row.number made low)
            ((λ i. needs_it (key name) (there i)) ∙ ap (λ (r : GenRow). is_needed (key name) (dependencies_of r.content)) is.same ∙ needs)))

    then_back : (is_held made after (key name) || list_any (leaves name) retired) ≡ true → list_any (depends_on (key name)) before ≡ true
    then_back any =
        or_so (is_held made after (key name)) (list_any (leaves name) retired)
        (λ held. let p = pick (IsAt after) (first_watcher name) after (own-rows after second.apart) held in held_by p.one p.so p.passes)
        (λ left. let q = pick_number (leaves name) retired left in left_by q.one q.so q.passes) any
      where
        found : (n : ℕ) (row other : GenRow) → row_in n before ≡ Some row → IsLater row other → is_live row.status ≡ true
            → is_needed (key name) (dependencies_of other.content) ≡ true → list_any (depends_on (key name)) before ≡ true
        found n row other at is live needs =
            any_found (depends_on (key name)) n row before at
            (both_true (is_live row.status) (is_needed (key name) (dependencies_of row.content)) live
            (ap (λ (r : GenRow). is_needed (key name) (dependencies_of r.content)) (sym is.same) ∙ needs))

        was_live : (row other : GenRow) → IsLater row other → is_live other.status ≡ true → (b : Bool) → is_live row.status ≡ b → is_live row.status ≡ true
        was_live row other is live true h = h
        was_live row other is live false h = absurd (false≢true (sym (ap is_live (is.over h) ∙ h) ∙ live))

        held_by : (other : GenRow) → IsAt after other → first_watcher name other ≡ true → list_any (depends_on (key name)) before ≡ true
        held_by other at passes =
            let parts = and_parts (nat_le other.number made) (depends_on (key name) other) passes in
            let needs = and_parts (is_live other.status) (is_needed (key name) (dependencies_of other.content)) parts.1 in
            let e = found-earlier made other.number other before after later (leb-true other.number made parts.0) at in
            found other.number e.row other e.at e.so (was_live e.row other e.so needs.0 (is_live e.row.status) refl) needs.1

        gone : (n : ℕ) (o : Option GenRow) → row_in n after ≡ o → n ≤ made → needs_it (key name) o ≡ true → is_one_of retired n ≡ true
            → list_any (depends_on (key name)) before ≡ true
        gone n None at low needs there = absurd (false≢true needs)
        gone n (Some other) at low needs there =
            let e = found-earlier made n other before after later low at in
            let lived = (and_parts (is_over (row_in n after)) (not (is_over (row_in n before))) (back n other at there)).1 in
            found n e.row other e.at e.so
            (not_false (is_live e.row.status) ((λ i. is_over (sym e.at i)) ∙ not_true (is_over (row_in n before)) lived)) needs

        left_by : (n : ℕ) → is_one_of retired n ≡ true → leaves name n ≡ true → list_any (depends_on (key name)) before ≡ true
        left_by n there passes =
            let parts = and_parts (nat_le n made) (needs_it (key name) (row_in n after)) passes in
            gone n (row_in n after) refl (leb-true n made parts.0) parts.1 there

    was : list_any (depends_on (key name)) before ≡ (is_held made after (key name) || list_any (leaves name) retired)
    was = both_ways (list_any (depends_on (key name)) before) (is_held made after (key name) || list_any (leaves name) retired) then_there then_back

  one_without : (held one other : Bool) → ((one && not held) && not (other && not held)) ≡ ((held || one) && not (held || other))
  one_without true true true = refl
  one_without true true false = refl
  one_without true false other = refl
  one_without false true true = refl
  one_without false true false = refl
  one_without false false other = refl

  -- the names that began to be watched
  pub names-begun : other_than (names_lost kind made after retired) (names_gained kind made drawn after) ≡ other_than (names_watched kind before) (names_watched kind after)
  names-begun =
      same-names (other_than (names_lost kind made after retired) (names_gained kind made drawn after)) (other_than (names_watched kind before) (names_watched kind after))
      (other-in_order (names_lost kind made after retired) (names_gained kind made drawn after) (sorted-in_order (flat_map (needs_gained kind made after) (numbers_after made (drawn - made)))))
      (other-in_order (names_watched kind before) (names_watched kind after) (sorted-in_order (names_needed kind after)))
      (λ name. among_other (names_lost kind made after retired) (names_gained kind made drawn after) name
      ∙ (λ i. among-gained kind made after name drawn i && not (among-lost kind made after name retired i))
      ∙ one_without (is_held made after (key name)) (list_any (comes name) new_numbers) (list_any (leaves name) retired)
      ∙ sym (among_other (names_watched kind before) (names_watched kind after) name
      ∙ (λ i. (among-watched kind after name ∙ now name) i && not ((among-watched kind before name ∙ was name) i))))

  -- and those that ceased to be
  pub names-ended : other_than (names_gained kind made drawn after) (names_lost kind made after retired) ≡ other_than (names_watched kind after) (names_watched kind before)
  names-ended =
      same-names (other_than (names_gained kind made drawn after) (names_lost kind made after retired)) (other_than (names_watched kind after) (names_watched kind before))
      (other-in_order (names_gained kind made drawn after) (names_lost kind made after retired) (sorted-in_order (flat_map (needs_lost kind made after) retired)))
      (other-in_order (names_watched kind after) (names_watched kind before) (sorted-in_order (names_needed kind before)))
      (λ name. among_other (names_gained kind made drawn after) (names_lost kind made after retired) name
      ∙ (λ i. among-lost kind made after name retired i && not (among-gained kind made after name drawn i))
      ∙ one_without (is_held made after (key name)) (list_any (leaves name) retired) (list_any (comes name) new_numbers)
      ∙ sym (among_other (names_watched kind after) (names_watched kind before) name
      ∙ (λ i. (among-watched kind before name ∙ was name) i && not ((among-watched kind after name ∙ now name) i))))

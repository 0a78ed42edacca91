-- The newest live generation of a name is the later one of the one that serves it and the one that warms under it.
use Rattle.std.proofs.Common.{◌≡◌, ◌∙◌, ◌⊎◌, ◌<◌, ◌≤◌, ℕ, Bool, true, false, cond, not, ◌&&◌, ◌||◌, nat_eq, nat_lt, List, [], ◌∷◌, Option, None, Some, is_some, option_to_list, option_map, map, filter, refl, sym, ap, subst, inl, inr, true≢false, arith}
use Rattle.std.specs.List.{list_any, IsDistinct, AllByRecursion}
use Rattle.std.proofs.lemmas.Bool.{ltb-true, ltb-false}
use Rattle.ev_types.specs.Statuses.{is_warming, is_active, is_live}
use Rattle.ev_types.specs.declared.rows.RowStatus.{RowStatus}
use Rattle.ev_types.specs.declared.rows.RowStatus.TheVariants.{Warming, Active, Draining, Dropped}
use Rattle.ev_types.specs.declared.rows.GenRow.{GenRow}
use Rattle.ev_types.specs.declared.rows.Live.{Live}
use Rattle.ev_model.specs.World.{World}
use Rattle.ev_model.specs.Live.{live_of, lives_of, is_named, later_of, latest, newest_of}
use Rattle.ev_model.specs.Phase.{has_come}
use Rattle.ev_model.specs.Rows.{is_row_of}
use Rattle.ev_indexes.specs.Tables.{row_in, numbers_of}
use Rattle.ev_lookups.specs.declared.kind_keys.Key.{Key}
use Rattle.ev_indexes.specs.declared.names.Standing.{Standing}
use Rattle.ev_indexes.specs.declared.state.State.{State}
use Rattle.ev_indexes.specs.Due.{has_number}
use Rattle.ev_indexes.specs.Standings.{standing_in}
use Rattle.ev_indexes.specs.Indexes.{IsIndexed, is_of, serves, warms, numbers_where}
use Rattle.ev_indexes.specs.Newest.{is_live_as, newest_in, later_of_two, later_number, found_in}
use Rattle.ev_indexes.specs.Reads.{live_rows}
use Rattle.ev_indexes.specs.Worlds.{HasRows}
use Rattle.ev_indexes.proofs.RowLemmas.{any-some}
use Rattle.ev_indexes.proofs.ShownLemmas.{all_left}
use Rattle.ev_indexes.proofs.WhereLemmas.{own-rows}

-- a live row of a name serves it or warms under it, and not both
live-either : (status : RowStatus) (n : Bool) → (is_live status && n) ≡ ((is_active status && n) || (is_warming status && n))
live-either Warming n = refl
live-either Active true = refl
live-either Active false = refl
live-either Draining n = refl
live-either Dropped n = refl

never-both : (status : RowStatus) (n : Bool) → (is_active status && n) ≡ true → (is_warming status && n) ≡ true → ⊥
never-both Warming n a w = true≢false (sym a)
never-both Active n a w = true≢false (sym w)
never-both Draining n a w = true≢false (sym a)
never-both Dropped n a w = true≢false (sym w)

module _ (p q t : GenRow → Bool) (either : (r : GenRow) → t r ≡ (p r || q r)) where
  -- where none passes the first test, the second one decides
  left-none : (rows : List GenRow) → filter p rows ≡ [] → filter t rows ≡ filter q rows
  left-none [] none = refl
  left-none (row ∷ rows) none = (λ i. cond (either row i) (row ∷ filter t rows) (filter t rows)) ∙ by (p row) none (left-none rows)
    where
      by : (b : Bool) → cond b (row ∷ filter p rows) (filter p rows) ≡ [] → (filter p rows ≡ [] → filter t rows ≡ filter q rows)
          → cond (b || q row) (row ∷ filter t rows) (filter t rows) ≡ cond (q row) (row ∷ filter q rows) (filter q rows)
      by true h rest = cc
      by false h rest = ap (λ (rs : List GenRow). cond (q row) (row ∷ rs) rs) (rest h)

  -- where none passes the second test, the first one decides
  right-none : (rows : List GenRow) → filter q rows ≡ [] → filter t rows ≡ filter p rows
  right-none [] none = refl
  right-none (row ∷ rows) none = (λ i. cond (either row i) (row ∷ filter t rows) (filter t rows)) ∙ by (p row) (q row) none (right-none rows)
    where
      by : (b c : Bool) → cond c (row ∷ filter q rows) (filter q rows) ≡ [] → (filter q rows ≡ [] → filter t rows ≡ filter p rows)
          → cond (b || c) (row ∷ filter t rows) (filter t rows) ≡ cond b (row ∷ filter p rows) (filter p rows)
      by b true h rest = cc
      by true false h rest = ap (λ (rs : List GenRow). row ∷ rs) (rest h)
      by false false h rest = rest h

  -- where one passes each, both are left, in one order or the other
  one-each : ((r : GenRow) → p r ≡ true → q r ≡ true → ⊥) → (a w : GenRow) (rows : List GenRow) → filter p rows ≡ a ∷ [] → filter q rows ≡ w ∷ []
      → (filter t rows ≡ a ∷ w ∷ []) ⊎ (filter t rows ≡ w ∷ a ∷ [])
  one-each never a w [] one two = cc
  one-each never a w (row ∷ rows) one two =
      subst (λ (rs : List GenRow). (rs ≡ a ∷ w ∷ []) ⊎ (rs ≡ w ∷ a ∷ [])) (λ i. cond (sym (either row) i) (row ∷ filter t rows) (filter t rows))
      (by (p row) refl (q row) refl one two (one-each never a w rows))
    where
      by : (b : Bool) → p row ≡ b → (c : Bool) → q row ≡ c → cond b (row ∷ filter p rows) (filter p rows) ≡ a ∷ [] → cond c (row ∷ filter q rows) (filter q rows) ≡ w ∷ []
          → (filter p rows ≡ a ∷ [] → filter q rows ≡ w ∷ [] → (filter t rows ≡ a ∷ w ∷ []) ⊎ (filter t rows ≡ w ∷ a ∷ []))
          → (cond (b || c) (row ∷ filter t rows) (filter t rows) ≡ a ∷ w ∷ []) ⊎ (cond (b || c) (row ∷ filter t rows) (filter t rows) ≡ w ∷ a ∷ [])
      by true e true f one two more = absurd (never row e f)
      by true e false f one two more =
          let none : filter p rows ≡ [] = cc in
          let own : row ≡ a = cc in
          let rest : filter t rows ≡ w ∷ [] = left-none rows none ∙ two in
          inl (λ i. own i ∷ rest i)
      by false e true f one two more =
          let none : filter q rows ≡ [] = cc in
          let own : row ≡ w = cc in
          let rest : filter t rows ≡ a ∷ [] = right-none rows none ∙ one in
          inr (λ i. own i ∷ rest i)
      by false e false f one two more = more one two

-- at most one number: at most one row
shape : (o : Option ℕ) (rows : List GenRow) → option_to_list o ≡ numbers_of rows → ((o ≡ None) × (rows ≡ [])) ⊎ ((r : GenRow) × (o ≡ Some r.number) × (rows ≡ r ∷ []))
shape None [] e = inl (refl, refl)
shape None (r ∷ rows) e = cc
shape (Some n) [] e = cc
shape (Some n) (r ∷ []) e =
    let same : n ≡ r.number = cc in
    inr (r, ap Some same, refl)
shape (Some n) (r ∷ other ∷ rows) e = cc

-- the row that is left alone is found by its number, and passes
alone : (test : GenRow → Bool) (rows : List GenRow) (r : GenRow) → IsDistinct nat_eq (numbers_of rows) → filter test rows ≡ r ∷ [] → (row_in r.number rows ≡ Some r) × (test r ≡ true)
alone test rows r apart one = (
  (subst (AllByRecursion (λ (o : GenRow). row_in o.number rows ≡ Some o)) one (all_left (λ (o : GenRow). row_in o.number rows ≡ Some o) test rows (own-rows rows apart))).0,
  (subst (AllByRecursion (λ (o : GenRow). test o ≡ true)) one (passed rows)).0,
)
  where
    passed : (rs : List GenRow) → AllByRecursion (λ (o : GenRow). test o ≡ true) (filter test rs)
    passed [] = tt
    passed (o ∷ rs) = by (test o) refl (passed rs)
      where
        by : (b : Bool) → test o ≡ b → AllByRecursion (λ (o : GenRow). test o ≡ true) (filter test rs) → AllByRecursion (λ (o : GenRow). test o ≡ true) (cond b (o ∷ filter test rs) (filter test rs))
        by true e rest = (e, rest)
        by false e rest = rest

module _ (rows : List GenRow) (key : Key) (apart : IsDistinct nat_eq (numbers_of rows)) where
  abbrev either_one : (r : GenRow) → is_live_as key r ≡ (serves key r || warms key r)
  either_one = λ r. live-either r.status (is_of key r)

  -- of two rows with different numbers the one of the greater number
  two : (a w : GenRow) → row_in a.number rows ≡ Some a → row_in w.number rows ≡ Some w → found_in rows (later_of_two (Some a.number) (Some w.number)) ≡ later_of (live_of a) (Some (live_of w))
  two a w here there = by (nat_lt a.number w.number)
    where
      by : (b : Bool) → found_in rows (cond b (Some w.number) (Some a.number)) ≡ cond b (Some (live_of w)) (Some (live_of a))
      by true = ap (option_map live_of) there
      by false = ap (option_map live_of) here

  -- and their order doesn't matter
  order : (a w : GenRow) → (a.number ≡ w.number → ⊥) → later_of (live_of w) (Some (live_of a)) ≡ later_of (live_of a) (Some (live_of w))
  order a w differ = by (nat_lt a.number w.number) refl (nat_lt w.number a.number) refl
    where
      by : (b : Bool) → nat_lt a.number w.number ≡ b → (c : Bool) → nat_lt w.number a.number ≡ c
          → cond c (Some (live_of a)) (Some (live_of w)) ≡ cond b (Some (live_of w)) (Some (live_of a))
      by true e true f =
          let less : a.number < w.number = ltb-true a.number w.number e in
          let more : w.number < a.number = ltb-true w.number a.number f in
          absurd (omega arith)
      by true e false f = refl
      by false e true f = refl
      by false e false f =
          let most : w.number ≤ a.number = ltb-false a.number w.number e in
          let least : a.number ≤ w.number = ltb-false w.number a.number f in
          absurd (differ (omega arith))

  newest-rows : (active warming : Option ℕ) → option_to_list active ≡ numbers_where (serves key) rows → option_to_list warming ≡ numbers_where (warms key) rows
      → newest_in rows key ≡ found_in rows (later_of_two active warming)
  newest-rows active warming a w = by (shape active (filter (serves key) rows) a) (shape warming (filter (warms key) rows) w)
    where
      by : ((active ≡ None) × (filter (serves key) rows ≡ [])) ⊎ ((r : GenRow) × (active ≡ Some r.number) × (filter (serves key) rows ≡ r ∷ []))
          → ((warming ≡ None) × (filter (warms key) rows ≡ [])) ⊎ ((r : GenRow) × (warming ≡ Some r.number) × (filter (warms key) rows ≡ r ∷ []))
          → newest_in rows key ≡ found_in rows (later_of_two active warming)
      by (inl (e, none)) (inl (f, nothing)) =
          (λ i. latest (map live_of ((left-none (serves key) (warms key) (is_live_as key) either_one rows none ∙ nothing) i)))
          ∙ (λ i. found_in rows (later_of_two (sym e i) (sym f i)))
      by (inl (e, none)) (inr (r, f, one)) =
          (λ i. latest (map live_of ((left-none (serves key) (warms key) (is_live_as key) either_one rows none ∙ one) i)))
          ∙ sym (ap (option_map live_of) (alone (warms key) rows r apart one).0)
          ∙ (λ i. found_in rows (later_of_two (sym e i) (sym f i)))
      by (inr (r, e, one)) (inl (f, none)) =
          (λ i. latest (map live_of ((right-none (serves key) (warms key) (is_live_as key) either_one rows none ∙ one) i)))
          ∙ sym (ap (option_map live_of) (alone (serves key) rows r apart one).0)
          ∙ (λ i. found_in rows (later_of_two (sym e i) (sym f i)))
      by (inr (r, e, one)) (inr (o, f, other)) =
          orders (one-each (serves key) (warms key) (is_live_as key) either_one (λ x. never-both x.status (is_of key x)) r o rows one other)
          ∙ sym (two r o (alone (serves key) rows r apart one).0 (alone (warms key) rows o apart other).0)
          ∙ (λ i. found_in rows (later_of_two (sym e i) (sym f i)))
        where
          differ : r.number ≡ o.number → ⊥
          differ same =
              let own : Some r ≡ Some o = sym (alone (serves key) rows r apart one).0 ∙ (λ i. row_in (same i) rows) ∙ (alone (warms key) rows o apart other).0 in
              let row : r ≡ o = cc in
              never-both o.status (is_of key o) (subst (λ (x : GenRow). serves key x ≡ true) row (alone (serves key) rows r apart one).1) (alone (warms key) rows o apart other).1

          orders : (filter (is_live_as key) rows ≡ r ∷ o ∷ []) ⊎ (filter (is_live_as key) rows ≡ o ∷ r ∷ []) → newest_in rows key ≡ later_of (live_of r) (Some (live_of o))
          orders (inl h) = λ i. latest (map live_of (h i))
          orders (inr h) = (λ i. latest (map live_of (h i))) ∙ order r o differ

-- the live rows of a kind and name
named-world : (key : Key) (rows : List GenRow) → filter (is_named key.kind key.name) (map live_of (live_rows rows)) ≡ map live_of (filter (is_live_as key) rows)
named-world key [] = refl
named-world key (row ∷ rows) = by (is_live row.status) (is_of key row) refl (named-world key rows)
  where
    by : (l n : Bool) → is_of key row ≡ n → filter (is_named key.kind key.name) (map live_of (live_rows rows)) ≡ map live_of (filter (is_live_as key) rows)
        → filter (is_named key.kind key.name) (map live_of (cond l (row ∷ live_rows rows) (live_rows rows)))
        ≡ map live_of (cond (l && n) (row ∷ filter (is_live_as key) rows) (filter (is_live_as key) rows))
    by true true g rest =
        (λ i. cond (g i) (live_of row ∷ filter (is_named key.kind key.name) (map live_of (live_rows rows))) (filter (is_named key.kind key.name) (map live_of (live_rows rows))))
        ∙ ap (λ (ls : List Live). live_of row ∷ ls) rest
    by true false g rest =
        (λ i. cond (g i) (live_of row ∷ filter (is_named key.kind key.name) (map live_of (live_rows rows))) (filter (is_named key.kind key.name) (map live_of (live_rows rows))))
        ∙ rest
    by false n g rest = rest

pub newest-found : (s : State) (key : Key) → IsIndexed s → newest_in s.table.rows key ≡ found_in s.table.rows (later_number (standing_in s.names key))
newest-found s key x = newest-rows s.table.rows key x.table.apart (standing_in s.names key).active (standing_in s.names key).warming (x.active key) (x.warming key)

pub newest-world : (s : State) (world : World) (key : Key) → HasRows s world → newest_in s.table.rows key ≡ newest_of (lives_of world) key.kind key.name
newest-world s world key stands = (λ i. newest_in (stands.rows i) key) ∙ sym (ap latest (named-world key world.rows))

-- a name is found to be live where a row passes the test
some-listed : (test : GenRow → Bool) (rows : List GenRow) (o : Option ℕ) → option_to_list o ≡ numbers_where test rows → is_some o ≡ list_any test rows
some-listed test rows o e = by o ∙ ap has_number e ∙ sym (any-some test rows)
  where
    by : (o : Option ℕ) → is_some o ≡ has_number (option_to_list o)
    by None = refl
    by (Some n) = refl

pub come-found : (s : State) (key : Key) → IsIndexed s → (standing : Standing) → standing ≡ standing_in s.names key
    → (is_some standing.active || not (is_some standing.warming)) ≡ (list_any (serves key) s.table.rows || not (list_any (warms key) s.table.rows))
come-found s key x standing e =
    (λ i. is_some (e i).active || not (is_some (e i).warming))
    ∙ (λ i. some-listed (serves key) s.table.rows (standing_in s.names key).active (x.active key) i || not (some-listed (warms key) s.table.rows (standing_in s.names key).warming (x.warming key) i))

module _ (s : State) (world : World) (key : Key) (x : IsIndexed s) (stands : HasRows s world) where
  -- a test of the rows of a name
  any-named : (test : RowStatus → Bool) (rows : List GenRow)
      → list_any (λ (row : GenRow). is_row_of key.kind key.name row && test row.status) rows ≡ list_any (λ (row : GenRow). test row.status && is_of key row) rows
  any-named test [] = refl
  any-named test (row ∷ rows) = λ i. turned (is_of key row) (test row.status) i || any-named test rows i
    where
      turned : (a b : Bool) → (a && b) ≡ (b && a)
      turned true true = refl
      turned true false = refl
      turned false true = refl
      turned false false = refl

  any-either : (rows : List GenRow) → list_any (is_live_as key) rows ≡ (list_any (serves key) rows || list_any (warms key) rows)
  any-either [] = refl
  any-either (row ∷ rows) =
      (λ i. live-either row.status (is_of key row) i || any-either rows i)
      ∙ mixed (serves key row) (warms key row) (list_any (serves key) rows) (list_any (warms key) rows)
    where
      mixed : (a b c d : Bool) → ((a || b) || (c || d)) ≡ ((a || c) || (b || d))
      mixed true b c d = refl
      mixed false true true d = refl
      mixed false true false d = refl
      mixed false false c d = refl

  pub come-world : (list_any (serves key) s.table.rows || not (list_any (warms key) s.table.rows)) ≡ has_come world.rows key.kind key.name
  unfolding has_come
  come-world =
      (λ i. list_any (serves key) (stands.rows i) || not (list_any (warms key) (stands.rows i)))
      ∙ sym ((λ i. any-named is_active world.rows i || not ((any-named is_live world.rows ∙ any-either world.rows) i))
      ∙ either (list_any (serves key) world.rows) (list_any (warms key) world.rows))
    where
      either : (a b : Bool) → (a || not (a || b)) ≡ (a || not b)
      either true b = refl
      either false b = refl

-- A new generation warms, and one that warmed under its name is dropped: the indexes stay searches of the rows.
use Rattle.std.proofs.Common.{◌≡◌, ◌∙◌, ℕ, Bool, true, false, cond, ◌&&◌, ◌||◌, nat_eq, ◌+◌, List, [], ◌∷◌, ◌++◌, Option, None, Some, option_to_list, filter, refl, sym, ap, true≢false, arith, append-nil}
use Rattle.std.proofs.Math.Bool.{or-false}
use Rattle.std.specs.Option.{option_or}
use Rattle.std.proofs.lemmas.Bool.{eq-eqb, and_parts}
use Rattle.std.proofs.lemmas.List.Folds.{find-append}
use Rattle.ev_types.specs.Statuses.{is_warming, is_live}
use Rattle.ev_types.specs.declared.contents.Content.{Content}
use Rattle.ev_types.specs.declared.contents.Kind.{Kind}
use Rattle.ev_types.specs.declared.origins.KeptChain.{KeptChain}
use Rattle.ev_types.specs.declared.rows.RowStatus.{RowStatus}
use Rattle.ev_types.specs.declared.rows.RowStatus.TheVariants.{Warming, Active, Draining, Dropped}
use Rattle.ev_types.specs.declared.rows.GenRow.{GenRow}
use Rattle.ev_model.specs.Rows.{removed_status, replaced_status, is_row_of, with_statuses, new_row}
use Rattle.ev_model.specs.Watching.{dependencies_of}
use Rattle.ev_indexes.specs.Tables.{GenerationsParts, IsTable, is_number, row_in, status_with, with_status, numbers_of}
use Rattle.ev_lookups.specs.Keys.{key_decides, key_same, named}
use Rattle.ev_lookups.specs.declared.kind_keys.Key.{Key}
use Rattle.ev_indexes.specs.declared.state.State.{State}
use Rattle.ev_indexes.specs.Addresses.{AddressesKept, HoldsAddress, listens_at}
use Rattle.ev_indexes.specs.Due.{is_one_of}
use Rattle.ev_indexes.specs.Kept.{Sets}
use Rattle.ev_indexes.specs.Standings.{NamesKept, nobody, standing_in}
use Rattle.ev_indexes.specs.Watched.{WatchesKept, watch_in, numbers_without, watched_for, with_last}
use Rattle.ev_indexes.specs.Ready.{is_due_found, is_due_at}
use Rattle.ev_indexes.specs.Indexes.{IsIndexed, is_of, waits, serves, warms, holds, numbers_where, status_in, passes}
use Rattle.ev_indexes.specs.Needs.{is_needed_so}
use Rattle.ev_indexes.proofs.WhereLemmas.{where-left, where-members, found-where, flipped, emptied, without-one, among-row}
use Rattle.ev_warming.proofs.ReadyLemmas.{Agrees}
use Rattle.ev_warming.proofs.IndexLemmas.{live-warming, is_due_at-agrees}
use Rattle.ev_indexes.proofs.RowLemmas.{all_then, statuses_agree}
use Rattle.ev_indexes.proofs.WaitLemmas.{with_last-far}
use Rattle.ev_warming.proofs.PromotionLemmas.{statuses_same}

removed-warming : (status : RowStatus) → is_warming status ≡ true → removed_status status ≡ Dropped
removed-warming Warming h = refl
removed-warming Active h = absurd (true≢false (sym h))
removed-warming Draining h = absurd (true≢false (sym h))
removed-warming Dropped h = absurd (true≢false (sym h))

swapped : (w b : Bool) → (w && b) ≡ (b && w)
swapped true true = refl
swapped true false = refl
swapped false true = refl
swapped false false = refl

-- a row warms under the name
warms_of : (key : Key) (row : GenRow) → warms key row ≡ (is_row_of key.kind key.name row && is_warming row.status)
warms_of key row = swapped (is_warming row.status) (is_of key row)

module _ (s : State) (x : IsIndexed s) (key : Key) where
  -- none warms under the name
  pub drop-none : (standing_in s.names key).warming ≡ None → s.table.rows ≡ with_statuses (replaced_status key.kind key.name) s.table.rows
  drop-none none =
      sym (statuses_same s.table.rows)
      ∙ statuses_agree (λ (r : GenRow). r.status) (replaced_status key.kind key.name) s.table.rows
      (all_then (λ (r : GenRow). is_one_of (numbers_where (warms key) s.table.rows) r.number ≡ warms key r) (λ (r : GenRow). r.status ≡ replaced_status key.kind key.name r) s.table.rows
      (λ r h. λ i. cond ((sym (λ j. is_one_of ((sym (x.warming key) ∙ ap option_to_list none) j) r.number) ∙ h ∙ warms_of key r) i) Dropped r.status)
      (where-members (warms key) s.table.rows x.table.apart))

  module _ (p : ℕ) (at : (standing_in s.names key).warming ≡ Some p) where
    members : numbers_where (warms key) s.table.rows ≡ p ∷ []
    members = sym (x.warming key) ∙ ap option_to_list at

    theirs : (row : GenRow) × (row_in p s.table.rows ≡ Some row) × (warms key row ≡ true)
    theirs = found-where (warms key) p s.table.rows x.table.apart ((λ i. is_one_of (members i) p) ∙ or-false (nat_eq p p) ∙ eq-eqb p p refl)

    waiting : is_warming theirs.0.status ≡ true
    waiting = (and_parts (is_warming theirs.0.status) (is_of key theirs.0) theirs.2).0

    pub drop-live : is_live (status_in (row_in p s.table.rows)) ≡ true
    drop-live = (λ i. is_live (status_in (theirs.1 i))) ∙ live-warming theirs.0.status waiting

    removed : removed_status (status_in (row_in p s.table.rows)) ≡ Dropped
    removed = (λ i. removed_status (status_in (theirs.1 i))) ∙ removed-warming theirs.0.status waiting

    pub drop-rows : with_status p (removed_status (status_in (row_in p s.table.rows))) s.table.rows ≡ with_statuses (replaced_status key.kind key.name) s.table.rows
    drop-rows =
        (λ i. with_status p (removed i) s.table.rows)
        ∙ statuses_agree (status_with p Dropped) (replaced_status key.kind key.name) s.table.rows
        (all_then (λ (r : GenRow). is_one_of (numbers_where (warms key) s.table.rows) r.number ≡ warms key r) (λ (r : GenRow). status_with p Dropped r ≡ replaced_status key.kind key.name r) s.table.rows
        (λ r h. λ i. cond ((flipped p r.number ∙ sym (or-false (nat_eq r.number p)) ∙ (λ j. is_one_of (sym members j) r.number) ∙ h ∙ warms_of key r) i) Dropped r.status)
        (where-members (warms key) s.table.rows x.table.apart))

    pub drop-alone : (t : State) → IsIndexed t → t.table.rows ≡ with_status p (removed_status (status_in (row_in p s.table.rows))) s.table.rows
        → (standing_in t.names key).warming ≡ None
    drop-alone t y e =
        emptied (standing_in t.names key).warming
        (y.warming key ∙ ap (numbers_where (warms key)) (e ∙ (λ i. with_status p (removed i) s.table.rows))
        ∙ where-left (warms key) p Dropped (λ r. refl) s.table.rows
        ∙ ap (numbers_without p) members
        ∙ without-one p (Some p) (or-false (nat_eq p p) ∙ eq-eqb p p refl))

where-push : (test : GenRow → Bool) (row : GenRow) (rows : List GenRow) → numbers_where test (rows ++ row ∷ []) ≡ numbers_where test rows ++ cond (test row) (row.number ∷ []) []
where-push test row [] = by (test row)
  where
    by : (b : Bool) → numbers_of (cond b (row ∷ []) []) ≡ [] ++ cond b (row.number ∷ []) []
    by true = refl
    by false = refl
where-push test row (r ∷ rows) = by (test r) (where-push test row rows)
  where
    by : (b : Bool) → numbers_where test (rows ++ row ∷ []) ≡ numbers_where test rows ++ cond (test row) (row.number ∷ []) []
        → numbers_of (cond b (r ∷ filter test (rows ++ row ∷ [])) (filter test (rows ++ row ∷ []))) ≡ numbers_of (cond b (r ∷ filter test rows) (filter test rows)) ++ cond (test row) (row.number ∷ []) []
    by true h = ap (λ ns. r.number ∷ ns) h
    by false h = h

-- a new generation warms under a name
module _ (s : State) (x : IsIndexed s) (kind : Kind) (name : List ℕ) (content : Content) (kept : List KeptChain) (alone : (standing_in s.names (named kind name)).warming ≡ None)
    (table : GenerationsParts) (rows : table.rows ≡ s.table.rows ++ new_row kind s.table.made name content kept ∷ []) (made : table.made ≡ s.table.made + 1) (tabled : IsTable table)
    (names : NamesKept) (stands : Sets nobody s.names names (named kind name) (record { active = (standing_in s.names (named kind name)).active; warming = Some (s.table.made + 1) }))
    (watches : WatchesKept)
    (more : (q : Key) → watch_in watches q ≡ watched_for (s.table.made + 1) q (dependencies_of content) (watch_in s.watches q))
    (addresses : AddressesKept) (held : HoldsAddress s.addresses addresses (s.table.made + 1) content)
    (due : List ℕ) (looked : (n : ℕ) → is_one_of due n ≡ cond (is_one_of ((s.table.made + 1) ∷ []) n) (is_due_at watches s.results n table.rows) (is_one_of s.due n)) where
  pushed : (test : GenRow → Bool) → numbers_where test table.rows ≡ numbers_where test s.table.rows ++ cond (test (new_row kind s.table.made name content kept)) ((s.table.made + 1) ∷ []) []
  pushed test = ap (numbers_where test) rows ∙ where-push test (new_row kind s.table.made name content kept) s.table.rows

  agrees : (q : Key) → Agrees s.watches watches q
  agrees q = record { told = λ i. (more q i).told; timed = λ i. (more q i).timed; value = λ i. (more q i).value }

  -- the new number is among none of the others
  away : (test : GenRow → Bool) → is_one_of (numbers_where test s.table.rows) (s.table.made + 1) ≡ false
  away test = among-row test (s.table.made + 1) s.table.rows x.table.apart ∙ ap (passes test) (x.table.drawn (s.table.made + 1) (omega arith))

  active_too : (q : Key) (b : Bool) → key_same (named kind name) q ≡ b
      → option_to_list (cond b (record { active = (standing_in s.names (named kind name)).active; warming = Some (s.table.made + 1) }) (standing_in s.names q)).active ≡ numbers_where (serves q) s.table.rows ++ []
  active_too q true e = (λ i. option_to_list (standing_in s.names ((key_decides (named kind name) q).0 e i)).active) ∙ x.active q ∙ sym (append-nil (numbers_where (serves q) s.table.rows))
  active_too q false e = x.active q ∙ sym (append-nil (numbers_where (serves q) s.table.rows))

  warming_too : (q : Key) (b : Bool) → key_same (named kind name) q ≡ b
      → option_to_list (cond b (record { active = (standing_in s.names (named kind name)).active; warming = Some (s.table.made + 1) }) (standing_in s.names q)).warming
      ≡ numbers_where (warms q) s.table.rows ++ cond b ((s.table.made + 1) ∷ []) []
  warming_too q true e =
      let none : numbers_where (warms q) s.table.rows ≡ [] =
      sym (x.warming q) ∙ (λ i. option_to_list (standing_in s.names (sym ((key_decides (named kind name) q).0 e) i)).warming) ∙ ap option_to_list alone in
      λ i. sym none i ++ (s.table.made + 1) ∷ []
  warming_too q false e = x.warming q ∙ sym (append-nil (numbers_where (warms q) s.table.rows))

  put_too : (test : GenRow → Bool) (ns : List ℕ) → ns ≡ numbers_where test s.table.rows → (b : Bool)
      → cond b (with_last (s.table.made + 1) ns) ns ≡ numbers_where test s.table.rows ++ cond b ((s.table.made + 1) ∷ []) []
  put_too test ns index true = ap (with_last (s.table.made + 1)) index ∙ with_last-far (s.table.made + 1) (numbers_where test s.table.rows) (away test)
  put_too test ns index false = index ∙ sym (append-nil (numbers_where test s.table.rows))

  due_too : (n : ℕ) (b : Bool) → nat_eq n (s.table.made + 1) ≡ b
      → cond (b || false) (is_due_at watches s.results n table.rows) (is_one_of s.due n) ≡ is_due_at watches s.results n table.rows
  due_too n true e = refl
  due_too n false e =
      x.due n ∙ sym (is_due_at-agrees s.watches watches s.results agrees n s.table.rows)
      ∙ sym ((λ i. is_due_found watches s.results (row_in n (rows i)))
      ∙ (λ i. is_due_found watches s.results (find-append (is_number n) s.table.rows (new_row kind s.table.made name content kept ∷ []) i))
      ∙ (λ i. is_due_found watches s.results (option_or (row_in n s.table.rows) (cond (e i) (Some (new_row kind s.table.made name content kept)) None)))
      ∙ by (row_in n s.table.rows))
    where
      by : (o : Option GenRow) → is_due_found watches s.results (option_or o None) ≡ is_due_found watches s.results o
      by None = refl
      by (Some row) = refl

  pub indexed-added : IsIndexed (record s { table = table; names = names; watches = watches; addresses = addresses; due = due })
  indexed-added = record {
    table = tabled;
    active = λ q. (λ i. option_to_list (stands q i).active) ∙ active_too q (key_same (named kind name) q) refl ∙ sym (pushed (serves q));
    warming = λ q. (λ i. option_to_list (stands q i).warming) ∙ warming_too q (key_same (named kind name) q) refl ∙ sym (pushed (warms q));
    unlimited = λ q. (λ i. (more q i).unlimited) ∙ put_too (waits q false) (watch_in s.watches q).unlimited (x.unlimited q) (is_needed_so q false (dependencies_of content)) ∙ sym (pushed (waits q false));
    limited = λ q. (λ i. (more q i).limited) ∙ put_too (waits q true) (watch_in s.watches q).limited (x.limited q) (is_needed_so q true (dependencies_of content)) ∙ sym (pushed (waits q true));
    holders = λ a. held a ∙ (λ i. x.holders a i ++ cond (listens_at a content) ((s.table.made + 1) ∷ []) []) ∙ sym (pushed (holds a));
    due = λ n. looked n ∙ due_too n (nat_eq n (s.table.made + 1)) refl;
    drawn = λ n h above. x.drawn n h (omega (arith, made, above));
    unmarked = λ n above. x.unmarked n (omega (arith, made, above));
  }

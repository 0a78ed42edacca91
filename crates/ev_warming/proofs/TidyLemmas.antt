-- What a call leaves to be forgotten: what it made of nobody's need is known of the generations that it reports.
use Rattle.std.proofs.Common.{◌≡◌, ◌∙◌, ◌+◌, ℕ, Bool, true, false, cond, ◌&&◌, ◌||◌, nat_eq, List, [], ◌∷◌, ◌++◌, Option, None, Some, IfSome, option_map, option_to_list, refl, sym, ap, subst, true≢false, arith, append_assoc}
use Rattle.std.specs.List.{list_any, AllByRecursion, IsDistinct}
use Rattle.std.specs.Option.{option_or}
use Rattle.std.proofs.Math.Bool.{or-true}
use Rattle.std.proofs.lemmas.Bool.{eqb-true, and_parts, false_from_ne_true, or_right}
use Rattle.std.proofs.lemmas.Option.{none-some}
use Rattle.std.proofs.lemmas.List.Folds.{list_any-append, find-append}
use Rattle.ev_types.specs.Hosts.{HostRowParts}
use Rattle.ev_types.specs.SameHosts.{has_host}
use Rattle.ev_types.specs.Statuses.{is_warming, is_active, is_live}
use Rattle.ev_types.specs.declared.contents.Kind.{Kind}
use Rattle.ev_types.specs.declared.contents.Content.{Content}
use Rattle.ev_types.specs.declared.hosts.Host.{Host}
use Rattle.ev_types.specs.declared.rows.Arrival.{Arrival}
use Rattle.ev_types.specs.declared.rows.RowStatus.{RowStatus}
use Rattle.ev_types.specs.declared.origins.KeptChain.{KeptChain}
use Rattle.ev_types.specs.declared.rows.RowStatus.TheVariants.{Warming, Active, Draining, Dropped}
use Rattle.ev_types.specs.declared.rows.GenRow.{GenRow}
use Rattle.ev_model.specs.World.{opening}
use Rattle.ev_model.specs.Rows.{is_row_of, with_statuses, replaced_status, removed_status, new_row, rows_with_new}
use Rattle.ev_model.specs.Signals.{ended_status, rows_ended, is_draining}
use Rattle.ev_model.specs.Tidy.{status_by}
use Rattle.ev_model.specs.Watching.{dependencies_of}
use Rattle.ev_indexes.specs.KeptEndpoints.{marked_in, result_in}
use Rattle.ev_indexes.specs.Tables.{is_number, row_in, numbers_of}
use Rattle.ev_indexes.proofs.TableLemmas.{row_in-with_statuses}
use Rattle.ev_lookups.specs.Keys.{key_same, key_decides, named}
use Rattle.ev_lookups.specs.declared.kind_keys.Key.{Key}
use Rattle.ev_indexes.specs.declared.names.Standing.{Standing}
use Rattle.ev_indexes.specs.declared.watches.Watch.{Watch}
use Rattle.ev_indexes.specs.declared.state.State.{State}
use Rattle.ev_indexes.specs.Due.{is_one_of}
use Rattle.ev_indexes.specs.Kept.{Sets}
use Rattle.ev_indexes.specs.Standings.{standing_in}
use Rattle.ev_indexes.specs.Watched.{WatchesKept, unwatched, watch_in, with_arrival, watchers_of}
use Rattle.ev_indexes.specs.Ready.{assignment_in}
use Rattle.ev_indexes.specs.Indexes.{IsAssignmentOf, IsIndexed, depends_on, serves, warms, numbers_where, status_in, SameMarks}
use Rattle.ev_warming.specs.Promotion.{succeeded_by, rows_promoted}
use Rattle.ev_warming.specs.Changes.{began_to_drain}
use Rattle.ev_indexes.specs.Worlds.{HasRows}
use Rattle.ev_indexes.specs.Needs.{is_needed}
use Rattle.ev_warming.specs.Forgetting.{needs_in, is_need_of, keeps_result, IsUnheard, IsTidyBut}
use Rattle.ev_indexes.proofs.WhereLemmas.{any-found, own-rows, among-where}
use Rattle.ev_indexes.proofs.WaitLemmas.{watchers-index, among-depends}
use Rattle.ev_warming.proofs.ReadyLemmas.{Agrees, assignment_in-agrees, agrees-all, agrees-other}
use Rattle.ev_warming.proofs.DrainLemmas.{status-promoted}

-- a row that passes, found by its number
any-row : (test : GenRow → Bool) (rows : List GenRow) → IsDistinct nat_eq (numbers_of rows) → list_any test rows ≡ true
    → (row : GenRow) × (row_in row.number rows ≡ Some row) × (test row ≡ true)
any-row test rows apart any = go rows (own-rows rows apart) any
  where
    go : (rs : List GenRow) → AllByRecursion (λ (r : GenRow). row_in r.number rows ≡ Some r) rs → list_any test rs ≡ true
        → (row : GenRow) × (row_in row.number rows ≡ Some row) × (test row ≡ true)
    go [] own h = absurd (true≢false (sym h))
    go (r ∷ rs) own h = by (test r) refl h (λ g. go rs own.1 g)
      where
        by : (b : Bool) → test r ≡ b → (b || list_any test rs) ≡ true → (list_any test rs ≡ true → (row : GenRow) × (row_in row.number rows ≡ Some row) × (test row ≡ true))
            → (row : GenRow) × (row_in row.number rows ≡ Some row) × (test row ≡ true)
        by true e h rest = (r, own.0, e)
        by false e h rest = rest h

-- a number that is among these and passes
any-among : (p : ℕ → Bool) (numbers : List ℕ) (n : ℕ) → is_one_of numbers n ≡ true → p n ≡ true → list_any p numbers ≡ true
any-among p [] n here passes = absurd (true≢false (sym here))
any-among p (m ∷ numbers) n here passes = by (nat_eq n m) refl here (λ h. any-among p numbers n h passes)
  where
    by : (b : Bool) → nat_eq n m ≡ b → (b || is_one_of numbers n) ≡ true → (is_one_of numbers n ≡ true → list_any p numbers ≡ true) → (p m || list_any p numbers) ≡ true
    by true e h rest = ap (λ b. b || list_any p numbers) (ap p (sym (eqb-true n m e)) ∙ passes)
    by false e h rest = or_right (p m) (list_any p numbers) (rest h)

none-first : (a b : Bool) → (a || b) ≡ false → a ≡ false
none-first true b h = absurd (true≢false h)
none-first false b h = refl

none-second : (a b : Bool) → (a || b) ≡ false → b ≡ false
none-second true b h = absurd (true≢false h)
none-second false b h = h

-- a narrower test passes no more
none-less : {X : Type 0} (f g : X → Bool) → ((x : X) → g x ≡ true → f x ≡ true) → (xs : List X) → list_any f xs ≡ false → list_any g xs ≡ false
none-less f g less [] none = refl
none-less f g less (x ∷ xs) none = by (f x) refl none (g x) refl (none-less f g less xs)
  where
    by : (a : Bool) → f x ≡ a → (a || list_any f xs) ≡ false → (b : Bool) → g x ≡ b → (list_any f xs ≡ false → list_any g xs ≡ false) → (b || list_any g xs) ≡ false
    by true e h b d rest = absurd (true≢false h)
    by false e h true d rest = absurd (true≢false (sym (less x d) ∙ e))
    by false e h false d rest = rest h

marks-agree : (old new : WatchesKept) → SameMarks old new → (q : Key) → Agrees old new q
marks-agree old new marks q = record { told = (marks q).0; timed = (marks q).1; value = (marks q).2 }

unheard-same : (old new : Watch) → new.told ≡ old.told → new.timed ≡ old.timed → new.value ≡ old.value → IsUnheard old → IsUnheard new
unheard-same old new told timed value u = record { told = told ∙ u.told; timed = timed ∙ u.timed; value = value ∙ u.value }

-- rows that are marked for a content of which the assignment is the same
marks-moved : (old new : WatchesKept) (content : Content) → assignment_in new content ≡ assignment_in old content → (o p : Option (List HostRowParts)) → p ≡ o
    → IfSome o (IsAssignmentOf old content) → IfSome p (IsAssignmentOf new content)
marks-moved old new content same o p e is = subst (λ (q : Option (List HostRowParts)). IfSome q (IsAssignmentOf new content)) (sym e) (by o is)
  where
    by : (o : Option (List HostRowParts)) → IfSome o (IsAssignmentOf old content) → IfSome o (IsAssignmentOf new content)
    by None is = tt
    by (Some rows) is = (is.0, is.1 ∙ sym same)

-- statuses change, and the numbers of those that retire are reported
module _ (s t : State) (f : GenRow → RowStatus) (stale more : List ℕ) (apart : IsDistinct nat_eq (numbers_of s.table.rows))
    (rows : t.table.rows ≡ with_statuses f s.table.rows) (marks : SameMarks s.watches t.watches) (results : t.results ≡ s.results)
    (told : (n : ℕ) (row : GenRow) → row_in n s.table.rows ≡ Some row → is_live row.status ≡ true → is_live (f row) ≡ false → is_one_of more n ≡ true)
    (ended : (row : GenRow) → is_live row.status ≡ false → is_live (f row) ≡ false)
    (tidy : IsTidyBut s stale) where
  row-after : (n : ℕ) → row_in n t.table.rows ≡ option_map (λ (r : GenRow). record r { status = f r }) (row_in n s.table.rows)
  row-after n = (λ i. row_in n (rows i)) ∙ row_in-with_statuses n f s.table.rows

  need-after : (n : ℕ) → needs_in (row_in n t.table.rows) ≡ needs_in (row_in n s.table.rows)
  need-after n = ap needs_in (row-after n) ∙ by (row_in n s.table.rows)
    where
      by : (o : Option GenRow) → needs_in (option_map (λ (r : GenRow). record r { status = f r }) o) ≡ needs_in o
      by None = refl
      by (Some r) = refl

  no-need : (q : Key) → is_need_of t.table.rows (stale ++ more) q ≡ false → (is_need_of s.table.rows stale q ≡ false) × (is_need_of s.table.rows more q ≡ false)
  no-need q none =
      let both : (is_need_of s.table.rows stale q || is_need_of s.table.rows more q) ≡ false =
      sym (list_any-append (λ n. is_needed q (needs_in (row_in n s.table.rows))) stale more) ∙ sym (λ i. list_any (λ n. is_needed q (need-after n i)) (stale ++ more)) ∙ none in
      (none-first (is_need_of s.table.rows stale q) (is_need_of s.table.rows more q) both, none-second (is_need_of s.table.rows stale q) (is_need_of s.table.rows more q) both)

  idle-before : (q : Key) → list_any (depends_on q) t.table.rows ≡ false → is_need_of s.table.rows more q ≡ false → list_any (depends_on q) s.table.rows ≡ false
  idle-before q none unneeded = by (list_any (depends_on q) s.table.rows) refl
    where
      by : (b : Bool) → list_any (depends_on q) s.table.rows ≡ b → b ≡ false
      by false e = refl
      by true e = over found.0 found.1 p.0 p.1 (is_live (f found.0)) refl
        where
          found : (row : GenRow) × (row_in row.number s.table.rows ≡ Some row) × (depends_on q row ≡ true)
          found = any-row (depends_on q) s.table.rows apart e

          p : (is_live found.0.status ≡ true) × (is_needed q (dependencies_of found.0.content) ≡ true)
          p = and_parts (is_live found.0.status) (is_needed q (dependencies_of found.0.content)) found.2

          over : (r : GenRow) → row_in r.number s.table.rows ≡ Some r → is_live r.status ≡ true → is_needed q (dependencies_of r.content) ≡ true → (b : Bool) → is_live (f r) ≡ b → true ≡ false
          over r at live needs true l =
              sym (any-found (depends_on q) r.number (record r { status = f r }) t.table.rows (row-after r.number ∙ (λ i. option_map (λ (r : GenRow). record r { status = f r }) (at i)))
              (λ i. l i && needs i)) ∙ none
          over r at live needs false l =
              sym (any-among (λ n. is_needed q (needs_in (row_in n s.table.rows))) more r.number (told r.number r at live l) ((λ i. is_needed q (needs_in (at i))) ∙ needs)) ∙ unneeded

  pub tidy-statused : IsTidyBut t (stale ++ more)
  tidy-statused = record {
    marks = λ q none unneeded.
        let needs = no-need q unneeded in
        unheard-same (watch_in s.watches q) (watch_in t.watches q) (marks q).0 (marks q).1 (marks q).2 (tidy.marks q (idle-before q none needs.1) needs.0);
    results = λ n row h at absent lost. (λ i. result_in (results i) n h) ∙ gone n row h (row_in n s.table.rows) refl (sym (row-after n) ∙ at)
        (sym (list_any-append (nat_eq n) stale more) ∙ absent) lost;
    marked = λ n absent row at live. kept n row (row_in n s.table.rows) refl (sym (row-after n) ∙ at) (sym (list_any-append (nat_eq n) stale more) ∙ absent) live;
  }
    where
      kept : (n : ℕ) (row : GenRow) (o : Option GenRow) → row_in n s.table.rows ≡ o → option_map (λ (r : GenRow). record r { status = f r }) o ≡ Some row
          → (is_one_of stale n || is_one_of more n) ≡ false → is_live row.status ≡ true → IfSome (marked_in t.results n) (IsAssignmentOf t.watches row.content)
      kept n row None e at absent live = absurd (none-some row at)
      kept n row (Some r) e at absent live =
          subst (λ (g : GenRow). IfSome (marked_in t.results n) (IsAssignmentOf t.watches g.content)) same
          (marks-moved s.watches t.watches r.content
          (assignment_in-agrees s.watches t.watches r.content (agrees-all s.watches t.watches (marks-agree s.watches t.watches marks) (dependencies_of r.content)))
          (marked_in s.results n) (marked_in t.results n) (λ i. marked_in (results i) n)
          (tidy.marked n (none-first (is_one_of stale n) (is_one_of more n) absent) r e (was (is_live r.status) refl)))
        where
          same : record r { status = f r } ≡ row
          same = cc

          was : (b : Bool) → is_live r.status ≡ b → b ≡ true
          was true l = refl
          was false l = absurd (true≢false (sym live ∙ (λ i. is_live (sym same i).status) ∙ ended r l))

      gone : (n : ℕ) (row : GenRow) (h : Host) (o : Option GenRow) → row_in n s.table.rows ≡ o → option_map (λ (r : GenRow). record r { status = f r }) o ≡ Some row
          → (is_one_of stale n || is_one_of more n) ≡ false → keeps_result t.watches h row ≡ false → result_in s.results n h ≡ None
      gone n row h None e at absent lost = cc
      gone n row h (Some r) e at absent lost = tidy.results n r h e (none-first (is_one_of stale n) (is_one_of more n) absent) (by (is_live r.status) refl (is_live (f r)) refl)
        where
          same : record r { status = f r } ≡ row
          same = cc

          by : (a : Bool) → is_live r.status ≡ a → (b : Bool) → is_live (f r) ≡ b → (a && has_host h (assignment_in s.watches r.content)) ≡ false
          by false l b m = refl
          by true l true m =
              (λ i. has_host h (sym (assignment_in-agrees s.watches t.watches r.content (agrees-all s.watches t.watches (marks-agree s.watches t.watches marks) (dependencies_of r.content))) i))
              ∙ (λ i. sym m i && has_host h (assignment_in t.watches r.content))
              ∙ (λ i. keeps_result t.watches h (same i)) ∙ lost
          by true l false m = absurd (true≢false (sym (told n r e l m) ∙ none-second (is_one_of stale n) (is_one_of more n) absent))

-- a row more
module _ (s t : State) (new : GenRow) (stale : List ℕ)
    (rows : t.table.rows ≡ s.table.rows ++ new ∷ []) (marks : SameMarks s.watches t.watches) (results : t.results ≡ s.results)
    (unheard : (host : Host) → result_in s.results new.number host ≡ None) (unmarked : marked_in s.results new.number ≡ None) (tidy : IsTidyBut s stale) where
  row-more : (n : ℕ) → row_in n t.table.rows ≡ option_or (row_in n s.table.rows) (cond (nat_eq n new.number) (Some new) None)
  row-more n = (λ i. row_in n (rows i)) ∙ find-append (is_number n) s.table.rows (new ∷ [])

  needs-more : (q : Key) (n : ℕ) → is_needed q (needs_in (row_in n s.table.rows)) ≡ true → is_needed q (needs_in (row_in n t.table.rows)) ≡ true
  needs-more q n h = ap (λ o. is_needed q (needs_in o)) (row-more n) ∙ by (row_in n s.table.rows) h
    where
      by : (o : Option GenRow) → is_needed q (needs_in o) ≡ true → is_needed q (needs_in (option_or o (cond (nat_eq n new.number) (Some new) None))) ≡ true
      by None h = absurd (true≢false (sym h))
      by (Some r) h = h

  pub tidy-more : IsTidyBut t stale
  tidy-more = record {
    marks = λ q none unneeded.
        unheard-same (watch_in s.watches q) (watch_in t.watches q) (marks q).0 (marks q).1 (marks q).2
        (tidy.marks q
        (none-first (list_any (depends_on q) s.table.rows) (list_any (depends_on q) (new ∷ [])) (sym (list_any-append (depends_on q) s.table.rows (new ∷ [])) ∙ (λ i. list_any (depends_on q) (sym rows i)) ∙ none))
        (none-less (λ n. is_needed q (needs_in (row_in n t.table.rows))) (λ n. is_needed q (needs_in (row_in n s.table.rows))) (needs-more q) stale unneeded));
    results = λ n row h at absent lost. (λ i. result_in (results i) n h) ∙ gone n row h (row_in n s.table.rows) refl (sym (row-more n) ∙ at) absent lost;
    marked = λ n absent row at live. kept n row (row_in n s.table.rows) refl (sym (row-more n) ∙ at) absent live;
  }
    where
      kept : (n : ℕ) (row : GenRow) (o : Option GenRow) → row_in n s.table.rows ≡ o → option_or o (cond (nat_eq n new.number) (Some new) None) ≡ Some row
          → is_one_of stale n ≡ false → is_live row.status ≡ true → IfSome (marked_in t.results n) (IsAssignmentOf t.watches row.content)
      kept n row None e at absent live = by (nat_eq n new.number) refl at
        where
          by : (b : Bool) → nat_eq n new.number ≡ b → cond b (Some new) None ≡ Some row → IfSome (marked_in t.results n) (IsAssignmentOf t.watches row.content)
          by true d at =
              subst (λ (o : Option (List HostRowParts)). IfSome o (IsAssignmentOf t.watches row.content))
              (sym ((λ i. marked_in (results i) (eqb-true n new.number d i)) ∙ unmarked)) tt
          by false d at = absurd (none-some row at)
      kept n row (Some r) e at absent live =
          let same : r ≡ row = cc in
          subst (λ (g : GenRow). IfSome (marked_in t.results n) (IsAssignmentOf t.watches g.content)) same
          (marks-moved s.watches t.watches r.content
          (assignment_in-agrees s.watches t.watches r.content (agrees-all s.watches t.watches (marks-agree s.watches t.watches marks) (dependencies_of r.content)))
          (marked_in s.results n) (marked_in t.results n) (λ i. marked_in (results i) n)
          (tidy.marked n absent r e ((λ i. is_live (same i).status) ∙ live)))

      gone : (n : ℕ) (row : GenRow) (h : Host) (o : Option GenRow) → row_in n s.table.rows ≡ o → option_or o (cond (nat_eq n new.number) (Some new) None) ≡ Some row
          → is_one_of stale n ≡ false → keeps_result t.watches h row ≡ false → result_in s.results n h ≡ None
      gone n row h None e at absent lost = by (nat_eq n new.number) refl at
        where
          by : (b : Bool) → nat_eq n new.number ≡ b → cond b (Some new) None ≡ Some row → result_in s.results n h ≡ None
          by true d at = (λ i. result_in s.results (eqb-true n new.number d i) h) ∙ unheard h
          by false d at = cc
      gone n row h (Some r) e at absent lost =
          let same : r ≡ row = cc in
          tidy.results n r h e absent
          ((λ i. is_live r.status && has_host h (sym (assignment_in-agrees s.watches t.watches r.content (agrees-all s.watches t.watches (marks-agree s.watches t.watches marks) (dependencies_of r.content))) i))
          ∙ (λ i. keeps_result t.watches h (same i)) ∙ lost)

-- what is live of a name retires
ended-told : (kind : Kind) (name : List ℕ) (rows : List GenRow) (standing : Standing) → option_to_list standing.active ≡ numbers_where (serves (named kind name)) rows → option_to_list standing.warming ≡ numbers_where (warms (named kind name)) rows
    → (n : ℕ) (row : GenRow) → row_in n rows ≡ Some row → is_live row.status ≡ true → is_live (ended_status kind name row) ≡ false
    → is_one_of (option_to_list standing.warming ++ option_to_list standing.active) n ≡ true
ended-told kind name rows standing active warming n row at live over =
    list_any-append (nat_eq n) (option_to_list standing.warming) (option_to_list standing.active)
    ∙ by row.status refl (is_row_of kind name row) refl live over
  where
    by : (st : RowStatus) → row.status ≡ st → (b : Bool) → is_row_of kind name row ≡ b → is_live st ≡ true → is_live (cond b (removed_status st) st) ≡ false
        → (is_one_of (option_to_list standing.warming) n || is_one_of (option_to_list standing.active) n) ≡ true
    by Warming e true f l o = λ i. ((λ j. is_one_of (warming j) n) ∙ among-where (warms (named kind name)) n row rows at (λ j. is_warming (e j) && f j)) i || is_one_of (option_to_list standing.active) n
    by Active e true f l o =
        (λ i. is_one_of (option_to_list standing.warming) n || ((λ j. is_one_of (active j) n) ∙ among-where (serves (named kind name)) n row rows at (λ j. is_active (e j) && f j)) i)
        ∙ or-true (is_one_of (option_to_list standing.warming) n)
    by Warming e false f l o = absurd (true≢false o)
    by Active e false f l o = absurd (true≢false o)
    by Draining e b f l o = absurd (true≢false (sym l))
    by Dropped e b f l o = absurd (true≢false (sym l))

ended-ended : (kind : Kind) (name : List ℕ) (row : GenRow) → is_live row.status ≡ false → is_live (ended_status kind name row) ≡ false
ended-ended kind name row over = by row.status (is_row_of kind name row) over
  where
    by : (st : RowStatus) (b : Bool) → is_live st ≡ false → is_live (cond b (removed_status st) st) ≡ false
    by Warming b h = absurd (true≢false h)
    by Active b h = absurd (true≢false h)
    by Draining true h = refl
    by Draining false h = refl
    by Dropped true h = refl
    by Dropped false h = refl

pub tidy-ended : (s t : State) (kind : Kind) (name : List ℕ) (standing : Standing) (stale : List ℕ) → IsIndexed s → standing ≡ standing_in s.names (named kind name)
    → t.table.rows ≡ rows_ended kind name s.table.rows → SameMarks s.watches t.watches → t.results ≡ s.results → IsTidyBut s stale
    → IsTidyBut t ((stale ++ option_to_list standing.warming) ++ option_to_list standing.active)
tidy-ended s t kind name standing stale x is rows marks results tidy =
    subst (IsTidyBut t) (sym (append_assoc stale (option_to_list standing.warming) (option_to_list standing.active)))
    (tidy-statused s t (ended_status kind name) stale (option_to_list standing.warming ++ option_to_list standing.active) x.table.apart rows marks results
    (ended-told kind name s.table.rows standing ((λ i. option_to_list (is i).active) ∙ x.active (named kind name)) ((λ i. option_to_list (is i).warming) ∙ x.warming (named kind name)))
    (ended-ended kind name) tidy)

-- the one that warms under a name is dropped, and a new one warms
replaced-told : (kind : Kind) (name : List ℕ) (rows : List GenRow) (warming : Option ℕ) → option_to_list warming ≡ numbers_where (warms (named kind name)) rows
    → (n : ℕ) (row : GenRow) → row_in n rows ≡ Some row → is_live row.status ≡ true → is_live (replaced_status kind name row) ≡ false → is_one_of (option_to_list warming) n ≡ true
replaced-told kind name rows warming index n row at live over = by row.status refl (is_row_of kind name row) refl live over
  where
    by : (st : RowStatus) → row.status ≡ st → (b : Bool) → is_row_of kind name row ≡ b → is_live st ≡ true → is_live (cond (b && is_warming st) Dropped st) ≡ false
        → is_one_of (option_to_list warming) n ≡ true
    by Warming e true f l o = (λ j. is_one_of (index j) n) ∙ among-where (warms (named kind name)) n row rows at (λ j. is_warming (e j) && f j)
    by Active e true f l o = absurd (true≢false o)
    by Warming e false f l o = absurd (true≢false o)
    by Active e false f l o = absurd (true≢false o)
    by Draining e b f l o = absurd (true≢false (sym l))
    by Dropped e b f l o = absurd (true≢false (sym l))

replaced-ended : (kind : Kind) (name : List ℕ) (row : GenRow) → is_live row.status ≡ false → is_live (replaced_status kind name row) ≡ false
replaced-ended kind name row over = by row.status (is_row_of kind name row) over
  where
    by : (st : RowStatus) (b : Bool) → is_live st ≡ false → is_live (cond (b && is_warming st) Dropped st) ≡ false
    by Warming b h = absurd (true≢false h)
    by Active b h = absurd (true≢false h)
    by Draining true h = refl
    by Draining false h = refl
    by Dropped true h = refl
    by Dropped false h = refl

pub tidy-replaced : (s t : State) (kind : Kind) (name : List ℕ) (warming : Option ℕ) (stale : List ℕ) → IsIndexed s → warming ≡ (standing_in s.names (named kind name)).warming
    → t.table.rows ≡ with_statuses (replaced_status kind name) s.table.rows → SameMarks s.watches t.watches → t.results ≡ s.results → IsTidyBut s stale
    → IsTidyBut t (stale ++ option_to_list warming)
tidy-replaced s t kind name warming stale x is rows marks results tidy =
    tidy-statused s t (replaced_status kind name) stale (option_to_list warming) x.table.apart rows marks results
    (replaced-told kind name s.table.rows warming (ap option_to_list is ∙ x.warming (named kind name)))
    (replaced-ended kind name) tidy

pub tidy-added : (s t : State) (kind : Kind) (name : List ℕ) (content : Content) (kept : List KeptChain) (warming : Option ℕ) (stale : List ℕ) → IsIndexed s
    → warming ≡ (standing_in s.names (named kind name)).warming
    → t.table.rows ≡ rows_with_new kind s.table.made name content kept s.table.rows → SameMarks s.watches t.watches → t.results ≡ s.results → IsTidyBut s stale
    → IsTidyBut t (stale ++ option_to_list warming)
tidy-added s t kind name content kept warming stale x is rows marks results tidy =
    let mid : State = record s { table = record { rows = with_statuses (replaced_status kind name) s.table.rows; made = s.table.made } } in
    tidy-more mid t (new_row kind s.table.made name content kept) (stale ++ option_to_list warming) rows marks results
    (λ h. x.drawn (s.table.made + 1) h (omega arith)) (x.unmarked (s.table.made + 1) (omega arith))
    (tidy-replaced s mid kind name warming stale x is refl (λ q. (refl, refl, refl)) refl tidy)

-- those that served drain where one of their name is promoted
module _ (s t : State) (ready : GenRow → Bool) (drained stale : List ℕ) (x : IsIndexed s) (rows : t.table.rows ≡ rows_promoted ready s.table.rows)
    (told : (n : ℕ) → is_one_of drained n ≡ began_to_drain n s.table.rows t.table.rows) (marks : SameMarks s.watches t.watches) (results : t.results ≡ s.results) (tidy : IsTidyBut s stale) where
  abbrev status_of : GenRow → RowStatus
  status_of row = status_by (succeeded_by ready s.table.rows row) (ready row) row.status

  goes : (st : RowStatus) (a b : Bool) → is_live st ≡ true → is_live (status_by a b st) ≡ false → (is_active st && is_draining (status_by a b st)) ≡ true
  goes Warming a true l o = absurd (true≢false o)
  goes Warming a false l o = absurd (true≢false o)
  goes Active true b l o = refl
  goes Active false b l o = absurd (true≢false o)
  goes Draining a b l o = absurd (true≢false (sym l))
  goes Dropped a b l o = absurd (true≢false (sym l))

  over : (n : ℕ) (row : GenRow) → row_in n s.table.rows ≡ Some row → is_live row.status ≡ true → is_live (status_of row) ≡ false → is_one_of drained n ≡ true
  over n row at live o =
      told n
      ∙ (λ i. is_active (status_in (at i)) && is_draining (status_in (row_in n (rows i))))
      ∙ (λ i. is_active row.status && is_draining (status-promoted ready s.table.rows n row at i))
      ∙ goes row.status (succeeded_by ready s.table.rows row) (ready row) live o

  ends : (st : RowStatus) (a b : Bool) → is_live st ≡ false → is_live (status_by a b st) ≡ false
  ends Warming a b h = absurd (true≢false h)
  ends Active a b h = absurd (true≢false h)
  ends Draining a b h = refl
  ends Dropped a b h = refl

  pub tidy-promoted : IsTidyBut t (stale ++ drained)
  tidy-promoted =
      tidy-statused s t status_of stale drained x.table.apart rows marks results over (λ row h. ends row.status (succeeded_by ready s.table.rows row) (ready row) h) tidy

-- something was received for a name: those that depend on it are told
pub tidy-arrived : (s t : State) (key : Key) (made : ℕ) (arrival : Arrival) (stale : List ℕ) → IsIndexed s → list_any (depends_on key) s.table.rows ≡ true → t.table ≡ s.table
    → Sets unwatched s.watches t.watches key (with_arrival made arrival (watch_in s.watches key)) → t.results ≡ s.results → IsTidyBut s stale
    → IsTidyBut t (stale ++ (watchers_of (watch_in s.watches key)))
tidy-arrived s t key made arrival stale x watched table sets results tidy = record {
  marks = λ q none unneeded. marks q ((λ i. list_any (depends_on q) (sym table i).rows) ∙ none) unneeded (key_same key q) refl;
  results = λ n row h at absent lost. (λ i. result_in (results i) n h)
      ∙ gone n row h ((λ i. row_in n (sym table i).rows) ∙ at) (sym (list_any-append (nat_eq n) stale (watchers_of (watch_in s.watches key))) ∙ absent) lost (is_live row.status) refl (is_needed key (dependencies_of row.content)) refl;
  marked = λ n absent row at live.
      kept n row ((λ i. row_in n (sym table i).rows) ∙ at) (sym (list_any-append (nat_eq n) stale (watchers_of (watch_in s.watches key))) ∙ absent) live (is_needed key (dependencies_of row.content)) refl;
}
  where
    same : (q : Key) → key_same key q ≡ false → watch_in t.watches q ≡ watch_in s.watches q
    same q e = sets q ∙ (λ i. cond (e i) (with_arrival made arrival (watch_in s.watches key)) (watch_in s.watches q))

    other : (q : Key) → key_same q key ≡ false → Agrees s.watches t.watches q
    other q e =
        let far : key_same key q ≡ false = false_from_ne_true (key_same key q) (λ d. true≢false (sym ((key_decides q key).1 (sym ((key_decides key q).0 d))) ∙ e)) in
        record { told = λ i. (same q far i).told; timed = λ i. (same q far i).timed; value = λ i. (same q far i).value }

    marks : (q : Key) → list_any (depends_on q) s.table.rows ≡ false → is_need_of t.table.rows (stale ++ (watchers_of (watch_in s.watches key))) q ≡ false → (b : Bool) → key_same key q ≡ b → IsUnheard (watch_in t.watches q)
    marks q none unneeded true e = absurd (true≢false (sym watched ∙ (λ i. list_any (depends_on ((key_decides key q).0 e i)) s.table.rows) ∙ none))
    marks q none unneeded false e =
        subst IsUnheard (sym (same q e))
        (tidy.marks q none
        (none-first (is_need_of s.table.rows stale q) (is_need_of s.table.rows (watchers_of (watch_in s.watches key)) q)
        (sym (list_any-append (λ n. is_needed q (needs_in (row_in n s.table.rows))) stale (watchers_of (watch_in s.watches key)))
        ∙ (λ i. is_need_of (sym table i).rows (stale ++ (watchers_of (watch_in s.watches key))) q) ∙ unneeded)))

    gone : (n : ℕ) (row : GenRow) (h : Host) → row_in n s.table.rows ≡ Some row → (is_one_of stale n || is_one_of (watchers_of (watch_in s.watches key)) n) ≡ false → keeps_result t.watches h row ≡ false
        → (l : Bool) → is_live row.status ≡ l → (needs : Bool) → is_needed key (dependencies_of row.content) ≡ needs → result_in s.results n h ≡ None
    gone n row h at absent lost false l needs f =
        tidy.results n row h at (none-first (is_one_of stale n) (is_one_of (watchers_of (watch_in s.watches key)) n) absent) (λ i. l i && has_host h (assignment_in s.watches row.content))
    gone n row h at absent lost true l true f =
        absurd (true≢false (sym ((λ i. is_one_of (watchers-index s x key i) n) ∙ among-depends key n row s.table.rows at (λ i. l i && f i))
        ∙ none-second (is_one_of stale n) (is_one_of (watchers_of (watch_in s.watches key)) n) absent))
    gone n row h at absent lost true l false f =
        tidy.results n row h at (none-first (is_one_of stale n) (is_one_of (watchers_of (watch_in s.watches key)) n) absent)
        ((λ i. is_live row.status && has_host h (sym (assignment_in-agrees s.watches t.watches row.content (agrees-other s.watches t.watches key other (dependencies_of row.content) f)) i)) ∙ lost)

    kept : (n : ℕ) (row : GenRow) → row_in n s.table.rows ≡ Some row → (is_one_of stale n || is_one_of (watchers_of (watch_in s.watches key)) n) ≡ false → is_live row.status ≡ true
        → (needs : Bool) → is_needed key (dependencies_of row.content) ≡ needs → IfSome (marked_in t.results n) (IsAssignmentOf t.watches row.content)
    kept n row at absent live true f =
        absurd (true≢false (sym ((λ i. is_one_of (watchers-index s x key i) n) ∙ among-depends key n row s.table.rows at (λ i. live i && f i))
        ∙ none-second (is_one_of stale n) (is_one_of (watchers_of (watch_in s.watches key)) n) absent))
    kept n row at absent live false f =
        marks-moved s.watches t.watches row.content (assignment_in-agrees s.watches t.watches row.content (agrees-other s.watches t.watches key other (dependencies_of row.content) f))
        (marked_in s.results n) (marked_in t.results n) (λ i. marked_in (results i) n)
        (tidy.marked n (none-first (is_one_of stale n) (is_one_of (watchers_of (watch_in s.watches key)) n) absent) row at live)

-- where nothing happened there is nothing to forget
pub tidy-new : (s : State) → HasRows s (opening 0 []) → IsTidyBut s []
tidy-new s stands = record {
  marks = λ q none unneeded. record { told = stands.told q; timed = stands.timed q; value = stands.value q };
  results = λ n row h at absent lost.
      let nothing : None ≡ Some row = (λ i. row_in n (sym stands.rows i)) ∙ at in
      cc;
  marked = λ n absent row at live.
      let nothing : None ≡ Some row = (λ i. row_in n (sym stands.rows i)) ∙ at in
      absurd (none-some row nothing);
}

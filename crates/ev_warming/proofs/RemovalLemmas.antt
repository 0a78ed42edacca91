-- A row that is over goes, and numbers go on: no index looks at either.
use Rattle.std.proofs.Common.{◌≡◌, ◌∙◌, ◌<◌, ℕ, Bool, true, false, cond, not, ◌&&◌, ◌||◌, nat_eq, List, [], ◌∷◌, Option, None, Some, IsSome, filter, refl, sym, ap, subst, true≢false}
use Rattle.std.specs.List.{list_any, AllByRecursion, IsDistinct}
use Rattle.std.proofs.lemmas.Bool.{eqb-true, eq-eqb, not-true}
use Rattle.ev_types.specs.Items.{content_kind}
use Rattle.ev_types.specs.Texts.{IsName}
use Rattle.ev_types.specs.Statuses.{is_warming, is_active, is_live}
use Rattle.ev_types.specs.declared.rows.RowStatus.{RowStatus}
use Rattle.ev_types.specs.declared.rows.RowStatus.TheVariants.{Warming, Active, Draining, Dropped}
use Rattle.ev_types.specs.declared.rows.GenRow.{GenRow}
use Rattle.ev_model.specs.World.{World}
use Rattle.ev_model.specs.Watching.{dependencies_of}
use Rattle.ev_indexes.specs.Tables.{GenerationsParts, IsTable, is_number, row_in, numbers_of, without_row}
use Rattle.ev_lookups.specs.declared.kind_keys.Key.{Key}
use Rattle.ev_warming.specs.declared.manager.Manager.{Manager}
use Rattle.ev_indexes.specs.Ready.{is_ready_in, is_due_found, is_due_at}
use Rattle.ev_indexes.specs.Addresses.{listens_at}
use Rattle.ev_indexes.specs.Indexes.{is_of, depends_on, waits, serves, warms, numbers_where, holds}
use Rattle.ev_indexes.specs.Worlds.{HasRows}
use Rattle.ev_indexes.specs.Needs.{HaveNames, is_needed}
use Rattle.ev_warming.specs.Changes.{is_over}
use Rattle.ev_warming.specs.Forgetting.{is_need_of}
use Rattle.ev_warming.specs.Managers.{IsKept}
use Rattle.ev_indexes.proofs.WhereLemmas.{all-found}
use Rattle.ev_indexes.proofs.WaitLemmas.{depends-waits}
use Rattle.ev_warming.proofs.ForgottenLemmas.{both-same}

-- a filter keeps rows apart, and what holds of each
pub all-filter : {X : Type 0} (P : X → Type 0) (keep : X → Bool) (xs : List X) → AllByRecursion P xs → AllByRecursion P (filter keep xs)
all-filter P keep [] all = tt
all-filter P keep (x ∷ xs) all = by (keep x) (all-filter P keep xs all.1)
  where
    by : (b : Bool) → AllByRecursion P (filter keep xs) → AllByRecursion P (cond b (x ∷ filter keep xs) (filter keep xs))
    by true rest = (all.0, rest)
    by false rest = rest

far-filter : (n : ℕ) (keep : GenRow → Bool) (rows : List GenRow) → AllByRecursion (λ y. nat_eq n y ≡ false) (numbers_of rows) → AllByRecursion (λ y. nat_eq n y ≡ false) (numbers_of (filter keep rows))
far-filter n keep [] far = tt
far-filter n keep (row ∷ rows) far = by (keep row) (far-filter n keep rows far.1)
  where
    by : (b : Bool) → AllByRecursion (λ y. nat_eq n y ≡ false) (numbers_of (filter keep rows)) → AllByRecursion (λ y. nat_eq n y ≡ false) (numbers_of (cond b (row ∷ filter keep rows) (filter keep rows)))
    by true rest = (far.0, rest)
    by false rest = rest

pub apart-filter : (keep : GenRow → Bool) (rows : List GenRow) → IsDistinct nat_eq (numbers_of rows) → IsDistinct nat_eq (numbers_of (filter keep rows))
unfolding IsDistinct
apart-filter keep [] apart = tt
apart-filter keep (row ∷ rows) apart = by (keep row) (apart-filter keep rows apart.1)
  where
    by : (b : Bool) → IsDistinct nat_eq (numbers_of (filter keep rows)) → IsDistinct nat_eq (numbers_of (cond b (row ∷ filter keep rows) (filter keep rows)))
    by true rest = (far-filter row.number keep rows apart.0, rest)
    by false rest = rest

-- the rows that stay are found as before
pub row_in-without : (number n : ℕ) (rows : List GenRow) → row_in n (without_row number rows) ≡ cond (nat_eq number n) None (row_in n rows)
row_in-without number n [] = both-same None (nat_eq number n)
row_in-without number n (row ∷ rows) = by (nat_eq number row.number) refl (nat_eq n row.number) refl (row_in-without number n rows)
  where
    by : (a : Bool) → nat_eq number row.number ≡ a → (b : Bool) → nat_eq n row.number ≡ b → row_in n (without_row number rows) ≡ cond (nat_eq number n) None (row_in n rows)
        → row_in n (cond (not a) (row ∷ without_row number rows) (without_row number rows)) ≡ cond (nat_eq number n) None (cond b (Some row) (row_in n rows))
    by true e true f rest =
        let same : nat_eq number n ≡ true = eq-eqb number n (eqb-true number row.number e ∙ sym (eqb-true n row.number f)) in
        rest ∙ (λ i. cond (same i) None (row_in n rows)) ∙ (λ i. cond (sym same i) None (Some row))
    by true e false f rest = rest
    by false e true f rest =
        let apart : nat_eq number n ≡ false = (λ i. nat_eq number (eqb-true n row.number f i)) ∙ e in
        (λ i. cond (f i) (Some row) (row_in n (without_row number rows))) ∙ (λ i. cond (sym apart i) None (Some row))
    by false e false f rest = (λ i. cond (f i) (Some row) (row_in n (without_row number rows))) ∙ rest

-- an index doesn't look at a row that fails its test
where-without : (test : GenRow → Bool) (number : ℕ) (rows : List GenRow) → AllByRecursion (λ (r : GenRow). nat_eq number r.number ≡ true → test r ≡ false) rows
    → numbers_where test (without_row number rows) ≡ numbers_where test rows
where-without test number [] all = refl
where-without test number (row ∷ rows) all = by (nat_eq number row.number) refl (test row) refl (where-without test number rows all.1)
  where
    by : (a : Bool) → nat_eq number row.number ≡ a → (t : Bool) → test row ≡ t → numbers_where test (without_row number rows) ≡ numbers_where test rows
        → numbers_where test (cond (not a) (row ∷ without_row number rows) (without_row number rows)) ≡ numbers_of (cond t (row ∷ filter test rows) (filter test rows))
    by true e true f rest = absurd (true≢false (sym f ∙ all.0 e))
    by true e false f rest = rest
    by false e true f rest = (λ i. numbers_of (cond (f i) (row ∷ filter test (without_row number rows)) (filter test (without_row number rows)))) ∙ ap (λ ns. row.number ∷ ns) rest
    by false e false f rest = (λ i. numbers_of (cond (f i) (row ∷ filter test (without_row number rows)) (filter test (without_row number rows)))) ∙ rest

over-is : (o : Option GenRow) → is_over o ≡ true → (row : GenRow) × (o ≡ Some row) × (is_live row.status ≡ false)
over-is None h = absurd (true≢false (sym h))
over-is (Some row) h = (row, refl, not-true (is_live row.status) h)

cold : (st : RowStatus) → is_live st ≡ false → (is_warming st ≡ false) × (is_active st ≡ false)
cold Warming h = absurd (true≢false h)
cold Active h = absurd (true≢false h)
cold Draining h = (refl, refl)
cold Dropped h = (refl, refl)

there-before : (b : Bool) (o : Option GenRow) → IsSome (cond b None o) → IsSome o
there-before true o h = absurd (true≢false (sym h))
there-before false o h = h

found-before : (b : Bool) (o : Option GenRow) (row : GenRow) → cond b None o ≡ Some row → o ≡ Some row
found-before true o row h = cc
found-before false o row h = h

module _ (m : Manager) (number : ℕ) (kept : IsKept m) (forgotten : m.stale ≡ []) (over : is_over (row_in number m.state.table.rows) ≡ true)
    (table : GenerationsParts) (rows : table.rows ≡ without_row number m.state.table.rows) (made : table.made ≡ m.state.table.made) where
  gone : (row : GenRow) × (row_in number m.state.table.rows ≡ Some row) × (is_live row.status ≡ false)
  gone = over-is (row_in number m.state.table.rows) over

  fails : (test : GenRow → Bool) → (test gone.0 ≡ false) → numbers_where test table.rows ≡ numbers_where test m.state.table.rows
  fails test h = ap (numbers_where test) rows ∙ where-without test number m.state.table.rows (each m.state.table.rows (all-found number gone.0 m.state.table.rows gone.1 kept.indexed.table.apart))
    where
      each : (rs : List GenRow) → AllByRecursion (λ (r : GenRow). nat_eq number r.number ≡ true → r ≡ gone.0) rs → AllByRecursion (λ (r : GenRow). nat_eq number r.number ≡ true → test r ≡ false) rs
      each [] all = tt
      each (r ∷ rs) all = (λ e. ap test (all.0 e) ∙ h, each rs all.1)

  found : (n : ℕ) → row_in n table.rows ≡ cond (nat_eq number n) None (row_in n m.state.table.rows)
  found n = (λ i. row_in n (rows i)) ∙ row_in-without number n m.state.table.rows

  dependent : (q : Key) → depends_on q gone.0 ≡ false
  dependent q = λ i. gone.2 i && is_needed q (dependencies_of gone.0.content)

  due : (n : ℕ) → is_due_at m.state.watches m.state.results n m.state.table.rows ≡ is_due_at m.state.watches m.state.results n table.rows
  due n = by (nat_eq number n) refl ∙ (λ i. is_due_found m.state.watches m.state.results (sym (found n) i))
    where
      by : (b : Bool) → nat_eq number n ≡ b → is_due_at m.state.watches m.state.results n m.state.table.rows ≡ is_due_found m.state.watches m.state.results (cond b None (row_in n m.state.table.rows))
      by true e =
          (λ i. is_due_found m.state.watches m.state.results (row_in (sym (eqb-true number n e) i) m.state.table.rows))
          ∙ (λ i. is_due_found m.state.watches m.state.results (gone.1 i))
          ∙ (λ i. (cold gone.0.status gone.2).0 i && is_ready_in m.state.watches m.state.results gone.0)
      by false e = refl

  any-same : (q : Key) → list_any (depends_on q) table.rows ≡ false → list_any (depends_on q) m.state.table.rows ≡ false
  any-same q none = each m.state.table.rows ((λ i. list_any (depends_on q) (sym rows i)) ∙ none) (each' m.state.table.rows (all-found number gone.0 m.state.table.rows gone.1 kept.indexed.table.apart))
    where
      each' : (rs : List GenRow) → AllByRecursion (λ (r : GenRow). nat_eq number r.number ≡ true → r ≡ gone.0) rs → AllByRecursion (λ (r : GenRow). nat_eq number r.number ≡ true → depends_on q r ≡ false) rs
      each' [] all = tt
      each' (r ∷ rs) all = (λ e. ap (depends_on q) (all.0 e) ∙ dependent q, each' rs all.1)

      each : (rs : List GenRow) → list_any (depends_on q) (without_row number rs) ≡ false → AllByRecursion (λ (r : GenRow). nat_eq number r.number ≡ true → depends_on q r ≡ false) rs → list_any (depends_on q) rs ≡ false
      each [] h all = refl
      each (r ∷ rs) h all = by (nat_eq number r.number) refl h (λ g. each rs g all.1)
        where
          second : (a b : Bool) → (a || b) ≡ false → (a ≡ false) × (b ≡ false)
          second true b h = absurd (true≢false h)
          second false b h = (refl, h)

          by : (a : Bool) → nat_eq number r.number ≡ a → list_any (depends_on q) (cond (not a) (r ∷ without_row number rs) (without_row number rs)) ≡ false
              → (list_any (depends_on q) (without_row number rs) ≡ false → list_any (depends_on q) rs ≡ false) → (depends_on q r || list_any (depends_on q) rs) ≡ false
          by true e h rest = (λ i. all.0 e i || list_any (depends_on q) rs) ∙ rest h
          by false e h rest =
              let p = second (depends_on q r) (list_any (depends_on q) (without_row number rs)) h in
              (λ i. p.0 i || list_any (depends_on q) rs) ∙ rest p.1

  pub kept-without : IsKept (record m { state = record m.state { table = table } })
  kept-without = record {
    indexed = record {
      table =
          let same : table ≡ record { rows = without_row number m.state.table.rows; made = m.state.table.made } = λ i. record { rows = rows i; made = made i } in
          subst IsTable (sym same) (record {
            apart = apart-filter (λ (r : GenRow). not (is_number number r)) m.state.table.rows kept.indexed.table.apart;
            drawn = λ n above. row_in-without number n m.state.table.rows ∙ none (nat_eq number n) (row_in n m.state.table.rows) (kept.indexed.table.drawn n above);
          });
      active = λ q. kept.indexed.active q ∙ sym (fails (serves q) (λ i. (cold gone.0.status gone.2).1 i && is_of q gone.0));
      warming = λ q. kept.indexed.warming q ∙ sym (fails (warms q) (λ i. (cold gone.0.status gone.2).0 i && is_of q gone.0));
      unlimited = λ q. kept.indexed.unlimited q ∙ sym (fails (waits q false) (depends-waits q false gone.0 (dependent q)));
      limited = λ q. kept.indexed.limited q ∙ sym (fails (waits q true) (depends-waits q true gone.0 (dependent q)));
      holders = λ a. kept.indexed.holders a ∙ sym (fails (holds a) (λ i. gone.2 i && listens_at a gone.0.content));
      due = λ n. kept.indexed.due n ∙ due n;
      drawn = λ n h above. kept.indexed.drawn n h (subst (λ k. k < n) made above);
      unmarked = λ n above. kept.indexed.unmarked n (subst (λ k. k < n) made above);
    };
    needs = subst (AllByRecursion (λ (r : GenRow). HaveNames (dependencies_of r.content))) (sym rows)
        (all-filter (λ (r : GenRow). HaveNames (dependencies_of r.content)) (λ (r : GenRow). not (is_number number r)) m.state.table.rows kept.needs);
    tidy = record {
      marks = λ q none unneeded. kept.tidy.marks q (any-same q none) (λ i. is_need_of m.state.table.rows (forgotten i) q);
      results = λ n row h at absent lost. kept.tidy.results n row h (found-before (nat_eq number n) (row_in n m.state.table.rows) row (sym (found n) ∙ at)) absent lost;
      marked = λ n absent row at. kept.tidy.marked n absent row (found-before (nat_eq number n) (row_in n m.state.table.rows) row (sym (found n) ∙ at));
    };
  }
    where
      none : (b : Bool) (o : Option GenRow) → o ≡ None → cond b None o ≡ None
      none true o e = refl
      none false o e = e

  pub stands-without : (world : World) → HasRows m.state world → HasRows (record m.state { table = table }) (record world { rows = without_row number world.rows })
  stands-without world stands = record {
    sound = record {
      table = record {
        apart = apart-filter (λ (r : GenRow). not (is_number number r)) world.rows stands.sound.table.apart;
        drawn = λ n above. row_in-without number n world.rows ∙ none (nat_eq number n) (row_in n world.rows) (stands.sound.table.drawn n above);
      };
      typed = all-filter (λ (r : GenRow). content_kind r.content ≡ r.kind) (λ (r : GenRow). not (is_number number r)) world.rows stands.sound.typed;
      named = all-filter (λ (r : GenRow). IsName r.name) (λ (r : GenRow). not (is_number number r)) world.rows stands.sound.named;
      heard = stands.sound.heard;
    };
    rows = rows ∙ ap (without_row number) stands.rows;
    made = made ∙ stands.made;
    told = stands.told;
    timed = stands.timed;
    value = stands.value;
    resulted = λ n h there. stands.resulted n h (there-before (nat_eq number n) (row_in n m.state.table.rows) (subst IsSome (found n) there));
    healthy = λ n h there. stands.healthy n h (there-before (nat_eq number n) (row_in n m.state.table.rows) (subst IsSome (found n) there));
  }
    where
      none : (b : Bool) (o : Option GenRow) → o ≡ None → cond b None o ≡ None
      none true o e = refl
      none false o e = e

-- A health result changes what a picture shows of the cluster alone that serves the name.
use Rattle.std.proofs.Common.{◌≡◌, ◌∙◌, ℕ, Bool, true, false, cond, ◌&&◌, nat_eq, List, [], ◌∷◌, ◌++◌, ◌⊎◌, inl, inr, Option, None, Some, map, filter, refl, sym, ap}
use Rattle.std.specs.Prelude.{unwrap_or}
use Rattle.std.specs.List.{AllByRecursion, IsDistinct, last_or}
use Rattle.std.specs.Str.{bytes_eq}
use Rattle.std.proofs.lemmas.Bool.{false≢true, eqb-true}
use Rattle.std.proofs.lemmas.List.{map-append}
use Rattle.std.proofs.lemmas.List.Elements.{filter-append}
use Rattle.ev_types.specs.Hosts.{HostRowParts}
use Rattle.ev_types.specs.Kinds.{kind_same}
use Rattle.ev_types.specs.SameHosts.{host_same, host_decides, has_host}
use Rattle.ev_types.specs.Statuses.{is_live}
use Rattle.ev_types.specs.declared.contents.Kind.TheVariants.{Cds}
use Rattle.ev_types.specs.declared.hosts.Host.{Host}
use Rattle.ev_types.specs.declared.rows.GenRow.{GenRow}
use Rattle.ev_model.specs.World.{World, HealthResult}
use Rattle.ev_model.specs.Warming.{assignment_by, is_checked, is_result_of, is_healthy}
use Rattle.ev_model.specs.Signals.{is_meant, rows_meant, result_for, with_results}
use Rattle.ev_indexes.specs.Tables.{row_in, numbers_of}
use Rattle.ev_indexes.proofs.TableLemmas.{number-row_in}
use Rattle.ev_lookups.specs.Keys.{named}
use Rattle.ev_indexes.specs.declared.state.State.{State}
use Rattle.ev_indexes.specs.Due.{is_one_of}
use Rattle.ev_indexes.specs.Indexes.{serves, numbers_where}
use Rattle.ev_indexes.proofs.RowLemmas.{all_then}
use Rattle.ev_warming.proofs.ArrivalLemmas.{last_or-append}
use Rattle.ev_indexes.proofs.WhereLemmas.{among-where, own-rows}
use Rattle.ev_state.proofs.StillLemmas.{serving}
use Rattle.ev_state.proofs.SameLemmas.{AreSame, SameResults}
use Rattle.ev_state.proofs.KeepLemmas.{served-is}
use Rattle.ev_state.proofs.DependLemmas.{served-at}

-- results of other numbers are none of a number's
others_none : (n : ℕ) (host given : Host) (healthy : Bool) (rows : List GenRow) → AllByRecursion (λ (r : GenRow). nat_eq r.number n ≡ false) rows
    → filter (is_result_of n host) (map (result_for given healthy) rows) ≡ []
others_none n host given healthy [] others = refl
others_none n host given healthy (row ∷ rows) others =
    (λ i. cond (others.0 i && host_same given host) (result_for given healthy row ∷ filter (is_result_of n host) (map (result_for given healthy) rows)) (filter (is_result_of n host) (map (result_for given healthy) rows)))
    ∙ others_none n host given healthy rows others.1

append_none : {A : Type 0} (xs : List A) → xs ++ [] ≡ xs
append_none [] = refl
append_none (x ∷ xs) = ap (λ ys. x ∷ ys) (append_none xs)

healthy_same : (n : ℕ) (host given : Host) (healthy : Bool) (results : List HealthResult) (rows : List GenRow) → AllByRecursion (λ (r : GenRow). nat_eq r.number n ≡ false) rows
    → is_healthy (results ++ map (result_for given healthy) rows) n host ≡ is_healthy results n host
healthy_same n host given healthy results rows others =
    ap (λ (rs : List HealthResult). unwrap_or (last_or None (map (λ (r : HealthResult). r.healthy) rs)) false)
    (filter-append (is_result_of n host) results (map (result_for given healthy) rows)
    ∙ ap (λ (rs : List HealthResult). filter (is_result_of n host) results ++ rs) (others_none n host given healthy rows others)
    ∙ append_none (filter (is_result_of n host) results))

results_same : (n : ℕ) (given : Host) (healthy : Bool) (results : List HealthResult) (rows : List GenRow) → AllByRecursion (λ (r : GenRow). nat_eq r.number n ≡ false) rows
    → (hosts : List HostRowParts) → SameResults results (results ++ map (result_for given healthy) rows) n hosts
results_same n given healthy results rows others [] = tt
results_same n given healthy results rows others (h ∷ hosts) =
    (healthy_same n h.host given healthy results rows others, results_same n given healthy results rows others hosts)

-- results that say of a host what was known of it change nothing
last_as : (n : ℕ) (h given : Host) (healthy : Bool) (rows : List GenRow) (o : Option Bool) → (host_same given h ≡ true → unwrap_or o false ≡ healthy)
    → unwrap_or (last_or o (map (λ (r : HealthResult). r.healthy) (filter (is_result_of n h) (map (result_for given healthy) rows)))) false ≡ unwrap_or o false
last_as n h given healthy [] o known = refl
last_as n h given healthy (row ∷ rows) o known = by (nat_eq row.number n) (host_same given h) refl (λ (p : Option Bool) q. last_as n h given healthy rows p q)
  where
    by : (a b : Bool) → host_same given h ≡ b
        → ((p : Option Bool) → (host_same given h ≡ true → unwrap_or p false ≡ healthy)
        → unwrap_or (last_or p (map (λ (r : HealthResult). r.healthy) (filter (is_result_of n h) (map (result_for given healthy) rows)))) false ≡ unwrap_or p false)
        → unwrap_or (last_or o (map (λ (r : HealthResult). r.healthy)
        (cond (a && b) (result_for given healthy row ∷ filter (is_result_of n h) (map (result_for given healthy) rows)) (filter (is_result_of n h) (map (result_for given healthy) rows))))) false
        ≡ unwrap_or o false
    by true true e rest = rest (Some healthy) (λ same. refl) ∙ sym (known e)
    by true false e rest = rest o known
    by false b e rest = rest o known

still_as : (n : ℕ) (given : Host) (healthy : Bool) (results : List HealthResult) (rows : List GenRow) → is_healthy results n given ≡ healthy
    → (hosts : List HostRowParts) → SameResults results (results ++ map (result_for given healthy) rows) n hosts
still_as n given healthy results rows known [] = tt
still_as n given healthy results rows known (h ∷ hosts) = (one h.host, still_as n given healthy results rows known hosts)
  where
    one : (k : Host) → is_healthy (results ++ map (result_for given healthy) rows) n k ≡ is_healthy results n k
    one k =
        ap (λ (rs : List HealthResult). unwrap_or (last_or None (map (λ (r : HealthResult). r.healthy) rs)) false)
        (filter-append (is_result_of n k) results (map (result_for given healthy) rows))
        ∙ ap (λ (bs : List Bool). unwrap_or (last_or None bs) false)
        (map-append (λ (r : HealthResult). r.healthy) (filter (is_result_of n k) results) (filter (is_result_of n k) (map (result_for given healthy) rows)))
        ∙ ap (λ o. unwrap_or o false)
        (last_or-append None (map (λ (r : HealthResult). r.healthy) (filter (is_result_of n k) results)) (map (λ (r : HealthResult). r.healthy) (filter (is_result_of n k) (map (result_for given healthy) rows))))
        ∙ last_as n k given healthy rows (last_or None (map (λ (r : HealthResult). r.healthy) (filter (is_result_of n k) results)))
        (λ same. (λ i. is_healthy results n (sym ((host_decides given k).0 same) i)) ∙ known)

-- what holds of each row that passes holds of all that are left
all_left : (P : GenRow → Type 0) (keep : GenRow → Bool) (rows : List GenRow) → AllByRecursion (λ (r : GenRow). keep r ≡ true → P r) rows → AllByRecursion P (filter keep rows)
all_left P keep [] all = tt
all_left P keep (row ∷ rows) all = by (keep row) all.0 (all_left P keep rows all.1)
  where
    by : (b : Bool) → (b ≡ true → P row) → AllByRecursion P (filter keep rows) → AllByRecursion P (cond b (row ∷ filter keep rows) (filter keep rows))
    by true here rest = (here refl, rest)
    by false here rest = rest

module _ (changed : List ℕ) (s : State) (name : List ℕ) (host : Host) (healthy : Bool) (world : World)
    (are : s.table.rows ≡ world.rows) (apart : IsDistinct nat_eq (numbers_of world.rows))
    (told : (n : ℕ) → is_one_of changed n ≡ false
    → (is_one_of (numbers_where (serves (named Cds name)) s.table.rows) n ≡ false) ⊎ (is_healthy world.results n host ≡ healthy)) where
  name_of : (kind named live checked assigned : Bool) → (kind && named && live && checked && assigned) ≡ true → named ≡ true
  name_of true true live checked assigned h = refl
  name_of true false live checked assigned h = absurd (false≢true h)
  name_of false named live checked assigned h = absurd (false≢true h)

  -- a cluster that serves another name is none of those that the result is for
  not_meant : (n : ℕ) (row : GenRow) → is_one_of (numbers_where (serves (named Cds name)) s.table.rows) n ≡ false → serving Cds (row_in n world.rows) ≡ Some row
      → (r : GenRow) → row_in r.number world.rows ≡ Some r → is_meant world.arrivals name host r ≡ true → nat_eq r.number row.number ≡ false
  not_meant n row other at r own meant = by (nat_eq r.number row.number) refl
    where
      by : (b : Bool) → nat_eq r.number row.number ≡ b → b ≡ false
      by false isnt = refl
      by true is =
          let served = served-is Cds (row_in n world.rows) row at in
          let numbered : r.number ≡ n = eqb-true r.number row.number is ∙ number-row_in n row world.rows served.at in
          let found : Some r ≡ Some row = sym own ∙ (λ i. row_in (numbered i) world.rows) ∙ served.at in
          let same : r ≡ row = cc in
          let named_so : bytes_eq row.name name ≡ true =
          (λ i. bytes_eq (sym same i).name name)
          ∙ name_of (kind_same r.kind Cds) (bytes_eq r.name name) (is_live r.status) (is_checked r.content) (has_host host (assignment_by world.arrivals r.content)) meant in
          absurd (false≢true (sym other
          ∙ among-where (serves (named Cds name)) n row s.table.rows (served-at Cds n row world.rows s.table.rows are at)
          (λ i. served.active i && (served.same i && named_so i))))

  pub resulted-same : AreSame changed world (with_results host healthy (rows_meant world.arrivals name host world.rows) world)
  resulted-same = record {
    clusters = record { rows = λ n other. refl; values = λ n row other at needed q needs. refl };
    listeners = record { rows = λ n other. refl; values = λ n row other at needed q needs. refl };
    results = λ n row other at. elim (told n other) [
      | inl isnt ↦
          results_same row.number host healthy world.results (rows_meant world.arrivals name host world.rows)
          (all_left (λ (r : GenRow). nat_eq r.number row.number ≡ false) (is_meant world.arrivals name host) world.rows
          (all_then (λ (r : GenRow). row_in r.number world.rows ≡ Some r) (λ (r : GenRow). is_meant world.arrivals name host r ≡ true → nat_eq r.number row.number ≡ false) world.rows
          (λ r own meant. not_meant n row isnt at r own meant) (own-rows world.rows apart)))
          (assignment_by world.arrivals row.content)
      | inr known ↦
          let served = served-is Cds (row_in n world.rows) row at in
          still_as row.number host healthy world.results (rows_meant world.arrivals name host world.rows)
          ((λ i. is_healthy world.results (number-row_in n row world.rows served.at i) host) ∙ known)
          (assignment_by world.arrivals row.content)
    ];
    phase = refl;
  }

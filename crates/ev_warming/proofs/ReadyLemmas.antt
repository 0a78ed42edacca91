-- What readiness looks at: of the names that are watched only those that a row depends on, and of a row not its status.
use Rattle.std.proofs.Common.{◌≡◌, ◌∙◌, ℕ, Bool, true, false, cond, not, ◌&&◌, ◌||◌, nat_eq, List, ◌++◌, Option, None, Some, refl, ap, [], ◌∷◌, true≢false, option_map}
use Rattle.ev_types.specs.declared.contents.Content.{Content}
use Rattle.ev_types.specs.declared.contents.Content.TheVariants.{Cluster as a_cluster, Assignment as an_assignment, Listener as a_listener, Routes as routes, Secret as a_secret, Extension as an_extension}
use Rattle.ev_types.specs.declared.clusters.Discovery.{Discovery}
use Rattle.ev_types.specs.declared.clusters.Discovery.TheVariants.{Static, Eds as by_eds, Elsewhere}
use Rattle.ev_types.specs.Statuses.{is_warming}
use Rattle.ev_types.specs.declared.rows.RowStatus.{RowStatus}
use Rattle.ev_types.specs.declared.rows.GenRow.{GenRow}
use Rattle.ev_types.specs.declared.contents.Kind.TheVariants.{Sds}
use Rattle.ev_model.specs.Watching.{Dependency, cluster_secrets, discovery_dependencies, dependencies_of, each_once, referred}
use Rattle.ev_model.specs.Warming.{is_checked, rows_in, counts_for}
use Rattle.ev_indexes.specs.KeptEndpoints.{ResultsKept}
use Rattle.ev_indexes.specs.Tables.{row_in, status_with, with_status}
use Rattle.ev_indexes.proofs.TableLemmas.{row_in-with_statuses, number-row_in}
use Rattle.ev_lookups.specs.Keys.{key_same, key_decides}
use Rattle.ev_lookups.specs.declared.kind_keys.Key.{Key}
use Rattle.ev_indexes.specs.Watched.{WatchesKept, watch_in}
use Rattle.ev_indexes.specs.Ready.{has_answer_in, discovered_in, assignment_in, are_results_in, is_ready_in, is_due_in, is_due_found, is_due_at}
use Rattle.ev_indexes.specs.Needs.{is_needed, is_on, key_of}
use Rattle.std.specs.List.{AllByRecursion}
use Rattle.ev_indexes.proofs.DependencyLemmas.{all-each}

-- what was received for the name is the same
pub record Agrees (old new : WatchesKept) (key : Key) : Type 0 where
  pub told : (watch_in new key).told ≡ (watch_in old key).told
  pub timed : (watch_in new key).timed ≡ (watch_in old key).timed
  pub value : (watch_in new key).value ≡ (watch_in old key).value

has_answer_in-agrees : (old new : WatchesKept) (number : ℕ) (d : Dependency) → Agrees old new (key_of d) → has_answer_in new number d ≡ has_answer_in old number d
has_answer_in-agrees old new number d a = λ i. counts_for number d (a.told i) || (counts_for number d (a.timed i) && d.limited)

-- what was received for each of these is the same
abbrev pub AgreesOn : WatchesKept → WatchesKept → List Dependency → Type 0
AgreesOn old new ds = AllByRecursion (λ (d : Dependency). Agrees old new (key_of d)) ds

-- a cluster depends on its service before its secrets
discovered_in-agrees : (old new : WatchesKept) (d : Discovery) (others : List Dependency) → AgreesOn old new (each_once (discovery_dependencies d ++ others)) → discovered_in new d ≡ discovered_in old d
discovered_in-agrees old new (Static rows) others agrees = refl
discovered_in-agrees old new (by_eds service limited fresh) others agrees = ap rows_in agrees.0.value
discovered_in-agrees old new Elsewhere others agrees = refl

pub assignment_in-agrees : (old new : WatchesKept) (content : Content) → AgreesOn old new (dependencies_of content) → assignment_in new content ≡ assignment_in old content
assignment_in-agrees old new (a_cluster cluster) agrees = discovered_in-agrees old new cluster.discovery (referred Sds (cluster_secrets cluster)) agrees
assignment_in-agrees old new (an_assignment rows) agrees = refl
assignment_in-agrees old new (a_listener listener) agrees = refl
assignment_in-agrees old new (routes table) agrees = refl
assignment_in-agrees old new a_secret agrees = refl
assignment_in-agrees old new an_extension agrees = refl

-- readiness looks at the names alone that the row depends on
pub is_ready_in-agrees : (old new : WatchesKept) (results : ResultsKept) (row : GenRow) → AgreesOn old new (dependencies_of row.content) → is_ready_in new results row ≡ is_ready_in old results row
is_ready_in-agrees old new results row agrees =
    let answered = all-each (λ (d : Dependency). Agrees old new (key_of d)) (has_answer_in new row.number) (has_answer_in old row.number) (λ d a. has_answer_in-agrees old new row.number d a) (dependencies_of row.content) agrees in
    let hosts = assignment_in-agrees old new row.content agrees in
    λ i. answered i && (not (is_checked row.content) || are_results_in results row.number (hosts i))

-- where what was received for each name is the same, so it is for these
pub agrees-all : (old new : WatchesKept) → ((q : Key) → Agrees old new q) → (ds : List Dependency) → AgreesOn old new ds
agrees-all old new agrees [] = tt
agrees-all old new agrees (d ∷ ds) = (agrees (key_of d), agrees-all old new agrees ds)

-- where it is the same for every other name, and none of these is on this one
pub agrees-other : (old new : WatchesKept) (key : Key) → ((q : Key) → key_same q key ≡ false → Agrees old new q) → (ds : List Dependency) → is_needed key ds ≡ false → AgreesOn old new ds
agrees-other old new key agrees [] none = tt
agrees-other old new key agrees (d ∷ ds) none = by (is_on key d) refl none (agrees-other old new key agrees ds)
  where
    by : (b : Bool) → is_on key d ≡ b → (b || is_needed key ds) ≡ false → (is_needed key ds ≡ false → AgreesOn old new ds) → Agrees old new (key_of d) × AgreesOn old new ds
    by true e h rest = absurd (true≢false h)
    by false e h rest = (agrees (key_of d) e, rest h)

-- where it is the same for each name that one of all is on
pub agrees-needed : (old new : WatchesKept) (all : List Dependency) → ((q : Key) → is_needed q all ≡ true → Agrees old new q) → AgreesOn old new all
agrees-needed old new all agrees = go all (λ q h. h)
  where
    late : (b : Bool) → (b || true) ≡ true
    late true = refl
    late false = refl

    go : (ds : List Dependency) → ((q : Key) → is_needed q ds ≡ true → is_needed q all ≡ true) → AgreesOn old new ds
    go [] within = tt
    go (d ∷ ds) within = (
      agrees (key_of d) (within (key_of d) (ap (λ b. b || is_needed (key_of d) ds) ((key_decides (key_of d) (key_of d)).1 refl))),
      go ds (λ q h. within q ((λ i. is_on q d || h i) ∙ late (is_on q d))),
    )

-- a row that no longer warms isn't due, and the others are as before
pub is_due_at-with_status : (watches : WatchesKept) (results : ResultsKept) (number : ℕ) (status : RowStatus) → is_warming status ≡ false → (n : ℕ) (rows : List GenRow)
    → is_due_at watches results n (with_status number status rows) ≡ (not (nat_eq number n) && is_due_at watches results n rows)
is_due_at-with_status watches results number status cold n rows =
    ap (is_due_found watches results) (row_in-with_statuses n (status_with number status) rows) ∙ by (row_in n rows) refl
  where
    over : (row : GenRow) (b : Bool) → is_due_in watches results (record row { status = cond b status row.status }) ≡ (not b && is_due_in watches results row)
    over row true = ap (λ w. w && is_ready_in watches results row) cold
    over row false = refl

    none : (b : Bool) → false ≡ (b && false)
    none true = refl
    none false = refl

    by : (o : Option GenRow) → row_in n rows ≡ o
        → is_due_found watches results (option_map (λ (row : GenRow). record row { status = status_with number status row }) o) ≡ (not (nat_eq number n) && is_due_found watches results o)
    by None e = none (not (nat_eq number n))
    by (Some row) e =
        over row (nat_eq number row.number)
        ∙ (λ i. not (nat_eq number (number-row_in n row rows e i)) && is_due_in watches results row)

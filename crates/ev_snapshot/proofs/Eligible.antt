-- In a world that shows what a picture shows, a chosen host is an eligible one of a generation that serves.
use Rattle.std.proofs.Common.{◌≡◌, ℕ, ◌<◌, ◌&&◌, Bool, true, false, List, [], ◌∷◌, length, map, filter, Some, All, Contains, zero, suc, refl, ap, sym, ◌∙◌, subst, arith, slice_get, get_or}
use Rattle.std.specs.List.{AllByRecursion}
use Rattle.std.proofs.lemmas.Bool.{cond_both}
use Rattle.std.proofs.lemmas.List.Elements.{All-contains, All-contains_itself, All-filter, All-from_recursion, filter_passes, recursion_from_All}
use Rattle.ev_types.specs.Hosts.{HostRowParts}
use Rattle.ev_types.specs.Kinds.{kind_same}
use Rattle.ev_types.specs.Statuses.{is_active}
use Rattle.ev_types.specs.declared.contents.Kind.TheVariants.{Cds}
use Rattle.ev_types.specs.declared.rows.GenRow.{GenRow}
use Rattle.ev_types.specs.declared.ways.Way.TheVariants.{Undecided, Elsewhere, NoRoute, Local, Redirect, NoCluster, NoEndpoint, NoSecret, Served}
use Rattle.ev_model.specs.Choice.{Course}
use Rattle.ev_model.specs.World.{World}
use Rattle.ev_model.specs.Sorted.{put_by, sorted_by}
use Rattle.ev_model.specs.Versions.{is_before}
use Rattle.ev_model.specs.Picture.{active_rows, served_cluster, shown_of}
use Rattle.ev_model.specs.Warming.{assignment_of, is_eligible}
use Rattle.ev_model.specs.declared.pictures.Shown.{Shown}
use Rattle.ev_model.specs.declared.pictures.ServedCluster.{ServedCluster}
use Rattle.ev_model.specs.declared.pictures.Choice.{Choice}
use Rattle.ev_model.specs.declared.pictures.Choice.TheVariants.{NoListener, NoChain, On}
use Rattle.ev_snapshot.specs.Chosen.{GoesEligible, GoesLowest, IsLowestAt, TakesEligible, TakesLowest}

-- what holds of an element and of a list holds of the list with the element in its place
all_put : {X : Type 0} (P : X → Type 0) (le : X → X → Bool) (x : X) (ys : List X) → P x → AllByRecursion P ys → AllByRecursion P (put_by le x ys)
all_put P le x [] here all = (here, all)
all_put P le x (y ∷ ys) here all =
    cond_both (le x y) (x ∷ y ∷ ys) (y ∷ put_by le x ys) (AllByRecursion P) (λ before. (here, all)) (λ behind. (all.0, all_put P le x ys here all.1))

all_sorted : {X : Type 0} (P : X → Type 0) (le : X → X → Bool) (xs : List X) → AllByRecursion P xs → AllByRecursion P (sorted_by le xs)
all_sorted P le [] all = all
all_sorted P le (x ∷ xs) all = all_put P le x (sorted_by le xs) all.0 (all_sorted P le xs all.1)

-- an element of a mapped list comes from one of the list
comes_from : {X Y : Type 0} (f : X → Y) (xs : List X) (y : Y) → Contains (map f xs) y → (x : X) × Contains xs x × (f x ≡ y)
comes_from f [] y among = absurd (omega (arith, among.1))
comes_from {X} {Y} f (x ∷ xs) y among = by among.0 among.1 among.2 (comes_from f xs y)
  where
    by : (k : ℕ) → k < length (f x ∷ map f xs) → get_or (f x ∷ map f xs) k y ≡ y → (Contains (map f xs) y → (z : X) × Contains xs z × (f z ≡ y))
        → (z : X) × Contains (x ∷ xs) z × (f z ≡ y)
    by zero less is rest = (x, (0, omega arith, refl), is)
    by (suc k) less is rest =
        let found : (z : X) × Contains xs z × (f z ≡ y) = rest (k, omega arith, is) in
        (found.0, (suc found.1.0, omega (arith, found.1.1), found.1.2), found.2)

-- what holds of all elements holds of the one at a place
holds_at : {X : Type 0} (P : X → Type 0) (xs : List X) (i : ℕ) (x : X) → AllByRecursion P xs → slice_get xs i ≡ Some x → P x
holds_at P [] i x all is = absurd (cc)
holds_at P (y ∷ ys) zero x all is = let same : y ≡ x = cc in subst P same all.0
holds_at P (y ∷ ys) (suc i) x all is = holds_at P ys i x all.1 is

-- a row that serves in this world
record IsServing (world : World) (row : GenRow) : Type 0 where
  known : Contains world.rows row
  serves : is_active row.status ≡ true

second : (a b : Bool) → a && b ≡ true → b ≡ true
second true b h = h
second false b h = absurd (cc)

-- the rows that are shown serve
all_serve : (world : World) → All (IsServing world) (active_rows world.rows Cds)
all_serve world =
    let test : GenRow → Bool = λ (row : GenRow). kind_same row.kind Cds && is_active row.status in
    let known : All (Contains world.rows) (filter test world.rows) = All-filter test (Contains world.rows) world.rows (All-contains_itself world.rows) in
    let passes : All (λ (row : GenRow). test row ≡ true) (filter test world.rows) = filter_passes test world.rows in
    let both : All (IsServing world) (filter test world.rows) =
    (λ k d less. record { known = known k d less; serves = second (kind_same (get_or (filter test world.rows) k d).kind Cds) (is_active (get_or (filter test world.rows) k d).status) (passes k d less) }) in
    All-from_recursion (IsServing world) (active_rows world.rows Cds)
    (all_sorted (IsServing world) (λ (row other : GenRow). is_before row.name other.name) (filter test world.rows) (recursion_from_All (IsServing world) (filter test world.rows) both))

-- a host of a cluster that is shown is an eligible one of its generation
shown_is_eligible : (world : World) (number place : ℕ) (cluster : ServedCluster) (host : HostRowParts) (row : GenRow)
    → Contains (active_rows world.rows Cds) row → served_cluster world.arrivals world.results row ≡ cluster → cluster.number ≡ number
    → IsLowestAt cluster.hosts place host → GoesEligible world (Served number place)
shown_is_eligible world number place cluster host row here same numbered lowest =
    let serving : IsServing world row = All-contains (IsServing world) (active_rows world.rows Cds) row (all_serve world) here in
    let Lowest : ServedCluster → Type 0 = λ (c : ServedCluster). IsLowestAt c.hosts place host in
    let Eligible : HostRowParts → Type 0 = λ (h : HostRowParts). is_eligible world row h ≡ true in
    let hosts : List HostRowParts = filter (is_eligible world row) (assignment_of world row) in
    let best : IsLowestAt hosts place host = subst Lowest (sym same) lowest in
    let passes : AllByRecursion Eligible hosts = recursion_from_All Eligible hosts (filter_passes (is_eligible world row) (assignment_of world row)) in (
      row,
      host,
      ap (λ (c : ServedCluster). c.number) same ∙ numbered,
      record {
        known = serving.known;
        serves = serving.serves;
        eligible = holds_at Eligible hosts place host passes best.there;
        lowest = best;
      },
    )

goes_eligible : (world : World) (shown : Shown) (course : Course) → shown ≡ shown_of world → GoesLowest shown course → GoesEligible world course
goes_eligible world shown Undecided is lowest = tt
goes_eligible world shown (Elsewhere cluster) is lowest = tt
goes_eligible world shown NoRoute is lowest = tt
goes_eligible world shown (Local status) is lowest = tt
goes_eligible world shown Redirect is lowest = tt
goes_eligible world shown NoCluster is lowest = tt
goes_eligible world shown NoEndpoint is lowest = tt
goes_eligible world shown (NoSecret cluster) is lowest = tt
goes_eligible world shown (Served number place) is lowest =
    let served : GenRow → ServedCluster = served_cluster world.arrivals world.results in
    let Among : Shown → Type 0 = λ (s : Shown). Contains s.clusters lowest.0 in
    let from : (row : GenRow) × Contains (active_rows world.rows Cds) row × (served row ≡ lowest.0) =
    comes_from served (active_rows world.rows Cds) lowest.0 (subst Among is lowest.2) in
    shown_is_eligible world number place lowest.0 lowest.1 from.0 from.1 from.2 lowest.3 lowest.4

pub takes_eligible : (world : World) (shown : Shown) (choice : Choice) → shown ≡ shown_of world → TakesLowest shown choice → TakesEligible world choice
takes_eligible world shown NoListener is lowest = tt
takes_eligible world shown NoChain is lowest = tt
takes_eligible world shown (On listener chain origin course) is lowest = goes_eligible world shown course is lowest

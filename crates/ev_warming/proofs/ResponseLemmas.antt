-- What a response does to a world that a state represents.
use Rattle.std.proofs.Common.{◌≡◌, ◌∙◌, ◌+◌, ◌<◌, ℕ, Bool, true, false, cond, ◌&&◌, ◌||◌, List, [], ◌∷◌, ◌++◌, length, take, drop, get_or, refl, sym, subst, true≢false}
use Rattle.std.specs.List.{AllByRecursion}
use Rattle.std.specs.Str.{bytes_eq}
use Rattle.std.proofs.lemmas.Bool.{false_from_ne_true}
use Rattle.std.proofs.lemmas.List.{take_more, drop_more}
use Rattle.std.proofs.lemmas.List.Folds.{list_any-append, list_any_at}
use Rattle.ev_types.specs.Items.{ItemParts, ResponseParts}
use Rattle.ev_types.specs.Kinds.{is_by_name, kind_same}
use Rattle.ev_types.specs.Same.{bytes_decide}
use Rattle.ev_types.specs.Texts.{IsName}
use Rattle.ev_types.specs.declared.contents.Kind.{Kind}
use Rattle.ev_types.specs.declared.contents.Kind.TheVariants.{Cds, Lds}
use Rattle.ev_types.specs.declared.events.Verdict.{Verdict}
use Rattle.ev_types.specs.declared.rows.RowStatus.{RowStatus}
use Rattle.ev_types.specs.declared.rows.RowStatus.TheVariants.{Warming, Active, Draining, Dropped}
use Rattle.ev_types.specs.declared.rows.KeptVersion.{KeptVersion}
use Rattle.ev_types.specs.declared.rows.GenRow.{GenRow}
use Rattle.ev_model.specs.World.{World}
use Rattle.ev_model.specs.Verdicts.{is_among, is_removed}
use Rattle.ev_model.specs.Rows.{versions_left, with_statuses, removed_status, rows_left, add_item, add_items, with_removals}
use Rattle.ev_model.specs.Signals.{ended_status, rows_ended}
use Rattle.ev_indexes.specs.declared.state.State.{State}
use Rattle.ev_warming.specs.Changes.{is_unlisted, status_left_by}
use Rattle.ev_indexes.specs.Worlds.{HasRows}
use Rattle.ev_indexes.proofs.RowLemmas.{all_then, statuses_agree}
use Rattle.ev_warming.proofs.PromotionLemmas.{statuses_same, with_statuses-twice}

-- a state doesn't look at versions
pub versions-stand : (s : State) (world : World) (versions : List KeptVersion) → HasRows s world → HasRows s (record world { versions = versions })
versions-stand s world versions stands = record {
  sound = record { table = stands.sound.table; typed = stands.sound.typed; named = stands.sound.named; heard = stands.sound.heard };
  rows = stands.rows;
  made = stands.made;
  told = stands.told;
  timed = stands.timed;
  value = stands.value;
  resulted = stands.resulted;
  healthy = stands.healthy;
}

removed-twice : (status : RowStatus) → removed_status (removed_status status) ≡ removed_status status
removed-twice Warming = refl
removed-twice Active = refl
removed-twice Draining = refl
removed-twice Dropped = refl

-- one name more is removed
left-more : (kind : Kind) (response : ResponseParts) (names : List (List ℕ)) (name : List ℕ) (rows : List GenRow)
    → with_statuses (status_left_by kind response (name ∷ [])) (with_statuses (status_left_by kind response names) rows) ≡ with_statuses (status_left_by kind response (names ++ name ∷ [])) rows
left-more kind response names name rows =
    with_statuses-twice (status_left_by kind response (name ∷ [])) (status_left_by kind response names) rows
    ∙ (λ i. with_statuses (λ (row : GenRow). over row i) rows)
  where
    by : (k a e u : Bool) (st : RowStatus) → cond (k && ((e || false) && u)) (removed_status (cond (k && (a && u)) (removed_status st) st)) (cond (k && (a && u)) (removed_status st) st)
        ≡ cond (k && ((a || (e || false)) && u)) (removed_status st) st
    by false a e u st = refl
    by true true true true st = removed-twice st
    by true true true false st = refl
    by true true false true st = refl
    by true true false false st = refl
    by true false true true st = refl
    by true false true false st = refl
    by true false false true st = refl
    by true false false false st = refl

    over : (row : GenRow) → status_left_by kind response (name ∷ []) (record row { status = status_left_by kind response names row }) ≡ status_left_by kind response (names ++ name ∷ []) row
    over row =
        by (kind_same row.kind kind) (is_among row.name names) (bytes_eq name row.name) (is_unlisted response row.name) row.status
        ∙ sym (λ i. cond (kind_same row.kind kind && (list_any-append (λ n. bytes_eq n row.name) names (name ∷ []) i && is_unlisted response row.name)) (removed_status row.status) row.status)

-- a removed name that no resource has comes to its end
ended-left : (kind : Kind) (response : ResponseParts) (name : List ℕ) (rows : List GenRow) → is_unlisted response name ≡ true
    → with_statuses (ended_status kind name) rows ≡ with_statuses (status_left_by kind response (name ∷ [])) rows
ended-left kind response name rows free = λ i. with_statuses (λ (row : GenRow). over row i) rows
  where
    by : (row : GenRow) (k b : Bool) → bytes_eq row.name name ≡ b → cond (k && b) (removed_status row.status) row.status
        ≡ cond (k && ((bytes_eq name row.name || false) && is_unlisted response row.name)) (removed_status row.status) row.status
    by row false b e = refl
    by row true true e =
        let same : row.name ≡ name = (bytes_decide row.name name).0 e in
        sym (λ i. cond (((bytes_decide name row.name).1 (sym same) i || false) && ((λ j. is_unlisted response (same j)) ∙ free) i) (removed_status row.status) row.status)
    by row true false e =
        let far : bytes_eq name row.name ≡ false = false_from_ne_true (bytes_eq name row.name) (λ d. true≢false (sym ((bytes_decide row.name name).1 (sym ((bytes_decide name row.name).0 d))) ∙ e)) in
        sym (λ i. cond ((far i || false) && is_unlisted response row.name) (removed_status row.status) row.status)

    over : (row : GenRow) → ended_status kind name row ≡ status_left_by kind response (name ∷ []) row
    over row = by row (kind_same row.kind kind) (bytes_eq row.name name) refl

-- one that a resource has stays
listed-left : (kind : Kind) (response : ResponseParts) (name : List ℕ) (rows : List GenRow) → is_unlisted response name ≡ false
    → rows ≡ with_statuses (status_left_by kind response (name ∷ [])) rows
listed-left kind response name rows listed = sym (statuses_same rows) ∙ (λ i. with_statuses (λ (row : GenRow). over row i) rows)
  where
    by : (row : GenRow) (k b : Bool) → bytes_eq name row.name ≡ b → row.status ≡ cond (k && ((b || false) && is_unlisted response row.name)) (removed_status row.status) row.status
    by row false b e = refl
    by row true false e = refl
    by row true true e = λ i. cond (sym ((λ j. is_unlisted response (sym ((bytes_decide name row.name).0 e) j)) ∙ listed) i) (removed_status row.status) row.status

    over : (row : GenRow) → row.status ≡ status_left_by kind response (name ∷ []) row
    over row = by row (kind_same row.kind kind) (bytes_eq name row.name) refl

-- and a text that is no name is no row's
unnamed-left : (kind : Kind) (response : ResponseParts) (name : List ℕ) (rows : List GenRow) → (IsName name → ⊥) → AllByRecursion (λ (r : GenRow). IsName r.name) rows
    → rows ≡ with_statuses (status_left_by kind response (name ∷ [])) rows
unnamed-left kind response name rows bad named =
    sym (statuses_same rows)
    ∙ statuses_agree (λ (r : GenRow). r.status) (status_left_by kind response (name ∷ [])) rows
    (all_then (λ (r : GenRow). IsName r.name) (λ (r : GenRow). r.status ≡ status_left_by kind response (name ∷ []) r) rows (λ r h. by r h (kind_same r.kind kind) (bytes_eq name r.name) refl) named)
  where
    by : (row : GenRow) → IsName row.name → (k b : Bool) → bytes_eq name row.name ≡ b → row.status ≡ cond (k && ((b || false) && is_unlisted response row.name)) (removed_status row.status) row.status
    by row h false b e = refl
    by row h true false e = refl
    by row h true true e = absurd (bad (subst IsName (sym ((bytes_decide name row.name).0 e)) h))

-- the same rows in a world that a state represents
pub rows-stand : (s : State) (world : World) (rows : List GenRow) → world.rows ≡ rows → HasRows s world → HasRows s (record world { rows = rows })
rows-stand s world rows e stands = subst (λ (rs : List GenRow). HasRows s (record world { rows = rs })) e stands

-- one removed name
pub ended-stands : (s : State) (world : World) (kind : Kind) (response : ResponseParts) (name : List ℕ) → is_unlisted response name ≡ true
    → HasRows s (record world { rows = rows_ended kind name world.rows }) → HasRows s (record world { rows = with_statuses (status_left_by kind response (name ∷ [])) world.rows })
ended-stands s world kind response name free stands =
    subst (λ (rs : List GenRow). HasRows s (record world { rows = rs })) (ended-left kind response name world.rows free) stands

pub listed-stands : (s : State) (world : World) (kind : Kind) (response : ResponseParts) (name : List ℕ) → is_unlisted response name ≡ false
    → HasRows s world → HasRows s (record world { rows = with_statuses (status_left_by kind response (name ∷ [])) world.rows })
listed-stands s world kind response name listed stands = rows-stand s world (with_statuses (status_left_by kind response (name ∷ [])) world.rows) (listed-left kind response name world.rows listed) stands

pub unnamed-stands : (s : State) (world : World) (kind : Kind) (response : ResponseParts) (name : List ℕ) → (IsName name → ⊥)
    → HasRows s world → HasRows s (record world { rows = with_statuses (status_left_by kind response (name ∷ [])) world.rows })
unnamed-stands s world kind response name bad stands =
    rows-stand s world (with_statuses (status_left_by kind response (name ∷ [])) world.rows) (unnamed-left kind response name world.rows bad stands.sound.named) stands

-- one removed name after others
pub more-stands : (s t : State) (world : World) (kind : Kind) (response : ResponseParts) (names : List (List ℕ)) (i : ℕ) (name : List ℕ) → i < length names → name ≡ get_or names i name
    → HasRows s (record world { rows = with_statuses (status_left_by kind response (take i names)) world.rows })
    → ((w : World) → HasRows s w → HasRows t (record w { rows = with_statuses (status_left_by kind response (name ∷ [])) w.rows }))
    → HasRows t (record world { rows = with_statuses (status_left_by kind response (take (i + 1) names)) world.rows })
more-stands s t world kind response names i name within is before step =
    subst (λ (rs : List GenRow). HasRows t (record world { rows = rs }))
    (left-more kind response (take i names) name world.rows
    ∙ (λ j. with_statuses (status_left_by kind response (take i names ++ is j ∷ [])) world.rows)
    ∙ (λ j. with_statuses (status_left_by kind response (sym (take_more names i name within) j)) world.rows))
    (step (record world { rows = with_statuses (status_left_by kind response (take i names)) world.rows }) before)

-- no name removed
nothing-left : (kind : Kind) (response : ResponseParts) (rows : List GenRow) → rows ≡ with_statuses (status_left_by kind response []) rows
nothing-left kind response rows = sym (statuses_same rows) ∙ (λ i. with_statuses (λ (row : GenRow). by row (kind_same row.kind kind) i) rows)
  where
    by : (row : GenRow) (k : Bool) → row.status ≡ cond (k && (false && is_unlisted response row.name)) (removed_status row.status) row.status
    by row true = refl
    by row false = refl

pub nothing-stands : (s : State) (world : World) (kind : Kind) (response : ResponseParts) → HasRows s world → HasRows s (record world { rows = with_statuses (status_left_by kind response []) world.rows })
nothing-stands s world kind response stands = rows-stand s world (with_statuses (status_left_by kind response []) world.rows) (nothing-left kind response world.rows) stands

-- one resource more has come in
pub item-more : (kind : Kind) (verdicts : List Verdict) (items : List ItemParts) (place : ℕ) (verdict : Verdict) (item : ItemParts) (world : World)
    → place < length verdicts → place < length items → item ≡ get_or items place item
    → add_items kind (drop (place + 1) verdicts) (drop (place + 1) items) (add_item kind (get_or verdicts place verdict) item world) ≡ add_items kind (drop place verdicts) (drop place items) world
item-more kind verdicts items place verdict item world within here i =
    (λ j. add_items kind (drop (place + 1) verdicts) (drop (place + 1) items) (add_item kind (get_or verdicts place verdict) (i j) world))
    ∙ sym (λ j. add_items kind (drop_more verdicts place verdict within j) (drop_more items place item here j) world)

-- removals, where versions are left aside
removals-are : (kind : Kind) (response : ResponseParts) (world : World) → is_by_name kind ≡ false
    → record world { rows = rows_left kind response world.rows; versions = versions_left kind response world.versions } ≡ with_removals kind response world
removals-are Cds response world h = refl
removals-are Lds response world h = refl
removals-are kind response world h = absurd (true≢false h)

pub removals-stand : (s : State) (world : World) (kind : Kind) (response : ResponseParts) → is_by_name kind ≡ false → HasRows s (record world { rows = rows_left kind response world.rows })
    → HasRows s (with_removals kind response world)
removals-stand s world kind response rows stands =
    subst (HasRows s) (removals-are kind response world rows)
    (versions-stand s (record world { rows = rows_left kind response world.rows }) (versions_left kind response world.versions) stands)

-- a listed name is removed where no resource has it
pub is_unlisted-listed : (response : ResponseParts) (name : List ℕ) (removed : Bool) → removed ≡ is_removed response name → is_among name response.removed ≡ true → is_unlisted response name ≡ removed
is_unlisted-listed response name removed is listed = (λ i. sym listed i && is_unlisted response name) ∙ sym is

-- each of the removed names is listed
pub listed-at : (names : List (List ℕ)) (place : ℕ) (name : List ℕ) → place < length names → name ≡ get_or names place name → is_among name names ≡ true
listed-at names place name within is = list_any_at (λ n. bytes_eq n name) names place name within ((λ j. bytes_eq (sym is j) name) ∙ (bytes_decide name name).1 refl)

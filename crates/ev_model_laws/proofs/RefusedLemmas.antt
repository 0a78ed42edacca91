-- A refused resource takes nothing away: what a response does to other names leaves the rows,
-- the version and the value of its name.
use Rattle.std.proofs.Common.{◌≡◌, ℕ, ◌+◌, ◌⊎◌, inl, inr, Bool, true, false, not, ◌&&◌, ◌||◌, cond, List, [], ◌∷◌, ◌++◌, map, filter, filter_map, Option, Some, None, refl, sym, ap, ◌∙◌, subst, append-nil, ap₂, arith, ◌<◌}
use Rattle.std.specs.Prelude.{slice_get, length}
use Rattle.std.specs.Cmp.{first_so, second_so}
use Rattle.std.specs.List.{AllByRecursion as ByRecursion, Contains, fold, zip, last_or}
use Rattle.std.specs.Str.{bytes_eq}
use Rattle.std.proofs.lemmas.Bool.{false≢true, both_ways, cond_both, cases_Bool, and_from, and_left, and_right, or_left, or_right, not_from_false, false_from_ne_true, cond-true, cond-false}
use Rattle.std.proofs.lemmas.List.{map-append}
use Rattle.std.proofs.lemmas.List.Elements.{filter-append, filter_map-append}
use Rattle.ev_types.specs.Items.{ItemParts, ResponseParts}
use Rattle.ev_types.specs.Kinds.{kind_same, kind_decides, is_by_name}
use Rattle.ev_types.specs.Same.{bytes_decide}
use Rattle.ev_types.specs.Statuses.{is_warming}
use Rattle.ev_types.specs.declared.contents.Kind.{Kind}
use Rattle.ev_types.specs.declared.contents.Kind.TheVariants.{Cds, Eds, Lds, Rds, Sds, Ecds}
use Rattle.ev_types.specs.declared.contents.Content.{Content}
use Rattle.ev_types.specs.declared.events.Verdict.{Verdict}
use Rattle.ev_types.specs.declared.events.Verdict.TheVariants.{New, InPlace, Back, Same, Kept, Unasked, Renewed, Refused}
use Rattle.ev_types.specs.declared.rows.Arrival.{Arrival}
use Rattle.ev_types.specs.declared.rows.Arrival.TheVariants.{Value, Absent, Bad as bad}
use Rattle.ev_types.specs.declared.rows.GenRow.{GenRow}
use Rattle.ev_types.specs.declared.rows.RowStatus.{RowStatus}
use Rattle.ev_types.specs.declared.rows.RowStatus.TheVariants.{Dropped}
use Rattle.ev_types.specs.declared.rows.KeptVersion.{KeptVersion}
use Rattle.ev_model.specs.World.{World, Arrived, HealthResult}
use Rattle.ev_model.specs.Live.{lives_of}
use Rattle.ev_model.specs.Versions.{is_version_of, with_version, bounded_as, renewed}
use Rattle.ev_model.specs.Watching.{is_watched}
use Rattle.ev_model.specs.Warming.{came_for, content_in, value_by, value_of, is_ready_by}
use Rattle.ev_model.specs.Verdicts.{is_removed, lives_left, verdicts_for, verdicts_by, verdicts_of}
use Rattle.ev_model.specs.Rows.{is_row_of, removed_status, with_statuses, status_left, rows_left, is_version_left, versions_left, arrived, without_rows, absent_names, with_absences, with_removals, replaced_status, new_row, rows_with_new, version_in, keep_version, add_row, keep_value, told_of_refusal, refuse, renew, add_item, add_items, made_names, with_first, rows_replaced, add_in_place, go_back, serving_row, without_versions}
use Rattle.ev_model.specs.Tidy.{is_due, has_successor, promoted_status, promoted, is_version_due, tidy}
use Rattle.ev_model.specs.Laws.{rows_named, versions_named, KeepsRows, KeepsValue, Keeps, Told, world_told, Stays}
use Rattle.ev_model_laws.specs.Acknowledging.{is_refused}
use Rattle.ev_model_laws.specs.Kept.{NothingIsDue, HasParts}
use Rattle.ev_model_laws.proofs.TidyLists.{any_none, filter_within}
use Rattle.ev_model_laws.proofs.TidyLemmas.{came_same, status_kept}
use Rattle.ev_model_laws.proofs.PromotionLemmas.{each_left}
use Rattle.ev_model_laws.proofs.VerdictLemmas.{fits, IsRefusedOf, stands_unremoved, judged_by, verdict_fits, name_refused}
use Rattle.ev_model.specs.Step.{step, responded, respond_by, respond}
use Rattle.ev_types.specs.declared.contents.Request.{Request}
use Rattle.ev_types.specs.declared.rows.Live.{Live}
use Rattle.ev_types.specs.declared.events.Answer.TheVariants.{Ignored, Replied}
use Rattle.ev_types.specs.declared.events.Answer.{Answer}
use Rattle.ev_types.specs.declared.events.Event.{Event}
use Rattle.ev_types.specs.declared.events.Entry.{Entry}
use Rattle.ev_model_laws.proofs.PlaceLemmas.{Runs, IsAnswered, entry_answered, world_next}
use Rattle.ev_model_laws.proofs.RunParts.{parts_kept}
use Rattle.std.proofs.lemmas.Option.{slice_get_within}
use Rattle.ev_model_laws.proofs.VersionLemmas.{mark_same, placed}
use Rattle.ev_model_laws.proofs.FilterLemmas.{filter_changed, each_passing}
use Rattle.ev_types.specs.declared.origins.KeptChain.{KeptChain}
use Rattle.ev_model.specs.Origins.{kept_from}
use Rattle.ev_model_laws.proofs.KeepLemmas.{with_content-holds}

-- what is of one name isn't of another
other_name : (kind : Kind) (name other row : List ℕ) (of : Kind) → bytes_eq other name ≡ false → (kind_same of kind && bytes_eq row name) ≡ true
    → bytes_eq row other ≡ false
other_name kind name other row of apart is =
    false_from_ne_true (bytes_eq row other)
    (λ also.
    both_ways (bytes_eq other name) apart
    ((bytes_decide other name).1 (sym ((bytes_decide row other).0 also) ∙ (bytes_decide row name).0 (second_so (kind_same of kind) (bytes_eq row name) is))))

behind_other : (kind : Kind) (name : List ℕ) (new kept : KeptVersion) (others : List KeptVersion) (is : Bool) → is_version_of kind name kept ≡ is
    → filter (is_version_of kind name) (with_version new others) ≡ filter (is_version_of kind name) others
    → filter (is_version_of kind name) (kept ∷ with_version new others) ≡ filter (is_version_of kind name) (kept ∷ others)
behind_other kind name new kept others true is more = simp is (ap (λ (vs : List KeptVersion). kept ∷ vs) more)
behind_other kind name new kept others false is more = simp is more

-- a version of another name leaves those of the name
with_other : (kind : Kind) (name : List ℕ) (new : KeptVersion) (versions : List KeptVersion) → bytes_eq new.name name ≡ false
    → filter (is_version_of kind name) (with_version new versions) ≡ filter (is_version_of kind name) versions
with_other kind name new [] apart = simp (and_right (kind_same new.kind kind) (bytes_eq new.name name) apart) refl
with_other kind name new (kept ∷ others) apart =
    let isnt : is_version_of kind name new ≡ false = and_right (kind_same new.kind kind) (bytes_eq new.name name) apart in
    placed (λ (versions : List KeptVersion). filter (is_version_of kind name) versions ≡ filter (is_version_of kind name) (kept ∷ others)) new kept others
    (λ same.
    let named : kept.name ≡ new.name = (bytes_decide kept.name new.name).0 (second_so (kind_same kept.kind new.kind) (bytes_eq kept.name new.name) same) in
    let also : is_version_of kind name kept ≡ false =
    and_right (kind_same kept.kind kind) (bytes_eq kept.name name) (ap (λ n. bytes_eq n name) named ∙ apart) in
    simp (isnt, also) refl)
    (λ before. simp isnt refl)
    (λ other behind. behind_other kind name new kept others (is_version_of kind name kept) refl (with_other kind name new others apart))

unmarked : (marks : Bool) (kept : KeptVersion) → marks ≡ false → cond marks (record kept { bounded = true }) kept ≡ kept
unmarked true kept isnt = absurd (false≢true (sym isnt))
unmarked false kept isnt = refl

-- a life that is bounded anew of another name leaves those of the name
renewed_other : (kind : Kind) (name other : List ℕ) (versions : List KeptVersion) → bytes_eq other name ≡ false
    → filter (is_version_of kind name) (renewed kind other versions) ≡ filter (is_version_of kind name) versions
renewed_other kind name other versions apart =
    filter_changed (is_version_of kind name) (bounded_as kind other) versions
    (λ (kept : KeptVersion). mark_same (is_version_of kind other kept) kind name kept)
    (λ (kept : KeptVersion) there is.
    unmarked (is_version_of kind other kept) kept
    (and_right (kind_same kept.kind kind) (bytes_eq kept.name other) (other_name kind name other kept.name kept.kind apart is)))

-- it isn't of the name, or no resource came with it
abbrev IsSilent : Kind → List ℕ → Arrived → Type 0
IsSilent kind name a = (kind_same a.kind kind && bytes_eq a.name name) ≡ true → content_in a.arrival ≡ None

silent_by : (kind : Kind) (name : List ℕ) (a : Arrived) (more : List Arrived) (is : Bool) → (kind_same a.kind kind && bytes_eq a.name name) ≡ is
    → IsSilent kind name a → filter_map content_in (came_for more kind name) ≡ [] → filter_map content_in (came_for (a ∷ more) kind name) ≡ []
silent_by kind name a more true is silent none = simp (is, silent is) none
silent_by kind name a more false is silent none = simp is none

no_contents : (kind : Kind) (name : List ℕ) (more : List Arrived) → ByRecursion (IsSilent kind name) more
    → filter_map content_in (came_for more kind name) ≡ []
no_contents kind name [] silent = refl
no_contents kind name (a ∷ more) silent =
    silent_by kind name a more (kind_same a.kind kind && bytes_eq a.name name) refl silent.0 (no_contents kind name more silent.1)

-- what comes without a resource, or for another name, leaves the value
value_silent : (arrivals more : List Arrived) (kind : Kind) (name : List ℕ) → ByRecursion (IsSilent kind name) more
    → value_by (arrivals ++ more) kind name ≡ value_by arrivals kind name
value_silent arrivals more kind name silent =
    let test : Arrived → Bool = λ (a : Arrived). kind_same a.kind kind && bytes_eq a.name name in
    let came : came_for (arrivals ++ more) kind name ≡ came_for arrivals kind name ++ came_for more kind name =
    ap (map (λ (a : Arrived). a.arrival)) (filter-append test arrivals more) ∙ map-append (λ (a : Arrived). a.arrival) (filter test arrivals) (filter test more) in
    ap (λ (contents : List Content). last_or None contents)
    (ap (filter_map content_in) came
    ∙ filter_map-append content_in (came_for arrivals kind name) (came_for more kind name)
    ∙ ap (λ (contents : List Content). filter_map content_in (came_for arrivals kind name) ++ contents) (no_contents kind name more silent)
    ∙ append-nil (filter_map content_in (came_for arrivals kind name)))

absences_silent : (made : ℕ) (kind : Kind) (name : List ℕ) (names : List (List ℕ))
    → ByRecursion (IsSilent kind name) (map (arrived made kind Absent) names)
absences_silent made kind name [] = tt
absences_silent made kind name (one ∷ names) = (λ of. refl, absences_silent made kind name names)

-- rows, version and value of the name are as they were, and what came where the kind is one of generations
record IsLeft (kind : Kind) (name : List ℕ) (before after : World) : Type 0 where
  rows : rows_named after kind name ≡ rows_named before kind name
  version : versions_named after kind name ≡ versions_named before kind name
  value : value_of after kind name ≡ value_of before kind name
  arrivals : is_by_name kind ≡ false → after.arrivals ≡ before.arrivals
  results : after.results ≡ before.results

module _ (kind : Kind) (name : List ℕ) (before : World) where
  version_left : (item : ItemParts) (w : World) → bytes_eq item.name name ≡ false → IsLeft kind name before w → IsLeft kind name before (keep_version kind item w)
  version_left item w apart left = record {
    rows = left.rows;
    version = with_other kind name (version_in kind item) w.versions apart ∙ left.version;
    value = left.value;
    arrivals = left.arrivals;
    results = left.results;
  }

  replaced_other : (other : List ℕ) (rows : List GenRow) → bytes_eq other name ≡ false
      → filter (is_row_of kind name) (with_statuses (replaced_status kind other) rows) ≡ filter (is_row_of kind name) rows
  replaced_other other rows apart =
      filter_changed (is_row_of kind name) (λ (row : GenRow). record row { status = replaced_status kind other row }) rows (λ row. refl)
      (λ (row : GenRow) there is.
      let isnt : (is_row_of kind other row && is_warming row.status) ≡ false =
      and_left (is_row_of kind other row) (is_warming row.status)
      (and_right (kind_same row.kind kind) (bytes_eq row.name other) (other_name kind name other row.name row.kind apart is)) in
      λ i. record row { status = cond (isnt i) Dropped row.status })

  replaced_left : (item : ItemParts) (w : World) → bytes_eq item.name name ≡ false → IsLeft kind name before w
      → IsLeft kind name before (record w { rows = rows_replaced kind item.name w.rows })
  replaced_left item w apart left = record {
    rows = replaced_other item.name w.rows apart ∙ left.rows;
    version = left.version;
    value = left.value;
    arrivals = left.arrivals;
    results = left.results;
  }

  row_left : (item : ItemParts) (content : Content) (chains : List KeptChain) (w : World) → bytes_eq item.name name ≡ false → IsLeft kind name before w
      → IsLeft kind name before (add_row kind item content chains w)
  row_left item content chains w apart left =
      let new : GenRow = new_row kind w.made item.name content chains in
      let olds : List GenRow = rows_replaced kind item.name w.rows in
      let isnt : is_row_of kind name new ≡ false = and_right (kind_same kind kind) (bytes_eq item.name name) apart in
      let alone : filter (is_row_of kind name) (new ∷ []) ≡ [] = simp isnt refl in
      version_left item (record w { rows = rows_with_new kind w.made item.name content chains w.rows; made = w.made + 1 }) apart (record {
        rows = filter-append (is_row_of kind name) olds (new ∷ [])
            ∙ ap (λ (more : List GenRow). filter (is_row_of kind name) olds ++ more) alone
            ∙ append-nil (filter (is_row_of kind name) olds)
            ∙ (replaced_left item w apart left).rows;
        version = left.version;
        value = left.value;
        arrivals = left.arrivals;
        results = left.results;
      })

  back_left : (item : ItemParts) (w : World) → bytes_eq item.name name ≡ false → IsLeft kind name before w
      → IsLeft kind name before (go_back kind item w)
  back_left item w apart left =
      version_left item (record w { rows = rows_replaced kind item.name w.rows }) apart (replaced_left item w apart left)

  -- something came without a resource, or for another name
  silent_left : (more : List Arrived) (w : World) → is_by_name kind ≡ true → ByRecursion (IsSilent kind name) more → IsLeft kind name before w
      → IsLeft kind name before (record w { arrivals = w.arrivals ++ more })
  silent_left more w by_name silent left = record {
    rows = left.rows;
    version = left.version;
    value = value_silent w.arrivals more kind name silent ∙ left.value;
    arrivals = λ isnt. absurd (both_ways (is_by_name kind) isnt by_name);
    results = left.results;
  }

  kept_left : (item : ItemParts) (content : Content) (w : World) → is_by_name kind ≡ true → bytes_eq item.name name ≡ false → IsLeft kind name before w
      → IsLeft kind name before (keep_value kind item content w)
  kept_left item content w by_name apart left =
      version_left item (record w { arrivals = w.arrivals ++ arrived w.made kind (Value content) item.name ∷ [] }) apart
      (silent_left (arrived w.made kind (Value content) item.name ∷ []) w by_name
      (λ is. absurd (both_ways (bytes_eq item.name name) apart (second_so (kind_same kind kind) (bytes_eq item.name name) is)), tt) left)

  told_left : (other : List ℕ) (w : World) → is_by_name kind ≡ true → IsLeft kind name before w → IsLeft kind name before (told_of_refusal kind other w)
  told_left other w by_name left =
      cond_both (is_watched (lives_of w) kind other) (record w { arrivals = w.arrivals ++ arrived w.made kind bad other ∷ [] }) w
      (IsLeft kind name before)
      (λ watched. silent_left (arrived w.made kind bad other ∷ []) w by_name (λ is. refl, tt) left)
      (λ unwatched. left)

  renew_left : (other : List ℕ) (w : World) → bytes_eq other name ≡ false → IsLeft kind name before w → IsLeft kind name before (renew kind other w)
  renew_left other w apart left = record {
    rows = left.rows;
    version = renewed_other kind name other w.versions apart ∙ left.version;
    value = left.value;
    arrivals = left.arrivals;
    results = left.results;
  }

refuse_left : (kind : Kind) (name : List ℕ) (before : World) (other : List ℕ) (w : World) → IsLeft kind name before w → IsLeft kind name before (refuse kind other w)
refuse_left Cds name before other w left = left
refuse_left Eds name before other w left = told_left Eds name before other w refl left
refuse_left Lds name before other w left = left
refuse_left Rds name before other w left = told_left Rds name before other w refl left
refuse_left Sds name before other w left = told_left Sds name before other w refl left
refuse_left Ecds name before other w left = told_left Ecds name before other w refl left

apart_by : (named : Bool) → (named ≡ true → false ≡ true) → named ≡ false
apart_by true so = sym (so refl)
apart_by false so = refl

-- so does a resource, which is refused where it is of the name
item_left : (kind : Kind) (name : List ℕ) (before : World) (verdict : Verdict) (item : ItemParts) (w : World) → fits kind verdict ≡ true
    → (bytes_eq item.name name ≡ true → is_refused verdict ≡ true) → IsLeft kind name before w → IsLeft kind name before (add_item kind verdict item w)
item_left kind name before New item w fit so left =
    with_content-holds (IsLeft kind name before) (λ content. add_row kind item content []) item.body w
    (λ content. row_left kind name before item content [] w (apart_by (bytes_eq item.name name) so) left) left
item_left kind name before InPlace item w fit so left =
    with_content-holds (IsLeft kind name before) (add_in_place kind item) item.body w
    (λ content.
    row_left kind name before item content (kept_from (serving_row kind item.name w.rows) content) w (apart_by (bytes_eq item.name name) so) left)
    left
item_left kind name before Back item w fit so left =
    with_content-holds (IsLeft kind name before) (λ content. go_back kind item) item.body w
    (λ content. back_left kind name before item w (apart_by (bytes_eq item.name name) so) left) left
item_left kind name before Same item w fit so left =
    with_content-holds (IsLeft kind name before) (λ content. keep_version kind item) item.body w
    (λ content. version_left kind name before item w (apart_by (bytes_eq item.name name) so) left) left
item_left kind name before Kept item w fit so left =
    with_content-holds (IsLeft kind name before) (keep_value kind item) item.body w
    (λ content. kept_left kind name before item content w fit (apart_by (bytes_eq item.name name) so) left) left
item_left kind name before Unasked item w fit so left = left
item_left kind name before Renewed item w fit so left = renew_left kind name before item.name w (apart_by (bytes_eq item.name name) so) left
item_left kind name before (Refused rule) item w fit so left = refuse_left kind name before item.name w left

items_left : (kind : Kind) (name : List ℕ) (before : World) (judged : List (Verdict × ItemParts)) (w : World)
    → ByRecursion (λ (one : Verdict × ItemParts). fits kind one.0 ≡ true) judged → ByRecursion (IsRefusedOf name) judged
    → IsLeft kind name before w
    → IsLeft kind name before (fold (λ (w : World) (one : Verdict × ItemParts). add_item kind one.0 one.1 w) w judged)
items_left kind name before [] w fit refused left = left
items_left kind name before (one ∷ judged) w fit refused left =
    items_left kind name before judged (add_item kind one.0 one.1 w) fit.1 refused.1 (item_left kind name before one.0 one.1 w fit.0 refused.0 left)

first_left : (kind : Kind) (name : List ℕ) (before : World) (names : List (List ℕ)) (w : World) → IsLeft kind name before w
    → IsLeft kind name before (with_first kind names w)
first_left Cds name before names w left = record { rows = left.rows; version = left.version; value = left.value; arrivals = left.arrivals; results = left.results }
first_left Eds name before names w left = left
first_left Lds name before names w left = record { rows = left.rows; version = left.version; value = left.value; arrivals = left.arrivals; results = left.results }
first_left Rds name before names w left = left
first_left Sds name before names w left = left
first_left Ecds name before names w left = left

-- a resource of the response has the name, so its removals leave it
module _ (name : List ℕ) (response : ResponseParts) (stands : is_removed response name ≡ false) where
  not_removed : (of kind : Kind) (row : List ℕ) → (kind_same of kind && bytes_eq row name) ≡ true → (kind_same of kind && is_removed response row) ≡ false
  not_removed of kind row is =
      and_right (kind_same of kind) (is_removed response row)
      (ap (is_removed response) ((bytes_decide row name).0 (second_so (kind_same of kind) (bytes_eq row name) is)) ∙ stands)

  rows_stay : (kind : Kind) (rows : List GenRow) → filter (is_row_of kind name) (rows_left kind response rows) ≡ filter (is_row_of kind name) rows
  rows_stay kind rows =
      filter_changed (is_row_of kind name) (λ (row : GenRow). record row { status = status_left kind response row }) rows (λ row. refl)
      (λ (row : GenRow) there is. λ i. record row { status = cond (not_removed row.kind kind row.name is i) (removed_status row.status) row.status })

  versions_stay : (kind : Kind) (versions : List KeptVersion)
      → filter (is_version_of kind name) (versions_left kind response versions) ≡ filter (is_version_of kind name) versions
  versions_stay kind versions =
      filter_within (is_version_of kind name) (is_version_left kind response)
      (λ (kept : KeptVersion) is. not_from_false (kind_same kept.kind kind && is_removed response kept.name) (not_removed kept.kind kind kept.name is)) versions

  rows_removed : (kind : Kind) (world : World) → IsLeft kind name world (without_rows kind response world)
  rows_removed kind world = record {
    rows = rows_stay kind world.rows;
    version = versions_stay kind world.versions;
    value = refl;
    arrivals = λ isnt. refl;
    results = refl;
  }

  absences_left : (kind : Kind) (world : World) → is_by_name kind ≡ true → IsLeft kind name world (with_absences kind response world)
  absences_left kind world by_name = record {
    rows = refl;
    version = versions_stay kind world.versions;
    value = value_silent world.arrivals (map (arrived world.made kind Absent) (absent_names kind response world)) kind name
        (absences_silent world.made kind name (absent_names kind response world));
    arrivals = λ isnt. absurd (both_ways (is_by_name kind) isnt by_name);
    results = refl;
  }

  version_gone : (kind : Kind) (world : World) → IsLeft kind name world (without_versions kind response world)
  version_gone kind world = record {
    rows = refl;
    version = versions_stay kind world.versions;
    value = refl;
    arrivals = λ isnt. refl;
    results = refl;
  }

  removals_left : (kind : Kind) (world : World) → IsLeft kind name world (with_removals kind response world)
  removals_left Cds world = rows_removed Cds world
  removals_left Eds world = absences_left Eds world refl
  removals_left Lds world = rows_removed Lds world
  removals_left Rds world = absences_left Rds world refl
  removals_left Sds world = version_gone Sds world
  removals_left Ecds world = absences_left Ecds world refl

-- where none of the rows of a name is due, tidying leaves them
module _ (kind : Kind) (name : List ℕ) (w : World)
    (none : (row : GenRow) → Contains w.rows row → is_row_of kind name row ≡ true → is_due w.arrivals w.results row ≡ false) where
  not_succeeded : (row other : GenRow) → is_row_of kind name row ≡ true → Contains w.rows other
      → (is_row_of row.kind row.name other && is_due w.arrivals w.results other) ≡ false
  not_succeeded row other is among =
      elim (cases_Bool (is_row_of row.kind row.name other)) [
        | inl of ↦ and_right (is_row_of row.kind row.name other) (is_due w.arrivals w.results other)
            (none other among
            (and_from (kind_same other.kind kind) (bytes_eq other.name name)
            ((kind_decides other.kind kind).1
            ((kind_decides other.kind row.kind).0 (first_so (kind_same other.kind row.kind) (bytes_eq other.name row.name) of)
            ∙ (kind_decides row.kind kind).0 (first_so (kind_same row.kind kind) (bytes_eq row.name name) is)))
            ((bytes_decide other.name name).1
            ((bytes_decide other.name row.name).0 (second_so (kind_same other.kind row.kind) (bytes_eq other.name row.name) of)
            ∙ (bytes_decide row.name name).0 (second_so (kind_same row.kind kind) (bytes_eq row.name name) is)))))
        | inr apart ↦ and_left (is_row_of row.kind row.name other) (is_due w.arrivals w.results other) apart
      ]

  promoted_rows_stay : rows_named (promoted w) kind name ≡ rows_named w kind name
  promoted_rows_stay =
      filter_changed (is_row_of kind name) (λ (row : GenRow). record row { status = promoted_status w.arrivals w.results w.rows row }) w.rows (λ row. refl)
      (λ (row : GenRow) there is.
      ap (λ (status : RowStatus). record row { status = status })
      (status_kept (has_successor w.arrivals w.results w.rows row) (is_ready_by w.arrivals w.results row) row.status
      (any_none (λ (other : GenRow). is_row_of row.kind row.name other && is_due w.arrivals w.results other) w.rows
      (λ (other : GenRow) among. not_succeeded row other is among))
      (none row there is)))

-- a version of a name that is watched stays, and so does that of a cluster or listener
tidied_version : (kind : Kind) (name : List ℕ) (w : World) → (not (is_by_name kind) || is_watched (lives_of (promoted w)) kind name) ≡ true
    → versions_named (tidy w) kind name ≡ versions_named w kind name
tidied_version kind name w due =
    filter_within (is_version_of kind name) (is_version_due (lives_of (promoted w)))
    (λ (kept : KeptVersion) is.
    ap₂ (λ (k : Kind) n. not (is_by_name k) || is_watched (lives_of (promoted w)) k n)
    ((kind_decides kept.kind kind).0 (first_so (kind_same kept.kind kind) (bytes_eq kept.name name) is))
    ((bytes_decide kept.name name).0 (second_so (kind_same kept.kind kind) (bytes_eq kept.name name) is))
    ∙ due)
    w.versions

module _ (kind : Kind) (response : ResponseParts) (verdicts : List Verdict) (name : List ℕ) (world : World)
    (stands : is_removed response name ≡ false)
    (fit : ByRecursion (λ (one : Verdict × ItemParts). fits kind one.0 ≡ true) (zip verdicts response.items))
    (refused : ByRecursion (IsRefusedOf name) (zip verdicts response.items)) where
  -- the world before it is tidied
  abbrev answered_world : World
  answered_world = with_first kind (made_names verdicts response.items) (add_items kind verdicts response.items (with_removals kind response world))

  answered_left : IsLeft kind name world answered_world
  answered_left =
      first_left kind name world (made_names verdicts response.items) (add_items kind verdicts response.items (with_removals kind response world))
      (items_left kind name world (zip verdicts response.items) (with_removals kind response world) fit refused (removals_left name response stands kind world))

  -- a refused cluster or listener leaves the rows and the version of its name
  pub rows_left_by : is_by_name kind ≡ false → NothingIsDue world → KeepsRows world (responded kind response verdicts world) kind name
  rows_left_by isnt tidy_before =
      let w : World = answered_world in
      let left : IsLeft kind name world w = answered_left in
      record {
        rows = promoted_rows_stay kind name w
            (each_passing (is_row_of kind name) (λ (row : GenRow). is_due w.arrivals w.results row ≡ false) w.rows
            (λ (row : GenRow) there.
            ap₂ (λ (arrivals : List Arrived) (results : List HealthResult). is_due arrivals results row) (left.arrivals isnt) left.results
            ∙ each_left (λ (r : GenRow). is_due world.arrivals world.results r ≡ false) (is_row_of kind name) world.rows tidy_before row
            (subst (λ (rows : List GenRow). Contains rows row) left.rows there)))
            ∙ left.rows;
        version = tidied_version kind name w (or_left (not (is_by_name kind)) _ (not_from_false (is_by_name kind) isnt)) ∙ left.version;
      }

  -- refused endpoints or routes leave the value and the version of their name, where it is watched then
  pub value_left_by : is_watched (lives_of (responded kind response verdicts world)) kind name ≡ true
      → KeepsValue world (responded kind response verdicts world) kind name
  value_left_by watched =
      let w : World = answered_world in
      let left : IsLeft kind name world w = answered_left in
      record {
        value = ap (λ (came : List Arrival). last_or None (filter_map content_in came))
            (came_same (lives_of (promoted w)) w.arrivals kind name watched) ∙ left.value;
        version = tidied_version kind name w (or_right (not (is_by_name kind)) (is_watched (lives_of (promoted w)) kind name) watched) ∙ left.version;
      }

  value_or_not : (watched : Bool) → is_watched (lives_of (responded kind response verdicts world)) kind name ≡ watched
      → KeepsValue world (responded kind response verdicts world) kind name ⊎ (is_watched (lives_of (responded kind response verdicts world)) kind name ≡ false)
  value_or_not true watched = inl (value_left_by watched)
  value_or_not false unwatched = inr unwatched

keeps_by : (kind : Kind) (response : ResponseParts) (verdicts : List Verdict) (name : List ℕ) (world : World) → NothingIsDue world
    → is_removed response name ≡ false → ByRecursion (λ (one : Verdict × ItemParts). fits kind one.0 ≡ true) (zip verdicts response.items)
    → ByRecursion (IsRefusedOf name) (zip verdicts response.items) → Keeps world (responded kind response verdicts world) kind name
keeps_by Cds response verdicts name world none stands fit refused = rows_left_by Cds response verdicts name world stands fit refused refl none
keeps_by Eds response verdicts name world none stands fit refused = value_or_not Eds response verdicts name world stands fit refused _ refl
keeps_by Lds response verdicts name world none stands fit refused = rows_left_by Lds response verdicts name world stands fit refused refl none
keeps_by Rds response verdicts name world none stands fit refused = value_or_not Rds response verdicts name world stands fit refused _ refl
keeps_by Sds response verdicts name world none stands fit refused = value_or_not Sds response verdicts name world stands fit refused _ refl
keeps_by Ecds response verdicts name world none stands fit refused = value_or_not Ecds response verdicts name world stands fit refused _ refl

-- a response of a kind that refuses a resource keeps what its name has
pub refusal_keeps : (kind : Kind) (response : ResponseParts) (world : World) (place rule : ℕ) (item : ItemParts) → NothingIsDue world
    → slice_get (verdicts_for kind (lives_of world) world.versions response) place ≡ Some (Refused rule)
    → slice_get response.items place ≡ Some item
    → Keeps world (responded kind response (verdicts_for kind (lives_of world) world.versions response) world) kind item.name
refusal_keeps kind response world place rule item none judged there =
    let lives : List Live = lives_left kind response (lives_of world) in
    keeps_by kind response (verdicts_for kind (lives_of world) world.versions response) item.name world none
    (stands_unremoved response place item there)
    (judged_by (λ (one : Verdict × ItemParts). fits kind one.0 ≡ true) kind response world.versions
    (λ (lives : List Live) (item : ItemParts). verdict_fits kind response lives world.versions item) lives response.items)
    (name_refused kind response world.versions lives place rule item judged there)

replied_by : (kind : Option Kind) (response : ResponseParts) (world : World) (requests : List Request) (verdicts : List Verdict)
    → (respond_by kind response world).1 ≡ Replied requests verdicts → verdicts ≡ verdicts_of (lives_of world) world.versions response
replied_by None response world requests verdicts h = absurd (cc)
replied_by (Some kind) response world requests verdicts h = cc

-- a response that was replied to came by an open stream, with the verdicts on it
pub was_replied : (stream : Bool) (response : ResponseParts) (world : World) (requests : List Request) (verdicts : List Verdict) → world.stream ≡ stream
    → (respond response world).1 ≡ Replied requests verdicts
    → (world.stream ≡ true) × (verdicts ≡ verdicts_of (lives_of world) world.versions response)
was_replied true response world requests verdicts opened h =
    (opened, replied_by response.kind response world requests verdicts (ap (λ (d : World × Answer). d.1) (sym (cond-true world.stream (respond_by response.kind response world) (world, Ignored) opened)) ∙ h))
was_replied false response world requests verdicts shut h =
    absurd (let never : Ignored ≡ Replied requests verdicts =
    ap (λ (d : World × Answer). d.1) (sym (cond-false world.stream (respond_by response.kind response world) (world, Ignored) shut)) ∙ h in cc)

-- a refused update takes nothing away
pub runs_stay : (told : Told) → Runs told → Stays told
runs_stay told run k kind response verdicts place item replied refused =
    let world : World = world_told told k in
    let entry : Entry = replied.entry in
    let within : k < length told.journal = slice_get_within told.journal k entry replied.there in
    let parts : HasParts told k = parts_kept told run k (omega arith) in
    let answered : IsAnswered told k entry = entry_answered told k entry run replied.there in
    let answer : (respond response world).1 ≡ Replied replied.requests verdicts =
    sym (ap (λ (event : Event). (step told.format world entry.actor event).1) replied.event) ∙ sym answered.answer ∙ replied.answer in
    let was : (world.stream ≡ true) × (verdicts ≡ verdicts_of (lives_of world) world.versions response) =
    was_replied world.stream response world replied.requests verdicts refl answer in
    let judged : verdicts_of (lives_of world) world.versions response ≡ verdicts_for kind (lives_of world) world.versions response =
    ap (λ (typed : Option Kind). verdicts_by typed (lives_of world) world.versions response) replied.typed in
    let next : world_told told (k + 1) ≡ responded kind response (verdicts_for kind (lives_of world) world.versions response) world =
    world_next told k entry replied.there
    ∙ ap (λ (event : Event). (step told.format world entry.actor event).0) replied.event
    ∙ ap (λ (d : World × Answer). d.0) (cond-true world.stream (respond_by response.kind response world) (world, Ignored) was.0)
    ∙ ap (λ (typed : Option Kind). (respond_by typed response world).0) replied.typed
    ∙ ap (λ (vs : List Verdict). responded kind response vs world) judged in
    subst (λ (w : World). Keeps world w kind item.name) (sym next)
    (refusal_keeps kind response world place refused.rule item parts.due
    (ap (λ (vs : List Verdict). slice_get vs place) (sym judged ∙ sym was.1) ∙ refused.refused) refused.there)

-- A response keeps versions of what is asked for by name only of names that were watched before it.
use Rattle.std.proofs.Common.{◌≡◌, ℕ, Bool, true, false, not, ◌||◌, cond, List, [], ◌∷◌, Option, Some, None, refl, sym, subst}
use Rattle.std.specs.List.{All, AllByRecursion as ByRecursion, fold, zip}
use Rattle.std.proofs.lemmas.Bool.{both_ways, cond_both, false≢true}
use Rattle.std.proofs.lemmas.List.Elements.{All-map, All-weaker, All-filter, All-from_recursion, recursion_from_All}
use Rattle.ev_types.specs.Items.{ItemParts, ResponseParts}
use Rattle.ev_types.specs.declared.contents.Kind.{Kind}
use Rattle.ev_types.specs.declared.contents.Kind.TheVariants.{Cds, Eds, Lds, Rds, Sds, Ecds}
use Rattle.ev_types.specs.declared.contents.Body.{Body}
use Rattle.ev_types.specs.declared.contents.Body.TheVariants.{Good, Bad, Beat}
use Rattle.ev_types.specs.declared.contents.Content.{Content}
use Rattle.ev_types.specs.declared.events.Verdict.{Verdict}
use Rattle.ev_types.specs.declared.events.Verdict.TheVariants.{New, InPlace, Back, Same, Kept, Unasked, Renewed, Refused}
use Rattle.ev_types.specs.declared.origins.KeptChain.{KeptChain}
use Rattle.ev_types.specs.declared.rows.KeptVersion.{KeptVersion}
use Rattle.ev_types.specs.declared.rows.Live.{Live}
use Rattle.ev_types.specs.SameContents.{content_same}
use Rattle.ev_model.specs.World.{World}
use Rattle.ev_model.specs.Live.{newest_of}
use Rattle.ev_model.specs.Versions.{is_version_of, bounded_as, with_version}
use Rattle.ev_model.specs.Verdicts.{is_taken, against, good_verdict, listener_verdict, serving_of, verdict_of, verdicts_from, verdicts_for, lives_after, lives_left}
use Rattle.ev_types.specs.Kinds.{is_by_name}
use Rattle.ev_model.specs.Watching.{is_watched}
use Rattle.ev_model.specs.Rows.{with_removals, version_in, serving_row, keep_version, add_row, go_back, keep_value, with_content, refuse, renew, add_item, add_items, is_version_left}
use Rattle.ev_model.specs.Origins.{kept_from}
use Rattle.ev_model.specs.Tidy.{is_version_due}
use Rattle.ev_model_laws.proofs.VersionLemmas.{all_with}
use Rattle.ev_model_laws.proofs.VerdictLemmas.{fits, judged_by, listener_each, listener_not, verdict_each, verdict_fits}
use Rattle.ev_model_laws.proofs.AnyLemmas.{any_left}
use Rattle.ev_model_laws.proofs.CameLemmas.{by_name_not}

-- the version is of a cluster or listener, or of a name that these live rows watch
abbrev pub IsDue : List Live → KeptVersion → Type 0
IsDue lives kept = is_version_due lives kept ≡ true

-- of what is asked for by name only values of watched names are kept
abbrev pub IsHeardBy : List Live → Kind → Verdict → List ℕ → Type 0
IsHeardBy lives kind New name = is_by_name kind ≡ false
IsHeardBy lives kind InPlace name = is_by_name kind ≡ false
IsHeardBy lives kind Back name = is_by_name kind ≡ false
IsHeardBy lives kind Same name = is_by_name kind ≡ false
IsHeardBy lives kind Kept name = is_watched lives kind name ≡ true
IsHeardBy lives kind Unasked name = Unit {0}
IsHeardBy lives kind Renewed name = Unit {0}
IsHeardBy lives kind (Refused rule) name = Unit {0}

due_by : (by_name watched : Bool) → by_name ≡ false → (not by_name || watched) ≡ true
due_by false watched isnt = refl
due_by true watched isnt = absurd (false≢true (sym isnt))

due_watched : (by_name watched : Bool) → watched ≡ true → (not by_name || watched) ≡ true
due_watched false watched is = refl
due_watched true watched is = is

due_new : (lives : List Live) (new : KeptVersion) (versions : List KeptVersion) → IsDue lives new → All (IsDue lives) versions
    → All (IsDue lives) (with_version new versions)
due_new lives new versions is due =
    All-from_recursion (IsDue lives) (with_version new versions)
    (all_with (IsDue lives) new versions is (recursion_from_All (IsDue lives) versions due))

due_marked : (lives : List Live) (marks : Bool) (kept : KeptVersion) → IsDue lives kept → IsDue lives (cond marks (record kept { bounded = true }) kept)
due_marked lives true kept due = due
due_marked lives false kept due = due

module _ (lives : List Live) (kind : Kind) where
  -- a new generation, whichever chains it keeps
  row_due : (item : ItemParts) (kept : Content → World → List KeptChain) (body : Body) (world : World) → is_by_name kind ≡ false → All (IsDue lives) world.versions
      → All (IsDue lives) (with_content (λ content w. add_row kind item content (kept content w) w) body world).versions
  row_due item kept (Good content) world isnt due =
      due_new lives (version_in kind item) world.versions (due_by (is_by_name kind) (is_watched lives kind item.name) isnt) due
  row_due item kept (Bad rule) world isnt due = due
  row_due item kept Beat world isnt due = due

  back_due : (item : ItemParts) (body : Body) (world : World) → is_by_name kind ≡ false → All (IsDue lives) world.versions
      → All (IsDue lives) (with_content (λ content. go_back kind item) body world).versions
  back_due item (Good content) world isnt due =
      due_new lives (version_in kind item) world.versions (due_by (is_by_name kind) (is_watched lives kind item.name) isnt) due
  back_due item (Bad rule) world isnt due = due
  back_due item Beat world isnt due = due

  same_due : (item : ItemParts) (body : Body) (world : World) → is_by_name kind ≡ false → All (IsDue lives) world.versions
      → All (IsDue lives) (with_content (λ content. keep_version kind item) body world).versions
  same_due item (Good content) world isnt due =
      due_new lives (version_in kind item) world.versions (due_by (is_by_name kind) (is_watched lives kind item.name) isnt) due
  same_due item (Bad rule) world isnt due = due
  same_due item Beat world isnt due = due

  value_due : (item : ItemParts) (body : Body) (world : World) → is_watched lives kind item.name ≡ true → All (IsDue lives) world.versions
      → All (IsDue lives) (with_content (keep_value kind item) body world).versions
  value_due item (Good content) world is due =
      due_new lives (version_in kind item) world.versions (due_watched (is_by_name kind) (is_watched lives kind item.name) is) due
  value_due item (Bad rule) world is due = due
  value_due item Beat world is due = due

  renewed_due : (name : List ℕ) (world : World) → All (IsDue lives) world.versions → All (IsDue lives) (renew kind name world).versions
  renewed_due name world due =
      All-map (IsDue lives) (bounded_as kind name) world.versions
      (All-weaker (IsDue lives) (λ (kept : KeptVersion). IsDue lives (bounded_as kind name kept))
      (λ (kept : KeptVersion). due_marked lives (is_version_of kind name kept) kept) world.versions due)

refusal_versions : (watched : Bool) (more world : World) → more.versions ≡ world.versions → (cond watched more world).versions ≡ world.versions
refusal_versions true more world same = same
refusal_versions false more world same = refl

refused_due : (lives : List Live) (kind : Kind) (name : List ℕ) (world : World) → All (IsDue lives) world.versions
    → All (IsDue lives) (refuse kind name world).versions
refused_due lives Cds name world due = due
refused_due lives Eds name world due =
    subst (λ (vs : List KeptVersion). All (IsDue lives) vs) (sym (refusal_versions _ _ world refl)) due
refused_due lives Lds name world due = due
refused_due lives Rds name world due =
    subst (λ (vs : List KeptVersion). All (IsDue lives) vs) (sym (refusal_versions _ _ world refl)) due
refused_due lives Sds name world due =
    subst (λ (vs : List KeptVersion). All (IsDue lives) vs) (sym (refusal_versions _ _ world refl)) due
refused_due lives Ecds name world due =
    subst (λ (vs : List KeptVersion). All (IsDue lives) vs) (sym (refusal_versions _ _ world refl)) due

item_due : (lives : List Live) (kind : Kind) (verdict : Verdict) (item : ItemParts) (world : World)
    → IsHeardBy lives kind verdict item.name → All (IsDue lives) world.versions → All (IsDue lives) (add_item kind verdict item world).versions
item_due lives kind New item world heard due = row_due lives kind item (λ content w. []) item.body world heard due
item_due lives kind InPlace item world heard due =
    row_due lives kind item (λ content w. kept_from (serving_row kind item.name w.rows) content) item.body world heard due
item_due lives kind Back item world heard due = back_due lives kind item item.body world heard due
item_due lives kind Same item world heard due = same_due lives kind item item.body world heard due
item_due lives kind Kept item world heard due = value_due lives kind item item.body world heard due
item_due lives kind Unasked item world heard due = due
item_due lives kind Renewed item world heard due = renewed_due lives kind item.name world due
item_due lives kind (Refused rule) item world heard due = refused_due lives kind item.name world due

judged_due : (lives : List Live) (kind : Kind) (judged : List (Verdict × ItemParts)) (world : World)
    → ByRecursion (λ (one : Verdict × ItemParts). IsHeardBy lives kind one.0 one.1.name) judged → All (IsDue lives) world.versions
    → All (IsDue lives) (fold (λ (w : World) (one : Verdict × ItemParts). add_item kind one.0 one.1 w) world judged).versions
judged_due lives kind [] world heard due = due
judged_due lives kind (one ∷ judged) world heard due =
    judged_due lives kind judged (add_item kind one.0 one.1 world) heard.1 (item_due lives kind one.0 one.1 world heard.0 due)

removals_due : (lives : List Live) (kind : Kind) (response : ResponseParts) (world : World) → All (IsDue lives) world.versions
    → All (IsDue lives) (with_removals kind response world).versions
removals_due lives Cds response world due = All-filter (is_version_left Cds response) (IsDue lives) world.versions due
removals_due lives Eds response world due = All-filter (is_version_left Eds response) (IsDue lives) world.versions due
removals_due lives Lds response world due = All-filter (is_version_left Lds response) (IsDue lives) world.versions due
removals_due lives Rds response world due = All-filter (is_version_left Rds response) (IsDue lives) world.versions due
removals_due lives Sds response world due = All-filter (is_version_left Sds response) (IsDue lives) world.versions due
removals_due lives Ecds response world due = All-filter (is_version_left Ecds response) (IsDue lives) world.versions due

against_heard : (lives : List Live) (kind : Kind) (name : List ℕ) (live : Option Live) (content : Content) → is_by_name kind ≡ false
    → IsHeardBy lives kind (against live content) name
against_heard lives kind name None content isnt = isnt
against_heard lives kind name (Some live) content isnt =
    cond_both (content_same live.content content) Same New (λ (v : Verdict). IsHeardBy lives kind v name) (λ is. isnt) (λ other. isnt)

-- the verdict on a good resource, where what these live rows watch the others watch too
good_heard : (lives now : List Live) (kind : Kind) (name : List ℕ) (content : Content)
    → (is_watched now kind name ≡ true → is_watched lives kind name ≡ true)
    → IsHeardBy lives kind (good_verdict kind now name content) name
good_heard lives now Cds name content so = against_heard lives Cds name (newest_of now Cds name) content refl
good_heard lives now Lds name content so =
    cond_both (is_taken now name content) (Refused 15) (listener_verdict (newest_of now Lds name) (serving_of now Lds name) content)
    (λ (v : Verdict). IsHeardBy lives Lds v name)
    (λ taken. tt)
    (λ free. listener_each (λ (v : Verdict). IsHeardBy lives Lds v name) refl refl refl refl (newest_of now Lds name) (serving_of now Lds name) content)
good_heard lives now Eds name content so =
    cond_both (is_watched now Eds name) Kept Unasked (λ (v : Verdict). IsHeardBy lives Eds v name) so (λ unwatched. tt)
good_heard lives now Rds name content so =
    cond_both (is_watched now Rds name) Kept Unasked (λ (v : Verdict). IsHeardBy lives Rds v name) so (λ unwatched. tt)
good_heard lives now Sds name content so =
    cond_both (is_watched now Sds name) Kept Unasked (λ (v : Verdict). IsHeardBy lives Sds v name) so (λ unwatched. tt)
good_heard lives now Ecds name content so =
    cond_both (is_watched now Ecds name) Kept Unasked (λ (v : Verdict). IsHeardBy lives Ecds v name) so (λ unwatched. tt)

-- after a verdict on what is asked for by name the live rows are the same
after_same : (kind : Kind) (verdict : Verdict) (name : List ℕ) (body : Body) (now : List Live) → is_by_name kind ≡ true
    → fits kind verdict ≡ true → lives_after kind verdict name body now ≡ now
after_same kind New name body now by_name fit = absurd (both_ways (is_by_name kind) (by_name_not kind fit) by_name)
after_same kind InPlace name body now by_name fit = absurd (both_ways (is_by_name kind) (listener_not kind fit) by_name)
after_same kind Back name body now by_name fit = absurd (both_ways (is_by_name kind) (listener_not kind fit) by_name)
after_same kind Same name body now by_name fit = refl
after_same kind Kept name body now by_name fit = refl
after_same kind Unasked name body now by_name fit = refl
after_same kind Renewed name body now by_name fit = refl
after_same kind (Refused rule) name body now by_name fit = refl

abbrev IsOneHeard : List Live → Kind → Verdict × ItemParts → Type 0
IsOneHeard lives kind one = IsHeardBy lives kind one.0 one.1.name

module _ (lives : List Live) (kind : Kind) (response : ResponseParts) (versions : List KeptVersion) where
  item_heard : (now : List Live) (item : ItemParts) → (is_watched now kind item.name ≡ true → is_watched lives kind item.name ≡ true)
      → IsHeardBy lives kind (verdict_of kind response now versions item) item.name
  item_heard now item so =
      verdict_each (λ (v : Verdict). IsHeardBy lives kind v item.name) kind response now versions item
      (λ rule. tt) tt tt (λ content is. good_heard lives now kind item.name content so)

  by_name_heard : (now : List Live) (items : List ItemParts) → is_by_name kind ≡ true
      → ((name : List ℕ) → is_watched now kind name ≡ true → is_watched lives kind name ≡ true)
      → ByRecursion (IsOneHeard lives kind) (zip (verdicts_from kind response versions now items) items)
  by_name_heard now [] by_name so = tt
  by_name_heard now (item ∷ items) by_name so =
      let verdict : Verdict = verdict_of kind response now versions item in (
        item_heard now item (so item.name),
        subst (λ (after : List Live). ByRecursion (IsOneHeard lives kind) (zip (verdicts_from kind response versions after items) items))
            (sym (after_same kind verdict item.name item.body now by_name (verdict_fits kind response now versions item)))
            (by_name_heard now items by_name so),
      )

-- of clusters and listeners no value is kept
whole_heard : (lives : List Live) (kind : Kind) (verdict : Verdict) (name : List ℕ) → is_by_name kind ≡ false → fits kind verdict ≡ true
    → IsHeardBy lives kind verdict name
whole_heard lives kind New name isnt fit = isnt
whole_heard lives kind Same name isnt fit = isnt
whole_heard lives kind InPlace name isnt fit = isnt
whole_heard lives kind Back name isnt fit = isnt
whole_heard lives kind Kept name isnt fit = absurd (both_ways (is_by_name kind) isnt fit)
whole_heard lives kind Unasked name isnt fit = tt
whole_heard lives kind Renewed name isnt fit = tt
whole_heard lives kind (Refused rule) name isnt fit = tt

left_watched : (kind : Kind) (response : ResponseParts) (lives : List Live) (name : List ℕ)
    → is_watched (lives_left kind response lives) kind name ≡ true → is_watched lives kind name ≡ true
left_watched kind response lives name h = any_left _ _ lives h

all_heard : (lives : List Live) (kind : Kind) (response : ResponseParts) (versions : List KeptVersion) (by_name : Bool) → is_by_name kind ≡ by_name
    → ByRecursion (IsOneHeard lives kind) (zip (verdicts_for kind lives versions response) response.items)
all_heard lives kind response versions true is =
    by_name_heard lives kind response versions (lives_left kind response lives) response.items is (left_watched kind response lives)
all_heard lives kind response versions false isnt =
    judged_by (IsOneHeard lives kind) kind response versions
    (λ now (item : ItemParts). whole_heard lives kind (verdict_of kind response now versions item) item.name isnt (verdict_fits kind response now versions item))
    (lives_left kind response lives) response.items

-- a response keeps versions of what is asked for by name only of names that were watched before it
pub response_due : (kind : Kind) (response : ResponseParts) (lives : List Live) (versions : List KeptVersion) (world : World)
    → All (IsDue lives) world.versions
    → All (IsDue lives) (add_items kind (verdicts_for kind lives versions response) response.items (with_removals kind response world)).versions
response_due kind response lives versions world due =
    judged_due lives kind (zip (verdicts_for kind lives versions response) response.items) (with_removals kind response world)
    (all_heard lives kind response versions (is_by_name kind) refl) (removals_due lives kind response world due)

-- What a response and the end of a resource do to generations: none that serves is new, and none comes to life.
use Rattle.std.proofs.Common.{◌≡◌, ◌∙◌, ℕ, Bool, true, false, cond, ◌&&◌, List, [], ◌∷◌, refl, sym, subst}
use Rattle.std.proofs.lemmas.Bool.{false≢true}
use Rattle.ev_types.specs.Items.{ItemParts, ResponseParts}
use Rattle.ev_types.specs.Kinds.{kind_same}
use Rattle.ev_types.specs.Statuses.{is_live, is_warming}
use Rattle.ev_types.specs.declared.contents.Kind.{Kind}
use Rattle.ev_types.specs.declared.contents.Kind.TheVariants.{Cds, Eds, Lds, Rds, Sds, Ecds}
use Rattle.ev_types.specs.declared.contents.Body.{Body}
use Rattle.ev_types.specs.declared.contents.Body.TheVariants.{Good, Bad, Beat}
use Rattle.ev_types.specs.declared.contents.Content.{Content}
use Rattle.ev_types.specs.declared.events.Verdict.{Verdict}
use Rattle.ev_types.specs.declared.events.Verdict.TheVariants.{New, InPlace, Back, Same, Kept, Unasked, Renewed, Refused}
use Rattle.ev_types.specs.declared.origins.KeptChain.{KeptChain}
use Rattle.ev_types.specs.declared.rows.RowStatus.{RowStatus}
use Rattle.ev_types.specs.declared.rows.RowStatus.TheVariants.{Warming, Active, Draining, Dropped}
use Rattle.ev_types.specs.declared.rows.GenRow.{GenRow}
use Rattle.ev_model.specs.World.{World}
use Rattle.ev_model.specs.Live.{lives_of}
use Rattle.ev_model.specs.Phase.{is_serving}
use Rattle.ev_model.specs.Watching.{is_watched}
use Rattle.ev_model.specs.Rows.{with_statuses, removed_status, replaced_status, status_left, is_row_of, new_row, rows_with_new, serving_row, with_removals, add_row, go_back, keep_version, keep_value, with_content, refuse, add_item, add_items, with_first}
use Rattle.ev_model.specs.Origins.{kept_from}
use Rattle.ev_model.specs.Signals.{ended_status, with_end, forget_version}
use Rattle.ev_model.specs.Verdicts.{is_removed}
use Rattle.ev_indexes.specs.Tables.{row_in}
use Rattle.ev_state.proofs.StillLemmas.{Still, still-itself, still-then, still-statused, still-more}

-- generations stay as they were or retire, and health results and the phase stay
pub record Enters (before after : World) : Type 0 where
  pub rows : (number : ℕ) → Still (row_in number before.rows) (row_in number after.rows)
  pub results : after.results ≡ before.results
  pub phase : is_serving after.phase ≡ is_serving before.phase

pub enters-itself : (world : World) → Enters world world
enters-itself world = record { rows = λ n. still-itself (row_in n world.rows); results = refl; phase = refl }

pub enters-then : (a b c : World) → Enters a b → Enters b c → Enters a c
enters-then a b c x y = record {
  rows = λ n. still-then (row_in n a.rows) (row_in n b.rows) (row_in n c.rows) (x.rows n) (y.rows n);
  results = y.results ∙ x.results;
  phase = y.phase ∙ x.phase;
}

removed_live : (status : RowStatus) → is_live (removed_status status) ≡ true → removed_status status ≡ status
removed_live Warming h = absurd (false≢true h)
removed_live Active h = absurd (false≢true h)
removed_live Draining h = refl
removed_live Dropped h = refl

chosen_live : (b : Bool) (status other : RowStatus) → (is_live other ≡ true → other ≡ status) → is_live (cond b other status) ≡ true → cond b other status ≡ status
chosen_live true status other stays h = stays h
chosen_live false status other stays h = refl

left_enter : (kind : Kind) (response : ResponseParts) (rows : List GenRow) (n : ℕ) → Still (row_in n rows) (row_in n (with_statuses (status_left kind response) rows))
left_enter kind response rows n =
    still-statused (status_left kind response)
    (λ row. chosen_live (kind_same row.kind kind && is_removed response row.name) row.status (removed_status row.status) (removed_live row.status)) n rows

removals_enter : (kind : Kind) (response : ResponseParts) (world : World) → Enters world (with_removals kind response world)
removals_enter Cds response world = record { rows = left_enter Cds response world.rows; results = refl; phase = refl }
removals_enter Eds response world = record { rows = λ n. still-itself (row_in n world.rows); results = refl; phase = refl }
removals_enter Lds response world = record { rows = left_enter Lds response world.rows; results = refl; phase = refl }
removals_enter Rds response world = record { rows = λ n. still-itself (row_in n world.rows); results = refl; phase = refl }
removals_enter Sds response world = record { rows = λ n. still-itself (row_in n world.rows); results = refl; phase = refl }
removals_enter Ecds response world = record { rows = λ n. still-itself (row_in n world.rows); results = refl; phase = refl }

replaced_rows : (kind : Kind) (name : List ℕ) (rows : List GenRow) (n : ℕ) → Still (row_in n rows) (row_in n (with_statuses (replaced_status kind name) rows))
replaced_rows kind name rows n =
    still-statused (replaced_status kind name)
    (λ row. chosen_live (is_row_of kind name row && is_warming row.status) row.status Dropped (λ h. absurd (false≢true h))) n rows

-- a new generation, whichever chains it keeps
new_enters : (kind : Kind) (item : ItemParts) (kept : Content → World → List KeptChain) (body : Body) (world : World)
    → Enters world (with_content (λ content w. add_row kind item content (kept content w) w) body world)
new_enters kind item kept (Good content) world = record {
  rows = λ n. still-then (row_in n world.rows) (row_in n (with_statuses (replaced_status kind item.name) world.rows))
      (row_in n (rows_with_new kind world.made item.name content (kept content world) world.rows))
      (replaced_rows kind item.name world.rows n)
      (still-more n (with_statuses (replaced_status kind item.name) world.rows) (new_row kind world.made item.name content (kept content world)) refl);
  results = refl;
  phase = refl;
}
new_enters kind item kept (Bad rule) world = enters-itself world
new_enters kind item kept Beat world = enters-itself world

back_enters : (kind : Kind) (item : ItemParts) (body : Body) (world : World) → Enters world (with_content (λ content. go_back kind item) body world)
back_enters kind item (Good content) world = record { rows = replaced_rows kind item.name world.rows; results = refl; phase = refl }
back_enters kind item (Bad rule) world = enters-itself world
back_enters kind item Beat world = enters-itself world

same_enters : (before after : World) → after.rows ≡ before.rows → after.results ≡ before.results → after.phase ≡ before.phase → Enters before after
same_enters before after rows results phase = record {
  rows = λ n. subst (λ (rs : List GenRow). Still (row_in n before.rows) (row_in n rs)) (sym rows) (still-itself (row_in n before.rows));
  results = results;
  phase = λ i. is_serving (phase i);
}

version_enters : (kind : Kind) (item : ItemParts) (body : Body) (world : World) → Enters world (with_content (λ content. keep_version kind item) body world)
version_enters kind item (Good content) world = same_enters world (keep_version kind item world) refl refl refl
version_enters kind item (Bad rule) world = enters-itself world
version_enters kind item Beat world = enters-itself world

kept_enters : (kind : Kind) (item : ItemParts) (body : Body) (world : World) → Enters world (with_content (keep_value kind item) body world)
kept_enters kind item (Good content) world = same_enters world (keep_value kind item content world) refl refl refl
kept_enters kind item (Bad rule) world = enters-itself world
kept_enters kind item Beat world = enters-itself world

told_enters : (watched : Bool) (told world : World) → Enters world told → Enters world (cond watched told world)
told_enters true told world enters = enters
told_enters false told world enters = enters-itself world

refused_enters : (kind : Kind) (name : List ℕ) (world : World) → Enters world (refuse kind name world)
refused_enters Cds name world = enters-itself world
refused_enters Eds name world = told_enters (is_watched (lives_of world) Eds name) _ world (same_enters world _ refl refl refl)
refused_enters Lds name world = enters-itself world
refused_enters Rds name world = told_enters (is_watched (lives_of world) Rds name) _ world (same_enters world _ refl refl refl)
refused_enters Sds name world = told_enters (is_watched (lives_of world) Sds name) _ world (same_enters world _ refl refl refl)
refused_enters Ecds name world = told_enters (is_watched (lives_of world) Ecds name) _ world (same_enters world _ refl refl refl)

item_enters : (kind : Kind) (verdict : Verdict) (item : ItemParts) (world : World) → Enters world (add_item kind verdict item world)
item_enters kind New item world = new_enters kind item (λ content w. []) item.body world
item_enters kind InPlace item world = new_enters kind item (λ content w. kept_from (serving_row kind item.name w.rows) content) item.body world
item_enters kind Back item world = back_enters kind item item.body world
item_enters kind Same item world = version_enters kind item item.body world
item_enters kind Kept item world = kept_enters kind item item.body world
item_enters kind Unasked item world = enters-itself world
item_enters kind Renewed item world = same_enters world (add_item kind Renewed item world) refl refl refl
item_enters kind (Refused rule) item world = refused_enters kind item.name world

items_enter : (kind : Kind) (verdicts : List Verdict) (items : List ItemParts) (world : World) → Enters world (add_items kind verdicts items world)
items_enter kind [] items world = enters-itself world
items_enter kind (verdict ∷ verdicts) [] world = enters-itself world
items_enter kind (verdict ∷ verdicts) (item ∷ items) world =
    enters-then world (add_item kind verdict item world) (add_items kind verdicts items (add_item kind verdict item world))
    (item_enters kind verdict item world) (items_enter kind verdicts items (add_item kind verdict item world))

first_enters : (kind : Kind) (names : List (List ℕ)) (world : World) → Enters world (with_first kind names world)
first_enters Cds names world = same_enters world (with_first Cds names world) refl refl refl
first_enters Eds names world = enters-itself world
first_enters Lds names world = same_enters world (with_first Lds names world) refl refl refl
first_enters Rds names world = enters-itself world
first_enters Sds names world = enters-itself world
first_enters Ecds names world = enters-itself world

pub response-enters : (kind : Kind) (verdicts : List Verdict) (response : ResponseParts) (names : List (List ℕ)) (world : World)
    → Enters world (with_first kind names (add_items kind verdicts response.items (with_removals kind response world)))
response-enters kind verdicts response names world =
    let left : World = with_removals kind response world in
    let more : World = add_items kind verdicts response.items left in
    enters-then world left (with_first kind names more) (removals_enter kind response world)
    (enters-then left more (with_first kind names more) (items_enter kind verdicts response.items left) (first_enters kind names more))

ended_enters : (kind : Kind) (name : List ℕ) (rows : List GenRow) (n : ℕ) → Still (row_in n rows) (row_in n (with_statuses (ended_status kind name) rows))
ended_enters kind name rows n =
    still-statused (ended_status kind name) (λ row. chosen_live (is_row_of kind name row) row.status (removed_status row.status) (removed_live row.status)) n rows

pub end-enters : (kind : Kind) (name : List ℕ) (world : World) → Enters world (with_end kind name (forget_version kind name world))
end-enters Cds name world = record { rows = ended_enters Cds name world.rows; results = refl; phase = refl }
end-enters Eds name world = same_enters world (with_end Eds name (forget_version Eds name world)) refl refl refl
end-enters Lds name world = record { rows = ended_enters Lds name world.rows; results = refl; phase = refl }
end-enters Rds name world = same_enters world (with_end Rds name (forget_version Rds name world)) refl refl refl
end-enters Sds name world = same_enters world (with_end Sds name (forget_version Sds name world)) refl refl refl
end-enters Ecds name world = same_enters world (with_end Ecds name (forget_version Ecds name world)) refl refl refl

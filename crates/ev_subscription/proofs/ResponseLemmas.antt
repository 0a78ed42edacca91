-- What a response does to the versions, among all that it does to a world.
use Rattle.std.proofs.Common.{◌≡◌, ℕ, ◌+◌, ◌<◌, ◌≤◌, List, [], length, drop, get_or, refl, sym, ap, subst, ◌∙◌, ◌⊎◌, inl, inr}
use Rattle.std.proofs.lemmas.List.{drop_more, drop_all}
use Rattle.ev_types.specs.Items.{ItemParts}
use Rattle.ev_types.specs.declared.contents.Body.{Body}
use Rattle.ev_types.specs.declared.contents.Body.TheVariants.{Good, Bad, Beat}
use Rattle.ev_types.specs.declared.contents.Content.{Content}
use Rattle.ev_types.specs.declared.contents.Kind.{Kind}
use Rattle.ev_types.specs.declared.events.Verdict.{Verdict}
use Rattle.ev_types.specs.declared.events.Verdict.TheVariants.{New, InPlace, Back, Same, Kept}
use Rattle.ev_model.specs.World.{World}
use Rattle.ev_model.specs.Rows.{add_in_place, add_item, add_items, add_row, go_back, keep_value, keep_version, with_content}
use Rattle.ev_model_laws.specs.VersionsKept.{AreKeptOnce}
use Rattle.ev_subscription.specs.Subscriptions.{SubscriptionParts, SameVersions, HasVersions, kept_of}

-- a subscription represents each world with the node, the stream and the versions of one that it represents
pub stands_as : (s : SubscriptionParts) (world other : World) → SameVersions world other → HasVersions s world → HasVersions s other
stands_as s world other same stands = record {
  node = stands.node ∙ same.node;
  stream = stands.stream ∙ same.stream;
  versions = λ kind. stands.versions kind ∙ ap (kept_of kind) same.versions;
  kept_once = subst AreKeptOnce same.versions stands.kept_once;
}

-- a change that keeps the version of a resource with content, and no other thing of which is a version
module _ (s : SubscriptionParts) (kind : Kind) (item : ItemParts) (change : Content → World → World) (world : World)
    (same : (content : Content) → SameVersions (keep_version kind item world) (change content world)) where
  change_stands : (body : Body) → HasVersions s (with_content (λ content. keep_version kind item) body world) → HasVersions s (with_content change body world)
  change_stands (Good content) stands = stands_as s (keep_version kind item world) (change content world) (same content) stands
  change_stands (Bad rule) stands = stands
  change_stands Beat stands = stands

-- the version of a resource that is taken is all that a subscription learns of it
pub good_stands : (s : SubscriptionParts) (kind : Kind) (verdict : Verdict) (item : ItemParts) (world : World)
    → (verdict ≡ New) ⊎ ((verdict ≡ InPlace) ⊎ ((verdict ≡ Back) ⊎ ((verdict ≡ Same) ⊎ (verdict ≡ Kept))))
    → HasVersions s (with_content (λ content. keep_version kind item) item.body world) → HasVersions s (add_item kind verdict item world)
good_stands s kind verdict item world (inl is) stands =
    subst (λ (v : Verdict). HasVersions s (add_item kind v item world)) (sym is)
    (change_stands s kind item (λ content. add_row kind item content []) world (λ content. record { node = refl; stream = refl; versions = refl }) item.body stands)
good_stands s kind verdict item world (inr (inl is)) stands =
    subst (λ (v : Verdict). HasVersions s (add_item kind v item world)) (sym is)
    (change_stands s kind item (add_in_place kind item) world (λ content. record { node = refl; stream = refl; versions = refl }) item.body stands)
good_stands s kind verdict item world (inr (inr (inl is))) stands =
    subst (λ (v : Verdict). HasVersions s (add_item kind v item world)) (sym is)
    (change_stands s kind item (λ content. go_back kind item) world (λ content. record { node = refl; stream = refl; versions = refl }) item.body stands)
good_stands s kind verdict item world (inr (inr (inr (inl is)))) stands =
    subst (λ (v : Verdict). HasVersions s (add_item kind v item world)) (sym is) stands
good_stands s kind verdict item world (inr (inr (inr (inr is)))) stands =
    subst (λ (v : Verdict). HasVersions s (add_item kind v item world)) (sym is)
    (change_stands s kind item (keep_value kind item) world (λ content. record { node = refl; stream = refl; versions = refl }) item.body stands)

-- one resource more has come in
pub item_more : (kind : Kind) (verdicts : List Verdict) (items : List ItemParts) (place : ℕ) (verdict : Verdict) (item : ItemParts) (world : World)
    → place < length verdicts → place < length items → verdict ≡ get_or verdicts place verdict → item ≡ get_or items place item
    → add_items kind (drop (place + 1) verdicts) (drop (place + 1) items) (add_item kind verdict item world) ≡ add_items kind (drop place verdicts) (drop place items) world
item_more kind verdicts items place verdict item world within here v i =
    (λ j. add_items kind (drop (place + 1) verdicts) (drop (place + 1) items) (add_item kind (v j) (i j) world))
    ∙ sym (λ j. add_items kind (drop_more verdicts place verdict within j) (drop_more items place item here j) world)

-- after the last resource
pub items_done : (kind : Kind) (verdicts : List Verdict) (items : List ItemParts) (place : ℕ) (world : World) → length verdicts ≤ place → length items ≤ place
    → add_items kind (drop place verdicts) (drop place items) world ≡ world
items_done kind verdicts items place world v i = λ j. add_items kind (drop_all place verdicts v j) (drop_all place items i j) world

-- What one resource does to a world that a state represents.
use Rattle.std.proofs.Common.{◌≡◌, ℕ, Bool, false, List, [], refl, sym, subst, true≢false}
use Rattle.ev_types.specs.Kinds.{is_by_name}
use Rattle.ev_types.specs.Items.{ItemParts}
use Rattle.ev_types.specs.declared.contents.Body.{Body}
use Rattle.ev_types.specs.declared.contents.Body.TheVariants.{Good, Bad, Beat}
use Rattle.ev_types.specs.declared.contents.Content.{Content}
use Rattle.ev_types.specs.declared.contents.Kind.{Kind}
use Rattle.ev_types.specs.declared.contents.Kind.TheVariants.{Cds, Lds}
use Rattle.ev_types.specs.declared.events.Verdict.{Verdict}
use Rattle.ev_types.specs.declared.events.Verdict.TheVariants.{New, InPlace, Back, Same, Kept, Unasked, Renewed, Refused}
use Rattle.ev_types.specs.declared.rows.Arrival.TheVariants.{Value}
use Rattle.ev_types.specs.declared.rows.GenRow.{GenRow}
use Rattle.ev_model.specs.World.{World}
use Rattle.ev_model.specs.Origins.{kept_from}
use Rattle.ev_model.specs.Rows.{with_content, keep_version, keep_value, version_in, add_row, add_in_place, go_back, refuse, serving_row, add_item}
use Rattle.ev_model.specs.Versions.{with_version, renewed}
use Rattle.ev_indexes.specs.declared.state.State.{State}
use Rattle.ev_indexes.specs.Worlds.{HasRows}
use Rattle.ev_warming.specs.Arrivals.{IsOnRow, IsOnValue, with_arrived}
use Rattle.ev_warming.specs.Worlds.{Follows, with_generation, with_rows_replaced}
use Rattle.ev_warming.proofs.ResponseLemmas.{versions-stand}

-- a good resource that is new makes a generation
pub new-stands : (s t : State) (kind : Kind) (item : ItemParts) (content : Content) → item.body ≡ Good content
    → Follows s t (with_generation kind item.name content []) → Follows s t (add_item kind New item)
new-stands s t kind item content body follows = λ world stands.
    subst (λ (b : Body). HasRows t (with_content (λ (c : Content). add_row kind item c []) b world)) (sym body)
    (versions-stand t (with_generation kind item.name content [] world) (with_version (version_in kind item) world.versions) (follows world stands))

-- one in place makes a generation that keeps chains of the one that serves
pub in-place-stands : (s t : State) (kind : Kind) (item : ItemParts) (content : Content) → item.body ≡ Good content
    → Follows s t (with_generation kind item.name content (kept_from (serving_row kind item.name s.table.rows) content)) → Follows s t (add_item kind InPlace item)
in-place-stands s t kind item content body follows = λ world stands.
    subst (λ (b : Body). HasRows t (with_content (add_in_place kind item) b world)) (sym body)
    (versions-stand t (with_generation kind item.name content (kept_from (serving_row kind item.name world.rows) content) world) (with_version (version_in kind item) world.versions)
    (subst (λ (rows : List GenRow). HasRows t (with_generation kind item.name content (kept_from (serving_row kind item.name rows) content) world)) stands.rows
    (follows world stands)))

-- one that goes back to what serves drops the one that warms
pub back-stands : (s t : State) (kind : Kind) (item : ItemParts) (content : Content) → item.body ≡ Good content
    → Follows s t (with_rows_replaced kind item.name) → Follows s t (add_item kind Back item)
back-stands s t kind item content body follows = λ world stands.
    subst (λ (b : Body). HasRows t (with_content (λ (c : Content). go_back kind item) b world)) (sym body)
    (versions-stand t (with_rows_replaced kind item.name world) (with_version (version_in kind item) world.versions) (follows world stands))

-- a good resource that is kept arrives
pub kept-stands : (t : State) (world : World) (kind : Kind) (item : ItemParts) (content : Content) → item.body ≡ Good content
    → HasRows t (with_arrived kind (Value content) item.name world) → HasRows t (add_item kind Kept item world)
kept-stands t world kind item content body stands =
    subst (λ (b : Body). HasRows t (with_content (keep_value kind item) b world)) (sym body)
    (versions-stand t (with_arrived kind (Value content) item.name world) (with_version (version_in kind item) world.versions) stands)

content-stays : (s : State) (world : World) (change : Content → World → World) → ((content : Content) → HasRows s (change content world)) → (body : Body)
    → HasRows s world → HasRows s (with_content change body world)
content-stays s world change stays (Good content) stands = stays content
content-stays s world change stays (Bad rule) stands = stands
content-stays s world change stays Beat stands = stands

same-stays : (s : State) (world : World) (kind : Kind) (item : ItemParts) → HasRows s world → HasRows s (add_item kind Same item world)
same-stays s world kind item stands =
    content-stays s world (λ content. keep_version kind item) (λ content. versions-stand s world (with_version (version_in kind item) world.versions) stands) item.body stands

-- a resource without content makes no generation and drops none
bare-stays : (s : State) (world : World) (change : Content → World → World) (body : Body) → ((content : Content) → body ≡ Good content → ⊥) → HasRows s world
    → HasRows s (with_content change body world)
bare-stays s world change (Good content) bare stands = absurd (bare content refl)
bare-stays s world change (Bad rule) bare stands = stands
bare-stays s world change Beat bare stands = stands

-- a cluster or listener that makes no generation and drops none changes only what a state doesn't look at
pub other-stays : (s : State) (world : World) (kind : Kind) (verdict : Verdict) (item : ItemParts) → is_by_name kind ≡ false → IsOnRow verdict
    → (verdict ≡ New → ⊥) → (verdict ≡ InPlace → ⊥) → (verdict ≡ Back → ⊥) → HasRows s world
    → HasRows s (add_item kind verdict item world)
other-stays s world kind New item rows on new in_place back stands = absurd (new refl)
other-stays s world kind InPlace item rows on new in_place back stands = absurd (in_place refl)
other-stays s world kind Back item rows on new in_place back stands = absurd (back refl)
other-stays s world kind Same item rows on new in_place back stands = same-stays s world kind item stands
other-stays s world kind Kept item rows on new in_place back stands = absurd on
other-stays s world kind Unasked item rows on new in_place back stands = stands
other-stays s world kind Renewed item rows on new in_place back stands = versions-stand s world (renewed kind item.name world.versions) stands
other-stays s world kind (Refused rule) item rows on new in_place back stands = by kind rows
  where
    by : (k : Kind) → is_by_name k ≡ false → HasRows s (refuse k item.name world)
    by Cds h = stands
    by Lds h = stands
    by k h = absurd (true≢false h)

-- so does one without content, whatever its verdict
pub bare-item-stays : (s : State) (world : World) (kind : Kind) (verdict : Verdict) (item : ItemParts) → is_by_name kind ≡ false → IsOnRow verdict
    → ((content : Content) → item.body ≡ Good content → ⊥) → HasRows s world
    → HasRows s (add_item kind verdict item world)
bare-item-stays s world kind New item rows on bare stands = bare-stays s world (λ content. add_row kind item content []) item.body bare stands
bare-item-stays s world kind InPlace item rows on bare stands = bare-stays s world (add_in_place kind item) item.body bare stands
bare-item-stays s world kind Back item rows on bare stands = bare-stays s world (λ content. go_back kind item) item.body bare stands
bare-item-stays s world kind Same item rows on bare stands = other-stays s world kind Same item rows on (λ e. cc) (λ e. cc) (λ e. cc) stands
bare-item-stays s world kind Kept item rows on bare stands = absurd on
bare-item-stays s world kind Unasked item rows on bare stands = stands
bare-item-stays s world kind Renewed item rows on bare stands = other-stays s world kind Renewed item rows on (λ e. cc) (λ e. cc) (λ e. cc) stands
bare-item-stays s world kind (Refused rule) item rows on bare stands = other-stays s world kind (Refused rule) item rows on (λ e. cc) (λ e. cc) (λ e. cc) stands

-- of what rows wait for, a resource that is neither kept nor refused changes nothing that they look at
pub idle-stands : (s : State) (world : World) (kind : Kind) (verdict : Verdict) (watched : Bool) (item : ItemParts) → IsOnValue verdict watched → (verdict ≡ Kept → ⊥)
    → ((rule : ℕ) → verdict ≡ Refused rule → ⊥) → HasRows s world → HasRows s (add_item kind verdict item world)
idle-stands s world kind New watched item on kept refused stands = absurd on
idle-stands s world kind InPlace watched item on kept refused stands = absurd on
idle-stands s world kind Back watched item on kept refused stands = absurd on
idle-stands s world kind Same watched item on kept refused stands = same-stays s world kind item stands
idle-stands s world kind Kept watched item on kept refused stands = absurd (kept refl)
idle-stands s world kind Unasked watched item on kept refused stands = stands
idle-stands s world kind Renewed watched item on kept refused stands = versions-stand s world (renewed kind item.name world.versions) stands
idle-stands s world kind (Refused rule) watched item on kept refused stands = absurd (refused rule refl)

-- What an event leaves of the value of a name: what comes for other names, and what is no resource, changes none.
use Rattle.std.proofs.Common.{◌≡◌, ◌∙◌, ℕ, Bool, true, false, cond, ◌&&◌, List, [], ◌∷◌, ◌++◌, None, map, filter, refl, ap}
use Rattle.std.specs.List.{AllByRecursion, cons_option, filter_map, last_or}
use Rattle.std.specs.Str.{bytes_eq}
use Rattle.std.proofs.lemmas.List.{map-append}
use Rattle.std.proofs.lemmas.List.Elements.{filter-append, filter_map-append}
use Rattle.ev_types.specs.Items.{ItemParts, ResponseParts}
use Rattle.ev_types.specs.Kinds.{kind_same}
use Rattle.ev_types.specs.declared.contents.Kind.{Kind}
use Rattle.ev_types.specs.declared.contents.Kind.TheVariants.{Cds, Eds, Lds, Rds, Sds, Ecds}
use Rattle.ev_types.specs.declared.contents.Body.{Body}
use Rattle.ev_types.specs.declared.contents.Body.TheVariants.{Good, Bad, Beat}
use Rattle.ev_types.specs.declared.contents.Content.{Content}
use Rattle.ev_types.specs.declared.events.Verdict.{Verdict}
use Rattle.ev_types.specs.declared.events.Verdict.TheVariants.{New, InPlace, Back, Same, Kept, Unasked, Renewed, Refused}
use Rattle.ev_types.specs.declared.origins.KeptChain.{KeptChain}
use Rattle.ev_types.specs.declared.rows.Arrival.{Arrival}
use Rattle.ev_types.specs.declared.rows.Arrival.TheVariants.{Value, Absent, Ended, Bad as bad}
use Rattle.ev_model.specs.World.{World, Arrived}
use Rattle.ev_model.specs.Live.{lives_of}
use Rattle.ev_model.specs.Watching.{is_watched}
use Rattle.ev_model.specs.Warming.{came_for, content_in, value_by}
use Rattle.ev_model.specs.Rows.{arrived, absent_names, with_removals, serving_row, add_row, go_back, keep_version, keep_value, with_content, refuse, add_item, add_items}
use Rattle.ev_model.specs.Origins.{kept_from}
use Rattle.ev_model.specs.Signals.{with_end, no_hosts, no_routes}
use Rattle.ev_warming.proofs.ArrivalLemmas.{last_or-append}

abbrev is_for : Kind → List ℕ → Arrived → Bool
is_for kind q other = kind_same other.kind kind && bytes_eq other.name q

abbrev arrival_of : Arrived → Arrival
arrival_of other = other.arrival

abbrev values : List Arrived → Kind → List ℕ → List Content
values arrivals kind q = filter_map content_in (came_for arrivals kind q)

-- what came after the rest without a resource for the name
pub value-quiet : (xs ys : List Arrived) (kind : Kind) (q : List ℕ) → values ys kind q ≡ [] → value_by (xs ++ ys) kind q ≡ value_by xs kind q
value-quiet xs ys kind q none =
    ap (λ (cs : List Arrival). last_or None (filter_map content_in cs))
    (ap (map arrival_of) (filter-append (is_for kind q) xs ys) ∙ map-append arrival_of (filter (is_for kind q) xs) (filter (is_for kind q) ys))
    ∙ ap (last_or None) (filter_map-append content_in (came_for xs kind q) (came_for ys kind q))
    ∙ last_or-append None (values xs kind q) (values ys kind q)
    ∙ (λ i. last_or (value_by xs kind q) (none i))

-- one thing for another name
pub other-quiet : (made : ℕ) (kind : Kind) (arrival : Arrival) (name : List ℕ) (k : Kind) (q : List ℕ) → (kind_same kind k && bytes_eq name q) ≡ false
    → values (arrived made kind arrival name ∷ []) k q ≡ []
other-quiet made kind arrival name k q other = λ i. filter_map content_in (map arrival_of (cond (other i) (arrived made kind arrival name ∷ []) []))

-- one thing that is no resource
pub mute-quiet : (made : ℕ) (kind : Kind) (arrival : Arrival) (name : List ℕ) (k : Kind) (q : List ℕ) → content_in arrival ≡ None
    → values (arrived made kind arrival name ∷ []) k q ≡ []
mute-quiet made kind arrival name k q mute = by (kind_same kind k && bytes_eq name q)
  where
    by : (b : Bool) → filter_map content_in (map arrival_of (cond b (arrived made kind arrival name ∷ []) [])) ≡ []
    by true = ap (λ o. cons_option o []) mute
    by false = refl

-- notices of absence
absences-quiet : (made : ℕ) (kind : Kind) (names : List (List ℕ)) (k : Kind) (q : List ℕ) → values (map (arrived made kind Absent) names) k q ≡ []
absences-quiet made kind [] k q = refl
absences-quiet made kind (name ∷ names) k q = by (kind_same kind k && bytes_eq name q) (absences-quiet made kind names k q)
  where
    rest : List Arrived
    rest = filter (is_for k q) (map (arrived made kind Absent) names)

    by : (b : Bool) → filter_map content_in (map arrival_of rest) ≡ [] → filter_map content_in (map arrival_of (cond b (arrived made kind Absent name ∷ rest) rest)) ≡ []
    by true none = none
    by false none = none

-- a response leaves the value of a name for which it has no resource
module _ (kind k : Kind) (q : List ℕ) where
  abbrev IsSame : World → World → Type 0
  IsSame before after = value_by after.arrivals k q ≡ value_by before.arrivals k q

  -- the item is for another name
  abbrev pub IsOther : ItemParts → Type 0
  IsOther item = (kind_same kind k && bytes_eq item.name q) ≡ false

  removals_same : (response : ResponseParts) (world : World) → IsSame world (with_removals kind response world)
  removals_same response world = by kind
    where
      by : (kind : Kind) → IsSame world (with_removals kind response world)
      by Cds = refl
      by Eds = value-quiet world.arrivals (map (arrived world.made Eds Absent) (absent_names Eds response world)) k q (absences-quiet world.made Eds (absent_names Eds response world) k q)
      by Lds = refl
      by Rds = value-quiet world.arrivals (map (arrived world.made Rds Absent) (absent_names Rds response world)) k q (absences-quiet world.made Rds (absent_names Rds response world) k q)
      by Sds = refl
      by Ecds = value-quiet world.arrivals (map (arrived world.made Ecds Absent) (absent_names Ecds response world)) k q (absences-quiet world.made Ecds (absent_names Ecds response world) k q)

  -- a new generation, whichever chains it keeps
  new_same : (item : ItemParts) (kept : Content → World → List KeptChain) (body : Body) (world : World)
      → IsSame world (with_content (λ content w. add_row kind item content (kept content w) w) body world)
  new_same item kept (Good content) world = refl
  new_same item kept (Bad rule) world = refl
  new_same item kept Beat world = refl

  back_same : (item : ItemParts) (body : Body) (world : World) → IsSame world (with_content (λ content. go_back kind item) body world)
  back_same item (Good content) world = refl
  back_same item (Bad rule) world = refl
  back_same item Beat world = refl

  version_same : (item : ItemParts) (body : Body) (world : World) → IsSame world (with_content (λ content. keep_version kind item) body world)
  version_same item (Good content) world = refl
  version_same item (Bad rule) world = refl
  version_same item Beat world = refl

  kept_same : (item : ItemParts) → IsOther item → (body : Body) (world : World) → IsSame world (with_content (keep_value kind item) body world)
  kept_same item other (Good content) world =
      value-quiet world.arrivals (arrived world.made kind (Value content) item.name ∷ []) k q (other-quiet world.made kind (Value content) item.name k q other)
  kept_same item other (Bad rule) world = refl
  kept_same item other Beat world = refl

  told_same : (watched : Bool) (told : Kind) (name : List ℕ) (world : World)
      → IsSame world (cond watched (record world { arrivals = world.arrivals ++ arrived world.made told bad name ∷ [] }) world)
  told_same true told name world = value-quiet world.arrivals (arrived world.made told bad name ∷ []) k q (mute-quiet world.made told bad name k q refl)
  told_same false told name world = refl

  refused_same : (name : List ℕ) (world : World) → IsSame world (refuse kind name world)
  refused_same name world = by kind
    where
      by : (kind : Kind) → IsSame world (refuse kind name world)
      by Cds = refl
      by Eds = told_same (is_watched (lives_of world) Eds name) Eds name world
      by Lds = refl
      by Rds = told_same (is_watched (lives_of world) Rds name) Rds name world
      by Sds = told_same (is_watched (lives_of world) Sds name) Sds name world
      by Ecds = told_same (is_watched (lives_of world) Ecds name) Ecds name world

  item_same : (verdict : Verdict) (item : ItemParts) → IsOther item → (world : World) → IsSame world (add_item kind verdict item world)
  item_same New item other world = new_same item (λ content w. []) item.body world
  item_same InPlace item other world = new_same item (λ content w. kept_from (serving_row kind item.name w.rows) content) item.body world
  item_same Back item other world = back_same item item.body world
  item_same Same item other world = version_same item item.body world
  item_same Kept item other world = kept_same item other item.body world
  item_same Unasked item other world = refl
  item_same Renewed item other world = refl
  item_same (Refused rule) item other world = refused_same item.name world

  items_same : (verdicts : List Verdict) (items : List ItemParts) → AllByRecursion IsOther items → (world : World)
      → IsSame world (add_items kind verdicts items world)
  items_same [] items others world = refl
  items_same (verdict ∷ verdicts) [] others world = refl
  items_same (verdict ∷ verdicts) (item ∷ items) others world =
      items_same verdicts items others.1 (add_item kind verdict item world) ∙ item_same verdict item others.0 world

  pub response-same : (verdicts : List Verdict) (response : ResponseParts) → AllByRecursion IsOther response.items → (world : World)
      → IsSame world (add_items kind verdicts response.items (with_removals kind response world))
  response-same verdicts response others world =
      items_same verdicts response.items others (with_removals kind response world) ∙ removals_same response world

  -- and so does a name that has come to its end
  pub end-same : (name : List ℕ) → (kind_same kind k && bytes_eq name q) ≡ false → (world : World) → IsSame world (with_end kind name world)
  end-same name other world = by kind other
    where
      by : (kind : Kind) → (kind_same kind k && bytes_eq name q) ≡ false → IsSame world (with_end kind name world)
      by Cds other = refl
      by Eds other = value-quiet world.arrivals (arrived world.made Eds (Ended no_hosts) name ∷ []) k q (other-quiet world.made Eds (Ended no_hosts) name k q other)
      by Lds other = refl
      by Rds other = value-quiet world.arrivals (arrived world.made Rds (Ended no_routes) name ∷ []) k q (other-quiet world.made Rds (Ended no_routes) name k q other)
      by Sds other = refl
      by Ecds other = refl

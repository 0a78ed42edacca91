-- The machine's verdicts on a response: of what is asked for by name, and of clusters and listeners.
use Rattle.std.proofs.Common.{◌≡◌, ◌∙◌, ℕ, Bool, true, false, cond, not, ◌&&◌, ◌||◌, List, [], ◌∷◌, Option, None, Some, map, refl, sym, ap, subst, true≢false}
use Rattle.std.specs.List.{list_any, AllByRecursion}
use Rattle.ev_types.specs.Items.{ItemParts, ResponseParts, content_kind}
use Rattle.ev_types.specs.Kinds.{is_by_name, kind_decides, kind_same}
use Rattle.ev_types.specs.SameContents.{content_same}
use Rattle.ev_types.specs.Statuses.{is_live}
use Rattle.ev_types.specs.declared.contents.Kind.{Kind}
use Rattle.ev_types.specs.declared.contents.Kind.TheVariants.{Cds, Lds}
use Rattle.ev_types.specs.declared.contents.Content.{Content}
use Rattle.ev_types.specs.declared.contents.Content.TheVariants.{Cluster as a_cluster, Assignment as an_assignment, Listener as a_listener, Routes as routes, Secret as a_secret, Extension as an_extension}
use Rattle.ev_types.specs.declared.contents.Body.{Body}
use Rattle.ev_types.specs.declared.contents.Body.TheVariants.{Good, Bad, Beat}
use Rattle.ev_types.specs.declared.listeners.Listener.{Listener}
use Rattle.ev_types.specs.declared.events.Verdict.{Verdict}
use Rattle.ev_types.specs.declared.events.Verdict.TheVariants.{New, InPlace, Back, Same, Kept, Unasked, Renewed, Refused}
use Rattle.ev_types.specs.declared.rows.KeptVersion.{KeptVersion}
use Rattle.ev_types.specs.declared.rows.Live.{Live}
use Rattle.ev_types.specs.declared.rows.GenRow.{GenRow}
use Rattle.ev_model.specs.World.{World}
use Rattle.ev_model.specs.Live.{live_of, lives_of, newest_of}
use Rattle.ev_model.specs.Verdicts.{against, changes_chains, content_verdict, listener_verdict, returns_to, serving_of, serving_verdict, update_verdict, is_removed, is_taken, lives_left, rule_of, good_verdict, body_verdict, verdict_by, verdict_of, lives_after, verdicts_from, verdicts_by, verdicts_of}
use Rattle.ev_model.specs.Versions.{is_kept}
use Rattle.ev_model.specs.Watching.{is_watched, has_dependency}
use Rattle.ev_lookups.specs.Keys.{named}
use Rattle.ev_indexes.specs.declared.state.State.{State}
use Rattle.ev_warming.specs.Arrivals.{IsOnRow, AreOnRows, IsOnValue, AreOnValues}
use Rattle.ev_indexes.specs.Indexes.{depends_on}
use Rattle.ev_indexes.specs.Reads.{live_rows}
use Rattle.ev_indexes.specs.Worlds.{HasRows}
use Rattle.ev_warming.proofs.ForgottenLemmas.{watched-same}

-- a verdict on what is asked for by name
kept-on : (b : Bool) → IsOnValue (cond b Kept Unasked) b
kept-on true = refl
kept-on false = tt

beat-on : (b w : Bool) → IsOnValue (cond b Renewed Unasked) w
beat-on true w = tt
beat-on false w = tt

body-on : (kind : Kind) (lives : List Live) (versions : List KeptVersion) (item : ItemParts) (body : Body) → is_by_name kind ≡ true
    → IsOnValue (body_verdict kind lives versions item body) (is_watched lives kind item.name)
body-on kind lives versions item (Bad rule) named = tt
body-on kind lives versions item Beat named = beat-on (is_kept versions kind item.name item.version) (is_watched lives kind item.name)
body-on kind lives versions item (Good content) named = by kind named
  where
    by : (k : Kind) → is_by_name k ≡ true → IsOnValue (good_verdict k lives item.name content) (is_watched lives k item.name)
    by Cds h = absurd (true≢false (sym h))
    by Lds h = absurd (true≢false (sym h))
    by k h = kept-on (is_watched lives k item.name)

verdict-on : (kind : Kind) (response : ResponseParts) (lives : List Live) (versions : List KeptVersion) (item : ItemParts) → is_by_name kind ≡ true
    → IsOnValue (verdict_of kind response lives versions item) (is_watched lives kind item.name)
verdict-on kind response lives versions item named = by (rule_of kind response lives versions item)
  where
    by : (o : Option ℕ) → IsOnValue (verdict_by o kind lives versions item) (is_watched lives kind item.name)
    by None = body-on kind lives versions item item.body named
    by (Some rule) = tt

-- it makes no live row
lives-stay : (kind : Kind) (verdict : Verdict) (name : List ℕ) (body : Body) (lives : List Live) (watched : Bool) → IsOnValue verdict watched → lives_after kind verdict name body lives ≡ lives
lives-stay kind New name body lives watched on = absurd on
lives-stay kind InPlace name body lives watched on = absurd on
lives-stay kind Back name body lives watched on = absurd on
lives-stay kind Same name body lives watched on = refl
lives-stay kind Kept name body lives watched on = refl
lives-stay kind Unasked name body lives watched on = refl
lives-stay kind Renewed name body lives watched on = refl
lives-stay kind (Refused rule) name body lives watched on = refl

all-on : (kind : Kind) (response : ResponseParts) (versions : List KeptVersion) (lives : List Live) (rows : List GenRow) → is_by_name kind ≡ true
    → ((name : List ℕ) → is_watched lives kind name ≡ list_any (depends_on (named kind name)) rows) → (items : List ItemParts) → AreOnValues kind rows (verdicts_from kind response versions lives items) items
all-on kind response versions lives rows by_name watched [] = tt
all-on kind response versions lives rows by_name watched (item ∷ items) =
    let on = verdict-on kind response lives versions item by_name in
    let verdict = verdict_of kind response lives versions item in (
      subst (IsOnValue verdict) (watched item.name) on,
      subst (λ (ls : List Live). AreOnValues kind rows (verdicts_from kind response versions ls items) items)
          (sym (lives-stay kind verdict item.name item.body lives (is_watched lives kind item.name) on)) (all-on kind response versions lives rows by_name watched items),
    )

-- the names that live rows depend on are the same once rows of what is asked for by name are left out: there are none
-- that depend on any
none-needed : (kind : Kind) (name : List ℕ) (content : Content) → is_by_name (content_kind content) ≡ true → has_dependency kind name content ≡ false
none-needed kind name (a_cluster cluster) h = absurd (true≢false (sym h))
none-needed kind name (an_assignment rows) h = refl
none-needed kind name (a_listener listener) h = absurd (true≢false (sym h))
none-needed kind name (routes table) h = refl
none-needed kind name a_secret h = refl
none-needed kind name an_extension h = refl

watched-left : (kind : Kind) (response : ResponseParts) (name : List ℕ) (rows : List GenRow) → is_by_name kind ≡ true → AllByRecursion (λ (r : GenRow). content_kind r.content ≡ r.kind) rows
    → is_watched (lives_left kind response (map live_of (live_rows rows))) kind name ≡ is_watched (map live_of (live_rows rows)) kind name
watched-left kind response name [] named all = refl
watched-left kind response name (row ∷ rows) named all = over (is_live row.status) (watched-left kind response name rows named all.1)
  where
    by : (a b : Bool) → kind_same row.kind kind ≡ a → is_watched (lives_left kind response (map live_of (live_rows rows))) kind name ≡ is_watched (map live_of (live_rows rows)) kind name
        → is_watched (cond (not (a && b)) (live_of row ∷ lives_left kind response (map live_of (live_rows rows))) (lives_left kind response (map live_of (live_rows rows)))) kind name
        ≡ (has_dependency kind name row.content || is_watched (map live_of (live_rows rows)) kind name)
    by false b e rest = ap (λ w. has_dependency kind name row.content || w) rest
    by true false e rest = ap (λ w. has_dependency kind name row.content || w) rest
    by true true e rest =
        rest ∙ (λ i. sym (none-needed kind name row.content ((λ j. is_by_name ((all.0 ∙ (kind_decides row.kind kind).0 e) j)) ∙ named)) i || is_watched (map live_of (live_rows rows)) kind name)

    over : (l : Bool) → is_watched (lives_left kind response (map live_of (live_rows rows))) kind name ≡ is_watched (map live_of (live_rows rows)) kind name
        → is_watched (lives_left kind response (map live_of (cond l (row ∷ live_rows rows) (live_rows rows)))) kind name ≡ is_watched (map live_of (cond l (row ∷ live_rows rows) (live_rows rows))) kind name
    over true rest = by (kind_same row.kind kind) (is_removed response row.name) refl rest
    over false rest = rest

pub values-judged : (s : State) (response : ResponseParts) (world : World) (kind : Kind) → is_by_name kind ≡ true → response.kind ≡ Some kind → HasRows s world
    → AreOnValues kind s.table.rows (verdicts_of (lives_of world) world.versions response) response.items
values-judged s response world kind by_name typed stands =
    subst (λ (o : Option Kind). AreOnValues kind s.table.rows (verdicts_by o (lives_of world) world.versions response) response.items) (sym typed)
    (all-on kind response world.versions (lives_left kind response (lives_of world)) s.table.rows by_name
    (λ name. watched-left kind response name world.rows by_name stands.sound.typed ∙ watched-same s world stands (named kind name)) response.items)

-- a verdict on a cluster or listener
against-on : (o : Option Live) (content : Content) → IsOnRow (against o content)
against-on None content = tt
against-on (Some live) content = same-on (content_same live.content content)
  where
    same-on : (b : Bool) → IsOnRow (cond b Same New)
    same-on true = tt
    same-on false = tt

-- a verdict on a listener by the one that serves
update-on : (active update : Listener) → IsOnRow (update_verdict active update)
update-on active update = by (returns_to active update) (changes_chains active update)
  where
    by : (b c : Bool) → IsOnRow (cond b Back (cond c InPlace New))
    by true c = tt
    by false true = tt
    by false false = tt

content-on : (active update : Content) → IsOnRow (content_verdict active update)
content-on (a_listener active) (a_listener update) = update-on active update
content-on active update = tt

serving-on : (serving : Option Live) (content : Content) → IsOnRow (serving_verdict serving content)
serving-on None content = tt
serving-on (Some live) content = content-on live.content content

listener-on : (newest serving : Option Live) (content : Content) → IsOnRow (listener_verdict newest serving content)
listener-on None serving content = tt
listener-on (Some live) serving content = by (content_same live.content content)
  where
    by : (b : Bool) → IsOnRow (cond b Same (serving_verdict serving content))
    by true = tt
    by false = serving-on serving content

row-on : (kind : Kind) (lives : List Live) (versions : List KeptVersion) (item : ItemParts) (body : Body) → is_by_name kind ≡ false → IsOnRow (body_verdict kind lives versions item body)
row-on kind lives versions item (Bad rule) rows = tt
row-on kind lives versions item Beat rows = by (is_kept versions kind item.name item.version)
  where
    by : (b : Bool) → IsOnRow (cond b Renewed Unasked)
    by true = tt
    by false = tt
row-on kind lives versions item (Good content) rows = by kind rows
  where
    taken : (b : Bool) → IsOnRow (cond b (Refused 15) (listener_verdict (newest_of lives Lds item.name) (serving_of lives Lds item.name) content))
    taken true = tt
    taken false = listener-on (newest_of lives Lds item.name) (serving_of lives Lds item.name) content

    by : (k : Kind) → is_by_name k ≡ false → IsOnRow (good_verdict k lives item.name content)
    by Cds h = against-on (newest_of lives Cds item.name) content
    by Lds h = taken (is_taken lives item.name content)
    by k h = absurd (true≢false h)

rows-on : (kind : Kind) (response : ResponseParts) (versions : List KeptVersion) (lives : List Live) → is_by_name kind ≡ false → (items : List ItemParts)
    → AreOnRows (verdicts_from kind response versions lives items)
rows-on kind response versions lives rows [] = tt
rows-on kind response versions lives rows (item ∷ items) =
    (one (rule_of kind response lives versions item), rows-on kind response versions (lives_after kind (verdict_of kind response lives versions item) item.name item.body lives) rows items)
  where
    one : (o : Option ℕ) → IsOnRow (verdict_by o kind lives versions item)
    one None = row-on kind lives versions item item.body rows
    one (Some rule) = tt

pub rows-judged : (response : ResponseParts) (world : World) (kind : Kind) → is_by_name kind ≡ false → response.kind ≡ Some kind
    → AreOnRows (verdicts_of (lives_of world) world.versions response)
rows-judged response world kind rows typed =
    subst (λ (o : Option Kind). AreOnRows (verdicts_by o (lives_of world) world.versions response)) (sym typed)
    (rows-on kind response world.versions (lives_left kind response (lives_of world)) rows response.items)

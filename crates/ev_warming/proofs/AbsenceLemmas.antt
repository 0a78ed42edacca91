-- What a response of what is asked for by name does to a world that a state represents.
use Rattle.std.proofs.Common.{◌≡◌, ◌∙◌, ◌+◌, ◌<◌, ℕ, Bool, true, false, cond, ◌&&◌, ◌||◌, List, [], ◌∷◌, ◌++◌, map, filter, length, take, get_or, refl, sym, ap, subst, true≢false, append-nil, append_assoc}
use Rattle.std.specs.List.{list_any, AllByRecursion}
use Rattle.std.specs.Str.{bytes_eq}
use Rattle.std.proofs.lemmas.List.{take_more, map-append}
use Rattle.std.proofs.lemmas.List.Elements.{filter-append}
use Rattle.std.proofs.lemmas.List.Folds.{list_any_at}
use Rattle.ev_types.specs.Kinds.{is_by_name}
use Rattle.ev_types.specs.Items.{ResponseParts}
use Rattle.ev_types.specs.Same.{bytes_decide}
use Rattle.ev_types.specs.Statuses.{is_live}
use Rattle.ev_types.specs.Texts.{IsName}
use Rattle.ev_types.specs.declared.contents.Kind.{Kind}
use Rattle.ev_types.specs.declared.contents.Kind.TheVariants.{Cds, Lds}
use Rattle.ev_types.specs.declared.rows.Arrival.{Arrival}
use Rattle.ev_types.specs.declared.rows.Arrival.TheVariants.{Absent, Bad as bad}
use Rattle.ev_types.specs.declared.rows.GenRow.{GenRow}
use Rattle.ev_model.specs.World.{World, Arrived}
use Rattle.ev_model.specs.Live.{lives_of}
use Rattle.ev_model.specs.Watching.{is_watched, dependencies_of, Dependency}
use Rattle.ev_model.specs.Verdicts.{is_among, is_removed}
use Rattle.ev_model.specs.Rows.{arrived, versions_left, with_removals, refuse}
use Rattle.ev_lookups.specs.Keys.{key_decides, named}
use Rattle.ev_lookups.specs.declared.kind_keys.Key.{Key}
use Rattle.ev_indexes.specs.declared.state.State.{State}
use Rattle.ev_indexes.specs.Indexes.{depends_on}
use Rattle.ev_indexes.specs.Worlds.{HasRows}
use Rattle.ev_indexes.specs.Needs.{HaveNames, is_needed, is_on, key_of}
use Rattle.ev_warming.specs.Changes.{is_unlisted}
use Rattle.ev_warming.specs.Arrivals.{told_where}
use Rattle.ev_warming.specs.Worlds.{with_removals_told}
use Rattle.ev_warming.proofs.ForgottenLemmas.{watched-same}
use Rattle.ev_warming.proofs.ResponseLemmas.{versions-stand}

-- nothing depends on a text that is no name
pub unneeded : (q : Key) → (IsName q.name → ⊥) → (rows : List GenRow) → AllByRecursion (λ (r : GenRow). HaveNames (dependencies_of r.content)) rows → list_any (depends_on q) rows ≡ false
unneeded q no_name [] all = refl
unneeded q no_name (row ∷ rows) all = (λ i. by (is_live row.status) (dependencies_of row.content) all.0 i || list_any (depends_on q) rows) ∙ unneeded q no_name rows all.1
  where
    over : (d : Dependency) → IsName d.name → (b : Bool) → is_on q d ≡ b → b ≡ false
    over d named true e = absurd (no_name (subst (λ (k : Key). IsName k.name) ((key_decides (key_of d) q).0 e) named))
    over d named false e = refl

    none : (ds : List Dependency) → HaveNames ds → is_needed q ds ≡ false
    none [] named = refl
    none (d ∷ ds) named = (λ i. over d named.0 (is_on q d) refl i || is_needed q ds) ∙ none ds named.1

    by : (l : Bool) (ds : List Dependency) → HaveNames ds → (l && is_needed q ds) ≡ false
    by false ds named = refl
    by true ds named = none ds named

-- the test of an absence
abbrev is_absent : ResponseParts → Kind → World → List ℕ → Bool
is_absent response kind world name = is_removed response name && is_watched (lives_of world) kind name

-- the arrivals after the absences of these names
abbrev pub with_absent : ResponseParts → Kind → World → List (List ℕ) → World
with_absent response kind world names = record world { arrivals = world.arrivals ++ map (arrived world.made kind Absent) (filter (is_absent response kind world) names) }

absent-one : (made : ℕ) (kind : Kind) (name : List ℕ) (b : Bool) → map (arrived made kind Absent) (cond b (name ∷ []) []) ≡ cond b (arrived made kind Absent name ∷ []) []
absent-one made kind name true = refl
absent-one made kind name false = refl

told-is : (b : Bool) (kind : Kind) (name : List ℕ) (world : World) (before : List Arrived)
    → told_where b kind Absent name (record world { arrivals = world.arrivals ++ before }) ≡ record world { arrivals = world.arrivals ++ (before ++ cond b (arrived world.made kind Absent name ∷ []) []) }
told-is true kind name world before = λ i. record world { arrivals = append_assoc world.arrivals before (arrived world.made kind Absent name ∷ []) i }
told-is false kind name world before = λ i. record world { arrivals = world.arrivals ++ sym (append-nil before) i }

pub absent-more : (s t : State) (world : World) (response : ResponseParts) (kind : Kind) (rows : List GenRow) (i : ℕ) (name : List ℕ)
    → i < length response.removed → name ≡ get_or response.removed i name
    → is_watched (lives_of world) kind name ≡ list_any (depends_on (named kind name)) rows
    → HasRows s (with_absent response kind world (take i response.removed))
    → ((w : World) → HasRows s w → HasRows t (told_where (is_unlisted response name && list_any (depends_on (named kind name)) rows) kind Absent name w))
    → HasRows t (with_absent response kind world (take (i + 1) response.removed))
absent-more s t world response kind rows i name within is watched before step =
    subst (HasRows t)
    ((λ j. told_where (sym test j) kind Absent name (with_absent response kind world (take i response.removed)))
    ∙ told-is (is_absent response kind world name) kind name world (map (arrived world.made kind Absent) (filter (is_absent response kind world) (take i response.removed)))
    ∙ (λ j. record world { arrivals = world.arrivals ++ sym more j }))
    (step (with_absent response kind world (take i response.removed)) before)
  where
    among : is_among name response.removed ≡ true
    among = list_any_at (λ n. bytes_eq n name) response.removed i name within ((λ j. bytes_eq (sym is j) name) ∙ (bytes_decide name name).1 refl)

    test : is_absent response kind world name ≡ (is_unlisted response name && list_any (depends_on (named kind name)) rows)
    test = λ j. (among j && is_unlisted response name) && watched j

    more : map (arrived world.made kind Absent) (filter (is_absent response kind world) (take (i + 1) response.removed))
        ≡ map (arrived world.made kind Absent) (filter (is_absent response kind world) (take i response.removed)) ++ cond (is_absent response kind world name) (arrived world.made kind Absent name ∷ []) []
    more =
        (λ j. map (arrived world.made kind Absent) (filter (is_absent response kind world) (take_more response.removed i name within j)))
        ∙ (λ j. map (arrived world.made kind Absent) (filter (is_absent response kind world) (take i response.removed ++ sym is j ∷ [])))
        ∙ ap (map (arrived world.made kind Absent)) (filter-append (is_absent response kind world) (take i response.removed) (name ∷ []))
        ∙ map-append (arrived world.made kind Absent) (filter (is_absent response kind world) (take i response.removed)) (filter (is_absent response kind world) (name ∷ []))
        ∙ ap (λ xs. map (arrived world.made kind Absent) (filter (is_absent response kind world) (take i response.removed)) ++ xs) (absent-one world.made kind name (is_absent response kind world name))

pub absent-none : (s : State) (world : World) (response : ResponseParts) (kind : Kind) → HasRows s world → HasRows s (with_absent response kind world [])
absent-none s world response kind stands = subst (λ (came : List Arrived). HasRows s (record world { arrivals = came })) (sym (append-nil world.arrivals)) stands

-- removals, where versions are left aside
removals-are : (kind : Kind) (response : ResponseParts) (world : World) → is_by_name kind ≡ true
    → record (with_removals_told kind response world) { versions = versions_left kind response world.versions } ≡ with_removals kind response world
removals-are Cds response world h = absurd (true≢false (sym h))
removals-are Lds response world h = absurd (true≢false (sym h))
removals-are kind response world h = refl

pub removals-told : (s : State) (world : World) (kind : Kind) (response : ResponseParts) → is_by_name kind ≡ true
    → HasRows s (with_removals_told kind response world) → HasRows s (with_removals kind response world)
removals-told s world kind response by_name stands =
    subst (HasRows s) (removals-are kind response world by_name)
    (versions-stand s (with_removals_told kind response world) (versions_left kind response world.versions) stands)

-- a refusal
refusal-is : (kind : Kind) (name : List ℕ) (world : World) → is_by_name kind ≡ true
    → told_where (is_watched (lives_of world) kind name) kind bad name world ≡ refuse kind name world
refusal-is Cds name world h = absurd (true≢false (sym h))
refusal-is Lds name world h = absurd (true≢false (sym h))
refusal-is kind name world h = refl

pub refusal-stands : (s t : State) (world : World) (kind : Kind) (name : List ℕ) → is_by_name kind ≡ true → HasRows s world
    → HasRows t (told_where (list_any (depends_on (named kind name)) s.table.rows) kind bad name world) → HasRows t (refuse kind name world)
refusal-stands s t world kind name by_name stands told =
    subst (HasRows t) ((λ i. told_where (sym (watched-same s world stands (named kind name)) i) kind bad name world) ∙ refusal-is kind name world by_name) told

-- nothing came
pub quiet-stands : (s : State) (world : World) (b : Bool) (kind : Kind) (arrival : Arrival) (name : List ℕ) → b ≡ false → HasRows s world → HasRows s (told_where b kind arrival name world)
quiet-stands s world b kind arrival name e stands = subst (λ (w : Bool). HasRows s (told_where w kind arrival name world)) (sym e) stands

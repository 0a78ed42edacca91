-- What requests ask for and give up of a kind.
use Rattle.std.proofs.Common.{◌≡◌, ◌∙◌, ℕ, Bool, true, false, cond, ◌||◌, List, [], ◌∷◌, ◌++◌, refl, ap}
use Rattle.std.specs.List.{flat_map, list_any}
use Rattle.std.specs.Str.{bytes_eq}
use Rattle.std.proofs.lemmas.Bool.{false≢true}
use Rattle.std.proofs.lemmas.List.{append-nil}
use Rattle.std.proofs.lemmas.List.Folds.{list_any-append}
use Rattle.std.proofs.lemmas.Grind.{flat_map-append}
use Rattle.ev_types.specs.Kinds.{kind_same, is_by_name}
use Rattle.ev_types.specs.declared.contents.Kind.{Kind}
use Rattle.ev_types.specs.declared.contents.Kind.TheVariants.{Cds, Eds, Lds, Rds, Sds, Ecds}
use Rattle.ev_types.specs.declared.contents.Request.{Request}
use Rattle.ev_types.specs.declared.rows.KeptVersion.{KeptVersion}
use Rattle.ev_types.specs.declared.rows.Live.{Live}
use Rattle.ev_model.specs.Live.{lives_of}
use Rattle.ev_model.specs.Requests.{Watched, names_request, whole_request, whole_requests, listeners_asked, clusters_request, connect_requests_by, other_than, watch_change, watch_changes, changes_asked}
use Rattle.ev_model.specs.Verdicts.{is_among}
use Rattle.ev_model.specs.Watching.{Dependency, dependencies_of, is_dependency, is_watched, kinds_before, kinds_behind, names_awaited, watched_of}
use Rattle.ev_model.specs.Versions.{versions_of}
use Rattle.ev_model.specs.World.{World}
use Rattle.ev_model_laws.proofs.TidyLists.{any_of_map}
use Rattle.ev_sotw.proofs.NameSetLemmas.{among_sorted}

-- what a request asks for, or gives up, of a kind
abbrev pub part_by : Bool → Kind → Request → List (List ℕ)
part_by new kind request = cond (kind_same request.kind kind) (cond new request.subscribe request.unsubscribe) []

abbrev pub parts_by : Bool → Kind → List Request → List (List ℕ)
parts_by new kind requests = flat_map (part_by new kind) requests

pub nothing_by : (mine new : Bool) → [] ≡ cond {A = List (List ℕ)} mine (cond new [] []) []
nothing_by true true = refl
nothing_by true false = refl
nothing_by false new = refl

names_parts : (new : Bool) (kind of : Kind) (subscribe unsubscribe : List (List ℕ)) (versions : List (List ℕ × List ℕ))
    → parts_by new kind (names_request of subscribe unsubscribe versions) ≡ cond (kind_same of kind) (cond new subscribe unsubscribe) []
names_parts new kind of [] [] versions = nothing_by (kind_same of kind) new
names_parts new kind of [] (name ∷ names) versions = append-nil (cond (kind_same of kind) (cond new [] (name ∷ names)) [])
names_parts new kind of (name ∷ names) unsubscribe versions = append-nil (cond (kind_same of kind) (cond new (name ∷ names) unsubscribe) [])

listeners_none : (new : Bool) (kind : Kind) → is_by_name kind ≡ true → (asked : Bool) (versions : List KeptVersion) → parts_by new kind (listeners_asked asked versions) ≡ []
listeners_none new Cds by_name asked versions = absurd (false≢true by_name)
listeners_none new Lds by_name asked versions = absurd (false≢true by_name)
listeners_none new Eds by_name true versions = refl
listeners_none new Eds by_name false versions = refl
listeners_none new Rds by_name true versions = refl
listeners_none new Rds by_name false versions = refl
listeners_none new Sds by_name true versions = refl
listeners_none new Sds by_name false versions = refl
listeners_none new Ecds by_name true versions = refl
listeners_none new Ecds by_name false versions = refl

three : (new : Bool) (kind : Kind) → is_by_name kind ≡ true → (endpoints asked routes : List Request) → parts_by new kind asked ≡ []
    → parts_by new kind (endpoints ++ (asked ++ routes)) ≡ parts_by new kind endpoints ++ parts_by new kind routes
three new kind by_name endpoints asked routes none =
    flat_map-append (part_by new kind) endpoints (asked ++ routes)
    ∙ ap (λ ns. parts_by new kind endpoints ++ ns) (flat_map-append (part_by new kind) asked routes ∙ ap (λ ns. ns ++ parts_by new kind routes) none)

-- what a change of the watched names asks for, and gives up
abbrev pub changed : Bool → List (List ℕ) → List (List ℕ) → List (List ℕ)
changed new before after = cond new (other_than before after) (other_than after before)

-- what is asked for of a kind, where requests are made kind after kind
parts_of : (new : Bool) (kind : Kind) (f : Kind → List Request) (names : Kind → List (List ℕ)) → ((k : Kind) → parts_by new kind (f k) ≡ cond (kind_same k kind) (names k) [])
    → (kinds : List Kind) → parts_by new kind (flat_map f kinds) ≡ flat_map (λ k. cond (kind_same k kind) (names k) []) kinds
parts_of new kind f names one [] = refl
parts_of new kind f names one (k ∷ kinds) = flat_map-append (part_by new kind) (f k) (flat_map f kinds) ∙ (λ i. one k i ++ parts_of new kind f names one kinds i)

-- each kind stands once in the two lists
once : (kind : Kind) → is_by_name kind ≡ true → (names : Kind → List (List ℕ))
    → flat_map (λ k. cond (kind_same k kind) (names k) []) kinds_before ++ flat_map (λ k. cond (kind_same k kind) (names k) []) kinds_behind ≡ names kind
once Cds by_name names = absurd (false≢true by_name)
once Eds by_name names = append-nil (names Eds ++ []) ∙ append-nil (names Eds)
once Lds by_name names = absurd (false≢true by_name)
once Rds by_name names = append-nil (names Rds)
once Sds by_name names = append-nil (names Sds)
once Ecds by_name names = append-nil (names Ecds)

pub change_parts : (new : Bool) (kind : Kind) → is_by_name kind ≡ true → (before after : Watched) (asked : Bool) (versions : List KeptVersion)
    → parts_by new kind (changes_asked before after asked versions) ≡ changed new (before kind) (after kind)
change_parts new kind by_name before after asked versions =
    three new kind by_name (watch_changes kinds_before before after) (listeners_asked asked versions) (watch_changes kinds_behind before after)
    (listeners_none new kind by_name asked versions)
    ∙ (λ i. of kinds_before i ++ of kinds_behind i)
    ∙ once kind by_name (λ k. changed new (before k) (after k))
  where
    of : (kinds : List Kind) → parts_by new kind (watch_changes kinds before after) ≡ flat_map (λ k. cond (kind_same k kind) (changed new (before k) (after k)) []) kinds
    of = parts_of new kind (λ k. watch_change k (before k) (after k)) (λ k. changed new (before k) (after k))
        (λ k. names_parts new kind k (other_than (before k) (after k)) (other_than (after k) (before k)) [])

clusters_none : (kind : Kind) → is_by_name kind ≡ true → (node : List ℕ) (versions : List KeptVersion) → part_by true kind (clusters_request node versions) ≡ []
clusters_none Cds by_name node versions = absurd (false≢true by_name)
clusters_none Eds by_name node versions = refl
clusters_none Lds by_name node versions = absurd (false≢true by_name)
clusters_none Rds by_name node versions = refl
clusters_none Sds by_name node versions = refl
clusters_none Ecds by_name node versions = refl

-- what a stream that opens asks for
pub connect_parts : (kind : Kind) → is_by_name kind ≡ true → (node : List ℕ) (watched : Watched) (asked : Bool) (versions : List KeptVersion)
    → parts_by true kind (connect_requests_by node watched asked versions) ≡ watched kind
connect_parts kind by_name node watched asked versions =
    ap (λ ns. ns ++ parts_by true kind (whole_requests kinds_before watched versions ++ (listeners_asked asked versions ++ whole_requests kinds_behind watched versions)))
    (clusters_none kind by_name node versions)
    ∙ three true kind by_name (whole_requests kinds_before watched versions) (listeners_asked asked versions) (whole_requests kinds_behind watched versions)
    (listeners_none true kind by_name asked versions)
    ∙ (λ i. of kinds_before i ++ of kinds_behind i)
    ∙ once kind by_name watched
  where
    of : (kinds : List Kind) → parts_by true kind (whole_requests kinds watched versions) ≡ flat_map (λ k. cond (kind_same k kind) (watched k) []) kinds
    of = parts_of true kind (λ k. whole_request k (watched k) versions) watched (λ k. names_parts true kind k (watched k) [] (versions_of k versions))

-- ---- names that are watched

or_same : (a b c d : Bool) → a ≡ b → c ≡ d → (a || c) ≡ (b || d)
or_same a b c d p q = λ i. p i || q i

awaited_is : (kind : Kind) (name : List ℕ) (ds : List Dependency) → is_among name (names_awaited kind ds) ≡ list_any (is_dependency kind name) ds
awaited_is kind name ds = any_of_map (λ n. bytes_eq n name) (λ (d : Dependency). d.name) (λ (d : Dependency). kind_same d.kind kind) ds

any_awaited : (kind : Kind) (name : List ℕ) (lives : List Live)
    → is_among name (flat_map (λ (live : Live). names_awaited kind (dependencies_of live.content)) lives) ≡ is_watched lives kind name
any_awaited kind name [] = refl
any_awaited kind name (live ∷ lives) =
    list_any-append (λ n. bytes_eq n name) (names_awaited kind (dependencies_of live.content))
    (flat_map (λ (live : Live). names_awaited kind (dependencies_of live.content)) lives)
    ∙ or_same _ _ _ _ (awaited_is kind name (dependencies_of live.content)) (any_awaited kind name lives)

-- a name is among those that are watched where it is watched
pub among_watched : (world : World) (kind : Kind) (name : List ℕ) → is_among name (watched_of world kind) ≡ is_watched (lives_of world) kind name
among_watched world kind name =
    among_sorted (flat_map (λ (live : Live). names_awaited kind (dependencies_of live.content)) (lives_of world)) name ∙ any_awaited kind name (lives_of world)

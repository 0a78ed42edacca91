-- The requests of kind after kind.
use Rattle.std.proofs.Common.{◌≡◌, ◌∙◌, ℕ, ◌+◌, ◌<◌, List, [], ◌∷◌, ◌++◌, length, take, get_or, sym, ap}
use Rattle.std.specs.List.{flat_map}
use Rattle.std.proofs.lemmas.List.{flat_map_more, take_more}
use Rattle.std.proofs.lemmas.List.Folds.{flat_map-map}
use Rattle.ev_types.specs.declared.contents.Kind.{Kind}
use Rattle.ev_types.specs.declared.contents.Request.{Request}
use Rattle.ev_types.specs.declared.rows.KeptVersion.{KeptVersion}
use Rattle.ev_model.specs.Requests.{Watched, watch_changes, whole_requests}
use Rattle.ev_subscription.specs.Asked.{change_of, change_request, changes_of, names_by, whole_of}
use Rattle.ev_subscription.specs.declared.changes.NameChange.{NameChange}
use Rattle.ev_subscription.specs.declared.changes.WatchedNames.{WatchedNames}

-- one element more is asked for
pub asked-more : {X : Type 0} (f : X → List Request) (requests : List Request) (xs : List X) (i : ℕ) (x : X) → i < length xs → x ≡ get_or xs i x
    → (requests ++ flat_map f (take i xs)) ++ f x ≡ requests ++ flat_map f (take (i + 1) xs)
asked-more f requests xs i x within is =
    flat_map_more f requests (take i xs) x
    ∙ (λ j. requests ++ flat_map f (take i xs ++ is j ∷ []))
    ∙ ap (λ ys. requests ++ flat_map f ys) (sym (take_more xs i x within))

-- the names of each kind are asked for
pub wholes-by : (kinds : List Kind) (watched : Watched) (versions : List KeptVersion) (given : List WatchedNames) → given ≡ names_by kinds watched
    → flat_map (whole_of versions) given ≡ whole_requests kinds watched versions
wholes-by kinds watched versions given are =
    ap (flat_map (whole_of versions)) are ∙ flat_map-map (whole_of versions) (λ (kind : Kind). record { kind = kind; names = watched kind }) kinds

-- the changes of the names of each kind are asked for
pub changes-by : (kinds : List Kind) (before after : Watched) (given : List NameChange) → given ≡ changes_of kinds before after
    → flat_map change_request given ≡ watch_changes kinds before after
changes-by kinds before after given are =
    ap (flat_map change_request) are ∙ flat_map-map change_request (change_of before after) kinds

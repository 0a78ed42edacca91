-- The versions of names that ceased to be watched.
use Rattle.std.proofs.Common.{◌≡◌, ℕ, ◌+◌, ◌<◌, Bool, true, false, not, ◌&&◌, ◌||◌, cond, List, [], ◌∷◌, ◌++◌, filter, length, take, get_or, refl, sym, ap, ◌∙◌}
use Rattle.std.specs.List.{AllByRecursion}
use Rattle.std.specs.Str.{bytes_eq}
use Rattle.std.proofs.lemmas.Bool.{false≢true}
use Rattle.std.proofs.lemmas.List.Folds.{list_any_more}
use Rattle.ev_types.specs.Kinds.{kind_same}
use Rattle.ev_types.specs.declared.contents.Kind.{Kind}
use Rattle.ev_types.specs.declared.rows.KeptVersion.{KeptVersion}
use Rattle.ev_model.specs.World.{World}
use Rattle.ev_model.specs.Live.{lives_of}
use Rattle.ev_model.specs.Tidy.{is_version_due, without_unwatched}
use Rattle.ev_model.specs.Verdicts.{is_among}
use Rattle.ev_model.specs.Versions.{is_version_of, without_version}
use Rattle.ev_subscription.specs.Subscriptions.{AreEnded, HasVersions, SubscriptionParts, has_ended, without_ended, without_versions}
use Rattle.ev_subscription.specs.declared.changes.NameChange.{NameChange}
use Rattle.ev_subscription.proofs.KindLemmas.{all_kept, among_more, both_filters, names_more, same_filter}
use Rattle.ev_subscription.proofs.ResponseLemmas.{stands_as}

-- a version of none of these names of the kind
abbrev is_other : Kind → List (List ℕ) → KeptVersion → Bool
is_other kind names kept = not (kind_same kept.kind kind && is_among kept.name names)

none_named : (k : Bool) → not (k && false) ≡ true
none_named true = refl
none_named false = refl

-- before the first name all are left
pub unforgotten : (kind : Kind) (versions : List KeptVersion) → without_versions kind [] versions ≡ versions
unforgotten kind versions = all_kept (is_other kind []) (λ kept. none_named (kind_same kept.kind kind)) versions

-- one name more is forgotten
pub forgotten_more : (kind : Kind) (names : List (List ℕ)) (i : ℕ) (name text : List ℕ) (versions : List KeptVersion)
    → i < length names → name ≡ get_or names i name → text ≡ name
    → without_version kind text (without_versions kind (take i names) versions) ≡ without_versions kind (take (i + 1) names) versions
forgotten_more kind names i name text versions within is same =
    ap (λ t. without_version kind t (without_versions kind (take i names) versions)) same
    ∙ both_filters (λ (kept : KeptVersion). not (is_version_of kind name kept)) (is_other kind (take i names)) versions
    ∙ same_filter (λ (kept : KeptVersion). is_other kind (take i names) kept && not (is_version_of kind name kept)) (is_other kind (take i names ++ name ∷ [])) one versions
    ∙ sym (ap (λ ns. without_versions kind ns versions) (names_more names i name within is))
  where
    by : (k m b : Bool) → (not (k && m) && not (k && b)) ≡ not (k && (m || b))
    by true true b = refl
    by true false b = refl
    by false m b = refl

    one : (kept : KeptVersion) → (is_other kind (take i names) kept && not (is_version_of kind name kept)) ≡ is_other kind (take i names ++ name ∷ []) kept
    one kept =
        by (kind_same kept.kind kind) (is_among kept.name (take i names)) (bytes_eq kept.name name)
        ∙ ap (λ m. not (kind_same kept.kind kind && m)) (sym (among_more (take i names) name kept.name))

-- before the first change all are left
pub unended : (versions : List KeptVersion) → without_ended [] versions ≡ versions
unended versions = all_kept (λ (kept : KeptVersion). not (has_ended [] kept)) (λ kept. refl) versions

-- the names of one change more are forgotten
pub ended_more : (changes : List NameChange) (i : ℕ) (change : NameChange) (versions : List KeptVersion) → i < length changes → change ≡ get_or changes i change
    → without_versions change.kind change.ended (without_ended (take i changes) versions) ≡ without_ended (take (i + 1) changes) versions
ended_more changes i change versions within is =
    both_filters (is_other change.kind change.ended) (λ (kept : KeptVersion). not (has_ended (take i changes) kept)) versions
    ∙ same_filter (λ (kept : KeptVersion). not (has_ended (take i changes) kept) && is_other change.kind change.ended kept) (λ (kept : KeptVersion). not (has_ended (take (i + 1) changes) kept)) one versions
  where
    by : (a b : Bool) → (not a && not b) ≡ not (a || b)
    by true b = refl
    by false b = refl

    one : (kept : KeptVersion) → (not (has_ended (take i changes) kept) && is_other change.kind change.ended kept) ≡ not (has_ended (take (i + 1) changes) kept)
    one kept =
        by (has_ended (take i changes) kept) (kind_same kept.kind change.kind && is_among kept.name change.ended)
        ∙ ap not (sym (list_any_more (λ (c : NameChange). kind_same kept.kind c.kind && is_among kept.name c.ended) changes i change within
        ∙ (λ j. has_ended (take i changes) kept || (kind_same kept.kind (sym is j).kind && is_among kept.name (sym is j).ended))))

-- where these versions ceased to be watched, what is forgotten is what isn't watched
pub unwatched_stand : (s : SubscriptionParts) (before behind : List NameChange) (world : World) → AreEnded before behind world
    → HasVersions s (record world { versions = without_ended behind (without_ended before world.versions) })
    → HasVersions s (without_unwatched world)
unwatched_stand s before behind world ended stands =
    stands_as s (record world { versions = without_ended behind (without_ended before world.versions) }) (without_unwatched world)
    (record {
      node = refl;
      stream = refl;
      versions = both_filters (λ (kept : KeptVersion). not (has_ended behind kept)) (λ (kept : KeptVersion). not (has_ended before kept)) world.versions ∙ due (world.versions) ended;
    }) stands
  where
    by : (a b d : Bool) → (a || b) ≡ not d → (not a && not b) ≡ d
    by true b true h = absurd (false≢true (sym h))
    by true b false h = refl
    by false true true h = absurd (false≢true (sym h))
    by false true false h = refl
    by false false true h = refl
    by false false false h = absurd (false≢true h)

    due : (versions : List KeptVersion) → AllByRecursion (λ (kept : KeptVersion). (has_ended before kept || has_ended behind kept) ≡ not (is_version_due (lives_of world) kept)) versions
        → filter (λ (kept : KeptVersion). not (has_ended before kept) && not (has_ended behind kept)) versions ≡ filter (is_version_due (lives_of world)) versions
    due [] all = refl
    due (kept ∷ versions) all = λ i. cond (by (has_ended before kept) (has_ended behind kept) (is_version_due (lives_of world) kept) all.0 i) (kept ∷ due versions all.1 i) (due versions all.1 i)

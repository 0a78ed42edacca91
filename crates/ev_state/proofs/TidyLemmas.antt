-- What is forgotten after an event: versions of the names that ceased to be watched.
use Rattle.std.proofs.Common.{◌≡◌, ℕ, Bool, true, false, not, ◌||◌, ◌&&◌, List, [], ◌∷◌, ◌++◌, refl, sym, ap, ◌∙◌}
use Rattle.std.specs.List.{All, AllByRecursion as ByRecursion, list_any}
use Rattle.std.proofs.lemmas.Bool.{false≢true}
use Rattle.std.proofs.lemmas.List.Elements.{recursion_from_All}
use Rattle.std.proofs.lemmas.List.Folds.{list_any-append}
use Rattle.ev_types.specs.Kinds.{is_by_name, kind_same, kind_decides}
use Rattle.ev_types.specs.declared.contents.Kind.{Kind}
use Rattle.ev_types.specs.declared.contents.Kind.TheVariants.{Cds, Eds, Lds, Rds, Sds, Ecds}
use Rattle.ev_types.specs.declared.rows.KeptVersion.{KeptVersion}
use Rattle.ev_types.specs.declared.rows.Live.{Live}
use Rattle.ev_model.specs.World.{World}
use Rattle.ev_model.specs.Live.{lives_of}
use Rattle.ev_model.specs.Requests.{other_than}
use Rattle.ev_model.specs.Verdicts.{is_among}
use Rattle.ev_model.specs.Versions.{is_version_of}
use Rattle.ev_model.specs.Tidy.{is_version_due}
use Rattle.ev_model.specs.Watching.{is_watched, kinds_before, kinds_behind, watched_of}
use Rattle.ev_model_laws.proofs.AnyLemmas.{or_so}
use Rattle.ev_model_laws.proofs.VersionLemmas.{version_decides}
use Rattle.ev_subscription.specs.Asked.{changes_of}
use Rattle.ev_subscription.specs.Subscriptions.{AreEnded, has_ended}
use Rattle.ev_subscription.specs.declared.changes.NameChange.{NameChange}
use Rattle.ev_state.proofs.HeardLemmas.{IsDue}
use Rattle.ev_indexes.proofs.NameLemmas.{among_watched, among_other}

due_watched : (lives : List Live) (kind : Kind) (name : List ℕ) (kept : KeptVersion) → is_by_name kind ≡ true → IsDue lives kept
    → is_version_of kind name kept ≡ true → is_watched lives kind name ≡ true
due_watched lives kind name kept by_name due is =
    let same_kind : kept.kind ≡ kind = ((version_decides kind name kept).0 is).0 in
    let same_name : kept.name ≡ name = ((version_decides kind name kept).0 is).1 in
    let due_here : (not (is_by_name kind) || is_watched lives kind name) ≡ true =
    (λ i. not (is_by_name (sym same_kind i)) || is_watched lives (sym same_kind i) (sym same_name i)) ∙ due in
    or_so (not (is_by_name kind)) (is_watched lives kind name)
    (λ isnt. absurd (false≢true (sym (ap not by_name) ∙ isnt))) (λ watched. watched) due_here

pub found_watched : (lives : List Live) (kind : Kind) (name : List ℕ) (versions : List KeptVersion) → is_by_name kind ≡ true → ByRecursion (IsDue lives) versions
    → list_any (is_version_of kind name) versions ≡ true → is_watched lives kind name ≡ true
found_watched lives kind name [] by_name due there = absurd (false≢true there)
found_watched lives kind name (kept ∷ versions) by_name due there =
    or_so (is_version_of kind name kept) (list_any (is_version_of kind name) versions)
    (λ here. due_watched lives kind name kept by_name due.0 here) (λ rest. found_watched lives kind name versions by_name due.1 rest) there

-- the kinds whose resources are asked for by name are those before listeners and those behind them
listed : (kind : Kind) → list_any (kind_same kind) (kinds_before ++ kinds_behind) ≡ is_by_name kind
listed Cds = refl
listed Eds = refl
listed Lds = refl
listed Rds = refl
listed Sds = refl
listed Ecds = refl

-- of some kinds it is one of these, and the name ceased to be watched
ended_by : (kinds : List Kind) (before after : World) (kept : KeptVersion)
    → has_ended (changes_of kinds (watched_of before) (watched_of after)) kept
    ≡ (list_any (kind_same kept.kind) kinds && is_among kept.name (other_than (watched_of after kept.kind) (watched_of before kept.kind)))
ended_by [] before after kept = refl
ended_by (kind ∷ kinds) before after kept = by (kind_same kept.kind kind) refl (ended_by kinds before after kept)
  where
    left : Kind → Bool
    left k = is_among kept.name (other_than (watched_of after k) (watched_of before k))

    either : (a b : Bool) → (a || (b && a)) ≡ a
    either true b = refl
    either false true = refl
    either false false = refl

    by : (b : Bool) → kind_same kept.kind kind ≡ b
        → has_ended (changes_of kinds (watched_of before) (watched_of after)) kept ≡ (list_any (kind_same kept.kind) kinds && left kept.kind)
        → ((b && left kind) || has_ended (changes_of kinds (watched_of before) (watched_of after)) kept) ≡ ((b || list_any (kind_same kept.kind) kinds) && left kept.kind)
    by true is rest =
        (λ i. left (sym ((kind_decides kept.kind kind).0 is) i) || rest i) ∙ either (left kept.kind) (list_any (kind_same kept.kind) kinds)
    by false isnt rest = rest

-- the names that ceased to be watched are those of the versions that aren't due any more, where each was due before
module _ (before after : World) (first last : List NameChange)
    (are_first : first ≡ changes_of kinds_before (watched_of before) (watched_of after)) (are_last : last ≡ changes_of kinds_behind (watched_of before) (watched_of after)) where
  of_either : (a b c : Bool) → ((a && c) || (b && c)) ≡ ((a || b) && c)
  of_either true true true = refl
  of_either true false true = refl
  of_either false b c = refl
  of_either true true false = refl
  of_either true false false = refl

  -- by whether its kind is one that is asked for by name, and whether its name was watched and is watched
  by_tests : (by_name was is : Bool) → (not by_name || was) ≡ true → (by_name && (was && not is)) ≡ not (not by_name || is)
  by_tests true true is due = refl
  by_tests true false is due = absurd (false≢true due)
  by_tests false was is due = refl

  ended_one : (kept : KeptVersion) → IsDue (lives_of before) kept → (has_ended first kept || has_ended last kept) ≡ not (is_version_due (lives_of after) kept)
  ended_one kept due =
      (λ i. has_ended (are_first i) kept || has_ended (are_last i) kept)
      ∙ (λ i. ended_by kinds_before before after kept i || ended_by kinds_behind before after kept i)
      ∙ of_either (list_any (kind_same kept.kind) kinds_before) (list_any (kind_same kept.kind) kinds_behind)
      (is_among kept.name (other_than (watched_of after kept.kind) (watched_of before kept.kind)))
      ∙ (λ i. (sym (list_any-append (kind_same kept.kind) kinds_before kinds_behind) ∙ listed kept.kind) i && left i)
      ∙ by_tests (is_by_name kept.kind) (is_watched (lives_of before) kept.kind kept.name) (is_watched (lives_of after) kept.kind kept.name) due
    where
      left : is_among kept.name (other_than (watched_of after kept.kind) (watched_of before kept.kind))
          ≡ (is_watched (lives_of before) kept.kind kept.name && not (is_watched (lives_of after) kept.kind kept.name))
      left =
          among_other (watched_of after kept.kind) (watched_of before kept.kind) kept.name
          ∙ (λ i. among_watched (lives_of before) kept.kind kept.name i && not (among_watched (lives_of after) kept.kind kept.name i))

  ended_each : (versions : List KeptVersion) → ByRecursion (IsDue (lives_of before)) versions
      → ByRecursion (λ (kept : KeptVersion). (has_ended first kept || has_ended last kept) ≡ not (is_version_due (lives_of after) kept)) versions
  ended_each [] due = tt
  ended_each (kept ∷ versions) due = (ended_one kept due.0, ended_each versions due.1)

  pub are_ended : All (IsDue (lives_of before)) after.versions → AreEnded first last after
  are_ended due = ended_each after.versions (recursion_from_All (IsDue (lives_of before)) after.versions due)

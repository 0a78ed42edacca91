-- What a step for one thing that a content depends on does to what is known of names, and what the steps for all do.
use Rattle.std.proofs.Common.{◌≡◌, ◌∙◌, ℕ, Bool, true, false, cond, not, ◌&&◌, ◌||◌, List, [], ◌∷◌, None, Some, drop, refl, sym, subst}
use Rattle.std.specs.Prelude.{slice_get}
use Rattle.ev_types.specs.Same.{bool_same}
use Rattle.ev_types.specs.declared.contents.Content.{Content}
use Rattle.ev_model.specs.Watching.{Dependency, dependencies_of}
use Rattle.ev_lookups.specs.Keys.{key_same, key_decides}
use Rattle.ev_lookups.specs.declared.kind_keys.Key.{Key}
use Rattle.ev_indexes.specs.Needs.{HaveNames, is_need, is_needed, is_on, key_of, needs_of}
use Rattle.ev_indexes.specs.Watched.{WatchesKept, unwatched, watch_in, has_watcher, watched_too, watched_less, watched_for, unwatched_for, with_last}
use Rattle.ev_indexes.proofs.NeedLemmas.{any_needs, first-rest, first-none}
use Rattle.ev_indexes.proofs.WaitLemmas.{watched_for-more, unwatched_for-more}
use Rattle.ev_warming.specs.Arrivals.{WatchesNeeds, UnwatchesNeeds}
use Rattle.ev_warming.specs.Forgetting.{ForgetsNeeds}
use Rattle.ev_warming.proofs.ForgettingLemmas.{forgets-more}

-- a generation depends on one thing
pub watched-one : (number : ℕ) (d : Dependency) (q : Key) (old : WatchesKept)
    → cond (key_same (key_of d) q) (watched_too number d.limited (watch_in old (key_of d))) (watch_in old q) ≡ watched_for number q (d ∷ []) (watch_in old q)
watched-one number d q old = by (key_same (key_of d) q) refl d.limited
  where
    by : (b : Bool) → key_same (key_of d) q ≡ b → (l : Bool)
        → cond b (watched_too number l (watch_in old (key_of d))) (watch_in old q)
        ≡ record (watch_in old q) {
          unlimited = cond ((bool_same l false && b) || false) (with_last number (watch_in old q).unlimited) (watch_in old q).unlimited;
          limited = cond ((bool_same l true && b) || false) (with_last number (watch_in old q).limited) (watch_in old q).limited;
        }
    by true e true = λ i. watched_too number true (watch_in old ((key_decides (key_of d) q).0 e i))
    by true e false = λ i. watched_too number false (watch_in old ((key_decides (key_of d) q).0 e i))
    by false e true = refl
    by false e false = refl

-- it no longer depends on one thing
pub unwatched-one : (number : ℕ) (d : Dependency) (q : Key) (old : WatchesKept)
    → cond (key_same (key_of d) q) (watched_less number (watch_in old (key_of d))) (watch_in old q) ≡ unwatched_for number q (d ∷ []) (watch_in old q)
unwatched-one number d q old = by (key_same (key_of d) q) refl
  where
    by : (b : Bool) → key_same (key_of d) q ≡ b
        → cond b (watched_less number (watch_in old (key_of d))) (watch_in old q) ≡ cond (b || false) (watched_less number (watch_in old q)) (watch_in old q)
    by true e = λ i. watched_less number (watch_in old ((key_decides (key_of d) q).0 e i))
    by false e = refl

-- what was known of a name is forgotten, where no generation depends on it
pub forgotten-name : (key q : Key) (old : WatchesKept) → not (has_watcher (watch_in old key)) ≡ true
    → cond (key_same key q) unwatched (watch_in old q) ≡ cond (key_same key q && not (has_watcher (watch_in old q))) unwatched (watch_in old q)
forgotten-name key q old idle = by (key_same key q) refl
  where
    by : (b : Bool) → key_same key q ≡ b → cond b unwatched (watch_in old q) ≡ cond (b && not (has_watcher (watch_in old q))) unwatched (watch_in old q)
    by true e = λ i. cond ((sym idle ∙ (λ j. not (has_watcher (watch_in old ((key_decides key q).0 e j))))) i) unwatched (watch_in old q)
    by false e = refl

-- and stays known where one does
pub known-name : (key q : Key) (old : WatchesKept) → not (has_watcher (watch_in old key)) ≡ false
    → watch_in old q ≡ cond (key_same key q && not (has_watcher (watch_in old q))) unwatched (watch_in old q)
known-name key q old busy = by (key_same key q) refl
  where
    by : (b : Bool) → key_same key q ≡ b → watch_in old q ≡ cond (b && not (has_watcher (watch_in old q))) unwatched (watch_in old q)
    by true e = λ i. cond ((sym busy ∙ (λ j. not (has_watcher (watch_in old ((key_decides key q).0 e j))))) i) unwatched (watch_in old q)
    by false e = refl

-- the first of these, and then the others
module _ (ds : List Dependency) (d : Dependency) (is : slice_get ds 0 ≡ Some d) where
  pub named-first : HaveNames (d ∷ []) → HaveNames (drop 1 ds) → HaveNames ds
  named-first first rest = subst HaveNames (sym (first-rest ds d is)) (first.0, rest)

  module _ (old new final : WatchesKept) where
    pub watched-first : (number : ℕ) → WatchesNeeds old new number (d ∷ []) → WatchesNeeds new final number (drop 1 ds) → WatchesNeeds old final number ds
    watched-first number first rest = λ q.
        rest q
        ∙ (λ i. watched_for number q (drop 1 ds) (first q i))
        ∙ watched_for-more number q (d ∷ []) (drop 1 ds) (watch_in old q)
        ∙ (λ i. watched_for number q (sym (first-rest ds d is) i) (watch_in old q))

    pub unwatched-first : (number : ℕ) → UnwatchesNeeds old new number (d ∷ []) → UnwatchesNeeds new final number (drop 1 ds) → UnwatchesNeeds old final number ds
    unwatched-first number first rest = λ q.
        rest q
        ∙ (λ i. unwatched_for number q (drop 1 ds) (first q i))
        ∙ unwatched_for-more number q (d ∷ []) (drop 1 ds) (watch_in old q)
        ∙ (λ i. unwatched_for number q (sym (first-rest ds d is) i) (watch_in old q))

    pub forgotten-first : ForgetsNeeds old new (d ∷ []) → ForgetsNeeds new final (drop 1 ds) → ForgetsNeeds old final ds
    forgotten-first first rest = λ q.
        forgets-more q (d ∷ []) (drop 1 ds) (watch_in old q) (watch_in new q) (watch_in final q) (first q) (rest q)
        ∙ (λ i. cond (is_needed q (sym (first-rest ds d is) i) && not (has_watcher (watch_in old q))) unwatched (watch_in old q))

-- none is left
module _ (ds : List Dependency) (none : slice_get ds 0 ≡ None) (now : WatchesKept) where
  pub watched-none : (number : ℕ) → WatchesNeeds now now number ds
  watched-none number = λ q. (λ i. watched_for number q (sym (first-none ds none) i) (watch_in now q))

  pub unwatched-none : (number : ℕ) → UnwatchesNeeds now now number ds
  unwatched-none number = λ q. (λ i. unwatched_for number q (sym (first-none ds none) i) (watch_in now q))

  pub forgotten-none : ForgetsNeeds now now ds
  forgotten-none = λ q. (λ i. cond (is_needed q (sym (first-none ds none) i) && not (has_watcher (watch_in now q))) unwatched (watch_in now q))

-- what stands twice makes no difference
module _ (content : Content) (old final : WatchesKept) where
  pub watched-once : (number : ℕ) → WatchesNeeds old final number (needs_of content) → WatchesNeeds old final number (dependencies_of content)
  watched-once number all = λ q.
      all q
      ∙ (λ i. record (watch_in old q) {
        unlimited = cond (any_needs (is_need q false) content i) (with_last number (watch_in old q).unlimited) (watch_in old q).unlimited;
        limited = cond (any_needs (is_need q true) content i) (with_last number (watch_in old q).limited) (watch_in old q).limited;
      })

  pub unwatched-once : (number : ℕ) → UnwatchesNeeds old final number (needs_of content) → UnwatchesNeeds old final number (dependencies_of content)
  unwatched-once number all = λ q.
      all q ∙ (λ i. cond (any_needs (is_on q) content i) (watched_less number (watch_in old q)) (watch_in old q))

  pub forgotten-once : ForgetsNeeds old final (needs_of content) → ForgetsNeeds old final (dependencies_of content)
  forgotten-once all = λ q.
      all q ∙ (λ i. cond (any_needs (is_on q) content i && not (has_watcher (watch_in old q))) unwatched (watch_in old q))

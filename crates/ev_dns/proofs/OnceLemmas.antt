-- Names, each once.
use Rattle.std.proofs.Common.{◌≡◌, ℕ, Bool, true, false, not, cond, ◌||◌, List, [], ◌∷◌, ◌++◌, filter, refl, sym, ap, ◌∙◌, append_assoc}
use Rattle.std.specs.List.{list_any}
use Rattle.std.specs.Str.{bytes_eq}
use Rattle.std.proofs.lemmas.List.{append-nil}
use Rattle.std.proofs.lemmas.List.Elements.{filter-append}
use Rattle.indexmap.specs.IndexSet.{insert_key, insert_all}
use Rattle.ev_types.specs.Same.{bytes_decide}
use Rattle.ev_dns.specs.Answers.{names_once}

-- equal names are the same as another
same_as : (a b one : List ℕ) → bytes_eq a b ≡ true → bytes_eq one a ≡ bytes_eq one b
same_as a b one h = ap (bytes_eq one) ((bytes_decide a b).0 h)

kept_at : (b c : Bool) (one other first : List ℕ) (rest : List (List ℕ)) → bytes_eq other first ≡ b → bytes_eq one other ≡ c → bytes_eq one first ≡ false
    → list_any (bytes_eq one) (cond (not b) (other ∷ rest) rest) ≡ (c || list_any (bytes_eq one) rest)
kept_at true true one other first rest is here differs = absurd (cc (same_as other first one is))
kept_at true false one other first rest is here differs = refl
kept_at false c one other first rest is here differs = ap (λ (t : Bool). t || list_any (bytes_eq one) rest) here

-- what is the same as one stays where those the same as another go
any_kept : (one first : List ℕ) (names : List (List ℕ)) → bytes_eq one first ≡ false
    → list_any (bytes_eq one) (filter (λ other. not (bytes_eq other first)) names) ≡ list_any (bytes_eq one) names
any_kept one first [] differs = refl
any_kept one first (other ∷ names) differs =
    kept_at (bytes_eq other first) (bytes_eq one other) one other first (filter (λ o. not (bytes_eq o first)) names) refl refl differs
    ∙ ap (λ (t : Bool). bytes_eq one other || t) (any_kept one first names differs)

once_at : (b c : Bool) (one first : List ℕ) (names : List (List ℕ)) → bytes_eq one first ≡ b → list_any (bytes_eq one) names ≡ c
    → first ∷ filter (λ other. not (bytes_eq other first)) (cond c names (names ++ one ∷ []))
    ≡ cond (b || list_any (bytes_eq one) (filter (λ other. not (bytes_eq other first)) names)) (first ∷ filter (λ other. not (bytes_eq other first)) names) (first ∷ (filter (λ other. not (bytes_eq other first)) names ++ one ∷ []))
once_at true true one first names is here = refl
once_at true false one first names is here = ap (λ xs. first ∷ xs) (filter-append (λ other. not (bytes_eq other first)) names (one ∷ []) ∙ rw is (append-nil (filter (λ other. not (bytes_eq other first)) names)))
once_at false true one first names is here = rw (any_kept one first names is, here)
once_at false false one first names is here = rw (any_kept one first names is, here) (ap (λ xs. first ∷ xs) (filter-append (λ other. not (bytes_eq other first)) names (one ∷ []) ∙ rw is))

-- one more after the others
pub once-push : (names : List (List ℕ)) (one : List ℕ) → names_once (names ++ one ∷ []) ≡ insert_key bytes_eq (names_once names) one
once-push [] one = refl
once-push (first ∷ names) one =
    ap (λ xs. first ∷ filter (λ other. not (bytes_eq other first)) xs) (once-push names one)
    ∙ once_at (bytes_eq one first) (list_any (bytes_eq one) (names_once names)) one first (names_once names) refl refl

-- names that are put after those of a set one after another occur there once
once_behind : (names more : List (List ℕ)) → insert_all bytes_eq (names_once names) more ≡ names_once (names ++ more)
once_behind names [] = ap names_once (sym (append-nil names))
once_behind names (one ∷ more) =
    ap (λ (xs : List (List ℕ)). insert_all bytes_eq xs more) (sym (once-push names one)) ∙ once_behind (names ++ one ∷ []) more ∙ ap names_once (append_assoc names (one ∷ []) more)

pub once_all : (names : List (List ℕ)) → insert_all bytes_eq [] names ≡ names_once names
once_all names = once_behind [] names

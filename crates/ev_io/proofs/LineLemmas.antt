-- Line feeds and lines of bytes that are put together.
use Rattle.std.proofs.Common.{◌≡◌, ◌≢◌, ℕ, zero, suc, ◌+◌, ◌-◌, ◌<◌, ◌≤◌, Bool, true, false, cond, List, [], ◌∷◌, ◌++◌, length, take, drop, get_or, eqb, eq-eqb, refl, sym, ap, subst, ◌∙◌, ◌⊎◌, inl, inr, arith, length-append, length-take, get_or-take}
use Rattle.std.proofs.lemmas.List.{take_rest, get_or-drop, get_or-append-add}
use Rattle.std.proofs.lemmas.Bool.{cases_lt}
use Rattle.std.proofs.lemmas.Bool.Decides.{nat_tests}
use Rattle.ev_io.specs.Lines.{lines_of, onto_first, feeds_in, HasNoFeed, IsClosed}

-- no line feed among n bytes, and none among m bytes of the rest
pub none_further : (bs : List ℕ) (n m : ℕ) → HasNoFeed bs n → HasNoFeed (take (length bs - n) (drop n bs)) m → HasNoFeed bs (n + m)
none_further bs n m front rest = λ k below here. first_or_rest k below here (cases_lt k n)
  where
    first_or_rest : (k : ℕ) → k < n + m → get_or bs k 0 ≡ 10 → (k < n) ⊎ (n ≤ k) → ⊥
    first_or_rest k below here (inl early) = front k early here
    first_or_rest k below here (inr late) =
        let shown : HasNoFeed (drop n bs) m = subst (λ (xs : List ℕ). HasNoFeed xs m) (take_rest bs n) rest in
        let place : n + (k - n) ≡ k = omega arith in
        shown (k - n) (omega arith) (get_or-drop n bs (k - n) 0 ∙ ap (λ (i : ℕ). get_or bs i 0) place ∙ here)

-- the byte that ends the search
pub found_further : (bs : List ℕ) (n m : ℕ) → get_or (take (length bs - n) (drop n bs)) m 0 ≡ 10 → get_or bs (n + m) 0 ≡ 10
found_further bs n m h = sym (get_or-drop n bs m 0) ∙ ap (λ (xs : List ℕ). get_or xs m 0) (sym (take_rest bs n)) ∙ h

-- a line feed closes a line
feed_first : (b : ℕ) (bs : List ℕ) → b ≡ 10 → lines_of (b ∷ bs) ≡ [] ∷ lines_of bs
feed_first b bs e = ap (λ t. cond t ([] ∷ lines_of bs) (onto_first b (lines_of bs))) (eq-eqb b 10 e)

-- another byte goes onto the first line
other_first : (b : ℕ) (bs : List ℕ) → b ≢ 10 → lines_of (b ∷ bs) ≡ onto_first b (lines_of bs)
other_first b bs e =
    let off : eqb b 10 ≡ false = grind (arith, nat_tests) in
    ap (λ t. cond t ([] ∷ lines_of bs) (onto_first b (lines_of bs))) off

-- the first line ends at the first line feed
pub cut_at : (bs : List ℕ) (k : ℕ) → k < length bs → get_or bs k 0 ≡ 10 → HasNoFeed bs k → lines_of bs ≡ take k bs ∷ lines_of (drop (suc k) bs)
cut_at [] k h e none = absurd (omega arith)
cut_at (b ∷ bs) zero h e none = feed_first b bs e
cut_at (b ∷ bs) (suc k) h e none =
    let here : b ≢ 10 = none 0 (omega arith) in
    other_first b bs here ∙ ap (onto_first b) (cut_at bs k (omega arith) e (λ j l. none (suc j) (omega arith)))

-- and the bytes up to it are that one line
pub one_at : (bs : List ℕ) (k : ℕ) → k < length bs → get_or bs k 0 ≡ 10 → HasNoFeed bs k → lines_of (take (suc k) bs) ≡ take k bs ∷ []
one_at [] k h e none = absurd (omega arith)
one_at (b ∷ bs) zero h e none = feed_first b [] e
one_at (b ∷ bs) (suc k) h e none =
    let here : b ≢ 10 = none 0 (omega arith) in
    other_first b (take (suc k) bs) here ∙ ap (onto_first b) (one_at bs k (omega arith) e (λ j l. none (suc j) (omega arith)))

-- what has no line feed is one line
pub whole : (bs : List ℕ) → 0 < length bs → HasNoFeed bs (length bs) → lines_of bs ≡ bs ∷ []
whole [] some none = absurd (omega arith)
whole (b ∷ []) some none = other_first b [] (none 0 (omega arith))
whole (b ∷ c ∷ cs) some none =
    other_first b (c ∷ cs) (none 0 (omega arith)) ∙ ap (onto_first b) (whole (c ∷ cs) (omega arith) (λ j l. none (suc j) (omega arith)))

-- a byte onto the first of some lines, with others after them
onto_first-append : (b c : ℕ) (cs : List ℕ) (others : List (List ℕ)) → onto_first b (lines_of (c ∷ cs) ++ others) ≡ onto_first b (lines_of (c ∷ cs)) ++ others
onto_first-append b c cs others = by_test (eqb c 10) (lines_of cs)
  where
    by_test : (t : Bool) (rest : List (List ℕ)) → onto_first b (cond t ([] ∷ rest) (onto_first c rest) ++ others) ≡ onto_first b (cond t ([] ∷ rest) (onto_first c rest)) ++ others
    by_test true rest = refl
    by_test false [] = refl
    by_test false (line ∷ lines) = refl

-- what is after the first byte is closed, where something is
closed_rest : (b c : ℕ) (cs : List ℕ) → IsClosed (b ∷ c ∷ cs) → IsClosed (c ∷ cs)
closed_rest b c cs closed = λ k e. closed (suc k) (omega arith)

-- after a closed prefix the lines go on
pub lines_of-append : (front rest : List ℕ) → IsClosed front → lines_of (front ++ rest) ≡ lines_of front ++ lines_of rest
lines_of-append [] rest closed = refl
lines_of-append (b ∷ []) rest closed =
    let feed : b ≡ 10 = closed 0 refl in
    feed_first b rest feed ∙ ap (λ (xs : List (List ℕ)). xs ++ lines_of rest) (sym (feed_first b [] feed))
lines_of-append (b ∷ c ∷ cs) rest closed = by_test (lines_of-append (c ∷ cs) rest (closed_rest b c cs closed)) (eqb b 10)
  where
    by_test : lines_of ((c ∷ cs) ++ rest) ≡ lines_of (c ∷ cs) ++ lines_of rest → (t : Bool) → cond t ([] ∷ lines_of ((c ∷ cs) ++ rest)) (onto_first b (lines_of ((c ∷ cs) ++ rest))) ≡ cond t ([] ∷ lines_of (c ∷ cs)) (onto_first b (lines_of (c ∷ cs))) ++ lines_of rest
    by_test further true = ap (λ (xs : List (List ℕ)). [] ∷ xs) further
    by_test further false = ap (onto_first b) further ∙ onto_first-append b c cs (lines_of rest)

-- line feeds of two parts
pub feeds_in-append : (xs ys : List ℕ) → feeds_in (xs ++ ys) ≡ feeds_in xs + feeds_in ys
feeds_in-append [] ys = omega arith
feeds_in-append (b ∷ bs) ys = by_test (feeds_in-append bs ys) (eqb b 10)
  where
    by_test : feeds_in (bs ++ ys) ≡ feeds_in bs + feeds_in ys → (t : Bool) → cond t (suc (feeds_in (bs ++ ys))) (feeds_in (bs ++ ys)) ≡ cond t (suc (feeds_in bs)) (feeds_in bs) + feeds_in ys
    by_test further true = omega (arith, further)
    by_test further false = further

-- none where there is none
pub feeds_in-none : (bs : List ℕ) (n : ℕ) → HasNoFeed bs n → feeds_in (take n bs) ≡ 0
feeds_in-none bs zero none = refl
feeds_in-none [] (suc n) none = refl
feeds_in-none (b ∷ bs) (suc n) none =
    let here : b ≢ 10 = none 0 (omega arith) in
    let off : eqb b 10 ≡ false = grind (arith, nat_tests) in
    ap (λ t. cond t (suc (feeds_in (take n bs))) (feeds_in (take n bs))) off ∙ feeds_in-none bs n (λ k below. none (suc k) (omega arith))

-- a closed text has as many lines as line feeds
pub feeds_in-closed : (bs : List ℕ) → IsClosed bs → feeds_in bs ≡ length (lines_of bs)
feeds_in-closed [] closed = refl
feeds_in-closed (b ∷ []) closed =
    let feed : eqb b 10 ≡ true = eq-eqb b 10 (closed 0 refl) in
    ap (λ t. cond t 1 0) feed ∙ sym (ap (λ (t : Bool). length (cond t ([] ∷ []) ((b ∷ []) ∷ []))) feed)
feeds_in-closed (b ∷ c ∷ cs) closed = by_test (eqb b 10) (eqb c 10) (lines_of cs) (feeds_in-closed (c ∷ cs) (closed_rest b c cs closed))
  where
    by_test : (t u : Bool) (rest : List (List ℕ)) → feeds_in (c ∷ cs) ≡ length (cond u ([] ∷ rest) (onto_first c rest)) → cond t (suc (feeds_in (c ∷ cs))) (feeds_in (c ∷ cs)) ≡ length (cond t ([] ∷ cond u ([] ∷ rest) (onto_first c rest)) (onto_first b (cond u ([] ∷ rest) (onto_first c rest))))
    by_test true u rest e = ap suc e
    by_test false true rest e = e
    by_test false false [] e = e
    by_test false false (line ∷ lines) e = e

-- what ends with a line feed is closed
pub closed-append : (front bs : List ℕ) (n : ℕ) → n < length bs → get_or bs n 0 ≡ 10 → IsClosed (front ++ take (n + 1) bs)
closed-append front bs n within feed = λ k e.
    let place : k ≡ length front + n = omega (arith, length-append front (take (n + 1) bs), length-take (n + 1) bs) in
    ap (λ (i : ℕ). get_or (front ++ take (n + 1) bs) i 0) place
    ∙ get_or-append-add front (take (n + 1) bs) n 0
    ∙ get_or-take (n + 1) bs n 0 (omega arith)
    ∙ feed

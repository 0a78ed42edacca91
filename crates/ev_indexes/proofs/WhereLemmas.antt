-- The numbers of the rows that pass a test, and what a changed status of one row does to them.
use Rattle.std.proofs.Common.{◌≡◌, ◌∙◌, ℕ, Bool, true, false, cond, not, ◌||◌, nat_eq, List, [], ◌∷◌, Option, None, Some, option_to_list, filter, refl, sym, ap, true≢false}
use Rattle.std.specs.List.{list_any, IsDistinct, AllByRecursion}
use Rattle.std.proofs.lemmas.Bool.{eqb-true, eqb-false, eq-eqb, ne_eqb}
use Rattle.std.proofs.lemmas.Map.Keys.{IsDistinct-head, IsDistinct-tail}
use Rattle.ev_types.specs.declared.contents.Kind.{Kind}
use Rattle.ev_types.specs.declared.rows.RowStatus.{RowStatus}
use Rattle.ev_model.specs.Rows.{with_statuses}
use Rattle.ev_types.specs.declared.rows.GenRow.{GenRow}
use Rattle.ev_indexes.specs.Tables.{row_in, numbers_of, with_status}
use Rattle.ev_indexes.proofs.TableLemmas.{with_status-absent}
use Rattle.ev_indexes.specs.Due.{is_one_of}
use Rattle.ev_indexes.specs.Watched.{numbers_without}
use Rattle.ev_indexes.specs.Indexes.{numbers_where, passes}

-- the row with another status
abbrev pub row_with : RowStatus → GenRow → GenRow
row_with status row = record row { status = status }

-- a row that is found and passes has its number among those that pass
pub among-where : (test : GenRow → Bool) (number : ℕ) (row : GenRow) (rows : List GenRow) → row_in number rows ≡ Some row → test row ≡ true
    → is_one_of (numbers_where test rows) number ≡ true
among-where test number row [] found passes = cc
among-where test number row (other ∷ rows) found passes = by (nat_eq number other.number) refl (test other) refl found (among-where test number row rows)
  where
    by : (b : Bool) → nat_eq number other.number ≡ b → (t : Bool) → test other ≡ t → cond b (Some other) (row_in number rows) ≡ Some row
        → (row_in number rows ≡ Some row → test row ≡ true → is_one_of (numbers_where test rows) number ≡ true)
        → is_one_of (numbers_of (cond t (other ∷ filter test rows) (filter test rows))) number ≡ true
    by true here true e at rest = ap (λ b. b || is_one_of (numbers_where test rows) number) here
    by true here false e at rest =
        let same : other ≡ row = cc in
        absurd (true≢false (sym passes ∙ ap test (sym same) ∙ e))
    by false here true e at rest = (λ i. here i || is_one_of (numbers_where test rows) number) ∙ rest at passes
    by false here false e at rest = rest at passes

-- where the row of this number no longer passes with its new status, its number is left out
pub where-left : (test : GenRow → Bool) (number : ℕ) (status : RowStatus) → ((row : GenRow) → test (row_with status row) ≡ false) → (rows : List GenRow)
    → numbers_where test (with_status number status rows) ≡ numbers_without number (numbers_where test rows)
where-left test number status fails [] = refl
where-left test number status fails (row ∷ rows) =
    by (nat_eq number row.number) refl (where-left test number status fails rows)
  where
    new : List GenRow
    new = filter test (with_status number status rows)

    old : List GenRow
    old = filter test rows

    kept : (t b : Bool) → nat_eq number row.number ≡ b → numbers_of new ≡ numbers_without number (numbers_of old) → b ≡ false
        → numbers_of (cond t (row ∷ new) new) ≡ numbers_without number (numbers_of (cond t (row ∷ old) old))
    kept true b e rest apart = ap (λ ns. row.number ∷ ns) rest ∙ (λ i. cond (not ((sym apart ∙ sym e) i)) (row.number ∷ numbers_without number (numbers_of old)) (numbers_without number (numbers_of old)))
    kept false b e rest apart = rest

    gone : (t : Bool) → nat_eq number row.number ≡ true → numbers_of new ≡ numbers_without number (numbers_of old)
        → numbers_of new ≡ numbers_without number (numbers_of (cond t (row ∷ old) old))
    gone true e rest = rest ∙ (λ i. cond (not (sym e i)) (row.number ∷ numbers_without number (numbers_of old)) (numbers_without number (numbers_of old)))
    gone false e rest = rest

    by : (b : Bool) → nat_eq number row.number ≡ b → numbers_of new ≡ numbers_without number (numbers_of old)
        → numbers_of (cond (test (row_with (cond b status row.status) row)) (row_with (cond b status row.status) row ∷ new) new)
        ≡ numbers_without number (numbers_of (cond (test row) (row ∷ old) old))
    by true e rest = (λ i. numbers_of (cond (fails row i) (row_with status row ∷ new) new)) ∙ gone (test row) e rest
    by false e rest = kept (test row) false e rest refl

-- no later row has the number of the first
later_none : (number : ℕ) (row : GenRow) (rows : List GenRow) → IsDistinct nat_eq (numbers_of (row ∷ rows)) → nat_eq number row.number ≡ true → row_in number rows ≡ None
later_none number row rows apart here =
    (λ i. row_in (eqb-true number row.number here i) rows) ∙ none rows (IsDistinct-head nat_eq row.number (numbers_of rows) apart)
  where
    none : (rs : List GenRow) → AllByRecursion (λ y. nat_eq row.number y ≡ false) (numbers_of rs) → row_in row.number rs ≡ None
    none [] all = refl
    none (r ∷ rs) all = (λ i. cond (all.0 i) (Some r) (row_in row.number rs)) ∙ none rs all.1

-- a number whose row doesn't pass isn't among those that pass
pub where-absent : (test : GenRow → Bool) (number : ℕ) (row : GenRow) (rows : List GenRow) → row_in number rows ≡ Some row → IsDistinct nat_eq (numbers_of rows) → test row ≡ false
    → numbers_without number (numbers_where test rows) ≡ numbers_where test rows
where-absent test number row [] found apart fails = refl
where-absent test number row (other ∷ rows) found apart fails =
    by (nat_eq number other.number) refl (test other) refl found (where-absent test number row rows)
  where
    none : (rs : List GenRow) → row_in number rs ≡ None → numbers_without number (numbers_where test rs) ≡ numbers_where test rs
    none [] h = refl
    none (r ∷ rs) h = over (nat_eq number r.number) refl (test r) h (none rs)
      where
        over : (b : Bool) → nat_eq number r.number ≡ b → (t : Bool) → cond b (Some r) (row_in number rs) ≡ None
            → (row_in number rs ≡ None → numbers_without number (numbers_where test rs) ≡ numbers_where test rs)
            → numbers_without number (numbers_of (cond t (r ∷ filter test rs) (filter test rs))) ≡ numbers_of (cond t (r ∷ filter test rs) (filter test rs))
        over true e t at rest = cc
        over false e true at rest = (λ i. cond (not (e i)) (r.number ∷ numbers_without number (numbers_where test rs)) (numbers_without number (numbers_where test rs))) ∙ ap (λ ns. r.number ∷ ns) (rest at)
        over false e false at rest = rest at

    by : (b : Bool) → nat_eq number other.number ≡ b → (t : Bool) → test other ≡ t → cond b (Some other) (row_in number rows) ≡ Some row
        → (row_in number rows ≡ Some row → IsDistinct nat_eq (numbers_of rows) → test row ≡ false → numbers_without number (numbers_where test rows) ≡ numbers_where test rows)
        → numbers_without number (numbers_of (cond t (other ∷ filter test rows) (filter test rows))) ≡ numbers_of (cond t (other ∷ filter test rows) (filter test rows))
    by true e true t at rest =
        let same : other ≡ row = cc in
        absurd (true≢false (sym t ∙ ap test same ∙ fails))
    by true e false t at rest = none rows (later_none number other rows apart e)
    by false e true t at rest =
        (λ i. cond (not (e i)) (other.number ∷ numbers_without number (numbers_where test rows)) (numbers_without number (numbers_where test rows)))
        ∙ ap (λ ns. other.number ∷ ns) (rest at (IsDistinct-tail nat_eq other.number (numbers_of rows) apart) fails)
    by false e false t at rest = rest at (IsDistinct-tail nat_eq other.number (numbers_of rows) apart) fails

-- where the row of this number passes with its new status as it did before, the numbers stay
pub where-kept : (test : GenRow → Bool) (number : ℕ) (status : RowStatus) (row : GenRow) (rows : List GenRow) → row_in number rows ≡ Some row → IsDistinct nat_eq (numbers_of rows)
    → test (row_with status row) ≡ test row → numbers_where test (with_status number status rows) ≡ numbers_where test rows
where-kept test number status row [] found apart same = refl
where-kept test number status row (other ∷ rows) found apart same = by (nat_eq number other.number) refl found (where-kept test number status row rows)
  where
    over : (t u : Bool) (xs ys : List GenRow) → t ≡ u → xs ≡ ys → numbers_of (cond t (row_with status other ∷ xs) xs) ≡ numbers_of (cond u (other ∷ ys) ys)
    over true true xs ys e f = ap (λ (zs : List GenRow). other.number ∷ numbers_of zs) f
    over true false xs ys e f = absurd (true≢false e)
    over false true xs ys e f = absurd (true≢false (sym e))
    over false false xs ys e f = ap numbers_of f

    on : (t : Bool) {xs ys : List ℕ} → xs ≡ ys → cond t (other.number ∷ xs) xs ≡ cond t (other.number ∷ ys) ys
    on true h = ap (λ ns. other.number ∷ ns) h
    on false h = h

    out : (t : Bool) (xs : List GenRow) → numbers_of (cond t (other ∷ xs) xs) ≡ cond t (other.number ∷ numbers_of xs) (numbers_of xs)
    out true xs = refl
    out false xs = refl

    by : (b : Bool) → nat_eq number other.number ≡ b → cond b (Some other) (row_in number rows) ≡ Some row
        → (row_in number rows ≡ Some row → IsDistinct nat_eq (numbers_of rows) → test (row_with status row) ≡ test row → numbers_where test (with_status number status rows) ≡ numbers_where test rows)
        → numbers_of (cond (test (row_with (cond b status other.status) other)) (row_with (cond b status other.status) other ∷ filter test (with_status number status rows)) (filter test (with_status number status rows)))
        ≡ numbers_of (cond (test other) (other ∷ filter test rows) (filter test rows))
    by true e at rest =
        let own : other ≡ row = cc in
        over (test (row_with status other)) (test other) (filter test (with_status number status rows)) (filter test rows)
        ((λ i. test (row_with status (own i))) ∙ same ∙ ap test (sym own))
        (ap (filter test) (with_status-absent number status rows (later_none number other rows apart e)))
    by false e at rest =
        out (test other) (filter test (with_status number status rows))
        ∙ on (test other) (rest at (IsDistinct-tail nat_eq other.number (numbers_of rows) apart) same)
        ∙ sym (out (test other) (filter test rows))

-- where none passed and the row of this number does with its new status, it is the only one
pub where-one : (test : GenRow → Bool) (number : ℕ) (status : RowStatus) (row : GenRow) (rows : List GenRow) → row_in number rows ≡ Some row → IsDistinct nat_eq (numbers_of rows)
    → numbers_where test rows ≡ [] → test (row_with status row) ≡ true → numbers_where test (with_status number status rows) ≡ number ∷ []
where-one test number status row [] found apart none passes = cc
where-one test number status row (other ∷ rows) found apart none passes =
    by (nat_eq number other.number) refl (test other) refl found none (where-one test number status row rows)
  where
    by : (b : Bool) → nat_eq number other.number ≡ b → (t : Bool) → test other ≡ t → cond b (Some other) (row_in number rows) ≡ Some row
        → numbers_of (cond t (other ∷ filter test rows) (filter test rows)) ≡ []
        → (row_in number rows ≡ Some row → IsDistinct nat_eq (numbers_of rows) → numbers_where test rows ≡ [] → test (row_with status row) ≡ true → numbers_where test (with_status number status rows) ≡ number ∷ [])
        → numbers_of (cond (test (row_with (cond b status other.status) other)) (row_with (cond b status other.status) other ∷ filter test (with_status number status rows)) (filter test (with_status number status rows)))
        ≡ number ∷ []
    by b e true t at h rest = cc
    by true e false t at h rest =
        let own : other ≡ row = cc in
        (λ i. numbers_of (cond (((λ j. test (row_with status (own j))) ∙ passes) i) (row_with status other ∷ filter test (with_status number status rows)) (filter test (with_status number status rows))))
        ∙ (λ i. sym (eqb-true number other.number e) i ∷ ((ap (numbers_where test) (with_status-absent number status rows (later_none number other rows apart e)) ∙ h) i))
    by false e false t at h rest =
        (λ i. numbers_of (cond (t i) (other ∷ filter test (with_status number status rows)) (filter test (with_status number status rows))))
        ∙ rest at (IsDistinct-tail nat_eq other.number (numbers_of rows) apart) h passes

-- a test that some row passes has numbers
pub where-some : (test : GenRow → Bool) (rows : List GenRow) → list_any test rows ≡ true → numbers_where test rows ≡ [] → ⊥
where-some test [] any none = true≢false (sym any)
where-some test (row ∷ rows) any none = by (test row) any none (where-some test rows)
  where
    by : (t : Bool) → (t || list_any test rows) ≡ true → numbers_of (cond t (row ∷ filter test rows) (filter test rows)) ≡ [] → (list_any test rows ≡ true → numbers_where test rows ≡ [] → ⊥) → ⊥
    by true a n rest = cc
    by false a n rest = rest a n

-- the number that is the only one leaves nothing
pub without-one : (number : ℕ) (o : Option ℕ) → is_one_of (option_to_list o) number ≡ true → numbers_without number (option_to_list o) ≡ []
without-one number None here = refl
without-one number (Some n) here = by (nat_eq number n) here
  where
    by : (b : Bool) → (b || false) ≡ true → cond (not b) (n ∷ []) [] ≡ []
    by true h = refl
    by false h = absurd (true≢false (sym h))

-- statuses leave the kinds
pub kinds-with_statuses : (kind : Kind) (f : GenRow → RowStatus) (rows : List GenRow) → AllByRecursion (λ (r : GenRow). r.kind ≡ kind) rows
    → AllByRecursion (λ (r : GenRow). r.kind ≡ kind) (with_statuses f rows)
kinds-with_statuses kind f [] all = tt
kinds-with_statuses kind f (row ∷ rows) all = (all.0, kinds-with_statuses kind f rows all.1)

-- numbers compare either way
pub flipped : (a b : ℕ) → nat_eq a b ≡ nat_eq b a
flipped a b = by (nat_eq a b) refl
  where
    by : (t : Bool) → nat_eq a b ≡ t → t ≡ nat_eq b a
    by true e = sym (eq-eqb b a (sym (eqb-true a b e)))
    by false e = sym (ne_eqb b a (λ h. eqb-false a b e (sym h)))

-- no row has the number
far_of : (number : ℕ) (test : GenRow → Bool) (rows : List GenRow) → AllByRecursion (λ y. nat_eq number y ≡ false) (numbers_of rows) → is_one_of (numbers_where test rows) number ≡ false
far_of number test [] all = refl
far_of number test (row ∷ rows) all = by (test row) (far_of number test rows all.1)
  where
    by : (t : Bool) → is_one_of (numbers_where test rows) number ≡ false → is_one_of (numbers_of (cond t (row ∷ filter test rows) (filter test rows))) number ≡ false
    by true rest = (λ i. all.0 i || is_one_of (numbers_where test rows) number) ∙ rest
    by false rest = rest

-- of rows with different numbers those that pass are those whose number is among theirs
pub where-members : (test : GenRow → Bool) (rows : List GenRow) → IsDistinct nat_eq (numbers_of rows)
    → AllByRecursion (λ (r : GenRow). is_one_of (numbers_where test rows) r.number ≡ test r) rows
where-members test [] apart = tt
where-members test (row ∷ rows) apart =
    (first (test row), more (test row) rows (IsDistinct-head nat_eq row.number (numbers_of rows) apart) (where-members test rows (IsDistinct-tail nat_eq row.number (numbers_of rows) apart)))
  where
    first : (t : Bool) → is_one_of (numbers_of (cond t (row ∷ filter test rows) (filter test rows))) row.number ≡ t
    first true = ap (λ b. b || is_one_of (numbers_where test rows) row.number) (eq-eqb row.number row.number refl)
    first false = far_of row.number test rows (IsDistinct-head nat_eq row.number (numbers_of rows) apart)

    one : (t : Bool) (r : GenRow) → nat_eq row.number r.number ≡ false → is_one_of (numbers_where test rows) r.number ≡ test r
        → is_one_of (numbers_of (cond t (row ∷ filter test rows) (filter test rows))) r.number ≡ test r
    one true r away h = (λ i. (flipped r.number row.number ∙ away) i || is_one_of (numbers_where test rows) r.number) ∙ h
    one false r away h = h

    more : (t : Bool) (rs : List GenRow) → AllByRecursion (λ y. nat_eq row.number y ≡ false) (numbers_of rs) → AllByRecursion (λ (r : GenRow). is_one_of (numbers_where test rows) r.number ≡ test r) rs
        → AllByRecursion (λ (r : GenRow). is_one_of (numbers_of (cond t (row ∷ filter test rows) (filter test rows))) r.number ≡ test r) rs
    more t [] far all = tt
    more t (r ∷ rs) far all = (one t r far.0 all.0, more t rs far.1 all.1)

-- a number among those that pass has a row, which passes
pub found-where : (test : GenRow → Bool) (number : ℕ) (rows : List GenRow) → IsDistinct nat_eq (numbers_of rows) → is_one_of (numbers_where test rows) number ≡ true
    → (row : GenRow) × (row_in number rows ≡ Some row) × (test row ≡ true)
found-where test number [] apart here = absurd (true≢false (sym here))
found-where test number (other ∷ rows) apart here =
    by (nat_eq number other.number) refl (test other) refl here (found-where test number rows (IsDistinct-tail nat_eq other.number (numbers_of rows) apart))
  where
    by : (b : Bool) → nat_eq number other.number ≡ b → (t : Bool) → test other ≡ t → is_one_of (numbers_of (cond t (other ∷ filter test rows) (filter test rows))) number ≡ true
        → (is_one_of (numbers_where test rows) number ≡ true → (row : GenRow) × (row_in number rows ≡ Some row) × (test row ≡ true))
        → (row : GenRow) × (cond b (Some other) (row_in number rows) ≡ Some row) × (test row ≡ true)
    by true e true f h rest = (other, refl, f)
    by true e false f h rest =
        absurd (true≢false (sym h ∙ (λ i. is_one_of (numbers_where test rows) (eqb-true number other.number e i))
        ∙ far_of other.number test rows (IsDistinct-head nat_eq other.number (numbers_of rows) apart)))
    by false e true f h rest = rest ((λ i. sym e i || is_one_of (numbers_where test rows) number) ∙ h)
    by false e false f h rest = rest h

-- a row that is found and passes
pub any-found : (test : GenRow → Bool) (number : ℕ) (row : GenRow) (rows : List GenRow) → row_in number rows ≡ Some row → test row ≡ true → list_any test rows ≡ true
any-found test number row [] found passes = cc
any-found test number row (other ∷ rows) found passes = by (nat_eq number other.number) found (any-found test number row rows)
  where
    late : (b : Bool) → (b || true) ≡ true
    late true = refl
    late false = refl

    by : (b : Bool) → cond b (Some other) (row_in number rows) ≡ Some row → (row_in number rows ≡ Some row → test row ≡ true → list_any test rows ≡ true)
        → (test other || list_any test rows) ≡ true
    by true at rest =
        let same : other ≡ row = cc in
        (λ i. (ap test same ∙ passes) i || list_any test rows)
    by false at rest = (λ i. test other || rest at passes i) ∙ late (test other)

-- the rows of a number are the one that is found
pub all-found : (number : ℕ) (row : GenRow) (rows : List GenRow) → row_in number rows ≡ Some row → IsDistinct nat_eq (numbers_of rows)
    → AllByRecursion (λ (r : GenRow). nat_eq number r.number ≡ true → r ≡ row) rows
all-found number row [] found apart = tt
all-found number row (other ∷ rows) found apart = by (nat_eq number other.number) refl found (all-found number row rows)
  where
    none : (rs : List GenRow) → row_in number rs ≡ None → AllByRecursion (λ (r : GenRow). nat_eq number r.number ≡ true → r ≡ row) rs
    none [] h = tt
    none (r ∷ rs) h = over (nat_eq number r.number) refl h (none rs)
      where
        over : (b : Bool) → nat_eq number r.number ≡ b → cond b (Some r) (row_in number rs) ≡ None → (row_in number rs ≡ None → AllByRecursion (λ (q : GenRow). nat_eq number q.number ≡ true → q ≡ row) rs)
            → (nat_eq number r.number ≡ true → r ≡ row) × AllByRecursion (λ (q : GenRow). nat_eq number q.number ≡ true → q ≡ row) rs
        over true e at rest = cc
        over false e at rest = (λ h. absurd (true≢false (sym h ∙ e)), rest at)

    by : (b : Bool) → nat_eq number other.number ≡ b → cond b (Some other) (row_in number rows) ≡ Some row
        → (row_in number rows ≡ Some row → IsDistinct nat_eq (numbers_of rows) → AllByRecursion (λ (r : GenRow). nat_eq number r.number ≡ true → r ≡ row) rows)
        → (nat_eq number other.number ≡ true → other ≡ row) × AllByRecursion (λ (r : GenRow). nat_eq number r.number ≡ true → r ≡ row) rows
    by true e at rest =
        let same : other ≡ row = cc in
        (λ h. same, none rows (later_none number other rows apart e))
    by false e at rest = (λ h. absurd (true≢false (sym h ∙ e)), rest at (IsDistinct-tail nat_eq other.number (numbers_of rows) apart))

-- an option with the number is that number
pub only : (number : ℕ) (o : Option ℕ) → is_one_of (option_to_list o) number ≡ true → o ≡ Some number
only number None here = absurd (true≢false (sym here))
only number (Some n) here = by (nat_eq number n) refl here
  where
    by : (b : Bool) → nat_eq number n ≡ b → (b || false) ≡ true → Some n ≡ Some number
    by true e h = λ i. Some (sym (eqb-true number n e) i)
    by false e h = absurd (true≢false (sym h))

pub emptied : (o : Option ℕ) → option_to_list o ≡ [] → o ≡ None
emptied None e = refl
emptied (Some n) e = cc

-- each row is found by its number
pub own-rows : (rows : List GenRow) → IsDistinct nat_eq (numbers_of rows) → AllByRecursion (λ (r : GenRow). row_in r.number rows ≡ Some r) rows
own-rows [] apart = tt
own-rows (row ∷ rows) apart = (
  (λ i. cond (eq-eqb row.number row.number refl i) (Some row) (row_in row.number rows)),
  more rows (IsDistinct-head nat_eq row.number (numbers_of rows) apart) (own-rows rows (IsDistinct-tail nat_eq row.number (numbers_of rows) apart)),
)
  where
    more : (rs : List GenRow) → AllByRecursion (λ y. nat_eq row.number y ≡ false) (numbers_of rs) → AllByRecursion (λ (r : GenRow). row_in r.number rows ≡ Some r) rs
        → AllByRecursion (λ (r : GenRow). row_in r.number (row ∷ rows) ≡ Some r) rs
    more [] far all = tt
    more (r ∷ rs) far all = ((λ i. cond ((flipped r.number row.number ∙ far.0) i) (Some row) (row_in r.number rows)) ∙ all.0, more rs far.1 all.1)

-- of rows with different numbers a number is among those that pass where its row passes
pub among-row : (test : GenRow → Bool) (n : ℕ) (rows : List GenRow) → IsDistinct nat_eq (numbers_of rows) → is_one_of (numbers_where test rows) n ≡ passes test (row_in n rows)
among-row test n rows apart = by (row_in n rows) refl (is_one_of (numbers_where test rows) n) refl
  where
    over : (row : GenRow) → row_in n rows ≡ Some row → (t : Bool) → test row ≡ t → (b : Bool) → is_one_of (numbers_where test rows) n ≡ b → b ≡ t
    over row found true e b f = sym f ∙ among-where test n row rows found e
    over row found false e true f =
        let there = found-where test n rows apart f in
        let own : there.0 ≡ row = some_same (sym there.1 ∙ found) in
        absurd (true≢false (sym there.2 ∙ ap test own ∙ e))
      where
        some_same : {a b : GenRow} → Some a ≡ Some b → a ≡ b
        some_same h = cc
    over row found false e false f = refl

    none : row_in n rows ≡ None → (b : Bool) → is_one_of (numbers_where test rows) n ≡ b → b ≡ false
    none gone true f =
        let there = found-where test n rows apart f in
        let clash : Some there.0 ≡ None = sym there.1 ∙ gone in
        cc
    none gone false f = refl

    by : (o : Option GenRow) → row_in n rows ≡ o → (b : Bool) → is_one_of (numbers_where test rows) n ≡ b → is_one_of (numbers_where test rows) n ≡ passes test o
    by None e b f = f ∙ none e b f
    by (Some row) e b f = f ∙ over row e (test row) refl b f

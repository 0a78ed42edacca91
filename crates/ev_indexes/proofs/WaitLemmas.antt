-- Who depends on a name: those that wait for it without a limit, and those that wait within one.
use Rattle.std.proofs.Common.{◌≡◌, ◌∙◌, ℕ, ◌++◌, Bool, true, false, cond, ◌&&◌, ◌||◌, nat_eq, List, [], ◌∷◌, Some, filter, refl, sym, ap, true≢false, not, ◌-◌, ◌<◌, length, get_or, slice_get, arith, length-append}
use Rattle.std.specs.List.{list_any, AllByRecursion, IsDistinct}
use Rattle.std.proofs.lemmas.List.Folds.{list_any-append, list_any_at}
use Rattle.std.proofs.lemmas.Bool.{eq-eqb}
use Rattle.std.proofs.lemmas.Option.{slice_get-get_or}
use Rattle.std.proofs.Math.Seq.{get_or-append_seam}
use Rattle.ev_types.specs.Same.{bool_same}
use Rattle.ev_types.specs.Statuses.{is_live}
use Rattle.ev_types.specs.declared.rows.GenRow.{GenRow}
use Rattle.ev_model.specs.Watching.{Dependency, dependencies_of}
use Rattle.ev_indexes.specs.Tables.{row_in, numbers_of}
use Rattle.ev_lookups.specs.declared.kind_keys.Key.{Key}
use Rattle.ev_indexes.specs.declared.state.State.{State}
use Rattle.ev_indexes.specs.Due.{is_one_of, has_number}
use Rattle.ev_indexes.specs.Watched.{watch_in, has_watcher, watchers_of, is_last, with_last, watched_for, unwatched_for, watched_less, numbers_without, is_other}
use Rattle.ev_indexes.specs.Needs.{is_on, is_needed, is_need, is_needed_so}
use Rattle.ev_indexes.specs.Indexes.{IsIndexed, depends_on, waits, numbers_where, numbers_waiting, passes}
use Rattle.ev_indexes.specs.declared.watches.Watch.{Watch}
use Rattle.ev_indexes.proofs.RowLemmas.{any-some}
use Rattle.ev_indexes.proofs.WhereLemmas.{among-where, own-rows, flipped}

-- one passes where one passes the first test or one the second
pub any-either : {X : Type 0} (p q r : X → Bool) → ((x : X) → p x ≡ (q x || r x)) → (xs : List X) → list_any p xs ≡ (list_any q xs || list_any r xs)
any-either p q r same [] = refl
any-either p q r same (x ∷ xs) = (λ i. same x i || any-either p q r same xs i) ∙ by (q x) (r x) (list_any q xs) (list_any r xs)
  where
    by : (a b c d : Bool) → ((a || b) || (c || d)) ≡ ((a || c) || (b || d))
    by true b c d = refl
    by false true true d = refl
    by false true false d = refl
    by false false c d = refl

-- what is needed is needed without a limit or within one
pub is_needed-so : (key : Key) (ds : List Dependency) → is_needed key ds ≡ (is_needed_so key false ds || is_needed_so key true ds)
is_needed-so key ds = any-either (is_on key) (is_need key false) (is_need key true) (λ d. by d.limited (is_on key d)) ds
  where
    by : (l b : Bool) → b ≡ ((bool_same l false && b) || (bool_same l true && b))
    by true true = refl
    by true false = refl
    by false true = refl
    by false false = refl

pub depends_on-waits : (key : Key) (row : GenRow) → depends_on key row ≡ (waits key false row || waits key true row)
depends_on-waits key row =
    ap (λ b. is_live row.status && b) (is_needed-so key (dependencies_of row.content))
    ∙ by (is_live row.status) (is_needed_so key false (dependencies_of row.content)) (is_needed_so key true (dependencies_of row.content))
  where
    by : (l a b : Bool) → (l && (a || b)) ≡ ((l && a) || (l && b))
    by true a b = refl
    by false a b = refl

-- who waits with a mark depends on the name
pub waits-depends : (key : Key) (limited : Bool) (row : GenRow) → waits key limited row ≡ true → depends_on key row ≡ true
waits-depends key false row h = depends_on-waits key row ∙ ap (λ b. b || waits key true row) h
waits-depends key true row h = depends_on-waits key row ∙ (λ i. waits key false row || h i) ∙ by (waits key false row)
  where
    by : (b : Bool) → (b || true) ≡ true
    by true = refl
    by false = refl

-- and no other row waits
pub depends-waits : (key : Key) (limited : Bool) (row : GenRow) → depends_on key row ≡ false → waits key limited row ≡ false
depends-waits key limited row h = by (waits key limited row) refl
  where
    by : (b : Bool) → waits key limited row ≡ b → b ≡ false
    by true e = absurd (true≢false (sym (waits-depends key limited row e) ∙ h))
    by false e = refl

pub any-depends : (key : Key) (rows : List GenRow) → list_any (depends_on key) rows ≡ (list_any (waits key false) rows || list_any (waits key true) rows)
any-depends key rows = any-either (depends_on key) (waits key false) (waits key true) (depends_on-waits key) rows

-- a number among those that wait is that of a row that depends on the name
pub among-waiting : (key : Key) (rows : List GenRow) (number : ℕ)
    → is_one_of (numbers_waiting rows key) number ≡ (is_one_of (numbers_where (waits key false) rows) number || is_one_of (numbers_where (waits key true) rows) number)
among-waiting key rows number = list_any-append (nat_eq number) (numbers_where (waits key false) rows) (numbers_where (waits key true) rows)

-- the number of a row that depends on the name is among them
pub among-depends : (key : Key) (n : ℕ) (row : GenRow) (rows : List GenRow) → row_in n rows ≡ Some row → depends_on key row ≡ true → is_one_of (numbers_waiting rows key) n ≡ true
among-depends key n row rows found depends =
    among-waiting key rows n ∙ by (waits key false row) refl (waits key true row) refl (sym (depends_on-waits key row) ∙ depends)
  where
    late : (b : Bool) → (b || true) ≡ true
    late true = refl
    late false = refl

    by : (a : Bool) → waits key false row ≡ a → (b : Bool) → waits key true row ≡ b → (a || b) ≡ true
        → (is_one_of (numbers_where (waits key false) rows) n || is_one_of (numbers_where (waits key true) rows) n) ≡ true
    by true e b f h = ap (λ t. t || is_one_of (numbers_where (waits key true) rows) n) (among-where (waits key false) n row rows found e)
    by false e true f h = (λ i. is_one_of (numbers_where (waits key false) rows) n || among-where (waits key true) n row rows found f i) ∙ late (is_one_of (numbers_where (waits key false) rows) n)
    by false e false f h = absurd (true≢false (sym h))

-- what an index has of a name
module _ (s : State) (x : IsIndexed s) (key : Key) where
  pub watchers-index : watchers_of (watch_in s.watches key) ≡ numbers_waiting s.table.rows key
  watchers-index = λ i. x.unlimited key i ++ x.limited key i

  pub watcher-index : has_watcher (watch_in s.watches key) ≡ list_any (depends_on key) s.table.rows
  watcher-index =
      (λ i. has_number (x.unlimited key i) || has_number (x.limited key i))
      ∙ (λ i. sym (any-some (waits key false) s.table.rows) i || sym (any-some (waits key true) s.table.rows) i)
      ∙ sym (any-depends key s.table.rows)

-- a number of one of the rows that pass a test is that of one that passes a narrower test
-- where one of all rows passes that
pub any-where : (test narrow : GenRow → Bool) → ((r : GenRow) → narrow r ≡ true → test r ≡ true) → (rows : List GenRow) → IsDistinct nat_eq (numbers_of rows)
    → list_any (λ n. passes narrow (row_in n rows)) (numbers_where test rows) ≡ list_any narrow rows
any-where test narrow narrower rows apart = over rows (own-rows rows apart)
  where
    over : (rs : List GenRow) → AllByRecursion (λ (r : GenRow). row_in r.number rows ≡ Some r) rs → list_any (λ n. passes narrow (row_in n rows)) (numbers_where test rs) ≡ list_any narrow rs
    over [] all = refl
    over (r ∷ rs) all = by (test r) refl (narrow r) refl (over rs all.1)
      where
        by : (t : Bool) → test r ≡ t → (n : Bool) → narrow r ≡ n → list_any (λ n. passes narrow (row_in n rows)) (numbers_where test rs) ≡ list_any narrow rs
            → list_any (λ n. passes narrow (row_in n rows)) (numbers_of (cond t (r ∷ filter test rs) (filter test rs))) ≡ (n || list_any narrow rs)
        by true e n f rest = λ i. (ap (passes narrow) all.0 ∙ f) i || rest i
        by false e true f rest = absurd (true≢false (sym (narrower r f) ∙ e))
        by false e false f rest = rest

-- the number that was put last is the last
pub is_last-with_last : (n : ℕ) (xs : List ℕ) → is_last n (with_last n xs) ≡ true
is_last-with_last n xs = by (is_last n xs) refl
  where
    end : (ys : List ℕ) → is_last n (ys ++ n ∷ []) ≡ true
    end ys =
        let last : length (ys ++ n ∷ []) - 1 ≡ length ys = omega (arith, length-append ys (n ∷ [])) in
        let within : length ys < length (ys ++ n ∷ []) = omega (arith, length-append ys (n ∷ [])) in
        (λ i. is_other n (slice_get (ys ++ n ∷ []) (last i)))
        ∙ (λ i. is_other n (slice_get-get_or (ys ++ n ∷ []) (length ys) n within i))
        ∙ (λ i. nat_eq (get_or-append_seam ys n [] n i) n)
        ∙ eq-eqb n n refl

    by : (b : Bool) → is_last n xs ≡ b → is_last n (cond b xs (xs ++ n ∷ [])) ≡ true
    by true e = e
    by false e = end xs

-- so to put it again changes nothing
pub with_last-twice : (n : ℕ) (xs : List ℕ) → with_last n (with_last n xs) ≡ with_last n xs
with_last-twice n xs = λ i. cond (is_last-with_last n xs i) (with_last n xs) (with_last n xs ++ n ∷ [])

-- a number that isn't among these isn't their last
pub with_last-far : (n : ℕ) (xs : List ℕ) → is_one_of xs n ≡ false → with_last n xs ≡ xs ++ n ∷ []
with_last-far n xs away = λ i. cond (far xs away i) xs (xs ++ n ∷ [])
  where
    far : (ys : List ℕ) → is_one_of ys n ≡ false → is_last n ys ≡ false
    far [] h = refl
    far (y ∷ ys) h = by (is_last n (y ∷ ys)) refl
      where
        within : length (y ∷ ys) - 1 < length (y ∷ ys)
        within = omega arith

        read : is_last n (y ∷ ys) ≡ nat_eq (get_or (y ∷ ys) (length (y ∷ ys) - 1) y) n
        read = λ i. is_other n (slice_get-get_or (y ∷ ys) (length (y ∷ ys) - 1) y within i)

        by : (b : Bool) → is_last n (y ∷ ys) ≡ b → b ≡ false
        by true e = absurd (true≢false (sym (list_any_at (nat_eq n) (y ∷ ys) (length (y ∷ ys) - 1) y within (flipped n (get_or (y ∷ ys) (length (y ∷ ys) - 1) y) ∙ sym read ∙ e)) ∙ h))
        by false e = refl

-- a generation that depends on some, and then on more
pub watched_for-more : (n : ℕ) (key : Key) (ds es : List Dependency) (watch : Watch) → watched_for n key es (watched_for n key ds watch) ≡ watched_for n key (ds ++ es) watch
watched_for-more n key ds es watch = λ i. record watch {
  unlimited = (by (is_needed_so key false ds) (is_needed_so key false es) watch.unlimited
      ∙ (λ j. cond (sym (list_any-append (is_need key false) ds es) j) (with_last n watch.unlimited) watch.unlimited)) i;
  limited = (by (is_needed_so key true ds) (is_needed_so key true es) watch.limited
      ∙ (λ j. cond (sym (list_any-append (is_need key true) ds es) j) (with_last n watch.limited) watch.limited)) i;
}
  where
    by : (a b : Bool) (xs : List ℕ) → cond b (with_last n (cond a (with_last n xs) xs)) (cond a (with_last n xs) xs) ≡ cond (a || b) (with_last n xs) xs
    by true true xs = with_last-twice n xs
    by true false xs = refl
    by false b xs = refl

-- a number that is left out twice
pub numbers_without-twice : (n : ℕ) (xs : List ℕ) → numbers_without n (numbers_without n xs) ≡ numbers_without n xs
numbers_without-twice n [] = refl
numbers_without-twice n (x ∷ xs) = by (nat_eq n x) refl (numbers_without-twice n xs)
  where
    by : (b : Bool) → nat_eq n x ≡ b → numbers_without n (numbers_without n xs) ≡ numbers_without n xs
        → numbers_without n (cond (not b) (x ∷ numbers_without n xs) (numbers_without n xs)) ≡ cond (not b) (x ∷ numbers_without n xs) (numbers_without n xs)
    by true e rest = rest
    by false e rest = (λ i. cond (not (e i)) (x ∷ numbers_without n (numbers_without n xs)) (numbers_without n (numbers_without n xs))) ∙ ap (λ ys. x ∷ ys) rest

-- a generation that depends on some no longer, and then on more
pub unwatched_for-more : (n : ℕ) (key : Key) (ds es : List Dependency) (watch : Watch) → unwatched_for n key es (unwatched_for n key ds watch) ≡ unwatched_for n key (ds ++ es) watch
unwatched_for-more n key ds es watch =
    by (is_needed key ds) (is_needed key es)
    ∙ (λ j. cond (sym (list_any-append (is_on key) ds es) j) (watched_less n watch) watch)
  where
    by : (a b : Bool) → cond b (watched_less n (cond a (watched_less n watch) watch)) (cond a (watched_less n watch) watch) ≡ cond (a || b) (watched_less n watch) watch
    by true true = λ i. record watch { unlimited = numbers_without-twice n watch.unlimited i; limited = numbers_without-twice n watch.limited i }
    by true false = refl
    by false b = refl

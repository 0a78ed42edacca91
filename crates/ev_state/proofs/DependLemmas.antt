-- Of which generations a picture may show something else after a response, and after the end of a resource: those
-- that retired, and those that depend on a name that something was received for.
use Rattle.std.proofs.Common.{◌≡◌, ◌∙◌, ℕ, Bool, true, false, ◌&&◌, ◌||◌, nat_eq, List, [], ◌++◌, ◌∷◌, Some, refl, sym, subst}
use Rattle.std.specs.List.{AllByRecursion, flat_map}
use Rattle.std.specs.Str.{bytes_eq}
use Rattle.std.proofs.lemmas.Bool.{false≢true, and_parts}
use Rattle.std.proofs.lemmas.List.Folds.{list_any-append}
use Rattle.ev_types.specs.Items.{ItemParts, ResponseParts}
use Rattle.ev_types.specs.Kinds.{kind_same, kind_decides}
use Rattle.ev_types.specs.Same.{bytes_decide}
use Rattle.ev_types.specs.declared.contents.Kind.{Kind}
use Rattle.ev_types.specs.declared.contents.Kind.TheVariants.{Cds, Eds, Lds, Rds, Sds, Ecds}
use Rattle.ev_types.specs.declared.events.Verdict.{Verdict}
use Rattle.ev_types.specs.declared.rows.GenRow.{GenRow}
use Rattle.ev_model.specs.World.{World}
use Rattle.ev_model.specs.Rows.{with_removals, add_items, with_first}
use Rattle.ev_model.specs.Signals.{with_end, forget_version}
use Rattle.ev_model.specs.Warming.{value_by, assignment_by}
use Rattle.ev_model.specs.Watching.{has_dependency}
use Rattle.ev_indexes.specs.Tables.{row_in}
use Rattle.ev_lookups.specs.Keys.{named}
use Rattle.ev_indexes.specs.declared.state.State.{State}
use Rattle.ev_indexes.specs.Due.{is_one_of}
use Rattle.ev_warming.specs.Changes.{has_retired}
use Rattle.ev_indexes.specs.Indexes.{numbers_waiting}
use Rattle.ev_indexes.proofs.WaitLemmas.{among-depends}
use Rattle.ev_state.specs.Changed.{dependents_in, dependents_of}
use Rattle.ev_state.proofs.StillLemmas.{serving, still-serves}
use Rattle.ev_state.proofs.ValueLemmas.{IsOther, response-same, end-same}
use Rattle.ev_state.proofs.SameLemmas.{AreAlike, AreSame, SameResults}
use Rattle.ev_state.proofs.EnterLemmas.{Enters, response-enters, end-enters}
use Rattle.ev_state.proofs.KeepLemmas.{served-is, active-live, results-stay}

-- what isn't among all of these is neither among the first ones nor among the others
pub or_none : (a b : Bool) → (a || b) ≡ false → (a ≡ false) × (b ≡ false)
or_none true b h = absurd (false≢true (sym h))
or_none false b h = (refl, h)

pub none-of : (xs ys : List ℕ) (n : ℕ) → is_one_of (xs ++ ys) n ≡ false → (is_one_of xs n ≡ false) × (is_one_of ys n ≡ false)
none-of xs ys n h = or_none (is_one_of xs n) (is_one_of ys n) (sym (list_any-append (nat_eq n) xs ys) ∙ h)

none_of_each : {A : Type 0} (f : A → List ℕ) (n : ℕ) (xs : List A) → is_one_of (flat_map f xs) n ≡ false → AllByRecursion (λ x. is_one_of (f x) n ≡ false) xs
none_of_each f n [] h = tt
none_of_each f n (x ∷ xs) h = let parts = none-of (f x) (flat_map f xs) n h in (parts.0, none_of_each f n xs parts.1)

-- a generation that serves is found
pub served-at : (kind : Kind) (n : ℕ) (row : GenRow) (rows mine : List GenRow) → mine ≡ rows → serving kind (row_in n rows) ≡ Some row → row_in n mine ≡ Some row
served-at kind n row rows mine are at = (λ i. row_in n (are i)) ∙ (served-is kind (row_in n rows) row at).at

-- and its number is among those of what depends on a name
depended : (kind needed : Kind) (n : ℕ) (row : GenRow) (rows mine : List GenRow) (q : List ℕ) → mine ≡ rows
    → serving kind (row_in n rows) ≡ Some row → has_dependency needed q row.content ≡ true → is_one_of (numbers_waiting mine (named needed q)) n ≡ true
depended kind needed n row rows mine q are at needs =
    let served = served-is kind (row_in n rows) row at in
    among-depends (named needed q) n row mine (served-at kind n row rows mine are at) (λ i. active-live row.status served.active i && needs i)

-- so it depends on no name whose dependents don't have its number
apart_from : (kind needed : Kind) (name q : List ℕ) (n : ℕ) (rows : List GenRow) → is_one_of (numbers_waiting rows (named needed q)) n ≡ true
    → is_one_of (numbers_waiting rows (named kind name)) n ≡ false → (kind_same kind needed && bytes_eq name q) ≡ false
apart_from kind needed name q n rows among none = by (kind_same kind needed && bytes_eq name q) refl
  where
    by : (b : Bool) → (kind_same kind needed && bytes_eq name q) ≡ b → b ≡ false
    by true is =
        let parts = and_parts (kind_same kind needed) (bytes_eq name q) is in
        absurd (false≢true (sym none
        ∙ (λ i. is_one_of (numbers_waiting rows (named ((kind_decides kind needed).0 parts.0 i) ((bytes_decide name q).0 parts.1 i))) n) ∙ among))
    by false isnt = refl

all_items : (P Q : ItemParts → Type 0) → ((item : ItemParts) → P item → Q item) → (items : List ItemParts) → AllByRecursion P items → AllByRecursion Q items
all_items P Q to [] all = tt
all_items P Q to (item ∷ items) all = (to item all.0, all_items P Q to items all.1)

first_arrivals : (kind : Kind) (names : List (List ℕ)) (world : World) → (with_first kind names world).arrivals ≡ world.arrivals
first_arrivals Cds names world = refl
first_arrivals Eds names world = refl
first_arrivals Lds names world = refl
first_arrivals Rds names world = refl
first_arrivals Sds names world = refl
first_arrivals Ecds names world = refl

-- the managers' rows are the world's, and these numbers have all that retired
module _ (changed : List ℕ) (s : State) (before after : World) (are : s.table.rows ≡ before.rows)
    (retired : (n : ℕ) → is_one_of changed n ≡ false → has_retired n before.rows after.rows ≡ false) where
  -- each value that a generation of another number depends on is what it was
  abbrev ValuesStay : Type 0
  ValuesStay = (n : ℕ) (k : Kind) (q : List ℕ) → is_one_of changed n ≡ false → is_one_of (numbers_waiting s.table.rows (named k q)) n ≡ true
      → value_by after.arrivals k q ≡ value_by before.arrivals k q

  alike : Enters before after → ValuesStay → (kind : Kind) → AreAlike kind changed before after
  alike enters values kind = record {
    rows = λ n other. still-serves kind (row_in n before.rows) (row_in n after.rows) (enters.rows n) (retired n other);
    values = λ n row other at needed q needs. values n needed q other (depended kind needed n row before.rows s.table.rows q are at needs);
  }

  by_values : Enters before after → ValuesStay → AreSame changed before after
  by_values enters values = record {
    clusters = alike enters values Cds;
    listeners = alike enters values Lds;
    results = λ n row other at.
        subst (λ rs. SameResults before.results rs row.number (assignment_by before.arrivals row.content)) (sym enters.results)
        (results-stay before.results row.number (assignment_by before.arrivals row.content));
    phase = enters.phase;
  }

  -- a response, where these numbers have the dependents of each of its names
  pub entered-same : (kind : Kind) (verdicts : List Verdict) (response : ResponseParts) (names : List (List ℕ))
      → after ≡ with_first kind names (add_items kind verdicts response.items (with_removals kind response before))
      → ((n : ℕ) → is_one_of changed n ≡ false → is_one_of (dependents_of s kind response.items) n ≡ false)
      → AreSame changed before after
  entered-same kind verdicts response names leads told =
      by_values (subst (λ (w : World). Enters before w) (sym leads) (response-enters kind verdicts response names before))
      (λ n k q other among.
      same k q (all_items (λ item. is_one_of (dependents_in s kind item.name) n ≡ false) (IsOther kind k q)
      (λ item none. apart_from kind k item.name q n s.table.rows among none) response.items (each n other)))
    where
      each : (n : ℕ) → is_one_of changed n ≡ false → AllByRecursion (λ (item : ItemParts). is_one_of (dependents_in s kind item.name) n ≡ false) response.items
      each n other = none_of_each (λ (item : ItemParts). dependents_in s kind item.name) n response.items (told n other)

      same : (k : Kind) (q : List ℕ) → AllByRecursion (IsOther kind k q) response.items → value_by after.arrivals k q ≡ value_by before.arrivals k q
      same k q others =
          (λ i. value_by (leads i).arrivals k q)
          ∙ (λ i. value_by (first_arrivals kind names (add_items kind verdicts response.items (with_removals kind response before)) i) k q)
          ∙ response-same kind k q verdicts response others before

  -- the end of a resource, where they have the dependents of its name
  pub ended-same : (kind : Kind) (name : List ℕ) → after ≡ with_end kind name (forget_version kind name before)
      → ((n : ℕ) → is_one_of changed n ≡ false → is_one_of (dependents_in s kind name) n ≡ false)
      → AreSame changed before after
  ended-same kind name leads told =
      by_values (subst (λ (w : World). Enters before w) (sym leads) (end-enters kind name before))
      (λ n k q other among.
      (λ i. value_by (leads i).arrivals k q)
      ∙ end-same kind k q name (apart_from kind k name q n s.table.rows among (told n other)) (forget_version kind name before))

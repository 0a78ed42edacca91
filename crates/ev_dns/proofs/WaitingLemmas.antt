-- Places that are under names, and places that go on.
use Rattle.std.proofs.Common.{◌≡◌, ℕ, zero, suc, ◌+◌, ◌<◌, ◌≤◌, ◌⊎◌, inl, inr, Bool, true, false, not, cond, ◌||◌, ◌&&◌, List, [], ◌∷◌, ◌++◌, length, get_or, set, take, Option, Some, None, option_map, unwrap_or, nat_eq, nat_cmp, refl, sym, ap, ap₂, ◌∙◌, arith}
use Rattle.std.specs.Prelude.{slice_get}
use Rattle.std.specs.BTreeSet.{contains}
use Rattle.std.specs.List.{list_any, list_all}
use Rattle.std.specs.Str.{bytes_eq}
use Rattle.std.proofs.lemmas.List.{take_all}
use Rattle.std.proofs.lemmas.List.Folds.{list_any-append, list_any_more}
use Rattle.ev_types.specs.Hosts.{HostRowParts}
use Rattle.ev_types.specs.Same.{bytes_decide, numbers_decide}
use Rattle.ev_expand.specs.Guarding.{Guarded}
use Rattle.ev_dns.specs.declared.answers.Answers.{Answers}
use Rattle.ev_dns.specs.declared.complete.Complete.{Complete}
use Rattle.ev_dns.specs.declared.places.Places.{Places}
use Rattle.ev_dns.specs.Known.{has_row, has_all, places_under, stands_under, Enters, EntersAll, Leaves, KeepsUnder}
use Rattle.ev_dns.specs.Marking.{is_listed, passes_at}
use Rattle.ev_dns.specs.Templates.{template_rows, has_name}
use Rattle.ev_dns.specs.Waiting.{complete_at, is_waiting, HavePassed, Wakes, Advances, AdvancesOne, EntersComplete}

pub some_same : {A : Type 0} (x y : A) → Some x ≡ Some y → x ≡ y
some_same x y h = cc

pub or_first : (a b : Bool) → a ≡ true → (a || b) ≡ true
or_first a b h = ap (λ t. t || b) h

pub or_second : (a b : Bool) → b ≡ true → (a || b) ≡ true
or_second true b h = refl
or_second false b h = h

pub or_none : (b : Bool) → (b || false) ≡ b
or_none true = refl
or_none false = refl

-- where one test is true for some, so is another
pub any_so : {X : Type 0} (p q : X → Bool) → ((x : X) → p x ≡ true → q x ≡ true) → (xs : List X) → list_any p xs ≡ true → list_any q xs ≡ true
any_so p q so [] h = h
any_so p q so (x ∷ xs) h = by (p x) refl h (any_so p q so xs)
  where
    by : (t : Bool) → p x ≡ t → (t || list_any p xs) ≡ true → (list_any p xs ≡ true → list_any q xs ≡ true) → (q x || list_any q xs) ≡ true
    by true at h' rest = or_first (q x) (list_any q xs) (so x at)
    by false at h' rest = or_second (q x) (list_any q xs) (rest h')

pub all_so : {X : Type 0} (p q : X → Bool) → ((x : X) → p x ≡ true → q x ≡ true) → (xs : List X) → list_all p xs ≡ true → list_all q xs ≡ true
all_so p q so [] h = h
all_so p q so (x ∷ xs) h = by (p x) refl h (all_so p q so xs)
  where
    by : (t : Bool) → p x ≡ t → (t && list_all p xs) ≡ true → (list_all p xs ≡ true → list_all q xs ≡ true) → (q x && list_all q xs) ≡ true
    by true at h' rest = ap₂ (λ (a b : Bool). a && b) (so x at) (rest h')
    by false at h' rest = absurd (cc)

and_so : (a b c : Bool) → (b ≡ true → c ≡ true) → (a && b) ≡ true → (a && c) ≡ true
and_so true b c so h = so h
and_so false b c so h = h

-- an element that passes, and one that doesn't
found_any : {X : Type 0} (p : X → Bool) (xs : List X) (i : ℕ) (x : X) → slice_get xs i ≡ Some x → p x ≡ true → list_any p xs ≡ true
found_any p [] i x at h = absurd (cc)
found_any p (y ∷ ys) zero x at h = or_first (p y) (list_any p ys) (ap p (some_same y x at) ∙ h)
found_any p (y ∷ ys) (suc i) x at h = or_second (p y) (list_any p ys) (found_any p ys i x at h)

lacks_first : (a b : Bool) → a ≡ false → (a && b) ≡ false
lacks_first a b h = ap (λ t. t && b) h

lacks_second : (a b : Bool) → b ≡ false → (a && b) ≡ false
lacks_second true b h = h
lacks_second false b h = refl

lacks_all : {X : Type 0} (p : X → Bool) (xs : List X) (i : ℕ) (x : X) → slice_get xs i ≡ Some x → p x ≡ false → list_all p xs ≡ false
lacks_all p [] i x at h = absurd (cc)
lacks_all p (y ∷ ys) zero x at h = lacks_first (p y) (list_all p ys) (ap p (some_same y x at) ∙ h)
lacks_all p (y ∷ ys) (suc i) x at h = lacks_second (p y) (list_all p ys) (lacks_all p ys i x at h)

pub past_end : {X : Type 0} (xs : List X) (i : ℕ) → slice_get xs i ≡ None → length xs ≤ i
past_end [] i h = omega arith
past_end (x ∷ xs) zero h = absurd (cc)
past_end (x ∷ xs) (suc i) h = let le : length xs ≤ i = past_end xs i h in omega (arith, le)

pub at_get : {X : Type 0} (xs : List X) (i : ℕ) (x : X) → i < length xs → x ≡ get_or xs i x → slice_get xs i ≡ Some x
at_get [] i x h is = absurd (omega arith)
at_get (y ∷ ys) zero x h is = ap Some (sym is)
at_get (y ∷ ys) (suc i) x h is = at_get ys i x (omega (arith, h)) is

-- ---- names

pub listed_more : (xs ys : List ℕ) (n : ℕ) → is_listed (xs ++ ys) n ≡ (is_listed xs n || is_listed ys n)
listed_more xs ys n = list_any-append (λ (one : ℕ). nat_eq one n) xs ys

-- a place that was put under a name is there, and what was there before still is
stands_own : (before after : Places) (name : List ℕ) (place : ℕ) → Enters before after name place → stands_under after name place ≡ true
stands_own before after name place enters =
    ap (λ xs. is_listed xs place) (enters name) ∙ listed_more (places_under before name) (cond (bytes_eq name name) (place ∷ []) []) place
    ∙ or_second (stands_under before name place) (is_listed (cond (bytes_eq name name) (place ∷ []) []) place)
    (ap (λ (b : Bool). is_listed (cond b (place ∷ []) []) place) ((bytes_decide name name).1 refl) ∙ or_first (nat_eq place place) false ((numbers_decide place place).1 refl))

stands_still : (before after : Places) (name : List ℕ) (place : ℕ) → Enters before after name place → KeepsUnder before after
stands_still before after name place enters other n stands =
    ap (λ xs. is_listed xs n) (enters other) ∙ listed_more (places_under before other) (cond (bytes_eq name other) (place ∷ []) []) n
    ∙ or_first (stands_under before other n) (is_listed (cond (bytes_eq name other) (place ∷ []) []) n) stands

-- the places under a name are woken
pub wakes_named : (name : List ℕ) (before after : Places) (old new : List ℕ) → new ≡ old ++ places_under before name → Leaves before after name → Wakes (Some name) before after new
wakes_named name before after old new put leaves = record {
  taken = λ other n named stands.
      ap (λ xs. is_listed xs n) put ∙ listed_more old (places_under before name) n
      ∙ or_second (is_listed old n) (is_listed (places_under before name) n) (ap (λ x. is_listed (places_under before x) n) ((bytes_decide name other).0 named) ∙ stands);
  left = λ other unnamed. leaves other ∙ ap (λ (b : Bool). cond b [] (places_under before other)) unnamed;
}

-- ---- one place

set_at : (xs : List ℕ) (i v n : ℕ) → (get_or (set xs i v) n 0 ≡ get_or xs n 0) ⊎ ((n ≡ i) × (get_or (set xs i v) n 0 ≡ v))
set_at [] i v n = inl refl
set_at (x ∷ xs) zero v zero = inr (refl, refl)
set_at (x ∷ xs) zero v (suc n) = inl refl
set_at (x ∷ xs) (suc i) v zero = inl refl
set_at (x ∷ xs) (suc i) v (suc n) = one (set_at xs i v n)
  where
    one : (get_or (set xs i v) n 0 ≡ get_or xs n 0) ⊎ ((n ≡ i) × (get_or (set xs i v) n 0 ≡ v)) → (get_or (set xs i v) n 0 ≡ get_or xs n 0) ⊎ ((suc n ≡ suc i) × (get_or (set xs i v) n 0 ≡ v))
    one (inl same) = inl same
    one (inr here) = inr (ap suc here.0, here.1)

-- the count of one place is set
pub passed_set : (answers : Answers) (gs : List Guarded) (place count : ℕ) (g : Guarded) (old : List ℕ) → slice_get gs place ≡ Some g → list_all (has_row answers) (take count (template_rows g.key)) ≡ true
    → HavePassed answers gs old → HavePassed answers gs (set old place count)
passed_set answers gs place count g old at passes had n x here = by (set_at old place count n)
  where
    by : (get_or (set old place count) n 0 ≡ get_or old n 0) ⊎ ((n ≡ place) × (get_or (set old place count) n 0 ≡ count)) → list_all (has_row answers) (take (get_or (set old place count) n 0) (template_rows x.key)) ≡ true
    by (inl same) = ap (λ (m : ℕ). list_all (has_row answers) (take m (template_rows x.key))) same ∙ had n x here
    by (inr one) =
        let own : x ≡ g = some_same x g (sym here ∙ ap (slice_get gs) one.0 ∙ at) in
        ap₂ (λ (m : ℕ) (y : Guarded). list_all (has_row answers) (take m (template_rows y.key))) one.1 own ∙ passes

pub complete_here : (answers : Answers) (gs : List Guarded) (n : ℕ) (g : Guarded) → slice_get gs n ≡ Some g → complete_at answers gs n ≡ has_all answers g.key
complete_here answers gs n g at = ap (λ (o : Option Guarded). unwrap_or (option_map (λ (x : Guarded). has_all answers x.key) o) false) at

nothing_more : (was same at : Bool) → (same ≡ true → at ≡ false) → was ≡ (was || (same && at))
nothing_more true same at h = refl
nothing_more false true at h = sym (h refl)
nothing_more false false at h = refl

one_finished : (was same at : Bool) → (same ≡ true → at ≡ true) → (was || same) ≡ (was || (same && at))
one_finished true same at h = refl
one_finished false true at h = sym (h refl)
one_finished false false at h = refl

-- the only place that is listed
only_place : (place n : ℕ) → is_listed (place ∷ []) n ≡ true → place ≡ n
only_place place n h = (numbers_decide place n).0 (sym (or_none (nat_eq place n)) ∙ h)

-- a place that isn't complete is put under the first name that it still waits for
pub advances_waiting : (answers : Answers) (gs : List Guarded) (place count : ℕ) (g : Guarded) (row : HostRowParts) (before after : Places) (done : List ℕ) → slice_get gs place ≡ Some g
    → slice_get (template_rows g.key) count ≡ Some row → has_row answers row ≡ false → Enters before after row.host.address place → AdvancesOne answers gs place before after done done
advances_waiting answers gs place count g row before after done at next lacks enters = record {
  kept = stands_still before after row.host.address place enters;
  waits = λ x here none. ap (λ (y : Guarded). is_waiting answers after place y.key) (some_same x g (sym here ∙ at))
      ∙ found_any (λ (r : HostRowParts). not (has_row answers r) && stands_under after r.host.address place) (template_rows g.key) count row next
      (ap₂ (λ (a b : Bool). not a && b) lacks (stands_own before after row.host.address place enters));
  finished = λ n. nothing_more (is_listed done n) (is_listed (place ∷ []) n) (complete_at answers gs n)
      (λ same. ap (complete_at answers gs) (sym (only_place place n same)) ∙ complete_here answers gs place g at ∙ lacks_all (has_row answers) (template_rows g.key) count row next lacks);
}

-- a place that is complete is finished
pub advances_finished : (answers : Answers) (gs : List Guarded) (place count : ℕ) (g : Guarded) (under : Places) (old new : List ℕ) → slice_get gs place ≡ Some g
    → length (template_rows g.key) ≤ count → list_all (has_row answers) (take count (template_rows g.key)) ≡ true → new ≡ old ++ place ∷ [] → AdvancesOne answers gs place under under old new
advances_finished answers gs place count g under old new at past passes put =
    let whole : has_all answers g.key ≡ true = ap (list_all (has_row answers)) (sym (take_all count (template_rows g.key) past)) ∙ passes in
    record {
      kept = λ b n stands. stands;
      waits = λ x here none. absurd (both (has_all answers x.key) (ap (λ (y : Guarded). has_all answers y.key) (some_same x g (sym here ∙ at)) ∙ whole) none);
      finished = λ n. ap (λ xs. is_listed xs n) put ∙ listed_more old (place ∷ []) n
          ∙ one_finished (is_listed old n) (is_listed (place ∷ []) n) (complete_at answers gs n)
          (λ same. ap (complete_at answers gs) (sym (only_place place n same)) ∙ complete_here answers gs place g at ∙ whole);
    }
  where
    both : (b : Bool) → b ≡ true → b ≡ false → ⊥
    both true h k = cc
    both false h k = cc

-- nothing is at the place
pub advances_nothing : (answers : Answers) (gs : List Guarded) (place : ℕ) (under : Places) (done : List ℕ) → slice_get gs place ≡ None → AdvancesOne answers gs place under under done done
advances_nothing answers gs place under done none = record {
  kept = λ b n stands. stands;
  waits = λ x here lacks. absurd (cc);
  finished = λ n. nothing_more (is_listed done n) (is_listed (place ∷ []) n) (complete_at answers gs n)
      (λ same. ap (complete_at answers gs) (sym (only_place place n same)) ∙ ap (λ (o : Option Guarded). unwrap_or (option_map (λ (x : Guarded). has_all answers x.key) o) false) none);
}

-- ---- one place more

pub listed_next : (places : List ℕ) (i place n : ℕ) → i < length places → place ≡ get_or places i 0 → is_listed (take (i + 1) places) n ≡ (is_listed (take i places) n || is_listed (place ∷ []) n)
listed_next places i place n h is =
    list_any_more (λ (one : ℕ). nat_eq one n) places i 0 h
    ∙ ap (λ (y : ℕ). is_listed (take i places) n || nat_eq y n) (sym is) ∙ ap (λ (b : Bool). is_listed (take i places) n || b) (sym (or_none (nat_eq place n)))

finished_more : (was has same at : Bool) → was ≡ (has && at) → (was || (same && at)) ≡ ((has || same) && at)
finished_more was true same true h = ap (λ (t : Bool). t || (same && true)) h
finished_more was true true false h = ap (λ (t : Bool). t || false) h
finished_more was true false false h = ap (λ (t : Bool). t || false) h
finished_more was false same at h = ap (λ (t : Bool). t || (same && at)) h

pub advances_more : (answers : Answers) (gs : List Guarded) (places : List ℕ) (i place : ℕ) (before mid after : Places) (old new : List ℕ) → i < length places → place ≡ get_or places i 0
    → Advances answers gs (take i places) before mid old → AdvancesOne answers gs place mid after old new → Advances answers gs (take (i + 1) places) before after new
advances_more answers gs places i place before mid after old new below is so_far one = record {
  kept = λ a n stands. one.kept a n (so_far.kept a n stands);
  waits = λ n g here has none. by n g here none (is_listed (take i places) n) refl (sym (listed_next places i place n below is) ∙ has);
  finished = λ n. one.finished n ∙ finished_more (is_listed old n) (is_listed (take i places) n) (is_listed (place ∷ []) n) (complete_at answers gs n) (so_far.finished n)
      ∙ ap (λ (t : Bool). t && complete_at answers gs n) (sym (listed_next places i place n below is));
}
  where
    by : (n : ℕ) (g : Guarded) → slice_get gs n ≡ Some g → has_all answers g.key ≡ false → (t : Bool) → is_listed (take i places) n ≡ t → (t || is_listed (place ∷ []) n) ≡ true → is_waiting answers after n g.key ≡ true
    by n g here none true has h =
        any_so (λ (r : HostRowParts). not (has_row answers r) && stands_under mid r.host.address n) (λ (r : HostRowParts). not (has_row answers r) && stands_under after r.host.address n)
        (λ r. and_so (not (has_row answers r)) (stands_under mid r.host.address n) (stands_under after r.host.address n) (one.kept r.host.address n)) (template_rows g.key) (so_far.waits n g here has none)
    by n g here none false has h =
        let same : place ≡ n = only_place place n h in
        ap (λ (m : ℕ). is_waiting answers after m g.key) (sym same) ∙ one.waits g (ap (slice_get gs) same ∙ here) none

-- ---- places that are taken up among the complete ones

own_named : (b : Bool) (place n : ℕ) (has at : Bool) → nat_eq place n ≡ b → (b ≡ true → at ≡ has) → (has && b) ≡ ((b || false) && at)
own_named true place n true at is h = sym (h refl)
own_named true place n false at is h = sym (h refl)
own_named false place n true at is h = refl
own_named false place n false at is h = refl

pub enters_one : (gs : List Guarded) (place : ℕ) (g : Guarded) (before after : Complete) → slice_get gs place ≡ Some g
    → ((n : ℕ) → contains nat_cmp after.places n ≡ (contains nat_cmp before.places n || nat_eq place n)) → EntersAll before.served after.served g.key place
    → EntersComplete gs (place ∷ []) before after
enters_one gs place g before after at puts enters = record {
  places = λ n. puts n ∙ ap (λ (b : Bool). contains nat_cmp before.places n || b) (sym (or_none (nat_eq place n)));
  served = λ name n. enters name n
      ∙ ap (λ (b : Bool). b || stands_under before.served name n)
      (own_named (nat_eq place n) place n (has_name name g.key) (passes_at (λ (x : Guarded). has_name name x.key) gs n) refl
      (λ same. ap (λ (o : Option Guarded). unwrap_or (option_map (λ (x : Guarded). has_name name x.key) o) false) (ap (slice_get gs) (sym ((numbers_decide place n).0 same)) ∙ at)));
}

pub enters_nothing : (gs : List Guarded) (place : ℕ) (before after : Complete) → slice_get gs place ≡ None
    → ((n : ℕ) → contains nat_cmp after.places n ≡ (contains nat_cmp before.places n || nat_eq place n)) → after.served ≡ before.served → EntersComplete gs (place ∷ []) before after
enters_nothing gs place before after at puts same = record {
  places = λ n. puts n ∙ ap (λ (b : Bool). contains nat_cmp before.places n || b) (sym (or_none (nat_eq place n)));
  served = λ name n. ap (λ (p : Places). stands_under p name n) same ∙ ap (λ (b : Bool). b || stands_under before.served name n) (sym (by (nat_eq place n) name n refl));
}
  where
    by : (b : Bool) (name : List ℕ) (n : ℕ) → nat_eq place n ≡ b → ((b || false) && passes_at (λ (x : Guarded). has_name name x.key) gs n) ≡ false
    by true name n is = ap (λ (o : Option Guarded). unwrap_or (option_map (λ (x : Guarded). has_name name x.key) o) false) (ap (slice_get gs) (sym ((numbers_decide place n).0 is)) ∙ at)
    by false name n is = refl

more_places : (a b c : Bool) → ((a || b) || c) ≡ (a || (b || c))
more_places true b c = refl
more_places false b c = refl

more_served : (l e h was : Bool) → ((e && h) || ((l && h) || was)) ≡ (((l || e) && h) || was)
more_served true true true was = refl
more_served true true false was = refl
more_served true false true was = refl
more_served true false false was = refl
more_served false true true was = refl
more_served false true false was = refl
more_served false false true was = refl
more_served false false false was = refl

pub enters_more : (gs : List Guarded) (places : List ℕ) (i place : ℕ) (before mid after : Complete) → i < length places → place ≡ get_or places i 0
    → EntersComplete gs (take i places) before mid → EntersComplete gs (place ∷ []) mid after → EntersComplete gs (take (i + 1) places) before after
enters_more gs places i place before mid after below is so_far one = record {
  places = λ n. one.places n ∙ ap (λ (b : Bool). b || is_listed (place ∷ []) n) (so_far.places n)
      ∙ more_places (contains nat_cmp before.places n) (is_listed (take i places) n) (is_listed (place ∷ []) n)
      ∙ ap (λ (b : Bool). contains nat_cmp before.places n || b) (sym (listed_next places i place n below is));
  served = λ name n.
      let at : Bool = passes_at (λ (x : Guarded). has_name name x.key) gs n in
      one.served name n ∙ ap (λ (b : Bool). (is_listed (place ∷ []) n && at) || b) (so_far.served name n)
      ∙ more_served (is_listed (take i places) n) (is_listed (place ∷ []) n) at (stands_under before.served name n)
      ∙ ap (λ (b : Bool). (b && at) || stands_under before.served name n) (sym (listed_next places i place n below is));
}

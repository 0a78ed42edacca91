-- What waits and what is complete after a line that reported some, where more may be guarded.
use Rattle.std.proofs.Common.{◌≡◌, ℕ, ◌<◌, ◌≤◌, ◌⊎◌, inl, inr, Bool, true, false, not, ◌||◌, ◌&&◌, List, [], ◌∷◌, length, get_or, take, Option, Some, None, option_map, unwrap_or, nat_eq, refl, sym, ap, ap₂, ◌∙◌, arith}
use Rattle.std.specs.Prelude.{slice_get}
use Rattle.std.specs.List.{list_any, list_all}
use Rattle.std.specs.Str.{bytes_eq}
use Rattle.std.proofs.Math.Bool.{or-false, or_comm}
use Rattle.std.proofs.lemmas.Bool.{cases_lt}
use Rattle.std.proofs.lemmas.List.{get_or_past}
use Rattle.std.proofs.lemmas.Option.{slice_get_within}
use Rattle.indexmap.specs.IndexSet.{IndexSet, contains}
use Rattle.ev_expand.specs.Guarding.{Guarded}
use Rattle.ev_tls.specs.declared.awaited.Awaited.{Awaited}
use Rattle.ev_tls.specs.declared.awaited.Awaited.TheVariants.{Secret, Endpoints}
use Rattle.ev_tls.specs.declared.complete.Complete.{Complete}
use Rattle.ev_tls.specs.declared.known.Told.{Told}
use Rattle.ev_tls.specs.declared.waiting.Waiting.{Waiting}
use Rattle.ev_tls.specs.Awaited.{awaited_same, awaited_by, services_of}
use Rattle.ev_tls.specs.Known.{are_told, has_told, AddsAll}
use Rattle.ev_tls.specs.Looking.{WereServed}
use Rattle.ev_tls.specs.Places.{has_place, stands_under}
use Rattle.ev_tls.specs.Waiting.{completed, complete_at, is_waiting, is_served, Grows, HavePassed, IsWaiting, Wakes, Advances, Finishes, GoesOn, HasBetween, AreComplete, EntersAll}
use Rattle.ev_tls.proofs.WaitingLemmas.{complete_here}
use Rattle.ev_tls.proofs.TestLemmas.{or_first, and_second, both_ways, some_same, any_so, all_so}

-- ---- more was reported

more_told : (old new : Told) (heard : List Awaited) → AddsAll old new heard → (a : Awaited) → has_told old a ≡ true → has_told new a ≡ true
more_told old new heard adds a h = adds a ∙ or_first (has_told old a) (list_any (awaited_same a) heard) h

completed_still : (old new : Told) (heard : List Awaited) → AddsAll old new heard → (g : Guarded) → completed old g ≡ true → completed new g ≡ true
completed_still old new heard adds g = all_so (has_told old) (has_told new) (more_told old new heard adds) (awaited_by g.key)

-- what waits isn't complete
open_where : (t s : Awaited → Bool) (xs : List Awaited) → list_any (λ (a : Awaited). not (t a) && s a) xs ≡ true → list_all t xs ≡ false
open_where t s [] h = absurd (cc)
open_where t s (x ∷ xs) h = by (t x) h (open_where t s xs)
  where
    by : (b : Bool) → ((not b && s x) || list_any (λ (a : Awaited). not (t a) && s a) xs) ≡ true → (list_any (λ (a : Awaited). not (t a) && s a) xs ≡ true → list_all t xs ≡ false) → (b && list_all t xs) ≡ false
    by true any rest = rest any
    by false any rest = refl

-- something complete is at the place
complete_there : (told : Told) (gs : List Guarded) (n : ℕ) → complete_at told gs n ≡ true → (g : Guarded) × (slice_get gs n ≡ Some g) × (completed told g ≡ true)
complete_there told gs n h = by (slice_get gs n) refl h
  where
    by : (o : Option Guarded) → slice_get gs n ≡ o → unwrap_or (option_map (completed told) o) false ≡ true → (g : Guarded) × (slice_get gs n ≡ Some g) × (completed told g ≡ true)
    by None at is = absurd (cc)
    by (Some g) at is = (g, at, is)

at_first : (gs all : List Guarded) (n : ℕ) (g : Guarded) → Grows gs all → slice_get gs n ≡ Some g → slice_get all n ≡ Some g
at_first gs all n g grows at = grows.first n (slice_get_within gs n g at) ∙ at

complete_still : (old new : Told) (heard : List Awaited) (gs all : List Guarded) → AddsAll old new heard → Grows gs all → (n : ℕ) → complete_at old gs n ≡ true → complete_at new all n ≡ true
complete_still old new heard gs all adds grows n h =
    let there = complete_there old gs n h in
    complete_here new all n there.0 (at_first gs all n there.0 grows there.1) ∙ completed_still old new heard adds there.0 there.2

-- the secrets that had passed have still
pub passed_still : (old new : Told) (heard : List Awaited) (gs all : List Guarded) (before after : List ℕ) → AddsAll old new heard → Grows gs all → length before ≡ length gs
    → ((n : ℕ) → get_or after n 0 ≡ get_or before n 0) → HavePassed old gs before → HavePassed new all after
passed_still old new heard gs all before after adds grows counted same had n g at =
    ap (λ (m : ℕ). are_told new (take m g.key.names)) (same n) ∙ by (cases_lt n (length gs))
  where
    by : (n < length gs) ⊎ (length gs ≤ n) → are_told new (take (get_or before n 0) g.key.names) ≡ true
    by (inl within) =
        all_so (contains bytes_eq old.secrets) (contains bytes_eq new.secrets) (λ name. more_told old new heard adds (Secret name)) (take (get_or before n 0) g.key.names)
        (had n g (sym (grows.first n within) ∙ at))
    by (inr past) = let none : get_or before n 0 ≡ 0 = get_or_past before n 0 (omega (arith, past, counted)) in ap (λ (m : ℕ). are_told new (take m g.key.names)) none

-- ---- the places that could have gone on

pub record WentOn {S : Type 0} (old new : Told) (heard : List Awaited) (gs all : List Guarded) (before mid after : Waiting) (woken : List ℕ) (finished : IndexSet ℕ S) : Type 0 where
  pub adds : AddsAll old new heard
  pub was : IsWaiting old gs before
  pub grows : Grows gs all
  pub fresh : HasBetween (length gs) (length all) woken
  pub counted : length mid.passed.items ≡ length all
  pub wakes : Wakes heard before.under mid.under woken
  pub advances : Advances new all woken mid after finished

module _ {S : Type 0} (old new : Told) (heard : List Awaited) (gs all : List Guarded) (before mid after : Waiting) (woken : List ℕ) (finished : IndexSet ℕ S)
    (went : WentOn old new heard gs all before mid after woken finished) where
  -- what wasn't woken was guarded before
  old_place : (n : ℕ) (g : Guarded) → slice_get all n ≡ Some g → has_place woken n ≡ false → slice_get gs n ≡ Some g
  old_place n g at asleep = by (cases_lt n (length gs))
    where
      by : (n < length gs) ⊎ (length gs ≤ n) → slice_get gs n ≡ Some g
      by (inl within) = sym (went.grows.first n within) ∙ at
      by (inr past) = absurd (both_ways (has_place woken n) (went.fresh n past (slice_get_within all n g at)) asleep)

  -- and what it waited for wasn't reported
  still_waiting : (n : ℕ) (g : Guarded) → slice_get all n ≡ Some g → has_place woken n ≡ false → completed old g ≡ false → is_waiting new after.under n g ≡ true
  still_waiting n g at asleep none =
      any_so (λ (a : Awaited). not (has_told old a) && stands_under before.under a n) (λ (a : Awaited). not (has_told new a) && stands_under after.under a n)
      (λ a. by a (has_told old a) refl) (awaited_by g.key) (went.was.waits n g (old_place n g at asleep) none)
    where
      here : (a : Awaited) (t : Bool) → list_any (awaited_same a) heard ≡ t → has_told old a ≡ false → stands_under before.under a n ≡ true → (not (has_told new a) && stands_under after.under a n) ≡ true
      here a true named untold stands = absurd (both_ways (has_place woken n) (went.wakes.taken a n named stands) asleep)
      here a false unnamed untold stands =
          ap₂ (λ (t s : Bool). not t && s) (went.adds a ∙ ap₂ (λ (x y : Bool). x || y) untold unnamed)
          (went.advances.kept a n (ap (λ (places : List ℕ). has_place places n) (went.wakes.left a unnamed) ∙ stands))

      by : (a : Awaited) (t : Bool) → has_told old a ≡ t → (not (has_told old a) && stands_under before.under a n) ≡ true → (not (has_told new a) && stands_under after.under a n) ≡ true
      by a true told h = absurd (both_ways (not (has_told old a)) (first_of (not (has_told old a)) (stands_under before.under a n) h) (ap not told))
        where
          first_of : (x y : Bool) → (x && y) ≡ true → x ≡ true
          first_of true y h = refl
          first_of false y h = absurd (cc)
      by a false untold h = here a (list_any (awaited_same a) heard) refl untold (and_second (not (has_told old a)) (stands_under before.under a n) h)

  waits_now : (n : ℕ) (g : Guarded) → slice_get all n ≡ Some g → completed new g ≡ false → is_waiting new after.under n g ≡ true
  waits_now n g at none = by (has_place woken n) refl (completed old g) refl
    where
      by : (w : Bool) → has_place woken n ≡ w → (c : Bool) → completed old g ≡ c → is_waiting new after.under n g ≡ true
      by true awake c was = went.advances.waits n g at awake none
      by false asleep true was = absurd (both_ways (completed new g) (completed_still old new heard went.adds g was) none)
      by false asleep false was = still_waiting n g at asleep was

  waits_on : IsWaiting new all after
  waits_on = record {
    counted = went.advances.counted ∙ went.counted;
    passed = went.advances.passed;
    waits = waits_now;
  }

  finishes : Finishes (complete_at old gs) (complete_at new all) (contains nat_eq finished)
  finishes = record {
    sound = λ n h. and_second (has_place woken n) (complete_at new all n) (sym (went.advances.finishes n) ∙ h);
    whole = λ n now was. went.advances.finishes n ∙ ap₂ (λ (x y : Bool). x && y) (awake n now was (has_place woken n) refl) now;
  }
    where
      awake : (n : ℕ) → complete_at new all n ≡ true → complete_at old gs n ≡ false → (w : Bool) → has_place woken n ≡ w → has_place woken n ≡ true
      awake n now was true h = h
      awake n now was false asleep =
          let there = complete_there new all n now in
          let none : completed old there.0 ≡ false = sym (complete_here old gs n there.0 (old_place n there.0 there.1 asleep)) ∙ was in
          absurd (both_ways (completed new there.0) there.2
          (open_where (has_told new) (λ (a : Awaited). stands_under after.under a n) (awaited_by there.0.key) (still_waiting n there.0 there.1 asleep none)))

  pub goes_on : GoesOn old new gs all after finished
  goes_on = record { waits = waits_on; finishes = finishes }

-- ---- the complete places

joined : (w f c : Bool) → (w ≡ true → c ≡ true) → (f ≡ true → c ≡ true) → (c ≡ true → w ≡ false → f ≡ true) → (w || f) ≡ c
joined true f c still sound whole = sym (still refl)
joined false true c still sound whole = sym (sound refl)
joined false false true still sound whole = whole refl refl
joined false false false still sound whole = refl

module _ (old new : Told) (heard : List Awaited) (gs all : List Guarded) (before : Complete) (is_finished : ℕ → Bool) (adds : AddsAll old new heard) (grows : Grows gs all)
    (were : AreComplete old gs before) (finishes : Finishes (complete_at old gs) (complete_at new all) is_finished) where
  -- the complete places are those that were, and the finished ones
  pub complete_now : (n : ℕ) → (contains nat_eq before.places n || is_finished n) ≡ complete_at new all n
  complete_now n = ap (λ (b : Bool). b || is_finished n) (were.places n)
      ∙ joined (complete_at old gs n) (is_finished n) (complete_at new all n) (complete_still old new heard gs all adds grows n) (finishes.sound n) (finishes.whole n)

  pub were_served : WereServed before all
  were_served n g at was =
      let there = complete_there old gs n (sym (were.places n) ∙ was) in
      let same : there.0 ≡ g = some_same there.0 g (sym (at_first gs all n there.0 grows there.1) ∙ at) in
      ap (λ (x : Guarded). is_served before.served n x.key.cluster.discovery) (sym same) ∙ were.served n there.0 there.1 there.2

  pub complete_after : (after : Complete) → EntersAll all is_finished before after → AreComplete new all after
  complete_after after enters = record {
    places = λ n. enters.places n ∙ or_comm (is_finished n) (contains nat_eq before.places n) ∙ complete_now n;
    served = λ n g at done. by n g at (is_finished n) refl (complete_now n ∙ complete_here new all n g at ∙ done);
  }
    where
      was_complete : (n : ℕ) → is_finished n ≡ false → (contains nat_eq before.places n || is_finished n) ≡ true → contains nat_eq before.places n ≡ true
      was_complete n none h = sym (ap (λ (b : Bool). contains nat_eq before.places n || b) none ∙ or-false (contains nat_eq before.places n)) ∙ h

      by : (n : ℕ) (g : Guarded) → slice_get all n ≡ Some g → (f : Bool) → is_finished n ≡ f → (contains nat_eq before.places n || is_finished n) ≡ true → is_served after.served n g.key.cluster.discovery ≡ true
      by n g at true now h = enters.served n g at now
      by n g at false none h =
          all_so (λ (name : List ℕ). stands_under before.served (Endpoints name) n) (λ (name : List ℕ). stands_under after.served (Endpoints name) n) (λ name. enters.kept (Endpoints name) n)
          (services_of g.key.cluster.discovery) (were_served n g at (was_complete n none h))

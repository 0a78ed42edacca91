-- What waits and what is complete after a line that answers a name or none, where more may be guarded.
use Rattle.std.proofs.Common.{◌≡◌, ℕ, ◌<◌, ◌≤◌, ◌⊎◌, inl, inr, Bool, true, false, not, ◌||◌, ◌&&◌, List, [], ◌∷◌, length, get_or, take, Option, Some, None, option_map, unwrap_or, refl, sym, ap, ap₂, ◌∙◌, arith}
use Rattle.std.specs.Prelude.{slice_get}
use Rattle.std.specs.List.{list_any, list_all}
use Rattle.std.proofs.lemmas.Bool.{cases_lt}
use Rattle.std.proofs.lemmas.List.{get_or_past}
use Rattle.std.proofs.lemmas.Option.{slice_get_within}
use Rattle.ev_types.specs.Hosts.{HostRowParts}
use Rattle.ev_expand.specs.Guarding.{Guarded}
use Rattle.ev_expand.proofs.DistinctLemmas.{IsExtended, first_get}
use Rattle.ev_dns.specs.declared.answers.Answers.{Answers}
use Rattle.ev_dns.specs.declared.complete.Complete.{Complete}
use Rattle.ev_dns.specs.declared.places.Places.{Places}
use Rattle.ev_dns.specs.declared.waiting.Waiting.{Waiting}
use Rattle.ev_dns.specs.Known.{has_answer, has_row, has_all, stands_under}
use Rattle.ev_dns.specs.Marking.{is_listed, passes_at}
use Rattle.ev_dns.specs.Templates.{template_rows, has_name}
use Rattle.ev_dns.specs.Waiting.{is_named, complete_at, is_waiting, HavePassed, AreWaiting, Wakes, Advances, AreComplete, EntersComplete}
use Rattle.ev_dns.proofs.WaitingLemmas.{or_second, any_so, all_so, complete_here}

both_ways : (b : Bool) → b ≡ true → b ≡ false → ⊥
both_ways true h k = cc
both_ways false h k = cc

and_second : (a b : Bool) → (a && b) ≡ true → b ≡ true
and_second true b h = h
and_second false b h = absurd (cc)

and_first : (a b : Bool) → (a && b) ≡ true → a ≡ true
and_first true b h = refl
and_first false b h = absurd (cc)

-- what waits isn't complete
open_where : (t s : HostRowParts → Bool) (xs : List HostRowParts) → list_any (λ (r : HostRowParts). not (t r) && s r) xs ≡ true → list_all t xs ≡ false
open_where t s [] h = absurd (cc)
open_where t s (x ∷ xs) h = by (t x) h (open_where t s xs)
  where
    by : (b : Bool) → ((not b && s x) || list_any (λ (r : HostRowParts). not (t r) && s r) xs) ≡ true → (list_any (λ (r : HostRowParts). not (t r) && s r) xs ≡ true → list_all t xs ≡ false) → (b && list_all t xs) ≡ false
    by true any rest = rest any
    by false any rest = refl

-- something complete is at the place
complete_there : (answers : Answers) (gs : List Guarded) (n : ℕ) → complete_at answers gs n ≡ true → (g : Guarded) × (slice_get gs n ≡ Some g) × (has_all answers g.key ≡ true)
complete_there answers gs n h = by (slice_get gs n) refl h
  where
    by : (o : Option Guarded) → slice_get gs n ≡ o → unwrap_or (option_map (λ (g : Guarded). has_all answers g.key) o) false ≡ true → (g : Guarded) × (slice_get gs n ≡ Some g) × (has_all answers g.key ≡ true)
    by None at is = absurd (cc)
    by (Some g) at is = (g, at, is)

-- what was guarded is at its place
at_first : (gs all others : List Guarded) (n : ℕ) (g : Guarded) → IsExtended gs all others → slice_get gs n ≡ Some g → slice_get all n ≡ Some g
at_first gs all others n g e at = ap (λ (xs : List Guarded). slice_get xs n) e.grown ∙ first_get gs e.more n (slice_get_within gs n g at) ∙ at

-- ---- the places that could have gone on

pub record WentOn (old new : Answers) (name : Option (List ℕ)) (gs all others : List Guarded) (before : Waiting) (mid after : Places) (woken done : List ℕ) : Type 0 where
  pub answered : (other : List ℕ) → has_answer new other ≡ (is_named name other || has_answer old other)
  pub was : AreWaiting old gs before
  pub extended : IsExtended gs all others
  pub fresh : (n : ℕ) → length gs ≤ n → n < length all → is_listed woken n ≡ true
  pub wakes : Wakes name before.under mid woken
  pub advances : Advances new all woken mid after done

module _ (old new : Answers) (name : Option (List ℕ)) (gs all others : List Guarded) (before : Waiting) (mid after : Places) (woken done : List ℕ)
    (went : WentOn old new name gs all others before mid after woken done) where
  row_still : (row : HostRowParts) → has_row old row ≡ true → has_row new row ≡ true
  row_still row h = went.answered row.host.address ∙ or_second (is_named name row.host.address) (has_row old row) h

  all_still : (g : Guarded) → has_all old g.key ≡ true → has_all new g.key ≡ true
  all_still g = all_so (has_row old) (has_row new) row_still (template_rows g.key)

  complete_still : (n : ℕ) → complete_at old gs n ≡ true → complete_at new all n ≡ true
  complete_still n h =
      let there = complete_there old gs n h in
      complete_here new all n there.0 (at_first gs all others n there.0 went.extended there.1) ∙ all_still there.0 there.2

  -- what wasn't woken was guarded before
  old_place : (n : ℕ) (g : Guarded) → slice_get all n ≡ Some g → is_listed woken n ≡ false → slice_get gs n ≡ Some g
  old_place n g at asleep = by (cases_lt n (length gs))
    where
      by : (n < length gs) ⊎ (length gs ≤ n) → slice_get gs n ≡ Some g
      by (inl within) = sym (first_get gs went.extended.more n within) ∙ ap (λ (xs : List Guarded). slice_get xs n) (sym went.extended.grown) ∙ at
      by (inr past) = absurd (both_ways (is_listed woken n) (went.fresh n past (slice_get_within all n g at)) asleep)

  -- and the name that it waited for wasn't answered
  still_waiting : (n : ℕ) (g : Guarded) → slice_get all n ≡ Some g → is_listed woken n ≡ false → has_all old g.key ≡ false → is_waiting new after n g.key ≡ true
  still_waiting n g at asleep none =
      any_so (λ (r : HostRowParts). not (has_row old r) && stands_under before.under r.host.address n) (λ (r : HostRowParts). not (has_row new r) && stands_under after r.host.address n)
      (λ r. by r (has_row old r) refl) (template_rows g.key) (went.was.waits n g (old_place n g at asleep) none)
    where
      here : (r : HostRowParts) (t : Bool) → is_named name r.host.address ≡ t → has_row old r ≡ false → stands_under before.under r.host.address n ≡ true → (not (has_row new r) && stands_under after r.host.address n) ≡ true
      here r true named unanswered stands = absurd (both_ways (is_listed woken n) (went.wakes.taken r.host.address n named stands) asleep)
      here r false unnamed unanswered stands =
          ap₂ (λ (t s : Bool). not t && s) (went.answered r.host.address ∙ ap₂ (λ (x y : Bool). x || y) unnamed unanswered)
          (went.advances.kept r.host.address n (ap (λ (places : List ℕ). is_listed places n) (went.wakes.left r.host.address unnamed) ∙ stands))

      by : (r : HostRowParts) (t : Bool) → has_row old r ≡ t → (not (has_row old r) && stands_under before.under r.host.address n) ≡ true → (not (has_row new r) && stands_under after r.host.address n) ≡ true
      by r true answered h = absurd (both_ways (not (has_row old r)) (and_first (not (has_row old r)) (stands_under before.under r.host.address n) h) (ap not answered))
      by r false unanswered h = here r (is_named name r.host.address) refl unanswered (and_second (not (has_row old r)) (stands_under before.under r.host.address n) h)

  waits_now : (n : ℕ) (g : Guarded) → slice_get all n ≡ Some g → has_all new g.key ≡ false → is_waiting new after n g.key ≡ true
  waits_now n g at none = by (is_listed woken n) refl (has_all old g.key) refl
    where
      by : (w : Bool) → is_listed woken n ≡ w → (c : Bool) → has_all old g.key ≡ c → is_waiting new after n g.key ≡ true
      by true awake c was = went.advances.waits n g at awake none
      by false asleep true was = absurd (both_ways (has_all new g.key) (all_still g was) none)
      by false asleep false was = still_waiting n g at asleep was

  pub waits_on : (waiting : Waiting) → waiting.under ≡ after → length waiting.passed.items ≡ length all → HavePassed new all waiting.passed.items → AreWaiting new all waiting
  waits_on waiting is counted passed = record {
    counted = counted;
    passed = passed;
    waits = λ n g at none. ap (λ (u : Places). is_waiting new u n g.key) is ∙ waits_now n g at none;
  }

  sound : (n : ℕ) → is_listed done n ≡ true → complete_at new all n ≡ true
  sound n h = and_second (is_listed woken n) (complete_at new all n) (sym (went.advances.finished n) ∙ h)

  whole : (n : ℕ) → complete_at new all n ≡ true → complete_at old gs n ≡ false → is_listed done n ≡ true
  whole n now was = went.advances.finished n ∙ ap₂ (λ (x y : Bool). x && y) (awake (is_listed woken n) refl) now
    where
      awake : (w : Bool) → is_listed woken n ≡ w → is_listed woken n ≡ true
      awake true h = h
      awake false asleep =
          let there = complete_there new all n now in
          let none : has_all old there.0.key ≡ false = sym (complete_here old gs n there.0 (old_place n there.0 there.1 asleep)) ∙ was in
          absurd (both_ways (has_all new there.0.key) there.2
          (open_where (has_row new) (λ (r : HostRowParts). stands_under after r.host.address n) (template_rows there.0.key) (still_waiting n there.0 there.1 asleep none)))

  joined : (w f c : Bool) → (w ≡ true → c ≡ true) → (f ≡ true → c ≡ true) → (c ≡ true → w ≡ false → f ≡ true) → (w || f) ≡ c
  joined true f c still sound whole = sym (still refl)
  joined false true c still sound whole = sym (sound refl)
  joined false false true still sound whole = whole refl refl
  joined false false false still sound whole = refl

  -- the complete places are those that were, and the finished ones
  complete_now : (n : ℕ) → (complete_at old gs n || is_listed done n) ≡ complete_at new all n
  complete_now n = joined (complete_at old gs n) (is_listed done n) (complete_at new all n) (complete_still n) (sound n) (whole n)

  -- what is complete has the same names among more
  named_still : (n : ℕ) (x : List ℕ) (c : Bool) → complete_at old gs n ≡ c → (c && passes_at (λ (g : Guarded). has_name x g.key) gs n) ≡ (c && passes_at (λ (g : Guarded). has_name x g.key) all n)
  named_still n x true was =
      let there = complete_there old gs n was in
      ap (λ (o : Option Guarded). unwrap_or (option_map (λ (g : Guarded). has_name x g.key) o) false) (there.1 ∙ sym (at_first gs all others n there.0 went.extended there.1))
  named_still n x false was = refl

  both_served : (f c h : Bool) → ((f && h) || (c && h)) ≡ ((c || f) && h)
  both_served true true true = refl
  both_served true true false = refl
  both_served true false true = refl
  both_served true false false = refl
  both_served false true true = refl
  both_served false true false = refl
  both_served false false h = refl

  pub complete_after : (were now : Complete) → AreComplete old gs were → EntersComplete all done were now → AreComplete new all now
  complete_after were now are enters = record {
    places = λ n. enters.places n ∙ ap (λ (b : Bool). b || is_listed done n) (are.places n) ∙ complete_now n;
    served = λ x n.
        let h : Bool = passes_at (λ (g : Guarded). has_name x g.key) all n in
        enters.served x n
        ∙ ap (λ (b : Bool). (is_listed done n && h) || b)
        (are.served x n ∙ ap (λ (b : Bool). b && passes_at (λ (g : Guarded). has_name x g.key) gs n) (are.places n) ∙ named_still n x (complete_at old gs n) refl)
        ∙ both_served (is_listed done n) (complete_at old gs n) h
        ∙ ap (λ (b : Bool). (b || is_listed done n) && h) (sym (are.places n)) ∙ ap (λ (b : Bool). b && h) (sym (enters.places n));
  }

-- the hosts that had passed have still
pub passed_still : (old new : Answers) (name : Option (List ℕ)) (gs all others : List Guarded) (before after : List ℕ) → ((other : List ℕ) → has_answer new other ≡ (is_named name other || has_answer old other))
    → IsExtended gs all others → length before ≡ length gs → ((n : ℕ) → get_or after n 0 ≡ get_or before n 0) → HavePassed old gs before → HavePassed new all after
passed_still old new name gs all others before after answered e counted same had n g at =
    ap (λ (m : ℕ). list_all (has_row new) (take m (template_rows g.key))) (same n) ∙ by (cases_lt n (length gs))
  where
    by : (n < length gs) ⊎ (length gs ≤ n) → list_all (has_row new) (take (get_or before n 0) (template_rows g.key)) ≡ true
    by (inl within) =
        all_so (has_row old) (has_row new) (λ row h. answered row.host.address ∙ or_second (is_named name row.host.address) (has_row old row) h) (take (get_or before n 0) (template_rows g.key))
        (had n g (sym (first_get gs e.more n within) ∙ ap (λ (xs : List Guarded). slice_get xs n) (sym e.grown) ∙ at))
    by (inr past) = let none : get_or before n 0 ≡ 0 = get_or_past before n 0 (omega (arith, past, counted)) in ap (λ (m : ℕ). list_all (has_row new) (take m (template_rows g.key))) none

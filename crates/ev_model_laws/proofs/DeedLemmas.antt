-- Deeds are done one after another: what is left after some, which operation may come next, and when none is missing.
use Rattle.std.proofs.Common.{◌≡◌, ◌⊎◌, inl, inr, ℕ, suc, ◌+◌, Bool, true, false, ◌&&◌, ◌||◌, if◌then◌else◌, nat_lt, List, [], ◌∷◌, ◌++◌, map, filter, length, take, refl, ap, sym, ◌∙◌, subst, append_assoc, arith}
use Rattle.std.specs.Prelude.{IsTrue}
use Rattle.std.specs.List.{AllByRecursion as ByRecursion, list_any, list_all, prefix_len}
use Rattle.std.specs.Cmp.{first_so}
use Rattle.std.proofs.lemmas.Bool.Decides.{nat_tests}
use Rattle.std.proofs.lemmas.List.{map-append}
use Rattle.std.proofs.lemmas.List.Elements.{filter-append}
use Rattle.std.proofs.lemmas.List.Folds.{list_all-append}
use Rattle.std.proofs.lemmas.Bool.{both_ways, or_right}
use Rattle.std.proofs.Math.Bool.{and-false, and-true}
use Rattle.ev_model.specs.Operations.{Operation, Deed, AreDone, is_settle, is_earlier}
use Rattle.ev_model_laws.proofs.OperationLists.{at_in, filter_all, filter_none, filter_alike, filter_filter, pairs_filter, pairs_front, pairs_back}
use Rattle.ev_model_laws.proofs.RisingOperations.{Earlier, IsRising, not_back, not_itself}

-- the operations of deeds
abbrev pub ops : List Deed → List Operation
ops deeds = map (λ (d : Deed). d.operation) deeds

-- the actor rests after these deeds, where it is said whether it did before
abbrev pub rest_after : Bool → List Deed → Bool
rest_after rests [] = rests
rest_after rests (deed ∷ deeds) = rest_after deed.rests deeds

-- what comes after all that are done
abbrev pub left_by : List Operation → List Operation → List Operation
left_by os done = filter (λ (o : Operation). list_all (λ (d : Operation). is_earlier d o) done) os

-- how many may be passed over
abbrev pub passed_by : Bool → List Operation → ℕ
passed_by rests os = if rests then prefix_len (λ (o : Operation). is_settle o.event) os else 0

-- those that may come next
abbrev pub next_by : Bool → List Operation → List Operation
next_by rests os = take (passed_by rests os + 1) os

-- the operation may come next: what comes before it may be passed over
pub record IsNext (rests : Bool) (os : List Operation) (o : Operation) : Type 0 where
  pub skipped : List Operation
  pub behind : List Operation
  pub whole : skipped ++ o ∷ behind ≡ os
  pub passes : ByRecursion (λ (p : Operation). IsTrue (is_settle p.event && rests)) skipped

pub rest_more : (rests : Bool) (deeds : List Deed) (deed : Deed) → rest_after rests (deeds ++ deed ∷ []) ≡ deed.rests
rest_more rests [] deed = refl
rest_more rests (first ∷ deeds) deed = rest_more first.rests deeds deed

-- one more is done
pub left_more : (os done : List Operation) (o : Operation) → left_by os (done ++ o ∷ []) ≡ filter (λ (p : Operation). is_earlier o p) (left_by os done)
left_more os done o =
    filter_alike (λ (p : Operation). list_all (λ (d : Operation). is_earlier d p) (done ++ o ∷ []))
    (λ (p : Operation). list_all (λ (d : Operation). is_earlier d p) done && is_earlier o p) os
    (λ p is.
    list_all-append (λ (d : Operation). is_earlier d p) done (o ∷ [])
    ∙ ap (λ b. list_all (λ (d : Operation). is_earlier d p) done && b) (and-true (is_earlier o p)))
    ∙ sym (filter_filter (λ (p : Operation). is_earlier o p) (λ (p : Operation). list_all (λ (d : Operation). is_earlier d p) done) os)

pub left_rises : (os done : List Operation) → IsRising os → IsRising (left_by os done)
left_rises os done rising =
    pairs_filter Earlier Earlier (λ (o : Operation). list_all (λ (d : Operation). is_earlier d o) done) os (λ a b p q e. e) rising

-- of rising operations those after one are what comes later
later_is : (skipped behind : List Operation) (o : Operation) → IsRising (skipped ++ o ∷ behind)
    → filter (λ (p : Operation). is_earlier o p) (skipped ++ o ∷ behind) ≡ behind
later_is skipped behind o rising =
    filter-append (λ (p : Operation). is_earlier o p) skipped (o ∷ behind)
    ∙ ap (λ front. front ++ filter (λ (p : Operation). is_earlier o p) (o ∷ behind))
    (filter_none (λ (p : Operation). is_earlier o p) skipped
    (λ p is. not_back p o (pairs_front Earlier skipped (o ∷ behind) rising p o is (inl refl))))
    ∙ ap (λ b. if b then o ∷ filter (λ (p : Operation). is_earlier o p) behind else filter (λ (p : Operation). is_earlier o p) behind) (not_itself o)
    ∙ filter_all (λ (p : Operation). is_earlier o p) behind (λ p is. at_in (Earlier o) p behind (pairs_back Earlier skipped (o ∷ behind) rising).0 is)

-- what is left after the next one
pub left_next : (rests : Bool) (os done : List Operation) (o : Operation) → IsRising os → (next : IsNext rests (left_by os done) o)
    → left_by os (done ++ o ∷ []) ≡ next.behind
left_next rests os done o rising next =
    left_more os done o
    ∙ ap (filter (λ (p : Operation). is_earlier o p)) (sym next.whole)
    ∙ later_is next.skipped next.behind o (subst IsRising (sym next.whole) (left_rises os done rising))

-- the next one is done, and the others after it
pub next_done : (rests : Bool) (skipped behind : List Operation) (deed : Deed) (deeds : List Deed)
    → ByRecursion (λ (p : Operation). IsTrue (is_settle p.event && rests)) skipped → AreDone deed.rests behind deeds
    → AreDone rests (skipped ++ deed.operation ∷ behind) (deed ∷ deeds)
next_done rests [] behind deed deeds passes more = inl (refl, more)
next_done rests (o ∷ skipped) behind deed deeds passes more = inr (passes.0, next_done rests skipped behind deed deeds passes.1 more)

-- the first of the deeds comes next, and the others are done after it
pub record IsNextDone (rests : Bool) (os : List Operation) (deed : Deed) (deeds : List Deed) : Type 0 where
  pub next : IsNext rests os deed.operation
  pub more : AreDone deed.rests next.behind deeds

pub done_next : (rests : Bool) (os : List Operation) (deed : Deed) (deeds : List Deed) → AreDone rests os (deed ∷ deeds) → IsNextDone rests os deed deeds
done_next rests [] deed deeds done = absurd done
done_next rests (o ∷ os) deed deeds (inl here) =
    record { next = record { skipped = []; behind = os; whole = ap (λ p. p ∷ os) here.0; passes = tt }; more = here.1 }
done_next rests (o ∷ os) deed deeds (inr passed) =
    let rest : IsNextDone rests os deed deeds = done_next rests os deed deeds passed.1 in
    record {
      next = record {
        skipped = o ∷ rest.next.skipped;
        behind = rest.next.behind;
        whole = ap (λ ps. o ∷ ps) rest.next.whole;
        passes = (passed.0, rest.next.passes);
      };
      more = rest.more;
    }

-- deeds that are done so far: with those that are done of what is left, all are done
abbrev pub IsDoneTo : Bool → List Operation → List Deed → Type 0
IsDoneTo rests os deeds = (more : List Deed) → AreDone (rest_after rests deeds) (left_by os (ops deeds)) more → AreDone rests os (deeds ++ more)

pub none_done : (rests : Bool) (os : List Operation) → IsDoneTo rests os []
none_done rests os more done = subst (λ ps. AreDone rests ps more) (filter_all (λ (o : Operation). true) os (λ o is. refl)) done

ops_more : (deeds : List Deed) (deed : Deed) → ops (deeds ++ deed ∷ []) ≡ ops deeds ++ deed.operation ∷ []
ops_more deeds deed = map-append (λ (d : Deed). d.operation) deeds (deed ∷ [])

pub one_more_done : (rests : Bool) (os : List Operation) (deeds : List Deed) (deed : Deed) → IsRising os → IsDoneTo rests os deeds
    → IsNext (rest_after rests deeds) (left_by os (ops deeds)) deed.operation → IsDoneTo rests os (deeds ++ deed ∷ [])
one_more_done rests os deeds deed rising so_far next more done =
    subst (AreDone rests os) (sym (append_assoc deeds (deed ∷ []) more))
    (so_far (deed ∷ more)
    (subst (λ ps. AreDone (rest_after rests deeds) ps (deed ∷ more)) next.whole
    (next_done (rest_after rests deeds) next.skipped next.behind deed more next.passes
    (subst (λ ps. AreDone deed.rests ps more) (ap (left_by os) (ops_more deeds deed) ∙ left_next (rest_after rests deeds) os (ops deeds) deed.operation rising next)
    (subst (λ b. AreDone b (left_by os (ops (deeds ++ deed ∷ []))) more) (rest_more rests deeds deed) done)))))

-- of deeds that are done, what is left after the first of them is done by the others
pub others_done : (rests : Bool) (os : List Operation) (deeds : List Deed) (deed : Deed) (more : List Deed) → IsRising os
    → AreDone (rest_after rests deeds) (left_by os (ops deeds)) (deed ∷ more)
    → AreDone (rest_after rests (deeds ++ deed ∷ [])) (left_by os (ops (deeds ++ deed ∷ []))) more
others_done rests os deeds deed more rising done =
    let first : IsNextDone (rest_after rests deeds) (left_by os (ops deeds)) deed more = done_next (rest_after rests deeds) (left_by os (ops deeds)) deed more done in
    subst (λ b. AreDone b (left_by os (ops (deeds ++ deed ∷ []))) more) (sym (rest_more rests deeds deed))
    (subst (λ ps. AreDone deed.rests ps more)
    (sym (ap (left_by os) (ops_more deeds deed) ∙ left_next (rest_after rests deeds) os (ops deeds) deed.operation rising first.next)) first.more)

-- an operation that passes the test, and may come next
pub record IsFound (p : Operation → Bool) (rests : Bool) (os : List Operation) : Type 0 where
  pub found : Operation
  pub passes : p found ≡ true
  pub next : IsNext rests os found

or_cases : (b c : Bool) → (b || c) ≡ true → (b ≡ true) ⊎ (c ≡ true)
or_cases true c h = inl refl
or_cases false c h = inr h

one_passes : (b : Bool) → (b || false) ≡ true → b ≡ true
one_passes true h = refl
one_passes false h = h

found_here : (p : Operation → Bool) (rests : Bool) (o : Operation) (os : List Operation) → p o ≡ true → IsFound p rests (o ∷ os)
found_here p rests o os h =
    record { found = o; passes = h; next = record { skipped = []; behind = os; whole = refl; passes = tt } }

found_later : (p : Operation → Bool) (o : Operation) (os : List Operation) → is_settle o.event ≡ true → IsFound p true os → IsFound p true (o ∷ os)
found_later p o os settle later = record {
  found = later.found;
  passes = later.passes;
  next = record {
    skipped = o ∷ later.next.skipped;
    behind = later.next.behind;
    whole = ap (λ ps. o ∷ ps) later.next.whole;
    passes = (ap (λ b. b && true) settle, later.next.passes);
  };
}

found_by : (p : Operation → Bool) (o : Operation) (os : List Operation) (settle : Bool) → is_settle o.event ≡ settle
    → (list_any p (take (prefix_len (λ (q : Operation). is_settle q.event) os + 1) os) ≡ true → IsFound p true os)
    → list_any p (take ((if settle then 1 + prefix_len (λ (q : Operation). is_settle q.event) os else 0) + 1) (o ∷ os)) ≡ true
    → IsFound p true (o ∷ os)
found_by p o os true h later any =
    let more : ((1 + prefix_len (λ (q : Operation). is_settle q.event) os) + 1) ≡ suc (prefix_len (λ (q : Operation). is_settle q.event) os + 1) = omega arith in
    by_case
    (or_cases (p o) (list_any p (take (prefix_len (λ (q : Operation). is_settle q.event) os + 1) os))
    (ap (λ m. list_any p (take m (o ∷ os))) (sym more) ∙ any))
  where
    by_case : (p o ≡ true) ⊎ (list_any p (take (prefix_len (λ (q : Operation). is_settle q.event) os + 1) os) ≡ true) → IsFound p true (o ∷ os)
    by_case (inl here) = found_here p true o os here
    by_case (inr there) = found_later p o os h (later there)
found_by p o os false h later any = found_here p true o os (one_passes (p o) any)

pub next_found : (p : Operation → Bool) (rests : Bool) (os : List Operation) → list_any p (next_by rests os) ≡ true → IsFound p rests os
next_found p true [] any = none any
  where
    none : list_any p (take (0 + 1) []) ≡ true → IsFound p true []
    none h = cc
next_found p false [] any = cc
next_found p false (o ∷ os) any = found_here p false o os (one_passes (p o) any)
next_found p true (o ∷ os) any = found_by p o os (is_settle o.event) refl (λ h. next_found p true os h) any

-- what may come next is found
pub found_next : (p : Operation → Bool) (rests : Bool) (skipped behind : List Operation) (o : Operation) → p o ≡ true
    → ByRecursion (λ (q : Operation). IsTrue (is_settle q.event && rests)) skipped → list_any p (next_by rests (skipped ++ o ∷ behind)) ≡ true
found_next p false [] behind o h passes = ap (λ b. b || false) h
found_next p true [] behind o h passes = at_first (passed_by true (o ∷ behind))
  where
    at_first : (n : ℕ) → list_any p (take (n + 1) (o ∷ behind)) ≡ true
    at_first n =
        let more : n + 1 ≡ suc n = omega arith in
        ap (λ m. list_any p (take m (o ∷ behind))) more ∙ ap (λ b. b || list_any p (take n behind)) h
found_next p false (q ∷ skipped) behind o h passes = absurd (both_ways (is_settle q.event && false) (and-false (is_settle q.event)) passes.0)
found_next p true (q ∷ skipped) behind o h passes =
    let settle : is_settle q.event ≡ true = first_so (is_settle q.event) true passes.0 in
    let more : ((1 + prefix_len (λ (r : Operation). is_settle r.event) (skipped ++ o ∷ behind)) + 1) ≡ suc (prefix_len (λ (r : Operation). is_settle r.event) (skipped ++ o ∷ behind) + 1) = omega arith in
    ap (λ b. list_any p (take ((if b then 1 + prefix_len (λ (r : Operation). is_settle r.event) (skipped ++ o ∷ behind) else 0) + 1) (q ∷ (skipped ++ o ∷ behind)))) settle
    ∙ ap (λ m. list_any p (take m (q ∷ (skipped ++ o ∷ behind)))) more
    ∙ or_right (p q) (list_any p (next_by true (skipped ++ o ∷ behind))) (found_next p true skipped behind o h passes.1)

-- nothing is missing where what is left may be left out
ended_by : (o : Operation) (os : List Operation) (settle : Bool) → is_settle o.event ≡ settle
    → (nat_lt (passed_by true os) (length os) ≡ false → AreDone true os [])
    → nat_lt (if settle then 1 + passed_by true os else 0) (suc (length os)) ≡ false → AreDone true (o ∷ os) []
ended_by o os true h more none = (ap (λ b. b && true) h, more (less (passed_by true os) (length os) none))
  where
    less : (m n : ℕ) → nat_lt (1 + m) (suc n) ≡ false → nat_lt m n ≡ false
    less m n e = grind (arith, nat_tests)
ended_by o os false h more none = absurd (some (length os) none)
  where
    some : (n : ℕ) → nat_lt 0 (suc n) ≡ false → ⊥
    some n e = grind (arith, nat_tests)

pub ended_done : (rests : Bool) (os : List Operation) → nat_lt (passed_by rests os) (length os) ≡ false → AreDone rests os []
ended_done rests [] none = tt
ended_done true (o ∷ os) none = ended_by o os (is_settle o.event) refl (λ h. ended_done true os h) none
ended_done false (o ∷ os) none = absurd (some (length os) none)
  where
    some : (n : ℕ) → nat_lt 0 (suc n) ≡ false → ⊥
    some n e = grind (arith, nat_tests)

pub done_ended : (rests : Bool) (os : List Operation) → AreDone rests os [] → nat_lt (passed_by rests os) (length os) ≡ false
done_ended true [] done = refl
done_ended false [] done = refl
done_ended true (o ∷ os) done =
    let settle : is_settle o.event ≡ true = first_so (is_settle o.event) true done.0 in
    ap (λ b. nat_lt (if b then 1 + passed_by true os else 0) (suc (length os))) settle
    ∙ more (passed_by true os) (length os) (done_ended true os done.1)
  where
    more : (m n : ℕ) → nat_lt m n ≡ false → nat_lt (1 + m) (suc n) ≡ false
    more m n e = grind (arith, nat_tests)
done_ended false (o ∷ os) done = absurd (both_ways (is_settle o.event && false) (and-false (is_settle o.event)) done.0)

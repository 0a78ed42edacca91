-- Which of two entries of an actor comes first.
use Rattle.std.proofs.Common.{◌≡◌, ◌∙◌, ◌⊎◌, inl, inr, ℕ, zero, suc, ◌<◌, ◌≤◌, Bool, true, false, cond, List, [], ◌∷◌, map, filter, Some, refl, sym, ap, subst, arith}
use Rattle.std.specs.Prelude.{slice_get, option_map}
use Rattle.std.proofs.lemmas.Bool.{both_ways, false≢true}
use Rattle.std.proofs.lemmas.Option.{slice_get-map}
use Rattle.ev_types.specs.Scripts.{IsScript, ScriptParts}
use Rattle.ev_types.specs.declared.events.Actor.{Actor}
use Rattle.ev_types.specs.declared.events.Entry.{Entry}
use Rattle.ev_model.specs.Operations.{Operation, actor_same, actor_decides, entries_of, is_earlier, operation_of, operations_of}
use Rattle.ev_model_laws.proofs.OperationLists.{IsIn, at_in}
use Rattle.ev_model_laws.proofs.RisingOperations.{IsRising, operations_rise}
use Rattle.ev_expand.proofs.ListLemmas.{in_get, in_kept}
use Rattle.ev_expand.proofs.OrderLemmas.{DoneBefore, done_before, entry_among}

-- of two in a rising list one is the earlier, or they are one
pub rising_either : (os : List Operation) (a b : Operation) → IsRising os → IsIn a os → IsIn b os → (a ≡ b) ⊎ ((is_earlier a b ≡ true) ⊎ (is_earlier b a ≡ true))
rising_either [] a b rises one other = absurd one
rising_either (x ∷ os) a b rises (inl e) (inl f) = inl (sym e ∙ f)
rising_either (x ∷ os) a b rises (inl e) (inr is) = inr (inl (subst (λ o. is_earlier o b ≡ true) e (at_in (λ o. is_earlier x o ≡ true) b os rises.0 is)))
rising_either (x ∷ os) a b rises (inr is) (inl f) = inr (inr (subst (λ o. is_earlier o a ≡ true) f (at_in (λ o. is_earlier x o ≡ true) a os rises.0 is)))
rising_either (x ∷ os) a b rises (inr is) (inr other) = rising_either os a b rises.1 is other

-- of those that pass a test and rise, each is earlier than those after it
pub first_at : (mine : Operation → Bool) (os : List Operation) (a b : Operation) (test : Bool) → mine a ≡ test → test ≡ true
    → IsRising (cond test (a ∷ filter mine os) (filter mine os)) → IsIn b (filter mine os) → is_earlier a b ≡ true
first_at mine os a b true is passes rises among = at_in (λ o. is_earlier a o ≡ true) b (filter mine os) rises.0 among
first_at mine os a b false is passes rises among = absurd (false≢true passes)

pub rest_rises : (mine : Operation → Bool) (os : List Operation) (x : Operation) (test : Bool) → IsRising (cond test (x ∷ filter mine os) (filter mine os)) → IsRising (filter mine os)
rest_rises mine os x true rises = rises.1
rest_rises mine os x false rises = rises

rises_at : (mine : Operation → Bool) (os : List Operation) (q m : ℕ) (a b : Operation) → IsRising (filter mine os) → slice_get os q ≡ Some a → slice_get os m ≡ Some b
    → mine a ≡ true → mine b ≡ true → q < m → is_earlier a b ≡ true
rises_at mine [] q m a b rises there here first second less = absurd (cc)
rises_at mine (x ∷ os) q zero a b rises there here first second less = absurd (omega (arith, less))
rises_at mine (x ∷ os) zero (suc m) a b rises there here first second less =
    let same : x ≡ a = cc in
    subst (λ o. is_earlier o b ≡ true) same
    (first_at mine os x b (mine x) refl (ap mine same ∙ first) rises (in_kept mine os b (in_get os m b here) second))
rises_at mine (x ∷ os) (suc q) (suc m) a b rises there here first second less =
    rises_at mine os q m a b (rest_rises mine os x (mine x) rises) there here first second (omega (arith, less))

module _ (script : ScriptParts) (journal : List Entry) (actor : Actor) (kept : IsScript script) (holds : entries_of journal actor ≡ operations_of script actor) where
  -- of two entries of the actor the first is the earlier
  pub entries_rise : (q m : ℕ) (first second : Entry) → slice_get journal q ≡ Some first → slice_get journal m ≡ Some second → first.actor ≡ actor → second.actor ≡ actor
      → q < m → is_earlier (operation_of first) (operation_of second) ≡ true
  entries_rise q m first second there here mine own less =
      rises_at (λ (o : Operation). actor_same o.actor actor) (map operation_of journal) q m (operation_of first) (operation_of second)
      (subst IsRising (sym holds) (operations_rise script actor kept))
      (slice_get-map operation_of journal q ∙ ap (option_map operation_of) there)
      (slice_get-map operation_of journal m ∙ ap (option_map operation_of) here)
      ((actor_decides first.actor actor).1 mine) ((actor_decides second.actor actor).1 own) less

  -- an entry not after place k does the operation
  pub record IsDoneBy (k : ℕ) (o : Operation) : Type 0 where
    pub place : ℕ
    pub within : place ≤ k
    pub entry : Entry
    pub there : slice_get journal place ≡ Some entry
    pub does : operation_of entry ≡ o

  -- this holds for each operation of the actor that is no later than its entry at place k
  pub done_by : (k : ℕ) (entry : Entry) (o : Operation) → slice_get journal k ≡ Some entry → entry.actor ≡ actor → IsIn o (operations_of script actor)
      → is_earlier (operation_of entry) o ≡ false → IsDoneBy k o
  done_by k entry o there mine among late =
      by (rising_either (operations_of script actor) o (operation_of entry) (operations_rise script actor kept) among (entry_among script journal actor k entry holds there mine))
    where
      by : (o ≡ operation_of entry) ⊎ ((is_earlier o (operation_of entry) ≡ true) ⊎ (is_earlier (operation_of entry) o ≡ true)) → IsDoneBy k o
      by (inl same) = record { place = k; within = omega arith; entry = entry; there = there; does = sym same }
      by (inr (inl less)) =
          let done : DoneBefore journal k o = done_before script journal actor k entry o kept holds there mine among less in
          record { place = done.place; within = omega (arith, done.earlier); entry = done.entry; there = done.there; does = done.does }
      by (inr (inr more)) = absurd (both_ways (is_earlier (operation_of entry) o) late more)

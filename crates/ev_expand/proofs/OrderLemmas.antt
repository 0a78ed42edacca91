-- The entries of an actor of the main side come in a run as its operations come in the script.
use Rattle.std.proofs.Common.{◌≡◌, ◌∙◌, ◌⊎◌, inl, inr, ℕ, zero, suc, ◌<◌, Bool, true, false, cond, ◌&&◌, List, [], ◌∷◌, map, filter, flat_map, Option, Some, None, refl, sym, ap, subst, arith}
use Rattle.std.specs.Prelude.{slice_get, option_map}
use Rattle.std.specs.List.{range_with_len}
use Rattle.std.proofs.lemmas.Bool.{false≢true, both_ways}
use Rattle.std.proofs.lemmas.Option.{slice_get-map}
use Rattle.ev_types.specs.Scripts.{IsScript, ScriptParts}
use Rattle.ev_types.specs.declared.events.Actor.{Actor}
use Rattle.ev_types.specs.declared.events.Entry.{Entry}
use Rattle.ev_types.specs.declared.events.Event.{Event}
use Rattle.ev_types.specs.declared.events.Event.TheVariants.{Publish, Reap, Settle}
use Rattle.ev_types.specs.declared.events.Line.{Line}
use Rattle.ev_model.specs.Operations.{Operation, actor_same, actor_decides, all_operations, entries_of, is_automatic, is_earlier, is_full_at, last_settle, line_operation, line_operations, operation_of, operations_of, step_behind}
use Rattle.ev_model_laws.proofs.OperationLists.{IsIn, at_in, in_filter, in_front, in_parts}
use Rattle.ev_model_laws.proofs.RisingOperations.{IsRising, not_back, not_itself, operations_rise}
use Rattle.ev_expand.proofs.ListLemmas.{flat_in, in_flat, in_get, in_kept, in_map, map_in}

-- the event is that of an operation which comes after a line, or after all of them
abbrev pub is_behind : Event → Bool
is_behind Publish = true
is_behind Reap = true
is_behind Settle = true
is_behind event = false

-- the operation of a line
pub record IsOfLine (script : ScriptParts) (o : Operation) : Type 0 where
  pub line : Line
  pub among : IsIn line script.lines
  pub is : line_operation line ≡ o

not_both : {P : Type 0} (event : Event) → is_behind event ≡ true → is_behind event ≡ false → P
not_both event h k = absurd (both_ways (is_behind event) k h)

follower_behind : (line : Line) (o : Operation) (automatic full : Bool)
    → IsIn o (cond automatic (step_behind line 1 Publish ∷ step_behind line 2 Reap ∷ []) (cond full (step_behind line 1 Settle ∷ []) [])) → is_behind o.event ≡ true
follower_behind line o true full (inl e) = subst (λ (p : Operation). is_behind p.event ≡ true) e refl
follower_behind line o true full (inr (inl e)) = subst (λ (p : Operation). is_behind p.event ≡ true) e refl
follower_behind line o true full (inr (inr none)) = absurd none
follower_behind line o false true (inl e) = subst (λ (p : Operation). is_behind p.event ≡ true) e refl
follower_behind line o false true (inr none) = absurd none
follower_behind line o false false none = absurd none

-- an operation that is no publication, reaping or settle is that of a line
pub of_line : (script : ScriptParts) (o : Operation) → IsIn o (all_operations script) → is_behind o.event ≡ false → IsOfLine script o
of_line script o is own = by (in_parts o (flat_map (line_operations script) script.lines) (map (last_settle script) (range_with_len 0 script.workers)) is)
  where
    at_line : (line : Line) → IsIn line script.lines → IsIn o (line_operations script line) → IsOfLine script o
    at_line line among (inl e) = record { line = line; among = among; is = e }
    at_line line among (inr later) = not_both o.event (follower_behind line o (script.auto && is_automatic line.actor) (is_full_at script.lines line) later) own

    by : IsIn o (flat_map (line_operations script) script.lines) ⊎ IsIn o (map (last_settle script) (range_with_len 0 script.workers)) → IsOfLine script o
    by (inl front) = let found = in_flat (line_operations script) script.lines o front in at_line found.0 found.1 found.2
    by (inr back) =
        let found = in_map (last_settle script) (range_with_len 0 script.workers) o back in
        not_both o.event (subst (λ (p : Operation). is_behind p.event ≡ true) found.2 refl) own

-- each line is an operation of its actor
pub line_in : (script : ScriptParts) (actor : Actor) (line : Line) → IsIn line script.lines → line.actor ≡ actor → IsIn (line_operation line) (operations_of script actor)
line_in script actor line among mine =
    in_kept (λ (o : Operation). actor_same o.actor actor) (all_operations script) (line_operation line)
    (in_front (line_operation line) (flat_map (line_operations script) script.lines) (map (last_settle script) (range_with_len 0 script.workers))
    (flat_in (line_operations script) script.lines line (line_operation line) among (inl refl)))
    ((actor_decides line.actor actor).1 mine)

-- an entry of an actor whose entries are its operations of the script is one of them
pub entry_among : (script : ScriptParts) (journal : List Entry) (actor : Actor) (q : ℕ) (entry : Entry) → entries_of journal actor ≡ operations_of script actor
    → slice_get journal q ≡ Some entry → entry.actor ≡ actor → IsIn (operation_of entry) (operations_of script actor)
entry_among script journal actor q entry holds there mine =
    subst (IsIn (operation_of entry)) holds
    (in_kept (λ (o : Operation). actor_same o.actor actor) (map operation_of journal) (operation_of entry)
    (map_in operation_of journal entry (in_get journal q entry there))
    ((actor_decides entry.actor actor).1 mine))

-- so it is one of the script's
pub entry_in : (script : ScriptParts) (journal : List Entry) (actor : Actor) (q : ℕ) (entry : Entry) → entries_of journal actor ≡ operations_of script actor
    → slice_get journal q ≡ Some entry → entry.actor ≡ actor → IsIn (operation_of entry) (all_operations script)
entry_in script journal actor q entry holds there mine =
    (in_filter (λ (o : Operation). actor_same o.actor actor) (operation_of entry) (all_operations script)
    (entry_among script journal actor q entry holds there mine)).0

-- ---- which of two comes first

-- the operation comes before place q
pub record IsBefore (os : List Operation) (q : ℕ) (o : Operation) : Type 0 where
  pub place : ℕ
  pub earlier : place < q
  pub there : slice_get os place ≡ Some o

further : (x : Operation) (os : List Operation) (q : ℕ) (o : Operation) → IsBefore os q o → IsBefore (x ∷ os) (suc q) o
further x os q o before = record { place = suc before.place; earlier = omega (arith, before.earlier); there = before.there }

first_rises : (mine : Operation → Bool) (os : List Operation) (o first : Operation) (b : Bool) → b ≡ true
    → IsRising (cond b (o ∷ filter mine os) (filter mine os)) → IsIn first (cond b (o ∷ filter mine os) (filter mine os)) → is_earlier first o ≡ true → ⊥
first_rises mine os o first false isnt rises is less = absurd (false≢true isnt)
first_rises mine os o first true mine_is rises (inl e) less =
    both_ways (is_earlier o o) (not_itself o) (subst (λ p. is_earlier p o ≡ true) (sym e) less)
first_rises mine os o first true mine_is rises (inr is) less =
    both_ways (is_earlier first o) (not_back o first (at_in (λ p. is_earlier o p ≡ true) first (filter mine os) rises.0 is)) less

later_rises : (mine : Operation → Bool) (x : Operation) (os : List Operation) (q : ℕ) (first : Operation) (b : Bool)
    → IsRising (cond b (x ∷ filter mine os) (filter mine os)) → IsIn first (cond b (x ∷ filter mine os) (filter mine os))
    → (IsRising (filter mine os) → IsIn first (filter mine os) → IsBefore os q first) → IsBefore (x ∷ os) (suc q) first
later_rises mine x os q first true rises (inl e) more = record { place = 0; earlier = omega arith; there = ap Some e }
later_rises mine x os q first true rises (inr is) more = further x os q first (more rises.1 is)
later_rises mine x os q first false rises is more = further x os q first (more rises is)

-- of those that pass a test and rise, one that is earlier than another comes before it
pub stands_before : (mine : Operation → Bool) (os : List Operation) (q : ℕ) (o first : Operation) → IsRising (filter mine os) → slice_get os q ≡ Some o → mine o ≡ true
    → IsIn first (filter mine os) → is_earlier first o ≡ true → IsBefore os q first
stands_before mine [] q o first rises there passes is less = absurd is
stands_before mine (x ∷ os) zero o first rises there passes is less =
    let same : x ≡ o = cc in
    absurd (first_rises mine os x first (mine x) (ap mine same ∙ passes) rises is (subst (λ p. is_earlier first p ≡ true) (sym same) less))
stands_before mine (x ∷ os) (suc q) o first rises there passes is less =
    later_rises mine x os q first (mine x) rises is (λ rest among. stands_before mine os q o first rest there passes among less)

-- an entry before place q that does this operation
pub record DoneBefore (journal : List Entry) (q : ℕ) (o : Operation) : Type 0 where
  pub place : ℕ
  pub earlier : place < q
  pub entry : Entry
  pub there : slice_get journal place ≡ Some entry
  pub does : operation_of entry ≡ o

done_at : (journal : List Entry) (place : ℕ) (o : Operation) → slice_get (map operation_of journal) place ≡ Some o
    → (entry : Entry) × (slice_get journal place ≡ Some entry) × (operation_of entry ≡ o)
done_at journal place o there = by (slice_get journal place) refl (sym (slice_get-map operation_of journal place) ∙ there)
  where
    by : (found : Option Entry) → slice_get journal place ≡ found → option_map operation_of found ≡ Some o
        → (entry : Entry) × (slice_get journal place ≡ Some entry) × (operation_of entry ≡ o)
    by None is h = absurd (cc)
    by (Some entry) is h = (entry, is, cc)

-- an operation of an actor that is earlier than an entry of its own was done before it
pub done_before : (script : ScriptParts) (journal : List Entry) (actor : Actor) (q : ℕ) (entry : Entry) (first : Operation) → IsScript script
    → entries_of journal actor ≡ operations_of script actor → slice_get journal q ≡ Some entry → entry.actor ≡ actor
    → IsIn first (operations_of script actor) → is_earlier first (operation_of entry) ≡ true → DoneBefore journal q first
done_before script journal actor q entry first kept holds there mine among less =
    let before : IsBefore (map operation_of journal) q first =
    stands_before (λ (o : Operation). actor_same o.actor actor) (map operation_of journal) q (operation_of entry) first
    (subst IsRising (sym holds) (operations_rise script actor kept))
    (slice_get-map operation_of journal q ∙ ap (option_map operation_of) there)
    ((actor_decides entry.actor actor).1 mine)
    (subst (IsIn first) (sym holds) among) less in
    let done = done_at journal before.place first before.there in
    record { place = before.place; earlier = before.earlier; entry = done.0; there = done.1; does = done.2 }

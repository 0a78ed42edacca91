-- The operations of each actor of a script rise by line and step.
use Rattle.std.proofs.Common.{◌≡◌, ◌≤◌, ◌<◌, ℕ, zero, suc, ◌+◌, ◌==◌, Bool, true, false, ◌&&◌, ◌||◌, if◌then◌else◌, nat_lt, List, [], ◌∷◌, map, refl, ap, sym, ◌∙◌, subst, arith}
use Rattle.std.specs.List.{AllPairs, AllByRecursion as ByRecursion, flat_map, range_with_len}
use Rattle.std.proofs.lemmas.List.Elements.{recursion_from_All}
use Rattle.std.proofs.lemmas.List.Kept.{AllPairs-from_increasing}
use Rattle.std.proofs.lemmas.Bool.Decides.{nat_tests}
use Rattle.std.proofs.lemmas.Bool.{or_right}
use Rattle.ev_types.specs.Same.{numbers_decide}
use Rattle.ev_types.specs.Scripts.{ScriptParts, IsScript}
use Rattle.ev_types.specs.declared.events.Actor.{Actor}
use Rattle.ev_types.specs.declared.events.Actor.TheVariants.{Worker}
use Rattle.ev_types.specs.declared.events.Event.TheVariants.{Publish, Reap, Settle}
use Rattle.ev_types.specs.declared.events.Line.{Line}
use Rattle.ev_model.specs.Operations.{Operation, line_operation, step_behind, last_settle, actor_same, actor_decides, is_automatic, is_full_at, line_operations, all_operations, operations_of, is_earlier}
use Rattle.ev_model_laws.proofs.OperationLists.{Pairs, at_in, each_in, each_append, pairs_append, pairs_filter}

-- the first comes before the second
abbrev pub Earlier : Operation → Operation → Type 0
Earlier a b = is_earlier a b ≡ true

abbrev pub IsRising : List Operation → Type 0
IsRising os = Pairs Earlier os

below : (a b : ℕ) → a < b → nat_lt a b ≡ true
below a b h = grind (arith, nat_tests)

earlier_line : (a b : Operation) → a.at < b.at → is_earlier a b ≡ true
earlier_line a b h = ap (λ t. t || ((a.at == b.at) && nat_lt a.step b.step)) (below a.at b.at h)

earlier_step : (a b : Operation) → a.at ≡ b.at → a.step < b.step → is_earlier a b ≡ true
earlier_step a b at h =
    or_right (nat_lt a.at b.at) ((a.at == b.at) && nat_lt a.step b.step)
    (simp ((numbers_decide a.at b.at).1 at, below a.step b.step h) refl)

-- before by number or, at one number, by step
not_back_by : (m n k l : ℕ) → (nat_lt m n || ((m == n) && nat_lt k l)) ≡ true → (nat_lt n m || ((n == m) && nat_lt l k)) ≡ false
not_back_by m n k l h = grind (arith, nat_tests)

pub not_back : (a b : Operation) → is_earlier a b ≡ true → is_earlier b a ≡ false
not_back a b h = not_back_by a.at b.at a.step b.step h

not_itself_by : (m k : ℕ) → (nat_lt m m || ((m == m) && nat_lt k k)) ≡ false
not_itself_by m k = grind (arith, nat_tests)

pub not_itself : (a : Operation) → is_earlier a a ≡ false
not_itself a = not_itself_by a.at a.step

-- where it is of one actor, the first comes before the second
abbrev EarlierOfOne : Operation → Operation → Type 0
EarlierOfOne a b = actor_same a.actor b.actor ≡ true → is_earlier a b ≡ true

-- the operations of a line are at it
followers_at_by : (script : ScriptParts) (line : Line) (automatic full : Bool)
    → ByRecursion (λ (o : Operation). o.at ≡ line.at) (if automatic then step_behind line 1 Publish ∷ step_behind line 2 Reap ∷ [] else (if full then step_behind line 1 Settle ∷ [] else []))
followers_at_by script line true full = (refl, (refl, tt))
followers_at_by script line false true = (refl, tt)
followers_at_by script line false false = tt

line_at : (script : ScriptParts) (line : Line) → ByRecursion (λ (o : Operation). o.at ≡ line.at) (line_operations script line)
line_at script line = (refl, followers_at_by script line (script.auto && is_automatic line.actor) (is_full_at script.lines line))

line_rises_by : (script : ScriptParts) (line : Line) (automatic full : Bool)
    → IsRising (line_operation line ∷ (if automatic then step_behind line 1 Publish ∷ step_behind line 2 Reap ∷ [] else (if full then step_behind line 1 Settle ∷ [] else [])))
line_rises_by script line true full =
    let first : ByRecursion (Earlier (line_operation line)) (step_behind line 1 Publish ∷ step_behind line 2 Reap ∷ []) = (
      earlier_step (line_operation line) (step_behind line 1 Publish) refl (omega arith),
      (earlier_step (line_operation line) (step_behind line 2 Reap) refl (omega arith), tt),
    ) in
    let rest : IsRising (step_behind line 1 Publish ∷ step_behind line 2 Reap ∷ []) =
    ((earlier_step (step_behind line 1 Publish) (step_behind line 2 Reap) refl (omega arith), tt), (tt, tt)) in
    (first, rest)
line_rises_by script line false true = ((earlier_step (line_operation line) (step_behind line 1 Settle) refl (omega arith), tt), (tt, tt))
line_rises_by script line false false = (tt, tt)

line_rises : (script : ScriptParts) (line : Line) → IsRising (line_operations script line)
line_rises script line = line_rises_by script line (script.auto && is_automatic line.actor) (is_full_at script.lines line)

-- a line's operations are at a line of these
at_line : (script : ScriptParts) (P : ℕ → Type 0) (lines : List Line) → ByRecursion (λ (line : Line). P line.at) lines
    → ByRecursion (λ (o : Operation). P o.at) (flat_map (line_operations script) lines)
at_line script P [] all = tt
at_line script P (line ∷ lines) all =
    each_append (λ (o : Operation). P o.at) (line_operations script line) (flat_map (line_operations script) lines)
    (each_in (λ (o : Operation). P o.at) (line_operations script line)
    (λ o is. subst P (sym (at_in (λ (p : Operation). p.at ≡ line.at) o (line_operations script line) (line_at script line) is)) all.0))
    (at_line script P lines all.1)

lines_rise : (script : ScriptParts) (lines : List Line) → Pairs (λ (l m : Line). l.at < m.at) lines → IsRising (flat_map (line_operations script) lines)
lines_rise script [] all = tt
lines_rise script (line ∷ lines) all =
    pairs_append Earlier (line_operations script line) (flat_map (line_operations script) lines)
    (line_rises script line) (lines_rise script lines all.1)
    (λ a b first second.
    let here : a.at ≡ line.at = at_in (λ (p : Operation). p.at ≡ line.at) a (line_operations script line) (line_at script line) first in
    let there : line.at < b.at =
    at_in (λ (p : Operation). line.at < p.at) b (flat_map (line_operations script) lines) (at_line script (λ n. line.at < n) lines all.0) second in
    earlier_line a b (omega arith))

each_line : (P : ℕ → Type 0) (lines : List Line) → ByRecursion P (map (λ (line : Line). line.at) lines) → ByRecursion (λ (line : Line). P line.at) lines
each_line P [] all = tt
each_line P (line ∷ lines) all = (all.0, each_line P lines all.1)

-- numbers that rise, each two of them
rising_pairs : (lines : List Line) → AllPairs (λ (m n : ℕ). m < n) (map (λ (line : Line). line.at) lines) → Pairs (λ (l m : Line). l.at < m.at) lines
rising_pairs [] all = tt
rising_pairs (line ∷ lines) all = (
  each_line (λ n. line.at < n) lines
      (recursion_from_All (λ n. line.at < n) (map (λ (l : Line). l.at) lines) (λ k d within. all 0 (suc k) d (omega arith) (omega arith))),
  rising_pairs lines (λ i j d less within. all (suc i) (suc j) d (omega arith) (omega arith)),
)

settles_from : (script : ScriptParts) (start n : ℕ)
    → ByRecursion (λ (o : Operation). (worker : ℕ) × (start ≤ worker) × (o ≡ last_settle script worker)) (map (last_settle script) (range_with_len start n))
settles_from script start zero = tt
settles_from script start (suc n) = (
  (start, omega arith, refl),
  each_in (λ (o : Operation). (worker : ℕ) × (start ≤ worker) × (o ≡ last_settle script worker)) (map (last_settle script) (range_with_len (start + 1) n))
      (λ o is.
      let some : (worker : ℕ) × (start + 1 ≤ worker) × (o ≡ last_settle script worker) =
      at_in (λ (o : Operation). (worker : ℕ) × (start + 1 ≤ worker) × (o ≡ last_settle script worker)) o (map (last_settle script) (range_with_len (start + 1) n))
      (settles_from script (start + 1) n) is in
      let least : start + 1 ≤ some.0 = some.1 in
      (some.0, omega arith, some.2)),
)

-- the last settles are of different actors
settles_apart : (script : ScriptParts) (start n : ℕ) → Pairs EarlierOfOne (map (last_settle script) (range_with_len start n))
settles_apart script start zero = tt
settles_apart script start (suc n) = (
  each_in (EarlierOfOne (last_settle script start)) (map (last_settle script) (range_with_len (start + 1) n))
      (λ o is same.
      let some : (worker : ℕ) × (start + 1 ≤ worker) × (o ≡ last_settle script worker) =
      at_in (λ (o : Operation). (worker : ℕ) × (start + 1 ≤ worker) × (o ≡ last_settle script worker)) o (map (last_settle script) (range_with_len (start + 1) n))
      (settles_from script (start + 1) n) is in
      let equal : start ≡ some.0 =
      (numbers_decide start some.0).0 (sym (ap (λ (p : Operation). actor_same (Worker start) p.actor) some.2) ∙ same) in
      let least : start + 1 ≤ some.0 = some.1 in
      absurd (omega arith)),
  settles_apart script (start + 1) n,
)

pairs_weaker : (os : List Operation) → IsRising os → Pairs EarlierOfOne os
pairs_weaker [] all = tt
pairs_weaker (o ∷ os) all =
    (each_in (EarlierOfOne o) os (λ p is same. at_in (Earlier o) p os all.0 is), pairs_weaker os all.1)

each_rises : (script : ScriptParts) → IsScript script → Pairs EarlierOfOne (all_operations script)
each_rises script kept =
    let lines : List Operation = flat_map (line_operations script) script.lines in
    let settles : List Operation = map (last_settle script) (range_with_len 0 script.workers) in
    pairs_append EarlierOfOne lines settles
    (pairs_weaker lines (lines_rise script script.lines (rising_pairs script.lines (AllPairs-from_increasing (map (λ (line : Line). line.at) script.lines) kept.rising))))
    (settles_apart script 0 script.workers)
    (λ a b first second same.
    let some : (worker : ℕ) × (0 ≤ worker) × (b ≡ last_settle script worker) =
    at_in (λ (o : Operation). (worker : ℕ) × (0 ≤ worker) × (o ≡ last_settle script worker)) b settles (settles_from script 0 script.workers) second in
    let there : b.at ≡ script.count + 1 = ap (λ (p : Operation). p.at) some.2 in
    let here : a.at ≤ script.count =
    at_in (λ (p : Operation). p.at ≤ script.count) a lines
    (at_line script (λ n. n ≤ script.count) script.lines
    (each_in (λ (line : Line). line.at ≤ script.count) script.lines
    (λ line is.
    (at_in (λ (l : Line). (2 ≤ l.at) × (l.at ≤ script.count)) line script.lines
    (recursion_from_All (λ (l : Line). (2 ≤ l.at) × (l.at ≤ script.count)) script.lines kept.numbered) is).1)))
    first in
    earlier_line a b (omega arith))

-- the operations of an actor rise
pub operations_rise : (script : ScriptParts) (actor : Actor) → IsScript script → IsRising (operations_of script actor)
operations_rise script actor kept =
    pairs_filter EarlierOfOne Earlier (λ (o : Operation). actor_same o.actor actor) (all_operations script)
    (λ a b one other so. so ((actor_decides a.actor b.actor).1 ((actor_decides a.actor actor).0 one ∙ sym ((actor_decides b.actor actor).0 other))))
    (each_rises script kept)

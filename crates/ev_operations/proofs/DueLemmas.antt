-- What is due at a line is what its actor does there.
use Rattle.std.proofs.Common.{◌≡◌, ◌≤◌, ◌<◌, ℕ, zero, suc, ◌+◌, ◌%◌, ◌==◌, Bool, true, false, ◌&&◌, if◌then◌else◌, nat_lt, List, [], ◌∷◌, ◌++◌, Some, map, filter, take, drop, length, slice_get, refl, ap, sym, ◌∙◌, subst, append-nil, append_assoc, arith}
use Rattle.std.specs.List.{AllByRecursion as ByRecursion, flat_map, range_with_len}
use Rattle.std.proofs.lemmas.List.{map-append, length-append, take-append-drop}
use Rattle.std.proofs.lemmas.List.Elements.{filter-append, recursion_from_All}
use Rattle.std.proofs.lemmas.Grind.{flat_map-append}
use Rattle.std.proofs.lemmas.Bool.Decides.{nat_tests}
use Rattle.ev_types.specs.Scripts.{ScriptParts, IsScript}
use Rattle.ev_types.specs.Same.{numbers_decide}
use Rattle.ev_types.specs.declared.events.Actor.{Actor}
use Rattle.ev_types.specs.declared.events.Actor.TheVariants.{Stream, Health, Timer, Main, Worker}
use Rattle.ev_types.specs.declared.events.Event.TheVariants.{Publish as publish, Reap as reap, Settle as settle}
use Rattle.ev_types.specs.declared.events.Line.{Line}
use Rattle.ev_types.specs.declared.limits.TheConstants.{LINE_LIMIT}
use Rattle.ev_model.specs.Runs.{is_batched}
use Rattle.ev_model.specs.Operations.{Operation, actor_decides, actor_same, followers, is_automatic, is_full_at, is_settle, is_since_settle, last_settle, line_operation, line_operations, operations_of, step_behind}
use Rattle.ev_model_laws.proofs.PlaceLemmas.{take_one}
use Rattle.ev_model_laws.proofs.ScriptOperations.{made_by}
use Rattle.ev_actors.proofs.FullLemmas.{LinesRise, lines_rise, lines_since, since_is}
use Rattle.ev_actors.proofs.PassLemmas.{lines_ended, lines_joined, lines_other, lines_same, more_counted, more_full, more_none}
use Rattle.ev_operations.specs.Dues.{AreDue, at_line, dues_at, last_dues, makes_full, operation_due, waiting_after}
use Rattle.ev_operations.specs.declared.due.Due.{Due}
use Rattle.ev_operations.specs.declared.due.Due.TheVariants.{Publish, Reap, Settle, LastSettle}

-- this many lines were gone through: what is due is what the actor does at them,
-- and this many of its accepts and closes wait
pub record AreDueSoFar (script : ScriptParts) (actor : Actor) (dues : List Due) (waiting place : ℕ) : Type 0 where
  pub due : AreDue script actor dues (made_by actor (flat_map (line_operations script) (take place script.lines)))
  pub counted : waiting ≡ length (lines_since actor (take place script.lines)) % 256
  pub few : waiting < 256

pub none_due : (script : ScriptParts) (actor : Actor) → AreDueSoFar script actor [] 0 0
none_due script actor = record { due = refl; counted = omega arith; few = omega arith }

made_append : (actor : Actor) (os others : List Operation) → made_by actor (os ++ others) ≡ made_by actor os ++ made_by actor others
made_append actor os others = filter-append (λ (o : Operation). actor_same o.actor actor) os others

due_append : (script : ScriptParts) (actor : Actor) (dues more : List Due) (os others : List Operation)
    → AreDue script actor dues os → AreDue script actor more others → AreDue script actor (dues ++ more) (os ++ others)
due_append script actor dues more os others one other =
    map-append (operation_due script actor) dues more
    ∙ ap (λ ds. ds ++ map (operation_due script actor) more) one
    ∙ ap (λ ds. map Some os ++ ds) other
    ∙ sym (map-append Some os others)

-- the operations of a line are its actor's
own_followers : (script : ScriptParts) (line : Line) (actor : Actor) (automatic full : Bool) → actor_same line.actor actor ≡ true
    → made_by actor (if automatic then step_behind line 1 publish ∷ step_behind line 2 reap ∷ [] else (if full then step_behind line 1 settle ∷ [] else []))
    ≡ (if automatic then step_behind line 1 publish ∷ step_behind line 2 reap ∷ [] else (if full then step_behind line 1 settle ∷ [] else []))
own_followers script line actor true full same = simp same refl
own_followers script line actor false true same = simp same refl
own_followers script line actor false false same = refl

other_followers : (script : ScriptParts) (line : Line) (actor : Actor) (automatic full : Bool) → actor_same line.actor actor ≡ false
    → made_by actor (if automatic then step_behind line 1 publish ∷ step_behind line 2 reap ∷ [] else (if full then step_behind line 1 settle ∷ [] else []))
    ≡ []
other_followers script line actor true full apart = simp apart refl
other_followers script line actor false true apart = simp apart refl
other_followers script line actor false false apart = refl

own_line : (script : ScriptParts) (line : Line) (actor : Actor) → actor_same line.actor actor ≡ true
    → made_by actor (line_operations script line) ≡ line_operations script line
own_line script line actor same =
    ap (λ b. if b then line_operation line ∷ made_by actor (followers script line) else made_by actor (followers script line)) same
    ∙ ap (λ os. line_operation line ∷ os) (own_followers script line actor (script.auto && is_automatic line.actor) (is_full_at script.lines line) same)

other_line : (script : ScriptParts) (line : Line) (actor : Actor) → actor_same line.actor actor ≡ false
    → made_by actor (line_operations script line) ≡ []
other_line script line actor apart =
    ap (λ b. if b then line_operation line ∷ made_by actor (followers script line) else made_by actor (followers script line)) apart
    ∙ other_followers script line actor (script.auto && is_automatic line.actor) (is_full_at script.lines line) apart

-- what is due at a line is what it does, where it is full by the count exactly where it is by the definition
due_followers : (script : ScriptParts) (actor : Actor) (place : ℕ) (line : Line) (automatic full : Bool) → slice_get script.lines place ≡ Some line
    → AreDue script actor
    (if automatic then Publish place ∷ Reap place ∷ [] else (if full then Settle place ∷ [] else []))
    (if automatic then step_behind line 1 publish ∷ step_behind line 2 reap ∷ [] else (if full then step_behind line 1 settle ∷ [] else []))
due_followers script actor place line true full there =
    ap (λ found. at_line (λ (l : Line). step_behind l 1 publish) found ∷ at_line (λ (l : Line). step_behind l 2 reap) found ∷ []) there
due_followers script actor place line false true there = ap (λ found. at_line (λ (l : Line). step_behind l 1 settle) found ∷ []) there
due_followers script actor place line false false there = refl

due_at : (script : ScriptParts) (actor : Actor) (place : ℕ) (line : Line) (waiting : ℕ) → slice_get script.lines place ≡ Some line
    → is_full_at script.lines line ≡ makes_full line waiting
    → AreDue script actor (dues_at script.auto place line waiting) (line_operations script line)
due_at script actor place line waiting there full =
    ap (λ found. at_line line_operation found ∷ map (operation_due script actor) (if script.auto && is_automatic line.actor then Publish place ∷ Reap place ∷ []
    else (if makes_full line waiting then Settle place ∷ [] else []))) there
    ∙ ap (λ ds. Some (line_operation line) ∷ ds)
    (due_followers script actor place line (script.auto && is_automatic line.actor) (makes_full line waiting) there
    ∙ ap (λ b. map Some (if script.auto && is_automatic line.actor then step_behind line 1 publish ∷ step_behind line 2 reap ∷ [] else (if b then step_behind line 1 settle ∷ [] else [])))
    (sym full))

one_longer : {X : Type 0} (xs : List X) (x : X) → length (xs ++ x ∷ []) ≡ length xs + 1
one_longer xs x = length-append xs (x ∷ [])

and_same : (a b c : Bool) → (a ≡ true → b ≡ c) → (a && b) ≡ (a && c)
and_same true b c so = so refl
and_same false b c so = refl

-- the lines in parts
whole : (lines : List Line) (place : ℕ) (line : Line) → slice_get lines place ≡ Some line → take place lines ++ line ∷ drop (place + 1) lines ≡ lines
whole lines place line there =
    sym (append_assoc (take place lines) (line ∷ []) (drop (place + 1) lines))
    ∙ ap (λ ls. ls ++ drop (place + 1) lines) (sym (take_one lines place line there))
    ∙ take-append-drop (place + 1) lines

module _ (script : ScriptParts) (kept : IsScript script) (actor : Actor) (dues : List Due) (waiting place : ℕ) (line : Line)
    (there : slice_get script.lines place ≡ Some line) (was : AreDueSoFar script actor dues waiting place) where
  abbrev front : List Line
  front = take place script.lines

  front_more : take (place + 1) script.lines ≡ front ++ line ∷ []
  front_more = take_one script.lines place line there

  made_more : made_by actor (flat_map (line_operations script) (take (place + 1) script.lines))
      ≡ made_by actor (flat_map (line_operations script) front) ++ made_by actor (line_operations script line)
  made_more =
      ap (λ ls. made_by actor (flat_map (line_operations script) ls)) front_more
      ∙ ap (made_by actor) (flat_map-append (line_operations script) front (line ∷ []) ∙ ap (λ os. flat_map (line_operations script) front ++ os) (append-nil (line_operations script line)))
      ∙ made_append actor (flat_map (line_operations script) front) (line_operations script line)

  -- a line of another
  pub other_due : actor_same line.actor actor ≡ false → AreDueSoFar script actor dues waiting (place + 1)
  other_due apart = record {
    due =
        subst (AreDue script actor dues)
        (sym (made_more ∙ ap (λ os. made_by actor (flat_map (line_operations script) front) ++ os) (other_line script line actor apart) ∙ append-nil _))
        was.due;
    counted = was.counted ∙ ap (λ ls. length ls % 256) (sym (ap (lines_since actor) front_more ∙ lines_other actor front line apart));
    few = was.few;
  }

  module _ (same : actor_same line.actor actor ≡ true) where
    own : line.actor ≡ actor
    own = (actor_decides line.actor actor).0 same

    counted_here : waiting ≡ length (lines_since line.actor front) % 256
    counted_here = subst (λ (a : Actor). waiting ≡ length (lines_since a front) % 256) (sym own) was.counted

    itself : actor_same line.actor line.actor ≡ true
    itself = (actor_decides line.actor line.actor).1 refl

    full : is_full_at script.lines line ≡ makes_full line waiting
    full =
        and_same (is_batched line.event) (length (filter (is_since_settle script.lines line) script.lines) % 256 == 0) ((waiting + 1) == 256)
        (λ batched.
        ap (λ (ls : List Line). length ls % 256 == 0)
        (since_is script.lines front (drop (place + 1) script.lines) line (lines_rise script.lines kept.rising) (whole script.lines place line there)
        ∙ lines_joined line.actor front line batched itself)
        ∙ ap (λ n. n % 256 == 0) (one_longer (lines_since line.actor front) line)
        ∙ sym (more_full waiting (length (lines_since line.actor front)) counted_here))

    since_more : lines_since actor (take (place + 1) script.lines) ≡ lines_since actor (front ++ line ∷ [])
    since_more = ap (lines_since actor) front_more

    counted_full : (b : Bool) → is_batched line.event ≡ true → ((waiting + 1) == 256) ≡ b
        → (if b then 0 else waiting + 1) ≡ length (lines_since actor (take (place + 1) script.lines)) % 256
    counted_full true batched is =
        more_none waiting (length (lines_since actor front)) was.counted is
        ∙ ap (λ n. n % 256) (sym (ap length (since_more ∙ lines_joined actor front line batched same) ∙ one_longer (lines_since actor front) line))
    counted_full false batched is =
        more_counted waiting (length (lines_since actor front)) was.counted is
        ∙ ap (λ n. n % 256) (sym (ap length (since_more ∙ lines_joined actor front line batched same) ∙ one_longer (lines_since actor front) line))

    counted_alone : (b : Bool) → is_batched line.event ≡ false → is_settle line.event ≡ b
        → (if b then 0 else waiting) ≡ length (lines_since actor (take (place + 1) script.lines)) % 256
    counted_alone true alone ends =
        let none : length (lines_since actor (take (place + 1) script.lines)) ≡ 0 = ap length (since_more ∙ lines_ended actor front line alone ends same) in omega arith
    counted_alone false alone ends =
        was.counted ∙ ap (λ ls. length ls % 256) (sym (since_more ∙ lines_same actor front line alone ends))

    counted_by : (b : Bool) → is_batched line.event ≡ b
        → (if b then (if b && ((waiting + 1) == 256) then 0 else waiting + 1) else (if is_settle line.event then 0 else waiting))
        ≡ length (lines_since actor (take (place + 1) script.lines)) % 256
    counted_by true batched = counted_full ((waiting + 1) == 256) batched refl
    counted_by false alone = counted_alone (is_settle line.event) alone refl

    -- a line of the actor's own
    pub own_due : waiting_after line waiting < 256
        → AreDueSoFar script actor (dues ++ dues_at script.auto place line waiting) (waiting_after line waiting) (place + 1)
    own_due few = record {
      due =
          subst (AreDue script actor (dues ++ dues_at script.auto place line waiting))
          (sym (made_more ∙ ap (λ os. made_by actor (flat_map (line_operations script) front) ++ os) (own_line script line actor same)))
          (due_append script actor dues (dues_at script.auto place line waiting) _ (line_operations script line) was.due
          (due_at script actor place line waiting there full));
      counted = counted_by (is_batched line.event) refl;
      few = few;
    }

-- the settles after the last line
settles_apart : (script : ScriptParts) (actor : Actor) (start n : ℕ) → ((worker : ℕ) → start ≤ worker → worker < start + n → actor_same (Worker worker) actor ≡ false)
    → made_by actor (map (last_settle script) (range_with_len start n)) ≡ []
settles_apart script actor start zero apart = refl
settles_apart script actor start (suc n) apart =
    ap (λ b. if b then last_settle script start ∷ made_by actor (map (last_settle script) (range_with_len (start + 1) n))
    else made_by actor (map (last_settle script) (range_with_len (start + 1) n))) (apart start (omega arith) (omega arith))
    ∙ settles_apart script actor (start + 1) n (λ worker from below. apart worker (omega arith) (omega arith))

number_apart : (a b : ℕ) → (a ≡ b → ⊥) → (a == b) ≡ false
number_apart a b apart = by (a == b) refl
  where
    by : (c : Bool) → (a == b) ≡ c → (a == b) ≡ false
    by true h = absurd (apart ((numbers_decide a b).0 h))
    by false h = h

not_below : (a b : ℕ) → a < b → a ≡ b → ⊥
not_below a b less same = omega arith

above_by : (start worker : ℕ) → start ≤ worker → (start == worker) ≡ false → start + 1 ≤ worker
above_by start worker from is = grind (arith, nat_tests)

nothing_below : (start worker : ℕ) → start ≤ worker → worker < start + 0 → ⊥
nothing_below start worker from below = omega arith

settle_first : (script : ScriptParts) (worker start n : ℕ) (b : Bool) → (start == worker) ≡ b
    → (b ≡ false → made_by (Worker worker) (map (last_settle script) (range_with_len (start + 1) n)) ≡ last_settle script worker ∷ [])
    → made_by (Worker worker) (map (last_settle script) (range_with_len start (suc n))) ≡ last_settle script worker ∷ []
settle_first script worker start n true is so =
    let rest : List Operation = made_by (Worker worker) (map (last_settle script) (range_with_len (start + 1) n)) in
    let here : start ≡ worker = (numbers_decide start worker).0 is in
    ap (λ b. if b then last_settle script start ∷ rest else rest) is
    ∙ ap (λ os. last_settle script start ∷ os)
    (settles_apart script (Worker worker) (start + 1) n (λ other more less. number_apart other worker (λ same. not_below start other (omega arith) (here ∙ sym same))))
    ∙ ap (λ w. last_settle script w ∷ []) here
settle_first script worker start n false is so =
    let rest : List Operation = made_by (Worker worker) (map (last_settle script) (range_with_len (start + 1) n)) in
    ap (λ b. if b then last_settle script start ∷ rest else rest) is ∙ so refl

settles_of : (script : ScriptParts) (worker start n : ℕ) → start ≤ worker → worker < start + n
    → made_by (Worker worker) (map (last_settle script) (range_with_len start n)) ≡ last_settle script worker ∷ []
settles_of script worker start zero from below = absurd (nothing_below start worker from below)
settles_of script worker start (suc n) from below =
    settle_first script worker start n (start == worker) refl
    (λ apart. settles_of script worker (start + 1) n (above_by start worker from apart) (omega arith))

is_below : (a b : ℕ) → nat_lt a b ≡ true → a < b
is_below a b h = grind (arith, nat_tests)

is_above : (a b : ℕ) → nat_lt a b ≡ false → b ≤ a
is_above a b h = grind (arith, nat_tests)

last_by : (script : ScriptParts) (worker : ℕ) (b : Bool) → nat_lt worker script.workers ≡ b
    → AreDue script (Worker worker) (if b then LastSettle ∷ [] else []) (made_by (Worker worker) (map (last_settle script) (range_with_len 0 script.workers)))
last_by script worker true is =
    let below : worker < script.workers = is_below worker script.workers is in
    ap (map Some) (sym (settles_of script worker 0 script.workers (omega arith) (omega arith)))
last_by script worker false is =
    let least : script.workers ≤ worker = is_above worker script.workers is in
    ap (map Some) (sym (settles_apart script (Worker worker) 0 script.workers
    (λ other from below. number_apart other worker (not_below other worker (omega arith)))))

last_due : (script : ScriptParts) (actor : Actor) → AreDue script actor (last_dues script.workers actor) (made_by actor (map (last_settle script) (range_with_len 0 script.workers)))
last_due script Stream = ap (map Some) (sym (settles_apart script Stream 0 script.workers (λ worker from below. refl)))
last_due script Health = ap (map Some) (sym (settles_apart script Health 0 script.workers (λ worker from below. refl)))
last_due script Timer = ap (map Some) (sym (settles_apart script Timer 0 script.workers (λ worker from below. refl)))
last_due script Main = ap (map Some) (sym (settles_apart script Main 0 script.workers (λ worker from below. refl)))
last_due script (Worker worker) = last_by script worker (nat_lt worker script.workers) refl

-- after the last line
pub all_due : (script : ScriptParts) (actor : Actor) (dues : List Due) (waiting place : ℕ) → take place script.lines ≡ script.lines → AreDueSoFar script actor dues waiting place
    → AreDue script actor (dues ++ last_dues script.workers actor) (operations_of script actor)
all_due script actor dues waiting place all was =
    let lines : List Operation = flat_map (line_operations script) script.lines in
    subst (AreDue script actor (dues ++ last_dues script.workers actor))
    (sym (made_append actor lines (map (last_settle script) (range_with_len 0 script.workers))))
    (due_append script actor dues (last_dues script.workers actor) (made_by actor lines) _
    (subst (λ (ls : List Line). AreDue script actor dues (made_by actor (flat_map (line_operations script) ls))) all was.due)
    (last_due script actor))

-- there are fewer lines than the number of the last
both_of : (line : Line) (count : ℕ) (lines : List Line) → ByRecursion (λ (m : Line). line.at < m.at) lines → ByRecursion (λ (m : Line). m.at ≤ count) lines
    → ByRecursion (λ (m : Line). (line.at + 1 ≤ m.at) × (m.at ≤ count)) lines
both_of line count [] above within = tt
both_of line count (m ∷ lines) above within =
    let less : line.at < m.at = above.0 in ((omega arith, within.0), both_of line count lines above.1 within.1)

within_of : (base count : ℕ) (lines : List Line) → ByRecursion (λ (m : Line). (base ≤ m.at) × (m.at ≤ count)) lines → ByRecursion (λ (m : Line). m.at ≤ count) lines
within_of base count [] each = tt
within_of base count (m ∷ lines) each = (each.0.1, within_of base count lines each.1)

rises_to : (base count : ℕ) (lines : List Line) → LinesRise lines → ByRecursion (λ (m : Line). (base ≤ m.at) × (m.at ≤ count)) lines → base ≤ count + 1
    → base + length lines ≤ count + 1
rises_to base count [] rise each from = omega arith
rises_to base count (line ∷ lines) rise each from =
    let low : base ≤ line.at = each.0.0 in
    let high : line.at ≤ count = each.0.1 in
    let rest : line.at + 1 + length lines ≤ count + 1 =
    rises_to (line.at + 1) count lines rise.1 (both_of line count lines rise.0 (within_of base count lines each.1)) (omega arith) in
    omega arith

few : (count limit n : ℕ) → 2 + n ≤ count + 1 → count < limit → limit ≤ 4294967296 → n < 4294967296
few count limit n h less small = omega arith

pub few_lines : (script : ScriptParts) → IsScript script → length script.lines < 4294967296
few_lines script kept =
    let some : 1 ≤ script.count = kept.counted in
    few script.count LINE_LIMIT (length script.lines)
    (rises_to 2 script.count script.lines (lines_rise script.lines kept.rising)
    (recursion_from_All (λ (line : Line). (2 ≤ line.at) × (line.at ≤ script.count)) script.lines kept.numbered) (omega arith))
    kept.few_lines (omega arith)

-- What is drawn is a script.
use Rattle.std.proofs.Common.{◌≡◌, ℕ, zero, suc, ◌+◌, ◌-◌, ◌<◌, ◌≤◌, List, [], ◌∷◌, ◌++◌, length, map, get_or, true, refl, sym, ap, subst, ◌∙◌, arith, codes, lit≤, append-nil}
use Rattle.std.proofs.lemmas.List.{length-map, get_or-map}
use mathlib.Core.List.{append_assoc}
use Rattle.std.proofs.lemmas.List.Sums.{sum_by-cons}
use Rattle.std.specs.List.Sorted.{IsStrictlyIncreasing}
use Rattle.ev_types.specs.Events.{MayMake}
use Rattle.ev_types.specs.Scripts.{IsScript, items_in, items_of}
use Rattle.ev_types.specs.declared.events.Line.{Line}
use Rattle.ev_types.specs.declared.events.Actor.TheVariants.{Stream}
use Rattle.ev_types.specs.declared.events.Event.TheVariants.{Connect}
use Rattle.ev_types.specs.declared.events.Profile.TheVariants.{Own}
use Rattle.ev_soak.specs.declared.forms.Form.{Form}
use Rattle.ev_soak.specs.declared.forms.Form.TheVariants.{Clusters, Endpoints, Listeners, RouteTables, HealthResults, FetchTimeouts, DrainTimeouts, Removals, Settles, Accepts, Closes}
use Rattle.ev_soak.specs.Draws.{next_state, behind, drawn}
use Rattle.ev_soak.specs.Soak.{form_of, draws_of, line_drawn, lines_drawn, soak_script}
use Rattle.ev_soak.proofs.DrawLemmas.{drawn_below}

-- ---- a line

line_at : (form : Form) (at x : ℕ) → (line_drawn form at x).at ≡ at
line_at Clusters at x = refl
line_at form at x = refl

may_make : (form : Form) (at x : ℕ) → MayMake 2 (line_drawn form at x).actor (line_drawn form at x).event
may_make Settles at x = drawn_below 2 x (lit≤ tt)
may_make Accepts at x = drawn_below 2 x (lit≤ tt)
may_make Closes at x = drawn_below 2 x (lit≤ tt)
may_make form at x = tt

one_item : (form : Form) (at x : ℕ) → items_in (line_drawn form at x).event ≤ 1
one_item Clusters at x = lit≤ tt
one_item form at x = lit≤ tt

-- ---- lines

length_drawn : (count at x : ℕ) → length (lines_drawn count at x) ≡ count
length_drawn zero at x = refl
length_drawn (suc count) at x = ap (λ (n : ℕ). suc n) (length_drawn count (at + 1) (behind (draws_of (form_of (drawn 14 x))) (next_state x)))

places : (count at x k : ℕ) (d : Line) → k < length (lines_drawn count at x) → (get_or (lines_drawn count at x) k d).at ≡ at + k
places zero at x k d h = absurd (omega (arith, h))
places (suc count) at x zero d h = let e : at ≡ at + zero = omega arith in line_at (form_of (drawn 14 x)) at (next_state x) ∙ e
places (suc count) at x (suc k) d h =
    let e : at + 1 + k ≡ at + suc k = omega arith in
    places count (at + 1) (behind (draws_of (form_of (drawn 14 x))) (next_state x)) k d (omega (arith, h)) ∙ e

allowed : (count at x k : ℕ) (d : Line) → k < length (lines_drawn count at x) → MayMake 2 (get_or (lines_drawn count at x) k d).actor (get_or (lines_drawn count at x) k d).event
allowed zero at x k d h = absurd (omega (arith, h))
allowed (suc count) at x zero d h = may_make (form_of (drawn 14 x)) at (next_state x)
allowed (suc count) at x (suc k) d h = allowed count (at + 1) (behind (draws_of (form_of (drawn 14 x))) (next_state x)) k d (omega (arith, h))

few_items : (count at x : ℕ) → items_of (lines_drawn count at x) ≤ count
few_items zero at x = lit≤ tt
few_items (suc count) at x =
    let line : Line = line_drawn (form_of (drawn 14 x)) at (next_state x) in
    let others : List Line = lines_drawn count (at + 1) (behind (draws_of (form_of (drawn 14 x))) (next_state x)) in
    let here : items_in line.event ≤ 1 = one_item (form_of (drawn 14 x)) at (next_state x) in
    let there : items_of others ≤ count = few_items count (at + 1) (behind (draws_of (form_of (drawn 14 x))) (next_state x)) in
    let both : items_of (line ∷ others) ≡ items_in line.event + items_of others = sum_by-cons (λ (l : Line). items_in l.event) line others in
    omega (arith, here, there, both)

-- ---- the script

abbrev all_lines : ℕ → ℕ → List Line
all_lines count seed = record { at = 2; actor = Stream; event = Connect } ∷ lines_drawn count 3 seed

all_places : (count seed k : ℕ) (d : Line) → k < length (all_lines count seed) → (get_or (all_lines count seed) k d).at ≡ k + 2
all_places count seed zero d h = refl
all_places count seed (suc k) d h = let e : 3 + k ≡ suc k + 2 = omega arith in places count 3 seed k d (omega (arith, h)) ∙ e

all_allowed : (count seed k : ℕ) (d : Line) → k < length (all_lines count seed) → MayMake 2 (get_or (all_lines count seed) k d).actor (get_or (all_lines count seed) k d).event
all_allowed count seed zero d h = tt
all_allowed count seed (suc k) d h = allowed count 3 seed k d (omega (arith, h))

rises : (count seed : ℕ) → IsStrictlyIncreasing (map (λ (line : Line). line.at) (all_lines count seed))
rises count seed k h =
    let some : Line = record { at = 0; actor = Stream; event = Connect } in
    let lines : List Line = all_lines count seed in
    let within : k + 1 < length lines = omega (arith, length-map lines (λ (line : Line). line.at)) in
    let below : k < length lines = omega arith in
    let here : get_or (map (λ (line : Line). line.at) lines) k 0 ≡ k + 2 = get_or-map (λ (line : Line). line.at) lines k some 0 below ∙ all_places count seed k some below in
    let next : get_or (map (λ (line : Line). line.at) lines) (k + 1) 0 ≡ k + 1 + 2 = get_or-map (λ (line : Line). line.at) lines (k + 1) some 0 within ∙ all_places count seed (k + 1) some within in
    omega arith

all_items : (count seed : ℕ) → items_of (all_lines count seed) ≤ count
all_items count seed =
    let e : items_of (all_lines count seed) ≡ 0 + items_of (lines_drawn count 3 seed) =
    sum_by-cons (λ (l : Line). items_in l.event) (record { at = 2; actor = Stream; event = Connect }) (lines_drawn count 3 seed) in
    omega (arith, e, few_items count 3 seed)

pub is_script : (seed count : ℕ) → 1 ≤ count → count ≤ 100000 → IsScript (soak_script seed count)
is_script seed count some few = record {
  some_worker = lit≤ tt;
  few_workers = lit≤ tt;
  named = record { given = lit≤ tt; short = lit≤ tt };
  counted = omega arith;
  few_lines = omega arith;
  rising = rises (count - 1) seed;
  numbered = λ k d h.
      let long : length (all_lines (count - 1) seed) ≡ count - 1 + 1 = ap (λ (n : ℕ). suc n) (length_drawn (count - 1) 3 seed) ∙ (omega arith) in
      let e : (get_or (all_lines (count - 1) seed) k d).at ≡ k + 2 = all_places (count - 1) seed k d h in
      (omega (arith, e), omega (arith, e, long, h));
  allowed = λ k d h. all_allowed (count - 1) seed k d h;
  few_items = let f : items_of (all_lines (count - 1) seed) ≤ count - 1 = all_items (count - 1) seed in omega (arith, f);
}

-- ---- the loop

-- the next line is in its place, and the others follow
pub one_more : (lines all : List Line) (count place state after : ℕ) (line : Line) → place < count
    → lines ++ lines_drawn (count - place) (place + 2) state ≡ all
    → line ≡ line_drawn (form_of (drawn 14 state)) (place + 2) (next_state state)
    → after ≡ behind (draws_of (form_of (drawn 14 state))) (next_state state)
    → (lines ++ line ∷ []) ++ lines_drawn (count - (place + 1)) (place + 1 + 2) after ≡ all
one_more lines all count place state after line within so_far drawn_here behind_it =
    let at : place + 1 + 2 ≡ place + 2 + 1 = omega arith in
    let left : suc (count - (place + 1)) ≡ count - place = omega arith in
    append_assoc lines (line ∷ []) (lines_drawn (count - (place + 1)) (place + 1 + 2) after)
    ∙ (λ i. lines ++ drawn_here i ∷ lines_drawn (count - (place + 1)) (at i) (behind_it i))
    ∙ ap (λ (n : ℕ). lines ++ lines_drawn n (place + 2) state) left
    ∙ so_far

-- nothing is left
pub all_drawn : (lines all : List Line) (count at state : ℕ) → lines ++ lines_drawn (count - count) at state ≡ all → lines ≡ all
all_drawn lines all count at state so_far =
    let none : 0 ≡ count - count = omega arith in
    sym (append-nil lines) ∙ ap (λ (n : ℕ). lines ++ lines_drawn n at state) none ∙ so_far

-- a script of these lines
pub script_of : (seed count : ℕ) (node : List ℕ) (lines : List Line) → node ≡ codes "soak" → lines ≡ (soak_script seed count).lines → 1 ≤ count → count ≤ 100000
    → IsScript record { workers = 2; auto = true; profile = Own; node = node; lines = lines; count = count + 1 }
script_of seed count node lines named are some few =
    subst IsScript (λ i. record { workers = 2; auto = true; profile = Own; node = sym named i; lines = sym are i; count = count + 1 }) (is_script seed count some few)

-- How many accepts and closes since a worker's last settle line come before a line, and when its batch is full.
use Rattle.std.proofs.Common.{◌≡◌, ◌<◌, ◌≤◌, ℕ, suc, nat_lt, nat_le, inl, inr, ◌⊎◌, Bool, true, false, not, ◌&&◌, List, [], ◌∷◌, ◌++◌, map, filter, refl, ap, sym, ◌∙◌, subst, append_assoc, append-nil, arith}
use Rattle.std.specs.List.{AllPairs, AllByRecursion as ByRecursion, list_any}
use Rattle.std.specs.List.Sorted.{IsStrictlyIncreasing}
use Rattle.std.proofs.lemmas.Bool.Decides.{nat_tests}
use Rattle.std.proofs.lemmas.List.Elements.{filter-append, recursion_from_All}
use Rattle.std.proofs.lemmas.List.Kept.{AllPairs-from_increasing}
use Rattle.ev_types.specs.declared.events.Actor.{Actor}
use Rattle.ev_types.specs.declared.events.Line.{Line}
use Rattle.ev_model.specs.Runs.{is_batched}
use Rattle.ev_model.specs.Operations.{actor_same, is_settle, settles_between, is_since_settle}
use Rattle.ev_model_laws.proofs.OperationLists.{IsIn, Pairs, in_front, in_back, in_parts, filter_none, any_none, pairs_front}
use Rattle.ev_actors.proofs.SinceLemmas.{last_run, run_is, any_third, any_alike, last_two, third_if, fourth_if, first_two}

-- an accept or close of the actor
abbrev pub line_joins : Actor → Line → Bool
line_joins actor line = is_batched line.event && actor_same line.actor actor

-- a settle of the actor
abbrev pub line_ends : Actor → Line → Bool
line_ends actor line = is_settle line.event && actor_same line.actor actor

-- the accepts and closes of the actor with no settle line of the actor's after them
abbrev pub lines_since : Actor → List Line → List Line
lines_since actor lines = last_run (line_joins actor) (line_ends actor) lines

-- the lines' numbers rise
abbrev Below : Line → Line → Type 0
Below l m = l.at < m.at

abbrev pub LinesRise : List Line → Type 0
LinesRise lines = Pairs Below lines

each_line : (P : ℕ → Type 0) (lines : List Line) → ByRecursion P (map (λ (line : Line). line.at) lines) → ByRecursion (λ (line : Line). P line.at) lines
each_line P [] all = tt
each_line P (line ∷ lines) all = (all.0, each_line P lines all.1)

pairs_rise : (lines : List Line) → AllPairs (λ (m n : ℕ). m < n) (map (λ (line : Line). line.at) lines) → LinesRise lines
pairs_rise [] all = tt
pairs_rise (line ∷ lines) all = (
  each_line (λ n. line.at < n) lines
      (recursion_from_All (λ n. line.at < n) (map (λ (l : Line). l.at) lines) (λ k d within. all 0 (suc k) d (omega arith) (omega arith))),
  pairs_rise lines (λ i j d less within. all (suc i) (suc j) d (omega arith) (omega arith)),
)

pub lines_rise : (lines : List Line) → IsStrictlyIncreasing (map (λ (line : Line). line.at) lines) → LinesRise lines
lines_rise lines rising = pairs_rise lines (AllPairs-from_increasing (map (λ (line : Line). line.at) lines) rising)

is_below : (a b : ℕ) → a < b → nat_lt a b ≡ true
is_below a b h = grind (arith, nat_tests)

not_below : (a b : ℕ) → b ≤ a → nat_lt a b ≡ false
not_below a b h = grind (arith, nat_tests)

not_above : (a b : ℕ) → a ≤ b → nat_le a b ≡ true
not_above a b h = grind (arith, nat_tests)

is_above : (a b : ℕ) → b < a → nat_le a b ≡ false
is_above a b h = grind (arith, nat_tests)

module _ (lines front rest : List Line) (line : Line) (rise : LinesRise lines) (all : front ++ line ∷ rest ≡ lines) where
  parted : (front ++ line ∷ []) ++ rest ≡ lines
  parted = append_assoc front (line ∷ []) rest ∙ all

  behind : (x : Line) → IsIn x rest → line.at < x.at
  behind x is =
      pairs_front Below (front ++ line ∷ []) rest (subst LinesRise (sym parted) rise) line x (in_back line front (line ∷ []) (inl refl)) is

  up_to_by : (x : Line) → IsIn x front ⊎ IsIn x (line ∷ []) → x.at ≤ line.at
  up_to_by x (inl is) =
      let less : x.at < line.at = pairs_front Below front (line ∷ rest) (subst LinesRise (sym all) rise) x line is (inl refl) in omega arith
  up_to_by x (inr (inl e)) = let same : line.at ≡ x.at = ap (λ (l : Line). l.at) e in omega arith
  up_to_by x (inr (inr is)) = absurd is

  up_to : (x : Line) → IsIn x (front ++ line ∷ []) → x.at ≤ line.at
  up_to x is = up_to_by x (in_parts x front (line ∷ []) is)

  rest_out : (x : Line) → IsIn x rest → is_since_settle lines line x ≡ false
  rest_out x is =
      third_if (is_batched x.event) (actor_same x.actor line.actor) (nat_le x.at line.at) (not (list_any (settles_between x line) lines))
      (λ own. is_above x.at line.at (behind x is))

  module _ (before back : List Line) (x : Line) (parts : before ++ x ∷ back ≡ front ++ line ∷ []) where
    whole : before ++ x ∷ (back ++ rest) ≡ lines
    whole = sym (append_assoc before (x ∷ back) rest) ∙ ap (λ ls. ls ++ rest) parts ∙ parted

    rising : LinesRise (before ++ x ∷ (back ++ rest))
    rising = subst LinesRise (sym whole) rise

    before_out : (y : Line) → IsIn y before → settles_between x line y ≡ false
    before_out y is =
        let less : y.at < x.at = pairs_front Below before (x ∷ (back ++ rest)) rising y x is (inl refl) in
        third_if (is_settle y.event) (actor_same y.actor line.actor) (nat_lt x.at y.at) (nat_le y.at line.at)
        (λ own. not_below x.at y.at (omega arith))

    itself_out : settles_between x line x ≡ false
    itself_out =
        third_if (is_settle x.event) (actor_same x.actor line.actor) (nat_lt x.at x.at) (nat_le x.at line.at)
        (λ own. not_below x.at x.at (omega arith))

    after : (y : Line) → IsIn y back → x.at < y.at
    after y is =
        pairs_front Below (before ++ x ∷ []) (back ++ rest) (subst LinesRise (sym (append_assoc before (x ∷ []) (back ++ rest))) rising) x y
        (in_back x before (x ∷ []) (inl refl)) (in_front y back rest is)

    between : (y : Line) → IsIn y back → settles_between x line y ≡ line_ends line.actor y
    between y is =
        first_two (is_settle y.event) (actor_same y.actor line.actor) (nat_lt x.at y.at) (nat_le y.at line.at)
        (λ own. is_below x.at y.at (after y is))
        (λ own. not_above y.at line.at (up_to y (subst (IsIn y) parts (in_back y before (x ∷ back) (inr is)))))

    last_out : (y : Line) → IsIn y rest → settles_between x line y ≡ false
    last_out y is =
        fourth_if (is_settle y.event) (actor_same y.actor line.actor) (nat_lt x.at y.at) (nat_le y.at line.at)
        (λ own. is_above y.at line.at (behind y is))

    settles : list_any (settles_between x line) lines ≡ list_any (line_ends line.actor) back
    settles =
        ap (list_any (settles_between x line)) (sym whole)
        ∙ any_third (settles_between x line) (line_ends line.actor) before x back rest
        (any_none (settles_between x line) before before_out)
        itself_out
        (any_alike (settles_between x line) (line_ends line.actor) back between)
        (any_none (settles_between x line) rest last_out)

  counted : (before back : List Line) (x : Line) → before ++ x ∷ back ≡ front ++ line ∷ []
      → is_since_settle lines line x ≡ (line_joins line.actor x && not (list_any (line_ends line.actor) back))
  counted before back x parts =
      last_two (line_joins line.actor x) (nat_le x.at line.at) (not (list_any (settles_between x line) lines)) (not (list_any (line_ends line.actor) back))
      (λ h. not_above x.at line.at (up_to x (subst (IsIn x) parts (in_back x before (x ∷ back) (inl refl)))))
      (λ h. ap not (settles before back x parts))

  -- the accepts and closes since the worker's settle line are those of the lines up to this one
  pub since_is : filter (is_since_settle lines line) lines ≡ lines_since line.actor (front ++ line ∷ [])
  since_is =
      ap (filter (is_since_settle lines line)) (sym parted)
      ∙ filter-append (is_since_settle lines line) (front ++ line ∷ []) rest
      ∙ ap (λ back. filter (is_since_settle lines line) (front ++ line ∷ []) ++ back) (filter_none (is_since_settle lines line) rest rest_out)
      ∙ append-nil (filter (is_since_settle lines line) (front ++ line ∷ []))
      ∙ run_is (line_joins line.actor) (line_ends line.actor) (is_since_settle lines line) (front ++ line ∷ []) counted

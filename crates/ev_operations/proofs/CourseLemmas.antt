-- What is due, and what a search for a row comes to.
use Rattle.std.proofs.Common.{◌≡◌, ◌<◌, ◌≤◌, ◌+◌, ℕ, suc, Bool, true, false, not, ◌&&◌, ◌||◌, if◌then◌else◌, nat_lt, List, [], ◌∷◌, ◌++◌, take, drop, length, get_or, Option, Some, None, slice_get, refl, ap, sym, ◌∙◌, subst, append_assoc, arith}
use Rattle.std.specs.Prelude.{IsTrue, option_map, unwrap_or}
use Rattle.std.specs.List.{AllByRecursion as ByRecursion, list_any, prefix_len}
use Rattle.std.proofs.lemmas.List.{at_drop_more, drop_all}
use Rattle.std.proofs.lemmas.Option.{slice_get-get_or}
use Rattle.std.specs.Cmp.{first_so, second_so}
use Rattle.std.proofs.lemmas.Bool.Decides.{nat_tests}
use Rattle.ev_types.specs.Scripts.{ScriptParts}
use Rattle.ev_types.specs.declared.events.Actor.{Actor}
use Rattle.ev_types.specs.declared.events.Entry.{Entry}
use Rattle.ev_types.specs.declared.events.Line.{Line}
use Rattle.ev_types.specs.declared.journals.Format.{Format}
use Rattle.ev_types.specs.declared.journals.Format.TheVariants.{One, Two}
use Rattle.ev_types.specs.declared.journals.Row.{Row}
use Rattle.ev_model.specs.Operations.{Operation, is_settle, line_operation}
use Rattle.ev_model.specs.Finding.{is_unfinished, operations_left, tells_of}
use Rattle.ev_operations.specs.Dues.{AreDue, at_line, operation_due}
use Rattle.ev_operations.specs.declared.due.Due.{Due}
use Rattle.ev_operations.specs.declared.due.Due.TheVariants.{Line as by_line, Publish, Reap, Settle, LastSettle}
use Rattle.ev_model_laws.specs.Walks.{may_leave_out, next_of}
use Rattle.ev_operations.specs.Courses.{IsFoundAt, is_left, is_settle_due, tells_due}
use Rattle.ev_operations.specs.declared.course.Course.{Course}

-- what is due is a settle exactly where its operation is
line_settles : (script : ScriptParts) (o : Operation) (line : Option Line) → at_line line_operation line ≡ Some o
    → unwrap_or (option_map (λ (l : Line). is_settle l.event) line) false ≡ is_settle o.event
line_settles script o None is = cc
line_settles script o (Some line) is =
    let same : line_operation line ≡ o = cc in ap (λ (p : Operation). is_settle p.event) same

fixed_settles : (step : Line → Operation) (settles : Bool) (o : Operation) (line : Option Line) → ((l : Line) → is_settle (step l).event ≡ settles)
    → at_line step line ≡ Some o → settles ≡ is_settle o.event
fixed_settles step settles o None each is = cc
fixed_settles step settles o (Some line) each is =
    let same : step line ≡ o = cc in sym (each line) ∙ ap (λ (p : Operation). is_settle p.event) same

pub settle_is : (script : ScriptParts) (actor : Actor) (due : Due) (o : Operation) → operation_due script actor due ≡ Some o
    → is_settle_due script due ≡ is_settle o.event
settle_is script actor (by_line place) o is = line_settles script o (slice_get script.lines place) is
settle_is script actor (Publish place) o is = fixed_settles _ false o (slice_get script.lines place) (λ l. refl) is
settle_is script actor (Reap place) o is = fixed_settles _ false o (slice_get script.lines place) (λ l. refl) is
settle_is script actor (Settle place) o is = fixed_settles _ true o (slice_get script.lines place) (λ l. refl) is
settle_is script actor LastSettle o is = ap (λ (p : Option Operation). unwrap_or (option_map (λ (q : Operation). is_settle q.event) p) true) is

-- the first of what is due, and the others
record Parts (script : ScriptParts) (actor : Actor) (due : Due) (dues : List Due) (o : Operation) (os : List Operation) : Type 0 where
  first : operation_due script actor due ≡ Some o
  others : AreDue script actor dues os

head_or : Option Operation → List (Option Operation) → Option Operation
head_or d [] = d
head_or d (x ∷ xs) = x

tail_of : List (Option Operation) → List (Option Operation)
tail_of [] = []
tail_of (x ∷ xs) = xs

parts : (script : ScriptParts) (actor : Actor) (due : Due) (dues : List Due) (o : Operation) (os : List Operation) → AreDue script actor (due ∷ dues) (o ∷ os)
    → Parts script actor due dues o os
unfolding head_or tail_of
parts script actor due dues o os are = record {
  first = ap (head_or None) are;
  others = ap tail_of are;
}

none_due : (script : ScriptParts) (actor : Actor) (due : Due) (dues : List Due) → AreDue script actor (due ∷ dues) [] → ⊥
none_due script actor due dues are = cc

none_left : (script : ScriptParts) (actor : Actor) (o : Operation) (os : List Operation) → AreDue script actor [] (o ∷ os) → ⊥
none_left script actor o os are = cc

tells_is : (script : ScriptParts) (row : Row) (due : Due) (o : Operation) → operation_due script row.actor due ≡ Some o → tells_due script row due ≡ tells_of row o
tells_is script row due o is = ap (λ (p : Option Operation). unwrap_or (option_map (tells_of row) p) false) is

not_false : (b : Bool) → not b ≡ false → b ≡ true
not_false true h = refl
not_false false h = cc

both_so : (a b c : Bool) → (a && b) ≡ true → b ≡ c → (c && a) ≡ true
both_so true true c h e = ap (λ d. d && true) (sym e)
both_so true false c h e = cc
both_so false b c h e = cc

-- where the row doesn't record what ends the search, it records none that may come next
take_more : {X : Type 0} (n : ℕ) (x : X) (xs : List X) → take (n + 1) (x ∷ xs) ≡ x ∷ take n xs
take_more n x xs = let more : n + 1 ≡ suc n = omega arith in ap (λ m. take m (x ∷ xs)) more

next_first : (o : Operation) (os : List Operation) (rests settle : Bool) → is_settle o.event ≡ settle → (rests && settle) ≡ false
    → next_of rests (o ∷ os) ≡ o ∷ []
next_first o os true true is h = cc
next_first o os true false is h = ap (λ b. take ((if b then 1 + prefix_len (λ (p : Operation). is_settle p.event) os else 0) + 1) (o ∷ os)) is
next_first o os false settle is h = refl

next_later : (o : Operation) (os : List Operation) (rests : Bool) → is_settle o.event ≡ true → rests ≡ true
    → next_of rests (o ∷ os) ≡ o ∷ next_of rests os
next_later o os true is h =
    let more : 1 + prefix_len (λ (p : Operation). is_settle p.event) os ≡ prefix_len (λ (p : Operation). is_settle p.event) os + 1 = omega arith in
    ap (λ b. take ((if b then 1 + prefix_len (λ (p : Operation). is_settle p.event) os else 0) + 1) (o ∷ os)) is
    ∙ take_more (1 + prefix_len (λ (p : Operation). is_settle p.event) os) o os
    ∙ ap (λ n. o ∷ take n os) more
next_later o os false is h = cc

none_told : (row : Row) (o : Operation) (ps qs : List Operation) → qs ≡ o ∷ ps → tells_of row o ≡ false → list_any (tells_of row) ps ≡ false → list_any (tells_of row) qs ≡ false
none_told row o ps qs is h more = ap (list_any (tells_of row)) is ∙ ap (λ b. b || list_any (tells_of row) ps) h ∙ more

false_so : (a b c : Bool) → not (a && b) ≡ true → b ≡ c → (a && c) ≡ false
false_so true true c h e = cc
false_so true false c h e = sym e
false_so false b c h e = refl

-- what is at a place and after it
at_place : (dues : List Due) (place : ℕ) (due other : Due) → place < length dues → due ≡ get_or dues place other → drop place dues ≡ due ∷ drop (place + 1) dues
at_place dues place due other below is = at_drop_more (λ (ds : List Due). ds) dues place other below ∙ ap (λ d. d ∷ drop (place + 1) dues) (sym is)

record First (script : ScriptParts) (actor : Actor) (due : Due) (dues : List Due) (left : List Operation) : Type 0 where
  operation : Operation
  behind : List Operation
  whole : operation ∷ behind ≡ left
  is : operation_due script actor due ≡ Some operation
  others : AreDue script actor dues behind

first_of : (script : ScriptParts) (actor : Actor) (due : Due) (dues : List Due) (left : List Operation) → AreDue script actor (due ∷ dues) left
    → First script actor due dues left
first_of script actor due dues [] are = absurd (none_due script actor due dues are)
first_of script actor due dues (o ∷ os) are =
    let p : Parts script actor due dues o os = parts script actor due dues o os are in
    record { operation = o; behind = os; whole = refl; is = p.first; others = p.others }

all_put : (P : Operation → Type 0) (os : List Operation) (o : Operation) → ByRecursion P os → P o → ByRecursion P (os ++ o ∷ [])
all_put P [] o all is = (is, tt)
all_put P (p ∷ os) o all is = (all.0, all_put P os o all.1 is)

-- a walk through the course has come to a place: before it come settles alone that may be left out,
-- and the row records none of them
pub record IsPassed (script : ScriptParts) (row : Row) (course : Course) (os : List Operation) (place : ℕ) : Type 0 where
  pub left : List Operation
  pub due : AreDue script row.actor (drop place course.dues) left
  pub skipped : List Operation
  pub whole : skipped ++ left ≡ os
  pub settles : ByRecursion (λ (p : Operation). IsTrue (is_settle p.event && course.rests)) skipped
  pub none : list_any (tells_of row) (next_of course.rests left) ≡ false → list_any (tells_of row) (next_of course.rests os) ≡ false

module _ (script : ScriptParts) (row : Row) (course : Course) (os : List Operation) (place : ℕ) (due other : Due)
    (passed : IsPassed script row course os place) (below : place < length course.dues) (is : due ≡ get_or course.dues place other) where
  first_here : First script row.actor due (drop (place + 1) course.dues) passed.left
  first_here =
      first_of script row.actor due (drop (place + 1) course.dues) passed.left
      (subst (λ (ds : List Due). AreDue script row.actor ds passed.left) (at_place course.dues place due other below is) passed.due)

  pub one_passed : tells_due script row due ≡ false → is_left script course.rests due ≡ false → IsPassed script row course os (place + 1)
  one_passed tells settles =
      let first : First script row.actor due (drop (place + 1) course.dues) passed.left = first_here in
      let both : (course.rests && is_settle_due script due) ≡ true = not_false (course.rests && is_settle_due script due) settles in
      let same : is_settle_due script due ≡ is_settle first.operation.event = settle_is script row.actor due first.operation first.is in
      record {
        left = first.behind;
        due = first.others;
        skipped = passed.skipped ++ first.operation ∷ [];
        whole = append_assoc passed.skipped (first.operation ∷ []) first.behind ∙ ap (λ ps. passed.skipped ++ ps) first.whole ∙ passed.whole;
        settles =
            all_put (λ (p : Operation). IsTrue (is_settle p.event && course.rests)) passed.skipped first.operation passed.settles
            (both_so course.rests (is_settle_due script due) (is_settle first.operation.event) both same);
        none = λ h. passed.none
            (none_told row first.operation (next_of course.rests first.behind) (next_of course.rests passed.left)
            (ap (next_of course.rests) (sym first.whole)
            ∙ next_later first.operation first.behind course.rests (sym same ∙ second_so course.rests (is_settle_due script due) both)
            (first_so course.rests (is_settle_due script due) both))
            (sym (tells_is script row due first.operation first.is) ∙ tells) h);
      }

  pub found_here : tells_due script row due ≡ true → IsFoundAt script row course os place
  found_here tells =
      let first : First script row.actor due (drop (place + 1) course.dues) passed.left = first_here in
      record {
        due = due;
        there = slice_get-get_or course.dues place other below ∙ ap Some (sym is);
        operation = first.operation;
        is = first.is;
        next = record {
          tells = sym (tells_is script row due first.operation first.is) ∙ tells;
          skipped = passed.skipped;
          behind = first.behind;
          whole = ap (λ ps. passed.skipped ++ ps) first.whole ∙ passed.whole;
          settles = passed.settles;
        };
        left = first.others;
      }

  pub none_from_here : tells_due script row due ≡ false → is_left script course.rests due ≡ true → list_any (tells_of row) (next_of course.rests os) ≡ false
  none_from_here tells left =
      let first : First script row.actor due (drop (place + 1) course.dues) passed.left = first_here in
      passed.none
      (none_told row first.operation [] (next_of course.rests passed.left)
      (ap (next_of course.rests) (sym first.whole)
      ∙ next_first first.operation first.behind course.rests (is_settle first.operation.event) refl
      (false_so course.rests (is_settle_due script due) (is_settle first.operation.event) left
      (settle_is script row.actor due first.operation first.is)))
      (sym (tells_is script row due first.operation first.is) ∙ tells) refl)

no_more : (script : ScriptParts) (row : Row) (rests : Bool) (os : List Operation) → AreDue script row.actor [] os → list_any (tells_of row) (next_of rests os) ≡ false
no_more script row true [] are = refl
no_more script row false [] are = refl
no_more script row rests (o ∷ os) are = absurd (none_left script row.actor o os are)

pub none_at_end : (script : ScriptParts) (row : Row) (course : Course) (os : List Operation) (place : ℕ) → IsPassed script row course os place
    → length course.dues ≤ place → list_any (tells_of row) (next_of course.rests os) ≡ false
none_at_end script row course os place passed past =
    passed.none (no_more script row course.rests passed.left (subst (λ (ds : List Due). AreDue script row.actor ds passed.left) (drop_all place course.dues past) passed.due))

-- something is left that may not be left out, by what is due
some_left : (o : Operation) (os : List Operation) (rests settle : Bool) → is_settle o.event ≡ settle
    → list_any (λ (p : Operation). not (rests && is_settle p.event)) os ≡ nat_lt (if rests then prefix_len (λ (p : Operation). is_settle p.event) os else 0) (length os)
    → (not (rests && settle) || list_any (λ (p : Operation). not (rests && is_settle p.event)) os)
    ≡ nat_lt (if rests then (if settle then 1 + prefix_len (λ (p : Operation). is_settle p.event) os else 0) else 0) (suc (length os))
some_left o os true true is more = more ∙ one_more (prefix_len (λ (p : Operation). is_settle p.event) os) (length os)
  where
    one_more : (m n : ℕ) → nat_lt m n ≡ nat_lt (1 + m) (suc n)
    one_more m n = grind (arith, nat_tests)
some_left o os true false is more = some (length os)
  where
    some : (n : ℕ) → true ≡ nat_lt 0 (suc n)
    some n = grind (arith, nat_tests)
some_left o os false settle is more = some (length os)
  where
    some : (n : ℕ) → true ≡ nat_lt 0 (suc n)
    some n = grind (arith, nat_tests)

operations_unfinished : (rests : Bool) (os : List Operation)
    → list_any (λ (p : Operation). not (rests && is_settle p.event)) os ≡ nat_lt (if rests then prefix_len (λ (p : Operation). is_settle p.event) os else 0) (length os)
operations_unfinished true [] = refl
operations_unfinished false [] = refl
operations_unfinished rests (o ∷ os) = some_left o os rests (is_settle o.event) refl (operations_unfinished rests os)

dues_unfinished : (script : ScriptParts) (actor : Actor) (rests : Bool) (dues : List Due) (os : List Operation) → AreDue script actor dues os
    → list_any (is_left script rests) dues ≡ list_any (λ (p : Operation). not (rests && is_settle p.event)) os
dues_unfinished script actor rests [] [] are = refl
dues_unfinished script actor rests [] (o ∷ os) are = absurd (none_left script actor o os are)
dues_unfinished script actor rests (due ∷ dues) [] are = absurd (none_due script actor due dues are)
dues_unfinished script actor rests (due ∷ dues) (o ∷ os) are =
    let p : Parts script actor due dues o os = parts script actor due dues o os are in
    (λ i. not (rests && settle_is script actor due o p.first i) || dues_unfinished script actor rests dues os p.others i)

unfinished_is : (format : Format) (script : ScriptParts) (journal : List Entry) (actor : Actor)
    → is_unfinished format script journal actor
    ≡ nat_lt (if may_leave_out format script journal actor then prefix_len (λ (p : Operation). is_settle p.event) (operations_left script journal actor) else 0)
    (length (operations_left script journal actor))
unfinished_is One script journal actor = refl
unfinished_is Two script journal actor = refl

pub unfinished_due : (format : Format) (script : ScriptParts) (journal : List Entry) (actor : Actor) (rests : Bool) (dues : List Due)
    → AreDue script actor dues (operations_left script journal actor) → rests ≡ may_leave_out format script journal actor
    → list_any (is_left script rests) dues ≡ is_unfinished format script journal actor
unfinished_due format script journal actor rests dues are is =
    ap (λ b. list_any (is_left script b) dues) is
    ∙ dues_unfinished script actor (may_leave_out format script journal actor) dues (operations_left script journal actor) are
    ∙ operations_unfinished (may_leave_out format script journal actor) (operations_left script journal actor)
    ∙ sym (unfinished_is format script journal actor)

-- The seats of actors, and how far each has come after an entry more.
use Rattle.std.proofs.Common.{◌≡◌, ◌<◌, ◌≤◌, ◌+◌, ◌⊎◌, inl, inr, ℕ, zero, suc, Bool, true, false, ◌&&◌, List, [], ◌∷◌, ◌++◌, filter, drop, length, nat_lt, Some, slice_get, refl, ap, sym, ◌∙◌, subst, arith}
use Rattle.std.specs.Prelude.{IsTrue, slice_set}
use Rattle.std.specs.List.{list_all, list_any, AllByRecursion as ByRecursion}
use Rattle.std.proofs.lemmas.Bool.{both_ways}
use Rattle.std.proofs.lemmas.Bool.Decides.{nat_tests}
use Rattle.std.proofs.lemmas.List.Elements.{recursion_from_All}
use Rattle.ev_types.specs.Events.{MayMake}
use Rattle.ev_types.specs.Scripts.{ScriptParts, IsScript}
use Rattle.ev_types.specs.declared.events.Actor.{Actor}
use Rattle.ev_types.specs.declared.events.Actor.TheVariants.{Stream, Health as health_checker, Timer, Main, Worker}
use Rattle.ev_types.specs.declared.events.Entry.{Entry}
use Rattle.ev_types.specs.declared.events.Event.{Event}
use Rattle.ev_types.specs.declared.events.Event.TheVariants.{Connect, Disconnect, Response, Health, FetchTimeout, DrainTimeout, TtlExpired, Publish, Reap, Accept, Close, Settle}
use Rattle.ev_types.specs.declared.journals.Format.{Format}
use Rattle.ev_types.specs.declared.journals.Row.{Row}
use Rattle.ev_model.specs.Operations.{Operation, actor_same, actor_decides, all_operations, operations_of, is_earlier, is_settle, entries_of, entry_of}
use Rattle.ev_model.specs.Finding.{is_unfinished, operations_left, passed, tells_of}
use Rattle.ev_model_laws.proofs.OperationLists.{IsIn, at_in, any_at, any_none, filter_all, in_filter}
use Rattle.ev_model_laws.proofs.ScriptOperations.{IsAllowed, all_allowed}
use Rattle.ev_operations.specs.Dues.{AreDue, operation_due}
use Rattle.ev_operations.specs.declared.due.Due.{Due}
use Rattle.ev_model_laws.specs.Walks.{may_leave_out, next_of}
use Rattle.ev_model_laws.proofs.NextLemmas.{left_other, left_own, next_actor, rests_other}
use Rattle.ev_operations.specs.Courses.{HasBegun, HasCome, HaveCome, HaveMoved, IsFound, IsFoundAt, is_left, seat_of}
use Rattle.ev_operations.proofs.CourseLemmas.{unfinished_due}
use Rattle.ev_operations.specs.declared.course.Course.{Course}
use Rattle.ev_operations.specs.declared.courses.Courses.{Courses}
use Rattle.ev_operations.specs.declared.courses.Found.{Found}

-- two actors of one seat are the same
same_worker : (a b : ℕ) → 4 + a ≡ 4 + b → a ≡ b
same_worker a b is = omega arith

pub one_seat : (a b : Actor) → seat_of a ≡ seat_of b → a ≡ b
one_seat Stream Stream is = refl
one_seat Stream health_checker is = absurd (omega arith)
one_seat Stream Timer is = absurd (omega arith)
one_seat Stream Main is = absurd (omega arith)
one_seat Stream (Worker b) is = absurd (omega arith)
one_seat health_checker Stream is = absurd (omega arith)
one_seat health_checker health_checker is = refl
one_seat health_checker Timer is = absurd (omega arith)
one_seat health_checker Main is = absurd (omega arith)
one_seat health_checker (Worker b) is = absurd (omega arith)
one_seat Timer Stream is = absurd (omega arith)
one_seat Timer health_checker is = absurd (omega arith)
one_seat Timer Timer is = refl
one_seat Timer Main is = absurd (omega arith)
one_seat Timer (Worker b) is = absurd (omega arith)
one_seat Main Stream is = absurd (omega arith)
one_seat Main health_checker is = absurd (omega arith)
one_seat Main Timer is = absurd (omega arith)
one_seat Main Main is = refl
one_seat Main (Worker b) is = absurd (omega arith)
one_seat (Worker a) Stream is = absurd (omega arith)
one_seat (Worker a) health_checker is = absurd (omega arith)
one_seat (Worker a) Timer is = absurd (omega arith)
one_seat (Worker a) Main is = absurd (omega arith)
one_seat (Worker a) (Worker b) is = ap Worker (same_worker a b is)

-- who may make an event has a seat
pub has_seat : (workers : ℕ) (actor : Actor) (event : Event) → MayMake workers actor event → seat_of actor < 4 + workers
has_seat workers Stream event may = omega arith
has_seat workers health_checker event may = omega arith
has_seat workers Timer event may = omega arith
has_seat workers Main event may = omega arith
has_seat workers (Worker worker) Connect may = absurd may
has_seat workers (Worker worker) Disconnect may = absurd may
has_seat workers (Worker worker) (Response response) may = absurd may
has_seat workers (Worker worker) (Health cluster host healthy) may = absurd may
has_seat workers (Worker worker) (FetchTimeout timeout) may = absurd may
has_seat workers (Worker worker) (DrainTimeout listener) may = absurd may
has_seat workers (Worker worker) (TtlExpired kind name) may = absurd may
has_seat workers (Worker worker) Publish may = absurd may
has_seat workers (Worker worker) Reap may = absurd may
has_seat workers (Worker worker) (Accept ask) may = let below : worker < workers = may in omega arith
has_seat workers (Worker worker) (Close connection) may = let below : worker < workers = may in omega arith
has_seat workers (Worker worker) Settle may = let below : worker < workers = may in omega arith

seat_in : (script : ScriptParts) → IsScript script → (o : Operation) → IsIn o (all_operations script) → seat_of o.actor < 4 + script.workers
seat_in script kept o is =
    has_seat script.workers o.actor o.event
    (at_in (IsAllowed script.workers) o (all_operations script)
    (recursion_from_All (IsAllowed script.workers) (all_operations script) (all_allowed script kept)) is)

-- who has no seat has nothing to do
empty_by : {X : Type 0} (xs : List X) → ((x : X) → IsIn x xs → ⊥) → xs ≡ []
empty_by [] none = refl
empty_by (x ∷ xs) none = absurd (none x (inl refl))

no_operations : (script : ScriptParts) → IsScript script → (actor : Actor) → 4 + script.workers ≤ seat_of actor → operations_of script actor ≡ []
no_operations script kept actor past =
    empty_by (operations_of script actor)
    (λ o is.
    let parts : IsIn o (all_operations script) × (actor_same o.actor actor ≡ true) = in_filter (λ (p : Operation). actor_same p.actor actor) o (all_operations script) is in
    let below : seat_of o.actor < 4 + script.workers = seat_in script kept o parts.0 in
    let same : seat_of o.actor ≡ seat_of actor = ap seat_of ((actor_decides o.actor actor).0 parts.1) in
    omega arith)

next_of_none : (row : Row) (rests : Bool) → list_any (tells_of row) (next_of rests []) ≡ false
next_of_none row true = refl
next_of_none row false = refl

pub no_seat : (script : ScriptParts) → IsScript script → (journal : List Entry) (row : Row) (rests : Bool) → 4 + script.workers ≤ seat_of row.actor
    → list_any (tells_of row) (next_of rests (operations_left script journal row.actor)) ≡ false
no_seat script kept journal row rests past =
    ap (λ os. list_any (tells_of row) (next_of rests (filter (λ o. list_all (λ d. is_earlier d o) (entries_of journal row.actor)) os)))
    (no_operations script kept row.actor past)
    ∙ next_of_none row rests

-- nothing is done yet
none_done : (script : ScriptParts) (actor : Actor) → operations_left script [] actor ≡ operations_of script actor
none_done script actor = filter_all (λ (o : Operation). true) (operations_of script actor) (λ o is. refl)

pub begun_come : (format : Format) (script : ScriptParts) (actor : Actor) (course : Course) → HasBegun format script actor course → HasCome format script [] actor course
begun_come format script actor course begun = record {
  within = subst (λ (n : ℕ). n ≤ length course.dues) (sym begun.place) (omega arith);
  due =
      subst (λ (n : ℕ). AreDue script actor (drop n course.dues) (operations_left script [] actor)) (sym begun.place)
      (subst (AreDue script actor course.dues) (sym (none_done script actor)) begun.due);
  rests = begun.rests;
}

-- this many have a seat, and each has come so far
pub record AreSeated (format : Format) (script : ScriptParts) (journal : List Entry) (count : ℕ) (seats : List Course) : Type 0 where
  pub seated : length seats ≡ count
  pub each : (actor : Actor) (course : Course) → slice_get seats (seat_of actor) ≡ Some course → HasCome format script journal actor course

got_more : {X : Type 0} (xs : List X) (x y : X) (k : ℕ) → slice_get (xs ++ x ∷ []) k ≡ Some y → (slice_get xs k ≡ Some y) ⊎ ((k ≡ length xs) × (x ≡ y))
got_more [] x y zero is = inr (refl, cc)
got_more [] x y (suc k) is = absurd (none k is)
  where
    none : (k : ℕ) → slice_get (x ∷ []) (suc k) ≡ Some y → ⊥
    none k h = cc
got_more (first ∷ xs) x y zero is = inl is
got_more (first ∷ xs) x y (suc k) is = later (got_more xs x y k is)
  where
    later : (slice_get xs k ≡ Some y) ⊎ ((k ≡ length xs) × (x ≡ y)) → (slice_get xs k ≡ Some y) ⊎ ((suc k ≡ length (first ∷ xs)) × (x ≡ y))
    later (inl h) = inl h
    later (inr h) = inr (ap suc h.0, h.1)

one_longer : {X : Type 0} (xs : List X) (x : X) → length (xs ++ x ∷ []) ≡ length xs + 1
one_longer [] x = refl
one_longer (y ∷ xs) x = let more : length (xs ++ x ∷ []) ≡ length xs + 1 = one_longer xs x in omega arith

pub one_seated : (format : Format) (script : ScriptParts) (count : ℕ) (seats : List Course) (actor : Actor) (course : Course)
    → AreSeated format script [] count seats → seat_of actor ≡ count → HasBegun format script actor course
    → AreSeated format script [] (count + 1) (seats ++ course ∷ [])
one_seated format script count seats actor course seated seat begun = record {
  seated = one_longer seats course ∙ ap (λ n. n + 1) seated.seated;
  each = λ other there is. by other there (got_more seats course there (seat_of other) is);
}
  where
    by : (other : Actor) (there : Course) → (slice_get seats (seat_of other) ≡ Some there) ⊎ ((seat_of other ≡ length seats) × (course ≡ there))
        → HasCome format script [] other there
    by other there (inl h) = seated.each other there h
    by other there (inr h) =
        subst (λ (a : Actor). HasCome format script [] a there)
        (one_seat actor other (seat ∙ sym seated.seated ∙ sym h.0))
        (subst (HasCome format script [] actor) h.1 (begun_come format script actor course begun))

pub seat_put : (format : Format) (script : ScriptParts) (count : ℕ) (seats put : List Course) (actor : Actor) (course : Course)
    → AreSeated format script [] count seats → seat_of actor ≡ count → HasBegun format script actor course → put ≡ seats ++ course ∷ []
    → AreSeated format script [] (count + 1) put
seat_put format script count seats put actor course seated seat begun is =
    subst (AreSeated format script [] (count + 1)) (sym is) (one_seated format script count seats actor course seated seat begun)

pub worker_put : (format : Format) (script : ScriptParts) (worker : ℕ) (seats put : List Course) (course : Course)
    → AreSeated format script [] (4 + worker) seats → HasBegun format script (Worker worker) course → put ≡ seats ++ course ∷ []
    → AreSeated format script [] (4 + (worker + 1)) put
worker_put format script worker seats put course seated begun is =
    let more : 4 + worker + 1 ≡ 4 + (worker + 1) = omega arith in
    subst (λ n. AreSeated format script [] n put) more
    (seat_put format script (4 + worker) seats put (Worker worker) course seated refl begun is)

pub none_seated : (format : Format) (script : ScriptParts) → AreSeated format script [] 0 []
none_seated format script = record { seated = refl; each = λ actor course is. absurd (none (seat_of actor) course is) }
  where
    none : (k : ℕ) (course : Course) → slice_get [] k ≡ Some course → ⊥
    none zero course h = cc
    none (suc k) course h = cc

-- a place that is set, and the others
got_set : {X : Type 0} (xs : List X) (i k : ℕ) (x y z : X) → slice_get xs i ≡ Some z → slice_get (slice_set xs i x) k ≡ Some y
    → ((k ≡ i) × (x ≡ y)) ⊎ ((k ≡ i → ⊥) × (slice_get xs k ≡ Some y))
got_set [] zero k x y z there is = cc
got_set [] (suc i) k x y z there is = cc
got_set (first ∷ xs) zero zero x y z there is = inl (refl, cc)
got_set (first ∷ xs) zero (suc k) x y z there is = inr ((λ e. absurd (omega arith)), is)
got_set (first ∷ xs) (suc i) zero x y z there is = inr ((λ e. absurd (omega arith)), is)
got_set (first ∷ xs) (suc i) (suc k) x y z there is = later (got_set xs i k x y z there is)
  where
    later : ((k ≡ i) × (x ≡ y)) ⊎ ((k ≡ i → ⊥) × (slice_get xs k ≡ Some y))
        → ((suc k ≡ suc i) × (x ≡ y)) ⊎ ((suc k ≡ suc i → ⊥) × (slice_get (first ∷ xs) (suc k) ≡ Some y))
    later (inl h) = inl (ap suc h.0, h.1)
    later (inr h) = inr ((λ e. h.0 (omega arith)), h.1)

set_long : {X : Type 0} (xs : List X) (i : ℕ) (x : X) → length (slice_set xs i x) ≡ length xs
set_long [] zero x = refl
set_long [] (suc i) x = refl
set_long (first ∷ xs) zero x = refl
set_long (first ∷ xs) (suc i) x = let more : length (slice_set xs i x) ≡ length xs = set_long xs i x in omega arith

within_more : (dues : ℕ) (place : ℕ) → place < dues → place + 1 ≤ dues
within_more dues place below = omega arith

apart : (a b : Actor) → (seat_of a ≡ seat_of b → ⊥) → actor_same b a ≡ false
apart a b differ = by (actor_same b a) refl
  where
    by : (same : Bool) → actor_same b a ≡ same → actor_same b a ≡ false
    by true h = absurd (differ (ap seat_of (sym ((actor_decides b a).0 h))))
    by false h = h

pub below_there : {X : Type 0} (xs : List X) (k : ℕ) (x : X) → slice_get xs k ≡ Some x → k < length xs
below_there [] zero x is = cc
below_there [] (suc k) x is = cc
below_there (y ∷ xs) zero x is = omega arith
below_there (y ∷ xs) (suc k) x is = let less : k < length xs = below_there xs k x is in omega arith

-- what a course's search found is found among the courses
pub found_seated : (script : ScriptParts) (journal : List Entry) (row : Row) (courses : Courses) (found : Found) (course : Course) → HaveCome script journal courses
    → found.seat ≡ seat_of row.actor → slice_get courses.seats.items found.seat ≡ Some course → slice_get course.dues found.place ≡ Some found.due
    → ((os : List Operation) → AreDue script row.actor (drop course.place course.dues) os → IsFoundAt script row course os found.place)
    → IsFound script journal row courses found
found_seated script journal row courses found course come seat seated there at =
    let has : HasCome courses.format script journal row.actor course = come.each row.actor course (ap (slice_get courses.seats.items) (sym seat) ∙ seated) in
    let here : IsFoundAt script row course (operations_left script journal row.actor) found.place = at (operations_left script journal row.actor) has.due in
    let same : found.due ≡ here.due = one_due found.due here.due (sym there ∙ here.there) in
    record {
      seat = seat;
      course = course;
      seated = seated;
      there = there;
      operation = here.operation;
      is = ap (operation_due script row.actor) same ∙ here.is;
      next = record {
        tells = here.next.tells;
        skipped = here.next.skipped;
        behind = here.next.behind;
        whole = here.next.whole;
        settles = subst (λ (b : Bool). ByRecursion (λ (p : Operation). IsTrue (is_settle p.event && b)) here.next.skipped) has.rests here.next.settles;
      };
      left = here.left;
    }
  where
    one_due : (a b : Due) → Some a ≡ Some b → a ≡ b
    one_due a b is = cc

-- what a course's search doesn't find isn't found among the courses
pub stray_seated : (script : ScriptParts) (journal : List Entry) (row : Row) (courses : Courses) (course : Course) → HaveCome script journal courses
    → slice_get courses.seats.items (seat_of row.actor) ≡ Some course
    → ((os : List Operation) → AreDue script row.actor (drop course.place course.dues) os → list_any (tells_of row) (next_of course.rests os) ≡ false)
    → list_any (tells_of row) (next_of (may_leave_out courses.format script journal row.actor) (operations_left script journal row.actor)) ≡ false
stray_seated script journal row courses course come seated none =
    let has : HasCome courses.format script journal row.actor course = come.each row.actor course seated in
    ap (λ rests. list_any (tells_of row) (next_of rests (operations_left script journal row.actor))) (sym has.rests)
    ∙ none (operations_left script journal row.actor) has.due

-- after the entry of what was found
module _ (script : ScriptParts) (kept : IsScript script) (journal : List Entry) (row : Row) (before : Courses) (found : Found) (rests : Bool)
    (come : HaveCome script journal before) (is : IsFound script journal row before found)
    (marked : rests ≡ may_leave_out before.format script (journal ++ entry_of is.operation row.answer ∷ []) row.actor) where
  abbrev later : List Entry
  later = journal ++ entry_of is.operation row.answer ∷ []

  abbrev goes_on : Course
  goes_on = record is.course { place = found.place + 1; rests = rests }

  own_come : HasCome before.format script later row.actor goes_on
  own_come = record {
    within = within_more (length is.course.dues) found.place (below_there is.course.dues found.place found.due is.there);
    due =
        subst (AreDue script row.actor (drop (found.place + 1) is.course.dues))
        (sym (left_own before.format script kept journal row is.operation is.next)) is.left;
    rests = marked;
  }

  other_come : (actor : Actor) (course : Course) → (seat_of actor ≡ found.seat → ⊥) → HasCome before.format script journal actor course
      → HasCome before.format script later actor course
  other_come actor course differ old =
      let other : actor_same is.operation.actor actor ≡ false =
      ap (λ a. actor_same a actor) (next_actor before.format script kept journal row is.operation is.next)
      ∙ apart actor row.actor (λ e. differ (e ∙ sym is.seat)) in
      record {
        within = old.within;
        due =
            subst (AreDue script actor (drop course.place course.dues))
            (sym (left_other script journal (entry_of is.operation row.answer) actor other)) old.due;
        rests = old.rests ∙ sym (rests_other before.format script journal (entry_of is.operation row.answer) actor other);
      }

  come_by : (actor : Actor) (course : Course)
      → ((seat_of actor ≡ found.seat) × (goes_on ≡ course)) ⊎ ((seat_of actor ≡ found.seat → ⊥) × (slice_get before.seats.items (seat_of actor) ≡ Some course))
      → HasCome before.format script later actor course
  come_by actor course (inl h) =
      subst (λ (a : Actor). HasCome before.format script later a course) (one_seat row.actor actor (sym is.seat ∙ sym h.0))
      (subst (HasCome before.format script later row.actor) h.1 own_come)
  come_by actor course (inr h) = other_come actor course h.0 (come.each actor course h.1)

  pub more_come : (after : Courses) → HaveMoved found rests before after → HaveCome script later after
  more_come after moved =
      let set_is : after.seats.items ≡ slice_set before.seats.items found.seat goes_on = moved.moved is.course is.seated in
      record {
        count = ap length set_is ∙ set_long before.seats.items found.seat goes_on ∙ come.count;
        each = λ actor course there.
            subst (λ (f : Format). HasCome f script later actor course) (sym moved.format)
            (come_by actor course
            (got_set before.seats.items found.seat (seat_of actor) goes_on course is.course is.seated (ap (λ cs. slice_get cs (seat_of actor)) (sym set_is) ∙ there)));
      }

-- whose seat it is
actor_seated : (seat : ℕ) → (actor : Actor) × (seat_of actor ≡ seat)
actor_seated zero = (Stream, refl)
actor_seated (suc zero) = (health_checker, refl)
actor_seated (suc (suc zero)) = (Timer, refl)
actor_seated (suc (suc (suc zero))) = (Main, refl)
actor_seated (suc (suc (suc (suc worker)))) = (Worker worker, omega arith)

not_below_none : (n : ℕ) → nat_lt n 0 ≡ false
not_below_none n = grind (arith, nat_tests)

-- an actor that isn't finished has an operation
pub some_unfinished : (format : Format) (script : ScriptParts) (journal : List Entry) (actor : Actor) → is_unfinished format script journal actor ≡ true
    → list_any (λ (o : Operation). is_unfinished format script journal o.actor) (all_operations script) ≡ true
some_unfinished format script journal actor h = by (operations_of script actor) refl
  where
    by : (os : List Operation) → operations_of script actor ≡ os → list_any (λ (o : Operation). is_unfinished format script journal o.actor) (all_operations script) ≡ true
    by [] is =
        let none : is_unfinished format script journal actor ≡ false =
        ap (λ os. nat_lt (passed format script journal actor) (length (filter (λ o. list_all (λ d. is_earlier d o) (entries_of journal actor)) os))) is
        ∙ not_below_none (passed format script journal actor) in
        absurd (both_ways (is_unfinished format script journal actor) none h)
    by (o ∷ os) is =
        let parts : IsIn o (all_operations script) × (actor_same o.actor actor ≡ true) =
        in_filter (λ (p : Operation). actor_same p.actor actor) o (all_operations script) (subst (IsIn o) (sym is) (inl refl)) in
        any_at (λ (p : Operation). is_unfinished format script journal p.actor) o (all_operations script) parts.0
        (ap (is_unfinished format script journal) ((actor_decides o.actor actor).0 parts.1) ∙ h)

-- the course of a seat isn't finished
pub seat_unfinished : (script : ScriptParts) (journal : List Entry) (courses : Courses) (seat : ℕ) (course : Course) → HaveCome script journal courses
    → slice_get courses.seats.items seat ≡ Some course → list_any (is_left script course.rests) (drop course.place course.dues) ≡ true
    → list_any (λ (o : Operation). is_unfinished courses.format script journal o.actor) (all_operations script) ≡ true
seat_unfinished script journal courses seat course come there h =
    let whose : (actor : Actor) × (seat_of actor ≡ seat) = actor_seated seat in
    let has : HasCome courses.format script journal whose.0 course = come.each whose.0 course (ap (slice_get courses.seats.items) whose.1 ∙ there) in
    some_unfinished courses.format script journal whose.0
    (sym (unfinished_due courses.format script journal whose.0 course.rests (drop course.place course.dues) has.due has.rests) ∙ h)

there_is : {X : Type 0} (xs : List X) (k : ℕ) → k < length xs → (x : X) × (slice_get xs k ≡ Some x)
there_is [] k below = absurd (omega arith)
there_is (x ∷ xs) zero below = (x, refl)
there_is (x ∷ xs) (suc k) below = there_is xs k (omega arith)

-- each course is finished
pub all_finished : (script : ScriptParts) → IsScript script → (journal : List Entry) (courses : Courses) → HaveCome script journal courses
    → ((seat : ℕ) (course : Course) → slice_get courses.seats.items seat ≡ Some course → list_any (is_left script course.rests) (drop course.place course.dues) ≡ false)
    → list_any (λ (o : Operation). is_unfinished courses.format script journal o.actor) (all_operations script) ≡ false
all_finished script kept journal courses come finished =
    any_none (λ (o : Operation). is_unfinished courses.format script journal o.actor) (all_operations script)
    (λ o is.
    let below : seat_of o.actor < 4 + script.workers = seat_in script kept o is in
    let there : (course : Course) × (slice_get courses.seats.items (seat_of o.actor) ≡ Some course) =
    there_is courses.seats.items (seat_of o.actor) (subst (λ (n : ℕ). seat_of o.actor < n) (sym come.count) below) in
    let has : HasCome courses.format script journal o.actor there.0 = come.each o.actor there.0 there.1 in
    sym (unfinished_due courses.format script journal o.actor there.0.rests (drop there.0.place there.0.dues) has.due has.rests)
    ∙ finished (seat_of o.actor) there.0 there.1)

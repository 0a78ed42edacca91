-- Open connections of a worker, by their numbers.
use Rattle.std.proofs.Common.{◌≡◌, ℕ, Bool, true, false, not, ◌&&◌, ◌||◌, ◌==◌, nat_eq, cond, List, [], ◌∷◌, ◌++◌, filter, length, map, Option, None, Some, is_some, IsSome, refl, sym, ap, ◌∙◌, subst, arith}
use Rattle.std.specs.Cmp.{nat_eq_equiv}
use Rattle.std.specs.List.{IsDistinct, list_any}
use Rattle.std.specs.Option.{option_map, option_to_list}
use Rattle.std.specs.Map.{keys_of, lookup}
use Rattle.std.proofs.lemmas.Bool.{cond-true, cond-false, true≢false, false≢true}
use Rattle.std.proofs.lemmas.Bool.Decides.{nat_tests}
use Rattle.std.proofs.lemmas.List.{append-nil, map-append}
use Rattle.std.proofs.lemmas.List.Elements.{filter-append}
use Rattle.std.proofs.lemmas.Map.{lookup-none}
use Rattle.std.proofs.lemmas.Map.Entries.{none_past_head}
use Rattle.ev_types.specs.declared.events.Ask.{Ask}
use Rattle.ev_model.specs.World.{OpenMember}
use Rattle.ev_model.specs.Choice.{choice_of}
use Rattle.ev_model.specs.Picture.{has_number}
use Rattle.ev_model.specs.Connections.{accepted, closed, is_member, is_open, members_of}
use Rattle.ev_model.specs.declared.pictures.Picture.{Picture}
use Rattle.ev_model.specs.declared.pictures.Choice.{Choice}
use Rattle.ev_model.specs.declared.pictures.Choice.TheVariants.{NoListener, NoChain, On as chosen}
use Rattle.ev_ledger.specs.Members.{member_on}
use Rattle.ev_ledger.specs.declared.open_on.On.{On}
use Rattle.ev_worker.specs.Batches.{accepted_as, accepted_answer, closed_as, closed_answer}
use Rattle.ev_worker.specs.Members.{chosen_on, member_of, on_of, stored_members}
use Rattle.ev_worker.specs.Workers.{SameOpen, without_numbers}

-- a number is itself
same_number : (n : ℕ) → nat_eq n n ≡ true
same_number n = grind (arith, nat_tests)

-- two filters in either order leave the same
pub filter_swap : {X : Type 0} (p q : X → Bool) (xs : List X) → filter p (filter q xs) ≡ filter q (filter p xs)
filter_swap p q [] = refl
filter_swap {X} p q (x ∷ xs) = by (p x) (q x) refl refl (filter_swap p q xs)
  where
    by : (a b : Bool) → p x ≡ a → q x ≡ b → filter p (filter q xs) ≡ filter q (filter p xs)
        → filter p (cond b (x ∷ filter q xs) (filter q xs)) ≡ filter q (cond a (x ∷ filter p xs) (filter p xs))
    by true true px qx rest =
        cond-true (p x) (x ∷ filter p (filter q xs)) (filter p (filter q xs)) px ∙ ap (λ l. x ∷ l) rest
        ∙ sym (cond-true (q x) (x ∷ filter q (filter p xs)) (filter q (filter p xs)) qx)
    by true false px qx rest = rest ∙ sym (cond-false (q x) (x ∷ filter q (filter p xs)) (filter q (filter p xs)) qx)
    by false true px qx rest = cond-false (p x) (x ∷ filter p (filter q xs)) (filter p (filter q xs)) px ∙ rest
    by false false px qx rest = rest

-- some element passes exactly where a filter leaves one
leaves_some : {X : Type 0} → List X → Bool
leaves_some [] = false
leaves_some (x ∷ xs) = true

any_left : {X : Type 0} (p : X → Bool) (xs : List X) → list_any p xs ≡ leaves_some (filter p xs)
unfolding leaves_some
any_left p [] = refl
any_left {X} p (x ∷ xs) = by (p x) (any_left p xs)
  where
    by : (a : Bool) → list_any p xs ≡ leaves_some (filter p xs) → (a || list_any p xs) ≡ leaves_some (cond a (x ∷ filter p xs) (filter p xs))
    by true rest = refl
    by false rest = rest

-- lists with the same connections of a worker have the same ones open
pub open_same : (worker : ℕ) (one other : List OpenMember) → SameOpen worker one other → (connection : ℕ) → is_open one worker connection ≡ is_open other worker connection
open_same worker one other same connection =
    any_left (is_member worker connection) one ∙ ap leaves_some (same connection) ∙ sym (any_left (is_member worker connection) other)

-- further connections, and a filter, leave them the same
pub more_same : (worker : ℕ) (one other more : List OpenMember) → SameOpen worker one other → SameOpen worker (one ++ more) (other ++ more)
more_same worker one other more same = λ connection.
    filter-append (is_member worker connection) one more ∙ ap (λ l. l ++ filter (is_member worker connection) more) (same connection)
    ∙ sym (filter-append (is_member worker connection) other more)

pub filter_same : (worker : ℕ) (q : OpenMember → Bool) (one other : List OpenMember) → SameOpen worker one other → SameOpen worker (filter q one) (filter q other)
filter_same worker q one other same = λ connection.
    filter_swap (is_member worker connection) q one ∙ ap (filter q) (same connection) ∙ sym (filter_swap (is_member worker connection) q other)

-- where nothing is open under the number, a close leaves what it leaves elsewhere: all others
none_gone : (worker connection : ℕ) (xs : List OpenMember) → is_open xs worker connection ≡ false → filter (λ m. not (is_member worker connection m)) xs ≡ xs
none_gone worker connection [] none = refl
none_gone worker connection (x ∷ xs) none = by (is_member worker connection x) none (none_gone worker connection xs)
  where
    by : (a : Bool) → (a || is_open xs worker connection) ≡ false → (is_open xs worker connection ≡ false → filter (λ m. not (is_member worker connection m)) xs ≡ xs)
        → cond (not a) (x ∷ filter (λ m. not (is_member worker connection m)) xs) (filter (λ m. not (is_member worker connection m)) xs) ≡ x ∷ xs
    by true none rest = absurd (true≢false none)
    by false none rest = ap (λ l. x ∷ l) (rest none)

pub closed_leaves : (connection worker : ℕ) (xs : List OpenMember) → (closed connection worker xs).opened ≡ filter (λ m. not (is_member worker connection m)) xs
closed_leaves connection worker xs = by (is_open xs worker connection) refl
  where
    by : (a : Bool) → is_open xs worker connection ≡ a → (closed connection worker xs).opened ≡ filter (λ m. not (is_member worker connection m)) xs
    by true is = simp is refl
    by false is = simp is (sym (none_gone worker connection xs is))

pub closed_same : (connection worker : ℕ) (one other : List OpenMember) → SameOpen worker one other
    → SameOpen worker (closed connection worker one).opened (closed connection worker other).opened
closed_same connection worker one other same = λ n.
    ap (filter (is_member worker n)) (closed_leaves connection worker one)
    ∙ filter_same worker (λ m. not (is_member worker connection m)) one other same n
    ∙ sym (ap (filter (is_member worker n)) (closed_leaves connection worker other))

pub accepted_same : (picture : Picture) (ask : Ask) (worker : ℕ) (one other : List OpenMember) → SameOpen worker one other
    → SameOpen worker (accepted picture ask worker one).opened (accepted picture ask worker other).opened
accepted_same picture ask worker one other same =
    by (is_open one worker ask.conn) (is_open other worker ask.conn) refl refl (open_same worker one other same ask.conn)
  where
    by : (a b : Bool) → is_open one worker ask.conn ≡ a → is_open other worker ask.conn ≡ b → is_open one worker ask.conn ≡ is_open other worker ask.conn
        → SameOpen worker (accepted picture ask worker one).opened (accepted picture ask worker other).opened
    by true true first second both = simp (first, second) same
    by true false first second both = absurd (true≢false (sym first ∙ both ∙ second))
    by false true first second both = absurd (false≢true (sym first ∙ both ∙ second))
    by false false first second both = simp (first, second) (more_same worker one other (members_of worker ask.conn (choice_of picture ask)) same)

-- the machine answers an accept and a close by whether the number is open
pub accept_answer : (picture : Picture) (ask : Ask) (worker : ℕ) (xs : List OpenMember)
    → accepted_answer picture (accepted_as picture ask (is_open xs worker ask.conn)) ≡ (accepted picture ask worker xs).answer
accept_answer picture ask worker xs = by (is_open xs worker ask.conn) refl
  where
    by : (a : Bool) → is_open xs worker ask.conn ≡ a → accepted_answer picture (accepted_as picture ask (is_open xs worker ask.conn)) ≡ (accepted picture ask worker xs).answer
    by true is = simp is refl
    by false is = simp is refl

pub close_answer : (connection worker : ℕ) (xs : List OpenMember) → closed_answer (closed_as (is_open xs worker connection)) ≡ (closed connection worker xs).answer
close_answer connection worker xs = by (is_open xs worker connection) refl
  where
    by : (a : Bool) → is_open xs worker connection ≡ a → closed_answer (closed_as (is_open xs worker connection)) ≡ (closed connection worker xs).answer
    by true is = simp is refl
    by false is = simp is refl

-- where no entry has the number, no connection has it
no_entry : (worker number : ℕ) (es : List (ℕ × On)) → lookup (nat_eq number) es ≡ None → filter (is_member worker number) (stored_members worker es) ≡ []
no_entry worker number [] none = refl
no_entry worker number (e ∷ es) none = by (nat_eq number e.0) refl none (no_entry worker number es)
  where
    by : (a : Bool) → nat_eq number e.0 ≡ a → cond a (Some e.1) (lookup (nat_eq number) es) ≡ None
        → (lookup (nat_eq number) es ≡ None → filter (is_member worker number) (stored_members worker es) ≡ [])
        → filter (is_member worker number) (member_of worker e ∷ stored_members worker es) ≡ []
    by true is none rest = absurd (cc)
    by false is none rest =
        let other : is_member worker number (member_of worker e) ≡ false = grind (arith, nat_tests) in
        cond-false (is_member worker number (member_of worker e)) (member_of worker e ∷ filter (is_member worker number) (stored_members worker es)) (filter (is_member worker number) (stored_members worker es)) other
        ∙ rest none

-- the connections of a number are the one that the map has for it, if there is one
pub numbered : (worker number : ℕ) (es : List (ℕ × On)) → IsDistinct nat_eq (keys_of es)
    → filter (is_member worker number) (stored_members worker es) ≡ option_to_list (option_map (λ (on : On). member_on worker number on) (lookup (nat_eq number) es))
unfolding IsDistinct
numbered worker number [] apart = refl
numbered worker number (e ∷ es) apart = by (nat_eq number e.0) refl (numbered worker number es apart.1)
  where
    by : (a : Bool) → nat_eq number e.0 ≡ a
        → filter (is_member worker number) (stored_members worker es) ≡ option_to_list (option_map (λ (on : On). member_on worker number on) (lookup (nat_eq number) es))
        → filter (is_member worker number) (member_of worker e ∷ stored_members worker es)
        ≡ option_to_list (option_map (λ (on : On). member_on worker number on) (cond a (Some e.1) (lookup (nat_eq number) es)))
    by true is rest =
        let here : is_member worker number (member_of worker e) ≡ true = grind (arith, nat_tests) in
        let same : number ≡ e.0 = grind (arith, nat_tests) in
        let none : lookup (nat_eq number) es ≡ None = lookup-none (nat_eq number) es (none_past_head nat_eq_equiv number e es apart is) in
        cond-true (is_member worker number (member_of worker e)) (member_of worker e ∷ filter (is_member worker number) (stored_members worker es)) (filter (is_member worker number) (stored_members worker es)) here
        ∙ ap (λ l. member_of worker e ∷ l) (no_entry worker number es none)
        ∙ ap (λ n. member_on worker n e.1 ∷ []) (sym same)
    by false is rest =
        let other : is_member worker number (member_of worker e) ≡ false = grind (arith, nat_tests) in
        cond-false (is_member worker number (member_of worker e)) (member_of worker e ∷ filter (is_member worker number) (stored_members worker es)) (filter (is_member worker number) (stored_members worker es)) other
        ∙ rest

-- whether a number is open, by the map
pub found_open : (worker number : ℕ) (es : List (ℕ × On)) → is_some (lookup (nat_eq number) es) ≡ is_open (stored_members worker es) worker number
found_open worker number [] = refl
found_open worker number (e ∷ es) = by (nat_eq number e.0) (is_member worker number (member_of worker e)) (grind (arith, nat_tests)) (found_open worker number es)
  where
    by : (a b : Bool) → a ≡ b → is_some (lookup (nat_eq number) es) ≡ is_open (stored_members worker es) worker number
        → is_some (cond a (Some e.1) (lookup (nat_eq number) es)) ≡ (b || is_open (stored_members worker es) worker number)
    by true true is rest = refl
    by true false is rest = absurd (true≢false is)
    by false true is rest = absurd (false≢true is)
    by false false is rest = rest

-- a map that lost some numbers has the connections that a filter by these numbers leaves
pub left_same : (worker : ℕ) (q : OpenMember → Bool) (gone : ℕ → Bool) (es left : List (ℕ × On))
    → IsDistinct nat_eq (keys_of es) → IsDistinct nat_eq (keys_of left)
    → ((n : ℕ) → lookup (nat_eq n) left ≡ cond (gone n) None (lookup (nat_eq n) es))
    → ((n : ℕ) (on : On) → q (member_on worker n on) ≡ not (gone n))
    → SameOpen worker (stored_members worker left) (filter q (stored_members worker es))
left_same worker q gone es left apart still lost says = λ n.
    numbered worker n left still
    ∙ ap (λ found. option_to_list (option_map (λ (on : On). member_on worker n on) found)) (lost n)
    ∙ by n (gone n) (lookup (nat_eq n) es) refl
    ∙ sym (filter_swap (is_member worker n) q (stored_members worker es) ∙ ap (filter q) (numbered worker n es apart))
  where
    by : (n : ℕ) (g : Bool) (found : Option On) → gone n ≡ g
        → option_to_list (option_map (λ (on : On). member_on worker n on) (cond g None found))
        ≡ filter q (option_to_list (option_map (λ (on : On). member_on worker n on) found))
    by n true None is = refl
    by n false None is = refl
    by n true (Some on) is = sym (cond-false (q (member_on worker n on)) (member_on worker n on ∷ []) [] (says n on ∙ ap not is))
    by n false (Some on) is = sym (cond-true (q (member_on worker n on)) (member_on worker n on ∷ []) [] (says n on ∙ ap not is))

-- a map that lost a number has what the machine's close leaves
pub close_leaves : (worker connection : ℕ) (es left : List (ℕ × On))
    → IsDistinct nat_eq (keys_of es) → IsDistinct nat_eq (keys_of left)
    → ((n : ℕ) → lookup (nat_eq n) left ≡ cond (nat_eq connection n) None (lookup (nat_eq n) es))
    → SameOpen worker (stored_members worker left) (closed connection worker (stored_members worker es)).opened
close_leaves worker connection es left apart still lost = λ n.
    left_same worker (λ m. not (is_member worker connection m)) (nat_eq connection) es left apart still lost
    (λ number on. grind (arith, nat_tests)) n
    ∙ sym (ap (filter (is_member worker n)) (closed_leaves connection worker (stored_members worker es)))

-- and one that lost some numbers has those without these numbers
pub numbers_leave : (worker : ℕ) (numbers : List ℕ) (es left : List (ℕ × On))
    → IsDistinct nat_eq (keys_of es) → IsDistinct nat_eq (keys_of left)
    → ((n : ℕ) → lookup (nat_eq n) left ≡ cond (has_number n numbers) None (lookup (nat_eq n) es))
    → SameOpen worker (stored_members worker left) (without_numbers numbers (stored_members worker es))
numbers_leave worker numbers es left apart still lost =
    left_same worker (λ (m : OpenMember). not (has_number m.connection numbers)) (λ n. has_number n numbers) es left apart still lost
    (λ number on. refl)

-- what a choice opens, as entries and as connections
chosen_opens : (worker connection : ℕ) (choice : Choice)
    → stored_members worker (map (λ (on : On). (connection, on)) (option_to_list (chosen_on choice))) ≡ members_of worker connection choice
chosen_opens worker connection NoListener = refl
chosen_opens worker connection NoChain = refl
chosen_opens worker connection (chosen listener chain origin course) = refl

-- an accept opens what the machine opens
pub accept_opens : (picture : Picture) (ask : Ask) (worker : ℕ) (es : List (ℕ × On))
    → stored_members worker (es ++ map (λ (on : On). (ask.conn, on)) (option_to_list (on_of (accepted_as picture ask (is_open (stored_members worker es) worker ask.conn)))))
    ≡ (accepted picture ask worker (stored_members worker es)).opened
accept_opens picture ask worker es = by (is_open (stored_members worker es) worker ask.conn) refl
  where
    by : (a : Bool) → is_open (stored_members worker es) worker ask.conn ≡ a
        → stored_members worker (es ++ map (λ (on : On). (ask.conn, on)) (option_to_list (on_of (accepted_as picture ask (is_open (stored_members worker es) worker ask.conn)))))
        ≡ (accepted picture ask worker (stored_members worker es)).opened
    by true is = simp is (ap (stored_members worker) (append-nil es))
    by false is = simp is
        (map-append (member_of worker) es (map (λ (on : On). (ask.conn, on)) (option_to_list (chosen_on (choice_of picture ask))))
        ∙ ap (λ l. stored_members worker es ++ l) (chosen_opens worker ask.conn (choice_of picture ask)))

-- and only where the number isn't open
pub opens_apart : (picture : Picture) (ask : Ask) (opened : Bool) → IsSome (on_of (accepted_as picture ask opened)) → opened ≡ false
opens_apart picture ask true some = absurd (cc)
opens_apart picture ask false some = refl

-- what isn't open isn't in the map
pub absent : (found : Option On) → is_some found ≡ false → found ≡ None
absent None none = refl
absent (Some on) none = absurd (true≢false none)

-- where none of the worker's number is open, it stores none
pub none_stored : (worker : ℕ) (es : List (ℕ × On)) → SameOpen worker (stored_members worker es) [] → es ≡ []
none_stored worker [] none = refl
none_stored worker (e ∷ es) none =
    absurd (let never : member_of worker e ∷ filter (is_member worker e.0) (stored_members worker es) ≡ [] =
    sym (cond-true (is_member worker e.0 (member_of worker e)) (member_of worker e ∷ filter (is_member worker e.0) (stored_members worker es))
    (filter (is_member worker e.0) (stored_members worker es))
    (ap (λ b. b && (e.0 == e.0)) (same_number worker) ∙ same_number e.0))
    ∙ none e.0 in cc)

-- where nothing is open, none of the worker's number is
pub none_same : (worker : ℕ) (opened : List OpenMember) → opened ≡ [] → SameOpen worker opened []
none_same worker opened none connection = ap (filter (is_member worker connection)) none

-- and the other way, of the connections that it stores
pub none_shown : (number worker : ℕ) (opened : List OpenMember) (es : List (ℕ × On)) → worker ≡ number → stored_members worker es ≡ opened
    → SameOpen number opened [] → es ≡ []
none_shown number worker opened es is shown none =
    none_stored worker es
    (subst (λ (n : ℕ). SameOpen n (stored_members worker es) []) (sym is)
    (subst (λ (ms : List OpenMember). SameOpen number ms []) (sym shown) none))

-- what has no length is empty
pub empty_of : {X : Type 0} (xs : List X) → length xs ≡ 0 → xs ≡ []
empty_of [] none = refl
empty_of (x ∷ xs) none = absurd (omega arith)

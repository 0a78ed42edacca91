-- The rule of a gate's table, and what each step shows.
-- The words are the ticket to be drawn next, the ticket that is served, and the newest version;
-- the one slot has the value.
use Rattle.std.specs.Prelude.{◌≡◌, ◌⊎◌, ℕ, ◌+◌, ◌%◌, ◌^◌, ◌<◌, ◌≤◌, ◌==◌, Bool, true, false, not, max, List, [], ◌∷◌, ◌++◌, length, drop, slice_get, if◌then◌else◌, Option, Some, None, MatchBool}
use mathlib.Core.Option.{some, none}
use mathlib.Core.Option as maybe
use lib.ListN.{get_elem?}
use Rattle.atomic_table.specs.Table.{State, Me, rest}
use Rattle.ev_gate.specs.declared.view.View.{View}
use Rattle.ev_gate.specs.declared.view.Joined.{Joined}
use Rattle.ev_gate.specs.declared.view.Terms.{Terms}
use Rattle.ev_gate.specs.History.{commits_by, Continues, GrowsWithout}

-- how many elements pass the test
abbrev pub count_where : {A : Type 0} → (A → Bool) → List A → ℕ
count_where p [] = 0
count_where p (x ∷ xs) = (if p x then 1 else 0) + count_where p xs

-- No beginning of these commits has a version above that of all of them.
-- The version is given as a function of the commits since the start.
abbrev pub NoneAbove : {C : Type 0} → (List (ℕ × C) → ℕ) → List (ℕ × C) → Type 0
NoneAbove {C} version since = (earlier : List (ℕ × C)) → Continues earlier since → version earlier ≤ version since

-- what a joined seat knew is so: it had the start, it had seen a beginning of the commits since,
-- of which the rest is not its own, and had heard of a beginning
pub record WasTold {C : Type 0} (start since : List (ℕ × C)) (e : Joined C) : Type 0 where
  pub start_is : e.start ≡ start
  pub seen : GrowsWithout e.number e.since since
  pub heard : Continues e.heard since

module _ {O C : Type 0} where
  -- how many seats have a ticket
  abbrev pub queued_count : List (View O C) → ℕ
  queued_count vs = count_where (λ (v : View O C). v.queued) vs

  -- how many seats are not joined yet
  abbrev pub live_count : List (View O C) → ℕ
  live_count vs = count_where (λ (v : View O C). not v.spent) vs

  -- a seat that was joined
  abbrev pub spent_view : View O C
  spent_view = record { spent = true; number = 0; queued = false; serving = false; ticket = 0; opening = None; start = []; since = []; heard = []; version = 0; raised = 0; made = 0; told = [] }

  -- a seat that has made no turn
  abbrev pub new_view : ℕ → ℕ → Option O → List (ℕ × C) → ℕ → View O C
  new_view number made opening start version = record { spent = false; number = number; queued = false; serving = false; ticket = 0; opening = opening; start = start; since = []; heard = []; version = version; raised = version; made = made; told = [] }

  -- A seat's number is its place. It knows the opening and the start, it has seen a beginning of the commits since,
  -- and what it has not seen is not its own.
  -- A ticket lies between the served one and the next to be drawn.
  -- Who has the value has the served ticket, and has seen all.
  -- The version that a seat has heard of is that of a beginning of the commits since.
  -- What it raised the word to is not above the word.
  pub record Fits (opening : O) (start : List (ℕ × C)) (version : List (ℕ × C) → ℕ) (since newest : List (ℕ × C)) (drawn served : ℕ) (i : ℕ) (v : View O C) : Type 0 where
    pub number_is : v.number ≡ i
    pub opening_is : v.opening ≡ Some opening
    pub start_is : v.start ≡ start
    pub seen : GrowsWithout i v.since since
    pub heard : Continues v.heard since
    pub version_is : v.version ≡ version v.heard
    pub raised : v.raised ≤ version newest
    pub ticket_from : v.queued ≡ true → served ≤ v.ticket
    pub ticket_below : v.queued ≡ true → v.ticket < drawn
    pub served_is : v.serving ≡ true → v.ticket ≡ served
    pub serving_queued : v.serving ≡ true → v.queued ≡ true
    pub seen_all : v.serving ≡ true → v.since ≡ since

  -- a spent seat has no ticket
  pub record FitsSpent (v : View O C) : Type 0 where
    pub not_queued : v.queued ≡ false
    pub not_serving : v.serving ≡ false

  -- the slot is out with a seat that is served
  pub record IsOut {V : Type 0} (homes : List (maybe.Option (Option V))) (views : List (View O C)) : Type 0 where
    pub gone : homes ≡ none ∷ []
    pub seat : ℕ
    pub view : View O C
    pub there : get_elem? views seat ≡ some view
    pub serving : view.serving ≡ true

  -- Who takes in others knows what they knew. As many as it took in are spent.
  pub record Gathers (views : List (View O C)) (start since : List (ℕ × C)) (v : View O C) : Type 0 where
    pub counted : live_count views + length v.told ≤ length views
    pub told_spent : (k : ℕ) (e : Joined C) → slice_get v.told k ≡ Some e → get_elem? views e.number ≡ some spent_view
    pub told_is : (k : ℕ) (e : Joined C) → slice_get v.told k ≡ Some e → WasTold start since e

module _ {V O C : Type 0} (opening : V → O) (commits : V → List (ℕ × C)) where
  -- the slot is at home, with a value that represents the start and the commits since
  pub record AtHome (first : V) (since : List (ℕ × C)) (homes : List (maybe.Option (Option V))) : Type 0 where
    pub value : V
    pub there : homes ≡ some (Some value) ∷ []
    pub opening_is : opening value ≡ opening first
    pub commits_are : commits value ≡ commits first ++ since

  -- where the first value is known, the seat knows its opening and its commits
  abbrev pub KnowsFirst : Option V → View O C → Type 0
  KnowsFirst first v = (x : V) → first ≡ Some x → (v.opening ≡ Some (opening x)) × (v.start ≡ commits x)

  -- the seat has a ticket, which the step found in the word
  pub record Draws (m : Me (Option V) (View O C)) (found : ℕ) (n : Me (Option V) (View O C)) : Type 0 where
    pub view_is : n.0 ≡ record m.0 { queued = true; ticket = n.0.ticket }
    pub ticket_is : n.0.ticket % 2 ^ 64 ≡ found
    pub held : n.1 ≡ m.1

  -- the seat has raised the word to the version that it has heard of
  pub record Raises (m n : Me (Option V) (View O C)) : Type 0 where
    pub view_is : n.0 ≡ record m.0 { raised = m.0.version }
    pub held : n.1 ≡ m.1

module _ {V O C : Type 0} (opening : V → O) (commits : V → List (ℕ × C)) (version_of : O → List (ℕ × C) → ℕ) where
  -- the version after these commits since the start
  abbrev pub version_since : V → List (ℕ × C) → ℕ
  version_since first since = version_of (opening first) (commits first ++ since)

  -- The rule. The next ticket is as many above the served one as seats have a ticket, and no two seats have the same.
  -- The newest version is that of a beginning of the commits since, none of which has a version above that of all.
  -- A seat that is not made yet has made no commit.
  pub record IsKept (terms : Terms V) (s : State (Option V) (View O C)) : Type 0 where
    pub drawn : ℕ
    pub served : ℕ
    pub since : List (ℕ × C)
    pub newest : List (ℕ × C)
    pub words_are : s.words ≡ drawn % 2 ^ 64 ∷ served % 2 ^ 64 ∷ version_since terms.value.value newest ∷ []
    pub counted : drawn ≡ served + queued_count s.views
    pub few : length s.views ≤ terms.seats
    pub at_most_twenty : terms.seats ≤ 20
    pub reached : Continues newest since
    pub none_above : NoneAbove (version_since terms.value.value) since
    pub fits : (i : ℕ) (v : View O C) → get_elem? s.views i ≡ some v → v.spent ≡ false → Fits (opening terms.value.value) (commits terms.value.value) (version_since terms.value.value) since newest drawn served i v
    pub fits_spent : (i : ℕ) (v : View O C) → get_elem? s.views i ≡ some v → v.spent ≡ true → FitsSpent v
    pub apart : (i j : ℕ) (v w : View O C) → get_elem? s.views i ≡ some v → get_elem? s.views j ≡ some w → v.queued ≡ true → w.queued ≡ true → v.ticket ≡ w.ticket → i ≡ j
    pub unborn : (n : ℕ) → length s.views ≤ n → commits_by n since ≡ []
    pub gathers : (i : ℕ) (v : View O C) → get_elem? s.views i ≡ some v → v.spent ≡ false → Gathers s.views (commits terms.value.value) since v
    pub leads : (v : View O C) → get_elem? s.views 0 ≡ some v → v.spent ≡ false → v.made ≡ length s.views
    pub slot : AtHome opening commits terms.value.value since s.homes ⊎ IsOut s.homes s.views

  -- the view of the first seat
  abbrev pub first_view : Terms V → View O C
  first_view terms = new_view 0 1 (Some (opening terms.value.value)) (commits terms.value.value) (version_of (opening terms.value.value) (commits terms.value.value))

  -- The seat is served: it holds the slot, has seen all commits, of which those it had not seen are not its own,
  -- and the value represents them.
  -- What it had heard of is a beginning of them, and had no greater version.
  pub record Takes (m n : Me (Option V) (View O C)) : Type 0 where
    pub value : V
    pub view_is : n.0 ≡ record m.0 { serving = true; since = n.0.since }
    pub held : n.1 ≡ (0, Some value) ∷ m.1
    pub seen : GrowsWithout m.0.number m.0.since n.0.since
    pub heard : Continues m.0.heard n.0.since
    pub opening_is : Some (opening value) ≡ m.0.opening
    pub commits_are : commits value ≡ m.0.start ++ n.0.since
    pub not_below : version_of (opening value) (m.0.start ++ m.0.heard) ≤ version_of (opening value) (commits value)

  -- where the word is the seat's ticket, it is served, and otherwise nothing changed
  abbrev pub Looks : Me (Option V) (View O C) → ℕ → Me (Option V) (View O C) → Type 0
  Looks m found n = MatchBool (found == m.0.ticket % 2 ^ 64) (Takes m n) (n ≡ m)

  -- The seat gave the slot back and has no ticket. It has seen what the value represents, and heard of nothing newer.
  pub record Ends (m n : Me (Option V) (View O C)) : Type 0 where
    pub value : V
    pub was : m.1 ≡ (0, Some value) ∷ rest m.1
    pub view_is : n.0 ≡ record m.0 { queued = false; serving = false; since = drop (length m.0.start) (commits value); heard = drop (length m.0.start) (commits value); version = version_of (opening value) (commits value) }
    pub held : n.1 ≡ rest m.1

  -- The seat has heard of a history, which has the greater of the version found and the version known.
  pub record Asks (known : ℕ) (m : Me (Option V) (View O C)) (found : ℕ) (n : Me (Option V) (View O C)) : Type 0 where
    pub view_is : n.0 ≡ record m.0 { heard = n.0.heard; version = max found known; raised = max found known }
    pub held : n.1 ≡ m.1
    pub before : (o : O) → m.0.opening ≡ Some o → m.0.version ≡ version_of o (m.0.start ++ m.0.heard)
    pub after : (o : O) → m.0.opening ≡ Some o → max found known ≡ version_of o (m.0.start ++ n.0.heard)

module _ {O C : Type 0} where
  -- the first seat makes a seat, which has seen what it has
  abbrev pub left_view : View O C → View O C
  left_view v = record v { made = v.made + 1 }

  abbrev pub right_view : View O C → View O C
  right_view v = record v { number = v.made; made = 0; told = [] }

  -- a seat takes in another, and remembers what it knew
  abbrev pub joined : View O C → Joined C
  joined v = record { number = v.number; start = v.start; since = v.since; heard = v.heard }

  abbrev pub joined_view : View O C → View O C → View O C
  joined_view v w = record v { told = v.told ++ joined w ∷ [] }

-- The commits of a journal in which no batch is broken:
-- their entries are the journal, entries after it are further commits, and each has entries of its own seat alone.
use Rattle.std.proofs.Common.{◌≡◌, ◌==◌, ℕ, Bool, true, false, ◌⊎◌, inl, inr, if◌then◌else◌, List, [], ◌∷◌, ◌++◌, refl, ap, sym, ◌∙◌, subst, append_assoc, append-nil}
use Rattle.std.specs.List.{AllByRecursion as ByRecursion}
use Rattle.std.proofs.lemmas.Grind.{flat_map-append}
use Rattle.ev_types.specs.Same.{numbers_decide}
use Rattle.ev_types.specs.declared.events.Actor.{Actor}
use Rattle.ev_types.specs.declared.events.Entry.{Entry}
use Rattle.ev_types.specs.declared.journals.Format.{Format}
use Rattle.ev_model.specs.World.{World}
use Rattle.ev_model.specs.Step.{step}
use Rattle.ev_model.specs.Runs.{GoesOnWith, IsUnbroken, RunsFrom, is_batched, world_after}
use Rattle.ev_model_laws.proofs.OperationLists.{each_append}
use Rattle.ev_gate.specs.History.{commits_by}
use Rattle.ev_commits.specs.Commits.{AreElsewhere, commits_from, commits_of, entries_in, entries_of_one, seat_of}

-- a commit is begun with these entries, and the next entry is of their actor; or none is begun
abbrev pub IsBegun : List Entry → List Entry → Type 0
IsBegun begun entries = (begun ≡ []) ⊎ ((actor : Actor) × ByRecursion (λ (entry : Entry). entry.actor ≡ actor) begun × GoesOnWith actor entries)

-- and the last of these entries ends it
abbrev pub IsClosed : List Entry → List Entry → Type 0
IsClosed begun entries = IsBegun begun entries × IsUnbroken entries

-- what was begun is of the actor of the next entry
own_begun : (begun : List Entry) (entry : Entry) (entries : List Entry) → IsBegun begun (entry ∷ entries)
    → ByRecursion (λ (e : Entry). e.actor ≡ entry.actor) begun
own_begun begun entry entries (inl none) = subst (ByRecursion (λ (e : Entry). e.actor ≡ entry.actor)) (sym none) tt
own_begun begun entry entries (inr (actor, each, next)) = turned begun each
  where
    turned : (es : List Entry) → ByRecursion (λ (e : Entry). e.actor ≡ actor) es → ByRecursion (λ (e : Entry). e.actor ≡ entry.actor) es
    turned [] all = tt
    turned (e ∷ es) all = (all.0 ∙ sym next, turned es all.1)

more_begun : (begun : List Entry) (entry : Entry) (entries : List Entry) → IsClosed begun (entry ∷ entries) → is_batched entry.event ≡ true
    → IsClosed (begun ++ entry ∷ []) entries
more_begun begun entry entries closed batched = (
  inr (entry.actor, each_append (λ (e : Entry). e.actor ≡ entry.actor) begun (entry ∷ []) (own_begun begun entry entries closed.0) (refl, tt), closed.1.0 batched),
  closed.1.1,
)

none_open : (begun : List Entry) → IsBegun begun [] → begun ≡ []
none_open begun (inl none) = none
none_open begun (inr (actor, each, next)) = absurd next

by_batched : (begun : List Entry) (entry : Entry) (entries : List Entry) (b : Bool) → is_batched entry.event ≡ b
    → commits_from begun (entry ∷ entries)
    ≡ (if b then commits_from (begun ++ entry ∷ []) entries else (seat_of entry.actor, begun ++ entry ∷ []) ∷ commits_from [] entries)
by_batched begun entry entries b is =
    ap (λ c. if c then commits_from (begun ++ entry ∷ []) entries else (seat_of entry.actor, begun ++ entry ∷ []) ∷ commits_from [] entries) is

whole_by : (begun : List Entry) (entry : Entry) (entries : List Entry) (b : Bool) → is_batched entry.event ≡ b
    → (b ≡ true → entries_in (commits_from (begun ++ entry ∷ []) entries) ≡ (begun ++ entry ∷ []) ++ entries)
    → entries_in (commits_from [] entries) ≡ entries
    → entries_in (commits_from begun (entry ∷ entries)) ≡ begun ++ entry ∷ entries
whole_by begun entry entries true is joined apart =
    ap entries_in (by_batched begun entry entries true is) ∙ joined refl ∙ append_assoc begun (entry ∷ []) entries
whole_by begun entry entries false is joined apart =
    ap entries_in (by_batched begun entry entries false is)
    ∙ ap (λ (es : List Entry). (begun ++ entry ∷ []) ++ es) apart
    ∙ append_assoc begun (entry ∷ []) entries

whole_from : (begun entries : List Entry) → IsClosed begun entries → entries_in (commits_from begun entries) ≡ begun ++ entries
whole_from begun [] closed = sym (append-nil begun ∙ none_open begun closed.0)
whole_from begun (entry ∷ entries) closed =
    whole_by begun entry entries (is_batched entry.event) refl
    (λ is. whole_from (begun ++ entry ∷ []) entries (more_begun begun entry entries closed is))
    (whole_from [] entries (inl refl, closed.1.1))

-- the entries of a journal's commits are the journal
pub whole : (journal : List Entry) → IsUnbroken journal → entries_in (commits_of journal) ≡ journal
whole journal unbroken = whole_from [] journal (inl refl, unbroken)

append_by : (begun : List Entry) (entry : Entry) (entries more : List Entry) (b : Bool) → is_batched entry.event ≡ b
    → (b ≡ true → commits_from (begun ++ entry ∷ []) (entries ++ more) ≡ commits_from (begun ++ entry ∷ []) entries ++ commits_from [] more)
    → commits_from [] (entries ++ more) ≡ commits_from [] entries ++ commits_from [] more
    → commits_from begun (entry ∷ (entries ++ more)) ≡ commits_from begun (entry ∷ entries) ++ commits_from [] more
append_by begun entry entries more true is joined apart =
    by_batched begun entry (entries ++ more) true is
    ∙ joined refl
    ∙ ap (λ (cs : List (ℕ × List Entry)). cs ++ commits_from [] more) (sym (by_batched begun entry entries true is))
append_by begun entry entries more false is joined apart =
    by_batched begun entry (entries ++ more) false is
    ∙ ap (λ (cs : List (ℕ × List Entry)). (seat_of entry.actor, begun ++ entry ∷ []) ∷ cs) apart
    ∙ ap (λ (cs : List (ℕ × List Entry)). cs ++ commits_from [] more) (sym (by_batched begun entry entries false is))

append_from : (begun entries more : List Entry) → IsClosed begun entries
    → commits_from begun (entries ++ more) ≡ commits_from begun entries ++ commits_from [] more
append_from begun [] more closed = ap (λ (es : List Entry). commits_from es more) (none_open begun closed.0)
append_from begun (entry ∷ entries) more closed =
    append_by begun entry entries more (is_batched entry.event) refl
    (λ is. append_from (begun ++ entry ∷ []) entries more (more_begun begun entry entries closed is))
    (append_from [] entries more (inl refl, closed.1.1))

-- entries after a journal are commits after its commits
pub commits_append : (journal more : List Entry) → IsUnbroken journal → commits_of (journal ++ more) ≡ commits_of journal ++ commits_of more
commits_append journal more unbroken = append_from [] journal more (inl refl, unbroken)

-- a commit has entries of its seat alone
abbrev pub IsSeated : ℕ × List Entry → Type 0
IsSeated commit = ByRecursion (λ (entry : Entry). seat_of entry.actor ≡ commit.0) commit.1

at_seat : (actor : Actor) (es : List Entry) → ByRecursion (λ (e : Entry). e.actor ≡ actor) es → ByRecursion (λ (e : Entry). seat_of e.actor ≡ seat_of actor) es
at_seat actor [] all = tt
at_seat actor (e ∷ es) all = (ap seat_of all.0, at_seat actor es all.1)

seated_by : (begun : List Entry) (entry : Entry) (entries : List Entry) (b : Bool) → is_batched entry.event ≡ b → IsClosed begun (entry ∷ entries)
    → (b ≡ true → ByRecursion IsSeated (commits_from (begun ++ entry ∷ []) entries))
    → ByRecursion IsSeated (commits_from [] entries)
    → ByRecursion IsSeated (commits_from begun (entry ∷ entries))
seated_by begun entry entries true is closed joined apart = subst (ByRecursion IsSeated) (sym (by_batched begun entry entries true is)) (joined refl)
seated_by begun entry entries false is closed joined apart =
    subst (ByRecursion IsSeated) (sym (by_batched begun entry entries false is)) (
      at_seat entry.actor (begun ++ entry ∷ [])
          (each_append (λ (e : Entry). e.actor ≡ entry.actor) begun (entry ∷ []) (own_begun begun entry entries closed.0) (refl, tt)),
      apart,
    )

seated_from : (begun entries : List Entry) → IsClosed begun entries → ByRecursion IsSeated (commits_from begun entries)
seated_from begun [] closed = tt
seated_from begun (entry ∷ entries) closed =
    seated_by begun entry entries (is_batched entry.event) refl closed
    (λ is. seated_from (begun ++ entry ∷ []) entries (more_begun begun entry entries closed is))
    (seated_from [] entries (inl refl, closed.1.1))

pub seated : (journal : List Entry) → IsUnbroken journal → ByRecursion IsSeated (commits_of journal)
seated journal unbroken = seated_from [] journal (inl refl, unbroken)

pub back_each : {X : Type 0} (P : X → Type 0) (xs ys : List X) → ByRecursion P (xs ++ ys) → ByRecursion P ys
back_each P [] ys all = all
back_each P (x ∷ xs) ys all = back_each P xs ys all.1

cons_none : {X : Type 0} (x : X) (xs : List X) → x ∷ xs ≡ [] → ⊥
cons_none x xs h = cc

none_of : (seat : ℕ) (commit : ℕ × List Entry) → (commit.0 == seat) ≡ false → (es : List Entry)
    → ByRecursion (λ (e : Entry). seat_of e.actor ≡ commit.0) es → AreElsewhere seat es
none_of seat commit is [] each = tt
none_of seat commit is (e ∷ es) each = (
  (λ here. let same : (commit.0 == seat) ≡ true = (numbers_decide commit.0 seat).1 (sym each.0 ∙ here) in cc),
  none_of seat commit is es each.1,
)

elsewhere_by : (seat : ℕ) (commit : ℕ × List Entry) (commits : List (ℕ × List Entry)) (b : Bool) → (commit.0 == seat) ≡ b → IsSeated commit
    → commits_by seat (commit ∷ commits) ≡ []
    → (commits_by seat commits ≡ [] → AreElsewhere seat (entries_in commits)) → AreElsewhere seat (entries_in (commit ∷ commits))
elsewhere_by seat commit commits true is one none rest =
    absurd (cons_none commit (commits_by seat commits)
    (sym (ap (λ b. if b then commit ∷ commits_by seat commits else commits_by seat commits) is) ∙ none))
elsewhere_by seat commit commits false is one none rest =
    each_append (λ (e : Entry). seat_of e.actor ≡ seat → ⊥) commit.1 (entries_in commits)
    (none_of seat commit is commit.1 one)
    (rest (sym (ap (λ b. if b then commit ∷ commits_by seat commits else commits_by seat commits) is) ∙ none))

-- where none of these commits is the seat's, neither is any of their entries
pub elsewhere : (seat : ℕ) (commits : List (ℕ × List Entry)) → ByRecursion IsSeated commits → commits_by seat commits ≡ []
    → AreElsewhere seat (entries_in commits)
elsewhere seat [] all none = tt
elsewhere seat (commit ∷ commits) all none =
    elsewhere_by seat commit commits (commit.0 == seat) refl all.0 none (λ left. elsewhere seat commits all.1 left)

-- after these entries a run goes on as a run
pub runs_behind : (format : Format) (workers : ℕ) (world : World) (entries more : List Entry) → RunsFrom format workers world (entries ++ more)
    → RunsFrom format workers (world_after format world entries) more
runs_behind format workers world [] more runs = runs
runs_behind format workers world (entry ∷ entries) more runs = runs_behind format workers (step format world entry.actor entry.event).0 entries more runs.2

pub entries_append : (commits more : List (ℕ × List Entry)) → entries_in (commits ++ more) ≡ entries_in commits ++ entries_in more
entries_append commits more = flat_map-append entries_of_one commits more

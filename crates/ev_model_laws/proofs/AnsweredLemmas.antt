-- Each thing that a generation waits for was answered by an entry, where the generation is answered;
-- what has to come anew, by one since it was made.
use Rattle.std.proofs.Common.{◌≡◌, ℕ, ◌<◌, ◌⊎◌, inl, inr, Bool, true, false, not, ◌&&◌, ◌||◌, cond, List, [], ◌∷◌, map, filter, Option, Some, None, refl, sym, ◌∙◌, ap, ap₂}
use Rattle.std.specs.Prelude.{nat_le}
use Rattle.std.specs.Cmp.{first_so, second_so}
use Rattle.std.specs.List.{Contains, list_any, list_all, last_or}
use Rattle.std.specs.Str.{bytes_eq}
use Rattle.std.proofs.lemmas.Bool.{false≢true, and_from, or_left, or_right, leb-true}
use Rattle.std.proofs.lemmas.List.Elements.{All-contains, Contains-append_left, Contains-append_right, Contains-push}
use Rattle.ev_types.specs.Kinds.{kind_same, kind_decides}
use Rattle.ev_types.specs.Same.{bytes_decide}
use Rattle.ev_types.specs.declared.contents.Content.{Content}
use Rattle.ev_types.specs.declared.contents.Kind.{Kind}
use Rattle.ev_types.specs.declared.events.Entry.{Entry}
use Rattle.ev_types.specs.declared.rows.Arrival.{Arrival}
use Rattle.ev_types.specs.declared.rows.Arrival.TheVariants.{Value, Absent, Bad as bad, TimedOut, Ended}
use Rattle.ev_types.specs.declared.rows.GenRow.{GenRow}
use Rattle.ev_model.specs.World.{World, Arrived}
use Rattle.ev_model.specs.Watching.{Dependency, dependencies_of}
use Rattle.ev_model.specs.Warming.{is_for, is_word, is_timeout, last_made, last_told, last_timed, counts_for, has_word, has_timeout, has_answer, is_answered_by, is_checked, has_all_results, assignment_by, is_ready}
use Rattle.ev_model.specs.Entries.{answers_wait, entries_since, entries_for, has_ended_wait, tells_of_name, times_out}
use Rattle.ev_model_laws.specs.Kept.{entries_after, was_told, was_timed, has_come_by, ComesByEntries}
use Rattle.ev_model_laws.proofs.AnyLemmas.{or_so, any_so, all_so}
use Rattle.ev_model_laws.proofs.ExpiredLemmas.{passed}
use Rattle.ev_model_laws.proofs.PromotionLemmas.{each_left}
use Rattle.ev_model_laws.proofs.SinceLemmas.{after_any, after_since}

-- the last of these is the one that stood before them, or made of one of them
last_from : {X Y : Type 0} (f : X → Y) (before : Option Y) (xs : List X) (y : Y) → last_or before (map f xs) ≡ Some y
    → (before ≡ Some y) ⊎ ((x : X) × Contains xs x × (f x ≡ y))
last_from f before [] y h = inl h
last_from {X = X} f before (x ∷ xs) y h =
    elim (last_from f (Some (f x)) xs y h) [
      | inl is ↦ inr (x, Contains-append_left (x ∷ []) xs x (Contains-push [] x), (cc))
      | inr found ↦ inr (found.0, Contains-append_right (x ∷ []) xs found.0 found.1, found.2)
    ]

-- where something of a sort came for a name, the last of it stands among all that came
last_found : (is : Arrival → Bool) (arrivals : List Arrived) (kind : Kind) (name : List ℕ) (made : ℕ)
    → last_made is arrivals kind name ≡ Some made
    → (a : Arrived) × Contains arrivals a × ((is_for kind name a && is a.arrival) ≡ true) × (a.made ≡ made)
last_found is arrivals kind name made h =
    let of : Arrived → Bool = λ (a : Arrived). is_for kind name a && is a.arrival in
    elim (last_from (λ (a : Arrived). a.made) None (filter of arrivals) made h) [
      | inl never ↦ absurd (cc)
      | inr found ↦ (
        found.0,
        each_left (Contains arrivals) of arrivals (λ a there. there) found.0 found.1,
        passed of arrivals found.0 found.1,
        found.2,
      )
    ]

word_told : (word told rest : Bool) → word ≡ true → cond word told rest ≡ true → told ≡ true
word_told true told rest is h = h
word_told false told rest is h = absurd (false≢true is)

no_word : (arrival : Arrival) → is_timeout arrival ≡ true → is_word arrival ≡ false
no_word (Value content) h = absurd (false≢true h)
no_word Absent h = absurd (false≢true h)
no_word bad h = absurd (false≢true h)
no_word TimedOut h = refl
no_word (Ended content) h = absurd (false≢true h)

timeout_timed : (word timeout told timed ended : Bool) → word ≡ false → timeout ≡ true
    → cond word told (cond timeout timed ended) ≡ true → timed ≡ true
timeout_timed true timeout told timed ended isnt is h = absurd (false≢true (sym isnt))
timeout_timed false true told timed ended isnt is h = h
timeout_timed false false told timed ended isnt is h = absurd (false≢true is)

module _ (entries : List Entry) (world : World) (come : ComesByEntries world entries) (kind : Kind) (name : List ℕ) where
  -- the entry that has told of the name, or was its timeout, is of this kind and name
  same_kind : (a : Arrived) → is_for kind name a ≡ true → (a.kind ≡ kind) × (a.name ≡ name)
  same_kind a is = (
    (kind_decides a.kind kind).0 (first_so (kind_same a.kind kind) (bytes_eq a.name name) is),
    (bytes_decide a.name name).0 (second_so (kind_same a.kind kind) (bytes_eq a.name name) is),
  )

  told_entries : (made : ℕ) → last_told world.arrivals kind name ≡ Some made → was_told (entries_after made entries) kind name ≡ true
  told_entries made h =
      let one : (a : Arrived) × Contains world.arrivals a × ((is_for kind name a && is_word a.arrival) ≡ true) × (a.made ≡ made) =
      last_found is_word world.arrivals kind name made h in
      let a : Arrived = one.0 in
      let same : (a.kind ≡ kind) × (a.name ≡ name) = same_kind a (first_so (is_for kind name a) (is_word a.arrival) one.2) in
      let since : List Entry = entries_after a.made entries in
      ap (λ n. was_told (entries_after n entries) kind name) (sym one.3)
      ∙ sym (ap₂ (was_told since) same.0 same.1)
      ∙ word_told (is_word a.arrival) (was_told since a.kind a.name) _ (second_so (is_for kind name a) (is_word a.arrival) one.2)
      (All-contains (λ (b : Arrived). has_come_by entries b ≡ true) world.arrivals a come.arrivals one.1)

  timed_entries : (made : ℕ) → last_timed world.arrivals kind name ≡ Some made → was_timed (entries_after made entries) kind name ≡ true
  timed_entries made h =
      let one : (a : Arrived) × Contains world.arrivals a × ((is_for kind name a && is_timeout a.arrival) ≡ true) × (a.made ≡ made) =
      last_found is_timeout world.arrivals kind name made h in
      let a : Arrived = one.0 in
      let same : (a.kind ≡ kind) × (a.name ≡ name) = same_kind a (first_so (is_for kind name a) (is_timeout a.arrival) one.2) in
      let timeout : is_timeout a.arrival ≡ true = second_so (is_for kind name a) (is_timeout a.arrival) one.2 in
      let since : List Entry = entries_after a.made entries in
      ap (λ n. was_timed (entries_after n entries) kind name) (sym one.3)
      ∙ sym (ap₂ (was_timed since) same.0 same.1)
      ∙ timeout_timed (is_word a.arrival) (is_timeout a.arrival) (was_told since a.kind a.name) (was_timed since a.kind a.name)
      (was_told entries a.kind a.name)
      (no_word a.arrival timeout) timeout
      (All-contains (λ (b : Arrived). has_come_by entries b ≡ true) world.arrivals a come.arrivals one.1)

-- what counts for a dependency of a generation was done by one of the entries that count for it
counted : (p : Entry → Bool) (number made : ℕ) (entries : List Entry) (fresh : Bool) → 0 < number → (not fresh || nat_le number made) ≡ true
    → list_any p (entries_after made entries) ≡ true → list_any p (cond fresh (entries_since number entries) entries) ≡ true
counted p number made entries true low counts h = after_since p number made entries low (leb-true number made counts) h
counted p number made entries false low counts h = after_any p made entries h

module _ (entries : List Entry) (world : World) (come : ComesByEntries world entries) (number : ℕ) (low : 0 < number) (d : Dependency) where
  told_counts : (last : Option ℕ) → last_told world.arrivals d.kind d.name ≡ last → counts_for number d last ≡ true
      → was_told (entries_for number entries d) d.kind d.name ≡ true
  told_counts None is counts = absurd (false≢true counts)
  told_counts (Some made) is counts =
      counted (λ (entry : Entry). tells_of_name d.kind d.name entry.event entry.answer) number made entries d.fresh low counts
      (told_entries entries world come d.kind d.name made is)

  timed_counts : (last : Option ℕ) → last_timed world.arrivals d.kind d.name ≡ last → counts_for number d last ≡ true
      → was_timed (entries_for number entries d) d.kind d.name ≡ true
  timed_counts None is counts = absurd (false≢true counts)
  timed_counts (Some made) is counts =
      counted (λ (entry : Entry). times_out d.kind d.name entry.event entry.answer) number made entries d.fresh low counts
      (timed_entries entries world come d.kind d.name made is)

  -- an entry has ended the wait for a dependency that has its answer
  wait_ended : has_answer world.arrivals number d ≡ true → has_ended_wait number entries d ≡ true
  wait_ended h =
      or_so (has_word world.arrivals number d) (has_timeout world.arrivals number d && d.limited)
      (λ told.
      any_so (λ (entry : Entry). tells_of_name d.kind d.name entry.event entry.answer) (answers_wait d) (entries_for number entries d)
      (λ (entry : Entry) tells.
      or_left (tells_of_name d.kind d.name entry.event entry.answer) (d.limited && times_out d.kind d.name entry.event entry.answer) tells)
      (told_counts (last_told world.arrivals d.kind d.name) refl told))
      (λ timed.
      any_so (λ (entry : Entry). times_out d.kind d.name entry.event entry.answer) (answers_wait d) (entries_for number entries d)
      (λ (entry : Entry) comes.
      or_right (tells_of_name d.kind d.name entry.event entry.answer) (d.limited && times_out d.kind d.name entry.event entry.answer)
      (and_from d.limited (times_out d.kind d.name entry.event entry.answer)
      (second_so (has_timeout world.arrivals number d) d.limited timed) comes))
      (timed_counts (last_timed world.arrivals d.kind d.name) refl (first_so (has_timeout world.arrivals number d) d.limited timed)))
      h

-- entries have ended each wait of a generation that is answered
pub answered_by : (entries : List Entry) (world : World) (number : ℕ) (content : Content) → ComesByEntries world entries → 0 < number
    → is_answered_by world.arrivals number content ≡ true → list_all (has_ended_wait number entries) (dependencies_of content) ≡ true
answered_by entries world number content come low h =
    all_so (has_answer world.arrivals number) (has_ended_wait number entries) (dependencies_of content)
    (wait_ended entries world come number low) h

-- a generation that is ready is answered
pub ready_answered : (world : World) (row : GenRow) → is_ready world row ≡ true
    → is_answered_by world.arrivals row.number row.content ≡ true
ready_answered world row ready =
    first_so (is_answered_by world.arrivals row.number row.content)
    (not (is_checked row.content) || has_all_results world.results row.number (assignment_by world.arrivals row.content)) ready

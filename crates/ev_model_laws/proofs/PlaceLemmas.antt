-- A place of a run: its entry is answered as the machine answers it, and leads from one world to the next.
use Rattle.std.proofs.Common.{◌≡◌, ℕ, ◌+◌, ◌<◌, ◌≤◌, ◌⊎◌, inl, inr, zero, suc, List, get_or, [], ◌∷◌, ◌++◌, length, take, Some, None, ap, ◌∙◌, subst, add-one, arith}
use Rattle.std.specs.Prelude.{slice_get}
use Rattle.std.proofs.lemmas.Grind.{flat_map-append}
use Rattle.std.proofs.lemmas.Bool.{cases_lt}
use Rattle.std.proofs.lemmas.List.{append-nil, take_more}
use Rattle.std.proofs.lemmas.Option.{slice_get_within, get_or_from_slice_get, slice_get_cases}
use Rattle.ev_types.specs.Events.{MayMake}
use Rattle.ev_types.specs.declared.events.Entry.{Entry}
use Rattle.ev_types.specs.declared.journals.Format.{Format}
use Rattle.ev_model.specs.World.{World, opening}
use Rattle.ev_model.specs.Entries.{numbers_reaped}
use Rattle.ev_model.specs.Step.{step}
use Rattle.ev_model.specs.Runs.{world_after, RunsFrom}
use Rattle.ev_model.specs.Laws.{Told, world_told, IsEntryAt}
use Rattle.ev_model.proofs.RunLemmas.{world_after-more}
use Rattle.ev_model_laws.specs.Kept.{numbers_gone}

-- one element more at the end of the first ones
pub take_one : {X : Type 0} (xs : List X) (k : ℕ) (x : X) → slice_get xs k ≡ Some x → take (k + 1) xs ≡ take k xs ++ x ∷ []
take_one xs k x there =
    take_more xs k x (slice_get_within xs k x there) ∙ ap (λ y. take k xs ++ y ∷ []) (get_or_from_slice_get xs k x x there)

-- an entry is one of its actor's, and is answered as the machine answers it at the world before it
pub record IsAnswered (told : Told) (k : ℕ) (entry : Entry) : Type 0 where
  pub may : MayMake told.workers entry.actor entry.event
  pub answer : entry.answer ≡ (step told.format (world_told told k) entry.actor entry.event).1

-- the journal is a run, its batches left aside
abbrev pub Runs : Told → Type 0
Runs told = RunsFrom told.format told.workers (opening told.workers told.node) told.journal

answered_from : (format : Format) (workers : ℕ) (world : World) (entries : List Entry) (k : ℕ) (entry : Entry)
    → RunsFrom format workers world entries → slice_get entries k ≡ Some entry
    → MayMake workers entry.actor entry.event
    × (entry.answer ≡ (step format (world_after format world (take k entries)) entry.actor entry.event).1)
answered_from format workers world [] k entry run there = absurd (cc)
answered_from format workers world (first ∷ entries) zero entry run there =
    let same : first ≡ entry = cc in
    subst (λ (e : Entry). MayMake workers e.actor e.event × (e.answer ≡ (step format world e.actor e.event).1)) same (run.0, run.1)
answered_from format workers world (first ∷ entries) (suc k) entry run there =
    answered_from format workers (step format world first.actor first.event).0 entries k entry run.2 there

-- so is each entry of a run
pub entry_answered : (told : Told) (k : ℕ) (entry : Entry) → Runs told → IsEntryAt told k entry → IsAnswered told k entry
entry_answered told k entry run there =
    let both : MayMake told.workers entry.actor entry.event × (entry.answer ≡ (step told.format (world_told told k) entry.actor entry.event).1) =
    answered_from told.format told.workers (opening told.workers told.node) told.journal k entry run there in
    record { may = both.0; answer = both.1 }

-- the world after an entry is that to which its event leads
pub world_next : (told : Told) (k : ℕ) (entry : Entry) → IsEntryAt told k entry
    → world_told told (k + 1) ≡ (step told.format (world_told told k) entry.actor entry.event).0
world_next told k entry there =
    ap (world_after told.format (opening told.workers told.node)) (take_one told.journal k entry there)
    ∙ world_after-more told.format (opening told.workers told.node) (take k told.journal) entry

-- and what was reaped by then is what was reaped before and what the entry reaps
pub gone_next : (told : Told) (k : ℕ) (entry : Entry) → IsEntryAt told k entry → IsAnswered told k entry
    → numbers_gone (take (k + 1) told.journal)
    ≡ numbers_gone (take k told.journal) ++ numbers_reaped (step told.format (world_told told k) entry.actor entry.event).1
gone_next told k entry there answered =
    ap numbers_gone (take_one told.journal k entry there)
    ∙ flat_map-append (λ (e : Entry). numbers_reaped e.answer) (take k told.journal) (entry ∷ [])
    ∙ ap (λ ns. numbers_gone (take k told.journal) ++ ns) (append-nil (numbers_reaped entry.answer) ∙ ap numbers_reaped answered.answer)

entry_by : (told : Told) (k : ℕ) → k < length told.journal
    → ((entry : Entry) × (k < length told.journal) × (slice_get told.journal k ≡ Some entry) × (get_or told.journal k entry ≡ entry))
    ⊎ ((length told.journal ≤ k) × (slice_get told.journal k ≡ None))
    → (entry : Entry) × IsEntryAt told k entry
entry_by told k lt (inl found) = (found.0, found.2)
entry_by told k lt (inr past) = absurd (omega (arith, past.0))

-- there is an entry at each place of the journal
pub entry_at : (told : Told) (k : ℕ) → k < length told.journal → (entry : Entry) × IsEntryAt told k entry
entry_at told k lt = entry_by told k lt (slice_get_cases told.journal k).1

module _ (told : Told) (P : ℕ → Type 0) (j : ℕ) (here : P j)
    (next : (k : ℕ) (entry : Entry) → j ≤ k → IsEntryAt told k entry → P k → P (k + 1)) where
  over_by : (k : ℕ) → suc k ≤ length told.journal → (j ≤ k → P k) → (j < suc k) ⊎ (suc k ≤ j) → j ≤ suc k → P (suc k)
  over_by k le before (inl lt) from =
      let found : (entry : Entry) × IsEntryAt told k entry = entry_at told k (omega arith) in
      subst P (add-one k) (next k found.0 (omega arith) found.1 (before (omega arith)))
  over_by k le before (inr at) from = let same : j ≡ suc k = omega arith in subst P same here

  -- what holds at a place, and is kept by each entry from there on, holds at each place from there on
  pub over_places : (k : ℕ) → j ≤ k → k ≤ length told.journal → P k
  over_places zero from le = let same : j ≡ 0 = omega arith in subst P same here
  over_places (suc k) from le = over_by k le (λ before. over_places k before (omega arith)) (cases_lt j (suc k)) from

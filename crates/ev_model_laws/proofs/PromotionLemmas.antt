-- What was due serves: no generation that warms is ready between two events.
use Rattle.std.proofs.Common.{◌≡◌, ℕ, Bool, false, List, filter, arith}
use Rattle.std.specs.Bool.{⊤}
use Rattle.std.specs.List.{Contains}
use Rattle.std.proofs.lemmas.List.Elements.{All-contains, All-filter}
use Rattle.ev_types.specs.declared.events.Actor.{Actor}
use Rattle.ev_types.specs.declared.events.Event.{Event}
use Rattle.ev_types.specs.declared.journals.Format.{Format}
use Rattle.ev_types.specs.declared.rows.GenRow.{GenRow}
use Rattle.ev_model.specs.World.{World, opening}
use Rattle.ev_model.specs.Tidy.{is_due}
use Rattle.ev_model.specs.Step.{step}
use Rattle.ev_model_laws.specs.Kept.{NothingIsDue}
use Rattle.ev_model_laws.proofs.TidyLists.{all_of}
use Rattle.ev_model_laws.proofs.TidyLemmas.{nothing_due}
use Rattle.ev_model_laws.proofs.KeepLemmas.{KeepsTidied, managed-keeps, either, step-each}

-- what holds of each element that a list contains holds of each that a filter leaves
pub each_left : {X : Type 0} (P : X → Type 0) (test : X → Bool) (xs : List X)
    → ((x : X) → Contains xs x → P x) → (x : X) → Contains (filter test xs) x → P x
each_left P test xs each x there = All-contains P (filter test xs) x (All-filter test P xs (all_of P xs each)) there

keeps_due : KeepsTidied (λ rows made phase versions seen. ⊤) NothingIsDue
keeps_due = record {
  removed = λ goes rows made phase versions seen any. tt;
  added = λ kind name content kept rows made phase versions seen any. tt;
  version_added = λ new rows made phase versions seen any. tt;
  version_renewed = λ kind name rows made phase versions seen any. tt;
  versions_left = λ test rows made phase versions seen any. tt;
  untidied = λ world none. tt;
  tidied = λ world any. nothing_due world;
}

pub opens_due : (workers : ℕ) (node : List ℕ) → NothingIsDue (opening workers node)
opens_due workers node row there = absurd (omega (arith, there.1))

pub step-due : (format : Format) (world : World) (actor : Actor) (event : Event)
    → NothingIsDue world → NothingIsDue (step format world actor event).0
step-due format world actor event none = step-each NothingIsDue format world actor event none (record {
  managed = λ event is. managed-keeps _ NothingIsDue keeps_due (λ numbers other none. tt) format world actor event is none;
  published = either NothingIsDue _ _ _ none none;
  reaped = each_left (λ (row : GenRow). is_due world.arrivals world.results row ≡ false) _ world.rows none;
  accepted = λ ask worker is. none;
  closed = λ connection worker is. none;
  settled = λ worker is. none;
})

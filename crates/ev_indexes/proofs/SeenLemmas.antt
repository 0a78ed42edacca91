-- Worlds in which a state has the same to look at: where it represents the one, it represents the other.
use Rattle.std.proofs.Common.{◌≡◌, ◌<◌, ◌∙◌, List, sym, ap, subst}
use Rattle.std.specs.List.{AllByRecursion}
use Rattle.ev_types.specs.Items.{content_kind}
use Rattle.ev_types.specs.Texts.{IsName}
use Rattle.ev_types.specs.declared.rows.GenRow.{GenRow}
use Rattle.ev_model.specs.World.{World, Arrived, HealthResult}
use Rattle.ev_model.specs.Warming.{last_told, last_timed, value_by, has_result, is_healthy}
use Rattle.ev_indexes.specs.Tables.{GenerationsParts, IsTable}
use Rattle.ev_indexes.specs.declared.state.State.{State}
use Rattle.ev_indexes.specs.Worlds.{IsSound, HasRows}

-- the worlds have the same generations and numbers, the same that came for names, and the same results
pub record SameSeen (before after : World) : Type 0 where
  pub rows : after.rows ≡ before.rows
  pub made : after.made ≡ before.made
  pub arrivals : after.arrivals ≡ before.arrivals
  pub results : after.results ≡ before.results

-- a world is sound where another one is that has the same rows, numbers, arrivals and results
pub seen-sound : (before after : World) → SameSeen before after → IsSound before → IsSound after
seen-sound before after seen sound = record {
  table = let P : GenerationsParts → Type 0 = λ t. IsTable t in subst P (λ i. record { rows = sym seen.rows i; made = sym seen.made i }) sound.table;
  typed = subst (AllByRecursion (λ (row : GenRow). content_kind row.content ≡ row.kind)) (sym seen.rows) sound.typed;
  named = subst (AllByRecursion (λ (row : GenRow). IsName row.name)) (sym seen.rows) sound.named;
  heard = λ n h above. ap (λ (rs : List HealthResult). has_result rs n h) seen.results ∙ sound.heard n h (subst (λ m. m < n) seen.made above);
}

-- a state that represents a world represents every one that has the same rows, numbers, arrivals and results
pub seen-stands : (s : State) (before after : World) → SameSeen before after → HasRows s before → HasRows s after
seen-stands s before after seen stands = record {
  sound = seen-sound before after seen stands.sound;
  rows = stands.rows ∙ sym seen.rows;
  made = stands.made ∙ sym seen.made;
  told = λ q. stands.told q ∙ ap (λ (came : List Arrived). last_told came q.kind q.name) (sym seen.arrivals);
  timed = λ q. stands.timed q ∙ ap (λ (came : List Arrived). last_timed came q.kind q.name) (sym seen.arrivals);
  value = λ q. stands.value q ∙ ap (λ (came : List Arrived). value_by came q.kind q.name) (sym seen.arrivals);
  resulted = λ n h there. stands.resulted n h there ∙ ap (λ (rs : List HealthResult). has_result rs n h) (sym seen.results);
  healthy = λ n h there. stands.healthy n h there ∙ ap (λ (rs : List HealthResult). is_healthy rs n h) (sym seen.results);
}

-- What is in use stands among the rows, and what was reaped stands there no longer.
use Rattle.std.proofs.Common.{ℕ, ◌≤◌, ◌&&◌, ◌==◌, length, take}
use Rattle.std.specs.Cmp.{first_so}
use Rattle.std.specs.List.{list_any}
use Rattle.std.proofs.lemmas.Bool.{both_ways, false_from_ne_true}
use Rattle.ev_types.specs.declared.rows.GenRow.{GenRow}
use Rattle.ev_model.specs.World.{World}
use Rattle.ev_model.specs.Picture.{has_number}
use Rattle.ev_model.specs.Laws.{Told, world_told}
use Rattle.ev_model_laws.specs.Kept.{HasParts, has_served, numbers_gone}
use Rattle.ev_model_laws.proofs.AnyLemmas.{any_so}
use Rattle.ev_model_laws.proofs.PlaceLemmas.{Runs}
use Rattle.ev_model_laws.proofs.RunParts.{parts_kept}
use Rattle.ev_model_laws.specs.InUse.{UsesNothingGone}

pub runs_use : (told : Told) → Runs told → (k : ℕ) → k ≤ length told.journal → UsesNothingGone told k
runs_use told run k le number used =
    let world : World = world_told told k in
    let parts : HasParts told k = parts_kept told run k le in
    false_from_ne_true (has_number number (numbers_gone (take k told.journal)))
    (λ gone.
    both_ways (list_any (λ (row : GenRow). row.number == number) world.rows) (parts.drawn.away number gone)
    (any_so (λ (row : GenRow). (row.number == number) && has_served row.status) (λ (row : GenRow). row.number == number) world.rows
    (λ (row : GenRow). first_so (row.number == number) (has_served row.status)) (parts.uses number used)))

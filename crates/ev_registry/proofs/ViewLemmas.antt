-- What is shown of one generation more.
use Rattle.std.proofs.Common.{◌≡◌, ℕ, suc, ◌+◌, List, ◌++◌, Option, None, Some, map, option_map, option_to_list, refl, sym, ap, ◌∙◌, add-one}
use Rattle.std.proofs.lemmas.List.{map-append}
use Rattle.ev_types.specs.declared.rows.GenRow.{GenRow}
use Rattle.ev_model.specs.World.{World}
use Rattle.ev_model.specs.Dead.{last_picture}
use Rattle.ev_model_laws.specs.Numbers.{IsNumbered}
use Rattle.ev_model_laws.proofs.NumberLemmas.{draws_in_order}
use Rattle.ev_actors.specs.Journals.{JournalParts, world_now}
use Rattle.ev_types.specs.declared.rows.Phase.{Phase}
use Rattle.ev_model.specs.declared.pictures.Picture.{Picture}
use Rattle.ev_model_laws.specs.ByNumber.{row_numbered, rows_numbered}
use Rattle.ev_registry.specs.declared.views.ViewRow.{ViewRow}
use Rattle.ev_registry.specs.Views.{view_of, view_row}

one_shown : (f : GenRow → ViewRow) (found : Option GenRow) → option_to_list (option_map f found) ≡ map f (option_to_list found)
one_shown f None = refl
one_shown f (Some row) = refl

-- after those of the first numbers
pub shown_more : (world : World) (n : ℕ) (before after : List ViewRow) → before ≡ map (view_row world) (rows_numbered n world.rows)
    → after ≡ before ++ option_to_list (option_map (view_row world) (row_numbered (n + 1) world.rows))
    → after ≡ map (view_row world) (rows_numbered (n + 1) world.rows)
shown_more world n before after was is =
    let next : n + 1 ≡ suc n = add-one n in
    is
    ∙ (λ i. was i ++ one_shown (view_row world) (row_numbered (next i) world.rows) i)
    ∙ sym (map-append (view_row world) (rows_numbered n world.rows) (option_to_list (row_numbered (suc n) world.rows)))
    ∙ ap (λ (k : ℕ). map (view_row world) (rows_numbered k world.rows)) (sym next)

-- the world that a journal has led to has its rows in order of their numbers
pub numbered_now : (parts : JournalParts) → IsNumbered (world_now parts)
numbered_now parts = draws_in_order.runs parts.format parts.workers parts.node parts.journal

-- what is shown is what is known
pub viewed : (parts now : JournalParts) (rows : List ViewRow) (phase : Phase) (version : ℕ) (picture : Picture) → parts ≡ now
    → rows ≡ map (view_row (world_now parts)) (world_now parts).rows → phase ≡ (world_now parts).phase
    → version ≡ picture.version → picture ≡ last_picture (world_now parts)
    → (record { rows = rows; phase = phase; version = version }) ≡ view_of (world_now now)
viewed parts now rows phase version picture same shown booted is latest =
    (λ i. record { rows = shown i; phase = booted i; version = (is ∙ ap (λ (p : Picture). p.version) latest) i }) ∙ ap (λ (p : JournalParts). view_of (world_now p)) same

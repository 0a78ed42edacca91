-- What an event does to generations: each stays in its place with its content, none comes back to life, and new ones
-- come last.
use Rattle.std.specs.Prelude.{◌≡◌, ◌<◌, ℕ, false, List, [], ◌∷◌}
use Rattle.std.specs.List.{AllByRecursion}
use Rattle.ev_types.specs.Statuses.{is_live}
use Rattle.ev_types.specs.declared.rows.GenRow.{GenRow}

-- it is the same generation, but for its status, and it is as it was where it wasn't live before
pub record IsLater (before after : GenRow) : Type 0 where
  pub same : after ≡ record before { status = after.status }
  pub over : is_live before.status ≡ false → after.status ≡ before.status

-- the second rows are the first ones, later, and after them new ones, with numbers after this one
abbrev pub AreLater : ℕ → List GenRow → List GenRow → Type 0
AreLater made [] after = AllByRecursion (λ (row : GenRow). made < row.number) after
AreLater made (row ∷ rows) [] = ⊥
AreLater made (row ∷ rows) (other ∷ others) = IsLater row other × AreLater made rows others

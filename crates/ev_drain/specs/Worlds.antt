-- What the drain's calls do and answer, said of whatever world it represents.
use Rattle.std.specs.Prelude.{◌≡◌, ℕ, Bool, true, false, not, ◌==◌, List, ◌∷◌, ◌++◌, filter}
use Rattle.std.specs.List.{list_any}
use Rattle.ev_types.specs.Statuses.{is_live}
use Rattle.ev_types.specs.declared.contents.Kind.{Kind}
use Rattle.ev_types.specs.declared.journals.Format.{Format}
use Rattle.ev_types.specs.declared.rows.GenRow.{GenRow}
use Rattle.ev_model.specs.World.{World, OpenMember}
use Rattle.ev_model.specs.Picture.{has_number}
use Rattle.ev_model.specs.Signals.{is_unexpired, unexpired}
use Rattle.ev_model.specs.Dead.{numbers_in_use}
use Rattle.ev_model.specs.Publishing.{dead_numbers}
use Rattle.ev_ledger.specs.Members.{HasOpened}
use Rattle.ev_drain.specs.Retired.{HasRetired, Retired, retired_status}

-- whatever rows and marks a drain represents, this is the answer of the question about them
abbrev pub IsAnswerOf : {A : Type 0} → (List GenRow → List ℕ → A) → List Retired → A → Type 0
IsAnswerOf question drain answer = (rows : List GenRow) (expired : List ℕ) → HasRetired drain rows expired → answer ≡ question rows expired

-- a draining listener of this name is among the rows, whose drain timeout hasn't come
abbrev pub has_unexpired : List ℕ → List GenRow → List ℕ → Bool
has_unexpired name rows expired = list_any (is_unexpired expired name) rows

-- Whatever rows and marks the first drain represents, the second represents them once a live row among
-- them, of this kind, number and name and without a mark, is retired.
abbrev pub Retires : Kind → ℕ → List ℕ → Bool → List Retired → List Retired → Type 0
Retires kind number name dropped drain left =
    (row : GenRow) (before : List GenRow) (after : List GenRow) (expired : List ℕ) → HasRetired drain (before ++ row ∷ after) expired
    → is_live row.status ≡ true → row.kind ≡ kind → row.number ≡ number → row.name ≡ name → has_number number expired ≡ false
    → HasRetired left (before ++ record row { status = retired_status dropped } ∷ after) expired

-- whatever rows and marks the first drain represents, the second represents the same rows,
-- with marks for those for which the drain timeout of this name comes
abbrev pub Expires : List ℕ → List Retired → List Retired → Type 0
Expires name drain left =
    (rows : List GenRow) (expired : List ℕ) → HasRetired drain rows expired → HasRetired left rows (expired ++ unexpired expired name rows)

-- whatever rows and marks the first drain represents, the second represents the others of them
-- than those of this number
abbrev pub Removes : ℕ → List Retired → List Retired → Type 0
Removes number drain left = (rows : List GenRow) (expired : List ℕ) → HasRetired drain rows expired
    → HasRetired left (filter (λ (row : GenRow). not (row.number == number)) rows) (filter (λ n. not (n == number)) expired)

-- these are the numbers of the dead generations of whatever world this drain,
-- this ledger and this test of what is shown represent
abbrev pub AreDeadNumbers : Format → (ℕ → Bool) → List OpenMember → List Retired → List ℕ → Type 0
AreDeadNumbers format shown ledger drain dead =
    (world : World) → HasRetired drain world.rows world.expired → HasOpened ledger world.opened
    → ((n : ℕ) → shown n ≡ has_number n (numbers_in_use world)) → dead ≡ dead_numbers format world

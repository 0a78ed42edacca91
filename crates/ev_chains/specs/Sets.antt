-- Sets that grow and shrink.
use Rattle.std.specs.Prelude.{◌≡◌, ◌||◌, ◌&&◌, Bool, not}

-- a set has gained what passes this test; the first argument says what a set has
abbrev pub Gains : {S A : Type 0} → (S → A → Bool) → (A → Bool) → S → S → Type 0
Gains {A = A} has test before after = (one : A) → has after one ≡ (has before one || test one)

-- a set has lost what passes this test
abbrev pub Loses : {S A : Type 0} → (S → A → Bool) → (A → Bool) → S → S → Type 0
Loses {A = A} has test before after = (one : A) → has after one ≡ (not (test one) && has before one)

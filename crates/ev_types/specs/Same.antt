-- Tests of equality, by which definitions compare contents.
-- Each `.._decides` says that the test holds of equal values alone.
use Rattle.std.specs.Prelude.{Bool, true, false, not, ◌≡◌, ◌&&◌, ◌==◌, refl, ℕ, List, Option, Some, None}
use Rattle.std.specs.Bool.{Decides}
use Rattle.std.specs.Cmp.{first_so, second_so, unsigned_Decides}
use Rattle.std.specs.Str.{bytes_eq}
use Rattle.std.specs.Option.{option_eq}
use Rattle.std.proofs.Common.{sym, ap, ◌∙◌}
use Rattle.std.proofs.lemmas.Slice.Eq.{bytes_eq-Decides}
use lib.Pointwise.{pointwise}

-- both hold, or neither
abbrev pub bool_same : Bool → Bool → Bool
bool_same true b = b
bool_same false b = not b

pub bool_decides : (a b : Bool) → Decides (bool_same a b) (a ≡ b)
bool_decides true true = (λ e. refl, λ e. refl)
bool_decides true false = (λ e. sym e, λ e. sym e)
bool_decides false true = (λ e. e, λ e. e)
bool_decides false false = (λ e. refl, λ e. refl)

-- two lists of texts have the same texts in the same order
abbrev pub texts_same : List (List ℕ) → List (List ℕ) → Bool
texts_same a b = pointwise bytes_eq a b

-- two tests decide a pair
pub both_decide : {s t : Bool} {P Q : Type 0} → Decides s P → Decides t Q → Decides (s && t) (P × Q)
both_decide {s} {t} p q =
    (λ h. (p.0 (first_so s t h), q.0 (second_so s t h)), λ (a, b). ap (λ u. u && t) (p.1 a) ∙ q.1 b)

-- a test of a fact decides what the fact is as good as
pub decides_as : {s : Bool} {P Q : Type 0} → Decides s P → (P → Q) → (Q → P) → Decides s Q
decides_as p to from = (λ h. to (p.0 h), λ q. p.1 (from q))

pub bytes_decide : (a b : List ℕ) → Decides (bytes_eq a b) (a ≡ b)
bytes_decide = bytes_eq-Decides

pub numbers_decide : (a b : ℕ) → Decides (a == b) (a ≡ b)
numbers_decide = unsigned_Decides

pub option_decides : {A : Type 0} {same : A → A → Bool} → ((a b : A) → Decides (same a b) (a ≡ b)) → (a b : Option A) → Decides (option_eq same a b) (a ≡ b)
option_decides decide None None = (λ h. refl, λ e. refl)
option_decides decide (Some a) (Some b) = decides_as (decide a b) (λ e. ap Some e) (λ e. cc)
option_decides decide a b = (λ h. cc, λ e. cc)

-- Lists whose elements have a property, element by element.
use Rattle.std.proofs.Common.{zero, suc, List, [], ◌∷◌, arith}
use Rattle.std.specs.Prelude.{All}

pub All-first : {X : Type 0} (P : X → Type 0) (x : X) (xs : List X) → All P (x ∷ xs) → P x
All-first P x xs h = h 0 x (omega arith)

pub All-rest : {X : Type 0} (P : X → Type 0) (x : X) (xs : List X) → All P (x ∷ xs) → All P xs
All-rest P x xs h = λ k d l. h (suc k) d (omega arith)

pub All-none : {X : Type 0} (P : X → Type 0) → All P []
All-none P = λ k d l. absurd (omega arith)

pub All-more : {X : Type 0} (P : X → Type 0) (x : X) (xs : List X) → P x → All P xs → All P (x ∷ xs)
All-more P x xs p h zero d l = p
All-more P x xs p h (suc k) d l = h k d (omega arith)

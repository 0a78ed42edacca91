-- Lists in order.
use Rattle.std.specs.Prelude.{Bool, if◌then◌else◌, List, [], ◌∷◌}

-- an element goes before the first that it may come before
abbrev pub put_by : {A : Type 0} → (A → A → Bool) → A → List A → List A
put_by may_precede one [] = one ∷ []
put_by may_precede one (other ∷ others) =
    if may_precede one other then one ∷ other ∷ others else other ∷ put_by may_precede one others

-- the elements in this order
abbrev pub sorted_by : {A : Type 0} → (A → A → Bool) → List A → List A
sorted_by may_precede [] = []
sorted_by may_precede (one ∷ others) = put_by may_precede one (sorted_by may_precede others)

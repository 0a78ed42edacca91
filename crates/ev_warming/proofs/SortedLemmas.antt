-- What was received for a name, and of it what is of one sort.
use Rattle.std.proofs.Common.{◌≡◌, ◌∙◌, ℕ, Bool, true, false, cond, ◌&&◌, List, [], ◌∷◌, filter, refl, sym, ap, map, None}
use Rattle.ev_types.specs.declared.contents.Kind.{Kind}
use Rattle.ev_types.specs.declared.rows.Arrival.{Arrival}
use Rattle.ev_model.specs.World.{Arrived}
use Rattle.ev_model.specs.Warming.{is_for, last_made, content_in, value_by}
use Rattle.std.specs.List.{last_or, filter_map}

-- of those for a name those of one sort
pub sort-for : (is : Arrival → Bool) (arrivals : List Arrived) (kind : Kind) (q : List ℕ)
    → filter (λ (a : Arrived). is_for kind q a && is a.arrival) arrivals ≡ filter (λ (a : Arrived). is a.arrival) (filter (is_for kind q) arrivals)
sort-for is [] kind q = refl
sort-for is (a ∷ arrivals) kind q = by (is_for kind q a) (is a.arrival) refl (sort-for is arrivals kind q)
  where
    by : (b c : Bool) → is a.arrival ≡ c → filter (λ (a : Arrived). is_for kind q a && is a.arrival) arrivals ≡ filter (λ (a : Arrived). is a.arrival) (filter (is_for kind q) arrivals)
        → cond (b && c) (a ∷ filter (λ (a : Arrived). is_for kind q a && is a.arrival) arrivals) (filter (λ (a : Arrived). is_for kind q a && is a.arrival) arrivals)
        ≡ filter (λ (a : Arrived). is a.arrival) (cond b (a ∷ filter (is_for kind q) arrivals) (filter (is_for kind q) arrivals))
    by true true e h = ap (λ (xs : List Arrived). a ∷ xs) h ∙ (λ i. cond (sym e i) (a ∷ filter (λ (a : Arrived). is a.arrival) (filter (is_for kind q) arrivals)) (filter (λ (a : Arrived). is a.arrival) (filter (is_for kind q) arrivals)))
    by true false e h = h ∙ (λ i. cond (sym e i) (a ∷ filter (λ (a : Arrived). is a.arrival) (filter (is_for kind q) arrivals)) (filter (λ (a : Arrived). is a.arrival) (filter (is_for kind q) arrivals)))
    by false c e h = h

-- where the same came for a name, the last of a sort came when as many numbers were allocated,
-- and the value is the same
pub last_made-same : (is : Arrival → Bool) (before after : List Arrived) (kind : Kind) (q : List ℕ) → filter (is_for kind q) before ≡ filter (is_for kind q) after
    → last_made is before kind q ≡ last_made is after kind q
last_made-same is before after kind q same =
    (λ i. last_or None (map (λ (a : Arrived). a.made) (sort-for is before kind q i)))
    ∙ ap (λ (came : List Arrived). last_or None (map (λ (a : Arrived). a.made) (filter (λ (a : Arrived). is a.arrival) came))) same
    ∙ (λ i. last_or None (map (λ (a : Arrived). a.made) (sym (sort-for is after kind q) i)))

pub value_by-same : (before after : List Arrived) (kind : Kind) (q : List ℕ) → filter (is_for kind q) before ≡ filter (is_for kind q) after → value_by before kind q ≡ value_by after kind q
value_by-same before after kind q same = ap (λ (came : List Arrived). last_or None (filter_map content_in (map (λ (a : Arrived). a.arrival) came))) same

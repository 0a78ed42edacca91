-- Texts that were seen before, and texts that occur in a list twice.
use Rattle.std.proofs.Common.{◌≡◌, ℕ, List, [], ◌∷◌, Bool, true, false, ◌||◌, cond, refl, ap, ◌∙◌, sym}
use Rattle.std.specs.List.{list_any}
use Rattle.std.specs.Str.{bytes_eq}
use Rattle.ev_route_json.specs.Domains.{has_repeat}
use Rattle.ev_tree.proofs.Unions.{or_assoc}

mix : (e f a b : Bool) → (cond e true f || (a || b)) ≡ ((f || a) || (e || b))
mix true true a b = refl
mix true false true b = refl
mix true false false b = refl
mix false true a b = refl
mix false false a b = refl

-- one more text is seen: of some texts one is seen, where one was seen before or is the new one
any_more : (f g : List ℕ → Bool) (x : List ℕ) (ts : List (List ℕ)) → ((t : List ℕ) → g t ≡ cond (bytes_eq x t) true (f t)) → list_any g ts ≡ (list_any f ts || list_any (bytes_eq x) ts)
any_more f g x [] more = refl
any_more f g x (t ∷ ts) more =
    ap (λ b. b || list_any g ts) (more t) ∙ ap (λ b. cond (bytes_eq x t) true (f t) || b) (any_more f g x ts more)
    ∙ mix (bytes_eq x t) (f t) (list_any f ts) (list_any (bytes_eq x) ts)

pub seen_more : (f g : List ℕ → Bool) (x : List ℕ) (ts : List (List ℕ)) → ((t : List ℕ) → g t ≡ cond (bytes_eq x t) true (f t)) → f x ≡ false → (list_any g ts || has_repeat ts) ≡ (list_any f (x ∷ ts) || has_repeat (x ∷ ts))
seen_more f g x ts more new =
    ap (λ b. b || has_repeat ts) (any_more f g x ts more) ∙ or_assoc (list_any f ts) (list_any (bytes_eq x) ts) (has_repeat ts)
    ∙ sym (ap (λ b. (b || list_any f ts) || has_repeat (x ∷ ts)) new)

-- no text was seen
seen_none : (f : List ℕ → Bool) (ts : List (List ℕ)) → ((t : List ℕ) → f t ≡ false) → list_any f ts ≡ false
seen_none f [] none = refl
seen_none f (t ∷ ts) none = ap (λ b. b || list_any f ts) (none t) ∙ seen_none f ts none

pub nothing_seen : (f : List ℕ → Bool) {ts us : List (List ℕ)} → ((t : List ℕ) → f t ≡ false) → ts ≡ us → (list_any f ts || has_repeat ts) ≡ has_repeat us
nothing_seen f {ts} {us} none same = ap (λ b. b || has_repeat ts) (seen_none f ts none) ∙ ap has_repeat same

-- Equations under tests, for callers that join what their looks found.
use Rattle.std.proofs.Common.{◌≡◌, Bool, ◌||◌, ◌&&◌, not, ap, ◌∙◌}

pub or_same : {a b d e : Bool} → a ≡ b → d ≡ e → (a || d) ≡ (b || e)
or_same {a} {b} {d} {e} p q = ap (λ x. x || d) p ∙ ap (λ x. b || x) q

pub and_same : {a b d e : Bool} → a ≡ b → d ≡ e → (a && d) ≡ (b && e)
and_same {a} {b} {d} {e} p q = ap (λ x. x && d) p ∙ ap (λ x. b && x) q

pub not_same : {a b : Bool} → a ≡ b → not a ≡ not b
not_same p = ap not p

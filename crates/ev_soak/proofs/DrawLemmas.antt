-- Draws.
use Rattle.std.proofs.Common.{◌≡◌, ℕ, ◌+◌, ◌*◌, ◌/◌, ◌%◌, ◌^◌, ◌<◌, ◌≤◌, Result, IfOk, subst, ap, ◌∙◌, arith}
use Rattle.std.proofs.Math.Nat.{mod-add-mod, mod-lt}
use Rattle.ev_types.specs.declared.events.Line.{Line}
use Rattle.ev_soak.specs.declared.forms.Form.{Form}
use Rattle.ev_soak.specs.Draws.{next_state, behind, drawn}
use Rattle.ev_soak.specs.Soak.{draws_of, line_drawn}

-- the state that follows, by two steps that wrap
pub next_is : (x : ℕ) → ((x * 6364136223846793005) % 2 ^ 64 + 1442695040888963407) % 2 ^ 64 ≡ next_state x
unfolding next_state
next_is x = mod-add-mod (x * 6364136223846793005) (2 ^ 64) 1442695040888963407

pub drawn_below : (n x : ℕ) → 1 ≤ n → drawn n x < n
unfolding drawn
drawn_below n x some = let positive : 0 < n = omega (arith, some) in mod-lt (next_state x / 2 ^ 33) positive

-- what is drawn for a form in a state, where both are given otherwise
pub drawn_line : {E : Type 0} (form other : Form) (x y at : ℕ) (r : Result Line E) → form ≡ other → x ≡ y → IfOk r (λ line. line ≡ line_drawn form at x) → IfOk r (λ line. line ≡ line_drawn other at y)
drawn_line form other x y at r same state told =
    subst (λ (f : Form). IfOk r (λ line. line ≡ line_drawn f at y)) same (subst (λ (n : ℕ). IfOk r (λ line. line ≡ line_drawn form at n)) state told)

pub drawn_state : (form other : Form) (x y now : ℕ) → form ≡ other → x ≡ y → now ≡ behind (draws_of form) x → now ≡ behind (draws_of other) y
drawn_state form other x y now same state told = told ∙ (λ i. behind (draws_of (same i)) (state i))

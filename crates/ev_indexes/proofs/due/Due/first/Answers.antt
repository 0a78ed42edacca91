use Rattle.std.proofs.Common.{◌≡◌, ℕ, true, ◌||◌, List, [], ◌∷◌, slice_get, IfSome, refl, sym, ap, subst}
use Rattle.std.proofs.lemmas.Bool.{eq-eqb}
use Rattle.ev_indexes.specs.Due.{is_one_of}
use Rattle.ev_indexes.proofs.due.Due.first.Goals as goal

first_among : (numbers : List ℕ) → IfSome (slice_get numbers 0) (λ n. is_one_of numbers n ≡ true)
first_among [] = tt
first_among (n ∷ numbers) = ap (λ b. b || is_one_of numbers n) (eq-eqb n n refl)

pub returns-clause-some : goal.returns-clause-some
returns-clause-some c =
    let e : c.copied.result ≡ slice_get c.args.self.now 0 = cc in
    subst (λ o. IfSome o (λ n. is_one_of c.args.self.now n ≡ true)) (sym e) (first_among c.args.self.now)

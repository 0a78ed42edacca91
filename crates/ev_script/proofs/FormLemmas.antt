-- What is under the test that an object has only the members of its form.
use Rattle.std.proofs.Common.{◌≡◌, ℕ, List, ◌∷◌, Bool, true, cond, codes, Option, None, sym, ap, ◌∙◌}
use Rattle.serde_json.specs.Data.{Data}
use Rattle.ev_script.specs.Members.{has_only}
use Rattle.ev_script.specs.LineForms.{with_only}

-- an object that passed the test
pub passed : {A : Type 0} (names : List (List ℕ)) (tree : Data) (form : Option A) (b : Bool) → b ≡ has_only (codes "op" ∷ names) tree → b ≡ true → form ≡ with_only names tree form
passed names tree form b e h = ap (λ t. cond t form None) (sym h ∙ e)

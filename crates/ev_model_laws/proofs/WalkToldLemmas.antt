-- A row records one operation of its actor alone.
use Rattle.std.proofs.Common.{◌≡◌, inl, inr, ◌==◌, Bool, true, false, ◌&&◌, ◌||◌, if◌then◌else◌, nat_lt, List, [], ◌∷◌, Some, refl, ap, sym, ◌∙◌}
use Rattle.std.specs.Prelude.{find, option_map}
use Rattle.std.specs.Cmp.{first_so, second_so}
use Rattle.std.proofs.lemmas.Bool.{both_ways}
use Rattle.ev_types.specs.Events.{op_of, op_same}
use Rattle.ev_types.specs.Same.{numbers_decide}
use Rattle.ev_types.specs.Scripts.{ScriptParts, IsScript}
use Rattle.ev_types.specs.declared.journals.Row.{Row}
use Rattle.ev_model.specs.Operations.{Operation, is_earlier, operations_of, entry_of}
use Rattle.ev_model.specs.Finding.{tells_of, entry_told}
use Rattle.ev_model_laws.proofs.OperationLists.{IsIn, at_in}
use Rattle.ev_model_laws.proofs.RisingOperations.{Earlier, IsRising, not_itself, operations_rise}

-- the line and the step that a row records
record IsPlaced (row : Row) (o : Operation) : Type 0 where
  at : row.at ≡ o.at
  step_same : row.step ≡ o.step

placed : (row : Row) (o : Operation) → tells_of row o ≡ true → IsPlaced row o
placed row o h =
    let numbers : ((row.at == o.at) && (row.step == o.step)) ≡ true =
    first_so ((row.at == o.at) && (row.step == o.step)) (op_same row.op (op_of o.event)) h in
    record {
      at = (numbers_decide row.at o.at).0 (first_so (row.at == o.at) (row.step == o.step) numbers);
      step_same = (numbers_decide row.step o.step).0 (second_so (row.at == o.at) (row.step == o.step) numbers);
    }

-- two that a row records are at one place
at_one_place : (row : Row) (a b : Operation) → tells_of row a ≡ true → tells_of row b ≡ true → is_earlier a b ≡ false
at_one_place row a b one other =
    let here : IsPlaced row a = placed row a one in
    let there : IsPlaced row b = placed row b other in
    let at : a.at ≡ b.at = sym here.at ∙ there.at in
    let steps : a.step ≡ b.step = sym here.step_same ∙ there.step_same in
    let same : is_earlier a b ≡ is_earlier b b =
    λ i. nat_lt (at i) b.at || ((at i == b.at) && nat_lt (steps i) b.step) in
    same ∙ not_itself b

find_by : (row : Row) (x o : Operation) (os : List Operation) (tells : Bool) → tells_of row x ≡ tells
    → (tells_of row x ≡ true → ⊥) → find (tells_of row) os ≡ Some o → (if tells then Some x else find (tells_of row) os) ≡ Some o
find_by row x o os true h never e = absurd (never h)
find_by row x o os false h never e = e

find_told : (row : Row) (o : Operation) (os : List Operation) → IsRising os → IsIn o os → tells_of row o ≡ true → find (tells_of row) os ≡ Some o
find_told row o [] rising is h = absurd is
find_told row o (x ∷ os) rising (inl e) h =
    ap (λ b. if b then Some x else find (tells_of row) os) (ap (tells_of row) e ∙ h) ∙ ap Some e
find_told row o (x ∷ os) rising (inr is) h =
    find_by row x o os (tells_of row x) refl
    (λ t. both_ways (is_earlier x o) (at_one_place row x o t h) (at_in (Earlier x) o os rising.0 is))
    (find_told row o os rising.1 is h)

-- the entry that a row is, by its operation
pub entry_is : (script : ScriptParts) → IsScript script → (row : Row) (o : Operation) → IsIn o (operations_of script row.actor) → tells_of row o ≡ true
    → entry_told script row ≡ Some (entry_of o row.answer)
entry_is script kept row o is h =
    ap (option_map (λ (p : Operation). entry_of p row.answer)) (find_told row o (operations_of script row.actor) (operations_rise script row.actor kept) is h)

-- References to secrets and extensions, and how those of several parts are joined.
use Rattle.std.specs.Prelude.{ℕ, ◌&&◌, ◌++◌, List, [], ◌∷◌, Bool, not, if◌then◌else◌}
use Rattle.std.specs.List.{flat_map}
use Rattle.ev_types.specs.declared.references.Reference.{Reference}
use Rattle.ev_tree.specs.declared.outcome.Found.{Found}
use Rattle.ev_tree.specs.Forms.{is_wrong, given_or}
use Rattle.ev_tree.specs.Rules.{is_name}
use Rattle.ev_tree.specs.Broken.{none_broken, either_broken, any_broken}
use Rattle.ev_secret_json.specs.declared.referring.References.{References}

-- no references, and no rule is broken
abbrev pub none_referred : References
none_referred = record { list = []; broken = none_broken }

-- no references, of a part that may have the wrong form
abbrev pub wrong_form : Bool → References
wrong_form wrong = record { list = []; broken = record none_broken { v6 = wrong } }

-- the references of one part and then those of another, and the rules that one of them breaks
abbrev pub joined : References → References → References
joined a b = record { list = a.list ++ b.list; broken = either_broken a.broken b.broken }

-- those of each of some parts, in order
abbrev pub each_joined : {A : Type 0} → (A → References) → List A → References
each_joined found parts = record {
  list = flat_map (λ part. (found part).list) parts;
  broken = any_broken (λ part. (found part).broken) parts;
}

-- the reference of this name, where a resource is asked for and the name is one
abbrev pub reference_with : Bool → List ℕ → Bool → List Reference
reference_with asks name limited = if asks && is_name name then record { name = name; limited = limited } ∷ [] else []

-- a name that is judged has not 1 to 512 bytes; one of a wrong form breaks V6 alone
abbrev pub is_bad_name : Bool → Found (List ℕ) → Bool
is_bad_name judged name = judged && not (is_wrong name) && not (is_name (given_or [] name))

-- The steps of a run may be made once more, where the numbers of generations suffice for them.
use Rattle.std.proofs.Common.{◌≡◌, ℕ, List, [], ◌∷◌, sym, subst}
use Rattle.ev_types.specs.declared.events.Entry.{Entry}
use Rattle.ev_types.specs.declared.journals.Format.{Format}
use Rattle.ev_model.specs.World.{World, opening}
use Rattle.ev_model.specs.Step.{step}
use Rattle.ev_model.specs.Runs.{IsRun, RunsFrom}
use Rattle.ev_dump.specs.Fronts.{SufficeFrom}
use Rattle.ev_registry.specs.Registries.{HaveStepped}

pub steps_again : (format : Format) (workers : ℕ) (world : World) (entries : List Entry) → RunsFrom format workers world entries
    → SufficeFrom format world entries → HaveStepped format workers world entries
steps_again format workers world [] run suffice = tt
steps_again format workers world (entry ∷ entries) run suffice =
    (record { allowed = run.0; room = suffice.0 }, steps_again format workers (step format world entry.actor entry.event).0 entries run.2 suffice.1)

-- the same of what is equal
pub run_of : (format : Format) (workers w : ℕ) (node n : List ℕ) (entries es : List Entry) → w ≡ workers → n ≡ node → es ≡ entries
    → IsRun format workers node entries → IsRun format w n es
run_of format workers w node n entries es same_workers same_node same run =
    subst (λ (k : ℕ). IsRun format k n es) (sym same_workers)
    (subst (λ (id : List ℕ). IsRun format workers id es) (sym same_node) (subst (IsRun format workers node) (sym same) run))

pub stepped_of : (format : Format) (workers w : ℕ) (node n : List ℕ) (entries es : List Entry) → w ≡ workers → n ≡ node → es ≡ entries
    → HaveStepped format workers (opening workers node) entries → HaveStepped format w (opening w n) es
stepped_of format workers w node n entries es same_workers same_node same stepped =
    subst (λ (k : ℕ). HaveStepped format k (opening k n) es) (sym same_workers)
    (subst (λ (id : List ℕ). HaveStepped format workers (opening workers id) es) (sym same_node)
    (subst (HaveStepped format workers (opening workers node)) (sym same) stepped))

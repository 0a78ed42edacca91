-- A soak takes nothing of its source, and its line is that of the replay of its script.
use Rattle.std.proofs.Common.{◌≡◌, ℕ, ◌+◌, true, false, List, [], Option, Ok, Err, refl, ap, subst, ◌∙◌}
use Rattle.ev_io.specs.declared.faults.ScriptFault.TheVariants.{OutOfMemory as lacks_memory}
use Rattle.ev_types.specs.Scripts.{IsScript, ScriptParts}
use Rattle.ev_types.specs.declared.journals.Format.TheVariants.{Two}
use Rattle.ev_model.specs.Dead.{last_picture}
use Rattle.ev_model.specs.Laws.{Laws}
use Rattle.ev_model.specs.Operations.{IsReplay}
use Rattle.ev_model.specs.Runs.{world_after}
use Rattle.ev_model.specs.World.{opening}
use Rattle.ev_actors.specs.Journals.{HasReplayed, JournalParts, world_now}
use Rattle.ev_soak.specs.Soak.{soak_script}
use Rattle.ev_soak.specs.Lines.{soak_line, told_of, version_behind, IsSoakText}
use Rattle.ev_app.specs.declared.commands.Command.TheVariants.{Soak}
use Rattle.ev_app.specs.declared.made.Made.{Made}
use Rattle.ev_app.specs.declared.status.Status.TheVariants.{Done}
use Rattle.ev_app.specs.Faults.{HasNoneFor}
use Rattle.ev_app.specs.Texts.{IsMadeBy}

nothing_wrong : (seed count : ℕ) → HasNoneFor (Soak seed count) record { bytes = []; ended = true; audit = false }
nothing_wrong seed count = record { early = λ place kind no. no; late = λ whole line number no. no }

-- the line answers it
pub soaked : (seed count : ℕ) (left : Option (List ℕ)) (made : Made) → made.status ≡ Done → IsSoakText seed count made.text.items → IsMadeBy (Soak seed count) left left (Ok made)
soaked seed count left made done told = record {
  input = record { bytes = []; ended = true; audit = false };
  takes = record { left = refl; empty = refl };
  is = record { ended = refl; sound = nothing_wrong seed count; answers = (done, told) };
}

-- there was no memory for it
pub not_soaked : (seed count : ℕ) (left : Option (List ℕ)) → IsMadeBy (Soak seed count) left left (Err lacks_memory)
not_soaked seed count left = record {
  input = record { bytes = []; ended = true; audit = false };
  takes = record { left = refl; empty = refl };
  is = tt;
}

-- the line of a registry that has replayed the seed's script
pub soak_told : (seed count : ℕ) (script : ScriptParts) (parts : JournalParts) (version : ℕ) (text : List ℕ) → IsScript script → script ≡ soak_script seed count → HasReplayed script parts
    → version ≡ (last_picture (world_now parts)).version → text ≡ soak_line (count + 1) parts.journal version → IsSoakText seed count text
soak_told seed count script parts version text kept same done last told =
    let workers : parts.workers ≡ (soak_script seed count).workers = done.workers ∙ ap (λ (s : ScriptParts). s.workers) same in
    let node : parts.node ≡ (soak_script seed count).node = done.node ∙ ap (λ (s : ScriptParts). s.node) same in
    let behind : version ≡ version_behind (soak_script seed count) parts.journal =
    last ∙ (λ i. (last_picture (world_after (done.format i) (opening (workers i) (node i)) parts.journal)).version) in
    record {
      kept = subst IsScript same kept;
      journal = parts.journal;
      laws = subst (λ (s : ScriptParts). Laws (told_of s parts.journal)) same done.laws;
      replay = subst (λ (s : ScriptParts). IsReplay Two s parts.journal) same done.journal;
      line = told ∙ ap (soak_line (count + 1) parts.journal) behind;
    }

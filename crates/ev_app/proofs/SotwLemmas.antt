-- What is made of a script of the state of the world.
use Rattle.std.proofs.Common.{◌≡◌, ℕ, false, List, [], ◌∷◌, ◌++◌, map, Option, Some, Result, Ok, Err, inl, inr, ap, subst, ◌∙◌, append-nil}
use Rattle.std.specs.Io.KnownBytes.{IsAtEnd}
use Rattle.serde_json.specs.View.{view}
use Rattle.ev_io.specs.declared.faults.ScriptFault.{ScriptFault}
use Rattle.ev_io.specs.declared.faults.ScriptFault.TheVariants.{Bad, Read, OutOfMemory as lacks_memory}
use Rattle.ev_types.specs.Scripts.{ScriptParts, IsScript}
use Rattle.ev_types.specs.declared.journals.Format.TheVariants.{Two}
use Rattle.ev_model.specs.Laws.{RunsHaveLaws}
use Rattle.ev_model.specs.Runs.{IsRun}
use Rattle.ev_model_laws.specs.OneReplay.{ReplayIsRunOf}
use Rattle.ev_actors.specs.Journals.{HasReplayed, JournalParts}
use Rattle.ev_tree.specs.Floats.{whole}
use Rattle.ev_script.specs.declared.trees.ScriptTrees.{ScriptTrees}
use Rattle.ev_script.specs.Faults.{Input, IsFaultOf}
use Rattle.ev_script.specs.ReadTrees.{IsTreesAnswer}
use Rattle.ev_script.specs.Script.{script_of}
use Rattle.ev_sotw.specs.Deltas.{deltas_of}
use Rattle.ev_sotw.specs.Lines.{sotw_lines}
use Rattle.ev_expand.specs.Said.{lines_in}
use Rattle.ev_sotw_delta.specs.DeltaText.{written_of, delta_script, FitsInput}
use Rattle.ev_sotw_delta.proofs.LimitLemmas.{fits_front}
use Rattle.ev_sotw.specs.Text.{stated_in, sotw_text}
use Rattle.ev_sotw_delta.specs.SameWorld.{SameWorld}
use Rattle.ev_app.specs.declared.commands.Command.TheVariants.{Sotw}
use Rattle.ev_app.specs.declared.input.KeyedScript.{KeyedScript}
use Rattle.ev_app.specs.declared.made.Made.{Made}
use Rattle.ev_app.specs.Faults.{IsFirstEarly}
use Rattle.ev_app.specs.Scripts.{ReadsScript}
use Rattle.ev_app.specs.Sotw.{IsSotwText, GrowsTooLarge, IsSotwAnswer}
use Rattle.ev_app.specs.Texts.{IsMadeBy}
use Rattle.ev_app.proofs.TakenLemmas.{front_of}
use Rattle.ev_app.proofs.ReplayLemmas.{has_laws}
use Rattle.ev_app.specs.Trees.{AreTreesOf, ReadsTrees}
use Rattle.ev_app.proofs.TreeLemmas.{same_headers, same_heads, same_lines, whole_trees}

-- two readings of the bytes write the same
same_written : (bytes : List ℕ) (trees others : ScriptTrees) → AreTreesOf sotw_lines bytes trees → AreTreesOf sotw_lines bytes others → written_of trees ≡ written_of others
same_written bytes trees others one two =
    let heads : view trees.head ≡ view others.head = same_heads sotw_lines bytes trees others one two in
    let lines : lines_in trees ≡ lines_in others = same_lines sotw_lines bytes trees others one two in
    let headers : trees.header ≡ others.header = same_headers sotw_lines bytes trees others one two in
    λ i. map whole (heads i ∷ deltas_of (headers i).profile (lines i))

-- where the text makes an input, it is at no line too large
never_large : (bytes : List ℕ) (trees : ScriptTrees) → AreTreesOf sotw_lines bytes trees → FitsInput (written_of trees) → (line number : ℕ) → GrowsTooLarge bytes line number → ⊥
never_large bytes trees reads fits line number late =
    late.large.large (fits_front line (written_of late.trees) (subst FitsInput (same_written bytes trees late.trees reads late.reads) fits))

-- ---- readings

-- the script of a whole text
pub read_again : (text left : List ℕ) (keyed : KeyedScript) → ReadsScript (Some text) (Some left) (Ok keyed) → script_of false text ≡ Some keyed.script
read_again text left keyed read =
    let front : (rest : List ℕ) × (text ≡ read.input.bytes ++ rest) × (IsAtEnd (Some left) → rest ≡ []) = front_of text read.input.bytes (Some left) read.takes.taken in
    let same : text ≡ read.input.bytes = front.1 ∙ ap (λ (rest : List ℕ). read.input.bytes ++ rest) (front.2 (read.takes.ended read.is.ended)) ∙ append-nil read.input.bytes in
    ap (script_of false) same ∙ read.is.reads

-- ---- answers

-- the text of what the replay gave
pub sotw_told : (input : Input) (trees : ScriptTrees) (script : ScriptParts) (parts : JournalParts) (text : List ℕ) → RunsHaveLaws → ReplayIsRunOf → SameWorld
    → IsTreesAnswer sotw_lines input (Ok trees) → IsScript script → script ≡ delta_script trees → HasReplayed script parts → IsRun parts.format parts.workers parts.node parts.journal
    → text ≡ sotw_text script.workers (map (stated_in trees.header.profile (lines_in trees)) parts.journal) → IsSotwText trees text
sotw_told input trees script parts text laws runs same_world read kept same done run rendered =
    let kept_there : IsScript (delta_script trees) = subst IsScript same kept in
    let there : HasReplayed (delta_script trees) parts = subst (λ (s : ScriptParts). HasReplayed s parts) same done in
    record {
      journal = parts.journal;
      replayed = record {
        kept = kept_there;
        replay = there.journal;
        laws = has_laws (delta_script trees) parts laws there run;
        same = same_world input trees Two parts.journal read kept_there (runs Two (delta_script trees) parts.journal kept_there there.journal);
      };
      rendered = rendered ∙ ap (λ (s : ScriptParts). sotw_text s.workers (map (stated_in trees.header.profile (lines_in trees)) parts.journal)) same;
      worlds = λ format journal bounds is_run. same_world input trees format journal read bounds is_run;
    }

first_early : (input : Input) (line number : ℕ) → IsFaultOf sotw_lines input line number → IsFirstEarly Sotw input line number
first_early input line number fault = record { place = fault.place; kind = fault.kind; stands = fault.first.stands; first = fault.first.first; told = fault.told; numbered = fault.numbered }

-- the text answers what was read, or the script that says the same is too large
pub answered : (before after : Option (List ℕ)) (trees : ScriptTrees) (result : Result Made ScriptFault) → ReadsTrees sotw_lines before after (Ok trees) → IsSotwAnswer trees result → IsMadeBy Sotw before after result
answered before after trees (Ok made) read told = record {
  input = read.input;
  takes = read.takes;
  is = record {
    ended = read.is.0.ended;
    sound = record {
      early = read.is.0.sound;
      late = λ ended line number late. never_large read.input.bytes trees (whole_trees sotw_lines read.input trees read.is) told.0 line number late;
    };
    answers = (told.1, record { trees = trees; reads = whole_trees sotw_lines read.input trees read.is; answers = told.2 });
  };
}
answered before after trees (Err (Bad line number)) read told = record {
  input = read.input;
  takes = read.takes;
  is = inr (read.is.0.ended, read.is.0.sound, record { trees = trees; reads = whole_trees sotw_lines read.input trees read.is; large = told.0; numbered = told.1 });
}
answered before after trees (Err Read) read told = absurd told
answered before after trees (Err lacks_memory) read told = record { input = read.input; takes = read.takes; is = tt }

-- nothing was read
pub not_read : (before after : Option (List ℕ)) (fault : ScriptFault) → ReadsTrees sotw_lines before after (Err fault) → IsMadeBy Sotw before after (Err fault)
not_read before after (Bad line number) read = record { input = read.input; takes = read.takes; is = inl (first_early read.input line number read.is) }
not_read before after Read read = record { input = read.input; takes = read.takes; is = record { goes_on = read.is.1; sound = read.is.0 } }
not_read before after lacks_memory read = record { input = read.input; takes = read.takes; is = tt }

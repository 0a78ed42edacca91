-- The text whose clusters wait for their secrets is a script.
use Rattle.std.proofs.Common.{◌≡◌, ℕ, ◌+◌, false, List, [], ◌∷◌, Some, Result, Ok, Err, Vec, IfOk, OnOk, refl, arith}
use Rattle.std.specs.declared.alloc.Global.{Global}
use Rattle.std.specs.Prelude.{All}
use Rattle.std.proofs.lemmas.List.Elements.{All-tail}
use Rattle.serde_json.specs.Data.{Data}
use Rattle.serde_json.specs.View.{view}
use Rattle.ev_types.specs.Scripts.{IsScript}
use Rattle.ev_script.specs.declared.forms.Settings.{Settings}
use Rattle.ev_script.specs.declared.trees.ScriptTrees.{ScriptTrees}
use Rattle.ev_script.specs.Faults.{Input, plain_lines, HasNoFault}
use Rattle.ev_script.specs.Header.{settings_of}
use Rattle.ev_script.specs.ReadTrees.{IsTreesAnswer}
use Rattle.ev_script.specs.Script.{script_of}
use Rattle.ev_trees.specs.Trees.{IsReadable}
use Rattle.ev_expand.specs.declared.outcome.ExpandError.{ExpandError}
use Rattle.ev_expand.specs.Expanding.{IsExpanded}
use Rattle.ev_expand.specs.Said.{lines_in, HasLine, AllAt, input_of_text, expanded_script}
use Rattle.ev_expand.specs.Scripts.{IsLineIfWritten, IsExpandable}
use Rattle.ev_expand.proofs.FormLemmas.{trees_have_lines, trees_are_readable}
use Rattle.ev_expand.proofs.ScriptLemmas.{text_is_script}
use Rattle.ev_tls.specs.Sealing.{tls_rules}
use Rattle.ev_tls.proofs.ShallowLemmas.{lines_shallow}

lines_written : (settings : Settings) (at : ℕ) (lines : List Data) → AllAt (HasLine settings) at lines → AllAt (IsLineIfWritten (tls_rules settings.profile) settings) at lines
lines_written settings at [] all = tt
lines_written settings at (line ∷ lines) all = (λ is. all.0, lines_written settings (at + 1) lines all.1)

-- trees that were read of a script can be sealed
trees_expandable : (input : Input) (trees : ScriptTrees) → IsTreesAnswer plain_lines input (Ok trees) → IsExpandable (tls_rules trees.header.profile) trees
trees_expandable input trees answer =
    let readable : All IsReadable (view trees.head ∷ lines_in trees) = trees_are_readable plain_lines input trees answer in
    record {
      profile = refl;
      heads = answer.1.header;
      written = lines_written (settings_of trees.header) 2 (lines_in trees) (trees_have_lines input trees answer);
      readable = readable;
      shallow = lines_shallow trees.header.profile (lines_in trees) (All-tail IsReadable (view trees.head) (lines_in trees) readable);
      nonce = omega arith;
    }

pub sealed_sound : (input : Input) (trees : ScriptTrees) (result : Result (Vec ℕ Global) ExpandError) → IsTreesAnswer plain_lines input (Ok trees)
    → IsExpanded (tls_rules trees.header.profile) (view trees.head) (lines_in trees) result → IfOk result (λ text. HasNoFault plain_lines (input_of_text text.items))
sealed_sound input trees (Ok text) answer expanded = (text_is_script (tls_rules trees.header.profile) trees text (trees_expandable input trees answer) expanded).sound
sealed_sound input trees (Err error) answer expanded = tt

pub sealed_script : (input : Input) (trees : ScriptTrees) (result : Result (Vec ℕ Global) ExpandError) → IsTreesAnswer plain_lines input (Ok trees)
    → IsExpanded (tls_rules trees.header.profile) (view trees.head) (lines_in trees) result → IfOk result (λ text. script_of false text.items ≡ Some (expanded_script (tls_rules trees.header.profile) trees))
sealed_script input trees (Ok text) answer expanded = (text_is_script (tls_rules trees.header.profile) trees text (trees_expandable input trees answer) expanded).script
sealed_script input trees (Err error) answer expanded = tt

pub sealed_kept : (input : Input) (trees : ScriptTrees) (result : Result (Vec ℕ Global) ExpandError) → IsTreesAnswer plain_lines input (Ok trees)
    → IsExpanded (tls_rules trees.header.profile) (view trees.head) (lines_in trees) result → OnOk result (IsScript (expanded_script (tls_rules trees.header.profile) trees))
sealed_kept input trees (Ok text) answer expanded = (text_is_script (tls_rules trees.header.profile) trees text (trees_expandable input trees answer) expanded).kept
sealed_kept input trees (Err error) answer expanded = tt

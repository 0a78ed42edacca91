-- The text whose clusters wait for the addresses of their hosts is a script.
use Rattle.std.proofs.Common.{◌≡◌, ℕ, false, Some, Result, Ok, Err, Vec, IfOk, OnOk, refl, arith}
use Rattle.std.specs.declared.alloc.Global.{Global}
use Rattle.serde_json.specs.View.{view}
use Rattle.ev_types.specs.Scripts.{IsScript}
use Rattle.ev_script.specs.declared.trees.ScriptTrees.{ScriptTrees}
use Rattle.ev_script.specs.Faults.{Input, plain_lines, HasNoFault}
use Rattle.ev_script.specs.Header.{settings_of}
use Rattle.ev_script.specs.ReadTrees.{IsTreesAnswer}
use Rattle.ev_script.specs.Script.{script_of}
use Rattle.ev_dns.specs.Lines.{dns_lines}
use Rattle.ev_dns.specs.Resolving.{dns_rules}
use Rattle.ev_expand.specs.declared.outcome.ExpandError.{ExpandError}
use Rattle.ev_expand.specs.Expanding.{IsExpanded}
use Rattle.ev_expand.specs.Said.{lines_in, input_of_text, expanded_script}
use Rattle.ev_expand.specs.Scripts.{IsExpandable}
use Rattle.ev_expand.proofs.FormLemmas.{trees_have_forms, trees_are_readable}
use Rattle.ev_expand.proofs.ScriptLemmas.{text_is_script}
use Rattle.ev_dns.proofs.ShallowLemmas.{lines_shallow}
use Rattle.ev_dns.proofs.WrittenLemmas.{lines_written}

-- trees that were read of a script with resolutions can be resolved
trees_expandable : (input : Input) (trees : ScriptTrees) → IsTreesAnswer dns_lines input (Ok trees) → IsExpandable (dns_rules trees.header.profile) trees
trees_expandable input trees answer = record {
  profile = refl;
  heads = answer.1.header;
  written = lines_written (settings_of trees.header) 2 (lines_in trees) (trees_have_forms dns_lines input trees (λ tree. refl) answer);
  readable = trees_are_readable dns_lines input trees answer;
  shallow = lines_shallow trees.header.profile (lines_in trees);
  nonce = omega arith;
}

pub resolved_sound : (input : Input) (trees : ScriptTrees) (result : Result (Vec ℕ Global) ExpandError) → IsTreesAnswer dns_lines input (Ok trees)
    → IsExpanded (dns_rules trees.header.profile) (view trees.head) (lines_in trees) result → IfOk result (λ text. HasNoFault plain_lines (input_of_text text.items))
resolved_sound input trees (Ok text) answer expanded = (text_is_script (dns_rules trees.header.profile) trees text (trees_expandable input trees answer) expanded).sound
resolved_sound input trees (Err error) answer expanded = tt

pub resolved_script : (input : Input) (trees : ScriptTrees) (result : Result (Vec ℕ Global) ExpandError) → IsTreesAnswer dns_lines input (Ok trees)
    → IsExpanded (dns_rules trees.header.profile) (view trees.head) (lines_in trees) result → IfOk result (λ text. script_of false text.items ≡ Some (expanded_script (dns_rules trees.header.profile) trees))
resolved_script input trees (Ok text) answer expanded = (text_is_script (dns_rules trees.header.profile) trees text (trees_expandable input trees answer) expanded).script
resolved_script input trees (Err error) answer expanded = tt

pub resolved_kept : (input : Input) (trees : ScriptTrees) (result : Result (Vec ℕ Global) ExpandError) → IsTreesAnswer dns_lines input (Ok trees)
    → IsExpanded (dns_rules trees.header.profile) (view trees.head) (lines_in trees) result → OnOk result (IsScript (expanded_script (dns_rules trees.header.profile) trees))
resolved_kept input trees (Ok text) answer expanded = (text_is_script (dns_rules trees.header.profile) trees text (trees_expandable input trees answer) expanded).kept
resolved_kept input trees (Err error) answer expanded = tt

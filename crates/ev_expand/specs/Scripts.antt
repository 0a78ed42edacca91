-- The text that a command makes of a script is a script.
use Rattle.std.specs.Prelude.{◌≡◌, ℕ, ◌+◌, ◌≤◌, IsTrue, false, List, ◌∷◌, length, All, Some, IfSome, Ok, Vec}
use Rattle.std.specs.declared.alloc.Global.{Global}
use Rattle.serde_json.specs.Data.{Data, depth}
use Rattle.serde_json.specs.Read.{max_depth}
use Rattle.serde_json.specs.View.{view}
use Rattle.ev_types.specs.Scripts.{IsScript}
use Rattle.ev_script.specs.declared.forms.Settings.{Settings}
use Rattle.ev_script.specs.declared.trees.ScriptTrees.{ScriptTrees}
use Rattle.ev_script.specs.Faults.{plain_lines, HasNoFault}
use Rattle.ev_script.specs.Header.{header_of, settings_of}
use Rattle.ev_script.specs.Script.{script_of}
use Rattle.ev_trees.specs.Trees.{IsReadable}
use Rattle.ev_expand.specs.Fronts.{Front, up_to, fronts}
use Rattle.ev_expand.specs.Guarding.{Guarded}
use Rattle.ev_expand.specs.Expanding.{Rules, guarded_at, IsExpanded}
use Rattle.ev_expand.specs.Said.{lines_in, HasLine, AllAt, input_of_text, expanded_script}

-- where it is written, the line is at this place one of a script with these settings
abbrev pub IsLineIfWritten : Rules → Settings → ℕ → Data → Type 0
IsLineIfWritten rules settings at line = IsTrue (rules.is_written line) → HasLine settings at line

-- endpoints that a line which follows may have: it nests deeper by five
abbrev pub IsShallow : Data → Type 0
IsShallow endpoints = depth endpoints + 5 ≤ max_depth

-- the endpoints of all that is guarded at a line are shallow
abbrev pub AreShallowAt : Rules → Front → Type 0
AreShallowAt rules front = All (λ (g : Guarded). IfSome (rules.endpoints_of (up_to front) g) IsShallow) (guarded_at rules front)

-- Trees of an input of which a command makes a script: a header, and lines of its workers where they are written,
-- which are read by the header's profile. None is too deep, and no line that follows is. The nonces of added lines
-- aren't empty.
pub record IsExpandable (rules : Rules) (trees : ScriptTrees) : Type 0 where
  pub profile : rules.guard.profile ≡ trees.header.profile
  pub heads : header_of (view trees.head) ≡ Some trees.header
  pub written : AllAt (IsLineIfWritten rules (settings_of trees.header)) 2 (lines_in trees)
  pub readable : All IsReadable (view trees.head ∷ lines_in trees)
  pub shallow : All (AreShallowAt rules) (fronts (lines_in trees))
  pub nonce : 1 ≤ length rules.nonce

-- the text is a script without fault, of the lines that the command makes, and within the bounds of scripts
pub record IsExpandedScript (rules : Rules) (trees : ScriptTrees) (text : List ℕ) : Type 0 where
  pub sound : HasNoFault plain_lines (input_of_text text)
  pub script : script_of false text ≡ Some (expanded_script rules trees)
  pub kept : IsScript (expanded_script rules trees)

abbrev pub TextsAreScripts : Type 0
TextsAreScripts =
    (rules : Rules) (trees : ScriptTrees) (text : Vec ℕ Global) → IsExpandable rules trees
    → IsExpanded rules (view trees.head) (lines_in trees) (Ok text) → IsExpandedScript rules trees text.items

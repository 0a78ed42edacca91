-- The script of an input without fault.
use Rattle.std.specs.Prelude.{ℕ, ◌+◌, List, [], ◌∷◌, length, Bool, true, false, if◌then◌else◌, Option, None, Some, option_map, option_and_then}
use Rattle.serde_json.specs.Data.{Data}
use Rattle.ev_io.specs.Lines.{lines_of}
use Rattle.ev_types.specs.Scripts.{ScriptParts}
use Rattle.ev_types.specs.declared.events.Line.{Line}
use Rattle.ev_types.specs.declared.events.Profile.{Profile}
use Rattle.ev_script.specs.declared.header.Header.{Header}
use Rattle.ev_script.specs.Members.{tree_of}
use Rattle.ev_script.specs.Header.{header_of}
use Rattle.ev_script.specs.Lines.{line_of}
use Rattle.ev_script.specs.Faults.{has_format}

-- the lines from this place on, where each is one
abbrev pub lines_from : Profile → ℕ → List (List ℕ) → Option (List Line)
lines_from profile at [] = Some []
lines_from profile at (text ∷ texts) = option_and_then
    (λ line. option_map (λ lines. line ∷ lines) (lines_from profile (at + 1) texts))
    (option_and_then (line_of profile at) (tree_of text))

-- the script of a header and the lines after it
abbrev pub script_made : Header → List Line → ScriptParts
script_made header lines = record {
  workers = header.workers;
  auto = header.auto;
  profile = header.profile;
  node = header.node;
  lines = lines;
  count = length lines + 1;
}

-- the script of a header and the texts of the other lines
abbrev pub script_with : List (List ℕ) → Header → Option ScriptParts
script_with texts header = option_map (script_made header) (lines_from header.profile 2 texts)

-- the script of the texts of all lines
abbrev pub script_from : List (List ℕ) → Option ScriptParts
script_from [] = None
script_from (first ∷ texts) = option_and_then (script_with texts) (option_and_then header_of (tree_of first))

-- the text of a line that begins a journal
abbrev pub begins_journal : Option Data → Bool
begins_journal None = false
begins_journal (Some tree) = has_format tree

-- the texts before the first that begins a journal
abbrev pub before_journal : List (List ℕ) → List (List ℕ)
before_journal [] = []
before_journal (text ∷ texts) = if begins_journal (tree_of text) then [] else text ∷ before_journal texts

-- the texts of a script's lines: in an audit's input those before the journal, which no first line begins
abbrev pub script_texts : Bool → List (List ℕ) → List (List ℕ)
script_texts false texts = texts
script_texts true [] = []
script_texts true (first ∷ texts) = first ∷ before_journal texts

-- the script that an input is, where it is one: of an audit's input the part before the journal
abbrev pub script_of : Bool → List ℕ → Option ScriptParts
script_of audit bytes = script_from (script_texts audit (lines_of bytes))

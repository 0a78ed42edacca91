-- Trees that are the lines of a script.
use Rattle.std.specs.Prelude.{◌≡◌, ℕ, ◌+◌, ◌<◌, List, ◌∷◌, length, slice_index_or, All, Some, option_map, true, false}
use Rattle.serde_json.specs.Data.{Data}
use Rattle.ev_types.specs.declared.events.Line.{Line}
use Rattle.ev_types.specs.declared.events.Profile.{Profile}
use Rattle.ev_script.specs.declared.header.Header.{Header}
use Rattle.ev_script.specs.Header.{header_of}
use Rattle.ev_script.specs.Lines.{line_of}
use Rattle.ev_script.specs.Content.{is_above}
use Rattle.ev_script.specs.Faults.{Input, worker_of, plain_lines, HasNoFault}
use Rattle.ev_script.specs.Script.{script_made, script_of}
use Rattle.ev_trees.specs.Trees.{text_of_trees, ReadsBack, AreWithinLimits}

-- Trees that are a script when they are written, a line each:
-- they are read back, the first is a header, and each other one, by its place,
-- a line of a worker below the header's count, where it is one of a worker.
pub record AreScript (header : Header) (lines : List Line) (head : Data) (trees : List Data) : Type 0 where
  pub read_back : All ReadsBack (head ∷ trees)
  pub limits : AreWithinLimits (head ∷ trees)
  pub heads : header_of head ≡ Some header
  pub count : length trees ≡ length lines
  pub says : (i : ℕ) (tree : Data) (line : Line) → i < length lines → line_of header.profile (i + 2) (slice_index_or trees i tree) ≡ Some (slice_index_or lines i line)
  pub below : All (λ line. is_above header.workers (worker_of line.actor) ≡ false) lines

-- the text of trees as a whole input
abbrev pub input_of_trees : List Data → Input
input_of_trees trees = record { bytes = text_of_trees trees; ended = true; audit = false }

-- the text of such trees is a script without fault, of the header and the lines that the trees say
abbrev pub TreesAreScript : Type 0
TreesAreScript =
    (header : Header) (lines : List Line) (head : Data) (trees : List Data) → AreScript header lines head trees
    → HasNoFault plain_lines (input_of_trees (head ∷ trees)) × (script_of false (text_of_trees (head ∷ trees)) ≡ Some (script_made header lines))

-- the line at another place
abbrev pub moved : ℕ → Line → Line
moved other line = record line { at = other }

-- by each profile a tree is the same line at any place
abbrev pub LinesMove : Type 0
LinesMove = (profile : Profile) (at other : ℕ) (tree : Data) → line_of profile other tree ≡ option_map (moved other) (line_of profile at tree)

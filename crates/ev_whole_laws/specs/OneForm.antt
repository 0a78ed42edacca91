-- What each form says of a tree it says of the tree with -1 for each float.
use Rattle.std.specs.Prelude.{◌≡◌, ℕ}
use Rattle.serde_json.specs.Data.{Data}
use Rattle.ev_types.specs.declared.events.Profile.{Profile}
use Rattle.ev_wire.specs.Responses.{response_of}
use Rattle.ev_script.specs.Faults.{has_format, plain_lines}
use Rattle.ev_script.specs.Header.{header_of}
use Rattle.ev_script.specs.Lines.{line_of}
use Rattle.ev_tree.specs.Floats.{whole}

-- every form that a line is read by, of either profile, says the same of both
pub record HasOneForm (tree : Data) : Type 0 where
  pub header : header_of (whole tree) ≡ header_of tree
  pub line : (profile : Profile) (at : ℕ) → line_of profile at (whole tree) ≡ line_of profile at tree
  pub response : (profile : Profile) → response_of profile (whole tree) ≡ response_of profile tree
  pub journal : has_format (whole tree) ≡ has_format tree
  pub heads : plain_lines.heads (whole tree) ≡ plain_lines.heads tree
  pub lines : (profile : Profile) (at : ℕ) → plain_lines.lines profile at (whole tree) ≡ plain_lines.lines profile at tree

abbrev pub NumbersHaveOneForm : Type 0
NumbersHaveOneForm = (tree : Data) → HasOneForm tree

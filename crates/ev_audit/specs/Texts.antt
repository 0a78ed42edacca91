-- The line that says what is found of a journal. This project's own.
use Rattle.std.specs.Prelude.{ℕ, List, [], ◌∷◌, ◌++◌, codes}
use Rattle.serde_json.specs.Data.{Data, number, unsigned, string, object, member, no_members}
use Rattle.serde_json.specs.Written.{compact_text}
use Rattle.ev_types.specs.declared.journals.Finding.{Finding}
use Rattle.ev_types.specs.declared.journals.Finding.TheVariants.{Legal, IllegalAt, NotTheScript}

-- the word of what is found of the row of this number
abbrev pub row_tree : ℕ → List ℕ → Data
row_tree entry word = object (member (codes "entry") (number (unsigned entry)) (member (codes "finding") (string word) no_members))

-- what is found, as data
abbrev pub finding_tree : Finding → Data
finding_tree Legal = object (member (codes "finding") (string (codes "legal")) no_members)
finding_tree (IllegalAt entry) = row_tree entry (codes "illegal")
finding_tree (NotTheScript entry) = row_tree entry (codes "notTheScript")

-- the line
unfoldable pub finding_text : Finding → List ℕ
finding_text finding = compact_text (finding_tree finding) ++ 10 ∷ []

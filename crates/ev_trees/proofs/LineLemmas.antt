-- The lines of the text of trees.
use Rattle.std.proofs.Common.{◌≡◌, ℕ, List, [], ◌∷◌, ◌++◌, refl, ap, ◌∙◌, append_assoc}
use Rattle.serde_json.specs.Data.{Data}
use Rattle.serde_json.specs.Written.{compact_text}
use Rattle.ev_io.specs.Lines.{lines_of}
use Rattle.ev_journal.specs.Rendering.{line_text}
use Rattle.ev_trees.specs.Trees.{text_of_trees, LinesOfTrees}
use Rattle.ev_trees.proofs.FeedLemmas.{NoFeed-compact_text, line_first}

-- a tree's line is the first
pub line_then : (tree : Data) (rest : List ℕ) → lines_of (line_text tree ++ rest) ≡ compact_text tree ∷ lines_of rest
unfolding line_text
line_then tree rest =
    ap lines_of (append_assoc (compact_text tree) (10 ∷ []) rest) ∙ line_first (compact_text tree) rest (NoFeed-compact_text tree)

-- a tree's line alone
pub line_alone : (tree : Data) → lines_of (line_text tree) ≡ compact_text tree ∷ []
unfolding line_text
line_alone tree = line_first (compact_text tree) [] (NoFeed-compact_text tree)

pub lines_are : LinesOfTrees
lines_are [] = refl
lines_are (tree ∷ trees) =
    line_then tree (text_of_trees trees) ∙ ap (λ (texts : List (List ℕ)). compact_text tree ∷ texts) (lines_are trees)

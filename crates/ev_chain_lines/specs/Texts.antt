-- The text that answers an input of filter chains: a line for each line after the first, and one with their number.
use Rattle.std.specs.Prelude.{◌≡◌, ℕ, ◌+◌, Bool, true, false, List, [], ◌∷◌, ◌++◌, length, codes, decimal}
use Rattle.serde_json.specs.Data.{Data, string, object, member, no_members}
use Rattle.ev_chains.specs.declared.changes.Changed.{Changed}
use Rattle.ev_chains.specs.declared.chains.ChainAnswer.{ChainAnswer}
use Rattle.ev_chains.specs.declared.chains.ChainAnswer.TheVariants.{InUse, NoChain, Chain}
use Rattle.ev_chains.specs.State.{opening}
use Rattle.ev_chains.specs.Steps.{Event, EventAnswer, Refused, Updated, Accepted, Closed, Drained, Reaped, answers_of}
use Rattle.ev_tree.specs.declared.outcome.ReadError.{ReadError}
use Rattle.ev_tree.specs.declared.outcome.ReadError.TheVariants.{Rule, OutOfMemory}
use Rattle.ev_journal.specs.Rendering.{number_tree, numbers_tree, end_tree, line_text}

-- what changed
abbrev pub changed_tree : Changed → Data
changed_tree changed = object
    (member (codes "drained") (numbers_tree changed.drained)
    (member (codes "kept") (numbers_tree changed.kept)
    (member (codes "made") (numbers_tree changed.made) no_members)))

-- which chain takes a connection
abbrev pub accepted_tree : ChainAnswer → Data
accepted_tree InUse = string (codes "inUse")
accepted_tree NoChain = string (codes "noChain")
accepted_tree (Chain number) = object (member (codes "chain") (number_tree number) no_members)

-- whether a connection was open
abbrev pub closed_tree : Bool → Data
closed_tree true = string (codes "done")
closed_tree false = string (codes "notOpen")

-- an answer; a rule is written as `V` and its number
abbrev pub answer_tree : EventAnswer → Data
answer_tree (Refused rule) = string (codes "V" ++ decimal rule)
answer_tree (Updated changed) = changed_tree changed
answer_tree (Accepted answer) = accepted_tree answer
answer_tree (Closed was_open) = closed_tree was_open
answer_tree (Drained conns) = object (member (codes "closed") (numbers_tree conns) no_members)
answer_tree (Reaped numbers) = object (member (codes "reaped") (numbers_tree numbers) no_members)

-- the answer to a listener that couldn't be read: the rule that refuses it. Without memory there is none.
abbrev pub IsRefusedBy : ReadError → Data → Type 0
IsRefusedBy (Rule rule) tree = tree ≡ answer_tree (Refused rule)
IsRefusedBy OutOfMemory tree = ⊥

-- the answer to a line of the input, by the answer's tree
abbrev pub line_tree : ℕ → Data → Data
line_tree at answer = object (member (codes "answer") answer (member (codes "at") (number_tree at) no_members))

abbrev pub answer_line : ℕ → EventAnswer → Data
answer_line at answer = line_tree at (answer_tree answer)

-- the text of answers to lines from this one on
abbrev pub text_from : ℕ → List EventAnswer → List ℕ
text_from at [] = []
text_from at (answer ∷ answers) = line_text (answer_line at answer) ++ text_from (at + 1) answers

-- the text that answers events
abbrev pub chains_text : List Event → List ℕ
chains_text events = text_from 2 (answers_of opening events) ++ line_text (end_tree (length events))

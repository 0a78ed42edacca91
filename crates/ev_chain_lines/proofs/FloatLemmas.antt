-- No answer has a float, so its text is that of its digits.
use Rattle.std.proofs.Common.{◌≡◌, ◌∙◌, ℕ, List, Bool, true, false, ◌||◌, refl, ap}
use Rattle.serde_json.specs.Data.{Data}
use Rattle.serde_json.specs.Written.{has_float}
use Rattle.ev_wire.proofs.RequestLemmas.{items_have_float-map}
use Rattle.ev_journal.specs.Rendering.{number_tree, numbers_tree}
use Rattle.ev_chains.specs.declared.chains.ChainAnswer.{ChainAnswer}
use Rattle.ev_chains.specs.declared.chains.ChainAnswer.TheVariants.{InUse, NoChain, Chain}
use Rattle.ev_chains.specs.Steps.{EventAnswer, Refused, Updated, Accepted, Closed, Drained, Reaped}
use Rattle.ev_chain_lines.specs.Texts.{accepted_tree, closed_tree, answer_tree, answer_line}

neither : (a b : Bool) → a ≡ false → b ≡ false → (a || b) ≡ false
neither a b h k = ap (λ c. c || b) h ∙ k

numbers_whole : (numbers : List ℕ) → has_float (numbers_tree numbers) ≡ false
numbers_whole numbers = items_have_float-map number_tree (λ _. refl) numbers

accepted_whole : (answer : ChainAnswer) → has_float (accepted_tree answer) ≡ false
accepted_whole InUse = refl
accepted_whole NoChain = refl
accepted_whole (Chain number) = refl

closed_whole : (was_open : Bool) → has_float (closed_tree was_open) ≡ false
closed_whole true = refl
closed_whole false = refl

answer_whole : (answer : EventAnswer) → has_float (answer_tree answer) ≡ false
answer_whole (Refused rule) = refl
answer_whole (Updated changed) = neither _ _ (numbers_whole changed.drained) (neither _ _ (numbers_whole changed.kept) (neither _ _ (numbers_whole changed.made) refl))
answer_whole (Accepted answer) = accepted_whole answer
answer_whole (Closed was_open) = closed_whole was_open
answer_whole (Drained conns) = neither _ _ (numbers_whole conns) refl
answer_whole (Reaped numbers) = neither _ _ (numbers_whole numbers) refl

pub line_whole : (at : ℕ) (answer : EventAnswer) (line : Data) → line ≡ answer_line at answer → has_float line ≡ false
line_whole at answer line is = ap has_float is ∙ neither _ _ (answer_whole answer) refl

-- One more line of the text that answers events.
use Rattle.std.proofs.Common.{◌≡◌, ◌∙◌, ℕ, ◌+◌, ◌-◌, ◌<◌, ◌≤◌, suc, List, ◌∷◌, ◌++◌, map, drop, length, get_or, IsTrue, sym, ap, append_assoc, add-one, arith}
use Rattle.std.specs.Prelude.{◌↔◌}
use Rattle.std.proofs.Math.Seq.{drop-cons}
use Rattle.std.proofs.lemmas.Bool.Decides.{nat_tests}
use lib.Dec.{leb}
use Rattle.serde_json.specs.Data.{Data}
use Rattle.ev_journal.specs.Rendering.{line_text}
use Rattle.ev_chains.specs.State.{ChainState}
use Rattle.ev_chains.specs.Steps.{Event, chain_step, answers_of}
use Rattle.ev_chain_lines.specs.Lines.{event_told}
use Rattle.ev_chain_lines.specs.Texts.{answer_line, text_from}

pub room_is : (n made : ℕ) → made < 4294967296 → IsTrue (leb n (4294967295 - made)) ↔ (made + n < 4294967296)
room_is n made fits = (
  λ h. let le : n ≤ 4294967295 - made = grind (arith, nat_tests) in omega arith,
  λ lt. let le : n ≤ 4294967295 - made = omega arith in grind (arith, nat_tests),
)

pub text_more : (events : List (List ℕ)) (i : ℕ) (event : List ℕ) (chains after : ChainState) (text new : List ℕ) (line : Data) (total : List ℕ)
    → i < length events → event ≡ get_or events i event
    → text ++ text_from (i + 2) (answers_of chains (map event_told (drop i events))) ≡ total
    → after ≡ (chain_step chains (event_told event)).0 → line ≡ answer_line (i + 2) (chain_step chains (event_told event)).1 → new ≡ text ++ line_text line
    → new ++ text_from (i + 1 + 2) (answers_of after (map event_told (drop (i + 1) events))) ≡ total
text_more events i event chains after text new line total lt at was is_after is_line is_new =
    let rest : List Event = map event_told (drop (suc i) events) in
    let step = chain_step chains (event_told event) in
    let front : drop i events ≡ event ∷ drop (suc i) events = drop-cons events i event lt ∙ ap (λ e. e ∷ drop (suc i) events) (sym at) in
    let next : i + 1 + 2 ≡ i + 2 + 1 = omega arith in
    let more : drop (i + 1) events ≡ drop (suc i) events = ap (λ n. drop n events) (add-one i) in
    (λ j. (is_new ∙ ap (λ l. text ++ line_text l) is_line) j ++ text_from (next j) (answers_of (is_after j) (map event_told (more j))))
    ∙ append_assoc text (line_text (answer_line (i + 2) step.1)) (text_from (i + 2 + 1) (answers_of step.0 rest))
    ∙ ap (λ es. text ++ text_from (i + 2) (answers_of chains (map event_told es))) (sym front)
    ∙ was

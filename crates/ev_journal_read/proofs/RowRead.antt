-- The tree of a row reads as the row that is meant by it.
use Rattle.std.proofs.Common.{◌≡◌, ℕ, List, map, Option, Some, option_map, option_and_then, codes, refl, ap}
use Rattle.std.specs.Prelude.{All}
use Rattle.serde_json.specs.Data.{array}
use Rattle.serde_json.specs.View.{items_of}
use Rattle.ev_types.specs.declared.events.Actor.{Actor}
use Rattle.ev_types.specs.declared.events.Op.{Op}
use Rattle.ev_types.specs.declared.events.Verdict.{Verdict}
use Rattle.ev_types.specs.declared.events.Answer.{Answer}
use Rattle.ev_types.specs.declared.events.Answer.TheVariants.{Ignored, Done, Moved, Replied, Version, Unchanged, Reaped, InUse, NoListener, NoChain, On, NotOpen, Settled}
use Rattle.ev_types.specs.declared.contents.Request.{Request}
use Rattle.ev_types.specs.declared.journals.Row.{Row}
use Rattle.ev_script.specs.Members.{member_of}
use Rattle.ev_wire.specs.Requests.{request_tree}
use Rattle.ev_journal.specs.Rendering.{number_tree, verdict_tree, answer_tree, row_tree, requests_tree, numbers_tree}
use Rattle.ev_journal.specs.Rows.{IsGeneration, IsVerdict, IsRequest, IsAnswer, IsRow, chosen_request, chosen_answer, chosen_row}
use Rattle.ev_journal_read.specs.Trees.{number32, generation_of, list_of, request_of, verdict_of, answer_of, actor_of, op_of, head_with, head_of, row_with, row_of}
use Rattle.ev_journal_read.proofs.WordLemmas.{actor_named-text, op_named-text, verdict_named-text}
use Rattle.ev_journal_read.proofs.PartLemmas.{number32-tree, number64-tree, generation_of-tree, list_of-map, list_of-same}
use Rattle.ev_journal_read.proofs.RequestRead.{request_read}
use Rattle.ev_journal_read.proofs.TakenRead.{taken_read, settled_read}

requests_read : (requests : List Request) → All IsRequest requests → list_of request_of (requests_tree requests) ≡ Some (map chosen_request requests)
requests_read requests h = list_of-map IsRequest request_of request_tree chosen_request request_read requests h

verdicts_read : (verdicts : List Verdict) → All IsVerdict verdicts → list_of verdict_of (array (items_of (map verdict_tree verdicts))) ≡ Some verdicts
verdicts_read verdicts h = list_of-same IsVerdict verdict_of verdict_tree verdict_named-text verdicts h

generations_read : (numbers : List ℕ) → All IsGeneration numbers → list_of generation_of (numbers_tree numbers) ≡ Some numbers
generations_read numbers h = list_of-same IsGeneration generation_of number_tree generation_of-tree numbers h

-- two parts that are read, put together
two : {A B C : Type 0} (f : A → B → C) (a : Option A) (b : Option B) (x : A) (y : B) → a ≡ Some x → b ≡ Some y
    → option_and_then (λ one. option_map (λ another. f one another) b) a ≡ Some (f x y)
two f a b x y p q = rw (p, q) refl

answer_read : (answer : Answer) → IsAnswer answer → answer_of (answer_tree answer) ≡ Some (chosen_answer answer)
unfolding answer_of
answer_read Ignored h = refl
answer_read Done h = refl
answer_read (Moved requests) h = ap (option_map Moved) (requests_read requests h)
answer_read (Replied requests verdicts) h = two Replied _ _ (map chosen_request requests) verdicts (requests_read requests h.0) (verdicts_read verdicts h.1)
answer_read (Version version) h = ap (option_map Version) (number64-tree version h)
answer_read Unchanged h = refl
answer_read (Reaped numbers) h = ap (option_map Reaped) (generations_read numbers h)
answer_read InUse h = refl
answer_read NoListener h = refl
answer_read NoChain h = refl
answer_read (On listener chain way) h = taken_read listener chain way h.0 h.1 h.2
answer_read NotOpen h = refl
answer_read (Settled closed moved version) h = settled_read closed moved version h.0 h.1 h.2

head_from : (who : Option Actor) (at step : Option ℕ) (op : Option Op) (w : Actor) (a s : ℕ) (o : Op) → who ≡ Some w → at ≡ Some a → step ≡ Some s → op ≡ Some o
    → option_and_then (λ who. option_and_then (λ at. option_and_then (λ step. option_map (λ op. head_with who at step op) op) step) at) who ≡ Some (head_with w a s o)
head_from who at step op w a s o p q r t = rw (p, q, r, t) refl

head_read : (row : Row) → IsRow row → head_of (row_tree row) ≡ Some (head_with row.actor row.at row.step row.op)
unfolding head_of
head_read row h =
    head_from (actor_of (row_tree row)) (member_of number32 (codes "at") (row_tree row)) (member_of number32 (codes "step") (row_tree row)) (op_of (row_tree row))
    row.actor row.at row.step row.op (actor_named-text row.actor h.actor) (number32-tree row.at h.at) (number32-tree row.step h.step) (op_named-text row.op)

-- a row's tree is read as the row that is meant
pub row_read : (row : Row) → IsRow row → row_of (row_tree row) ≡ Some (chosen_row row)
unfolding row_of
row_read row h = two row_with _ _ (head_with row.actor row.at row.step row.op) (chosen_answer row.answer) (head_read row h) (answer_read row.answer h.answer)

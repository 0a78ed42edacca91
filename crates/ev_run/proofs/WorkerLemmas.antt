-- A settle and a line of a worker, as what it has gone through.
use Rattle.std.proofs.Common.{◌≡◌, ℕ, ◌++◌, Bool, true, false, [], ◌∷◌, refl, ap, sym, ◌∙◌, subst}
use Rattle.ev_types.specs.Events.{MayMake}
use Rattle.ev_types.specs.Scripts.{ScriptParts}
use Rattle.ev_types.specs.declared.events.Actor.{Actor}
use Rattle.ev_types.specs.declared.events.Actor.TheVariants.{Worker}
use Rattle.ev_types.specs.declared.events.Event.{Event}
use Rattle.ev_types.specs.declared.events.Event.TheVariants.{Settle}
use Rattle.ev_types.specs.declared.events.Line.{Line}
use Rattle.ev_model.specs.Runs.{is_batched}
use Rattle.ev_model.specs.Operations.{is_settle, line_operation}
use Rattle.ev_worker.specs.Workers.{WorkerParts}
use Rattle.ev_actors.specs.Journals.{JournalParts}
use Rattle.ev_actors.specs.Taken.{HasJoined}
use Rattle.ev_actors.specs.Working.{operations_made}
use Rattle.ev_actors.proofs.LineLemmas.{settle_is, worker_settles}
use Rattle.ev_commits.specs.Seen.{HasCommitted, IsLeftOut, LearnsAtRest}
use Rattle.ev_run.specs.Acting.{GoesThrough, settle_of}
use Rattle.ev_run.proofs.WorkLemmas.{commits, joins, leaves_out}

-- a settle is made or left out
module _ (script : ScriptParts) (at n : ℕ) (before after heard : JournalParts) (old new : WorkerParts) where
  pub settle_goes : (made : Bool) → (made ≡ true → LearnsAtRest after old) → (made ≡ true → HasCommitted at n before after old new)
      → (made ≡ false → IsLeftOut before after heard old new) → GoesThrough script (settle_of old at n) before after old new
  settle_goes true learns made out = λ left was. commits script old new at n left before after was (made refl) (learns refl)
  settle_goes false learns made out = λ left was. leaves_out script old new at n left before after was heard (out refl)

-- a settle line is the worker's settle
pub settle_line : (worker : WorkerParts) (line : Line) → line.actor ≡ Worker worker.number → is_settle line.event ≡ true
    → settle_of worker line.at 0 ≡ line_operation line
settle_line worker line own is =
    ap (λ (a : Actor). record { actor = a; at = line.at; step = 0; event = Settle }) (sym own)
    ∙ ap (λ (e : Event). record { actor = line.actor; at = line.at; step = 0; event = e }) (sym (settle_is line.event is))

-- a line of a worker that is no accept or close is a settle
pub line_settles : (workers worker : ℕ) (line : Line) → line.actor ≡ Worker worker → MayMake workers line.actor line.event → is_batched line.event ≡ false
    → is_settle line.event ≡ true
line_settles workers worker line own may other = worker_settles workers worker line.event (subst (λ a. MayMake workers a line.event) own may) other

-- an accept or close has gone through once it joined the batch
pub joined_goes : (script : ScriptParts) (line : Line) (parts : JournalParts) (old new : WorkerParts) → line.actor ≡ Worker old.number → is_batched line.event ≡ true
    → HasJoined line old new → GoesThrough script (line_operation line) parts parts old new
joined_goes script line parts old new own batched joined = λ left was.
    joins script old new (line_operation line) left parts was batched joined.number joined.picture joined.longer
    (joined.made ∙ ap (λ (a : Actor). operations_made old ++ record { actor = a; at = line.at; step = 0; event = line.event } ∷ []) (sym own)) joined.from

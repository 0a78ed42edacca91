use Rattle.std.proofs.Common.{◌≡◌, ◌≤◌, ◌<◌, ◌↔◌, ◌==◌, IsTrue, ℕ, Bool, true, false, length, ap, sym, ◌∙◌, subst, arith}
use Rattle.std.proofs.lemmas.Bool.{both_ways}
use Rattle.std.proofs.lemmas.Bool.Decides.{nat_tests}
use Rattle.std.proofs.lemmas.List.{length-map}
use Rattle.std.proofs.lemmas.Result.{IfOk-weaker}
use Rattle.ev_types.specs.Events.{MayMake}
use Rattle.ev_types.specs.declared.events.Actor.TheVariants.{Worker}
use Rattle.ev_types.specs.declared.events.Line.{Line}
use Rattle.ev_model.specs.Runs.{is_batched}
use Rattle.ev_model.specs.Operations.{is_settle}
use Rattle.ev_worker.specs.Workers.{WorkerParts}
use Rattle.ev_actors.specs.Taken.{HasSettled, HasWorked}
use Rattle.ev_actors.specs.Working.{operation_made, operations_made}
use Rattle.ev_actors.proofs.LineLemmas.{few_works, full_works, settle_works, worker_settles, worker_below}
use Rattle.ev_actors.proofs.steps.worker_line.Goals as goal

below : (workers number : ℕ) (line : Line) → line.actor ≡ Worker number → MayMake workers line.actor line.event → number < workers
below workers number line own may = worker_below workers number line.event (subst (λ a. MayMake workers a line.event) own may)

settles : (workers number : ℕ) (line : Line) → line.actor ≡ Worker number → MayMake workers line.actor line.event → is_batched line.event ≡ false → is_settle line.event ≡ true
settles workers number line own may h = worker_settles workers number line.event (subst (λ a. MayMake workers a line.event) own may) h

full_by : (worker : WorkerParts) (full : Bool) → IsTrue full ↔ (length worker.lines ≡ 256) → full ≡ true → (length (operations_made worker) == 256) ≡ true
full_by worker full says is =
    ap (λ n. n == 256) (length-map worker.lines (operation_made worker.number) ∙ says.0 is)

not_full : (n : ℕ) → n < 256 → (n == 256) ≡ false
not_full n h = grind (arith, nat_tests)

few_by : (worker : WorkerParts) (full : Bool) → IsTrue full ↔ (length worker.lines ≡ 256) → length worker.lines ≤ 256 → full ≡ false → length worker.lines < 256
few_by worker full says most is =
    let no : length worker.lines ≡ 256 → ⊥ = λ same. both_ways full is (says.1 same) in
    omega (arith, no)

pub returns-then-not-joined-clause-worked : goal.returns-then-not-joined-clause-worked
returns-then-not-joined-clause-worked g c =
    let other : is_batched c.args.line.now.event ≡ false = sym c.in_ok-joined.ensures.answer ∙ c.if-not-joined.true in
    IfOk-weaker c.settle.result
    (λ u. HasSettled c.args.line.now.at 0 (g.R.Journaled.shows c.args.journaled.now) (g.R.Journaled.shows c.settle.new.journaled) c.join.new.worker c.settle.new.worker)
    (λ u. HasWorked c.args.line.now (g.R.Journaled.shows c.args.journaled.now) (g.R.Journaled.shows c.settle.new.journaled) c.args.worker.now c.settle.new.worker)
    (λ u settled.
    settle_works c.args.line.now (g.R.Journaled.shows c.args.journaled.now) (g.R.Journaled.shows c.settle.new.journaled) c.args.worker.now c.settle.new.worker
    c.requires.own c.requires.working.works
    (below (g.R.Journaled.shows c.args.journaled.now).workers c.args.worker.now.number c.args.line.now c.requires.own c.requires.allowed)
    (settles (g.R.Journaled.shows c.args.journaled.now).workers c.args.worker.now.number c.args.line.now c.requires.own c.requires.allowed other)
    (subst (λ (w : WorkerParts). HasSettled c.args.line.now.at 0 (g.R.Journaled.shows c.args.journaled.now) (g.R.Journaled.shows c.settle.new.journaled) w c.settle.new.worker)
    (c.join.ensures.other other) settled))
    c.settle.ensures.settled

pub returns-then-full-clause-worked : goal.returns-then-full-clause-worked
returns-then-full-clause-worked g c =
    IfOk-weaker c.settle-then-full.result
    (λ u. HasSettled c.args.line.now.at 1 (g.R.Journaled.shows c.args.journaled.now) (g.R.Journaled.shows c.settle-then-full.new.journaled) c.join.new.worker c.settle-then-full.new.worker)
    (λ u. HasWorked c.args.line.now (g.R.Journaled.shows c.args.journaled.now) (g.R.Journaled.shows c.settle-then-full.new.journaled) c.args.worker.now c.settle-then-full.new.worker)
    (λ u settled.
    full_works c.args.line.now (g.R.Journaled.shows c.args.journaled.now) (g.R.Journaled.shows c.settle-then-full.new.journaled) c.args.worker.now c.settle-then-full.new.worker
    c.requires.own c.requires.working.works
    (below (g.R.Journaled.shows c.args.journaled.now).workers c.args.worker.now.number c.args.line.now c.requires.own c.requires.allowed)
    c.join.new.worker
    (sym c.in_ok-joined.ensures.answer ∙ c.if-not-joined.false)
    (c.in_ok-joined.ensures.joined (sym c.in_ok-joined.ensures.answer ∙ c.if-not-joined.false))
    (full_by c.join.new.worker c.is_full-full.result c.is_full-full.ensures.full c.if-full.true) settled)
    c.settle-then-full.ensures.settled

pub returns-else-full-clause-worked : goal.returns-else-full-clause-worked
returns-else-full-clause-worked g c =
    let few : length c.join.new.worker.lines < 256 = few_by c.join.new.worker c.is_full-full.result c.is_full-full.ensures.full c.is_full-full.ensures.few c.if-full.false in
    few_works c.args.line.now (g.R.Journaled.shows c.args.journaled.now) (g.R.Journaled.shows c.args.journaled.now) c.args.worker.now c.join.new.worker
    c.requires.own c.requires.working.works
    (below (g.R.Journaled.shows c.args.journaled.now).workers c.args.worker.now.number c.args.line.now c.requires.own c.requires.allowed)
    c.join.new.worker
    (sym c.in_ok-joined.ensures.answer ∙ c.if-not-joined.false)
    (c.in_ok-joined.ensures.joined (sym c.in_ok-joined.ensures.answer ∙ c.if-not-joined.false))
    (ap (λ n. n == 256) (length-map c.join.new.worker.lines (operation_made c.join.new.worker.number)) ∙ not_full (length c.join.new.worker.lines) few) few

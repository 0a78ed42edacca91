use Rattle.std.proofs.Common.{◌≡◌, ◌∙◌, Bool, true, false, cond, sym, refl, None}
use Rattle.ev_types.specs.Statuses.{is_live}
use Rattle.ev_types.specs.declared.rows.RowStatus.TheVariants.{Draining, Dropped}
use Rattle.ev_model.specs.Rows.{removed_status}
use Rattle.ev_indexes.specs.Tables.{with_status}
use Rattle.ev_indexes.specs.Standings.{standing_in}
use Rattle.ev_indexes.specs.Indexes.{is_of, status_in}
use Rattle.ev_warming.proofs.IndexLemmas.{named-live, removed_status-live, indexed-retired}
use Rattle.ev_warming.proofs.changes.retire.Goals as goal

ended : (b : Bool) → is_live (cond b Dropped Draining) ≡ false
ended true = refl
ended false = refl

pub set-requires : goal.set-requires
set-requires g c =
    named-live c.args.state.now c.args.number c.in-Some.row.now c.requires.indexed (sym c.in-Some.ensures.row)
    ((λ i. is_live (status_in (c.in-Some.ensures.row i))) ∙ c.requires.live)

pub returns-clause-rows : goal.returns-clause-rows
returns-clause-rows g c =
    let live = (λ i. is_live (status_in (c.in-Some.ensures.row i))) ∙ c.requires.live in
    c.gone.ensures.rows
    ∙ (λ i. with_status c.args.number (cond (c.is_warming-warms.ensures i) Dropped Draining) c.args.state.now.table.rows)
    ∙ (λ i. with_status c.args.number (removed_status-live c.in-Some.row.now.status live i) c.args.state.now.table.rows)
    ∙ (λ i. with_status c.args.number (removed_status (status_in (c.in-Some.ensures.row i))) c.args.state.now.table.rows)

pub returns-clause-indexed : goal.returns-clause-indexed
returns-clause-indexed g c =
    let s = c.args.state.now in
    let row = c.in-Some.row.now in
    let warms = c.is_warming-warms.result in
    let live = (λ i. is_live (status_in (c.in-Some.ensures.row i))) ∙ c.requires.live in
    let left = c.left.ensures ∙ (λ i. cond (c.is_warming-warms.ensures i) (record (c.standing-standing.ensures i) { warming = None }) (record (c.standing-standing.ensures i) { active = None })) in
    indexed-retired s c.args.number row (cond warms Dropped Draining) c.requires.indexed (sym c.in-Some.ensures.row) c.gone.new.self c.gone.ensures.rows c.gone.ensures.made
    live (ended warms) c.set.new.self c.unwatch.new.watches c.release.new.self c.leave.new.self
    (λ q. c.set.ensures q ∙ (λ i. cond (is_of q row) (left i) (standing_in s.names q)))
    c.unwatch.ensures c.release.ensures c.leave.ensures.left

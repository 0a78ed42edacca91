use Rattle.std.proofs.Common.{ℕ, Option, sym, subst, option_to_list}
use Rattle.ev_warming.specs.Health.{NotesEach}
use Rattle.ev_warming.proofs.HealthLemmas.{indexed-noted, marks-own, notes-one}
use Rattle.ev_warming.proofs.health.note_at.Goals as goal

pub returns-clause-indexed : goal.returns-clause-indexed
returns-clause-indexed g c =
    let s = c.args.state.now in
    indexed-noted s c.in-Some.number c.in-Some-row.row.now c.args.host.now c.args.healthy c.keep.new.results c.refresh.new.due c.requires.indexed (sym c.in-Some-row.ensures.row)
    c.in_ok-keep.ensures.results c.in_ok-keep.ensures.marked c.in_ok-refresh.ensures.due

pub returns-clause-results : goal.returns-clause-results
returns-clause-results g c =
    subst (λ (o : Option ℕ). NotesEach c.args.state.now.results c.keep.new.results (option_to_list o) c.args.host.now c.args.healthy) (sym c.in-Some.is)
    (notes-one c.args.state.now.results c.keep.new.results c.in-Some.number c.args.host.now c.args.healthy c.in_ok-keep.ensures.results)

pub returns-clause-marked : goal.returns-clause-marked
returns-clause-marked g c =
    marks-own c.args.state.now c.in-Some.number c.in-Some-row.row.now c.keep.new.results c.refresh.new.due (sym c.in-Some-row.ensures.row) c.in_ok-keep.ensures.marked

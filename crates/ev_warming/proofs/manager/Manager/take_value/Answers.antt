use Rattle.std.proofs.Common.{List, ℕ, refl, sym, subst}
use Rattle.std.specs.List.{list_any}
use Rattle.ev_types.specs.declared.rows.Arrival.TheVariants.{Bad}
use Rattle.ev_model.specs.Rows.{add_item}
use Rattle.ev_lookups.specs.Keys.{named}
use Rattle.ev_indexes.specs.Indexes.{depends_on}
use Rattle.ev_indexes.specs.Worlds.{HasRows}
use Rattle.ev_warming.specs.Arrivals.{told_where}
use Rattle.ev_warming.proofs.IndexLemmas.{on_ok}
use Rattle.ev_warming.proofs.AbsenceLemmas.{refusal-stands}
use Rattle.ev_warming.proofs.ItemLemmas.{idle-stands}
use Rattle.ev_warming.proofs.manager.Manager.take_value.Goals as goal

pub returns-in-Refused-clause-stands : goal.returns-in-Refused-clause-stands
returns-in-Refused-clause-stands g c =
    let s = c.args.self.now.state in
    let t = c.tell.new.self.state in
    let item = c.args.item.now in
    on_ok c.tell.result c.tell.ensures.stands (λ step world stands.
    subst (HasRows t) (λ i. add_item c.args.kind (sym c.in-Refused.is i) item world)
    (refusal-stands s t world c.args.kind item.name c.requires.by_name stands
    (subst (λ (name : List ℕ). HasRows t (told_where (list_any (depends_on (named c.args.kind name)) s.table.rows) c.args.kind Bad name world)) (λ i. (c.item.view_is i).name) (step world stands))))

pub returns-in_default : goal.returns-in_default
returns-in_default g c =
    let s = c.args.self.now.state in
    record {
      kept = c.requires.kept;
      table = refl;
      stands = λ world stands.
          idle-stands s world c.args.kind c.args.verdict.now (list_any (depends_on (named c.args.kind c.args.item.now.name)) s.table.rows) c.args.item.now c.requires.on_value
          c.in_default.not-Kept c.in_default.not-Refused stands;
    }

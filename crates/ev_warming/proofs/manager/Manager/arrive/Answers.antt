use Rattle.std.proofs.Common.{◌≡◌, ◌∙◌, ◌++◌, true, List, sym, subst}
use Rattle.std.specs.List.{list_any, AllByRecursion}
use Rattle.ev_types.specs.declared.rows.GenRow.{GenRow}
use Rattle.ev_model.specs.Watching.{dependencies_of}
use Rattle.ev_lookups.specs.Keys.{named}
use Rattle.ev_indexes.specs.declared.state.State.{State}
use Rattle.ev_indexes.specs.Watched.{watch_in, watchers_of}
use Rattle.ev_indexes.specs.Indexes.{IsIndexed, depends_on}
use Rattle.ev_indexes.specs.Needs.{HaveNames}
use Rattle.ev_warming.specs.Forgetting.{IsTidyBut}
use Rattle.ev_warming.proofs.AddedLemmas.{on_ok4}
use Rattle.ev_warming.proofs.TidyLemmas.{tidy-arrived}
use Rattle.ev_warming.proofs.manager.Manager.arrive.Goals as goal

pub returns-clause-kept : goal.returns-clause-kept
returns-clause-kept g c =
    let m = c.args.self.now in
    let key = named c.args.kind c.args.name.now in
    let s = c.touch.new.self.state in
    let t = c.arrive.new.state in
    let e = c.in_ok-touch.ensures in
    let indexed : IsIndexed s = subst IsIndexed (λ i. (sym e i).state) c.requires.kept.indexed in
    let watched : list_any (depends_on key) s.table.rows ≡ true = (λ i. list_any (depends_on key) (e i).state.table.rows) ∙ c.requires.watched in
    let tidy : IsTidyBut s m.stale = subst (λ (u : State). IsTidyBut u m.stale) (λ i. (sym e i).state) c.requires.kept.tidy in
    on_ok4 c.arrive.result c.arrive.ensures.indexed c.arrive.ensures.told c.arrive.ensures.others c.arrive.ensures.steps (λ after told others steps. record {
      indexed = after;
      needs = subst (λ (rows : List GenRow). AllByRecursion (λ (r : GenRow). HaveNames (dependencies_of r.content)) rows) (sym ((λ i. (others i).table.rows) ∙ (λ i. (e i).state.table.rows))) c.requires.kept.needs;
      tidy = subst (IsTidyBut t) ((λ i. m.stale ++ watchers_of (watch_in (e i).state.watches key)) ∙ sym (λ i. (e i).stale))
          (tidy-arrived s t key s.table.made c.args.arrival.now m.stale indexed watched (λ i. (others i).table) told (λ i. (others i).results) tidy);
    })

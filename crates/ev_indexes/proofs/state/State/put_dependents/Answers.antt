use Rattle.std.proofs.Common.{◌∙◌, ◌++◌, Some, None, sym, ap, append-nil}
use Rattle.std.proofs.lemmas.Result.{on_ok_weaker}
use Rattle.ev_lookups.specs.Keys.{named}
use Rattle.ev_indexes.proofs.ReadLemmas.{watchers-found}
use Rattle.ev_indexes.proofs.state.State.put_dependents.Goals as goal

pub returns-in-Some : goal.returns-in-Some
returns-in-Some c =
    on_ok_weaker c.put_watchers.result
    (λ put. put ∙ ap (λ ns. c.args.numbers.now ++ ns) (watchers-found c.args.self.now c.requires.indexed (named c.args.kind c.args.name.now) (Some c.in-Some.watch.now) (sym c.in-Some.ensures)))
    c.put_watchers.ensures

pub returns-in-None : goal.returns-in-None
returns-in-None c =
    sym (append-nil c.args.numbers.now)
    ∙ ap (λ ns. c.args.numbers.now ++ ns) (watchers-found c.args.self.now c.requires.indexed (named c.args.kind c.args.name.now) None (sym c.in-None.ensures))

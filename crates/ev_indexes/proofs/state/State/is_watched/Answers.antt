use Rattle.std.proofs.Common.{◌∙◌, Some, None, sym}
use Rattle.ev_lookups.specs.Keys.{named}
use Rattle.ev_indexes.proofs.ReadLemmas.{watcher-found, watched-world}
use Rattle.ev_indexes.proofs.state.State.is_watched.Goals as goal

pub returns-in-Some-clause-rows : goal.returns-in-Some-clause-rows
returns-in-Some-clause-rows c = c.has_watcher.ensures ∙ watcher-found c.args.self.now c.requires.indexed (named c.args.kind c.args.name.now) (Some c.in-Some.watch.now) (sym c.in-Some.ensures)

pub returns-in-Some-clause-world : goal.returns-in-Some-clause-world
returns-in-Some-clause-world c = λ world stands.
    c.has_watcher.ensures ∙ watcher-found c.args.self.now c.requires.indexed (named c.args.kind c.args.name.now) (Some c.in-Some.watch.now) (sym c.in-Some.ensures)
    ∙ watched-world c.args.self.now world stands (named c.args.kind c.args.name.now)

pub returns-in-None-clause-rows : goal.returns-in-None-clause-rows
returns-in-None-clause-rows c = watcher-found c.args.self.now c.requires.indexed (named c.args.kind c.args.name.now) None (sym c.in-None.ensures)

pub returns-in-None-clause-world : goal.returns-in-None-clause-world
returns-in-None-clause-world c = λ world stands.
    watcher-found c.args.self.now c.requires.indexed (named c.args.kind c.args.name.now) None (sym c.in-None.ensures) ∙ watched-world c.args.self.now world stands (named c.args.kind c.args.name.now)

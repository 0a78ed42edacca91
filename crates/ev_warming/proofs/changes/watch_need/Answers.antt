use Rattle.std.proofs.Common.{◌∙◌, cond}
use Rattle.ev_lookups.specs.Keys.{key_same}
use Rattle.ev_indexes.specs.Needs.{key_of}
use Rattle.ev_indexes.specs.Watched.{watch_in, watched_too}
use Rattle.ev_warming.proofs.IndexLemmas.{on_ok}
use Rattle.ev_warming.proofs.StepLemmas.{watched-one}
use Rattle.ev_warming.proofs.changes.watch_need.Goals as goal

pub returns-clause-watched : goal.returns-clause-watched
returns-clause-watched c =
    let old = c.args.watches.now in
    on_ok c.watch.result c.watch.ensures (λ turned q.
    turned q
    ∙ (λ i. cond (key_same (key_of (c.need.view_is i)) q) (watched_too c.args.number (c.need.view_is i).limited (watch_in old (key_of (c.need.view_is i)))) (watch_in old q))
    ∙ watched-one c.args.number c.args.need.now q old)

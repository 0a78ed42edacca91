use Rattle.std.proofs.Common.{◌∙◌, cond}
use Rattle.ev_lookups.specs.Keys.{key_same}
use Rattle.ev_indexes.specs.Needs.{key_of}
use Rattle.ev_indexes.specs.Watched.{watch_in, watched_less}
use Rattle.ev_warming.proofs.StepLemmas.{unwatched-one}
use Rattle.ev_warming.proofs.changes.unwatch_need.Goals as goal

pub returns : goal.returns
returns c = λ q.
    let old = c.args.watches.now in
    c.unwatch.ensures q
    ∙ (λ i. cond (key_same (key_of (c.need.view_is i)) q) (watched_less c.args.number (watch_in old (key_of (c.need.view_is i)))) (watch_in old q))
    ∙ unwatched-one c.args.number c.args.need.now q old

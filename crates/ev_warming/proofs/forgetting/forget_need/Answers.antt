use Rattle.std.proofs.Common.{◌∙◌, ◌&&◌, not, cond, sym}
use Rattle.std.proofs.Math.Bool.{or-false}
use Rattle.ev_indexes.specs.Needs.{is_on}
use Rattle.ev_indexes.specs.Watched.{unwatched, watch_in, has_watcher}
use Rattle.ev_warming.proofs.forgetting.forget_need.Goals as goal

pub returns : goal.returns
returns c = λ q.
    let old = watch_in c.args.watches.now q in
    c.forget_idle.ensures q
    ∙ (λ i. cond (is_on q (c.need.view_is i) && not (has_watcher old)) unwatched old)
    ∙ (λ i. cond (sym (or-false (is_on q c.args.need.now)) i && not (has_watcher old)) unwatched old)

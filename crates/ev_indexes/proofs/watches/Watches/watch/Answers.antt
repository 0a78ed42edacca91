use Rattle.std.proofs.Common.{◌∙◌, Some, cond, sym}
use Rattle.std.proofs.lemmas.Result.{on_ok_weaker}
use Rattle.ev_lookups.specs.Keys.{key_same}
use Rattle.ev_indexes.specs.Kept.{kept_at}
use Rattle.ev_indexes.specs.Watched.{unwatched, watched_too}
use Rattle.ev_indexes.proofs.KeptLemmas.{kept_at-found, kept_at-written}
use Rattle.ev_indexes.proofs.watches.Watches.watch.Goals as goal

pub returns : goal.returns
returns c =
    let kept = c.self.inside.watches.entries in
    let watch = c.in-Some.watch.now in
    let found = sym c.in-Some.ensures.value in
    on_ok_weaker c.add.result
    (λ is q.
    (λ i. kept_at unwatched ((c.get_mut.follows.holds c.add.new.watch).0 i) q)
    ∙ kept_at-written unwatched kept c.key.result watch c.add.new.watch found q
    ∙ (λ i. cond (key_same c.key.result q) (is i) (kept_at unwatched kept q))
    ∙ (λ i. cond (key_same c.key.result q) (watched_too c.args.number c.args.limited (sym (kept_at-found unwatched kept c.key.result (Some watch) found) i)) (kept_at unwatched kept q))
    ∙ (λ i. cond (key_same (c.key.ensures i) q) (watched_too c.args.number c.args.limited (kept_at unwatched (c.self.view_is i) (c.key.ensures i))) (kept_at unwatched (c.self.view_is i) q)))
    c.add.ensures.ok

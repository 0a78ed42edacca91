use Rattle.std.proofs.Common.{◌∙◌, cond}
use Rattle.ev_lookups.specs.Keys.{key_same}
use Rattle.ev_indexes.specs.Kept.{kept_at}
use Rattle.ev_indexes.specs.Watched.{unwatched}
use Rattle.ev_indexes.proofs.KeptLemmas.{no_default-removed, sets-removed}
use Rattle.ev_indexes.proofs.watches.Watches.forget.Goals as goal

pub returns : goal.returns
returns c = λ q.
    sets-removed unwatched c.self.inside.watches.entries c.take_out.new.watches.entries c.key.result c.take_out.ensures q
    ∙ (λ i. cond (key_same (c.key.ensures i) q) unwatched (kept_at unwatched (c.self.view_is i) q))

pub invariant_of-self : goal.invariant_of-self
invariant_of-self c =
    no_default-removed unwatched c.self.inside.watches.entries c.take_out.new.watches.entries c.key.result c.take_out.ensures c.self.invariant

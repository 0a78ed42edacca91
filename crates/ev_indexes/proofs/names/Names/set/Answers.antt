use Rattle.std.proofs.Common.{◌∙◌, cond, sym}
use Rattle.ev_lookups.specs.Keys.{key_same}
use Rattle.ev_indexes.specs.Kept.{kept_at}
use Rattle.ev_indexes.specs.Standings.{nobody}
use Rattle.ev_indexes.proofs.KeptLemmas.{sets-removed}
use Rattle.ev_indexes.proofs.names.Names.set.Goals as goal

pub returns-then-is_nobody : goal.returns-then-is_nobody
returns-then-is_nobody c = λ q.
    sets-removed nobody c.self.inside.names.entries c.swap_remove.new.self.entries c.key-key.result (λ k. c.swap_remove.ensures.updates.0 k) q
    ∙ (λ i. cond (key_same (c.key-key.ensures i) q) (sym (c.is_nobody.ensures.0 c.if-is_nobody.true) i) (kept_at nobody (c.self.view_is i) q))

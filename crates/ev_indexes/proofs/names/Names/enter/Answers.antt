use Rattle.std.proofs.Common.{◌∙◌, cond, sym}
use Rattle.ev_lookups.specs.Keys.{key_same, named}
use Rattle.ev_indexes.specs.Kept.{kept_at}
use Rattle.ev_indexes.specs.Standings.{nobody}
use Rattle.ev_indexes.proofs.KeptLemmas.{sets-removed}
use Rattle.ev_indexes.proofs.names.Names.enter.Goals as goal

pub returns-then-is_nobody-clause-ok : goal.returns-then-is_nobody-clause-ok
returns-then-is_nobody-clause-ok c = λ q.
    sets-removed nobody c.self.inside.names.entries c.swap_remove.new.self.entries (named c.args.kind c.args.name) (λ k. c.swap_remove.ensures.updates.0 k) q
    ∙ (λ i. cond (key_same (named c.args.kind c.args.name) q) (sym (c.is_nobody.ensures.0 c.if-is_nobody.true) i) (kept_at nobody (c.self.view_is i) q))

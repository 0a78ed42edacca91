use Rattle.std.proofs.Common.{subst}
use Rattle.ev_warming.specs.Worlds.{Follows, with_generation}
use Rattle.ev_warming.proofs.IndexLemmas.{on_ok}
use Rattle.ev_warming.proofs.manager.Manager.make_in_place.Goals as goal

pub returns-clause-stands : goal.returns-clause-stands
returns-clause-stands g c =
    on_ok c.make.result c.make.ensures.stands (λ step.
    subst (λ chains. Follows c.args.self.now.state c.make.new.self.state (with_generation c.args.kind c.args.name c.args.content.now chains)) c.in_ok-chains.ensures step)

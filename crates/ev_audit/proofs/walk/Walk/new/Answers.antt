use Rattle.std.proofs.Common.{None, refl, subst}
use Rattle.ev_types.specs.Scripts.{ScriptParts}
use Rattle.ev_model.specs.World.{opening}
use Rattle.ev_proxy.specs.Proxies.{IsAt}
use Rattle.ev_audit.proofs.WalkLemmas.{first_before}
use Rattle.ev_audit.proofs.walk.Walk.new.Goals as goal

pub returns-clause-before : goal.returns-clause-before
returns-clause-before c = λ rows.
    first_before c.args.script.now rows record { proxy = c.in_ok-proxy.proxy; courses = c.in_ok-courses.courses; batch = None }
    (subst (λ (s : ScriptParts). IsAt c.in_ok-proxy.proxy (opening s.workers s.node)) c.script.view_is c.in_ok-proxy.ensures.at) c.in_ok-courses.ensures.come refl

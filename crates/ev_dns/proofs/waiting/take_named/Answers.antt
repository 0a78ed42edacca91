use Rattle.std.proofs.Common.{ℕ, List, Option, sym, subst}
use Rattle.std.proofs.lemmas.Result.{on_ok_weaker}
use Rattle.ev_dns.specs.Waiting.{Wakes}
use Rattle.ev_dns.proofs.WaitingLemmas.{wakes_named}
use Rattle.ev_dns.proofs.waiting.take_named.Goals as goal

pub returns-in-Some-clause-wakes : goal.returns-in-Some-clause-wakes
returns-in-Some-clause-wakes c =
    on_ok_weaker c.take_under.result
    (λ put. subst (λ (o : Option (List ℕ)). Wakes o c.args.under.now c.take_under.new.under c.take_under.new.woken.items) (sym c.in-Some.is)
    (wakes_named c.in-Some.name c.args.under.now c.take_under.new.under c.args.woken.now.items c.take_under.new.woken.items put c.take_under.ensures.left))
    c.take_under.ensures.taken

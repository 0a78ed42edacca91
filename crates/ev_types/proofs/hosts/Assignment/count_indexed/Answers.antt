use Rattle.std.proofs.Common.{sym, subst, IfSome}
use Rattle.ev_types.specs.SameHosts.{ArePlacesIn, NeedsHosts}
use Rattle.ev_types.proofs.HostLemmas.{needs_hosts}
use Rattle.ev_types.proofs.hosts.Assignment.count_indexed.Goals as goal

pub returns-in-Some : goal.returns-in-Some
returns-in-Some c =
    let own : ArePlacesIn c.self.inside.rows c.in-Some.index = subst (λ o. IfSome o (ArePlacesIn c.self.inside.rows)) c.in-Some.is c.self.invariant.1 in
    let here : ArePlacesIn c.args.self.now c.get.result.now = subst (ArePlacesIn c.args.self.now) (sym c.get.ensures.value) (subst (λ rows. ArePlacesIn rows c.in-Some.index) c.self.view_is own) in
    subst (NeedsHosts c.args.self.now) (sym c.len.ensures.count) (needs_hosts c.args.self.now c.get.result.now here c.len.ensures.distinct)

use Rattle.std.proofs.Common.{◌≡◌, ◌∙◌, sym, ap, subst, refl, Some, None, IsSome, cond, nat_eq, ◌&&◌}
use Rattle.std.specs.Map.{lookup}
use Rattle.std.specs.Option.{option_copied_mut}
use Rattle.ev_types.specs.SameHosts.{host_same, host_decides}
use Rattle.ev_types.specs.declared.hosts.Host.{Host}
use Rattle.ev_indexes.specs.Results.{HasNoEmpty, result_among, results_of}
use Rattle.ev_indexes.proofs.ResultLemmas.{either_way, found, found_some, inner, notes_by, results_of-set_value, some_as, still_no_empty}
use Rattle.std.proofs.lemmas.Result.{on_ok_weaker, on_err_weaker}
use Rattle.ev_indexes.proofs.results.Results.note.Goals as goal

pub returns-in-Some-clause-err : goal.returns-in-Some-clause-err
returns-in-Some-clause-err c =
    let w = c.put.new.hosts in
    on_err_weaker c.put.result
    (λ same. ap results_of (c.get_mut.follows.holds w).0
    ∙ results_of-set_value (nat_eq c.number-at.result) c.self.inside.results.entries c.in-Some.hosts.now w (sym c.in-Some.ensures.value) same
    ∙ c.self.view_is)
    c.put.ensures.err

pub returns-in-Some-clause-ok : goal.returns-in-Some-clause-ok
returns-in-Some-clause-ok c =
    let m = c.in-Some.hosts.now in
    let es = c.self.inside.results.entries in
    let w = c.put.new.hosts in
    let there = subst IsSome c.in-Some.ensures.value refl in
    let same : (h : Host) → inner (Some m) h ≡ result_among (results_of es) c.number-at.result h = λ h. sym (found es c.number-at.result (Some m) (sym c.in-Some.ensures.value) h) in
    on_ok_weaker c.put.result
    (λ keeps. λ n h.
    notes_by es (c.get_mut.follows.lender w).entries c.number-at.result (Some w) ((c.get_mut.follows.holds w).3 there).0 c.in_ok-host.host c.args.healthy
    (λ k. keeps k ∙ ap (λ r. cond (host_same c.in_ok-host.host k) (Some c.args.healthy) r) (same k)) n h
    ∙ (λ i. cond (nat_eq (c.number-at.ensures.number i) n && host_same (c.in_ok-host.ensures.equal i) h) (Some c.args.healthy) (result_among (c.self.view_is i) n h)))
    c.put.ensures.ok

pub returns-clause-ok : goal.returns-clause-ok
returns-clause-ok c =
    let es = c.self.inside.results.entries in
    let w = c.put-2.new.hosts in
    let none : lookup (nat_eq c.number-at.result) es ≡ None = sym c.get_mut.ensures.value ∙ (λ i. option_copied_mut (c.in_default.is i)) in
    let made : (h : Host) → inner (Some w) h ≡ cond (host_same c.in_ok-host.host h) (Some c.args.healthy) None =
    λ h. c.in_ok-put.ensures.ok h ∙ (λ i. cond (host_same c.in_ok-host.host h) (Some c.args.healthy) (lookup (host_same h) (c.with_hasher-hosts.ensures.empty i))) in
    on_ok_weaker c.put_hosts.result
    (λ has. λ n h.
    notes_by es c.put_hosts.new.results.entries c.number-at.result (Some w)
    (λ q. has q ∙ (λ i. cond (nat_eq c.number-at.result q) (Some w) (lookup (nat_eq q) (c.get_mut.follows.holds-at-none i).entries)))
    c.in_ok-host.host c.args.healthy
    (λ k. made k ∙ ap (λ r. cond (host_same c.in_ok-host.host k) (Some c.args.healthy) r) (sym (found es c.number-at.result None none k))) n h
    ∙ (λ i. cond (nat_eq (c.number-at.ensures.number i) n && host_same (c.in_ok-host.ensures.equal i) h) (Some c.args.healthy) (result_among (c.self.view_is i) n h)))
    c.put_hosts.ensures.ok

pub invariant_of-self : goal.invariant_of-self
invariant_of-self c =
    let host = c.in_ok-host.host in
    let w = c.put.new.hosts in
    let there = subst IsSome c.in-Some.ensures.value refl in
    either_way c.put.result c.put.ensures.ok c.put.ensures.err
    (λ keeps.
    let kept : lookup (host_same host) w.entries ≡ Some c.args.healthy =
    keeps host ∙ (λ i. cond ((host_decides host host).1 refl i) (Some c.args.healthy) (lookup (host_same host) c.in-Some.hosts.now.entries)) in
    still_no_empty c.self.inside.results.entries (c.get_mut.follows.lender w).entries c.number-at.result (Some w) ((c.get_mut.follows.holds w).3 there).0
    (λ m e. some_as w m e (found_some w host c.args.healthy kept)) c.self.invariant)
    (λ same. subst HasNoEmpty
    (sym (ap results_of (c.get_mut.follows.holds w).0
    ∙ results_of-set_value (nat_eq c.number-at.result) c.self.inside.results.entries c.in-Some.hosts.now w (sym c.in-Some.ensures.value) same))
    c.self.invariant)

pub invariant_of-self-2 : goal.invariant_of-self-2
invariant_of-self-2 c =
    let es = c.self.inside.results.entries in
    let host = c.in_ok-host.host in
    let w = c.put-2.new.hosts in
    let kept : lookup (host_same host) w.entries ≡ Some c.args.healthy =
    c.in_ok-put.ensures.ok host ∙ (λ i. cond ((host_decides host host).1 refl i) (Some c.args.healthy) (lookup (host_same host) c.with_hasher-hosts.result.entries)) in
    either_way c.put_hosts.result c.put_hosts.ensures.ok c.put_hosts.ensures.err
    (λ has. still_no_empty es c.put_hosts.new.results.entries c.number-at.result (Some w)
    (λ q. has q ∙ (λ i. cond (nat_eq c.number-at.result q) (Some w) (lookup (nat_eq q) (c.get_mut.follows.holds-at-none i).entries)))
    (λ m e. some_as w m e (found_some w host c.args.healthy kept)) c.self.invariant)
    (λ same. subst HasNoEmpty (sym (ap results_of same ∙ (λ i. results_of (c.get_mut.follows.holds-at-none i).entries))) c.self.invariant)

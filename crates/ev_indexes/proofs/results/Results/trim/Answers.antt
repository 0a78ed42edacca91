use Rattle.std.proofs.Common.{◌≡◌, ◌∙◌, sym, ap, subst, length, true≢false, Some, None, cond, nat_eq, not, ◌&&◌, Option, Bool, true, false, refl}
use Rattle.std.specs.Option.{option_copied}
use Rattle.std.proofs.lemmas.Option.{none-some}
use Rattle.ev_types.specs.SameHosts.{has_host}
use Rattle.ev_types.specs.declared.hosts.Host.{Host}
use Rattle.ev_indexes.specs.Results.{HasNoEmpty, result_among, results_of}
use Rattle.std.proofs.lemmas.Result.{on_ok_weaker}
use Rattle.ev_indexes.proofs.ResultLemmas.{either_way, found, inner, none_found, some_as, still_no_empty, trims_by, trims_nothing}
use Rattle.ev_indexes.proofs.results.Results.trim.Goals as goal

flipped : (b : Bool) (r : Option Bool) → cond b r None ≡ cond (not b) None r
flipped true r = refl
flipped false r = refl

pub returns-clause-ok : goal.returns-clause-ok
returns-clause-ok c =
    let es = c.self.inside.results.entries in
    let m = c.in-Some.hosts.now in
    let w = c.in_ok-kept.kept in
    let same : (h : Host) → inner (Some m) h ≡ result_among (results_of es) c.number-at.result h = λ h. sym (found es c.number-at.result (Some m) (sym c.in-Some.ensures.value) h) in
    on_ok_weaker c.put_hosts.result
    (λ has. λ n h.
    trims_by es c.put_hosts.new.results.entries c.number-at.result (Some w) has c.args.rows.now
    (λ k. c.in_ok-kept.ensures k ∙ (λ i. cond (has_host k (c.rows.ensures.rows i)) (inner (Some m) k) None) ∙ flipped (has_host k c.args.rows.now) (inner (Some m) k) ∙ ap (λ r. cond (not (has_host k c.args.rows.now)) None r) (same k)) n h
    ∙ (λ i. cond (nat_eq (c.number-at.ensures.number i) n && not (has_host h c.args.rows.now)) None (result_among (c.self.view_is i) n h)))
    c.put_hosts.ensures.ok

pub returns-in_default-clause-ok : goal.returns-in_default-clause-ok
returns-in_default-clause-ok c = λ n h.
    (λ i. result_among (sym c.self.view_is i) n h)
    ∙ trims_nothing c.self.inside.results.entries c.number-at.result c.args.rows.now (sym c.get.ensures.value ∙ (λ i. option_copied (c.in_default.is i))) n h
    ∙ (λ i. cond (nat_eq (c.number-at.ensures.number i) n && not (has_host h c.args.rows.now)) None (result_among (c.self.view_is i) n h))

pub returns-then-is_empty-clause-ok : goal.returns-then-is_empty-clause-ok
returns-then-is_empty-clause-ok c =
    let es = c.self.inside.results.entries in
    let m = c.in-Some.hosts.now in
    let w = c.in_ok-kept.kept in
    let same : (h : Host) → inner (Some m) h ≡ result_among (results_of es) c.number-at.result h = λ h. sym (found es c.number-at.result (Some m) (sym c.in-Some.ensures.value) h) in
    λ n h.
    trims_by es c.swap_remove.new.self.entries c.number-at.result None (λ q. c.swap_remove.ensures.updates.0 q) c.args.rows.now
    (λ k. none_found w k (c.is_empty.ensures.0 c.if-is_empty.true) ∙ c.in_ok-kept.ensures k ∙ (λ i. cond (has_host k (c.rows.ensures.rows i)) (inner (Some m) k) None)
    ∙ flipped (has_host k c.args.rows.now) (inner (Some m) k) ∙ ap (λ r. cond (not (has_host k c.args.rows.now)) None r) (same k)) n h
    ∙ (λ i. cond (nat_eq (c.number-at.ensures.number i) n && not (has_host h c.args.rows.now)) None (result_among (c.self.view_is i) n h))

pub invariant_of-self : goal.invariant_of-self
invariant_of-self c =
    still_no_empty c.self.inside.results.entries c.swap_remove.new.self.entries c.number-at.result None (λ q. c.swap_remove.ensures.updates.0 q)
    (λ m e. absurd (none-some m e)) c.self.invariant

pub invariant_of-self-2 : goal.invariant_of-self-2
invariant_of-self-2 c =
    let w = c.in_ok-kept.kept in
    either_way c.put_hosts.result c.put_hosts.ensures.ok c.put_hosts.ensures.err
    (λ has. still_no_empty c.self.inside.results.entries c.put_hosts.new.results.entries c.number-at.result (Some w) has
    (λ m e. some_as w m e (λ empty. true≢false (sym (c.is_empty.ensures.1 (ap length empty)) ∙ c.if-is_empty.false))) c.self.invariant)
    (λ same. subst HasNoEmpty (sym (ap results_of same)) c.self.invariant)

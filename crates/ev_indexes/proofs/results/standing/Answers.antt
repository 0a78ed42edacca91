use Rattle.std.proofs.Common.{◌≡◌, ◌∙◌, sym, ap, Some, None, cond, take, get_or}
use Rattle.std.specs.Option.{option_copied}
use Rattle.indexmap.specs.IndexMap.{get}
use Rattle.ev_types.specs.SameHosts.{host_same, host_decides, has_host}
use Rattle.ev_indexes.proofs.ResultLemmas.{standing_kept, standing_skipped, has_host-more}
use Rattle.ev_indexes.proofs.results.standing.Goals as goal
use Rattle.ev_indexes.proofs.results.standing.Goals.{in-Some+in_ok-copy+in_ok-put, in_default}

pub loop-row-preserved : goal.loop-row-preserved
loop-row-preserved c = λ h.
    let rows = c.args.rows.now in
    let k = c.loop-row.row-index in
    let row = c.row-item.result in
    let own : c.row.inside.host ≡ (get_or rows k row).host = λ i. ((c.row.view_is ∙ c.row-item.is) i).host in
    let more = has_host-more h rows k row c.loop-row-test.true in
    elim c.match-get.branch [
      | in-Some+in_ok-copy+in_ok-put w ↦
          (λ i. get host_same (w.kept-is i) h) ∙ w.in_ok-put.ensures.ok h
          ∙ (λ i. cond (host_same ((w.in_ok-copy.ensures.equal ∙ own) i) h) (Some w.in-Some.healthy.now) (get host_same c.loop-row.kept h))
          ∙ standing_kept (has_host h (take k rows)) (host_same (get_or rows k row).host h) (get host_same c.args.hosts.now h) (get host_same c.loop-row.kept h) w.in-Some.healthy.now
          (c.loop-row.invariant h)
          (λ same. (λ i. get host_same c.args.hosts.now ((sym ((host_decides (get_or rows k row).host h).0 same) ∙ sym own) i)) ∙ sym w.in-Some.ensures.value)
          ∙ ap (λ b. cond b (get host_same c.args.hosts.now h) None) (sym more)
      | in_default w ↦
          (λ i. get host_same (w.kept-is i) h)
          ∙ standing_skipped (has_host h (take k rows)) (host_same (get_or rows k row).host h) (get host_same c.args.hosts.now h) (get host_same c.loop-row.kept h)
          (c.loop-row.invariant h)
          (λ same. (λ i. get host_same c.args.hosts.now ((sym ((host_decides (get_or rows k row).host h).0 same) ∙ sym own) i))
          ∙ sym c.get.ensures.value ∙ (λ i. option_copied (w.in_default.is i)))
          ∙ ap (λ b. cond b (get host_same c.args.hosts.now h) None) (sym more)
    ]

use Rattle.std.proofs.Common.{◌≡◌, ℕ, List, [], ◌++◌, sym, ap, subst, ◌∙◌}
use Rattle.ev_model.specs.Publishing.{dead_numbers, without_dead}
use Rattle.ev_state.proofs.FrameLemmas.{at-frame}
use Rattle.ev_retirement.specs.Holders.{HoldersParts, HoldsFor}
use Rattle.ev_proxy.specs.Proxies.{AreRowsOf, rows_gone, without_each}
use Rattle.ev_proxy.proofs.NotingLemmas.{at-numbered}
use Rattle.ev_proxy.proofs.ReapedLemmas.{dead_rows}
use Rattle.ev_proxy.proofs.ReapingLemmas.{dead_gone}
use Rattle.ev_proxy.proofs.ShownLemmas.{reaped_shown}
use Rattle.ev_proxy.proofs.WorldLemmas.{reaped_same}
use Rattle.ev_proxy.proofs.proxy.Proxy.reap.Goals as goal

pub returns-clause-at : goal.returns-clause-at
returns-clause-at g c =
    let apart = at-numbered c.args.self.now.state g.here c.requires.0.managed in
    let dead : c.in_ok-dead.dead.items ≡ dead_numbers c.args.format g.here = c.in_ok-dead.ensures.world g.here c.requires.0.held in
    record {
      managed =
          at-frame c.remove_each.new.state (record g.here { rows = without_each c.as_slice.result.now g.here.rows }) (without_dead c.args.format g.here)
          (reaped_same c.args.format g.here (without_each c.as_slice.result.now g.here.rows)
          (ap (λ (ns : List ℕ). without_each ns g.here.rows) (c.as_slice.ensures.value ∙ dead) ∙ dead_gone c.args.format g.here apart))
          (c.remove_each.ensures.at g.here c.requires.0.managed);
      held = c.remove_all.ensures.reaped c.args.format g.here (subst (λ (holders : HoldersParts). HoldsFor holders g.here) (sym c.dead.ensures.same) c.requires.0.held) apart (c.as_slice-2.ensures.value ∙ dead);
      shown = reaped_shown c.args.format c.args.self.now.changed g.here apart c.requires.0.shown;
    }

pub returns-clause-deferred : goal.returns-clause-deferred
returns-clause-deferred g c =
    let numbers : List ℕ = dead_numbers c.args.format g.here in
    let dead : c.as_slice.result.now ≡ numbers = c.as_slice.ensures.value ∙ c.in_ok-dead.ensures.world g.here c.requires.0.held in
    let begun : c.make_room.new.self.0 ≡ [] = c.make_room.ensures.rows ∙ c.requires.1 in
    subst (AreRowsOf numbers g.here.rows)
    (sym (c.remove_each.ensures.rows g.here c.requires.0.managed ∙ (λ i. begun i ++ rows_gone (dead i) g.here.rows)))
    (dead_rows c.args.format g.here (at-numbered c.args.self.now.state g.here c.requires.0.managed))

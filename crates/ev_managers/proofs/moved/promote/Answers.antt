use Rattle.ev_managers.proofs.RetiredLemmas.{put-are, put-moved}
use Rattle.ev_managers.proofs.moved.promote.Goals as goal

pub returns-clause-told : goal.returns-clause-told
returns-clause-told g c =
    let before = c.args.manager.now.state.table.rows in
    let after = c.promote.new.self.state.table.rows in
    let promoted = c.in_ok-promoted.promoted in
    record {
      retired = put-are before after c.args.moved.now.retired c.put.new.self.retired promoted.drained c.in_ok-put.ensures.retired
          c.in_ok-promoted.ensures.drained;
      changed = put-moved before after c.args.moved.now.changed c.put.new.self.changed promoted.served promoted.drained c.in_ok-put.ensures.changed
          c.in_ok-promoted.ensures.began c.in_ok-promoted.ensures.drained;
    }

use Rattle.std.proofs.lemmas.Result.{IfOk-weaker}
use Rattle.ev_state.proofs.FrameLemmas.{at-frame}
use Rattle.ev_proxy.proofs.ShownLemmas.{still_shown}
use Rattle.ev_proxy.proofs.WorldLemmas.{batch_pictures, batch_same}
use Rattle.ev_proxy.proofs.proxy.Proxy.take_batch.Goals as goal

pub returns-clause-at : goal.returns-clause-at
returns-clause-at g c =
    IfOk-weaker c.take_batch.result _ _
    (λ v stands format picture answered. record {
      managed = at-frame c.args.self.now.state g.here _ (batch_same format c.args.batch.now.worker picture c.args.batch.now.lines g.here answered) c.requires.managed;
      held = stands format g.here picture c.requires.held answered;
      shown =
          still_shown c.args.self.now.changed g.here _ (batch_same format c.args.batch.now.worker picture c.args.batch.now.lines g.here answered)
          (batch_pictures format c.args.batch.now.worker picture c.args.batch.now.lines g.here answered) c.requires.shown;
    }) c.take_batch.ensures.world

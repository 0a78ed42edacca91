use Rattle.std.proofs.Common.{◌∙◌, ap}
use Rattle.std.specs.Option.{is_some}
use Rattle.ev_model.specs.Connections.{shows_chain}
use Rattle.ev_model.specs.declared.pictures.ServedListener.{ServedListener}
use Rattle.ev_snapshot.proofs.Began.{found_any}
use Rattle.ev_snapshot.proofs.snapshot.Snapshot.shows_chain.Goals as goal

pub returns : goal.returns
returns c =
    c.is_some.ensures
    ∙ ap is_some c.listener_with.ensures
    ∙ found_any (λ (l : ServedListener). l.number) (shows_chain c.args.origin) c.args.self.now.shown.listeners

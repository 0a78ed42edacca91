use Rattle.std.proofs.Common.{not, sym, ◌∙◌, subst}
use Rattle.ev_model.specs.Connections.{is_member}
use Rattle.ev_ledger.proofs.PlaceLemmas.{closed_leaves}
use Rattle.ev_retirement.specs.Asking.{LetsGo}
use Rattle.ev_retirement.specs.Closing.{AreFound}
use Rattle.ev_retirement.proofs.FoundLemmas.{found_left}
use Rattle.ev_retirement.proofs.GoLemmas.{asked_go}
use Rattle.ev_retirement.proofs.letting_go.close_one.Goals as goal

pub returns-clause-goes : goal.returns-clause-goes
returns-clause-goes c =
    subst (LetsGo c.args.drain.now c.args.asking.now c.ask_on.new.asking c.args.ledger.now)
    (sym (c.close.ensures.closed ∙ closed_leaves c.args.worker c.args.conn c.args.ledger.now))
    (asked_go (is_member c.args.worker c.args.conn) c.args.drain.now c.args.asking.now c.ask_on.new.asking c.args.ledger.now c.ask_on.ensures.more c.in-Ok.ensures.asked)

pub returns-clause-found : goal.returns-clause-found
returns-clause-found c shown found =
    subst (AreFound c.leave.new.self c.args.drain.now shown) (sym (c.close.ensures.closed ∙ closed_leaves c.args.worker c.args.conn c.args.ledger.now))
    (found_left (λ m. not (is_member c.args.worker c.args.conn m)) c.args.closing.now c.leave.new.self c.args.drain.now shown (λ m. c.leave.ensures m.worker m.connection) c.args.ledger.now found)

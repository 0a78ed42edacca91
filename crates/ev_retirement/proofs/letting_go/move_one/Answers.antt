use Rattle.std.proofs.Common.{◌≡◌, ◌∙◌, Some, refl, sym, ap}
use Rattle.std.specs.Option.{unwrap_or}
use Rattle.std.proofs.lemmas.Result.{on_ok_weaker}
use Rattle.ev_model.specs.Connections.{listener_after}
use Rattle.ev_ledger.specs.Members.{member_on, on_in, with_member}
use Rattle.ev_ledger.proofs.PlaceLemmas.{closed_leaves, moved_by}
use Rattle.ev_retirement.proofs.FoundLemmas.{found_more, open_found}
use Rattle.ev_retirement.proofs.GoLemmas.{go_after, kept_go}
use Rattle.ev_retirement.proofs.LineLemmas.{open_kept}
use Rattle.ev_retirement.proofs.MoveLemmas.{absent_moved, kept_as, moved_as}
use Rattle.ev_retirement.proofs.letting_go.move_one.Goals as goal

pub returns-in_default-clause-moved : goal.returns-in_default-clause-moved
returns-in_default-clause-moved c = absent_moved c.args.worker c.args.conn c.args.last.now.shown c.args.ledger.now (sym c.on.ensures.on ∙ c.in_default.is)

pub returns-in_default-next_listener-clause-moved : goal.returns-in_default-next_listener-clause-moved
returns-in_default-next_listener-clause-moved c =
    kept_as c.args.worker c.args.conn c.args.last.now.shown c.in-Some.on c.args.ledger.now c.on.ensures.apart (sym c.on.ensures.on ∙ c.in-Some.is)
    (ap (λ o. unwrap_or o c.in-Some.on.listener)
    (sym (c.next_listener.ensures (member_on c.args.worker c.args.conn c.in-Some.on) refl refl) ∙ c.in_default-next_listener.is))

pub returns-in_err-close_one-clause-found : goal.returns-in_err-close_one-clause-found
returns-in_err-close_one-clause-found c found = c.close_one.ensures.found c.args.last.now.shown found

pub returns-in_err-enter_where_due-clause-found : goal.returns-in_err-enter_where_due-clause-found
returns-in_err-enter_where_due-clause-found c found =
    found_more c.close_one.new.closing c.enter_where_due.new.closing c.args.drain.now c.args.drain.now c.args.last.now.shown c.close_one.new.ledger
    c.enter_where_due.ensures.more (λ n h. h) (c.close_one.ensures.found c.args.last.now.shown found)

pub returns-clause-moved : goal.returns-clause-moved
returns-clause-moved c =
    let listener = c.in-Some-next_listener.listener in
    let on_is : on_in c.args.worker c.args.conn c.args.ledger.now ≡ Some c.in-Some.on = sym c.on.ensures.on ∙ c.in-Some.is in
    let goes : listener_after c.args.last.now.shown (member_on c.args.worker c.args.conn c.in-Some.on) ≡ listener =
    ap (λ o. unwrap_or o c.in-Some.on.listener)
    (sym (c.next_listener.ensures (member_on c.args.worker c.args.conn c.in-Some.on) refl refl) ∙ c.in-Some-next_listener.is) in
    on_ok_weaker c.open.result
    (λ is. is
    ∙ ap (with_member (member_on c.args.worker c.args.conn (record c.in-Some.on { listener = listener })))
    (c.in_ok-close_one.ensures.closed ∙ closed_leaves c.args.worker c.args.conn c.args.ledger.now)
    ∙ moved_by c.args.worker c.args.conn listener c.in-Some.on c.args.ledger.now c.on.ensures.ordered c.on.ensures.apart on_is
    ∙ moved_as c.args.worker c.args.conn c.args.last.now.shown listener c.in-Some.on c.args.ledger.now c.on.ensures.apart on_is goes)
    c.open.ensures.opened

pub returns-clause-goes : goal.returns-clause-goes
returns-clause-goes c =
    go_after c.args.drain.now c.args.asking.now c.close_one.new.asking c.close_one.new.asking c.args.ledger.now c.close_one.new.ledger c.open.new.self
    c.close_one.ensures.goes
    (kept_go c.args.drain.now c.close_one.new.asking c.close_one.new.ledger c.open.new.self
    (open_kept c.open.result (member_on c.args.worker c.args.conn (record c.in-Some.on { listener = c.in-Some-next_listener.listener }))
    c.close_one.new.ledger c.open.new.self c.open.ensures.opened c.open.ensures.err))

pub returns-clause-found : goal.returns-clause-found
returns-clause-found c found =
    open_found c.open.result c.close_one.new.closing c.enter_where_due.new.closing c.args.drain.now c.args.last.now.shown
    (member_on c.args.worker c.args.conn (record c.in-Some.on { listener = c.in-Some-next_listener.listener })) c.close_one.new.ledger c.open.new.self
    c.enter_where_due.ensures.more c.in_ok-enter_where_due.ensures.entered c.open.ensures.opened c.open.ensures.err
    (c.close_one.ensures.found c.args.last.now.shown found)

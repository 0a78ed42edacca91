use Rattle.std.proofs.Common.{◌≡◌, ◌∙◌, true, false, cond, None, find, option_map, sym, ap}
use Rattle.ev_model.specs.Connections.{shows_chain}
use Rattle.ev_model.specs.Picture.{is_shown}
use Rattle.ev_model.specs.declared.pictures.ServedListener.{ServedListener}
use Rattle.ev_snapshot.proofs.snapshot.Snapshot.next_listener.Goals as goal

pub returns-then-shows : goal.returns-then-shows
returns-then-shows c m listener origin =
    let shown = c.args.self.now.shown in
    let is : is_shown m.listener shown ≡ true = ap (λ n. is_shown n shown) listener ∙ sym c.shows.ensures ∙ c.if-shows.true in
    ap (λ b. option_map (λ (l : ServedListener). l.number) (cond b None (find (shows_chain m.origin) shown.listeners))) (sym is)

pub returns : goal.returns
returns c m listener origin =
    let shown = c.args.self.now.shown in
    let isnt : is_shown m.listener shown ≡ false = ap (λ n. is_shown n shown) listener ∙ sym c.shows.ensures ∙ c.if-shows.false in
    c.listener_with.ensures
    ∙ ap (λ o. option_map (λ (l : ServedListener). l.number) (find (shows_chain o) shown.listeners)) (sym origin)
    ∙ ap (λ b. option_map (λ (l : ServedListener). l.number) (cond b None (find (shows_chain m.origin) shown.listeners))) (sym isnt)

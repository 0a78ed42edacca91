use Rattle.std.proofs.Common.{◌∙◌, cond, Some, sym, ap, subst}
use Rattle.ev_model.specs.Connections.{shows_chain}
use Rattle.ev_model.specs.declared.pictures.ServedListener.{ServedListener}
use Rattle.ev_layers.specs.Rows.{IsInOrder, numbered, without_number}
use Rattle.ev_listeners.specs.Origins.{those_with}
use Rattle.ev_listeners.specs.Groups.{is_reached_at, those_at}
use Rattle.ev_listeners.proofs.Grouped.{group_less}
use Rattle.ev_listeners.proofs.listeners.Listeners.without_listener.Goals as goal

pub invariant_of-result : goal.invariant_of-result
invariant_of-result c =
    let number : ServedListener → _ = λ l. l.number in
    let l = c.args.listener.now in
    let rows = c.self.inside.rows in
    let order = subst (λ ls. IsInOrder (λ (l : ServedListener). l.number) (λ (l : ServedListener). l.name) ls) (sym c.self.view_is) c.requires.order in
    let found_it = sym (c.requires.row ∙ ap (λ ls. numbered (λ (l : ServedListener). l.number) ls c.args.number) (sym c.self.view_is)) in
    let now = sym c.in_ok-rows.ensures in record {
      addresses = λ address.
          c.in_ok-leave.ensures.address address
          ∙ (λ i. cond (is_reached_at address l) (without_number number l.number (c.self.invariant.addresses address i)) (c.self.invariant.addresses address i))
          ∙ group_less (is_reached_at address) c.args.number l rows order found_it
          ∙ ap (those_at address) now;
      origins = λ origin.
          c.in_ok-leave.ensures.origins origin
          ∙ (λ i. cond (shows_chain (Some origin) l) (without_number number l.number (c.self.invariant.origins origin i)) (c.self.invariant.origins origin i))
          ∙ group_less (shows_chain (Some origin)) c.args.number l rows order found_it
          ∙ ap (those_with origin) now;
    }

pub returns : goal.returns
returns c = c.in_ok-rows.ensures ∙ ap (without_number (λ (l : ServedListener). l.number) c.args.number) c.self.view_is

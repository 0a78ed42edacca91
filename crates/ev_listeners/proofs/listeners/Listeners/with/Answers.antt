use Rattle.std.proofs.Common.{◌∙◌, true, cond, Some, sym, ap}
use Rattle.ev_model.specs.Connections.{shows_chain}
use Rattle.ev_model.specs.declared.pictures.ServedListener.{ServedListener}
use Rattle.ev_layers.specs.Rows.{named, numbered, put_before}
use Rattle.ev_listeners.specs.Groups.{is_reached_at, those_at}
use Rattle.ev_listeners.specs.Origins.{group_after, those_with}
use Rattle.ev_listeners.proofs.Began.{entered}
use Rattle.ev_listeners.proofs.Grouped.{group_put}
use Rattle.ev_listeners.proofs.listeners.Listeners.with.Goals as goal

pub with-requires-clause-name : goal.with-requires-clause-name
with-requires-clause-name c = ap (λ ls. named (λ (l : ServedListener). l.name) ls c.args.listener.name) c.self.view_is ∙ c.requires.name

pub with-requires-clause-number : goal.with-requires-clause-number
with-requires-clause-number c = ap (λ ls. numbered (λ (l : ServedListener). l.number) ls c.args.listener.number) c.self.view_is ∙ c.requires.number

pub invariant_of-result : goal.invariant_of-result
invariant_of-result c =
    let l = c.args.listener in
    let rows = c.self.inside.rows in
    let all = c.with.ensures.order in
    let now = sym c.in_ok-rows.ensures.rows in record {
      addresses = λ address.
          c.in_ok-enter.ensures.address address
          ∙ (λ i. cond (is_reached_at address l) (put_before (λ (l : ServedListener). l.name) l (c.self.invariant.addresses address i)) (c.self.invariant.addresses address i))
          ∙ group_put (is_reached_at address) l rows all
          ∙ ap (those_at address) now;
      origins = λ origin.
          c.in_ok-enter.ensures.origins origin
          ∙ (λ i. cond (shows_chain (Some origin) l) (group_after true l (c.self.invariant.origins origin i)) (c.self.invariant.origins origin i))
          ∙ entered origin l rows all (ap (λ ls. numbered (λ (l : ServedListener). l.number) ls l.number) c.self.view_is ∙ c.requires.number)
          ∙ ap (those_with origin) now;
    }

pub returns : goal.returns
returns c = c.in_ok-rows.ensures.rows ∙ ap (put_before (λ (l : ServedListener). l.name) c.args.listener) c.self.view_is

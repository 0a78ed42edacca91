use Rattle.std.proofs.Common.{◌∙◌, ◌&&◌, Bool, cond, not, sym, ap}
use Rattle.ev_types.specs.SameHosts.{host_same}
use Rattle.ev_model.specs.declared.pictures.ServedListener.{ServedListener}
use Rattle.ev_layers.specs.Layers.{found}
use Rattle.ev_layers.specs.Rows.{put_before}
use Rattle.ev_listeners.specs.Groups.{group_of}
use Rattle.ev_listeners.proofs.Grouped.{same_address}
use Rattle.ev_listeners.proofs.groups.enter_group.Goals as goal

pub returns : goal.returns
returns c address =
    c.in_ok-set_group.ensures address
    ∙ (λ i. cond (host_same c.args.listener.now.address address) ((c.in_ok-group.ensures ∙ ap (λ o. put_before (λ (l : ServedListener). l.name) c.args.listener.now (group_of o)) (c.get-3.ensures ∙ ap (found host_same c.args.groups.now) (c.address.ensures ∙ ap (λ (l : ServedListener). l.address) c.get-2.ensures.value))) i) (group_of (found host_same c.args.groups.now address)))
    ∙ same_address (λ a. put_before (λ (l : ServedListener). l.name) c.args.listener.now (group_of (found host_same c.args.groups.now a))) c.args.listener.now.address address (group_of (found host_same c.args.groups.now address))
    ∙ ap (λ (udp : Bool). cond (not udp && host_same c.args.listener.now.address address)
    (put_before (λ (l : ServedListener). l.name) c.args.listener.now (group_of (found host_same c.args.groups.now address))) (group_of (found host_same c.args.groups.now address)))
    (sym (ap (λ (l : ServedListener). l.udp) (sym c.get.ensures.value) ∙ sym c.is_udp.ensures ∙ c.if-is_udp.false))

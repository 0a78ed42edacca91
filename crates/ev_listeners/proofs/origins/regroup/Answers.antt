use Rattle.std.proofs.Common.{◌∙◌, cond, option_to_list, sym, ap}
use Rattle.std.proofs.lemmas.List.Folds.{list_any-append}
use Rattle.ev_types.specs.Origins.{origin_same}
use Rattle.ev_model.specs.declared.pictures.ServedListener.{ServedListener}
use Rattle.ev_layers.specs.Layers.{found}
use Rattle.ev_listeners.specs.Groups.{group_of}
use Rattle.ev_listeners.specs.Origins.{began_at, group_after, one_began_at}
use Rattle.ev_listeners.proofs.Began.{after_twice, either}
use Rattle.ev_listeners.proofs.origins.regroup.Goals as goal

pub returns : goal.returns
returns c origin =
    let l = c.args.listener.now in
    let after = group_after c.args.serves l in
    let group = group_of (found origin_same c.args.origins.now origin) in
    let chains = c.filter_chains.ensures ∙ ap (λ (l : ServedListener). l.filter_chains) c.get.ensures.value in
    let default = c.default_filter_chain.ensures ∙ ap (λ (l : ServedListener). l.default_filter_chain) c.get-2.ensures.value in
    let between = c.in_ok-regroup_chains.ensures origin ∙ ap (λ cs. cond (one_began_at origin cs) (after group) group) chains in
    c.in_ok-regroup_chain.ensures origin
    ∙ (λ i. cond (one_began_at origin (option_to_list (default i))) (after (between i)) (between i))
    ∙ either after (one_began_at origin l.filter_chains) (one_began_at origin (option_to_list l.default_filter_chain)) group (after_twice c.args.serves l group)
    ∙ ap (λ b. cond b (after group) group) (sym (list_any-append (began_at origin) l.filter_chains (option_to_list l.default_filter_chain)))

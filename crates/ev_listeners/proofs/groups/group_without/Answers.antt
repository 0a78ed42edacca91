use Rattle.std.proofs.Common.{◌∙◌, ◌==◌, not, ap, rules}
use Rattle.std.proofs.lemmas.Fn.{filter_same}
use Rattle.ev_model.specs.declared.pictures.ServedListener.{ServedListener}
use Rattle.ev_layers.specs.Rows.{without_number}
use Rattle.ev_listeners.proofs.groups.group_without.Goals as goal

pub returns : goal.returns
returns c =
    filter_same _ (λ (l : ServedListener). not (l.number == c.args.number)) _ (λ x b f k. search rules) _ _ c.retain.ensures.filtered
    ∙ ap (without_number (λ (l : ServedListener). l.number) c.args.number) c.in_ok-group.ensures

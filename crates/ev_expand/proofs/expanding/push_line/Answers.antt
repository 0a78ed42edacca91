use Rattle.std.proofs.Common.{sym, ap, ◌∙◌}
use Rattle.serde_json.specs.View.{view}
use Rattle.ev_types.specs.declared.events.Profile.{Profile}
use Rattle.ev_expand.specs.Fronts.{event_of}
use Rattle.ev_expand.proofs.expanding.push_line.Goals as goal

pub push_read-requires : goal.push_read-requires
push_read-requires g c =
    c.in_ok-event.ensures ∙ ap (λ (profile : Profile). event_of profile (view c.in_ok-tree.tree)) (sym (g.E.Expansion.reads c.args.profile))

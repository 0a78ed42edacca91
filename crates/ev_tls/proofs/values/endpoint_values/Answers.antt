use Rattle.std.proofs.Common.{map, sym, ap, ◌∙◌}
use Rattle.ev_types.specs.declared.contents.Kind.TheVariants.{Eds}
use Rattle.ev_wire.specs.Responses.{item_of}
use Rattle.ev_tls.proofs.values.endpoint_values.Goals as goal

pub entry_values-requires : goal.entry_values-requires
entry_values-requires c = c.items_of.ensures ∙ c.requires ∙ ap (map (item_of c.args.profile Eds)) (sym c.in_ok-entries.ensures)

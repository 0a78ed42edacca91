use Rattle.std.proofs.Common.{Some, sym, ap, ◌∙◌, map}
use Rattle.serde_json.specs.Data.{Data}
use Rattle.serde_json.specs.View.{view}
use Rattle.ev_types.specs.declared.contents.Kind.{Kind}
use Rattle.ev_types.specs.declared.contents.Kind.TheVariants.{Eds}
use Rattle.ev_wire.specs.Responses.{item_of, entries_of}
use Rattle.ev_expand.proofs.EventLemmas.{items_read}
use Rattle.ev_tls.proofs.values.kind_values.Goals as goal

pub endpoint_values-requires : goal.endpoint_values-requires
endpoint_values-requires c =
    items_read c.args.profile (view c.args.line.now) c.args.response.now Eds c.requires.event (c.requires.kind ∙ ap (λ (k : Kind). Some k) c.in-Eds.is)
    ∙ ap (λ (message : Data). map (item_of c.args.profile Eds) (entries_of message)) (sym c.message_of.ensures)

use Rattle.std.proofs.Common.{[], map}
use Rattle.serde_json.specs.View.{view}
use Rattle.ev_types.specs.declared.contents.Kind.TheVariants.{Eds}
use Rattle.ev_wire.specs.Responses.{item_of}
use Rattle.ev_tls.specs.Told.{value_given, value_shown}
use Rattle.ev_tls.proofs.PushLemmas.{given_more, read_at}
use Rattle.ev_tls.proofs.values.entry_values.Goals as goal

pub push_value-requires : goal.push_value-requires
push_value-requires c = read_at (item_of c.args.profile Eds) view c.args.items.now c.args.entries.now c.loop-index.index _ _ c.requires c.loop-index-test.true c.index-items-index.is c.index-entries-index.is

pub loop-index-preserved : goal.loop-index-preserved
loop-index-preserved c =
    given_more view (value_given c.args.profile c.args.mentions.now) c.args.entries.now c.loop-index.index c.index-entries-index.result [] (map value_shown c.loop-index.values.items) _ c.loop-index-test.true c.index-entries-index.is
    c.loop-index.invariant c.in_ok-push_value.ensures

use Rattle.std.proofs.Common.{◌≡◌, ◌∙◌, ap}
use Rattle.std.specs.Str.{bytes_eq}
use Rattle.indexmap.specs.IndexSet.{contains}
use Rattle.ev_types.specs.Items.{ItemParts}
use Rattle.ev_lookups.proofs.MentionLemmas.{named_more, twice_more}
use Rattle.ev_lookups.proofs.mentions.note_all.Goals as goal

pub loop-item-preserved : goal.loop-item-preserved
loop-item-preserved c =
    let text : c.as_str.result.now ≡ c.item-item.result.name = c.as_str.ensures.bytes ∙ ap (λ (item : ItemParts). item.name) c.item.view_is in
    record {
      named = named_more c.args.items.now c.loop-item.item-index c.item-item.result c.as_str.result.now (contains bytes_eq c.loop-item.named) (contains bytes_eq c.note.new.named)
          c.loop-item-test.true c.item-item.is text c.in_ok-note.ensures.named c.loop-item.invariant.named;
      twice = twice_more c.args.items.now c.loop-item.item-index c.item-item.result c.as_str.result.now (contains bytes_eq c.loop-item.named) (contains bytes_eq c.loop-item.twice) (contains bytes_eq c.note.new.twice)
          c.loop-item-test.true c.item-item.is text c.in_ok-note.ensures.twice c.loop-item.invariant.named c.loop-item.invariant.twice;
    }

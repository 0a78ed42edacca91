use Rattle.std.proofs.Common.{◌∙◌, option_map}
use Rattle.std.specs.Str.{bytes_eq}
use Rattle.indexmap.specs.IndexMap.{insert_entry}
use Rattle.ev_verdicts.proofs.MadeLemmas.{put_last}
use Rattle.ev_verdicts.proofs.made.put_name.Goals as goal

pub returns : goal.returns
returns c =
    c.in-Ok.ensures.entries
    ∙ (λ i. insert_entry bytes_eq c.args.table.now.entries (c.new.ensures i) (c.key_of.ensures i))
    ∙ put_last c.args.name.now (option_map (λ a. a.now) c.args.address) c.args.table.now.entries c.requires.absent

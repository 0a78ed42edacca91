use Rattle.std.proofs.Common.{◌∙◌, ap, option_map, sym}
use Rattle.ev_model.specs.Live.{live_of}
use Rattle.ev_indexes.specs.Newest.{found_in}
use Rattle.ev_warming.proofs.ChainLemmas.{serving-in}
use Rattle.ev_state.proofs.known.serving.Goals as goal

pub returns : goal.returns
returns c =
    c.live_row_of.ensures.row
    ∙ (λ i. found_in c.args.known.now.table.rows (c.standing_of.ensures i).active)
    ∙ sym (ap (option_map live_of) (serving-in c.args.known.now c.requires.indexed c.args.kind c.args.name.now))

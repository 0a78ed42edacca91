use Rattle.ev_layers.proofs.table.Table.copy.Goals as goal

pub returns : goal.returns
returns g c key =
    let over = c.in_ok-copy_of.ensures key in
    let layers = c.in_ok-copy.ensures.equal in
    let base = c.in_ok-try_clone.ensures in
    cc

use Rattle.std.proofs.Common.{nat_eq}
use Rattle.std.specs.Str.{bytes_eq}
use Rattle.ev_layers.specs.Layers.{found, keys_in}
use Rattle.ev_layers.proofs.Steps.{row_none}
use Rattle.ev_layers.proofs.rows.Rows.new.Goals as goal

pub invariant_of-result : goal.invariant_of-result
invariant_of-result g c =
    (row_none g.T.Row.number_of g.T.Row.name_of (found bytes_eq c.in_ok-new.field-0) (found nat_eq c.in_ok-new-2.field-0) (keys_in c.in_ok-new.field-0) c.in_ok-new.ensures c.in_ok-new-2.ensures).1

pub returns : goal.returns
returns g c =
    (row_none g.T.Row.number_of g.T.Row.name_of (found bytes_eq c.in_ok-new.field-0) (found nat_eq c.in_ok-new-2.field-0) (keys_in c.in_ok-new.field-0) c.in_ok-new.ensures c.in_ok-new-2.ensures).0

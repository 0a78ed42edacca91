use Rattle.std.proofs.Common.{◌∙◌, nat_eq}
use Rattle.std.specs.Str.{bytes_eq}
use Rattle.ev_layers.specs.Layers.{found, keys_in}
use Rattle.ev_layers.specs.Rows.{listing}
use Rattle.ev_layers.proofs.Covers.{table_covers}
use Rattle.ev_layers.proofs.Steps.{row_same}
use Rattle.ev_layers.proofs.rows.Rows.copy.Goals as goal

pub invariant_of-result : goal.invariant_of-result
invariant_of-result g c =
    (row_same g.T.Row.number_of g.T.Row.name_of
    (found bytes_eq c.self.inside.by_name) (found bytes_eq c.in_ok-copy.field-0) (found nat_eq c.self.inside.by_number) (found nat_eq c.in_ok-copy-2.field-0)
    (keys_in c.in_ok-copy.field-0) (listing g.T.Row.name_of (found bytes_eq c.self.inside.by_name) (keys_in c.self.inside.by_name)) c.self.invariant
    c.in_ok-copy.ensures c.in_ok-copy-2.ensures (λ m. table_covers (bytes_eq m) c.in_ok-copy.field-0)).1

pub returns : goal.returns
returns g c =
    (row_same g.T.Row.number_of g.T.Row.name_of
    (found bytes_eq c.self.inside.by_name) (found bytes_eq c.in_ok-copy.field-0) (found nat_eq c.self.inside.by_number) (found nat_eq c.in_ok-copy-2.field-0)
    (keys_in c.in_ok-copy.field-0) (listing g.T.Row.name_of (found bytes_eq c.self.inside.by_name) (keys_in c.self.inside.by_name)) c.self.invariant
    c.in_ok-copy.ensures c.in_ok-copy-2.ensures (λ m. table_covers (bytes_eq m) c.in_ok-copy.field-0)).0
    ∙ c.self.view_is

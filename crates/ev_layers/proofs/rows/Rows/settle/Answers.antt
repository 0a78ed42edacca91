use Rattle.std.proofs.Common.{◌∙◌, nat_eq, refl}
use Rattle.std.specs.Str.{bytes_eq}
use Rattle.ev_layers.specs.Layers.{found, keys_in}
use Rattle.ev_layers.specs.Rows.{listing}
use Rattle.ev_layers.proofs.Covers.{table_covers}
use Rattle.ev_layers.proofs.Steps.{row_same}
use Rattle.ev_layers.proofs.rows.Rows.settle.Goals as goal

pub invariant_of-self : goal.invariant_of-self
invariant_of-self g c =
    (row_same g.T.Row.number_of g.T.Row.name_of
    (found bytes_eq c.self.inside.by_name) (found bytes_eq c.settle.new.self) (found nat_eq c.self.inside.by_number) (found nat_eq c.self.inside.by_number)
    (keys_in c.settle.new.self) (listing g.T.Row.name_of (found bytes_eq c.self.inside.by_name) (keys_in c.self.inside.by_name)) c.self.invariant
    c.settle.ensures (λ m. refl) (λ m. table_covers (bytes_eq m) c.settle.new.self)).1

pub returns-in_err-settle : goal.returns-in_err-settle
returns-in_err-settle g c =
    (row_same g.T.Row.number_of g.T.Row.name_of
    (found bytes_eq c.self.inside.by_name) (found bytes_eq c.settle.new.self) (found nat_eq c.self.inside.by_number) (found nat_eq c.self.inside.by_number)
    (keys_in c.settle.new.self) (listing g.T.Row.name_of (found bytes_eq c.self.inside.by_name) (keys_in c.self.inside.by_name)) c.self.invariant
    c.settle.ensures (λ m. refl) (λ m. table_covers (bytes_eq m) c.settle.new.self)).0 ∙ c.self.view_is

pub invariant_of-self-2 : goal.invariant_of-self-2
invariant_of-self-2 g c =
    (row_same g.T.Row.number_of g.T.Row.name_of
    (found bytes_eq c.self.inside.by_name) (found bytes_eq c.settle.new.self) (found nat_eq c.self.inside.by_number) (found nat_eq c.settle-2.new.self)
    (keys_in c.settle.new.self) (listing g.T.Row.name_of (found bytes_eq c.self.inside.by_name) (keys_in c.self.inside.by_name)) c.self.invariant
    c.settle.ensures c.settle-2.ensures (λ m. table_covers (bytes_eq m) c.settle.new.self)).1

pub returns : goal.returns
returns g c =
    (row_same g.T.Row.number_of g.T.Row.name_of
    (found bytes_eq c.self.inside.by_name) (found bytes_eq c.settle.new.self) (found nat_eq c.self.inside.by_number) (found nat_eq c.settle-2.new.self)
    (keys_in c.settle.new.self) (listing g.T.Row.name_of (found bytes_eq c.self.inside.by_name) (keys_in c.self.inside.by_name)) c.self.invariant
    c.settle.ensures c.settle-2.ensures (λ m. table_covers (bytes_eq m) c.settle.new.self)).0 ∙ c.self.view_is

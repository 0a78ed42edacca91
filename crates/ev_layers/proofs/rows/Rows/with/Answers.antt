use Rattle.std.proofs.Common.{◌∙◌, ap, nat_eq, subst}
use Rattle.std.specs.Str.{bytes_eq}
use Rattle.ev_layers.specs.Rows.{IsInOrder, listing, named, numbered, put_before}
use Rattle.ev_layers.specs.Layers.{found, keys_in}
use Rattle.ev_layers.proofs.Covers.{table_covers}
use Rattle.ev_layers.proofs.Steps.{row_in}
use Rattle.ev_layers.proofs.rows.Rows.with.Goals as goal

pub invariant_of-result : goal.invariant_of-result
invariant_of-result g c =
    (row_in g.T.Row.number_of g.T.Row.name_of
    (found bytes_eq c.self.inside.by_name) (found bytes_eq c.enter.new.by_name) (found nat_eq c.self.inside.by_number) (found nat_eq c.enter.new.by_number)
    (keys_in c.enter.new.by_name) (listing g.T.Row.name_of (found bytes_eq c.self.inside.by_name) (keys_in c.self.inside.by_name)) c.args.row c.self.invariant
    (ap (λ xs. named g.T.Row.name_of xs (g.T.Row.name_of c.args.row)) c.self.view_is ∙ c.requires.name)
    (ap (λ xs. numbered g.T.Row.number_of xs (g.T.Row.number_of c.args.row)) c.self.view_is ∙ c.requires.number)
    c.in_ok-enter.ensures.name c.in_ok-enter.ensures.number
    (λ m. table_covers (bytes_eq m) c.enter.new.by_name)).1

pub returns-clause-rows : goal.returns-clause-rows
returns-clause-rows g c =
    (row_in g.T.Row.number_of g.T.Row.name_of
    (found bytes_eq c.self.inside.by_name) (found bytes_eq c.enter.new.by_name) (found nat_eq c.self.inside.by_number) (found nat_eq c.enter.new.by_number)
    (keys_in c.enter.new.by_name) (listing g.T.Row.name_of (found bytes_eq c.self.inside.by_name) (keys_in c.self.inside.by_name)) c.args.row c.self.invariant
    (ap (λ xs. named g.T.Row.name_of xs (g.T.Row.name_of c.args.row)) c.self.view_is ∙ c.requires.name)
    (ap (λ xs. numbered g.T.Row.number_of xs (g.T.Row.number_of c.args.row)) c.self.view_is ∙ c.requires.number)
    c.in_ok-enter.ensures.name c.in_ok-enter.ensures.number
    (λ m. table_covers (bytes_eq m) c.enter.new.by_name)).0
    ∙ ap (put_before g.T.Row.name_of c.args.row) c.self.view_is

pub returns-clause-order : goal.returns-clause-order
returns-clause-order g c = subst (IsInOrder g.T.Row.number_of g.T.Row.name_of) c.self.view_is c.self.invariant.order

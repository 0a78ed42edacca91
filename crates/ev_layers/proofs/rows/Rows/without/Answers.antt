use Rattle.std.proofs.Common.{◌∙◌, ap, sym, cond, nat_eq, None}
use Rattle.std.specs.Str.{bytes_eq}
use Rattle.ev_layers.specs.Layers.{found, keys_in}
use Rattle.ev_layers.specs.Rows.{listing, numbered, without_number}
use Rattle.ev_layers.proofs.Covers.{table_covers}
use Rattle.ev_layers.proofs.Steps.{number_absent, row_out}
use Rattle.ev_layers.proofs.rows.Rows.without.Goals as goal

pub returns-in_default : goal.returns-in_default
returns-in_default g c = number_absent g.T.Row.number_of g.T.Row.name_of c.args.self c.args.number (sym c.in_default.ensures.row)

pub invariant_of-result : goal.invariant_of-result
invariant_of-result g c =
    (row_out g.T.Row.number_of g.T.Row.name_of
    (found bytes_eq c.self.inside.by_name) (found bytes_eq c.leave.new.by_name) (found nat_eq c.self.inside.by_number) (found nat_eq c.leave.new.by_number)
    (keys_in c.leave.new.by_name) (listing g.T.Row.name_of (found bytes_eq c.self.inside.by_name) (keys_in c.self.inside.by_name)) c.args.number c.in-Some.row.now c.self.invariant
    (c.self.invariant.at_number c.args.number ∙ ap (λ xs. numbered g.T.Row.number_of xs c.args.number) c.self.view_is ∙ sym c.in-Some.ensures.row)
    (λ m. c.in_ok-leave.ensures.name m
    ∙ (λ i. cond (bytes_eq ((c.new-name.ensures ∙ ap g.T.Row.name_of c.in_ok-share.ensures.value) i) m) None (found bytes_eq c.self.inside.by_name m)))
    c.in_ok-leave.ensures.number
    (λ m. table_covers (bytes_eq m) c.leave.new.by_name)).1

pub returns : goal.returns
returns g c =
    (row_out g.T.Row.number_of g.T.Row.name_of
    (found bytes_eq c.self.inside.by_name) (found bytes_eq c.leave.new.by_name) (found nat_eq c.self.inside.by_number) (found nat_eq c.leave.new.by_number)
    (keys_in c.leave.new.by_name) (listing g.T.Row.name_of (found bytes_eq c.self.inside.by_name) (keys_in c.self.inside.by_name)) c.args.number c.in-Some.row.now c.self.invariant
    (c.self.invariant.at_number c.args.number ∙ ap (λ xs. numbered g.T.Row.number_of xs c.args.number) c.self.view_is ∙ sym c.in-Some.ensures.row)
    (λ m. c.in_ok-leave.ensures.name m
    ∙ (λ i. cond (bytes_eq ((c.new-name.ensures ∙ ap g.T.Row.name_of c.in_ok-share.ensures.value) i) m) None (found bytes_eq c.self.inside.by_name m)))
    c.in_ok-leave.ensures.number
    (λ m. table_covers (bytes_eq m) c.leave.new.by_name)).0
    ∙ ap (without_number g.T.Row.number_of c.args.number) c.self.view_is

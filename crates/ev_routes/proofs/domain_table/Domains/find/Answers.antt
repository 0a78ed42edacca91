use Rattle.std.proofs.Common.{◌≡◌, None, find, ap, sym, ◌∙◌}
use Rattle.std.specs.Str.{bytes_eq, str_to_ascii_lowercase}
use Rattle.indexmap.specs.IndexMap.{get}
use Rattle.ev_model.specs.Choice.{domain_for, is_domain}
use Rattle.ev_routes.specs.Domains.{pattern_for}
use Rattle.ev_routes.proofs.Patterns.{found_first, found_none}
use Rattle.ev_routes.proofs.domain_table.Domains.find.Goals as goal

pub returns-in-Some : goal.returns-in-Some
returns-in-Some c =
    let host = str_to_ascii_lowercase c.args.host.now in
    let is = c.self.view_is in
    let view : c.self.inside.list ≡ c.args.self.now = cc in
    found_first c.self.inside.list host c.in-Some.domain.now
    (sym (c.self.invariant.text host) ∙ ap (get bytes_eq c.self.inside.by_text) (sym c.new.ensures) ∙ sym c.in-Some.ensures.value)
    ∙ ap (λ ds. domain_for ds host) view

pub returns-in-None : goal.returns-in-None
returns-in-None c =
    let host = str_to_ascii_lowercase c.args.host.now in
    let is = c.self.view_is in
    let view : c.self.inside.list ≡ c.args.self.now = cc in
    let none : find (is_domain host) c.self.inside.list ≡ None =
    sym (c.self.invariant.text host) ∙ ap (get bytes_eq c.self.inside.by_text) (sym c.new.ensures) ∙ sym c.in-None.ensures.value in
    c.pattern_for.ensures
    ∙ ap (λ ds. pattern_for ds host) (sym view)
    ∙ found_none c.self.inside.list host none
    ∙ ap (λ ds. domain_for ds host) view

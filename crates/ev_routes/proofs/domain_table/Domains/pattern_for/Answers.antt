use Rattle.std.proofs.Common.{◌≡◌, None, [], ◌∷◌, sym, ap, ◌∙◌}
use Rattle.std.specs.Str.{bytes_eq, str_to_ascii_lowercase}
use Rattle.indexmap.specs.IndexMap.{get}
use Rattle.ev_model.specs.Choice.{by_prefix, by_suffix}
use Rattle.ev_routes.specs.Domains.{pattern_for}
use Rattle.ev_routes.proofs.Patterns.{pattern_last}
use Rattle.ev_routes.proofs.domain_table.Domains.pattern_for.Goals as goal

pub returns : goal.returns
returns c =
    let host = str_to_ascii_lowercase c.args.host.now in
    let list = c.self.inside.list in
    let is = c.self.view_is in
    let view : list ≡ c.args.self.now = cc in
    let no_suffix : by_suffix list host ≡ None = ap (λ ds. by_suffix ds host) view ∙ sym c.in_default.ensures in
    let no_prefix : by_prefix list host ≡ None = ap (λ ds. by_prefix ds host) view ∙ sym c.in_default-prefix_for.ensures in
    c.get.ensures.value
    ∙ ap (get bytes_eq c.self.inside.by_text) c.new.ensures
    ∙ c.self.invariant.text (42 ∷ [])
    ∙ pattern_last list host no_suffix no_prefix
    ∙ ap (λ ds. pattern_for ds host) view

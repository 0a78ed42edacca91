use Rattle.std.proofs.Common.{ℕ, List, map, sym, ap, ◌∙◌}
use Rattle.serde_json.specs.Data.{Data}
use Rattle.ev_types.specs.declared.events.Profile.{Profile}
use Rattle.ev_script.specs.Members.{tree_told}
use Rattle.ev_expand.specs.Expanding.{Rules}
use Rattle.ev_expand.specs.Private.{first_use}
use Rattle.ev_expand.proofs.expanding.expand_with.Goals as goal

pub grown_text-requires-clause-unused : goal.grown_text-requires-clause-unused
grown_text-requires-clause-unused g c =
    let rules : Rules = g.E.Expansion.rules c.args.profile in
    let lines : List Data = map tree_told c.args.lines.now in
    ap (λ (profile : Profile). first_use profile rules.prefix lines) (g.E.Expansion.reads c.args.profile)
    ∙ ap (λ (p : List ℕ). first_use c.args.profile p lines) (sym (c.prefix.ensures c.args.profile)) ∙ sym c.in_ok-line.ensures ∙ c.in_default.is

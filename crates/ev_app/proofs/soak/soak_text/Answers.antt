-- The line of a soak.
use Rattle.std.proofs.Common.{◌∙◌, ◌+◌, List, ap, rules}
use Rattle.ev_types.specs.Scripts.{IsScript}
use Rattle.ev_types.specs.declared.events.Entry.{Entry}
use Rattle.ev_soak.specs.Lines.{soak_line}
use Rattle.ev_app.proofs.SoakLemmas.{soak_told}
use Rattle.ev_app.proofs.soak.soak_text.Goals as goal

pub returns : goal.returns
returns c =
    let kept : IsScript c.in_ok-script.script = search rules in
    soak_told c.args.seed c.args.count c.in_ok-script.script c.in_ok-registry.registry.journaled c.latest-version.result c.in_ok-text.field-0.items
    kept c.in_ok-script.ensures c.in_ok-registry.ensures c.latest-version.ensures.version
    (c.in_ok-text.ensures.line ∙ ap (λ (journal : List Entry). soak_line (c.args.count + 1) journal c.latest-version.result) c.journal.ensures.entries)

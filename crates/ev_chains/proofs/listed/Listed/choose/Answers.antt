use Rattle.std.proofs.Common.{◌≡◌, ◌∙◌, sym, ap, Some, None}
use Rattle.std.specs.Option.{option_or}
use Rattle.std.specs.Str.{str_to_ascii_lowercase}
use Rattle.ev_chains.specs.Rows.{asked_port}
use Rattle.ev_chains.specs.Listed.{number_under, number_other}
use Rattle.ev_chains.proofs.ChoiceLemmas.{asked_number}
use Rattle.ev_chains.proofs.listed.Listed.choose.Goals as goal

pub returns : goal.returns
returns c =
    let rows = c.args.self.now in
    let name = str_to_ascii_lowercase c.args.server.now in
    let port = asked_port c.args.port rows in
    let none : number_under record { port = port; name = Some name } rows ≡ None =
    sym (c.in-None.ensures ∙ (λ i. number_under record { port = c.asked_port-port.ensures i; name = Some (c.in_ok-lower.ensures i) } rows)) in
    c.in_ok-other-in-None.ensures
    ∙ (λ i. number_other (c.asked_port-port.ensures i) ((c.as_slice.ensures.elements ∙ c.in_ok-name.ensures) i) rows)
    ∙ sym (asked_number port name rows ∙ ap (λ own. option_or own (number_other port name rows)) none)

use Rattle.std.proofs.Common.{false, sym, ap, ◌∙◌}
use Rattle.std.specs.Option.{option_map, option_copied, unwrap_or}
use Rattle.ev_drain.specs.Retired.{is_dead_in}
use Rattle.ev_drain.specs.Notes.{is_dead_note}
use Rattle.ev_drain.proofs.RowLemmas.{dead_found}
use Rattle.ev_drain.proofs.drain.Drain.is_dead.Goals as goal

pub returns-in-Some : goal.returns-in-Some
returns-in-Some g c = record {
  dead =
      c.nothing_holds.ensures
      ∙ ap (λ r. unwrap_or (option_map (λ v. is_dead_note c.args.format (g.S.Shows.has c.args.shown.now) c.args.ledger.now (c.args.number, v)) (option_copied r)) false) (sym c.in-Some.is)
      ∙ ap (λ r. unwrap_or (option_map (λ v. is_dead_note c.args.format (g.S.Shows.has c.args.shown.now) c.args.ledger.now (c.args.number, v)) r) false) c.get.ensures.value
      ∙ dead_found c.args.format (g.S.Shows.has c.args.shown.now) c.args.ledger.now c.args.number c.self.inside.notes.entries c.len.ensures.ordered
      ∙ ap (is_dead_in c.args.format (g.S.Shows.has c.args.shown.now) c.args.ledger.now c.args.number) c.self.view_is;
}

pub returns-in-None : goal.returns-in-None
returns-in-None g c = record {
  dead =
      ap (λ r. unwrap_or (option_map (λ v. is_dead_note c.args.format (g.S.Shows.has c.args.shown.now) c.args.ledger.now (c.args.number, v)) (option_copied r)) false) (sym c.in-None.is)
      ∙ ap (λ r. unwrap_or (option_map (λ v. is_dead_note c.args.format (g.S.Shows.has c.args.shown.now) c.args.ledger.now (c.args.number, v)) r) false) c.get.ensures.value
      ∙ dead_found c.args.format (g.S.Shows.has c.args.shown.now) c.args.ledger.now c.args.number c.self.inside.notes.entries c.len.ensures.ordered
      ∙ ap (is_dead_in c.args.format (g.S.Shows.has c.args.shown.now) c.args.ledger.now c.args.number) c.self.view_is;
}

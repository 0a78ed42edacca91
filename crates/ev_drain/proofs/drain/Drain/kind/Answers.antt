use Rattle.std.proofs.Common.{Some, refl, sym, ap, ◌∙◌}
use Rattle.std.specs.Option.{option_map, option_copied}
use Rattle.ev_drain.specs.declared.notes.Note.{Note}
use Rattle.ev_drain.specs.Retired.{Retired, kind_of_row}
use Rattle.ev_drain.proofs.RowLemmas.{of_row}
use Rattle.ev_drain.proofs.drain.Drain.kind.Goals as goal

pub returns-in-Some : goal.returns-in-Some
returns-in-Some c = record {
  kind =
      ap (λ k. Some k) c.kind_of.ensures
      ∙ ap (λ r. option_map (λ (v : Note). v.kind) (option_copied r)) (sym c.in-Some.is)
      ∙ ap (option_map (λ (v : Note). v.kind)) c.get.ensures.value
      ∙ of_row (λ (r : Retired). r.kind) (λ (v : Note). v.kind) (λ k v. refl) c.args.number c.self.inside.notes.entries
      ∙ ap (λ rs. kind_of_row rs c.args.number) c.self.view_is;
}

pub returns-in-None : goal.returns-in-None
returns-in-None c = record {
  kind =
      ap (λ r. option_map (λ (v : Note). v.kind) (option_copied r)) (sym c.in-None.is)
      ∙ ap (option_map (λ (v : Note). v.kind)) c.get.ensures.value
      ∙ of_row (λ (r : Retired). r.kind) (λ (v : Note). v.kind) (λ k v. refl) c.args.number c.self.inside.notes.entries
      ∙ ap (λ rs. kind_of_row rs c.args.number) c.self.view_is;
}

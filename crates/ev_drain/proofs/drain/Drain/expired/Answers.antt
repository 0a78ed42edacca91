use Rattle.std.proofs.Common.{false, refl, sym, ap, ◌∙◌}
use Rattle.std.specs.Option.{option_map, option_copied, unwrap_or}
use Rattle.ev_drain.specs.declared.notes.Note.{Note}
use Rattle.ev_drain.specs.Retired.{Retired, is_expired}
use Rattle.ev_drain.proofs.RowLemmas.{of_row}
use Rattle.ev_drain.proofs.drain.Drain.expired.Goals as goal

pub returns-in-Some : goal.returns-in-Some
returns-in-Some c = record {
  expired =
      ap (λ r. unwrap_or (option_map (λ (v : Note). v.expired) (option_copied r)) false) (sym c.in-Some.is)
      ∙ ap (λ v. unwrap_or v false) (ap (option_map (λ (v : Note). v.expired)) c.get.ensures.value
      ∙ of_row (λ (r : Retired). r.expired) (λ (v : Note). v.expired) (λ k v. refl) c.args.number c.self.inside.notes.entries)
      ∙ ap (λ rs. is_expired rs c.args.number) c.self.view_is;
}

pub returns-in-None : goal.returns-in-None
returns-in-None c = record {
  expired =
      ap (λ r. unwrap_or (option_map (λ (v : Note). v.expired) (option_copied r)) false) (sym c.in-None.is)
      ∙ ap (λ v. unwrap_or v false) (ap (option_map (λ (v : Note). v.expired)) c.get.ensures.value
      ∙ of_row (λ (r : Retired). r.expired) (λ (v : Note). v.expired) (λ k v. refl) c.args.number c.self.inside.notes.entries)
      ∙ ap (λ rs. is_expired rs c.args.number) c.self.view_is;
}

use Rattle.std.proofs.Common.{◌≡◌, ◌∙◌, nat_eq, None, Some, sym}
use Rattle.std.specs.Map.{lookup}
use Rattle.std.specs.Option.{option_copied}
use Rattle.ev_hosts.specs.Chosen.{chosen_by}
use Rattle.ev_indexes.specs.KeptEndpoints.{chosen_in}
use Rattle.ev_indexes.proofs.MarkLemmas.{chosen-found}
use Rattle.ev_indexes.proofs.endpoints.Endpoints.chosen.Goals as goal

pub returns-in_default : goal.returns-in_default
returns-in_default c =
    let es = c.self.inside.marked.entries in
    let at : lookup (nat_eq c.args.number) es ≡ None =
    (λ i. lookup (nat_eq (sym c.number.ensures.number i)) es) ∙ sym c.get.ensures.value ∙ (λ i. option_copied (c.in_default.is i)) in
    chosen-found c.self.inside.results es c.args.number None at c.self.invariant
    ∙ (λ i. chosen_in (c.self.view_is i) c.args.number)

pub returns : goal.returns
returns c =
    let es = c.self.inside.marked.entries in
    let m = c.in-Some.marked.now in
    let at : lookup (nat_eq c.args.number) es ≡ Some m =
    (λ i. lookup (nat_eq (sym c.number.ensures.number i)) es) ∙ sym c.in-Some.ensures.value in
    (λ i. Some ((c.new.ensures ∙ (λ j. chosen_by (c.in_ok-marks.ensures.equal j) (c.in_ok-rows.ensures.value j))) i))
    ∙ chosen-found c.self.inside.results es c.args.number (Some m) at c.self.invariant
    ∙ (λ i. chosen_in (c.self.view_is i) c.args.number)

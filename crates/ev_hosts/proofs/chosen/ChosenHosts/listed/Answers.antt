use Rattle.std.proofs.Common.{◌∙◌, true, map}
use Rattle.ev_types.specs.Hosts.{HostRowParts}
use Rattle.ev_hosts.specs.Chosen.{chosen_by}
use Rattle.ev_hosts.proofs.ChosenLemmas.{all_chosen}
use Rattle.ev_hosts.proofs.chosen.ChosenHosts.listed.Goals as goal

pub returns : goal.returns
returns c =
    c.new-3.ensures
    ∙ (λ i. chosen_by ((c.in_ok-marks.ensures ∙ (λ j. map (λ (r : HostRowParts). true) (c.as_slice.ensures.elements j))) i) ((c.in_ok-new.ensures.value ∙ c.new.ensures.rows) i))
    ∙ all_chosen c.args.rows

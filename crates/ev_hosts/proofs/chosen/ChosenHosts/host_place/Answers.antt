use Rattle.std.proofs.Common.{◌≡◌, ◌∙◌, ◌%◌, sym, ap, map, Some}
use Rattle.ev_model.specs.Choice.{host_place, place_above, weight_at}
use Rattle.ev_hosts.specs.Chosen.{chosen_by, lowest_of}
use Rattle.ev_hosts.proofs.PriorityLemmas.{among_lowest, place_by}
use Rattle.ev_hosts.proofs.chosen.ChosenHosts.host_place.Goals as goal

pub nonzero_rem-pick : goal.nonzero_rem-pick
nonzero_rem-pick c =
    let lowest : lowest_of (chosen_by c.self.inside.marks c.rows-rows.result.now) ≡ Some c.in-Some.priority = sym c.lowest_priority.ensures ∙ c.in-Some.is in
    c.weight_sum-sum.ensures.some (among_lowest _ _ lowest)

pub returns : goal.returns
returns c =
    let hosts = chosen_by c.self.inside.marks c.rows-rows.result.now in
    let lowest : lowest_of hosts ≡ Some c.in-Some.priority = sym c.lowest_priority.ensures ∙ c.in-Some.is in
    c.place_above.ensures
    ∙ ap (λ n. place_above (c.args.pick % n) (map (weight_at c.in-Some.priority) hosts)) c.weight_sum-sum.ensures.sum
    ∙ place_by hosts c.in-Some.priority c.args.pick lowest
    ∙ ap (λ chosen. host_place chosen c.args.pick) (ap (chosen_by c.self.inside.marks) (c.rows-rows.ensures.rows ∙ c.get.ensures.value) ∙ c.self.view_is)

use Rattle.std.proofs.Common.{◌∙◌, ◌||◌, ap, false}
use Rattle.std.specs.List.{list_any}
use Rattle.ev_tree.specs.Forms.{is_wrong, given_or, listed}
use Rattle.ev_tree.specs.Broken.{either_broken, any_broken}
use Rattle.ev_tree.proofs.Outcomes.{or_same}
use Rattle.ev_listener_json.specs.ListenerFilters.{listener_filters_of, is_original_dst, listener_filter_broken, hands_over, restores, redirection_broken}
use Rattle.ev_listener_json.proofs.listener_filters.inspect_redirection.Goals as goal

pub returns-clause-hands_over : goal.returns-clause-hands_over
unfolding hands_over
returns-clause-hands_over c = c.given_or-hands_over.ensures ∙ ap (given_or false) c.in_ok-flag.ensures

pub returns-clause-restores : goal.returns-clause-restores
unfolding hands_over listener_filters_of restores
returns-clause-restores c =
    let filters = c.elements.ensures ∙ ap listed c.in_ok-filters.ensures.value in
    λ i. (c.given_or-hands_over.ensures ∙ ap (given_or false) c.in_ok-flag.ensures) i
    || (c.in_ok-below.ensures.value ∙ ap (list_any is_original_dst) filters) i

pub returns-clause-broken : goal.returns-clause-broken
unfolding listener_filters_of redirection_broken
returns-clause-broken c =
    let filters = c.elements.ensures ∙ ap listed c.in_ok-filters.ensures.value in
    c.or.ensures ∙ (λ i. either_broken ((c.in_ok-below.ensures.broken ∙ ap (any_broken listener_filter_broken) filters) i) (record (c.none.ensures i) {
      v6 = or_same
          (c.is_wrong.ensures ∙ ap is_wrong c.in_ok-flag.ensures)
          (c.is_wrong-2.ensures ∙ c.in_ok-filters.ensures.wrong) i;
    }))

use Rattle.std.proofs.Common.{◌∙◌, ap}
use Rattle.ev_tree.specs.Forms.{listed}
use Rattle.ev_secret_json.specs.References.{each_joined}
use Rattle.ev_secret_json.specs.Extensions.{filter_extension}
use Rattle.ev_listener_json.specs.ListenerFilters.{listener_filters_of, hidden_where, listener_extensions}
use Rattle.ev_listener_json.proofs.listener_filters.find_listener_extensions.Goals as goal

pub returns : goal.returns
unfolding listener_filters_of listener_extensions
returns c =
    let found = c.in_ok-found.ensures ∙ ap (each_joined filter_extension) (c.elements.ensures ∙ ap listed c.in_ok-filters.ensures.value) in
    c.hide_where.ensures ∙ (λ i. hidden_where (c.in_ok-hides.ensures i) (found i))

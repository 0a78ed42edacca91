use Rattle.std.proofs.Common.{◌∙◌, ap}
use Rattle.ev_tree.specs.Forms.{listed}
use Rattle.ev_secret_json.specs.References.{each_joined}
use Rattle.ev_listener_json.specs.Filters.{filters_of}
use Rattle.ev_listener_json.specs.ChainExtensions.{network_extensions, chain_extensions}
use Rattle.ev_listener_json.proofs.chain_extensions.find_chain_extensions.Goals as goal

pub returns : goal.returns
unfolding filters_of chain_extensions
returns c = c.in_ok-found.ensures ∙ ap (each_joined network_extensions) (c.elements.ensures ∙ ap listed c.in_ok-filters.ensures.value)

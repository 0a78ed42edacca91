-- The extensions that the filters of a chain ask for.
use Rattle.std.proofs.Common.{◌≡◌, ◌∙◌, ap, refl}
use Rattle.std.specs.Prelude.{codes}
use Rattle.serde_json.specs.Data.{Data}
use Rattle.ev_tree.specs.Floats.{whole}
use Rattle.ev_secret_json.specs.References.{joined, each_joined}
use Rattle.ev_secret_json.specs.Extensions.{filter_extension}
use Rattle.ev_listener_json.specs.declared.filters.FilterKind.{FilterKind}
use Rattle.ev_listener_json.specs.declared.filters.FilterKind.TheVariants.{Manager, TcpProxy, Other}
use Rattle.ev_listener_json.specs.Filters.{config_of, filter_kind_of, filters_of}
use Rattle.ev_listener_json.specs.ChainExtensions.{manager_extensions, kind_extensions, network_extensions, chain_extensions}
use Rattle.ev_whole_laws.proofs.Filters.{config_of-whole, filter_kind_of-whole, filters_of-whole}
use Rattle.ev_whole_laws.proofs.Secrets.{each_joined-whole, in_list, filter_extension-whole}

manager_extensions-whole : (manager : Data) → manager_extensions (whole manager) ≡ manager_extensions manager
unfolding manager_extensions
manager_extensions-whole manager = in_list filter_extension filter_extension-whole (codes "http_filters") manager

pub kind_extensions-whole : (kind : FilterKind) (config : Data) → kind_extensions kind (whole config) ≡ kind_extensions kind config
kind_extensions-whole Manager config = manager_extensions-whole config
kind_extensions-whole TcpProxy config = refl
kind_extensions-whole Other config = refl

network_extensions-whole : (filter : Data) → network_extensions (whole filter) ≡ network_extensions filter
unfolding network_extensions
network_extensions-whole filter = λ i.
    joined (filter_extension-whole filter i)
    (((λ j. kind_extensions (filter_kind_of-whole filter j) (config_of-whole filter j)) ∙ kind_extensions-whole (filter_kind_of filter) (config_of filter)) i)

pub chain_extensions-whole : (chain : Data) → chain_extensions (whole chain) ≡ chain_extensions chain
unfolding chain_extensions
chain_extensions-whole chain = ap (each_joined network_extensions) (filters_of-whole chain) ∙ each_joined-whole network_extensions network_extensions-whole (filters_of chain)

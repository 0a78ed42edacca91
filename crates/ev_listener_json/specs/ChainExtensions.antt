-- The extensions that the filters of a chain ask for by name.
use Rattle.std.specs.Prelude.{codes}
use Rattle.serde_json.specs.Data.{Data}
use Rattle.ev_tree.specs.Forms.{is_wrong, listed, objects_of}
use Rattle.ev_secret_json.specs.declared.referring.References.{References}
use Rattle.ev_secret_json.specs.References.{none_referred, wrong_form, joined, each_joined}
use Rattle.ev_secret_json.specs.Extensions.{filter_extension}
use Rattle.ev_listener_json.specs.declared.filters.FilterKind.{FilterKind}
use Rattle.ev_listener_json.specs.declared.filters.FilterKind.TheVariants.{Manager, TcpProxy, Other}
use Rattle.ev_listener_json.specs.Filters.{config_of, filter_kind_of, filters_of}

-- the extensions of a connection manager's HTTP filters
unfoldable pub manager_extensions : Data → References
manager_extensions manager =
    joined (each_joined filter_extension (listed (objects_of (codes "http_filters") manager)))
    (wrong_form (is_wrong (objects_of (codes "http_filters") manager)))

-- those that the configuration of a filter of this kind asks for
abbrev pub kind_extensions : FilterKind → Data → References
kind_extensions Manager config = manager_extensions config
kind_extensions TcpProxy config = none_referred
kind_extensions Other config = none_referred

-- those of a network filter: its own, then those of its connection manager
unfoldable pub network_extensions : Data → References
network_extensions filter = joined (filter_extension filter) (kind_extensions (filter_kind_of filter) (config_of filter))

-- those of a chain's filters, in order
unfoldable pub chain_extensions : Data → References
chain_extensions chain = each_joined network_extensions (filters_of chain)

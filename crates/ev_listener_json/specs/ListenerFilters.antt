-- Listener filters (`envoy.config.listener.v3.ListenerFilter`):
-- those that restore the original destination of a redirected connection.
use Rattle.std.specs.Prelude.{ℕ, ◌||◌, List, [], Bool, false, if◌then◌else◌, codes}
use Rattle.std.specs.List.{list_any}
use Rattle.std.specs.Str.{bytes_eq}
use Rattle.serde_json.specs.Data.{Data}
use Rattle.ev_tree.specs.declared.broken.BrokenRules.{BrokenRules}
use Rattle.ev_tree.specs.Forms.{is_wrong, is_absent, given_or, listed, text_of, boolean_of, object_of, objects_of}
use Rattle.ev_tree.specs.Broken.{none_broken, either_broken, any_broken}
use Rattle.ev_secret_json.specs.declared.referring.References.{References}
use Rattle.ev_secret_json.specs.References.{each_joined}
use Rattle.ev_secret_json.specs.Extensions.{filter_extension}
use Rattle.ev_listener_json.specs.Filters.{config_of}
use Rattle.ev_listener_json.specs.Chains.{has_api}

-- the listener filters, in order
unfoldable pub listener_filters_of : Data → List Data
listener_filters_of listener = listed (objects_of (codes "listener_filters") listener)

-- the type of the configuration of the filter that restores
abbrev pub original_dst_type : List ℕ
original_dst_type = codes "type.googleapis.com/envoy.extensions.filters.listener.original_dst.v3.OriginalDst"

-- the name of that filter
abbrev pub original_dst_name : List ℕ
original_dst_name = codes "envoy.filters.listener.original_dst"

-- by the type of its configuration, or by its name where it has none
abbrev pub is_original_dst_by : Bool → List ℕ → List ℕ → Bool
is_original_dst_by unconfigured name type = if unconfigured then bytes_eq name original_dst_name else bytes_eq type original_dst_type

-- the filter restores; the form of its name isn't judged
unfoldable pub is_original_dst : Data → Bool
is_original_dst filter = is_original_dst_by
    (is_absent (object_of (codes "typed_config") filter))
    (given_or [] (text_of (codes "name") filter))
    (given_or [] (text_of (codes "@type") (config_of filter)))

-- what a filter breaks: wrong forms of its configuration alone
unfoldable pub listener_filter_broken : Data → BrokenRules
listener_filter_broken filter = record none_broken {
  v6 = is_wrong (object_of (codes "typed_config") filter) || is_wrong (text_of (codes "@type") (config_of filter));
}

-- ---- what a listener does with a redirected connection

-- it hands it over
unfoldable pub hands_over : Data → Bool
hands_over listener = given_or false (boolean_of (codes "use_original_dst") listener)

-- it takes it as one to the address that it was meant for
unfoldable pub restores : Data → Bool
restores listener = hands_over listener || list_any is_original_dst (listener_filters_of listener)

-- what these members break
unfoldable pub redirection_broken : Data → BrokenRules
redirection_broken listener = either_broken (any_broken listener_filter_broken (listener_filters_of listener)) (record none_broken {
  v6 = is_wrong (boolean_of (codes "use_original_dst") listener) || is_wrong (objects_of (codes "listener_filters") listener);
})

-- ---- the extensions that its listener filters ask for

-- these references without their list where it is hidden: what they break is judged all the same
abbrev pub hidden_where : Bool → References → References
hidden_where hides found = record { list = if hides then [] else found.list; broken = found.broken }

-- An API listener waits for its manager's extensions alone.
unfoldable pub listener_extensions : Data → References
listener_extensions listener = hidden_where (has_api listener) (each_joined filter_extension (listener_filters_of listener))

-- Listener filters: what a listener does with redirected connections, and the extensions that they ask for.
use Rattle.std.proofs.Common.{◌≡◌, ◌∙◌, ap}
use Rattle.std.specs.Prelude.{◌||◌, [], map, false, codes}
use Rattle.std.specs.List.{list_any}
use Rattle.serde_json.specs.Data.{Data}
use Rattle.ev_tree.specs.Floats.{whole}
use Rattle.ev_tree.specs.Forms.{is_wrong, given_or, text_of}
use Rattle.ev_tree.specs.Broken.{none_broken, either_broken, any_broken}
use Rattle.ev_secret_json.specs.References.{each_joined}
use Rattle.ev_secret_json.specs.Extensions.{filter_extension}
use Rattle.ev_listener_json.specs.Filters.{config_of}
use Rattle.ev_listener_json.specs.ListenerFilters.{listener_filters_of, is_original_dst_by, is_original_dst, listener_filter_broken, hands_over, restores, redirection_broken, hidden_where, listener_extensions}
use Rattle.ev_whole_laws.proofs.Chains.{has_api-whole}
use Rattle.ev_whole_laws.proofs.Secrets.{each_joined-whole, filter_extension-whole}
use Rattle.ev_whole_laws.proofs.Forms.{boolean_of-whole, inside-object, listed-objects, object-is_absent, object-is_wrong, objects-is_wrong, text_of-whole}
use Rattle.ev_whole_laws.proofs.Parts.{any_broken-whole, list_any-whole}

-- the type of a filter's configuration
type_of-whole : (filter : Data) → text_of (codes "@type") (config_of (whole filter)) ≡ text_of (codes "@type") (config_of filter)
unfolding config_of
type_of-whole filter = ap (text_of (codes "@type")) (inside-object (codes "typed_config") filter) ∙ text_of-whole (codes "@type") (config_of filter)

is_original_dst-whole : (filter : Data) → is_original_dst (whole filter) ≡ is_original_dst filter
unfolding is_original_dst
is_original_dst-whole filter = λ i. is_original_dst_by
    (object-is_absent (codes "typed_config") filter i)
    (given_or [] (text_of-whole (codes "name") filter i))
    (given_or [] (type_of-whole filter i))

listener_filter_broken-whole : (filter : Data) → listener_filter_broken (whole filter) ≡ listener_filter_broken filter
unfolding listener_filter_broken
listener_filter_broken-whole filter = λ i. record none_broken {
  v6 = object-is_wrong (codes "typed_config") filter i || is_wrong (type_of-whole filter i);
}

filters_of-whole : (listener : Data) → listener_filters_of (whole listener) ≡ map whole (listener_filters_of listener)
unfolding listener_filters_of
filters_of-whole listener = listed-objects (codes "listener_filters") listener

pub hands_over-whole : (listener : Data) → hands_over (whole listener) ≡ hands_over listener
unfolding hands_over
hands_over-whole listener = λ i. given_or false (boolean_of-whole (codes "use_original_dst") listener i)

pub restores-whole : (listener : Data) → restores (whole listener) ≡ restores listener
unfolding restores
restores-whole listener = λ i. hands_over-whole listener i
    || (ap (list_any is_original_dst) (filters_of-whole listener) ∙ list_any-whole is_original_dst is_original_dst-whole (listener_filters_of listener)) i

pub redirection_broken-whole : (listener : Data) → redirection_broken (whole listener) ≡ redirection_broken listener
unfolding redirection_broken
redirection_broken-whole listener = λ i. either_broken
    ((ap (any_broken listener_filter_broken) (filters_of-whole listener) ∙ any_broken-whole listener_filter_broken listener_filter_broken-whole (listener_filters_of listener)) i)
    (record none_broken {
      v6 = is_wrong (boolean_of-whole (codes "use_original_dst") listener i) || objects-is_wrong (codes "listener_filters") listener i;
    })

pub listener_extensions-whole : (listener : Data) → listener_extensions (whole listener) ≡ listener_extensions listener
unfolding listener_extensions
listener_extensions-whole listener = λ i. hidden_where (has_api-whole listener i)
    ((ap (each_joined filter_extension) (filters_of-whole listener) ∙ each_joined-whole filter_extension filter_extension-whole (listener_filters_of listener)) i)

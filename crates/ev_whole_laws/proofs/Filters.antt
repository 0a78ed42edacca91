-- Network filters and filter chains.
use Rattle.std.proofs.Common.{◌≡◌, ◌∙◌, ap, refl}
use Rattle.std.specs.Prelude.{◌||◌, map, not, Some, is_some, codes}
use Rattle.serde_json.specs.Data.{Data}
use Rattle.ev_types.specs.declared.listeners.Serve.TheVariants.{Tcp}
use Rattle.ev_types.specs.declared.events.Profile.{Profile}
use Rattle.ev_types.specs.declared.events.Profile.TheVariants.{Own}
use Rattle.ev_tree.specs.Forms.{is_wrong, inside, text_of, object_of}
use Rattle.ev_tree.specs.Broken.{none_broken, either_broken, any_broken}
use Rattle.ev_tree.specs.Counts.{exactly_one}
use Rattle.ev_listener_json.specs.declared.filters.FilterKind.{FilterKind}
use Rattle.ev_listener_json.specs.declared.filters.FilterKind.TheVariants.{Manager, TcpProxy, Other}
use Rattle.ev_listener_json.specs.Parts.{first_of}
use Rattle.ev_listener_json.specs.Members.{has_member}
use Rattle.ev_listener_json.specs.Filters.{kind_in, config_of, filter_kind_of, config_serve, config_broken, filter_serve, filter_serves, filter_broken, filters_of, chain_serve, chain_broken}
use Rattle.ev_tree.specs.Floats.{whole}
use Rattle.ev_whole_laws.proofs.Forms.{inside-object, listed-objects, object-is_wrong, objects-is_wrong, text_of-whole}
use Rattle.ev_whole_laws.proofs.Managers.{manager_broken-whole, manager_serve-whole}
use Rattle.ev_whole_laws.proofs.Members.{has_member-whole}
use Rattle.ev_whole_laws.proofs.Parts.{any_broken-whole, map-whole}
use Rattle.ev_whole_laws.proofs.Targets.{proxy_broken_in-whole, target_of-whole}

pub config_of-whole : (filter : Data) → config_of (whole filter) ≡ whole (config_of filter)
unfolding config_of
config_of-whole filter = inside-object (codes "typed_config") filter

pub filter_kind_of-whole : (filter : Data) → filter_kind_of (whole filter) ≡ filter_kind_of filter
unfolding filter_kind_of
filter_kind_of-whole filter = λ i. kind_in ((ap (text_of (codes "@type")) (config_of-whole filter) ∙ text_of-whole (codes "@type") (config_of filter)) i)

pub config_serve-whole : (profile : Profile) (kind : FilterKind) (config : Data) → config_serve profile kind (whole config) ≡ config_serve profile kind config
config_serve-whole profile Manager config = λ i. Some (manager_serve-whole profile config i)
config_serve-whole profile TcpProxy config = λ i. Some (Tcp (target_of-whole config i))
config_serve-whole profile Other config = refl

pub config_broken-whole : (profile : Profile) (kind : FilterKind) (config : Data) → config_broken profile kind (whole config) ≡ config_broken profile kind config
config_broken-whole profile Manager config = manager_broken-whole profile config
config_broken-whole profile TcpProxy config = proxy_broken_in-whole profile config
config_broken-whole profile Other config = refl

pub filter_serve-whole : (profile : Profile) (filter : Data) → filter_serve profile (whole filter) ≡ filter_serve profile filter
unfolding filter_serve
filter_serve-whole profile filter =
    (λ i. config_serve profile (filter_kind_of-whole filter i) (config_of-whole filter i))
    ∙ config_serve-whole profile (filter_kind_of filter) (config_of filter)

pub filter_serves-whole : (profile : Profile) (filter : Data) → filter_serves profile (whole filter) ≡ filter_serves profile filter
filter_serves-whole profile filter = λ i. is_some (filter_serve-whole profile filter i)

parts_broken : (profile : Profile) (filter : Data) → config_broken profile (filter_kind_of (whole filter)) (config_of (whole filter)) ≡ config_broken profile (filter_kind_of filter) (config_of filter)
parts_broken profile filter =
    (λ i. config_broken profile (filter_kind_of-whole filter i) (config_of-whole filter i))
    ∙ config_broken-whole profile (filter_kind_of filter) (config_of filter)

pub filter_broken-whole : (profile : Profile) (filter : Data) → filter_broken profile (whole filter) ≡ filter_broken profile filter
unfolding filter_broken
filter_broken-whole profile filter = λ i. either_broken (parts_broken profile filter i) (record none_broken {
  v6 =
      object-is_wrong (codes "typed_config") filter i
      || is_wrong ((ap (text_of (codes "@type")) (config_of-whole filter) ∙ text_of-whole (codes "@type") (config_of filter)) i);
})

pub filters_of-whole : (chain : Data) → filters_of (whole chain) ≡ map whole (filters_of chain)
unfolding filters_of
filters_of-whole chain = listed-objects (codes "filters") chain

pub chain_serve-whole : (chain : Data) → chain_serve (whole chain) ≡ chain_serve chain
unfolding chain_serve
chain_serve-whole chain = λ i. first_of ((ap (map (filter_serve Own)) (filters_of-whole chain) ∙ map-whole (filter_serve Own) (filter_serve-whole Own) (filters_of chain)) i)

pub chain_broken-whole : (chain : Data) → chain_broken (whole chain) ≡ chain_broken chain
unfolding chain_broken
chain_broken-whole chain = λ i. either_broken ((ap (any_broken (filter_broken Own)) (filters_of-whole chain) ∙ any_broken-whole (filter_broken Own) (filter_broken-whole Own) (filters_of chain)) i) (record none_broken {
  v6 = object-is_wrong (codes "filter_chain_match") chain i || objects-is_wrong (codes "filters") chain i;
  v16 = (ap has_member (inside-object (codes "filter_chain_match") chain) ∙ has_member-whole (inside (object_of (codes "filter_chain_match") chain))) i;
  v17 = not (exactly_one ((ap (map (filter_serves Own)) (filters_of-whole chain) ∙ map-whole (filter_serves Own) (filter_serves-whole Own) (filters_of chain)) i));
})

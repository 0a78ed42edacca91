-- What filter chains ask for by each criterion, when two matches are equal,
-- and when two chains take a connection in common.
-- Source: Envoy's `FilterChainMatch`.
use Rattle.std.specs.Prelude.{ℕ, ◌≡◌, ◌&&◌, ◌||◌, ◌==◌, Bool, true, false, List, [], ◌∷◌, option_to_list, refl}
use Rattle.std.specs.Bool.{Decides}
use Rattle.std.specs.List.{list_any}
use Rattle.std.specs.Str.{bytes_eq}
use Rattle.std.specs.Option.{option_eq}
use Rattle.std.proofs.Common.{ap}
use lib.Pointwise.{pointwise, pointwise_decides}
use Rattle.ev_types.specs.declared.ips.CidrRange.{CidrRange}
use Rattle.ev_types.specs.declared.filter_chains.FilterChainMatch.{FilterChainMatch}
use Rattle.ev_types.specs.declared.filter_chains.SourceType.{SourceType}
use Rattle.ev_types.specs.declared.filter_chains.SourceType.TheVariants.{SameIpOrLoopback, External}
use Rattle.ev_types.specs.Ips.{cidr_range_same, cidr_range_decides}
use Rattle.ev_types.specs.Same.{texts_same, both_decide, decides_as, bytes_decide, numbers_decide, option_decides}

-- the same number
abbrev pub nat_same : ℕ → ℕ → Bool
nat_same a b = a == b

-- the same type of source
abbrev pub source_type_same : SourceType → SourceType → Bool
source_type_same SameIpOrLoopback SameIpOrLoopback = true
source_type_same External External = true
source_type_same a b = false

-- the same values by each criterion of where a connection goes and what it offers, in the same order
abbrev pub same_for_destination : FilterChainMatch → FilterChainMatch → Bool
same_for_destination a b =
    option_eq nat_same a.destination_port b.destination_port
    && pointwise cidr_range_same a.prefix_ranges b.prefix_ranges
    && texts_same a.server_names b.server_names
    && option_eq bytes_eq a.transport_protocol b.transport_protocol
    && texts_same a.application_protocols b.application_protocols

-- the same values by each criterion of where it comes from, in the same order
abbrev pub same_for_source : FilterChainMatch → FilterChainMatch → Bool
same_for_source a b =
    pointwise cidr_range_same a.direct_source_prefix_ranges b.direct_source_prefix_ranges
    && option_eq source_type_same a.source_type b.source_type
    && pointwise cidr_range_same a.source_prefix_ranges b.source_prefix_ranges
    && pointwise nat_same a.source_ports b.source_ports

-- the same values by each criterion, in the same order
abbrev pub filter_chain_match_same : FilterChainMatch → FilterChainMatch → Bool
filter_chain_match_same a b = same_for_destination a b && same_for_source a b

-- what a match asks for by each criterion: one value or more, or nothing
abbrev pub ports : FilterChainMatch → List ℕ
ports m = option_to_list m.destination_port

abbrev pub prefix_ranges : FilterChainMatch → List CidrRange
prefix_ranges m = m.prefix_ranges

abbrev pub server_names : FilterChainMatch → List (List ℕ)
server_names m = m.server_names

abbrev pub transports : FilterChainMatch → List (List ℕ)
transports m = option_to_list m.transport_protocol

abbrev pub application_protocols : FilterChainMatch → List (List ℕ)
application_protocols m = m.application_protocols

abbrev pub direct_ranges : FilterChainMatch → List CidrRange
direct_ranges m = m.direct_source_prefix_ranges

abbrev pub source_types : FilterChainMatch → List SourceType
source_types m = option_to_list m.source_type

abbrev pub source_ranges : FilterChainMatch → List CidrRange
source_ranges m = m.source_prefix_ranges

abbrev pub source_ports : FilterChainMatch → List ℕ
source_ports m = m.source_ports

-- some value is asked for
abbrev pub has_any : {A : Type 0} → List A → Bool
has_any [] = false
has_any (value ∷ values) = true

-- it asks where a connection comes from, by one of the four criteria
abbrev pub asks_source : FilterChainMatch → Bool
asks_source m =
    has_any (direct_ranges m) || has_any (source_types m) || has_any (source_ranges m) || has_any (source_ports m)

-- the value is among these
abbrev pub has_value : {A : Type 0} → (A → A → Bool) → List A → A → Bool
has_value same values value = list_any (same value) values

-- two lists have a value in common, or both have none
abbrev pub overlap : {A : Type 0} → (A → A → Bool) → List A → List A → Bool
overlap same [] [] = true
overlap same a b = list_any (has_value same a) b

-- two chains may take a connection to one place: by each criterion of where it goes and what it offers they overlap
abbrev pub collide_for_destination : FilterChainMatch → FilterChainMatch → Bool
collide_for_destination a b =
    overlap nat_same (ports a) (ports b)
    && overlap cidr_range_same a.prefix_ranges b.prefix_ranges
    && overlap bytes_eq a.server_names b.server_names
    && overlap bytes_eq (transports a) (transports b)
    && overlap bytes_eq a.application_protocols b.application_protocols

-- two chains may take a connection from one source: by each criterion of where it comes from they overlap
abbrev pub collide_for_source : FilterChainMatch → FilterChainMatch → Bool
collide_for_source a b =
    overlap cidr_range_same (direct_ranges a) (direct_ranges b)
    && overlap source_type_same (source_types a) (source_types b)
    && overlap cidr_range_same (source_ranges a) (source_ranges b)
    && overlap nat_same (source_ports a) (source_ports b)

-- two chains may take one connection
abbrev pub collide : FilterChainMatch → FilterChainMatch → Bool
collide a b = collide_for_destination a b && collide_for_source a b

-- some chain collides with one after it
abbrev pub has_collision : List FilterChainMatch → Bool
has_collision [] = false
has_collision (m ∷ ms) = list_any (collide m) ms || has_collision ms

pub source_type_decides : (a b : SourceType) → Decides (source_type_same a b) (a ≡ b)
source_type_decides SameIpOrLoopback SameIpOrLoopback = (λ h. refl, λ e. refl)
source_type_decides External External = (λ h. refl, λ e. refl)
source_type_decides a b = (λ h. cc, λ e. cc)

pub filter_chain_match_decides : (a b : FilterChainMatch) → Decides (filter_chain_match_same a b) (a ≡ b)
filter_chain_match_decides a b = decides_as (both_decide
    (both_decide (both_decide (both_decide (both_decide
    (option_decides numbers_decide a.destination_port b.destination_port)
    (pointwise_decides cidr_range_decides a.prefix_ranges b.prefix_ranges))
    (pointwise_decides bytes_decide a.server_names b.server_names))
    (option_decides bytes_decide a.transport_protocol b.transport_protocol))
    (pointwise_decides bytes_decide a.application_protocols b.application_protocols))
    (both_decide (both_decide (both_decide
    (pointwise_decides cidr_range_decides a.direct_source_prefix_ranges b.direct_source_prefix_ranges)
    (option_decides source_type_decides a.source_type b.source_type))
    (pointwise_decides cidr_range_decides a.source_prefix_ranges b.source_prefix_ranges))
    (pointwise_decides numbers_decide a.source_ports b.source_ports)))
    (λ p. λ i. record {
      destination_port = p.0.0.0.0.0 i;
      prefix_ranges = p.0.0.0.0.1 i;
      server_names = p.0.0.0.1 i;
      transport_protocol = p.0.0.1 i;
      application_protocols = p.0.1 i;
      direct_source_prefix_ranges = p.1.0.0.0 i;
      source_type = p.1.0.0.1 i;
      source_prefix_ranges = p.1.0.1 i;
      source_ports = p.1.1 i;
    })
    (λ e. (
      (
        (
          (
            (ap (λ (m : FilterChainMatch). m.destination_port) e, ap (λ (m : FilterChainMatch). m.prefix_ranges) e),
            ap (λ (m : FilterChainMatch). m.server_names) e,
          ),
          ap (λ (m : FilterChainMatch). m.transport_protocol) e,
        ),
        ap (λ (m : FilterChainMatch). m.application_protocols) e,
      ),
      (
        (
          (ap (λ (m : FilterChainMatch). m.direct_source_prefix_ranges) e, ap (λ (m : FilterChainMatch). m.source_type) e),
          ap (λ (m : FilterChainMatch). m.source_prefix_ranges) e,
        ),
        ap (λ (m : FilterChainMatch). m.source_ports) e,
      ),
    ))

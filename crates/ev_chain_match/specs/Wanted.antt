-- What the filter chains that are left have to ask for, as they are narrowed by one criterion after the other.
use Rattle.std.specs.Prelude.{ℕ, ◌==◌, ◌&&◌, Bool, true, nat_lt, if◌then◌else◌, List, [], ◌∷◌, ◌++◌, filter, find, length, codes, Option, Some, None}
use Rattle.std.specs.Str.{bytes_eq}
use Rattle.ev_types.specs.FilterChains.{nat_same, source_type_same, has_value, ports, server_names, transports, application_protocols, source_types, source_ports}
use Rattle.ev_types.specs.Ips.{cidr_range_same}
use Rattle.ev_types.specs.declared.filter_chains.FilterChainMatch.{FilterChainMatch}
use Rattle.ev_types.specs.declared.ips.CidrRange.{CidrRange}
use Rattle.ev_model.specs.Narrowing.{is_asked}
use Rattle.ev_model.specs.declared.pictures.ServedChain.{ServedChain}
use Rattle.ev_chain_match.specs.RangeCriteria.{ranges_by}
use Rattle.ev_chain_match.specs.declared.criterion.RangeCriterion.{RangeCriterion}
use Rattle.ev_chain_match.specs.declared.criterion.RangeCriterion.TheVariants.{Destination, DirectSource, Source}
use Rattle.ev_chain_match.specs.declared.criteria.Criteria.{Criteria}
use Rattle.ev_chain_match.specs.declared.criteria.Wanted.{Wanted}
use Rattle.ev_chain_match.specs.declared.criteria.Wanted.TheVariants.{Anything, Nothing, Value}

-- what a chain asks for by a criterion is what is wanted
abbrev pub is_met : {A : Type 0} → (A → A → Bool) → Wanted A → List A → Bool
is_met same Anything values = true
is_met same Nothing values = length values == 0
is_met same (Value value) values = has_value same values value

-- a chain's match meets each criterion of where a connection goes and what it offers
abbrev pub meets_destination : Criteria → FilterChainMatch → Bool
meets_destination criteria m =
    is_met bytes_eq criteria.protocol (application_protocols m)
    && (is_met bytes_eq criteria.transport (transports m)
    && (is_met bytes_eq criteria.server_name (server_names m)
    && (is_met cidr_range_same criteria.range (ranges_by Destination m)
    && is_met nat_same criteria.port (ports m))))

-- a chain's match meets each criterion
abbrev pub is_left : Criteria → FilterChainMatch → Bool
is_left criteria m =
    is_met nat_same criteria.source_port (source_ports m)
    && (is_met cidr_range_same criteria.source_range (ranges_by Source m)
    && (is_met source_type_same criteria.source_type (source_types m)
    && (is_met cidr_range_same criteria.direct_range (ranges_by DirectSource m)
    && meets_destination criteria m)))

-- the chains that are left
abbrev pub left_by : Criteria → List ServedChain → List ServedChain
left_by criteria chains = filter (λ (c : ServedChain). is_left criteria c.criteria) chains

-- the value that was found, or else nothing, is wanted
abbrev pub wanted_of : {A : Type 0} → Option A → Wanted A
wanted_of None = Nothing
wanted_of (Some value) = Value value

-- the first of these values that one of the chains asks for
abbrev pub first_asked : {A : Type 0} → (A → A → Bool) → (FilterChainMatch → List A) → List ServedChain → List A → Option A
first_asked same values chains brought = find (is_asked same values chains) brought

-- the first of these ranges that one of the chains that are left asks for by a criterion
abbrev pub first_range : RangeCriterion → Criteria → List ServedChain → List CidrRange → Option CidrRange
first_range by criteria chains ranges = first_asked cidr_range_same (ranges_by by) (left_by criteria chains) ranges

-- the first of these server names that one of them asks for
abbrev pub first_name : Criteria → List ServedChain → List (List ℕ) → Option (List ℕ)
first_name criteria chains names = first_asked bytes_eq server_names (left_by criteria chains) names

-- the first of these application protocols that one of them asks for
abbrev pub first_protocol : Criteria → List ServedChain → List (List ℕ) → Option (List ℕ)
first_protocol criteria chains protocols = first_asked bytes_eq application_protocols (left_by criteria chains) protocols

-- the chain asks for a range by a criterion
abbrev pub asks_range : RangeCriterion → FilterChainMatch → Bool
asks_range by m = nat_lt 0 (length (ranges_by by m))

-- a text that begins with a dot, after a star
abbrev pub wildcard_of : List ℕ → List (List ℕ)
wildcard_of [] = []
wildcard_of (byte ∷ rest) = if byte == 46 then (codes "*" ++ byte ∷ rest) ∷ [] else []

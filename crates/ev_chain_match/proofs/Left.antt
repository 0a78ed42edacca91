-- The filter chains that are left, one criterion further.
use Rattle.std.proofs.Common.{◌≡◌, ℕ, ◌&&◌, ◌||◌, ◌==◌, Bool, true, false, cond, List, [], ◌∷◌, length, filter, find, Option, Some, None, refl, sym, ap, ◌∙◌}
use Rattle.std.specs.List.{list_any}
use Rattle.std.specs.Str.{bytes_eq, str_to_ascii_lowercase}
use Rattle.ev_types.specs.FilterChains.{nat_same, has_value, ports, prefix_ranges, server_names, transports, application_protocols, source_type_same, direct_ranges, source_types, source_ranges, source_ports}
use Rattle.ev_types.specs.Ips.{cidr_range_same, ranges_about}
use Rattle.ev_types.specs.declared.filter_chains.FilterChainMatch.{FilterChainMatch}
use Rattle.ev_types.specs.declared.ips.CidrRange.{CidrRange}
use Rattle.ev_types.specs.declared.events.Peer.{Peer}
use Rattle.ev_types.specs.declared.filter_chains.SourceType.{SourceType}
use Rattle.ev_types.specs.declared.ips.Ip.{Ip}
use Rattle.ev_model.specs.Narrowing.{Incoming, is_asked, chains_with, narrowed, names_brought, transport_of, source_type_of, by_port, by_address, by_server_name, by_transport, by_protocol, by_destination, by_direct_source, by_source_type, by_source_range, by_source_port, by_source}
use Rattle.ev_model.specs.declared.pictures.ServedChain.{ServedChain}
use Rattle.ev_chain_match.specs.Unnarrowed.{anything, ignores_source}
use Rattle.ev_chain_match.specs.Wanted.{is_met, left_by, meets_destination, wanted_of, first_asked, first_name, first_protocol, first_range}
use Rattle.ev_chain_match.specs.declared.criteria.Criteria.{Criteria}
use Rattle.ev_chain_match.specs.declared.criterion.RangeCriterion.TheVariants.{Destination, DirectSource, Source}
use Rattle.ev_chain_match.specs.declared.criteria.Wanted.{Wanted}

-- a filter that all pass
filter_all : {X : Type 0} (xs : List X) → filter (λ x. true) xs ≡ xs
filter_all [] = refl
filter_all (x ∷ xs) = ap (λ ys. x ∷ ys) (filter_all xs)

-- a filter of what a filter leaves
filter_twice : {X : Type 0} (p q : X → Bool) (xs : List X) → filter q (filter p xs) ≡ filter (λ x. q x && p x) xs
filter_twice p q [] = refl
filter_twice {X} p q (x ∷ xs) = by (p x) (q x) refl (filter_twice p q xs)
  where
    both : List X
    both = filter (λ y. q y && p y) xs

    by : (a b : Bool) → q x ≡ b → filter q (filter p xs) ≡ both → filter q (cond a (x ∷ filter p xs) (filter p xs)) ≡ cond (b && a) (x ∷ both) both
    by true true is rest = (λ i. cond (is i) (x ∷ filter q (filter p xs)) (filter q (filter p xs))) ∙ ap (λ ys. x ∷ ys) rest
    by true false is rest = (λ i. cond (is i) (x ∷ filter q (filter p xs)) (filter q (filter p xs))) ∙ rest
    by false true is rest = rest
    by false false is rest = rest

-- a test of what a filter leaves
pub any_left : {X : Type 0} (p q : X → Bool) (xs : List X) → list_any q (filter p xs) ≡ list_any (λ x. p x && q x) xs
any_left p q [] = refl
any_left p q (x ∷ xs) = by (p x) (any_left p q xs)
  where
    by : (a : Bool) → list_any q (filter p xs) ≡ list_any (λ y. p y && q y) xs
        → list_any q (cond a (x ∷ filter p xs) (filter p xs)) ≡ (a && q x) || list_any (λ y. p y && q y) xs
    by true rest = ap (λ b. q x || b) rest
    by false rest = rest

-- narrowed by the first criterion
narrowed_first : {A : Type 0} (same : A → A → Bool) (values : FilterChainMatch → List A) (brought : List A) (chains : List ServedChain)
    → filter (λ (c : ServedChain). is_met same (wanted_of (first_asked same values chains brought)) (values c.criteria)) chains ≡ narrowed same values brought chains
narrowed_first {A} same values brought chains = by (find (is_asked same values chains) brought)
  where
    by : (found : Option A) → filter (λ (c : ServedChain). is_met same (wanted_of found) (values c.criteria)) chains ≡ chains_with same values chains found
    by None = refl
    by (Some value) = refl

-- narrowed by one criterion more
narrowed_more : {A : Type 0} (same : A → A → Bool) (values : FilterChainMatch → List A) (brought : List A) (p : ServedChain → Bool) (chains : List ServedChain)
    → filter (λ (c : ServedChain). is_met same (wanted_of (first_asked same values (filter p chains) brought)) (values c.criteria) && p c) chains
    ≡ narrowed same values brought (filter p chains)
narrowed_more {A} same values brought p chains = by (find (is_asked same values (filter p chains)) brought)
  where
    by : (found : Option A) → filter (λ (c : ServedChain). is_met same (wanted_of found) (values c.criteria) && p c) chains
        ≡ chains_with same values (filter p chains) found
    by None = sym (filter_twice p (λ (c : ServedChain). length (values c.criteria) == 0) chains)
    by (Some value) = sym (filter_twice p (λ (c : ServedChain). has_value same (values c.criteria) value) chains)

-- narrowed by all criteria of where a connection goes and what it offers, one after the other
pub narrowed_by_destination : (chains : List ServedChain) (incoming : Incoming) (port : Wanted ℕ) (range : Wanted CidrRange) (name transport protocol : Wanted (List ℕ))
    → port ≡ wanted_of (first_asked nat_same ports (left_by (anything) chains) (incoming.port ∷ []))
    → range ≡ wanted_of (first_range Destination (record anything { port = port }) chains (ranges_about incoming.ip))
    → name ≡ wanted_of (first_name (record anything { port = port; range = range }) chains (names_brought (str_to_ascii_lowercase incoming.server_name)))
    → transport ≡ wanted_of (first_asked bytes_eq transports (left_by (record anything { port = port; range = range; server_name = name }) chains) (transport_of incoming.tls ∷ []))
    → protocol ≡ wanted_of (first_protocol (record anything { port = port; range = range; server_name = name; transport = transport }) chains incoming.alpn)
    → left_by (record anything { port = port; range = range; server_name = name; transport = transport; protocol = protocol }) chains ≡ by_destination incoming chains
narrowed_by_destination chains incoming port range name transport protocol at_port at_range at_name at_transport at_protocol =
    let p1 : ServedChain → Bool = λ c. is_met nat_same port (ports c.criteria) in
    let p2 : ServedChain → Bool = λ c. is_met cidr_range_same range (prefix_ranges c.criteria) && p1 c in
    let p3 : ServedChain → Bool = λ c. is_met bytes_eq name (server_names c.criteria) && p2 c in
    let p4 : ServedChain → Bool = λ c. is_met bytes_eq transport (transports c.criteria) && p3 c in
    let one : filter p1 chains ≡ by_port incoming chains =
    ap (λ (w : Wanted ℕ). filter (λ (c : ServedChain). is_met nat_same w (ports c.criteria)) chains)
    (at_port ∙ ap (λ cs. wanted_of (first_asked nat_same ports cs (incoming.port ∷ []))) (filter_all chains))
    ∙ narrowed_first nat_same ports (incoming.port ∷ []) chains in
    let two : filter p2 chains ≡ by_address incoming (by_port incoming chains) =
    ap (λ (w : Wanted CidrRange). filter (λ (c : ServedChain). is_met cidr_range_same w (prefix_ranges c.criteria) && p1 c) chains) at_range
    ∙ narrowed_more cidr_range_same prefix_ranges (ranges_about incoming.ip) p1 chains
    ∙ ap (by_address incoming) one in
    let three : filter p3 chains ≡ by_server_name incoming (by_address incoming (by_port incoming chains)) =
    ap (λ (w : Wanted (List ℕ)). filter (λ (c : ServedChain). is_met bytes_eq w (server_names c.criteria) && p2 c) chains) at_name
    ∙ narrowed_more bytes_eq server_names (names_brought (str_to_ascii_lowercase incoming.server_name)) p2 chains
    ∙ ap (by_server_name incoming) two in
    let four : filter p4 chains ≡ by_transport incoming (by_server_name incoming (by_address incoming (by_port incoming chains))) =
    ap (λ (w : Wanted (List ℕ)). filter (λ (c : ServedChain). is_met bytes_eq w (transports c.criteria) && p3 c) chains) at_transport
    ∙ narrowed_more bytes_eq transports (transport_of incoming.tls ∷ []) p3 chains
    ∙ ap (by_transport incoming) three in
    ap (λ (w : Wanted (List ℕ)). filter (λ (c : ServedChain). is_met bytes_eq w (application_protocols c.criteria) && p4 c) chains) at_protocol
    ∙ narrowed_more bytes_eq application_protocols incoming.alpn p4 chains
    ∙ ap (by_protocol incoming) four

-- narrowed by all criteria of where it comes from
pub narrowed_by_source : (chains : List ServedChain) (criteria : Criteria) (local_ip : Option Ip) (source : Peer)
    (direct : Wanted CidrRange) (kind : Wanted SourceType) (range : Wanted CidrRange) (port : Wanted ℕ)
    → ignores_source criteria
    → direct ≡ wanted_of (first_range DirectSource criteria chains (ranges_about source.ip))
    → kind ≡ wanted_of (first_asked source_type_same source_types (left_by (record criteria { direct_range = direct }) chains) (source_type_of local_ip source.ip ∷ []))
    → range ≡ wanted_of (first_range Source (record criteria { direct_range = direct; source_type = kind }) chains (ranges_about source.ip))
    → port ≡ wanted_of (first_asked nat_same source_ports (left_by (record criteria { direct_range = direct; source_type = kind; source_range = range }) chains) (source.host.port ∷ []))
    → left_by (record criteria { direct_range = direct; source_type = kind; source_range = range; source_port = port }) chains
    ≡ by_source local_ip (Some source) (left_by criteria chains)
narrowed_by_source chains criteria local_ip source direct kind range port ignores at_direct at_kind at_range at_port =
    let p0 : ServedChain → Bool = λ c. meets_destination criteria c.criteria in
    let p1 : ServedChain → Bool = λ c. is_met cidr_range_same direct (direct_ranges c.criteria) && p0 c in
    let p2 : ServedChain → Bool = λ c. is_met source_type_same kind (source_types c.criteria) && p1 c in
    let p3 : ServedChain → Bool = λ c. is_met cidr_range_same range (source_ranges c.criteria) && p2 c in
    let here : left_by criteria chains ≡ filter p0 chains = ap (λ (k : Criteria). left_by k chains) ignores in
    let one : filter p1 chains ≡ by_direct_source source (left_by criteria chains) =
    ap (λ (w : Wanted CidrRange). filter (λ (c : ServedChain). is_met cidr_range_same w (direct_ranges c.criteria) && p0 c) chains)
    (at_direct ∙ ap (λ cs. wanted_of (first_asked cidr_range_same direct_ranges cs (ranges_about source.ip))) here)
    ∙ narrowed_more cidr_range_same direct_ranges (ranges_about source.ip) p0 chains
    ∙ ap (by_direct_source source) (sym here) in
    let two : filter p2 chains ≡ by_source_type local_ip source (by_direct_source source (left_by criteria chains)) =
    ap (λ (w : Wanted SourceType). filter (λ (c : ServedChain). is_met source_type_same w (source_types c.criteria) && p1 c) chains)
    (at_kind ∙ ap (λ (k : Criteria). wanted_of (first_asked source_type_same source_types (left_by (record k { direct_range = direct }) chains) (source_type_of local_ip source.ip ∷ []))) ignores)
    ∙ narrowed_more source_type_same source_types (source_type_of local_ip source.ip ∷ []) p1 chains
    ∙ ap (by_source_type local_ip source) one in
    let three : filter p3 chains ≡ by_source_range source (by_source_type local_ip source (by_direct_source source (left_by criteria chains))) =
    ap (λ (w : Wanted CidrRange). filter (λ (c : ServedChain). is_met cidr_range_same w (source_ranges c.criteria) && p2 c) chains)
    (at_range ∙ ap (λ (k : Criteria). wanted_of (first_range Source (record k { direct_range = direct; source_type = kind }) chains (ranges_about source.ip))) ignores)
    ∙ narrowed_more cidr_range_same source_ranges (ranges_about source.ip) p2 chains
    ∙ ap (by_source_range source) two in
    ap (λ (w : Wanted ℕ). filter (λ (c : ServedChain). is_met nat_same w (source_ports c.criteria) && p3 c) chains)
    (at_port ∙ ap (λ (k : Criteria). wanted_of (first_asked nat_same source_ports (left_by (record k { direct_range = direct; source_type = kind; source_range = range }) chains) (source.host.port ∷ []))) ignores)
    ∙ narrowed_more nat_same source_ports (source.host.port ∷ []) p3 chains
    ∙ ap (by_source_port source) three

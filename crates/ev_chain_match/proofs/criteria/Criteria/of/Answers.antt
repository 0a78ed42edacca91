use Rattle.std.proofs.Common.{◌∷◌, ◌∙◌, [], List, ℕ, Option, Some, ap, sym}
use Rattle.std.specs.Str.{bytes_eq, str_to_ascii_lowercase}
use Rattle.ev_types.specs.FilterChains.{nat_same, transports, ports}
use Rattle.ev_types.specs.Ips.{ranges_about}
use Rattle.ev_types.specs.declared.events.Peer.{Peer}
use Rattle.ev_types.specs.declared.ips.Ip.{Ip}
use Rattle.ev_model.specs.Choice.{incoming_of}
use Rattle.ev_model.specs.Narrowing.{names_brought, by_source, by_destination}
use Rattle.ev_chain_match.specs.Unnarrowed.{anything}
use Rattle.ev_chain_match.specs.Wanted.{first_asked, first_name, first_protocol, first_range, left_by, wanted_of}
use Rattle.ev_chain_match.specs.declared.criteria.Criteria.{Criteria}
use Rattle.ev_chain_match.specs.declared.criterion.RangeCriterion.TheVariants.{Destination}
use Rattle.ev_chain_match.proofs.Left.{narrowed_by_destination}
use Rattle.ev_chain_match.proofs.criteria.Criteria.of.Goals as goal

pub returns-in-Some : goal.returns-in-Some
returns-in-Some c =
    let chains = c.args.chains.now in
    let end = c.args.local_end.now in
    let port = c.wanted-criteria.result in
    let range = c.range_wanted-criteria.result in
    let name = c.name_wanted-criteria.result in
    let transport = c.wanted-criteria-2.result in
    let one : Criteria = record anything { port = port } in
    let two : Criteria = record anything { port = port; range = range } in
    let three : Criteria = record anything { port = port; range = range; server_name = name } in
    let four : Criteria = record anything { port = port; range = range; server_name = name; transport = transport } in
    let left = narrowed_by_destination chains (incoming_of c.args.ask.now end) port range name transport c.protocol_wanted-criteria.result
    (c.wanted-criteria.ensures
    ∙ ap (λ (n : ℕ). wanted_of (first_asked nat_same ports (left_by anything chains) (n ∷ []))) c.port.ensures)
    (c.range_wanted-criteria.ensures ∙ ap (λ (ip : Option Ip). wanted_of (first_range Destination one chains (ranges_about ip))) c.ip.ensures)
    (c.name_wanted-criteria.ensures
    ∙ ap (λ (text : List ℕ). wanted_of (first_name two chains (names_brought (str_to_ascii_lowercase text)))) (c.as_bytes.ensures.value ∙ c.as_str.ensures.bytes))
    (c.wanted-criteria-2.ensures
    ∙ ap (λ (text : List ℕ). wanted_of (first_asked bytes_eq transports (left_by three chains) (text ∷ []))) c.of.ensures)
    (c.protocol_wanted-criteria.ensures
    ∙ ap (λ (texts : List (List ℕ)). wanted_of (first_protocol four chains texts)) c.as_slice.ensures.elements) in
    c.and_source.ensures
    ∙ (λ i. by_source (c.ip-in-Some.ensures i) (Some c.in-Some.source) (left i))
    ∙ ap (λ (source : Option Peer). by_source end.ip source (by_destination (incoming_of c.args.ask.now end) chains)) (sym c.in-Some.is)

pub returns-in-None : goal.returns-in-None
returns-in-None c =
    let chains = c.args.chains.now in
    let end = c.args.local_end.now in
    let port = c.wanted-criteria.result in
    let range = c.range_wanted-criteria.result in
    let name = c.name_wanted-criteria.result in
    let transport = c.wanted-criteria-2.result in
    let one : Criteria = record anything { port = port } in
    let two : Criteria = record anything { port = port; range = range } in
    let three : Criteria = record anything { port = port; range = range; server_name = name } in
    let four : Criteria = record anything { port = port; range = range; server_name = name; transport = transport } in
    narrowed_by_destination chains (incoming_of c.args.ask.now end) port range name transport c.protocol_wanted-criteria.result
    (c.wanted-criteria.ensures
    ∙ ap (λ (n : ℕ). wanted_of (first_asked nat_same ports (left_by anything chains) (n ∷ []))) c.port.ensures)
    (c.range_wanted-criteria.ensures ∙ ap (λ (ip : Option Ip). wanted_of (first_range Destination one chains (ranges_about ip))) c.ip.ensures)
    (c.name_wanted-criteria.ensures
    ∙ ap (λ (text : List ℕ). wanted_of (first_name two chains (names_brought (str_to_ascii_lowercase text)))) (c.as_bytes.ensures.value ∙ c.as_str.ensures.bytes))
    (c.wanted-criteria-2.ensures
    ∙ ap (λ (text : List ℕ). wanted_of (first_asked bytes_eq transports (left_by three chains) (text ∷ []))) c.of.ensures)
    (c.protocol_wanted-criteria.ensures
    ∙ ap (λ (texts : List (List ℕ)). wanted_of (first_protocol four chains texts)) c.as_slice.ensures.elements)
    ∙ ap (λ (source : Option Peer). by_source end.ip source (by_destination (incoming_of c.args.ask.now end) chains)) (sym c.in-None.is)

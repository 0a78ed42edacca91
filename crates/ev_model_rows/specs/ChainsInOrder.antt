-- Connections go to the filter chain that is left by port, address, server name and transport protocol,
-- in this order; what was given up doesn't come back, and where nothing is left the default chain
-- serves, or nothing does.
use Rattle.std.specs.Prelude.{◌≡◌, ℕ, ◌*◌, ◌+◌, ◌^◌, List, [], ◌∷◌, codes, true, Some, None}
use Rattle.ev_types.specs.Ips.{range_about}
use Rattle.ev_types.specs.Items.{ItemParts}
use Rattle.ev_types.specs.declared.contents.Kind.TheVariants.{Cds, Lds}
use Rattle.ev_types.specs.declared.events.Answer.TheVariants.{Moved, Replied, Version, NoChain}
use Rattle.ev_types.specs.declared.ways.Way.TheVariants.{Local}
use Rattle.ev_types.specs.declared.events.Verdict.TheVariants.{New}
use Rattle.ev_types.specs.declared.ips.Ip.{Ip}
use Rattle.ev_types.specs.declared.ips.Ip.TheVariants.{V4}
use Rattle.ev_types.specs.declared.listeners.FilterChain.{FilterChain}
use Rattle.ev_types.specs.declared.listeners.Serve.{Serve}
use Rattle.ev_types.specs.declared.listeners.Serve.TheVariants.{Inline}
use Rattle.ev_model_rows.specs.Words.{Deed, answers_to, no_criteria, chain_by, chain_for, open_chain, listener_with, answering_all, connect, response, publish, accept_of, asked, asked_at, settle, ask, ask_first, ack, settled, on}

-- 10.0.0.0, 10.1.0.0 and 11.1.1.1
abbrev pub ten : Ip
ten = V4 (10 * 2 ^ 24)

abbrev pub ten_one : Ip
ten_one = V4 (10 * 2 ^ 24 + 2 ^ 16)

abbrev pub eleven : Ip
eleven = V4 (11 * 2 ^ 24 + 2 ^ 16 + 2 ^ 8 + 1)

-- each request is answered with this status
abbrev pub status : ℕ → Serve
status number = Inline (answering_all number)

-- a port, or a longer range
abbrev pub by_port : List FilterChain
by_port =
    chain_by (record no_criteria { destination_port = Some 8080; prefix_ranges = range_about ten 8 ∷ [] }) (status 200)
    ∷ chain_by (record no_criteria { prefix_ranges = range_about ten_one 16 ∷ [] }) (status 201)
    ∷ []

-- a server name, or TLS
abbrev pub by_name : List FilterChain
by_name =
    chain_for (codes "a") (status 202)
    ∷ chain_by (record no_criteria { transport_protocol = Some (codes "tls") }) (status 203)
    ∷ []

-- another port, or every connection
abbrev pub other_port : List FilterChain
other_port = chain_by (record no_criteria { destination_port = Some 9 }) (status 204) ∷ open_chain (status 205) ∷ []

-- two ranges that hold the address
abbrev pub by_range : List FilterChain
by_range =
    chain_by (record no_criteria { prefix_ranges = range_about ten 8 ∷ range_about eleven 32 ∷ [] }) (status 206)
    ∷ chain_by (record no_criteria { prefix_ranges = range_about ten_one 16 ∷ [] }) (status 207)
    ∷ []

-- a whole name over TLS, or names that end as it does
abbrev pub by_whole_name : List FilterChain
by_whole_name =
    chain_by (record no_criteria { server_names = codes "a.com" ∷ []; transport_protocol = Some (codes "tls") }) (status 208)
    ∷ chain_for (codes "*.com") (status 209)
    ∷ []

-- the listeners: each has another of these lists of chains, and the last one a default chain
abbrev pub listeners : List ItemParts
listeners =
    listener_with (codes "l") 8080 by_port None
    ∷ listener_with (codes "m") 8081 by_name None
    ∷ listener_with (codes "n") 8082 other_port None
    ∷ listener_with (codes "o") 8083 by_range None
    ∷ listener_with (codes "p") 8084 by_whole_name None
    ∷ listener_with (codes "q") 8085 (chain_for (codes "a") (status 210) ∷ []) (Some (status 211))
    ∷ []

-- the lines, from the second on
abbrev pub deeds : List Deed
deeds =
    connect
    ∷ response Cds (codes "2") [] []
    ∷ response Lds (codes "3") listeners []
    ∷ publish
    ∷ settle
    ∷ accept_of (asked 6)
    ∷ accept_of (record (asked_at 7 8081) { server_name = codes "a"; tls = true })
    ∷ accept_of (asked_at 8 8082)
    ∷ accept_of (asked_at 9 8083)
    ∷ accept_of (record (asked_at 10 8084) { server_name = codes "a.com" })
    ∷ accept_of (record (asked_at 11 8084) { server_name = codes "a.com"; tls = true })
    ∷ accept_of (record (asked_at 12 8081) { host = codes "a" })
    ∷ accept_of (record (asked_at 13 8085) { server_name = codes "A" })
    ∷ accept_of (asked_at 14 8085)
    ∷ []

-- the answers, each with the number of its line
abbrev pub ChainsInOrderAnswers : Type 0
ChainsInOrderAnswers = answers_to deeds
    ≡ (2, Moved (ask_first ∷ []))
    ∷ (3, Replied (ack (codes "2") Cds ∷ ask Lds ∷ []) [])
    ∷ (4, Replied (ack (codes "3") Lds ∷ []) (New ∷ New ∷ New ∷ New ∷ New ∷ New ∷ []))
    ∷ (5, Version 1)
    ∷ (6, settled 1)
    ∷ (7, on 1 (Local 200))
    ∷ (8, on 2 (Local 202))
    ∷ (9, on 3 (Local 205))
    ∷ (10, on 4 (Local 207))
    ∷ (11, NoChain)
    ∷ (12, on 5 (Local 208))
    ∷ (13, NoChain)
    ∷ (14, on 6 (Local 210))
    ∷ (15, on 6 (Local 211))
    ∷ (16, settled 1)
    ∷ []

-- A listener that takes every address of its port serves what comes to IP addresses
-- that no listener has itself: `0.0.0.0` those of IPv4, and `::` all.
use Rattle.std.specs.Prelude.{◌≡◌, ℕ, ◌*◌, ◌+◌, ◌^◌, Bool, true, false, List, [], ◌∷◌, codes, Option, Some, None}
use Rattle.ev_types.specs.Items.{ItemParts}
use Rattle.ev_types.specs.declared.contents.Kind.TheVariants.{Cds, Lds}
use Rattle.ev_types.specs.declared.events.Answer.TheVariants.{Moved, Replied, Version, NoListener}
use Rattle.ev_types.specs.declared.ways.Way.TheVariants.{Local}
use Rattle.ev_types.specs.declared.events.Verdict.TheVariants.{New}
use Rattle.ev_types.specs.declared.ips.Ip.{Ip}
use Rattle.ev_types.specs.declared.ips.Ip.TheVariants.{V4, V6}
use Rattle.ev_types.specs.declared.listeners.Serve.TheVariants.{Inline}
use Rattle.ev_model_rows.specs.Words.{Deed, answers_to, open_chain, listener_by, answering_all, connect, response, publish, accept_of, asked, settle, ask, ask_first, ack, settled, on}

-- a listener at an address and port, with its mark, that answers each request with a status
abbrev pub listening : List ℕ → List ℕ → ℕ → Bool → ℕ → ItemParts
listening name address port every status =
    listener_by name (record { address = address; port = port }) every (open_chain (Inline (answering_all status)) ∷ []) None []

-- a connection to an address and port, with the IP address that it writes
abbrev pub coming : ℕ → List ℕ → Option Ip → ℕ → Deed
coming connection address ip port = accept_of (record (asked connection) { address = record { address = address; port = port }; ip = ip })

-- listeners at addresses of their own, and at those that represent every address; the last one has no mark
abbrev pub listeners : List ItemParts
listeners =
    listening (codes "a") (codes "10.1.0.1") 8080 false 200
    ∷ listening (codes "b") (codes "0.0.0.0") 8080 true 201
    ∷ listening (codes "c") (codes "::") 8080 true 202
    ∷ listening (codes "d") (codes "::") 8081 true 203
    ∷ listening (codes "e") (codes "0.0.0.0") 8082 true 204
    ∷ listening (codes "f") (codes "x.a") 8080 false 205
    ∷ listening (codes "g") (codes "::") 8083 false 206
    ∷ []

-- the lines, from the second on
abbrev pub deeds : List Deed
deeds =
    connect
    ∷ response Cds (codes "2") [] []
    ∷ response Lds (codes "3") listeners []
    ∷ publish
    ∷ settle
    ∷ coming 6 (codes "10.1.0.1") (Some (V4 (10 * 2 ^ 24 + 2 ^ 16 + 1))) 8080
    ∷ coming 7 (codes "10.1.0.2") (Some (V4 (10 * 2 ^ 24 + 2 ^ 16 + 2))) 8080
    ∷ coming 8 (codes "fe80::1") (Some (V6 (0xfe80 * 2 ^ 112 + 1))) 8080
    ∷ coming 9 (codes "10.1.0.1") (Some (V4 (10 * 2 ^ 24 + 2 ^ 16 + 1))) 8081
    ∷ coming 10 (codes "::1") (Some (V6 1)) 8082
    ∷ coming 11 (codes "y.a") None 8080
    ∷ coming 12 (codes "x.a") None 8080
    ∷ coming 13 (codes "10.1.0.1") (Some (V4 (10 * 2 ^ 24 + 2 ^ 16 + 1))) 8083
    ∷ []

-- the answers, each with the number of its line
abbrev pub EveryAddressAnswers : Type 0
EveryAddressAnswers = answers_to deeds
    ≡ (2, Moved (ask_first ∷ []))
    ∷ (3, Replied (ack (codes "2") Cds ∷ ask Lds ∷ []) [])
    ∷ (4, Replied (ack (codes "3") Lds ∷ []) (New ∷ New ∷ New ∷ New ∷ New ∷ New ∷ New ∷ []))
    ∷ (5, Version 1)
    ∷ (6, settled 1)
    ∷ (7, on 1 (Local 200))
    ∷ (8, on 2 (Local 201))
    ∷ (9, on 3 (Local 202))
    ∷ (10, on 4 (Local 203))
    ∷ (11, NoListener)
    ∷ (12, NoListener)
    ∷ (13, on 6 (Local 205))
    ∷ (14, NoListener)
    ∷ (15, settled 1)
    ∷ []

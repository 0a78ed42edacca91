-- Connections that were redirected: the listener at the address where one was delivered takes
-- it, or hands it over to the listener at the address that it was meant for;
-- and its chains look at the address that the listener takes it to come to. No connection comes to a listener by UDP.
use Rattle.std.specs.Prelude.{◌≡◌, ℕ, ◌*◌, ◌+◌, ◌^◌, Bool, true, false, List, [], ◌∷◌, codes, Some, None}
use Rattle.ev_types.specs.Items.{ItemParts}
use Rattle.ev_types.specs.declared.contents.Body.TheVariants.{Good}
use Rattle.ev_types.specs.declared.contents.Content.TheVariants.{Listener}
use Rattle.ev_types.specs.declared.contents.Kind.TheVariants.{Cds, Lds}
use Rattle.ev_types.specs.declared.events.Answer.TheVariants.{Moved, Replied, Version, NoListener, NoChain}
use Rattle.ev_types.specs.declared.ways.Way.TheVariants.{Local}
use Rattle.ev_types.specs.declared.events.Peer.{Peer}
use Rattle.ev_types.specs.declared.events.Verdict.TheVariants.{New, Refused}
use Rattle.ev_types.specs.declared.ips.Ip.TheVariants.{V4}
use Rattle.ev_types.specs.declared.listeners.FilterChain.{FilterChain}
use Rattle.ev_types.specs.declared.listeners.Serve.TheVariants.{Inline}
use Rattle.ev_model_rows.specs.Words.{Deed, answers_to, open_chain, chain_by, no_criteria, answering_all, connect, response, publish, accept_of, asked, asked_at, settle, ask, ask_first, ack, nack, settled, on}

-- how a listener takes connections: by UDP, as one that restores, as one that hands over
pub record Marks : Type 0 where
  pub udp : Bool
  pub restores : Bool
  pub hands_over : Bool

-- as most do
abbrev pub usual : Marks
usual = record { udp = false; restores = false; hands_over = false }

-- a listener at 10.1.0.1 and a port
abbrev pub listening : List ℕ → ℕ → Marks → List FilterChain → ItemParts
listening name port marks chains = record {
  name = name;
  version = codes "v1";
  ttl = false;
  body = Good (Listener (record {
    name = name;
    address = record { host = record { address = codes "10.1.0.1"; port = port }; udp = marks.udp };
    takes_every_address = false;
    restores = marks.restores;
    hands_over = marks.hands_over;
    filter_chains = chains;
    default_filter_chain = None;
    extensions = [];
    frame_text = [];
    body_text = [];
  }));
}

-- a chain for a port, and one for every port, that answer each request with a status
abbrev pub for_port : ℕ → ℕ → FilterChain
for_port port status = chain_by (record no_criteria { destination_port = Some port }) (Inline (answering_all status))

abbrev pub for_all : ℕ → FilterChain
for_all status = open_chain (Inline (answering_all status))

-- a port of 10.1.0.1 as an end of a connection
abbrev pub end_at : ℕ → Peer
end_at port = record { host = record { address = codes "10.1.0.1"; port = port }; ip = Some (V4 (10 * 2 ^ 24 + 2 ^ 16 + 1)) }

-- a connection that was meant for a port of 10.1.0.1, and delivered to another
abbrev pub delivered : ℕ → ℕ → ℕ → Deed
delivered connection port to =
    accept_of (record (asked connection) { address = (end_at port).host; redirected_to = Some (end_at to) })

-- listeners: one that hands over, one that restores alone, one that does neither,
-- and one where connections are meant to go;
-- the first three have a chain for port 80 and one for their own.
-- Two by UDP, of which one shares the address of the first, and one by TCP that does so too.
abbrev pub listeners : List ItemParts
listeners =
    listening (codes "hands") 15006 (record usual { restores = true; hands_over = true }) (for_port 80 200 ∷ for_port 15006 201 ∷ [])
    ∷ listening (codes "restores") 15007 (record usual { restores = true }) (for_port 80 202 ∷ for_port 15007 203 ∷ [])
    ∷ listening (codes "neither") 15008 usual (for_port 80 204 ∷ for_port 15008 205 ∷ [])
    ∷ listening (codes "meant") 8080 usual (for_all 206 ∷ [])
    ∷ listening (codes "udp") 15006 (record usual { udp = true }) []
    ∷ listening (codes "alone") 15009 (record usual { udp = true }) (for_all 207 ∷ [])
    ∷ listening (codes "again") 15006 usual (for_all 208 ∷ [])
    ∷ []

-- the lines, from the second on
abbrev pub deeds : List Deed
deeds =
    connect
    ∷ response Cds (codes "2") [] []
    ∷ response Lds (codes "3") listeners []
    ∷ publish
    ∷ settle
    ∷ delivered 1 8080 15006
    ∷ delivered 2 80 15006
    ∷ delivered 3 8080 15007
    ∷ delivered 4 80 15007
    ∷ delivered 5 80 15008
    ∷ accept_of (asked_at 6 15006)
    ∷ accept_of (asked_at 7 15009)
    ∷ delivered 8 8080 15010
    ∷ []

-- the answers, each with the number of its line: a listener that hands over has the one
-- where the connection is meant to go take it, if there is one;
-- the chain is that of the port where it is meant to go, or, of a listener that doesn't restore,
-- of the one where it was delivered
abbrev pub RedirectedAnswers : Type 0
RedirectedAnswers = answers_to deeds
    ≡ (2, Moved (ask_first ∷ []))
    ∷ (3, Replied (ack (codes "2") Cds ∷ ask Lds ∷ []) [])
    ∷ (4, Replied (nack (codes "3") Lds (codes "again: V15") ∷ []) (New ∷ New ∷ New ∷ New ∷ New ∷ New ∷ Refused 15 ∷ []))
    ∷ (5, Version 1)
    ∷ (6, settled 1)
    ∷ (7, on 4 (Local 206))
    ∷ (8, on 1 (Local 200))
    ∷ (9, NoChain)
    ∷ (10, on 2 (Local 202))
    ∷ (11, on 3 (Local 205))
    ∷ (12, on 1 (Local 201))
    ∷ (13, NoListener)
    ∷ (14, NoListener)
    ∷ (15, settled 1)
    ∷ []

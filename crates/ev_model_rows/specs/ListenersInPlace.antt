-- A listener that is changed in place: the connections of chains that stay move to the new generation,
-- those of others are closed with the drain timeout. A chain that is removed and comes back is another one.
-- An update that hangs and is rolled back leaves the listener as it was.
use Rattle.std.specs.Prelude.{ℕ, ◌≡◌, true, false, List, [], ◌∷◌, codes, None, Some}
use Rattle.ev_types.specs.Items.{ItemParts}
use Rattle.ev_types.specs.declared.contents.Kind.TheVariants.{Cds, Lds, Sds}
use Rattle.ev_types.specs.declared.contents.Body.TheVariants.{Good}
use Rattle.ev_types.specs.declared.contents.Content.TheVariants.{Listener}
use Rattle.ev_types.specs.declared.events.Answer.{Answer}
use Rattle.ev_types.specs.declared.events.Answer.TheVariants.{Ignored, Done, Moved, Replied, Version, Unchanged, Reaped, On, NoChain, NotOpen, Settled}
use Rattle.ev_types.specs.declared.events.Verdict.TheVariants.{New, InPlace, Back}
use Rattle.ev_types.specs.declared.listeners.FilterChain.{FilterChain}
use Rattle.ev_types.specs.declared.listeners.Serve.TheVariants.{Inline}
use Rattle.ev_types.specs.declared.origins.ChainPlace.TheVariants.{At}
use Rattle.ev_types.specs.declared.ways.Way.TheVariants.{Local}
use Rattle.ev_model_rows.specs.Words.{Deed, answers_to, chain_for, answering_all, connect, response, fetch_timeout, drain_timeout, publish, reap, accept_of, asked, close, settle, ask, ask_first, ack, subscribe, unsubscribe, settled}

-- a chain for the connections to a server, which answers with a status; the server's name is the text of its body
abbrev pub chain : List ℕ → ℕ → FilterChain
chain name status = record (chain_for name (Inline (answering_all status))) { body_text = name }

-- the listener `l` at 10.1.0.1, port 8080, with chains and the text of its body;
-- the text of its frame is always the same
abbrev pub listener : List FilterChain → List ℕ → ItemParts
listener chains text = record {
  name = codes "l";
  version = codes "v1";
  ttl = false;
  body = Good (Listener (record {
    name = codes "l";
    address = record { host = record { address = codes "10.1.0.1"; port = 8080 }; udp = false };
    takes_every_address = false;
    restores = false;
    hands_over = false;
    filter_chains = chains;
    default_filter_chain = None;
    extensions = [];
    frame_text = codes "f";
    body_text = text;
  }));
}

-- a response of listeners with this one
abbrev pub update : List ℕ → ItemParts → Deed
update nonce item = response Lds nonce (item ∷ []) []

-- worker 0 accepts a connection to a server
abbrev pub accept_to : ℕ → List ℕ → Deed
accept_to connection name = accept_of (record (asked connection) { server_name = name })

-- three chains
abbrev pub a : FilterChain
a = chain (codes "a") 200

abbrev pub b : FilterChain
b = chain (codes "b") 201

abbrev pub c : FilterChain
c = chain (codes "c") 202

-- a proxy whose listener has two chains, with a connection on each
abbrev pub begun : List Deed → List Deed
begun deeds =
    connect
    ∷ fetch_timeout Cds None
    ∷ fetch_timeout Lds None
    ∷ update (codes "4") (listener (a ∷ b ∷ []) (codes "ab"))
    ∷ publish
    ∷ settle
    ∷ accept_to 1 (codes "a")
    ∷ accept_to 2 (codes "b")
    ∷ settle
    ∷ deeds

-- what it answers
abbrev pub begins_with : List (ℕ × Answer) → List (ℕ × Answer)
begins_with answers =
    (2, Moved (ask_first ∷ []))
    ∷ (3, Moved (ask Lds ∷ []))
    ∷ (4, Moved [])
    ∷ (5, Replied (ack (codes "4") Lds ∷ []) (New ∷ []))
    ∷ (6, Version 1)
    ∷ (7, settled 1)
    ∷ (8, On 1 (Some (At 0)) (Local 200))
    ∷ (9, On 1 (Some (At 1)) (Local 201))
    ∷ (10, settled 1)
    ∷ answers

-- one chain stays at another place, one is removed, and one is new
abbrev pub ChangesInPlace : Type 0
ChangesInPlace = answers_to
    (begun
    (update (codes "10") (listener (b ∷ c ∷ []) (codes "bc"))
    ∷ publish
    ∷ settle
    ∷ accept_to 13 (codes "b")
    ∷ accept_to 14 (codes "a")
    ∷ settle
    ∷ drain_timeout (codes "l")
    ∷ settle
    ∷ reap
    ∷ close 2
    ∷ close 1
    ∷ []))
    ≡ begins_with
    ((11, Replied (ack (codes "10") Lds ∷ []) (InPlace ∷ []))
    ∷ (12, Version 2)
    ∷ (13, Settled [] (2 ∷ []) 2)
    ∷ (14, On 2 (Some (At 0)) (Local 201))
    ∷ (15, NoChain)
    ∷ (16, settled 2)
    ∷ (17, Done)
    ∷ (18, Settled (1 ∷ []) [] 2)
    ∷ (19, Reaped (1 ∷ []))
    ∷ (20, Done)
    ∷ (21, NotOpen)
    ∷ (22, settled 2)
    ∷ [])

-- a chain that is removed and comes back between two settles
abbrev pub ComesBack : Type 0
ComesBack = answers_to
    (begun
    (update (codes "10") (listener (b ∷ []) (codes "b"))
    ∷ publish
    ∷ update (codes "12") (listener (a ∷ b ∷ []) (codes "ab"))
    ∷ drain_timeout (codes "l")
    ∷ publish
    ∷ settle
    ∷ reap
    ∷ []))
    ≡ begins_with
    ((11, Replied (ack (codes "10") Lds ∷ []) (InPlace ∷ []))
    ∷ (12, Version 2)
    ∷ (13, Replied (ack (codes "12") Lds ∷ []) (InPlace ∷ []))
    ∷ (14, Done)
    ∷ (15, Version 3)
    ∷ (16, Settled (1 ∷ []) (2 ∷ []) 3)
    ∷ (17, Reaped (1 ∷ 2 ∷ []))
    ∷ (18, settled 3)
    ∷ [])

-- a chain that waits for a secret
abbrev pub secured : FilterChain
secured = record c { secrets = record { name = codes "s"; limited = true } ∷ [] }

-- an update that waits, and the listener again
abbrev pub GoesBack : Type 0
GoesBack = answers_to
    (begun
    (update (codes "10") (listener (a ∷ secured ∷ []) (codes "ac"))
    ∷ update (codes "11") (listener (a ∷ b ∷ []) (codes "ab"))
    ∷ publish
    ∷ drain_timeout (codes "l")
    ∷ reap
    ∷ []))
    ≡ begins_with
    ((11, Replied (ack (codes "10") Lds ∷ subscribe Sds (codes "s" ∷ []) ∷ []) (InPlace ∷ []))
    ∷ (12, Replied (ack (codes "11") Lds ∷ unsubscribe Sds (codes "s" ∷ []) ∷ []) (Back ∷ []))
    ∷ (13, Unchanged)
    ∷ (14, Ignored)
    ∷ (15, Reaped (2 ∷ []))
    ∷ (16, settled 1)
    ∷ [])

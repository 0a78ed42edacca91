-- Secrets that don't come: a wait ends with its timeout, and then a chain
-- or a cluster without its secret fails each connection.
-- A removal of a secret changes nothing.
use Rattle.std.specs.Prelude.{ℕ, ◌≡◌, true, false, List, [], ◌∷◌, codes, None, Some}
use Rattle.ev_types.specs.Items.{ItemParts}
use Rattle.ev_types.specs.declared.contents.Kind.TheVariants.{Cds, Lds, Sds}
use Rattle.ev_types.specs.declared.contents.Body.TheVariants.{Good}
use Rattle.ev_types.specs.declared.contents.Content.TheVariants.{Cluster, Secret}
use Rattle.ev_types.specs.declared.clusters.Discovery.TheVariants.{Static}
use Rattle.ev_types.specs.declared.events.Answer.TheVariants.{Moved, Replied, Version, Unchanged, On}
use Rattle.ev_types.specs.declared.events.Verdict.TheVariants.{New, Kept, Unasked}
use Rattle.ev_types.specs.declared.listeners.FilterChain.{FilterChain}
use Rattle.ev_types.specs.declared.listeners.Serve.TheVariants.{Tcp}
use Rattle.ev_types.specs.declared.origins.ChainPlace.TheVariants.{At}
use Rattle.ev_types.specs.declared.routes.Target.TheVariants.{One}
use Rattle.ev_types.specs.declared.ways.Way.TheVariants.{NoSecret, Served}
use Rattle.ev_model_rows.specs.ListenersInPlace.{listener}
use Rattle.ev_model_rows.specs.Words.{Deed, answers_to, open_chain, host, host_row, connect, response, fetch_timeout, publish, accept, settle, ask, ask_first, ack, subscribe, settled}

-- the cluster `c` with one host, which needs the secret `s`
abbrev pub cluster : ItemParts
cluster = record {
  name = codes "c";
  version = codes "v1";
  ttl = false;
  body = Good (Cluster (record {
    name = codes "c";
    discovery = Static (host_row (codes "1") ∷ []);
    checked = false;
    secrets = record { name = codes "s"; limited = true } ∷ [];
    secrets_by_match = None;
    body_text = codes "c";
  }));
}

-- a chain that forwards to it, and needs the secret `t`
abbrev pub secured : FilterChain
secured = record (open_chain (Tcp (One (codes "c")))) { secrets = record { name = codes "t"; limited = true } ∷ []; body_text = codes "x" }

-- a secret
abbrev pub secret : List ℕ → ItemParts
secret name = record { name = name; version = codes "v1"; ttl = false; body = Good Secret }

abbrev pub deeds : List Deed
deeds =
    connect
    ∷ response Cds (codes "1") (cluster ∷ []) []
    ∷ fetch_timeout Sds (Some (codes "s"))
    ∷ response Lds (codes "2") (listener (secured ∷ []) (codes "l") ∷ []) []
    ∷ fetch_timeout Sds (Some (codes "t"))
    ∷ publish
    ∷ settle
    ∷ accept 1
    ∷ settle
    ∷ response Sds (codes "3") (secret (codes "t") ∷ secret (codes "u") ∷ []) []
    ∷ publish
    ∷ settle
    ∷ accept 2
    ∷ settle
    ∷ response Sds (codes "4") (secret (codes "s") ∷ []) []
    ∷ publish
    ∷ response Sds (codes "5") [] (codes "s" ∷ [])
    ∷ publish
    ∷ settle
    ∷ accept 3
    ∷ []

-- the answers, each with the number of its line
abbrev pub MissingSecretsAnswers : Type 0
MissingSecretsAnswers = answers_to deeds
    ≡ (2, Moved (ask_first ∷ []))
    ∷ (3, Replied (ack (codes "1") Cds ∷ subscribe Sds (codes "s" ∷ []) ∷ []) (New ∷ []))
    ∷ (4, Moved (ask Lds ∷ []))
    ∷ (5, Replied (ack (codes "2") Lds ∷ subscribe Sds (codes "t" ∷ []) ∷ []) (New ∷ []))
    ∷ (6, Moved [])
    ∷ (7, Version 1)
    ∷ (8, settled 1)
    ∷ (9, On 2 (Some (At 0)) (NoSecret None))
    ∷ (10, settled 1)
    ∷ (11, Replied (ack (codes "3") Sds ∷ []) (Kept ∷ Unasked ∷ []))
    ∷ (12, Version 2)
    ∷ (13, settled 2)
    ∷ (14, On 2 (Some (At 0)) (NoSecret (Some 1)))
    ∷ (15, settled 2)
    ∷ (16, Replied (ack (codes "4") Sds ∷ []) (Kept ∷ []))
    ∷ (17, Version 3)
    ∷ (18, Replied (ack (codes "5") Sds ∷ []) [])
    ∷ (19, Unchanged)
    ∷ (20, settled 3)
    ∷ (21, On 2 (Some (At 0)) (Served 1 (host (codes "1"))))
    ∷ (22, settled 3)
    ∷ []

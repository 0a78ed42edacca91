-- Filter chains that serve, each with its number, and by which keys they take connections.
use Rattle.std.specs.Prelude.{ℕ, ◌≡◌, ◌==◌, ◌&&◌, ◌||◌, Bool, false, List, [], ◌∷◌, map, find, Option, Some, None, if◌then◌else◌}
use Rattle.std.specs.Bool.{Decides}
use Rattle.std.specs.List.{list_any}
use Rattle.std.specs.Option.{option_or}
use Rattle.std.specs.Str.{bytes_eq, str_to_ascii_lowercase}
use Rattle.std.proofs.Common.{ap}
use lib.Pointwise.{pointwise_decides}
use Rattle.ev_types.specs.Same.{texts_same, both_decide, decides_as, bytes_decide, numbers_decide}
use Rattle.ev_types.specs.SameListeners.{serve_same, serve_decides}
use Rattle.ev_chains.specs.declared.keys.ChainKey.{ChainKey}
use Rattle.ev_chains.specs.declared.matches.ChainMatch.{ChainMatch}
use Rattle.ev_chains.specs.declared.rows.Listening.{Listening}
use Rattle.ev_chains.specs.declared.rows.Chain.{Chain}
use Rattle.ev_chains.specs.declared.rows.Row.{Row}
use Rattle.ev_chains.specs.Keys.{port_same, key_same, port_decides}
use Rattle.ev_chains.specs.Names.{asked_names}

-- ---- equal chains

-- the same port and the same server names, as they are written and in their order
abbrev pub match_same : ChainMatch → ChainMatch → Bool
match_same a b = port_same a.port b.port && texts_same a.names b.names

abbrev pub listening_same : Listening → Listening → Bool
listening_same a b = bytes_eq a.address b.address && (a.port == b.port)

-- the same address and port of the listener, the same match, and the same service
abbrev pub chain_same : Chain → Chain → Bool
chain_same a b = listening_same a.listening b.listening && match_same a.matches b.matches && serve_same a.serve b.serve

pub match_decides : (a b : ChainMatch) → Decides (match_same a b) (a ≡ b)
match_decides a b = decides_as (both_decide (port_decides a.port b.port) (pointwise_decides bytes_decide a.names b.names))
    (λ p. λ i. record { port = p.0 i; names = p.1 i })
    (λ e. (ap (λ (m : ChainMatch). m.port) e, ap (λ (m : ChainMatch). m.names) e))

pub listening_decides : (a b : Listening) → Decides (listening_same a b) (a ≡ b)
listening_decides a b = decides_as (both_decide (bytes_decide a.address b.address) (numbers_decide a.port b.port))
    (λ p. λ i. record { address = p.0 i; port = p.1 i })
    (λ e. (ap (λ (l : Listening). l.address) e, ap (λ (l : Listening). l.port) e))

pub chain_decides : (a b : Chain) → Decides (chain_same a b) (a ≡ b)
chain_decides a b = decides_as
    (both_decide (both_decide (listening_decides a.listening b.listening) (match_decides a.matches b.matches)) (serve_decides a.serve b.serve))
    (λ p. λ i. record { listening = p.0.0 i; matches = p.0.1 i; serve = p.1 i })
    (λ e. ((ap (λ (c : Chain). c.listening) e, ap (λ (c : Chain). c.matches) e), ap (λ (c : Chain). c.serve) e))

-- ---- the keys of a match

-- a match without server names takes any name; of others ASCII letters count as lower case
abbrev pub keyed_names : List (List ℕ) → List (Option (List ℕ))
keyed_names [] = None ∷ []
keyed_names (name ∷ names) = map (λ n. Some (str_to_ascii_lowercase n)) (name ∷ names)

-- its port with each of its names
abbrev pub keys_of : ChainMatch → List ChainKey
keys_of m = map (λ name. record { port = m.port; name = name }) (keyed_names m.names)

abbrev pub has_key : ChainKey → ChainMatch → Bool
has_key key m = list_any (λ own. key_same own key) (keys_of m)

-- two matches take the same connections: equal ports or none, and a server name in common or none on both sides
abbrev pub clashes : ChainMatch → ChainMatch → Bool
clashes one other = list_any (λ key. has_key key other) (keys_of one)

-- two of these matches do
abbrev pub has_clash : List ChainMatch → Bool
has_clash [] = false
has_clash (m ∷ ms) = list_any (clashes m) ms || has_clash ms

-- ---- the choice of a chain for a connection

abbrev pub match_of : Row → ChainMatch
match_of row = row.chain.matches

-- the row has this key
abbrev pub row_has : ChainKey → Row → Bool
row_has key row = has_key key (match_of row)

abbrev pub has_port : ℕ → Row → Bool
has_port port row = port_same (match_of row).port (Some port)

-- the port that is looked for: this one where a chain has it, and otherwise none
abbrev pub asked_port : ℕ → List Row → Option ℕ
asked_port port rows = if list_any (has_port port) rows then Some port else None

-- the chain with this port that has the first of these names
abbrev pub first_named : Option ℕ → List (Option (List ℕ)) → List Row → Option Row
first_named port [] rows = None
first_named port (name ∷ names) rows = option_or (find (row_has record { port = port; name = name }) rows) (first_named port names rows)

-- the chain that takes a connection to this server and port
abbrev pub chosen : List ℕ → ℕ → List Row → Option Row
chosen server port rows = first_named (asked_port port rows) (asked_names (str_to_ascii_lowercase server)) rows

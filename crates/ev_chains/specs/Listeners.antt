-- Listeners with several filter chains, and the rules that they break.
use Rattle.std.specs.Prelude.{ℕ, ◌||◌, ◌==◌, List, [], length, map, Option, unwrap_or, codes}
use Rattle.serde_json.specs.Data.{Data}
use Rattle.ev_types.specs.declared.listeners.Serve.TheVariants.{Inline}
use Rattle.ev_tree.specs.declared.broken.BrokenRules.{BrokenRules}
use Rattle.ev_tree.specs.declared.tables.EnumTable.TheVariants.{Protocol}
use Rattle.ev_tree.specs.Forms.{is_wrong, is_given, inside, text_of, object_of, objects_of, enumeration_of}
use Rattle.ev_tree.specs.Addresses.{socket_of, address_text_of, port_of, address_broken}
use Rattle.ev_tree.specs.Broken.{none_broken, either_broken, any_broken, least_of}
use Rattle.ev_listener_json.specs.Filters.{chain_serve, chain_refused}
use Rattle.ev_listener_json.specs.Chains.{chains_of}
use Rattle.ev_listener_json.specs.Listeners.{is_udp}
use Rattle.ev_chains.specs.declared.matches.ChainMatch.{ChainMatch}
use Rattle.ev_chains.specs.declared.rows.Listening.{Listening}
use Rattle.ev_chains.specs.declared.rows.Chain.{Chain}
use Rattle.ev_chains.specs.Matches.{match_read, match_broken}
use Rattle.ev_chains.specs.Rows.{has_clash}

-- ---- a chain among others

-- what is given as its match
unfoldable pub match_tree : Data → Data
match_tree chain = inside (object_of (codes "filter_chain_match") chain)

-- the chain of a listener that listens there. One without a filter that serves breaks V17;
-- it represents a table with no hosts.
unfoldable pub chain_of : Listening → Data → Chain
chain_of listening chain = record {
  listening = listening;
  matches = match_read (match_tree chain);
  serve = unwrap_or (chain_serve chain) (Inline (record { hosts = [] }));
}

-- what it breaks: what its filters and its match break
unfoldable pub one_broken : Data → BrokenRules
one_broken chain = either_broken (chain_refused chain) (match_broken (match_tree chain))

-- ---- a listener

-- where it listens
unfoldable pub listening_of : Data → Listening
listening_of tree = record { address = address_text_of tree; port = port_of tree }

-- its chains, in order
unfoldable pub chains_in : Data → List Chain
chains_in tree = map (chain_of (listening_of tree)) (chains_of tree)

-- What a listener breaks, whatever its chains have in common:
-- what one of its chains breaks, and what it breaks itself. V6: its name is looked at for its form alone. V14:
-- no usable address, or one for datagrams. V16: no chain, or a default chain.
unfoldable pub parts_broken : Data → BrokenRules
parts_broken tree = either_broken (any_broken one_broken (chains_of tree)) (record none_broken {
  v6 =
      is_wrong (text_of (codes "name") tree)
      || (address_broken tree).v6
      || is_wrong (enumeration_of (codes "protocol") Protocol (socket_of tree))
      || is_wrong (objects_of (codes "filter_chains") tree)
      || is_wrong (object_of (codes "default_filter_chain") tree);
  v14 = (address_broken tree).v12 || is_udp (enumeration_of (codes "protocol") Protocol (socket_of tree));
  v16 = length (chains_of tree) == 0 || is_given (object_of (codes "default_filter_chain") tree);
})

-- the matches of chains
abbrev pub matches_of : List Chain → List ChainMatch
matches_of chains = map (λ (chain : Chain). chain.matches) chains

-- V26: two of its chains take the same connections
unfoldable pub chains_broken : Data → BrokenRules
chains_broken tree = record (parts_broken tree) { v26 = has_clash (matches_of (chains_in tree)) }

-- the rule that is reported: the least that is broken
abbrev pub rule_told : Data → Option ℕ
rule_told tree = least_of (chains_broken tree)

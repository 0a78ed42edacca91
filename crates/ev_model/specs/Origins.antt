-- Where the chains of a listener began. A listener that is changed in place has each chain that stays
-- from the generation before it; any other chain begins with its own generation. Source:
-- in place updates of listeners in Envoy's documentation, which leave the connections of unchanged chains alone.
use Rattle.std.specs.Prelude.{ℕ, ◌+◌, Bool, true, false, ◌&&◌, List, [], ◌∷◌, ◌++◌, find, filter_map, Option, Some, None, option_map, option_to_list, unwrap_or}
use Rattle.std.specs.Str.{bytes_eq}
use Rattle.ev_types.specs.Origins.{chain_place_same}
use Rattle.ev_types.specs.declared.contents.Content.{Content}
use Rattle.ev_types.specs.declared.contents.Content.TheVariants.{Listener as a_listener}
use Rattle.ev_types.specs.declared.listeners.FilterChain.{FilterChain}
use Rattle.ev_types.specs.declared.listeners.Listener.{Listener}
use Rattle.ev_types.specs.declared.origins.ChainPlace.{ChainPlace}
use Rattle.ev_types.specs.declared.origins.ChainPlace.TheVariants.{At, Default}
use Rattle.ev_types.specs.declared.origins.Origin.{Origin}
use Rattle.ev_types.specs.declared.origins.KeptChain.{KeptChain}
use Rattle.ev_types.specs.declared.rows.GenRow.{GenRow}

-- a chain of a listener with its place
pub record PlacedChain : Type 0 where
  pub place : ChainPlace
  pub chain : FilterChain

-- these chains with their places, from this one on
abbrev pub placed_from : ℕ → List FilterChain → List PlacedChain
placed_from place [] = []
placed_from place (chain ∷ chains) = record { place = At place; chain = chain } ∷ placed_from (place + 1) chains

-- a default chain with its place
abbrev pub placed_default : FilterChain → PlacedChain
placed_default chain = record { place = Default; chain = chain }

-- the chains of a listener in order, then its default chain
abbrev pub placed : Listener → List PlacedChain
placed listener = placed_from 0 listener.filter_chains ++ option_to_list (option_map placed_default listener.default_filter_chain)

-- the chains of a content
abbrev pub placed_in : Content → List PlacedChain
placed_in (a_listener listener) = placed listener
placed_in content = []

-- both are among the chains that are matched, or both are default chains
abbrev pub is_as_default : ChainPlace → ChainPlace → Bool
is_as_default (At place) (At other) = true
is_as_default Default Default = true
is_as_default place other = false

-- the chain stays as this one of the listener before: their bodies are equal
abbrev pub stays_as : PlacedChain → PlacedChain → Bool
stays_as chain before =
    is_as_default chain.place before.place && bytes_eq chain.chain.body_text before.chain.body_text

-- the origin that a generation has of the one before it, for the chain at this place, if it has one
abbrev pub kept_at : List KeptChain → ChainPlace → Option Origin
kept_at kept place = option_map (λ (k : KeptChain). k.origin) (find (λ (k : KeptChain). chain_place_same k.place place) kept)

-- where the chain at this place began: the generation's own unless it was kept
abbrev pub origin_at : ℕ → List KeptChain → ChainPlace → Origin
origin_at number kept place = unwrap_or (kept_at kept place) (record { listener = number; place = place })

-- a chain of an update as it is kept of a generation with these chains, where it stays
abbrev pub kept_as : GenRow → List PlacedChain → PlacedChain → Option KeptChain
kept_as row before chain =
    option_map (λ (b : PlacedChain). record { place = chain.place; origin = origin_at row.number row.kept b.place })
    (find (stays_as chain) before)

-- the chains of a content that are kept of a generation
abbrev pub kept_of : GenRow → Content → List KeptChain
kept_of row content = filter_map (kept_as row (placed_in row.content)) (placed_in content)

-- the chains that are kept of the generation that serves, if there is one
abbrev pub kept_from : Option GenRow → Content → List KeptChain
kept_from None content = []
kept_from (Some row) content = kept_of row content

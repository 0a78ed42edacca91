-- Where the chains of a generation began, as a table by place.
use Rattle.std.specs.Prelude.{◌≡◌, ◌++◌, List, [], ◌∷◌}
use Rattle.indexmap.specs.IndexMap.{IndexMap, get}
use Rattle.ev_types.specs.Origins.{chain_place_same}
use Rattle.ev_types.specs.declared.origins.ChainPlace.{ChainPlace}
use Rattle.ev_types.specs.declared.origins.KeptChain.{KeptChain}
use Rattle.ev_types.specs.declared.origins.Origin.{Origin}
use Rattle.ev_model.specs.Origins.{kept_at}

-- the table has these chains
abbrev pub AreKept : {S : Type 0} → List KeptChain → IndexMap ChainPlace Origin S → Type 0
AreKept kept places = (place : ChainPlace) → get chain_place_same places place ≡ kept_at kept place

-- whichever chains the old table has, the new one has this one after them
abbrev pub KeepsMore : {S : Type 0} → IndexMap ChainPlace Origin S → IndexMap ChainPlace Origin S → KeptChain → Type 0
KeepsMore old new chain = (kept : List KeptChain) → AreKept kept old → AreKept (kept ++ chain ∷ []) new

-- The chains that an update keeps, found by their texts. Source: in place updates of listeners in Envoy's
-- documentation.
use Rattle.std.specs.Prelude.{◌≡◌, ℕ, if◌then◌else◌, List, find, Option, None, Some, option_map}
use Rattle.std.specs.Str.{bytes_eq}
use Rattle.indexmap.specs.IndexMap.{IndexMap, get}
use Rattle.ev_types.specs.declared.listeners.FilterChain.{FilterChain}
use Rattle.ev_types.specs.declared.origins.ChainPlace.TheVariants.{Default}
use Rattle.ev_types.specs.declared.origins.KeptChain.{KeptChain}
use Rattle.ev_types.specs.declared.origins.Origin.{Origin}
use Rattle.ev_types.specs.declared.rows.GenRow.{GenRow}
use Rattle.ev_model.specs.Origins.{PlacedChain, origin_at}

-- where the first of these chains of a generation began that has the text, if one has
abbrev pub origin_by : GenRow → List PlacedChain → List ℕ → Option Origin
origin_by row chains text =
    option_map (λ (c : PlacedChain). origin_at row.number row.kept c.place)
    (find (λ (c : PlacedChain). bytes_eq c.chain.body_text text) chains)

-- the table says of each text where the first of these chains began that has it
abbrev pub HaveOrigins : {S : Type 0} → GenRow → List PlacedChain → IndexMap (List ℕ) Origin S → Type 0
HaveOrigins row chains origins = (text : List ℕ) → get bytes_eq origins text ≡ origin_by row chains text

-- the table says of the chain's text that the chain began there, and of other texts what it said
abbrev pub AddsOrigin : {S : Type 0} → IndexMap (List ℕ) Origin S → IndexMap (List ℕ) Origin S → FilterChain → Origin → Type 0
AddsOrigin old new chain origin = (text : List ℕ) → get bytes_eq new text
    ≡ (if bytes_eq chain.body_text text then Some origin else get bytes_eq old text)

-- a chain as it is kept, where the table has its text
abbrev pub kept_by : {S : Type 0} → IndexMap (List ℕ) Origin S → PlacedChain → Option KeptChain
kept_by origins chain =
    option_map (λ (o : Origin). record { place = chain.place; origin = o }) (get bytes_eq origins chain.chain.body_text)

-- a default chain as it is kept, where the generation before has one of the same text
abbrev pub default_kept : GenRow → Option FilterChain → Option FilterChain → Option KeptChain
default_kept row None update = None
default_kept row (Some before) None = None
default_kept row (Some before) (Some update) =
    if bytes_eq update.body_text before.body_text
    then Some (record { place = Default; origin = origin_at row.number row.kept Default })
    else None

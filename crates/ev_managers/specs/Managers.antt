-- Both managers, and the worlds that they represent.
use Rattle.std.specs.Prelude.{◌≡◌, [], ℕ, Bool, true, false, List, Option, None, Some}
use Rattle.std.specs.List.{list_any}
use Rattle.ev_types.specs.Kinds.{is_by_name}
use Rattle.ev_types.specs.Items.{ItemParts}
use Rattle.ev_types.specs.declared.contents.Content.{Content}
use Rattle.ev_types.specs.declared.contents.Kind.{Kind}
use Rattle.ev_types.specs.declared.contents.Kind.TheVariants.{Cds, Eds, Lds, Rds, Sds, Ecds}
use Rattle.ev_types.specs.declared.events.Verdict.{Verdict}
use Rattle.ev_model.specs.World.{World}
use Rattle.ev_model.specs.Signals.{no_hosts, no_routes, with_end}
use Rattle.ev_lookups.specs.Keys.{named}
use Rattle.ev_indexes.specs.Indexes.{depends_on}
use Rattle.ev_indexes.specs.Worlds.{HasRows}
use Rattle.ev_warming.specs.Arrivals.{AreOnRows, AreOnValues}
use Rattle.ev_warming.specs.Managers.{IsKept}
use Rattle.ev_managers.specs.declared.managers.Managers.{Managers}

-- they keep what each of their calls needs
abbrev pub AreManagersKept : Managers → Type 0
AreManagersKept m = IsKept m.core

-- all is forgotten that nobody needs: the next forgetting has nothing to look at
abbrev pub AreForgotten : Managers → Type 0
AreForgotten m = m.core.stale ≡ []

-- they have what the world has
abbrev pub StandFor : Managers → World → Type 0
StandFor m world = HasRows m.core.state world

-- whatever world the first ones represent, the second ones represent that world changed so
abbrev pub Follow : Managers → Managers → (World → World) → Type 0
Follow old new change = (world : World) → StandFor old world → StandFor new (change world)

-- whatever world they represent, the answer is what is read of it so
abbrev pub AnswerFor : {A : Type 0} → Managers → A → (World → A) → Type 0
AnswerFor m answer reading = (world : World) → StandFor m world → answer ≡ reading world

-- each generation stays as it is
abbrev pub HaveSameRows : Managers → Managers → Type 0
HaveSameRows before after = after.core.state.table.rows ≡ before.core.state.table.rows

-- these verdicts may be given on a response of this kind: of what is asked for by name only resources of watched names
-- are kept, and no generation is made of them; of clusters and listeners no value is kept
pub record MayBeGiven (m : Managers) (kind : Kind) (verdicts : List Verdict) (items : List ItemParts) : Type 0 where
  pub values : is_by_name kind ≡ true → AreOnValues kind m.core.state.table.rows verdicts items
  pub rows : is_by_name kind ≡ false → AreOnRows verdicts

-- a live generation depends on this name of a kind
abbrev pub is_watched_in : Managers → Kind → List ℕ → Bool
is_watched_in m kind name = list_any (depends_on (named kind name)) m.core.state.table.rows

-- what a name represents once its resource has come to its end: no endpoints, or no routes; others stay what they are
abbrev pub last_value : Kind → Option Content
last_value Cds = None
last_value Eds = Some no_hosts
last_value Lds = None
last_value Rds = Some no_routes
last_value Sds = None
last_value Ecds = None

-- the second ones follow the first ones where a name has come to its end: one of what is asked for by name is to be
-- watched
abbrev pub FollowEnd : Managers → Managers → Kind → List ℕ → Type 0
FollowEnd old new kind name =
    (world : World) → StandFor old world → (is_by_name kind ≡ true → is_watched_in old kind name ≡ true) → StandFor new (with_end kind name world)

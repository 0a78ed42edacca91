-- What the managers answer where verdicts are asked for is what the world says.
use Rattle.std.proofs.Common.{◌≡◌, ◌∙◌, Bool, true, false, not, ◌&&◌, cond, List, [], ◌∷◌, Some, map, find, option_map, refl, ap}
use Rattle.std.specs.List.{AllByRecursion as ByRecursion}
use Rattle.std.proofs.lemmas.Bool.{cond_both, both_ways}
use Rattle.ev_types.specs.Kinds.{kind_same, kind_decides}
use Rattle.ev_types.specs.Statuses.{is_live}
use Rattle.ev_types.specs.declared.contents.Kind.{Kind}
use Rattle.ev_types.specs.declared.rows.RowStatus.{RowStatus}
use Rattle.ev_types.specs.declared.rows.RowStatus.TheVariants.{Warming, Active, Draining, Dropped}
use Rattle.ev_types.specs.declared.rows.GenRow.{GenRow}
use Rattle.ev_types.specs.declared.rows.Live.{Live}
use Rattle.ev_model.specs.World.{World}
use Rattle.ev_model.specs.Live.{is_named, live_of, lives_of}
use Rattle.ev_model.specs.Rows.{is_row_of, serving_row}
use Rattle.ev_model.specs.Verdicts.{serving_of}
use Rattle.ev_types.specs.Kinds.{is_by_name}
use Rattle.ev_lookups.specs.Keys.{named}
use Rattle.ev_lookups.specs.declared.kind_keys.Key.{Key}
use Rattle.ev_indexes.specs.declared.state.State.{State}
use Rattle.ev_indexes.specs.Indexes.{IsIndexed}
use Rattle.ev_indexes.specs.Reads.{live_rows}
use Rattle.ev_indexes.specs.Worlds.{HasRows}
use Rattle.ev_indexes.proofs.HolderLemmas.{holders-world}
use Rattle.ev_indexes.proofs.NewestLemmas.{newest-world}
use Rattle.ev_indexes.proofs.ReadLemmas.{watched-world}
use Rattle.ev_verdicts.specs.Known.{Tells}
use Rattle.ev_subscription.specs.Subscriptions.{SubscriptionParts, HasVersions}
use Rattle.ev_subscription.proofs.KindLemmas.{kept_is}
use Rattle.ev_state.specs.Known.{answers_by, serving_in}
use Rattle.ev_state.proofs.WholeLemmas.{AreWhole}

-- what is so of rows is so of what is seen of the live ones
seen_all : (P : GenRow → Type 0) (Q : Live → Type 0) → ((row : GenRow) → P row → Q (live_of row)) → (rows : List GenRow)
    → ByRecursion P rows → ByRecursion Q (map live_of (live_rows rows))
seen_all P Q so [] all = tt
seen_all P Q so (row ∷ rows) all =
    cond_both (is_live row.status) (row ∷ live_rows rows) (live_rows rows) (λ rs. ByRecursion Q (map live_of rs))
    (λ lives. (so row all.0, seen_all P Q so rows all.1)) (λ gone. seen_all P Q so rows all.1)

-- no live row is of a kind that is asked for by name
kind_apart : (kind other : Kind) → is_by_name kind ≡ true → is_by_name other ≡ false → kind_same other kind ≡ false
kind_apart kind other by_name whole = by (kind_same other kind) refl
  where
    by : (b : Bool) → kind_same other kind ≡ b → b ≡ false
    by true same = absurd (both_ways (is_by_name other) whole (ap is_by_name ((kind_decides other kind).0 same) ∙ by_name))
    by false same = refl

apart_all : (kind : Kind) (world : World) → AreWhole world.rows → is_by_name kind ≡ true
    → ByRecursion (λ (live : Live). kind_same live.kind kind ≡ false) (lives_of world)
apart_all kind world whole by_name =
    seen_all (λ (row : GenRow). is_by_name row.kind ≡ false) (λ (live : Live). kind_same live.kind kind ≡ false)
    (λ row whole. kind_apart kind row.kind by_name whole) world.rows whole

module _ (key : Key) where
  -- the live generation that serves the name
  abbrev served : Live → Bool
  served live = is_named key.kind key.name live && not live.warming

  -- what is seen of the row that serves a name is the live one of the name that doesn't warm
  serving_lives : (rows : List GenRow) → serving_in rows key ≡ find served (map live_of (live_rows rows))
  serving_lives [] = refl
  serving_lives (row ∷ rows) = by row.status (serving_lives rows)
    where
      chosen : (n active : Bool) (r : GenRow) → serving_in rows key ≡ find served (map live_of (live_rows rows))
          → option_map live_of (cond (n && active) (Some r) (serving_row key.kind key.name rows)) ≡ cond (n && active) (Some (live_of r)) (find served (map live_of (live_rows rows)))
      chosen true true r rest = refl
      chosen true false r rest = rest
      chosen false active r rest = rest

      passed : (n : Bool) (r : GenRow) → serving_in rows key ≡ find served (map live_of (live_rows rows))
          → option_map live_of (cond (n && false) (Some r) (serving_row key.kind key.name rows)) ≡ find served (map live_of (live_rows rows))
      passed true r rest = rest
      passed false r rest = rest

      by : (status : RowStatus) → serving_in rows key ≡ find served (map live_of (live_rows rows))
          → serving_in (record row { status = status } ∷ rows) key ≡ find served (map live_of (live_rows (record row { status = status } ∷ rows)))
      by Warming rest = chosen (is_row_of key.kind key.name row) false (record row { status = Warming }) rest
      by Active rest = chosen (is_row_of key.kind key.name row) true (record row { status = Active }) rest
      by Draining rest = passed (is_row_of key.kind key.name row) (record row { status = Draining }) rest
      by Dropped rest = passed (is_row_of key.kind key.name row) (record row { status = Dropped }) rest

serving_world : (s : State) (world : World) (key : Key) → HasRows s world → serving_in s.table.rows key ≡ serving_of (lives_of world) key.kind key.name
serving_world s world key has = (λ i. serving_in (has.rows i) key) ∙ serving_lives key world.rows

-- the answers are those of the world that the managers represent
pub tells : (s : State) (subscription : SubscriptionParts) (kind : Kind) (world : World) → IsIndexed s → HasRows s world → HasVersions subscription world → AreWhole world.rows
    → Tells (answers_by s subscription) kind (lives_of world) world.versions
tells s subscription kind world indexed has versions whole = record {
  newest = λ k name. newest-world s world (named k name) has;
  serving = λ k name. serving_world s world (named k name) has;
  holders = λ address. holders-world s indexed address world has;
  watched = λ k name. watched-world s world has (named k name);
  kept = λ k name version. kept_is subscription world k name version versions;
  apart = apart_all kind world whole;
}

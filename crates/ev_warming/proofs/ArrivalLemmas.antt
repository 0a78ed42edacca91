-- A state that represents a world represents it once something was received for a name,
-- and once a name has come to its end.
use Rattle.std.proofs.Common.{◌≡◌, ◌∙◌, ℕ, Bool, true, false, cond, ◌&&◌, List, [], ◌∷◌, ◌++◌, Option, None, Some, IsSome, is_some, unwrap_or, map, filter, refl, sym, ap, subst}
use Rattle.std.specs.List.{filter_map, last_or}
use Rattle.std.proofs.lemmas.List.Elements.{filter_map-append, filter-append}
use Rattle.std.proofs.lemmas.List.{map-append}
use Rattle.ev_types.specs.Statuses.{is_warming, is_active}
use Rattle.ev_types.specs.declared.contents.Kind.{Kind}
use Rattle.ev_types.specs.declared.rows.Arrival.{Arrival}
use Rattle.ev_types.specs.declared.rows.Arrival.TheVariants.{Value, Absent, Bad, TimedOut, Ended}
use Rattle.ev_types.specs.declared.rows.RowStatus.{RowStatus}
use Rattle.ev_types.specs.declared.rows.RowStatus.TheVariants.{Warming, Active, Draining, Dropped}
use Rattle.ev_types.specs.declared.rows.GenRow.{GenRow}
use Rattle.ev_model.specs.World.{World, Arrived}
use Rattle.ev_model.specs.Warming.{content_in, is_word, is_timeout, last_told, last_timed, value_by, is_for, last_made}
use Rattle.ev_model.specs.Rows.{arrived, is_row_of, with_statuses, replaced_status, removed_status}
use Rattle.ev_model.specs.Signals.{ended_status}
use Rattle.ev_indexes.specs.KeptEndpoints.{result_in}
use Rattle.ev_indexes.specs.Tables.{row_in}
use Rattle.ev_lookups.specs.Keys.{key_same, key_decides, named}
use Rattle.ev_lookups.specs.declared.kind_keys.Key.{Key}
use Rattle.ev_indexes.specs.declared.watches.Watch.{Watch}
use Rattle.ev_indexes.specs.declared.state.State.{State}
use Rattle.ev_indexes.specs.Kept.{Sets}
use Rattle.ev_indexes.specs.Watched.{WatchesKept, unwatched, watch_in, with_arrival}
use Rattle.ev_indexes.specs.Indexes.{SameMarks}
use Rattle.ev_warming.specs.Promotion.{status_drained}
use Rattle.ev_indexes.specs.Worlds.{HasRows}
use Rattle.ev_warming.proofs.PromotionLemmas.{with_statuses-twice}
use Rattle.ev_indexes.proofs.SoundLemmas.{sound-with_statuses}
use Rattle.ev_warming.proofs.PromotedLemmas.{there_before}
use Rattle.ev_warming.proofs.SortedLemmas.{sort-for}

-- what was received for a name, after one thing more
for-push : (arrivals : List Arrived) (made : ℕ) (kind : Kind) (arrival : Arrival) (name : List ℕ) (q : Key)
    → filter (is_for q.kind q.name) (arrivals ++ arrived made kind arrival name ∷ []) ≡ filter (is_for q.kind q.name) arrivals ++ cond (key_same (named kind name) q) (arrived made kind arrival name ∷ []) []
for-push arrivals made kind arrival name q =
    filter-append (is_for q.kind q.name) arrivals (arrived made kind arrival name ∷ [])

pub last_or-append : {A : Type 0} (o : Option A) (xs ys : List A) → last_or o (xs ++ ys) ≡ last_or (last_or o xs) ys
last_or-append o [] ys = refl
last_or-append o (x ∷ xs) ys = last_or-append (Some x) xs ys

-- the last of a sort, of what was received for a name
abbrev last_in : (Arrival → Bool) → Option ℕ → List Arrived → Option ℕ
last_in is o came = last_or o (map (λ (a : Arrived). a.made) (filter (λ (a : Arrived). is a.arrival) came))

-- after one thing more
last-push : (is : Arrival → Bool) (arrivals : List Arrived) (made : ℕ) (kind : Kind) (arrival : Arrival) (name : List ℕ) (q : Key)
    → last_made is (arrivals ++ arrived made kind arrival name ∷ []) q.kind q.name
    ≡ last_in is (last_made is arrivals q.kind q.name) (cond (key_same (named kind name) q) (arrived made kind arrival name ∷ []) [])
last-push is arrivals made kind arrival name q =
    (λ i. last_or None (map (λ (a : Arrived). a.made) (sort-for is (arrivals ++ arrived made kind arrival name ∷ []) q.kind q.name i)))
    ∙ ap (last_in is None) (for-push arrivals made kind arrival name q)
    ∙ (λ i. last_or None (map (λ (a : Arrived). a.made) (filter-append (λ (a : Arrived). is a.arrival) (filter (is_for q.kind q.name) arrivals) (cond (key_same (named kind name) q) (arrived made kind arrival name ∷ []) []) i)))
    ∙ ap (last_or None) (map-append (λ (a : Arrived). a.made) (filter (λ (a : Arrived). is a.arrival) (filter (is_for q.kind q.name) arrivals))
    (filter (λ (a : Arrived). is a.arrival) (cond (key_same (named kind name) q) (arrived made kind arrival name ∷ []) [])))
    ∙ last_or-append None (map (λ (a : Arrived). a.made) (filter (λ (a : Arrived). is a.arrival) (filter (is_for q.kind q.name) arrivals)))
    (map (λ (a : Arrived). a.made) (filter (λ (a : Arrived). is a.arrival) (cond (key_same (named kind name) q) (arrived made kind arrival name ∷ []) [])))
    ∙ (λ i. last_in is (last_or None (map (λ (a : Arrived). a.made) (sym (sort-for is arrivals q.kind q.name) i))) (cond (key_same (named kind name) q) (arrived made kind arrival name ∷ []) []))

told-with_arrival : (made : ℕ) (kind : Kind) (arrival : Arrival) (name : List ℕ) (watch : Watch) → (with_arrival made arrival watch).told ≡ last_in is_word watch.told (arrived made kind arrival name ∷ [])
told-with_arrival made kind (Value content) name watch = refl
told-with_arrival made kind Absent name watch = refl
told-with_arrival made kind Bad name watch = refl
told-with_arrival made kind TimedOut name watch = refl
told-with_arrival made kind (Ended content) name watch = refl

timed-with_arrival : (made : ℕ) (kind : Kind) (arrival : Arrival) (name : List ℕ) (watch : Watch) → (with_arrival made arrival watch).timed ≡ last_in is_timeout watch.timed (arrived made kind arrival name ∷ [])
timed-with_arrival made kind (Value content) name watch = refl
timed-with_arrival made kind Absent name watch = refl
timed-with_arrival made kind Bad name watch = refl
timed-with_arrival made kind TimedOut name watch = refl
timed-with_arrival made kind (Ended content) name watch = refl

value-with_arrival : (made : ℕ) (arrival : Arrival) (watch : Watch) → (with_arrival made arrival watch).value ≡ last_or watch.value (filter_map content_in (arrival ∷ []))
value-with_arrival made (Value content) watch = refl
value-with_arrival made Absent watch = refl
value-with_arrival made Bad watch = refl
value-with_arrival made TimedOut watch = refl
value-with_arrival made (Ended content) watch = refl

module _ (s : State) (world : World) (stands : HasRows s world) (kind : Kind) (name : List ℕ) (arrival : Arrival) (watches : WatchesKept)
    (sets : Sets unwatched s.watches watches (named kind name) (with_arrival world.made arrival (watch_in s.watches (named kind name)))) where
  abbrev new : Arrived
  new = arrived world.made kind arrival name

  told_after : (q : Key) → (watch_in watches q).told ≡ last_told (world.arrivals ++ new ∷ []) q.kind q.name
  told_after q = (λ i. (sets q i).told) ∙ by (key_same (named kind name) q) refl ∙ sym (last-push is_word world.arrivals world.made kind arrival name q)
    where
      by : (b : Bool) → key_same (named kind name) q ≡ b → (cond b (with_arrival world.made arrival (watch_in s.watches (named kind name))) (watch_in s.watches q)).told
          ≡ last_in is_word (last_told world.arrivals q.kind q.name) (cond b (new ∷ []) [])
      by true e =
          told-with_arrival world.made kind arrival name (watch_in s.watches (named kind name))
          ∙ (λ i. last_in is_word (watch_in s.watches ((key_decides (named kind name) q).0 e i)).told (new ∷ []))
          ∙ (λ i. last_in is_word (stands.told q i) (new ∷ []))
      by false e = stands.told q

  timed_after : (q : Key) → (watch_in watches q).timed ≡ last_timed (world.arrivals ++ new ∷ []) q.kind q.name
  timed_after q = (λ i. (sets q i).timed) ∙ by (key_same (named kind name) q) refl ∙ sym (last-push is_timeout world.arrivals world.made kind arrival name q)
    where
      by : (b : Bool) → key_same (named kind name) q ≡ b → (cond b (with_arrival world.made arrival (watch_in s.watches (named kind name))) (watch_in s.watches q)).timed
          ≡ last_in is_timeout (last_timed world.arrivals q.kind q.name) (cond b (new ∷ []) [])
      by true e =
          timed-with_arrival world.made kind arrival name (watch_in s.watches (named kind name))
          ∙ (λ i. last_in is_timeout (watch_in s.watches ((key_decides (named kind name) q).0 e i)).timed (new ∷ []))
          ∙ (λ i. last_in is_timeout (stands.timed q i) (new ∷ []))
      by false e = stands.timed q

  value_after : (q : Key) → (watch_in watches q).value ≡ value_by (world.arrivals ++ new ∷ []) q.kind q.name
  value_after q =
      (λ i. (sets q i).value) ∙ by (key_same (named kind name) q) refl
      ∙ sym (ap (λ (xs : List Arrived). last_or None (filter_map content_in (map (λ (a : Arrived). a.arrival) xs))) (for-push world.arrivals world.made kind arrival name q)
      ∙ (λ i. last_or None (filter_map content_in (map-append (λ (a : Arrived). a.arrival) (filter (is_for q.kind q.name) world.arrivals) (cond (key_same (named kind name) q) (new ∷ []) []) i)))
      ∙ ap (last_or None) (filter_map-append content_in (map (λ (a : Arrived). a.arrival) (filter (is_for q.kind q.name) world.arrivals)) (map (λ (a : Arrived). a.arrival) (cond (key_same (named kind name) q) (new ∷ []) [])))
      ∙ last_or-append None (filter_map content_in (map (λ (a : Arrived). a.arrival) (filter (is_for q.kind q.name) world.arrivals)))
      (filter_map content_in (map (λ (a : Arrived). a.arrival) (cond (key_same (named kind name) q) (new ∷ []) []))))
    where
      by : (b : Bool) → key_same (named kind name) q ≡ b → (cond b (with_arrival world.made arrival (watch_in s.watches (named kind name))) (watch_in s.watches q)).value
          ≡ last_or (value_by world.arrivals q.kind q.name) (filter_map content_in (map (λ (a : Arrived). a.arrival) (cond b (new ∷ []) [])))
      by true e =
          value-with_arrival world.made arrival (watch_in s.watches (named kind name))
          ∙ (λ i. last_or (watch_in s.watches ((key_decides (named kind name) q).0 e i)).value (filter_map content_in (arrival ∷ [])))
          ∙ (λ i. last_or (stands.value q i) (filter_map content_in (arrival ∷ [])))
      by false e = stands.value q

  pub arrived-stands : (due : List ℕ) → HasRows (record s { watches = watches; due = due }) (record world { arrivals = world.arrivals ++ new ∷ [] })
  arrived-stands due = record {
    sound = record { table = stands.sound.table; typed = stands.sound.typed; named = stands.sound.named; heard = stands.sound.heard };
    rows = stands.rows;
    made = stands.made;
    told = told_after;
    timed = timed_after;
    value = value_after;
    resulted = stands.resulted;
    healthy = stands.healthy;
  }

-- other statuses by one rule, in the state and in the world
pub statused-stands : (s t : State) (world : World) (f : GenRow → RowStatus) → HasRows s world → t.table.made ≡ s.table.made → t.results ≡ s.results → SameMarks s.watches t.watches
    → t.table.rows ≡ with_statuses f s.table.rows → HasRows t (record world { rows = with_statuses f world.rows })
statused-stands s t world f stands made results marks rows = record {
  sound = sound-with_statuses world f stands.sound;
  rows = rows ∙ ap (with_statuses f) stands.rows;
  made = made ∙ stands.made;
  told = λ q. (marks q).0 ∙ stands.told q;
  timed = λ q. (marks q).1 ∙ stands.timed q;
  value = λ q. (marks q).2 ∙ stands.value q;
  resulted = λ n h there. (λ i. is_some (result_in (results i) n h)) ∙ stands.resulted n h (there_before n f s.table.rows (subst (λ (rs : List GenRow). IsSome (row_in n rs)) rows there));
  healthy = λ n h there. (λ i. unwrap_or (result_in (results i) n h) false) ∙ stands.healthy n h (there_before n f s.table.rows (subst (λ (rs : List GenRow). IsSome (row_in n rs)) rows there));
}

-- the one that warms is dropped and the one that serves drains: what comes to its end
pub ended-rows : (kind : Kind) (name : List ℕ) (rows : List GenRow)
    → with_statuses (status_drained (named kind name)) (with_statuses (replaced_status kind name) rows) ≡ with_statuses (ended_status kind name) rows
ended-rows kind name rows =
    with_statuses-twice (status_drained (named kind name)) (replaced_status kind name) rows ∙ each rows
  where
    by : (st : RowStatus) (b : Bool) → cond (is_active (cond (b && is_warming st) Dropped st) && b) Draining (cond (b && is_warming st) Dropped st) ≡ cond b (removed_status st) st
    by Warming true = refl
    by Active true = refl
    by Draining true = refl
    by Dropped true = refl
    by Warming false = refl
    by Active false = refl
    by Draining false = refl
    by Dropped false = refl

    each : (rs : List GenRow) → with_statuses (λ (r : GenRow). status_drained (named kind name) (record r { status = replaced_status kind name r })) rs ≡ with_statuses (ended_status kind name) rs
    each [] = refl
    each (r ∷ rs) = λ i. record r { status = by r.status (is_row_of kind name r) i } ∷ each rs i

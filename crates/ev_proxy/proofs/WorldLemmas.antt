-- What events leave of a world: publications and workers leave what the managers know, and the managers leave what
-- workers hold.
use Rattle.std.proofs.Common.{◌≡◌, ℕ, ◌<◌, Bool, true, false, cond, List, [], ◌∷◌, ◌++◌, length, refl, sym, ap, subst, ◌∙◌}
use Rattle.std.proofs.lemmas.List.{append-nil, length-map}
use Rattle.ev_types.specs.declared.events.Actor.{Actor}
use Rattle.ev_types.specs.declared.events.Actor.TheVariants.{Worker as by_worker}
use Rattle.ev_types.specs.declared.events.Answer.{Answer}
use Rattle.ev_types.specs.declared.events.Answer.TheVariants.{Ignored, Unchanged, Version}
use Rattle.ev_types.specs.declared.events.Event.{Event}
use Rattle.ev_types.specs.declared.events.Event.TheVariants.{Connect, Disconnect, Response, Health, FetchTimeout, DrainTimeout, TtlExpired, Publish, Reap, Accept, Close, Settle}
use Rattle.ev_types.specs.declared.journals.Format.{Format}
use Rattle.ev_types.specs.declared.rows.GenRow.{GenRow}
use Rattle.ev_model.specs.World.{World, OpenMember, last_version}
use Rattle.ev_model.specs.declared.pictures.Picture.{Picture}
use Rattle.ev_model.specs.declared.pictures.Shown.{Shown}
use Rattle.ev_model.specs.Dead.{shown_at}
use Rattle.ev_model.specs.Picture.{shown_of, shown_same}
use Rattle.ev_model.specs.Publishing.{publish, without_dead}
use Rattle.ev_model.specs.Runs.{world_after}
use Rattle.ev_model.specs.Signals.{drain_timeout, expire, unexpired}
use Rattle.ev_model.specs.Step.{step}
use Rattle.ev_model.specs.Tidy.{tidy}
use Rattle.ev_model_laws.proofs.KeepLemmas.{is_moving, is_for_managers}
use Rattle.ev_model_laws.proofs.SeenLemmas.{same_seen, same_expired}
use Rattle.ev_worker.specs.Batches.{entries_of}
use Rattle.ev_worker.specs.Workers.{AreAnswered, IsAnswer}
use Rattle.ev_worker.specs.declared.lines.Outcome.{Outcome}
use Rattle.ev_worker.specs.declared.lines.BatchLine.{BatchLine}
use Rattle.ev_state.specs.States.{SameManaged}
use Rattle.ev_retirement.specs.Holders.{HoldersParts, HoldsFor, with_expired}
use Rattle.ev_state.proofs.FrameLemmas.{at-frame}
use Rattle.ev_retirement.specs.Retiring.{HoldTheSame}
use Rattle.ev_proxy.specs.declared.proxy.Proxy.{Proxy}
use Rattle.ev_proxy.specs.Proxies.{IsAt, IsKnown}
use Rattle.ev_proxy.proofs.ShownLemmas.{still_shown}

-- the managers' part is the same
pub itself : (world : World) → SameManaged world world
itself world = record {
  rows = refl;
  made = refl;
  arrivals = refl;
  results = refl;
  versions = refl;
  stream = refl;
  first_clusters = refl;
  first_listeners = refl;
  late_clusters = refl;
  late_listeners = refl;
  phase = refl;
  node = refl;
}

pub same_but : (world : World) (pictures : List Shown) (held : List ℕ) (opened : List OpenMember) (expired : List ℕ)
    → SameManaged world (record world { pictures = pictures; held = held; opened = opened; expired = expired })
same_but world pictures held opened expired = record {
  rows = refl;
  made = refl;
  arrivals = refl;
  results = refl;
  versions = refl;
  stream = refl;
  first_clusters = refl;
  first_listeners = refl;
  late_clusters = refl;
  late_listeners = refl;
  phase = refl;
  node = refl;
}

then_same : (a b c : World) → SameManaged a b → SameManaged b c → SameManaged a c
then_same a b c p q = record {
  rows = q.rows ∙ p.rows;
  made = q.made ∙ p.made;
  arrivals = q.arrivals ∙ p.arrivals;
  results = q.results ∙ p.results;
  versions = q.versions ∙ p.versions;
  stream = q.stream ∙ p.stream;
  first_clusters = q.first_clusters ∙ p.first_clusters;
  first_listeners = q.first_listeners ∙ p.first_listeners;
  late_clusters = q.late_clusters ∙ p.late_clusters;
  late_listeners = q.late_listeners ∙ p.late_listeners;
  phase = q.phase ∙ p.phase;
  node = q.node ∙ p.node;
}

-- a publication
pub publish_same : (world : World) → SameManaged world (publish world).0
publish_same world = by (shown_same (shown_of world) (shown_at world (last_version world)))
  where
    led : Bool → World × Answer
    led t = cond t (world, Unchanged) (record world { pictures = world.pictures ++ shown_of world ∷ [] }, Version (length world.pictures))

    by : (t : Bool) → SameManaged world (led t).0
    by true = itself world
    by false = same_but world (world.pictures ++ shown_of world ∷ []) world.held world.opened world.expired

-- a reaping, once its rows are gone
pub reaped_same : (format : Format) (world : World) (rows : List GenRow) → rows ≡ (without_dead format world).rows
    → SameManaged (record world { rows = rows }) (without_dead format world)
reaped_same format world rows is = record {
  rows = sym is;
  made = refl;
  arrivals = refl;
  results = refl;
  versions = refl;
  stream = refl;
  first_clusters = refl;
  first_listeners = refl;
  late_clusters = refl;
  late_listeners = refl;
  phase = refl;
  node = refl;
}

-- a line of a batch
answered_leaves : (format : Format) (worker : ℕ) (world : World) (event : Event) (outcome : Outcome) → IsAnswer worker world event outcome
    → SameManaged world (step format world (by_worker worker) event).0 × ((step format world (by_worker worker) event).0.pictures ≡ world.pictures)
answered_leaves format worker world (Accept ask) outcome is = (same_but world world.pictures world.held _ world.expired, refl)
answered_leaves format worker world (Close connection) outcome is = (same_but world world.pictures world.held _ world.expired, refl)
answered_leaves format worker world Connect outcome is = absurd is
answered_leaves format worker world Disconnect outcome is = absurd is
answered_leaves format worker world (Response response) outcome is = absurd is
answered_leaves format worker world (Health cluster host healthy) outcome is = absurd is
answered_leaves format worker world (FetchTimeout timeout) outcome is = absurd is
answered_leaves format worker world (DrainTimeout listener) outcome is = absurd is
answered_leaves format worker world (TtlExpired kind name) outcome is = absurd is
answered_leaves format worker world Publish outcome is = absurd is
answered_leaves format worker world Reap outcome is = absurd is
answered_leaves format worker world Settle outcome is = absurd is

-- a batch
pub batch_same : (format : Format) (worker : ℕ) (picture : Picture) (lines : List BatchLine) (world : World) → AreAnswered format worker world lines
    → SameManaged world (world_after format world (entries_of worker picture lines))
batch_same format worker picture [] world all = itself world
batch_same format worker picture (line ∷ lines) world all =
    let next : World = (step format world (by_worker worker) line.event).0 in
    then_same world next _ (answered_leaves format worker world line.event line.outcome all.0).0
    (batch_same format worker picture lines next all.1)

-- it publishes nothing
pub batch_pictures : (format : Format) (worker : ℕ) (picture : Picture) (lines : List BatchLine) (world : World) → AreAnswered format worker world lines
    → (world_after format world (entries_of worker picture lines)).pictures ≡ world.pictures
batch_pictures format worker picture [] world all = refl
batch_pictures format worker picture (line ∷ lines) world all =
    let next : World = (step format world (by_worker worker) line.event).0 in
    batch_pictures format worker picture lines next all.1 ∙ (answered_leaves format worker world line.event line.outcome all.0).1

-- a drain timeout for which no generation waits
pub left_alone : (numbers : List ℕ) (world : World) → (expire numbers world).1 ≡ Ignored → record world { expired = world.expired ++ numbers } ≡ world
left_alone [] world is = λ i. record world { expired = append-nil world.expired i }
left_alone (number ∷ numbers) world is = cc

pub no_timeout : (name : List ℕ) (world : World) → (drain_timeout name world).1 ≡ Ignored → with_expired name world ≡ world
no_timeout name world is = left_alone (unexpired world.expired name world.rows) world is

-- an event of the managers
pub managed_same : (format : Format) (world : World) (actor : Actor) (event : Event) → is_moving event ≡ true → is_for_managers event ≡ true
    → HoldTheSame world (step format world actor event).0
managed_same format world actor event moving theirs =
    let seen = same_seen format world actor event theirs in
    record {
      pictures = seen.pictures;
      held = seen.held;
      opened = seen.opened;
      expired = same_expired format world actor event moving;
    }

-- tidying
pub tidy_same : (world : World) → HoldTheSame world (tidy world)
tidy_same world = record { pictures = refl; held = refl; opened = refl; expired = refl }

-- what a worker does leaves what the managers know and what is published
pub worked_at : (p : Proxy) (holders : HoldersParts) (world : World) (held : List ℕ) (opened : List OpenMember) → IsAt p world
    → HoldsFor holders (record world { held = held; opened = opened }) → IsAt (record p { holders = holders }) (record world { held = held; opened = opened })
worked_at p holders world held opened at stands =
    let same : SameManaged world (record world { held = held; opened = opened }) = same_but world world.pictures held opened world.expired in
    record { managed = at-frame p.state world _ same at.managed; held = stands; shown = still_shown p.changed world _ same refl at.shown }

-- a worker that is known is one of those that hold a picture
pub known_there : (holders : HoldersParts) (world : World) (actor : Actor) (worker : ℕ) → HoldsFor holders world → actor ≡ by_worker worker → IsKnown actor world
    → worker < length holders.pictures.held
known_there holders world actor worker stands is known =
    let within : worker < length world.held = subst (λ (a : Actor). IsKnown a world) is known in
    subst (λ n. worker < n) (sym (ap length stands.pictures.held ∙ length-map world.held _)) within

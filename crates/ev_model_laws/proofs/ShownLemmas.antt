-- What a picture shows had warmed before the picture was published.
use Rattle.std.proofs.Common.{◌≡◌, ℕ, zero, suc, ◌<◌, ◌+◌, ◌⊎◌, inl, inr, true, false, ◌==◌, List, [], ◌∷◌, ◌++◌, length, Some, refl, sym, ap, ◌∙◌, subst, arith}
use Rattle.std.specs.Prelude.{slice_index_or}
use Rattle.std.specs.List.{Contains, list_any}
use Rattle.std.specs.Cmp.{first_so, second_so}
use Rattle.std.proofs.lemmas.Bool.{cond_both}
use Rattle.ev_types.specs.Same.{numbers_decide}
use Rattle.ev_types.specs.Statuses.{is_active}
use Rattle.ev_types.specs.declared.events.Actor.{Actor}
use Rattle.ev_types.specs.declared.events.Answer.{Answer}
use Rattle.ev_types.specs.declared.events.Entry.{Entry}
use Rattle.ev_types.specs.declared.events.Event.{Event}
use Rattle.ev_types.specs.declared.events.Event.TheVariants.{Publish, Connect, Disconnect, Response, Health, FetchTimeout, DrainTimeout, TtlExpired, Reap, Accept, Close, Settle}
use Rattle.ev_types.specs.declared.journals.Format.{Format}
use Rattle.ev_types.specs.declared.rows.GenRow.{GenRow}
use Rattle.ev_model.specs.declared.pictures.Shown.{Shown}
use Rattle.ev_model.specs.World.{World, nothing_shown, opening, last_version}
use Rattle.ev_model.specs.Picture.{is_shown, shown_of, shown_same}
use Rattle.ev_model.specs.Dead.{shown_at}
use Rattle.ev_model.specs.Step.{step, of_worker}
use Rattle.ev_model.specs.Entries.{version_published}
use Rattle.ev_model.specs.Laws.{Told, world_told, IsEntryAt, HadWarmed, WasWarm}
use Rattle.ev_model_laws.specs.Kept.{ServesWarmed, ShowsWarmed}
use Rattle.ev_model_laws.proofs.AnyLemmas.{any_found}
use Rattle.ev_model_laws.proofs.PictureLemmas.{serves_numbered, shown_serves, shown_with}
use Rattle.ev_model_laws.proofs.ServesLemmas.{active_status}
use Rattle.ev_model_laws.proofs.PlaceLemmas.{IsAnswered, world_next}
use Rattle.ev_types.specs.declared.events.Answer.TheVariants.{Unchanged, Version}
use Rattle.ev_model.specs.Connections.{accept, close, settle}
use Rattle.ev_model_laws.proofs.KeepLemmas.{is_for_managers, of_worker-keeps}
use Rattle.ev_model_laws.proofs.SeenLemmas.{same_seen}

next_behind : (pictures : List Shown) (new : Shown) (version number : ℕ)
    → (is_shown number (slice_index_or pictures version nothing_shown) ≡ true) ⊎ ((version ≡ length pictures) × (is_shown number new ≡ true))
    → (is_shown number (slice_index_or pictures version nothing_shown) ≡ true) ⊎ ((suc version ≡ suc (length pictures)) × (is_shown number new ≡ true))
next_behind pictures new version number (inl old) = inl old
next_behind pictures new version number (inr is) = inr (ap suc is.0, is.1)

-- a picture after the others is the one of the next version
shown_behind : (pictures : List Shown) (new : Shown) (version number : ℕ) → is_shown number (slice_index_or (pictures ++ new ∷ []) version nothing_shown) ≡ true
    → (is_shown number (slice_index_or pictures version nothing_shown) ≡ true) ⊎ ((version ≡ length pictures) × (is_shown number new ≡ true))
shown_behind [] new zero number h = inr (refl, h)
shown_behind [] new (suc version) number h = inl h
shown_behind (first ∷ pictures) new zero number h = inl h
shown_behind (first ∷ pictures) new (suc version) number h = next_behind pictures new version number (shown_behind pictures new version number h)

-- the event has published the picture of this version, and the generation served
record IsPublished (world : World) (event : Event) (answer : Answer) (version number : ℕ) : Type 0 where
  publication : event ≡ Publish
  published : version_published answer ≡ Some version
  serves : list_any (serves_numbered number) world.rows ≡ true

-- what a picture shows it showed, or it was published now
abbrev ShowsNow : World → Event → World × Answer → Type 0
ShowsNow world event did =
    (version number : ℕ) → is_shown number (shown_at did.0 version) ≡ true
    → (is_shown number (shown_at world version) ≡ true) ⊎ IsPublished world event did.1 version number

published_by : (world : World) (version number : ℕ)
    → (is_shown number (shown_at world version) ≡ true) ⊎ ((version ≡ length world.pictures) × (is_shown number (shown_of world) ≡ true))
    → (is_shown number (shown_at world version) ≡ true) ⊎ IsPublished world Publish (Version (length world.pictures)) version number
published_by world version number (inl old) = inl old
published_by world version number (inr new) =
    inr (record { publication = refl; published = ap Some (sym new.0); serves = shown_serves number world new.1 })

managed_shows : (format : Format) (world : World) (actor : Actor) (event : Event) → is_for_managers event ≡ true
    → ShowsNow world event (step format world actor event)
managed_shows format world actor event is version number h =
    inl (sym (ap (λ (pictures : List Shown). is_shown number (slice_index_or pictures version nothing_shown))
    (same_seen format world actor event is).pictures) ∙ h)

worked_shows : (change : ℕ → World → World × Answer) (world : World) (actor : Actor) (event : Event)
    → ((worker : ℕ) → (change worker world).0.pictures ≡ world.pictures) → ShowsNow world event (of_worker change actor world)
worked_shows change world actor event same =
    of_worker-keeps (ShowsNow world event) change actor world
    (λ worker by version number h.
    inl (sym (ap (λ (pictures : List Shown). is_shown number (slice_index_or pictures version nothing_shown)) (same worker)) ∙ h))
    (λ version number h. inl h)

step-shows : (format : Format) (world : World) (actor : Actor) (event : Event) → ShowsNow world event (step format world actor event)
step-shows format world actor Connect = managed_shows format world actor Connect refl
step-shows format world actor Disconnect = managed_shows format world actor Disconnect refl
step-shows format world actor (Response response) = managed_shows format world actor (Response response) refl
step-shows format world actor (Health cluster host healthy) = managed_shows format world actor (Health cluster host healthy) refl
step-shows format world actor (FetchTimeout timeout) = managed_shows format world actor (FetchTimeout timeout) refl
step-shows format world actor (DrainTimeout listener) = managed_shows format world actor (DrainTimeout listener) refl
step-shows format world actor (TtlExpired kind name) = managed_shows format world actor (TtlExpired kind name) refl
step-shows format world actor Publish =
    cond_both (shown_same (shown_of world) (shown_at world (last_version world))) (world, Unchanged)
    (record world { pictures = world.pictures ++ shown_of world ∷ [] }, Version (length world.pictures)) (ShowsNow world Publish)
    (λ same version number h. inl h)
    (λ new version number h. published_by world version number (shown_behind world.pictures (shown_of world) version number h))
step-shows format world actor Reap = λ version number h. inl h
step-shows format world actor (Accept ask) = worked_shows (accept ask) world actor (Accept ask) (λ worker. refl)
step-shows format world actor (Close connection) = worked_shows (close connection) world actor (Close connection) (λ worker. refl)
step-shows format world actor Settle = worked_shows settle world actor Settle (λ worker. refl)

-- an entry keeps that what pictures show had warmed
module _ (told : Told) (k : ℕ) (entry : Entry) (there : IsEntryAt told k entry) (answered : IsAnswered told k entry)
    (serves : ServesWarmed told k) (shows : ShowsWarmed told k) where
  warm_by : (version number : ℕ)
      → (is_shown number (shown_at (world_told told k) version) ≡ true)
      ⊎ IsPublished (world_told told k) entry.event (step told.format (world_told told k) entry.actor entry.event).1 version number
      → WasWarm told number version (k + 1)
  warm_by version number (inl old) =
      let was : WasWarm told number version k = shows version number old in
      let lt : was.place < k = was.earlier in
      record {
        place = was.place;
        earlier = omega (arith, lt);
        entry = was.entry;
        there = was.there;
        publication = was.publication;
        published = was.published;
        warmed = was.warmed;
      }
  warm_by version number (inr new) =
      let found : (row : GenRow) × Contains (world_told told k).rows row × (serves_numbered number row ≡ true) =
      any_found (serves_numbered number) (world_told told k).rows new.serves in
      let row : GenRow = found.0 in
      record {
        place = k;
        earlier = omega arith;
        entry = entry;
        there = there;
        publication = new.publication;
        published = ap version_published answered.answer ∙ new.published;
        warmed = subst (λ n. HadWarmed told n k) ((numbers_decide row.number number).0 (first_so (row.number == number) (is_active row.status) found.2))
            (serves row found.1 (active_status row.status (second_so (row.number == number) (is_active row.status) found.2)));
      }

  pub shows_next : ShowsWarmed told (k + 1)
  shows_next version number shown =
      warm_by version number
      (step-shows told.format (world_told told k) entry.actor entry.event version number
      (ap (λ (w : World). is_shown number (shown_at w version)) (sym (world_next told k entry there)) ∙ shown))

-- at the start nothing is shown
pub opens_shows : (workers : ℕ) (node : List ℕ) (version number : ℕ) → is_shown number (shown_at (opening workers node) version) ≡ false
opens_shows workers node version number = shown_with (λ (s : Shown). is_shown number s ≡ false) [] nothing_shown version refl refl

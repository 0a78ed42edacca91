-- What a worker holds is the version on which it has settled last.
use Rattle.std.proofs.Common.{◌≡◌, ℕ, ◌+◌, ◌<◌, Bool, true, false, ◌==◌, cond, List, [], ◌∷◌, ◌++◌, length, filter_map, take, Option, Some, None, unwrap_or, refl, sym, ap, ◌∙◌, subst}
use Rattle.std.specs.Prelude.{slice_index_or, slice_set}
use Rattle.std.specs.List.{last_or, cons_option}
use Rattle.std.specs.Option.{option_or}
use Rattle.std.proofs.lemmas.Bool.{false≢true, cond_both}
use Rattle.std.proofs.lemmas.List.{get_or-set_same, get_or-set_other}
use Rattle.ev_types.specs.Same.{numbers_decide}
use Rattle.ev_types.specs.declared.events.Actor.{Actor}
use Rattle.ev_types.specs.declared.events.Actor.TheVariants.{Worker}
use Rattle.ev_types.specs.declared.events.Answer.{Answer}
use Rattle.ev_types.specs.declared.events.Answer.TheVariants.{Ignored, Unchanged, Version}
use Rattle.ev_types.specs.declared.events.Event.{Event}
use Rattle.ev_types.specs.declared.events.Entry.{Entry}
use Rattle.ev_types.specs.declared.journals.Format.{Format}
use Rattle.ev_model.specs.World.{World, last_version}
use Rattle.ev_model.specs.Operations.{actor_same}
use Rattle.ev_model.specs.Picture.{shown_of, shown_same}
use Rattle.ev_model.specs.Dead.{shown_at, version_held, picture_held}
use Rattle.ev_model.specs.Connections.{accept, close, settle}
use Rattle.ev_model.specs.Publishing.{reap}
use Rattle.ev_model.specs.Entries.{version_settled, version_settled_by, last_settled}
use Rattle.ev_model.specs.Step.{step}
use Rattle.ev_model.specs.Laws.{Told, world_told, IsEntryAt}
use Rattle.ev_model_laws.specs.Kept.{HoldsSettled}
use Rattle.ev_model_laws.proofs.KeepLemmas.{step-holds}
use Rattle.ev_model_laws.proofs.SeenLemmas.{same_seen}
use Rattle.ev_model_laws.proofs.AnswerLemmas.{HoldsOfAnswers, managed_answer, accepted_answer, closed_answer}
use Rattle.ev_model_laws.proofs.PlaceLemmas.{IsAnswered, take_one, world_next}

end_by : (before new : Option ℕ) → last_or before (cons_option new []) ≡ option_or new before
end_by before None = refl
end_by before (Some one) = refl

more_by : (before first new : Option ℕ) (ys zs : List ℕ) → ((o : Option ℕ) → last_or o ys ≡ option_or new (last_or o zs))
    → last_or before (cons_option first ys) ≡ option_or new (last_or before (cons_option first zs))
more_by before None new ys zs same = same before
more_by before (Some one) new ys zs same = same (Some one)

-- the last that a list with one element more has is what this one has, or the last of the others
last_more : (f : Entry → Option ℕ) (before : Option ℕ) (entries : List Entry) (entry : Entry)
    → last_or before (filter_map f (entries ++ entry ∷ [])) ≡ option_or (f entry) (last_or before (filter_map f entries))
last_more f before [] entry = end_by before (f entry)
last_more f before (first ∷ entries) entry =
    more_by before (f first) (f entry) (filter_map f (entries ++ entry ∷ [])) (filter_map f entries) (λ o. last_more f o entries entry)

unwrap_or_by : (new before : Option ℕ) (d : ℕ) → unwrap_or (option_or new before) d ≡ unwrap_or new (unwrap_or before d)
unwrap_or_by None before d = refl
unwrap_or_by (Some one) before d = refl

-- one entry more is the last settle of an actor, or leaves it
pub last_settled-more : (entries : List Entry) (entry : Entry) (actor : Actor)
    → last_settled (entries ++ entry ∷ []) actor ≡ unwrap_or (version_settled_by actor entry) (last_settled entries actor)
last_settled-more entries entry actor =
    ap (λ o. unwrap_or o 0) (last_more (version_settled_by actor) None entries entry)
    ∙ unwrap_or_by (version_settled_by actor entry) (last_or None (filter_map (version_settled_by actor) entries)) 0

-- the version on which a worker has settled by what the actor did, or the one that it held
abbrev settles_to : Actor → ℕ → Answer → ℕ → ℕ
settles_to actor worker answer held = unwrap_or (cond (actor_same actor (Worker worker)) (version_settled answer) None) held

-- what each worker holds is that
abbrev HoldsBy : World → Actor → World × Answer → Type 0
HoldsBy world actor did = (worker : ℕ) → worker < length world.held → version_held did.0 worker ≡ settles_to actor worker did.1 (version_held world worker)

none_by : (test : Bool) (settled : Option ℕ) (held : ℕ) → settled ≡ None → held ≡ unwrap_or (cond test settled None) held
none_by true settled held none = sym (ap (λ o. unwrap_or o held) none)
none_by false settled held none = refl

unsettled : (world : World) (actor : Actor) (did : World × Answer) → did.0.held ≡ world.held → version_settled did.1 ≡ None → HoldsBy world actor did
unsettled world actor did same none worker lt =
    ap (λ held. slice_index_or held worker 0) same
    ∙ none_by (actor_same actor (Worker worker)) (version_settled did.1) (version_held world worker) none

-- no settle is answered
abbrev pub SettlesNothing : Answer → Type 0
SettlesNothing answer = version_settled answer ≡ None

pub answers_settle : HoldsOfAnswers SettlesNothing
answers_settle = record {
  managed = record { ignored = refl; done = refl; moved = λ requests. refl; replied = λ requests verdicts. refl };
  in_use = refl;
  not_open = refl;
  no_listener = refl;
  no_chain = refl;
  on = λ listener chain way. refl;
}

set_by : (held : List ℕ) (settler worker value : ℕ) (same : Bool) → (settler == worker) ≡ same → worker < length held
    → slice_index_or (slice_set held settler value) worker 0 ≡ unwrap_or (cond same (Some value) None) (slice_index_or held worker 0)
set_by held settler worker value true is lt =
    let same : settler ≡ worker = (numbers_decide settler worker).0 is in
    ap (λ place. slice_index_or (slice_set held place value) worker 0) same ∙ get_or-set_same held worker value 0 lt
set_by held settler worker value false isnt lt =
    get_or-set_other held settler worker value 0 (λ same. false≢true (sym isnt ∙ (numbers_decide settler worker).1 (sym same)))

settle_holds : (world : World) (actor : Actor) (settler : ℕ) → actor ≡ Worker settler → HoldsBy world actor (settle settler world)
settle_holds world actor settler is worker lt =
    set_by world.held settler worker (last_version world) (settler == worker) refl lt
    ∙ ap (λ (a : Actor). unwrap_or (cond (actor_same a (Worker worker)) (Some (last_version world)) None) (version_held world worker)) (sym is)

-- what each worker holds after an event is the version on which it settles by it, or what it held
pub step-settled : (format : Format) (world : World) (actor : Actor) (event : Event) → HoldsBy world actor (step format world actor event)
step-settled format world actor event = step-holds (HoldsBy world actor) format world actor event (record {
  ignored = unsettled world actor (world, Ignored) refl refl;
  managed = λ event is. unsettled world actor (step format world actor event) (same_seen format world actor event is).held
      (managed_answer SettlesNothing answers_settle.managed format world actor event is);
  published = cond_both (shown_same (shown_of world) (shown_at world (last_version world))) (world, Unchanged)
      (record world { pictures = world.pictures ++ shown_of world ∷ [] }, Version (length world.pictures)) (HoldsBy world actor)
      (λ same. unsettled world actor (world, Unchanged) refl refl)
      (λ new. unsettled world actor (record world { pictures = world.pictures ++ shown_of world ∷ [] }, Version (length world.pictures)) refl refl);
  reaped = unsettled world actor (reap format world) refl refl;
  accepted = λ ask worker is. unsettled world actor (accept ask worker world) refl
      (accepted_answer SettlesNothing answers_settle (picture_held world worker) ask worker world.opened);
  closed = λ connection worker is. unsettled world actor (close connection worker world) refl
      (closed_answer SettlesNothing answers_settle connection worker world.opened);
  settled = λ worker is. settle_holds world actor worker is;
})

-- an entry keeps that each worker holds the version on which it has settled last
pub settled_next : (told : Told) (k : ℕ) (entry : Entry) → IsEntryAt told k entry → IsAnswered told k entry
    → length (world_told told k).held ≡ told.workers → HoldsSettled told k → HoldsSettled told (k + 1)
settled_next told k entry there answered workers settled worker lt =
    ap (λ (w : World). version_held w worker) (world_next told k entry there)
    ∙ step-settled told.format (world_told told k) entry.actor entry.event worker (subst (λ n. worker < n) (sym workers) lt)
    ∙ ap (λ (answer : Answer). settles_to entry.actor worker answer (version_held (world_told told k) worker)) (sym answered.answer)
    ∙ ap (λ held. settles_to entry.actor worker entry.answer held) (settled worker lt)
    ∙ sym (last_settled-more (take k told.journal) entry (Worker worker))
    ∙ ap (λ (entries : List Entry). last_settled entries (Worker worker)) (sym (take_one told.journal k entry there))

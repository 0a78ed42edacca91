-- Connections go only to warmed generations: an accept names what the picture shows that its worker holds.
use Rattle.std.proofs.Common.{◌≡◌, ℕ, ◌<◌, true, ◌==◌, length, take, sym, ap, ◌∙◌, subst, arith}
use Rattle.std.proofs.lemmas.Bool.{false≢true, cond_both, or_left, or_right}
use Rattle.std.proofs.lemmas.Option.{slice_get_within}
use Rattle.ev_types.specs.Events.{MayMake}
use Rattle.ev_types.specs.declared.events.Actor.{Actor}
use Rattle.ev_types.specs.declared.events.Actor.TheVariants.{Stream, Health as health_checker, Timer, Main, Worker}
use Rattle.ev_types.specs.declared.events.Answer.TheVariants.{InUse}
use Rattle.ev_types.specs.declared.events.Ask.{Ask}
use Rattle.ev_types.specs.declared.events.Entry.{Entry}
use Rattle.ev_types.specs.declared.events.Event.{Event}
use Rattle.ev_types.specs.declared.events.Event.TheVariants.{Accept}
use Rattle.ev_model.specs.declared.pictures.Picture.{Picture}
use Rattle.ev_model.specs.declared.pictures.Choice.{Choice}
use Rattle.ev_model.specs.declared.pictures.Choice.TheVariants.{NoListener, NoChain, On}
use Rattle.ev_model.specs.World.{World}
use Rattle.ev_model.specs.Picture.{is_shown}
use Rattle.ev_model.specs.Dead.{shown_at, version_held, picture_held, is_forwarded_to}
use Rattle.ev_model.specs.Choice.{choice_of}
use Rattle.ev_model.specs.Connections.{Worked, is_open, cluster_on, way_of, answer_of, opened_by, accept}
use Rattle.ev_model.specs.Step.{step}
use Rattle.ev_model.specs.Entries.{cluster_named_by, names_row, is_accept, last_settled}
use Rattle.ev_model.specs.Laws.{Told, world_told, WasWarm, Warmed}
use Rattle.ev_model_laws.specs.Kept.{HasParts}
use Rattle.ev_model_laws.proofs.AnyLemmas.{or_so}
use Rattle.ev_model_laws.proofs.ChoiceLemmas.{ShowsChosen, choice_shown, taken_shown, way_names}
use Rattle.ev_model_laws.proofs.PlaceLemmas.{Runs, IsAnswered, entry_answered}
use Rattle.ev_model_laws.proofs.RunParts.{parts_kept}

-- an answer names generations that are chosen
chosen_names : (picture : Picture) (number : ℕ) (choice : Choice) → ShowsChosen picture.shown choice
    → names_row number (answer_of picture choice) ≡ true → is_shown number picture.shown ≡ true
chosen_names picture number NoListener chosen names = absurd (false≢true names)
chosen_names picture number NoChain chosen names = absurd (false≢true names)
chosen_names picture number (On listener chain origin course) chosen names =
    taken_shown picture.shown number listener origin course chosen
    (or_so (listener == number) (is_forwarded_to number (cluster_named_by (way_of picture course)))
    (λ same. or_left (listener == number) (is_forwarded_to number (cluster_on course)) same)
    (λ named. or_right (listener == number) (is_forwarded_to number (cluster_on course)) (way_names picture number course named)) names)

-- what an accept names is shown by the picture that its worker holds
pub accept_names : (world : World) (ask : Ask) (worker number : ℕ) → names_row number (accept ask worker world).1 ≡ true
    → is_shown number (shown_at world (version_held world worker)) ≡ true
accept_names world ask worker number =
    let picture : Picture = picture_held world worker in
    cond_both (is_open world.opened worker ask.conn) (record { opened = world.opened; answer = InUse })
    (opened_by picture worker ask.conn (choice_of picture ask) world.opened)
    (λ (worked : Worked). names_row number worked.answer ≡ true → is_shown number picture.shown ≡ true)
    (λ was names. absurd (false≢true names))
    (λ new names. chosen_names picture number (choice_of picture ask) (choice_shown picture ask) names)

-- what the accept of a worker has named is shown by the picture of the version on which the worker has settled last
accepted_shown : (told : Told) (k number : ℕ) (actor : Actor) (event : Event) → MayMake told.workers actor event → is_accept event ≡ true
    → HasParts told k → names_row number (step told.format (world_told told k) actor event).1 ≡ true
    → is_shown number (shown_at (world_told told k) (last_settled (take k told.journal) actor)) ≡ true
accepted_shown told k number (Worker worker) (Accept ask) may is parts names =
    ap (λ version. is_shown number (shown_at (world_told told k) version)) (sym (parts.settled worker may))
    ∙ accept_names (world_told told k) ask worker number names
accepted_shown told k number Stream (Accept ask) may is parts names = absurd may
accepted_shown told k number health_checker (Accept ask) may is parts names = absurd may
accepted_shown told k number Timer (Accept ask) may is parts names = absurd may
accepted_shown told k number Main (Accept ask) may is parts names = absurd may
accepted_shown told k number actor event may is parts names = absurd (false≢true is)

-- connections go only to warmed generations
pub runs_warmed : (told : Told) → Runs told → Warmed told
runs_warmed told run k worker number accepts =
    let entry : Entry = accepts.entry in
    let within : k < length told.journal = slice_get_within told.journal k entry accepts.there in
    let parts : HasParts told k = parts_kept told run k (omega arith) in
    let answered : IsAnswered told k entry = entry_answered told k entry run accepts.there in
    subst (λ (actor : Actor). WasWarm told number (last_settled (take k told.journal) actor) k) accepts.by
    (parts.shows (last_settled (take k told.journal) entry.actor) number
    (accepted_shown told k number entry.actor entry.event answered.may accepts.accept parts
    (ap (names_row number) (sym answered.answer) ∙ accepts.names)))

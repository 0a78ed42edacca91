use Rattle.std.proofs.Common.{◌≡◌, Bool, false, List, [], ◌∷◌, ◌||◌, ap, sym, ◌∙◌, refl}
use Rattle.std.specs.List.{list_any}
use Rattle.ev_types.specs.declared.events.Actor.{Actor}
use Rattle.ev_types.specs.declared.events.Actor.TheVariants.{Stream, Health, Timer, Main}
use Rattle.ev_model.specs.Operations.{is_held_by}
use Rattle.ev_model.specs.World.{OpenMember}
use Rattle.ev_audit.proofs.steps.has_open.Goals as goal

none_of : (p : OpenMember → Bool) → ((m : OpenMember) → p m ≡ false) → (ms : List OpenMember) → list_any p ms ≡ false
none_of p none [] = refl
none_of p none (m ∷ ms) = ap (λ b. b || list_any p ms) (none m) ∙ none_of p none ms

held_by : (actor other : Actor) (ms : List OpenMember) → actor ≡ other → ((m : OpenMember) → is_held_by other m ≡ false) → false ≡ list_any (is_held_by actor) ms
held_by actor other ms is none = sym (ap (λ a. list_any (is_held_by a) ms) is ∙ none_of (is_held_by other) none ms)

pub returns-in-Stream : goal.returns-in-Stream
returns-in-Stream c = λ world at. held_by c.args.actor Stream world.opened c.in-Stream.is (λ m. refl)

pub returns-in-Health : goal.returns-in-Health
returns-in-Health c = λ world at. held_by c.args.actor Health world.opened c.in-Health.is (λ m. refl)

pub returns-in-Timer : goal.returns-in-Timer
returns-in-Timer c = λ world at. held_by c.args.actor Timer world.opened c.in-Timer.is (λ m. refl)

pub returns-in-Main : goal.returns-in-Main
returns-in-Main c = λ world at. held_by c.args.actor Main world.opened c.in-Main.is (λ m. refl)

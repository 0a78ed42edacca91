use Rattle.std.proofs.Common.{◌≡◌, ◌∙◌, ℕ, List, Some, refl, sym, subst}
use Rattle.std.specs.Prelude.{IfOk}
use Rattle.ev_types.specs.declared.contents.Kind.{Kind}
use Rattle.ev_types.specs.declared.contents.Kind.TheVariants.{Cds, Lds}
use Rattle.ev_types.specs.declared.events.Answer.{Answer}
use Rattle.ev_model.specs.Signals.{fetch_timeout, name_timeout}
use Rattle.ev_model.specs.World.{World}
use Rattle.ev_managers.specs.declared.moved.Moved.{Moved}
use Rattle.ev_state.specs.States.{StepBy}
use Rattle.ev_state.proofs.state.State.fetch_timeout.Goals as goal

-- of what is asked for by name
timed : (kind : Kind) → (kind ≡ Cds → ⊥) → (kind ≡ Lds → ⊥) → (name : List ℕ) (world : World) → name_timeout kind name world ≡ fetch_timeout kind (Some name) world
timed Cds clusters listeners name world = absurd (clusters refl)
timed Lds clusters listeners name world = absurd (listeners refl)
timed kind clusters listeners name world = refl

pub returns-in_default-Some : goal.returns-in_default-Some
returns-in_default-Some g c =
    let kind = c.timeout.inside.kind in
    let name = c.in_default-Some.name in
    let same : (world : World) → name_timeout kind name world ≡ fetch_timeout c.args.timeout.now.kind c.args.timeout.now.name world =
    λ world.
    timed kind c.in_default-Some.not-Cds-0 c.in_default-Some.not-Lds-0 name world
    ∙ (λ i. fetch_timeout kind (sym c.in_default-Some.is-1 i) world)
    ∙ (λ i. fetch_timeout (c.timeout.view_is i).kind (c.timeout.view_is i).name world) in
    subst (λ (change : World → World × Answer). IfOk c.name_timeout.result (λ (told : Answer × Moved). StepBy change c.args.self.now c.name_timeout.new.self told.0 told.1))
    (λ i world. same world i) c.name_timeout.ensures

-- What the end of a name does to the world.
use Rattle.std.proofs.Common.{◌≡◌, List, ℕ, true, false, None, Some, refl, sym, ap}
use Rattle.std.proofs.lemmas.Bool.{false≢true}
use Rattle.ev_types.specs.Kinds.{is_by_name}
use Rattle.ev_types.specs.declared.contents.Content.{Content}
use Rattle.ev_types.specs.declared.contents.Kind.{Kind}
use Rattle.ev_types.specs.declared.contents.Kind.TheVariants.{Cds, Eds, Lds, Rds}
use Rattle.ev_types.specs.declared.rows.Arrival.TheVariants.{Ended}
use Rattle.ev_model.specs.World.{World}
use Rattle.ev_model.specs.Signals.{with_end}
use Rattle.ev_warming.specs.Arrivals.{with_arrived}
use Rattle.ev_warming.specs.Worlds.{with_rows_ended}
use Rattle.ev_managers.specs.Managers.{last_value}

of_some : {a b : Content} → Some a ≡ Some b → a ≡ b
of_some h = cc

-- a cluster or listener has come to its end
pub rows-end : (kind : Kind) (name : List ℕ) (world : World) → is_by_name kind ≡ false → with_rows_ended kind name world ≡ with_end kind name world
rows-end Cds name world rows = refl
rows-end Lds name world rows = refl
rows-end kind name world rows = absurd (false≢true (sym rows))

-- endpoints or routes have come to their end
pub value-end : (kind : Kind) (name : List ℕ) (world : World) (value : Content) → last_value kind ≡ Some value → with_arrived kind (Ended value) name world ≡ with_end kind name world
value-end Eds name world value is = ap (λ (v : Content). with_arrived Eds (Ended v) name world) (of_some (sym is))
value-end Rds name world value is = ap (λ (v : Content). with_arrived Rds (Ended v) name world) (of_some (sym is))
value-end kind name world value is = cc

-- a secret or an extension has
pub value-stays : (kind : Kind) (name : List ℕ) (world : World) → is_by_name kind ≡ true → last_value kind ≡ None → world ≡ with_end kind name world
value-stays Cds name world by_name none = absurd (false≢true by_name)
value-stays Eds name world by_name none = cc
value-stays Lds name world by_name none = absurd (false≢true by_name)
value-stays Rds name world by_name none = cc
value-stays kind name world by_name none = refl

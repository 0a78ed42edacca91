-- The profiles in which resources are read.
use Rattle.std.specs.Prelude.{Bool, true, false}
use Rattle.ev_types.specs.declared.events.Profile.{Profile}
use Rattle.ev_types.specs.declared.events.Profile.TheVariants.{Own, Envoy}

-- resources are read as Envoy reads them
abbrev pub is_envoy : Profile → Bool
is_envoy Own = false
is_envoy Envoy = true

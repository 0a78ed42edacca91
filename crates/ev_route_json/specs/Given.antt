-- Which actions of a route are given, as its reader holds them.
use Rattle.std.specs.Prelude.{◌||◌, [], ◌∷◌, Bool, not}
use Rattle.ev_types.specs.declared.events.Profile.{Profile}
use Rattle.ev_types.specs.declared.events.Profile.TheVariants.{Own, Envoy}
use Rattle.ev_tree.specs.Counts.{exactly_one}
use Rattle.ev_route_json.specs.declared.routes.GivenActions.{GivenActions}

-- not exactly one action that the profile knows
abbrev pub actions_are_bad_by : Profile → GivenActions → Bool
actions_are_bad_by Own given = not (exactly_one (given.forward ∷ given.redirect ∷ given.direct ∷ [])) || (given.filter || given.stay)
actions_are_bad_by Envoy given = not (exactly_one (given.forward ∷ given.redirect ∷ given.direct ∷ given.filter ∷ given.stay ∷ []))

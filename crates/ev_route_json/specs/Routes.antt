-- Routes of a virtual host (`envoy.config.route.v3.Route`):
-- a match and an action, by this project's own rules and as Envoy reads them.
use Rattle.std.specs.Prelude.{ℕ, ◌||◌, ◌&&◌, List, [], ◌∷◌, Bool, not, nat_le, if◌then◌else◌, codes}
use Rattle.serde_json.specs.Data.{Data}
use Rattle.ev_types.specs.declared.events.Profile.{Profile}
use Rattle.ev_types.specs.declared.events.Profile.TheVariants.{Own, Envoy}
use Rattle.ev_types.specs.declared.routes.Action.{Action}
use Rattle.ev_types.specs.declared.routes.Action.TheVariants.{Forward, Redirect, Local, Elsewhere}
use Rattle.ev_types.specs.declared.routes.Target.{Target}
use Rattle.ev_types.specs.declared.routes.Route.{Route}
use Rattle.ev_tree.specs.declared.broken.BrokenRules.{BrokenRules}
use Rattle.ev_tree.specs.Broken.{none_broken, either_broken, broken_where}
use Rattle.ev_tree.specs.Forms.{is_wrong, is_given, given_or, inside, number_of, object_of}
use Rattle.ev_route_json.specs.declared.routes.TheConstants.{MIN_STATUS, MAX_STATUS}
use Rattle.ev_tree.specs.Counts.{exactly_one}
use Rattle.ev_route_json.specs.Targets.{target_in, target_broken_in}
use Rattle.ev_route_json.specs.Conditions.{match_in, match_broken_in}

-- ---- the action

-- the tree of `route`, which has the target
unfoldable pub forward_of : Data → Data
forward_of route = inside (object_of (codes "route") route)

-- the status of a direct response: 0 where none is given
unfoldable pub status_of : Data → ℕ
status_of route = given_or 0 (number_of (codes "status") (inside (object_of (codes "direct_response") route)))

-- a status that a response can have
abbrev pub is_status : ℕ → Bool
is_status status = nat_le MIN_STATUS status && nat_le status MAX_STATUS

abbrev pub status_or_none : ℕ → ℕ
status_or_none status = if is_status status then status else 0

-- a filter does with a request what no script tells
abbrev pub is_by_filter : Data → Bool
is_by_filter route = is_given (object_of (codes "filter_action") route) || is_given (object_of (codes "non_forwarding_action") route)

-- the actions that both profiles know, and whether each is given
abbrev pub known_actions : Data → List Bool
known_actions route =
    is_given (object_of (codes "route") route) ∷ is_given (object_of (codes "redirect") route)
    ∷ is_given (object_of (codes "direct_response") route) ∷ []

-- all actions
abbrev pub all_actions : Data → List Bool
all_actions route =
    is_given (object_of (codes "route") route) ∷ is_given (object_of (codes "redirect") route)
    ∷ is_given (object_of (codes "direct_response") route) ∷ is_given (object_of (codes "filter_action") route)
    ∷ is_given (object_of (codes "non_forwarding_action") route) ∷ []

-- not exactly one action that the profile knows
abbrev pub actions_are_bad : Profile → Data → Bool
actions_are_bad Own route = not (exactly_one (known_actions route)) || is_by_filter route
actions_are_bad Envoy route = not (exactly_one (all_actions route))

-- What an action breaks: what its target breaks, where it has one, and what it breaks itself. V22: not exactly one
-- action, one that the profile lacks, or a status out of range.
unfoldable pub action_broken : Profile → Data → BrokenRules
action_broken profile route = either_broken (broken_where (is_given (object_of (codes "route") route)) (target_broken_in profile (forward_of route))) (record none_broken {
  v6 =
      is_wrong (object_of (codes "route") route)
      || is_wrong (object_of (codes "redirect") route)
      || is_wrong (object_of (codes "direct_response") route)
      || is_wrong (object_of (codes "filter_action") route)
      || is_wrong (object_of (codes "non_forwarding_action") route)
      || is_wrong (number_of (codes "status") (inside (object_of (codes "direct_response") route)));
  v22 =
      actions_are_bad profile route
      || (is_given (object_of (codes "direct_response") route) && not (is_status (status_of route)));
})

-- the action of what is given; one by a filter breaks V22 by the own rules, so it shows only as Envoy reads it
abbrev pub action_with : Bool → Bool → Bool → Target → ℕ → Action
action_with forwards responds by_filter target status =
    if forwards then Forward target
    else if responds then Local (status_or_none status)
    else if by_filter then Elsewhere
    else Redirect

unfoldable pub action_of : Profile → Data → Action
action_of profile route =
    action_with (is_given (object_of (codes "route") route)) (is_given (object_of (codes "direct_response") route)) (is_by_filter route)
    (target_in profile (forward_of route)) (status_of route)

-- ---- a route

-- the tree of `match`. One that is missing has no kind of match, so it breaks V21.
unfoldable pub match_of : Data → Data
match_of route = inside (object_of (codes "match") route)

-- what a route breaks: what its match and its action break, and what it breaks itself
unfoldable pub route_broken : Profile → Data → BrokenRules
route_broken profile route =
    either_broken (match_broken_in profile (match_of route))
    (either_broken (action_broken profile route) (record none_broken { v6 = is_wrong (object_of (codes "match") route) }))

unfoldable pub route_of : Profile → Data → Route
route_of profile route = record { route_match = match_in profile (match_of route); action = action_of profile route }

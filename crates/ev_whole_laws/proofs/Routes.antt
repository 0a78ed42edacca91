-- Routes of a virtual host.
use Rattle.std.proofs.Common.{◌≡◌, ◌∙◌, ap}
use Rattle.std.specs.Prelude.{◌||◌, ◌&&◌, [], ◌∷◌, not, codes}
use Rattle.serde_json.specs.Data.{Data}
use Rattle.ev_types.specs.declared.events.Profile.{Profile}
use Rattle.ev_types.specs.declared.events.Profile.TheVariants.{Own, Envoy}
use Rattle.ev_tree.specs.Broken.{none_broken, either_broken, broken_where}
use Rattle.ev_tree.specs.Forms.{is_wrong, given_or, inside, number_of, object_of}
use Rattle.ev_tree.specs.Counts.{exactly_one}
use Rattle.ev_route_json.specs.Targets.{target_in, target_broken_in}
use Rattle.ev_route_json.specs.Conditions.{match_in, match_broken_in}
use Rattle.ev_route_json.specs.Routes.{forward_of, status_of, is_status, is_by_filter, known_actions, all_actions, actions_are_bad, action_broken, action_with, action_of, match_of, route_broken, route_of}
use Rattle.ev_tree.specs.Floats.{whole}
use Rattle.ev_whole_laws.proofs.Forms.{inside-object, number_of-whole, object-is_given, object-is_wrong}
use Rattle.ev_whole_laws.proofs.Conditions.{match_broken_in-whole, match_in-whole}
use Rattle.ev_whole_laws.proofs.Targets.{target_broken_in-whole, target_in-whole}

pub forward_of-whole : (route : Data) → forward_of (whole route) ≡ whole (forward_of route)
unfolding forward_of
forward_of-whole route = inside-object (codes "route") route

pub status_of-whole : (route : Data) → status_of (whole route) ≡ status_of route
unfolding status_of
status_of-whole route = λ i. given_or 0 ((ap (number_of (codes "status")) (inside-object (codes "direct_response") route) ∙ number_of-whole (codes "status") (inside (object_of (codes "direct_response") route))) i)

is_by_filter-whole : (route : Data) → is_by_filter (whole route) ≡ is_by_filter route
is_by_filter-whole route = λ i. object-is_given (codes "filter_action") route i || object-is_given (codes "non_forwarding_action") route i

known_actions-whole : (route : Data) → known_actions (whole route) ≡ known_actions route
known_actions-whole route = λ i.
    object-is_given (codes "route") route i ∷ object-is_given (codes "redirect") route i
    ∷ object-is_given (codes "direct_response") route i ∷ []

all_actions-whole : (route : Data) → all_actions (whole route) ≡ all_actions route
all_actions-whole route = λ i.
    object-is_given (codes "route") route i ∷ object-is_given (codes "redirect") route i
    ∷ object-is_given (codes "direct_response") route i ∷ object-is_given (codes "filter_action") route i
    ∷ object-is_given (codes "non_forwarding_action") route i ∷ []

actions_are_bad-whole : (profile : Profile) (route : Data) → actions_are_bad profile (whole route) ≡ actions_are_bad profile route
actions_are_bad-whole Own route = λ i. not (exactly_one (known_actions-whole route i)) || is_by_filter-whole route i
actions_are_bad-whole Envoy route = λ i. not (exactly_one (all_actions-whole route i))

pub action_broken-whole : (profile : Profile) (route : Data) → action_broken profile (whole route) ≡ action_broken profile route
unfolding action_broken
action_broken-whole profile route = λ i. either_broken (broken_where (object-is_given (codes "route") route i) ((ap (target_broken_in profile) (forward_of-whole route) ∙ target_broken_in-whole profile (forward_of route)) i)) (record none_broken {
  v6 =
      object-is_wrong (codes "route") route i
      || object-is_wrong (codes "redirect") route i
      || object-is_wrong (codes "direct_response") route i
      || object-is_wrong (codes "filter_action") route i
      || object-is_wrong (codes "non_forwarding_action") route i
      || is_wrong ((ap (number_of (codes "status")) (inside-object (codes "direct_response") route) ∙ number_of-whole (codes "status") (inside (object_of (codes "direct_response") route))) i);
  v22 =
      actions_are_bad-whole profile route i
      || (object-is_given (codes "direct_response") route i && not (is_status (status_of-whole route i)));
})

pub action_of-whole : (profile : Profile) (route : Data) → action_of profile (whole route) ≡ action_of profile route
unfolding action_of
action_of-whole profile route = λ i.
    action_with (object-is_given (codes "route") route i) (object-is_given (codes "direct_response") route i) (is_by_filter-whole route i)
    ((ap (target_in profile) (forward_of-whole route) ∙ target_in-whole profile (forward_of route)) i) (status_of-whole route i)

pub match_of-whole : (route : Data) → match_of (whole route) ≡ whole (match_of route)
unfolding match_of
match_of-whole route = inside-object (codes "match") route

pub route_broken-whole : (profile : Profile) (route : Data) → route_broken profile (whole route) ≡ route_broken profile route
unfolding route_broken
route_broken-whole profile route = λ i.
    either_broken ((ap (match_broken_in profile) (match_of-whole route) ∙ match_broken_in-whole profile (match_of route)) i)
    (either_broken (action_broken-whole profile route i) (record none_broken { v6 = object-is_wrong (codes "match") route i }))

pub route_of-whole : (profile : Profile) (route : Data) → route_of profile (whole route) ≡ route_of profile route
unfolding route_of
route_of-whole profile route = λ i. record {
  route_match = (ap (match_in profile) (match_of-whole route) ∙ match_in-whole profile (match_of route)) i;
  action = action_of-whole profile route i;
}

-- HTTP connection managers.
use Rattle.std.proofs.Common.{◌≡◌, ◌∙◌, ap}
use Rattle.std.specs.Prelude.{◌||◌, ◌&&◌, [], not, codes}
use Rattle.serde_json.specs.Data.{Data}
use Rattle.ev_types.specs.declared.events.Profile.{Profile}
use Rattle.ev_types.specs.declared.events.Profile.TheVariants.{Own, Envoy}
use Rattle.ev_types.specs.Profiles.{is_envoy}
use Rattle.ev_tree.specs.Forms.{is_wrong, given_or, inside, text_of, object_of}
use Rattle.ev_tree.specs.Rules.{is_name}
use Rattle.ev_tree.specs.Broken.{none_broken, either_broken, broken_where}
use Rattle.ev_tree.specs.Sources.{source_broken_in, source_is_limited}
use Rattle.ev_route_json.specs.Tables.{table_of, table_broken}
use Rattle.ev_listener_json.specs.Managers.{rds_of, rds_source_of, route_name_of, inline_of, has_scopes, are_scopes_wrong, ways_are_bad, manager_broken, is_scoped, serve_with, manager_serve}
use Rattle.ev_tree.specs.Floats.{whole}
use Rattle.ev_whole_laws.proofs.Forms.{field-is_given, field-is_wrong, inside-object, object-is_given, object-is_wrong, text_of-whole}
use Rattle.ev_whole_laws.proofs.Sources.{source_broken_in-whole, source_is_limited-whole}
use Rattle.ev_whole_laws.proofs.Tables.{table_broken-whole, table_of-whole}

pub rds_of-whole : (manager : Data) → rds_of (whole manager) ≡ whole (rds_of manager)
unfolding rds_of
rds_of-whole manager = inside-object (codes "rds") manager

pub rds_source_of-whole : (manager : Data) → rds_source_of (whole manager) ≡ whole (rds_source_of manager)
unfolding rds_source_of
rds_source_of-whole manager = ap (λ (t : Data). inside (object_of (codes "config_source") t)) (rds_of-whole manager) ∙ inside-object (codes "config_source") (rds_of manager)

pub route_name_of-whole : (manager : Data) → route_name_of (whole manager) ≡ route_name_of manager
unfolding route_name_of
route_name_of-whole manager = λ i. given_or [] ((ap (text_of (codes "route_config_name")) (rds_of-whole manager) ∙ text_of-whole (codes "route_config_name") (rds_of manager)) i)

pub inline_of-whole : (manager : Data) → inline_of (whole manager) ≡ whole (inline_of manager)
unfolding inline_of
inline_of-whole manager = inside-object (codes "route_config") manager

has_scopes-whole : (profile : Profile) (manager : Data) → has_scopes profile (whole manager) ≡ has_scopes profile manager
has_scopes-whole Own manager = field-is_given (codes "scoped_routes") manager
has_scopes-whole Envoy manager = object-is_given (codes "scoped_routes") manager

are_scopes_wrong-whole : (profile : Profile) (manager : Data) → are_scopes_wrong profile (whole manager) ≡ are_scopes_wrong profile manager
are_scopes_wrong-whole Own manager = field-is_wrong (codes "scoped_routes") manager
are_scopes_wrong-whole Envoy manager = object-is_wrong (codes "scoped_routes") manager

pub manager_broken-whole : (profile : Profile) (manager : Data) → manager_broken profile (whole manager) ≡ manager_broken profile manager
unfolding manager_broken
manager_broken-whole profile manager = λ i. either_broken ((ap (table_broken profile) (inline_of-whole manager) ∙ table_broken-whole profile (inline_of manager)) i) (either_broken (broken_where (object-is_given (codes "rds") manager i) ((ap (source_broken_in profile) (rds_source_of-whole manager) ∙ source_broken_in-whole profile (rds_source_of manager)) i)) (record none_broken {
  v2 = object-is_given (codes "rds") manager i && not (is_wrong ((ap (text_of (codes "route_config_name")) (rds_of-whole manager) ∙ text_of-whole (codes "route_config_name") (rds_of manager)) i)) && not (is_name (route_name_of-whole manager i));
  v6 =
      object-is_wrong (codes "rds") manager i
      || (ap (λ (t : Data). is_wrong (object_of (codes "config_source") t)) (rds_of-whole manager) ∙ object-is_wrong (codes "config_source") (rds_of manager)) i
      || is_wrong ((ap (text_of (codes "route_config_name")) (rds_of-whole manager) ∙ text_of-whole (codes "route_config_name") (rds_of manager)) i)
      || object-is_wrong (codes "route_config") manager i
      || are_scopes_wrong-whole profile manager i;
  v18 =
      ways_are_bad profile (object-is_given (codes "rds") manager i) (object-is_given (codes "route_config") manager i)
      (has_scopes-whole profile manager i);
}))

is_scoped-whole : (profile : Profile) (manager : Data) → is_scoped profile (whole manager) ≡ is_scoped profile manager
is_scoped-whole profile manager = λ i. is_envoy profile && has_scopes-whole profile manager i

pub manager_serve-whole : (profile : Profile) (manager : Data) → manager_serve profile (whole manager) ≡ manager_serve profile manager
unfolding manager_serve
manager_serve-whole profile manager = λ i.
    serve_with (object-is_given (codes "rds") manager i) (route_name_of-whole manager i)
    ((ap source_is_limited (rds_source_of-whole manager) ∙ source_is_limited-whole (rds_source_of manager)) i)
    (is_scoped-whole profile manager i) ((ap (table_of profile) (inline_of-whole manager) ∙ table_of-whole profile (inline_of manager)) i)

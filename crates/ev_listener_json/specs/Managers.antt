-- HTTP connection managers
-- (`envoy.extensions.filters.network.http_connection_manager.v3.HttpConnectionManager`): their routes come by
-- the route discovery service (`rds`), or are given in them (`route_config`).
use Rattle.std.specs.Prelude.{ℕ, ◌||◌, ◌&&◌, List, [], ◌∷◌, Bool, not, if◌then◌else◌, codes}
use Rattle.serde_json.specs.Data.{Data}
use Rattle.ev_types.specs.declared.listeners.Serve.{Serve}
use Rattle.ev_types.specs.declared.listeners.Serve.TheVariants.{Rds, Inline, Other}
use Rattle.ev_types.specs.declared.events.Profile.{Profile}
use Rattle.ev_types.specs.declared.events.Profile.TheVariants.{Own, Envoy}
use Rattle.ev_types.specs.Profiles.{is_envoy}
use Rattle.ev_types.specs.declared.routes.RouteTable.{RouteTable}
use Rattle.ev_tree.specs.declared.broken.BrokenRules.{BrokenRules}
use Rattle.ev_tree.specs.Forms.{is_wrong, is_given, given_or, inside, field_of, text_of, object_of}
use Rattle.ev_tree.specs.Rules.{is_name}
use Rattle.ev_tree.specs.Broken.{none_broken, either_broken, broken_where}
use Rattle.ev_tree.specs.Sources.{source_broken_in, source_is_limited}
use Rattle.ev_tree.specs.Counts.{exactly_one}
use Rattle.ev_route_json.specs.Tables.{table_of, table_broken}

-- what a connection manager says of routes that are asked for
unfoldable pub rds_of : Data → Data
rds_of manager = inside (object_of (codes "rds") manager)

-- where the routes that are asked for come from
unfoldable pub rds_source_of : Data → Data
rds_source_of manager = inside (object_of (codes "config_source") (rds_of manager))

-- the name of the routes that are asked for
unfoldable pub route_name_of : Data → List ℕ
route_name_of manager = given_or [] (text_of (codes "route_config_name") (rds_of manager))

-- the routes given in the manager: none where no `route_config` is given
unfoldable pub inline_of : Data → Data
inline_of manager = inside (object_of (codes "route_config") manager)

-- by the own rules `scoped_routes` counts as given in any form, and is refused;
-- as Envoy reads it, it is an object, and a third way
abbrev pub has_scopes : Profile → Data → Bool
has_scopes Own manager = is_given (field_of (codes "scoped_routes") manager)
has_scopes Envoy manager = is_given (object_of (codes "scoped_routes") manager)

abbrev pub are_scopes_wrong : Profile → Data → Bool
are_scopes_wrong Own manager = is_wrong (field_of (codes "scoped_routes") manager)
are_scopes_wrong Envoy manager = is_wrong (object_of (codes "scoped_routes") manager)

-- not exactly one way to routes that the profile knows
abbrev pub ways_are_bad : Profile → Bool → Bool → Bool → Bool
ways_are_bad Own asks inline scoped = not (exactly_one (asks ∷ inline ∷ [])) || scoped
ways_are_bad Envoy asks inline scoped = not (exactly_one (asks ∷ inline ∷ scoped ∷ []))

-- What a connection manager breaks: what the routes that stand in it break, what the source breaks of those that are
-- asked for, and what it breaks itself. V2: the routes that are asked for have no name, or one over 512 bytes; one of a
-- wrong form is V6 alone. V18: not exactly one way to routes that the profile knows.
unfoldable pub manager_broken : Profile → Data → BrokenRules
manager_broken profile manager = either_broken (table_broken profile (inline_of manager)) (either_broken (broken_where (is_given (object_of (codes "rds") manager)) (source_broken_in profile (rds_source_of manager))) (record none_broken {
  v2 =
      is_given (object_of (codes "rds") manager)
      && not (is_wrong (text_of (codes "route_config_name") (rds_of manager)))
      && not (is_name (route_name_of manager));
  v6 =
      is_wrong (object_of (codes "rds") manager)
      || is_wrong (object_of (codes "config_source") (rds_of manager))
      || is_wrong (text_of (codes "route_config_name") (rds_of manager))
      || is_wrong (object_of (codes "route_config") manager)
      || are_scopes_wrong profile manager;
  v18 =
      ways_are_bad profile (is_given (object_of (codes "rds") manager)) (is_given (object_of (codes "route_config") manager))
      (has_scopes profile manager);
}))

-- the routes are found by scopes, which aren't read
abbrev pub is_scoped : Profile → Data → Bool
is_scoped profile manager = is_envoy profile && has_scopes profile manager

-- the routes of this name, where one is asked for, else something that isn't read,
-- or the routes that stand in the manager
abbrev pub serve_with : Bool → List ℕ → Bool → Bool → RouteTable → Serve
serve_with asks name limited scoped table =
    if asks && is_name name then Rds name limited
    else if scoped then Other
    else Inline table

unfoldable pub manager_serve : Profile → Data → Serve
manager_serve profile manager =
    serve_with (is_given (object_of (codes "rds") manager)) (route_name_of manager) (source_is_limited (rds_source_of manager))
    (is_scoped profile manager) (table_of profile (inline_of manager))

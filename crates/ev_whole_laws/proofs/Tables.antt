-- Route configurations.
use Rattle.std.proofs.Common.{◌≡◌, ◌∙◌, ap}
use Rattle.std.specs.Prelude.{◌||◌, ◌==◌, [], length, map, codes}
use Rattle.serde_json.specs.Data.{Data}
use Rattle.ev_types.specs.declared.events.Profile.{Profile}
use Rattle.ev_tree.specs.Forms.{is_wrong, given_or, listed, text_in, texts_of}
use Rattle.ev_tree.specs.Rules.{judged}
use Rattle.ev_tree.specs.Broken.{none_broken, either_broken, any_broken, least_of}
use Rattle.ev_route_json.specs.Routes.{route_of, route_broken}
use Rattle.ev_route_json.specs.Domains.{repeats_domain}
use Rattle.ev_route_json.specs.Tables.{virtual_host_name, domains_of, routes_of, virtual_host_broken, virtual_host_of, virtual_hosts_of, table_of, table_broken, table_reading}
use Rattle.ev_tree.specs.Floats.{whole}
use Rattle.ev_whole_laws.proofs.Forms.{listed-objects, listed-texts, objects-is_wrong, text_in-whole, text_of-whole, texts-is_wrong}
use Rattle.ev_whole_laws.proofs.Parts.{any_broken-whole, map-whole}
use Rattle.ev_whole_laws.proofs.Routes.{route_broken-whole, route_of-whole}

pub virtual_host_name-whole : (host : Data) → virtual_host_name (whole host) ≡ virtual_host_name host
unfolding virtual_host_name
virtual_host_name-whole host = λ i. given_or [] (text_of-whole (codes "name") host i)

pub domains_of-whole : (host : Data) → domains_of (whole host) ≡ domains_of host
unfolding domains_of
domains_of-whole host = λ i. (ap (map text_in) (listed-texts (codes "domains") host) ∙ map-whole text_in text_in-whole (listed (texts_of (codes "domains") host))) i

pub routes_of-whole : (host : Data) → routes_of (whole host) ≡ map whole (routes_of host)
unfolding routes_of
routes_of-whole host = listed-objects (codes "routes") host

pub virtual_host_broken-whole : (profile : Profile) (host : Data) → virtual_host_broken profile (whole host) ≡ virtual_host_broken profile host
unfolding virtual_host_broken
virtual_host_broken-whole profile host = λ i. either_broken ((ap (any_broken (route_broken profile)) (routes_of-whole host) ∙ any_broken-whole (route_broken profile) (route_broken-whole profile) (routes_of host)) i) (record none_broken {
  v6 =
      is_wrong (text_of-whole (codes "name") host i)
      || texts-is_wrong (codes "domains") host i
      || objects-is_wrong (codes "routes") host i;
  v19 = length (virtual_host_name-whole host i) == 0 || length (domains_of-whole host i) == 0;
})

pub virtual_host_of-whole : (profile : Profile) (host : Data) → virtual_host_of profile (whole host) ≡ virtual_host_of profile host
unfolding virtual_host_of
virtual_host_of-whole profile host = λ i. record {
  name = virtual_host_name-whole host i;
  domains = domains_of-whole host i;
  routes = (ap (map (route_of profile)) (routes_of-whole host) ∙ map-whole (route_of profile) (route_of-whole profile) (routes_of host)) i;
}

pub virtual_hosts_of-whole : (tree : Data) → virtual_hosts_of (whole tree) ≡ map whole (virtual_hosts_of tree)
unfolding virtual_hosts_of
virtual_hosts_of-whole tree = listed-objects (codes "virtual_hosts") tree

pub table_of-whole : (profile : Profile) (tree : Data) → table_of profile (whole tree) ≡ table_of profile tree
unfolding table_of
table_of-whole profile tree = λ i. record {
  hosts = (ap (map (virtual_host_of profile)) (virtual_hosts_of-whole tree) ∙ map-whole (virtual_host_of profile) (virtual_host_of-whole profile) (virtual_hosts_of tree)) i;
}

pub table_broken-whole : (profile : Profile) (tree : Data) → table_broken profile (whole tree) ≡ table_broken profile tree
unfolding table_broken
table_broken-whole profile tree = λ i. either_broken ((ap (any_broken (virtual_host_broken profile)) (virtual_hosts_of-whole tree) ∙ any_broken-whole (virtual_host_broken profile) (virtual_host_broken-whole profile) (virtual_hosts_of tree)) i) (record none_broken {
  v6 = is_wrong (text_of-whole (codes "name") tree i) || objects-is_wrong (codes "virtual_hosts") tree i;
  v20 = repeats_domain ((ap (map (virtual_host_of profile)) (virtual_hosts_of-whole tree) ∙ map-whole (virtual_host_of profile) (virtual_host_of-whole profile) (virtual_hosts_of tree)) i);
})

pub table_reading-whole : (profile : Profile) (tree : Data) → table_reading profile (whole tree) ≡ table_reading profile tree
table_reading-whole profile tree = λ i. judged (least_of (table_broken-whole profile tree i)) (table_of-whole profile tree i)
